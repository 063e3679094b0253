use Rattle.std.proofs.Common.{sym, ◌∙◌, subst, List, ℕ, IsTrue}
use Rattle.bk_base.specs.Genesis.{is_genesis}
use Rattle.bk_frames.specs.Cutting.{frames_in}
use Rattle.bk_follow.proofs.Openings.{is_there, none_is_none, second_early, second_waits, second_opens, taken_genesis}
use Rattle.bk_follow.proofs.opening.open_second.Goals as goal

pub returns-then-is_none : goal.returns-then-is_none
returns-then-is_none c = rw c.requires.none (second_early c.args.opened.now.committee (frames_in c.args.frames.now.items) c.if-is_none.ensures)

pub returns-in_default : goal.returns-in_default
returns-in_default c = rw c.requires.none (second_waits c.args.opened.now.committee c.args.frames.now.items c.take_first.new.frames.items c.if-is_none.ensures c.in_default.ensures)

pub unreachable-unreachable : goal.unreachable-unreachable
unreachable-unreachable c = none_is_none c.args.opened.now.committee c.if-is_none.ensures (sym c.take.ensures.value ∙ c.in_default-take.is)

pub unreachable-requires : goal.unreachable-requires
unreachable-requires c = none_is_none c.args.opened.now.committee c.if-is_none.ensures (sym c.take.ensures.value ∙ c.in_default-take.is)

pub returns : goal.returns
returns c =
    rw (sym c.take.ensures.value ∙ c.in-Some-take.is, c.put_book.ensures) (second_opens c.in-Some-take.committee c.take.new.self c.in-Some.payload.items (frames_in c.args.frames.now.items) (frames_in c.take_first.new.frames.items) c.in_ok-book.book c.in-Some.ensures
    (λ second same. c.in_ok-book.ensures second (same ∙ sym c.deref.ensures.value)))

pub book_of-requires : goal.book_of-requires
book_of-requires c =
    subst (λ (p : List ℕ). IsTrue (is_genesis p)) (sym c.deref.ensures.value)
    (taken_genesis _ (frames_in c.args.frames.now.items) (frames_in c.take_first.new.frames.items) c.in-Some.ensures (c.requires.head (is_there c.args.opened.now.committee c.if-is_none.ensures)))
