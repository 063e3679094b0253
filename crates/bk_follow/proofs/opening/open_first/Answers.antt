use Rattle.std.proofs.Common.{sym, ap, ◌∙◌, subst, List, ℕ, IsTrue}
use Rattle.bk_base.specs.Committee.{is_committee}
use Rattle.bk_frames.specs.Cutting.{frames_in}
use Rattle.bk_committee.specs.Payload.{committee_of}
use Rattle.bk_follow.proofs.Openings.{first_stands, first_waits, first_opens, none_there, taken_committee}
use Rattle.bk_follow.proofs.opening.open_first.Goals as goal

pub returns-then-is_some : goal.returns-then-is_some
returns-then-is_some c = first_stands c.args.version c.args.committee.now (frames_in c.args.frames.now.items) (sym c.if-is_some.ensures)

pub returns-in_default : goal.returns-in_default
returns-in_default c = first_waits c.args.version c.args.committee.now c.args.frames.now.items c.take_first.new.frames.items (sym c.if-is_some.ensures) c.in_default.ensures

pub returns : goal.returns
returns c = first_opens c.args.version c.args.committee.now c.in-Some.payload.items (frames_in c.args.frames.now.items) (frames_in c.take_first.new.frames.items) c.in_ok-committee_of.field-0 (sym c.if-is_some.ensures) c.in-Some.ensures (c.in_ok-committee_of.ensures ∙ ap (committee_of c.args.version) c.deref.ensures.value)

pub committee_of-requires : goal.committee_of-requires
committee_of-requires c =
    subst (λ (p : List ℕ). IsTrue (is_committee c.args.version p)) (sym c.deref.ensures.value)
    (taken_committee c.args.version _ (frames_in c.args.frames.now.items) (frames_in c.take_first.new.frames.items) c.in-Some.ensures (c.requires (none_there c.args.committee.now (sym c.if-is_some.ensures))))
