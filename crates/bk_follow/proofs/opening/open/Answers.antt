use Rattle.std.proofs.Common.{Option, sym, subst}
use Rattle.bk_frames.specs.Cutting.{frames_in}
use Rattle.bk_follow.specs.Follower.{BookValue, FollowsBy, StaysSettled}
use Rattle.bk_follow.specs.private.Books.{HasFollowed}
use Rattle.bk_follow.proofs.Openings.{head_first, head_second, none_there, opened_stands, opened_now, opened_stays, stays_itself}
use Rattle.bk_follow.proofs.opening.open.Goals as goal

pub returns-then-is_some-clause-opened : goal.returns-then-is_some-clause-opened
returns-then-is_some-clause-opened c = λ before h. opened_stands c.args.version before (frames_in c.args.frames.now.items) c.args.opened.now.committee c.args.opened.now.book (sym c.if-is_some.ensures) h

pub open_first-requires : goal.open_first-requires
open_first-requires c = λ none.
    head_first c.args.version c.requires.come.0 (frames_in c.args.frames.now.items) c.args.opened.now.committee c.args.opened.now.book c.requires.come.1 none (none_there c.args.opened.now.book (sym c.if-is_some.ensures))

pub open_second-requires-clause-head : goal.open_second-requires-clause-head
open_second-requires-clause-head c = λ some.
    head_second c.args.version c.requires.come.0 (frames_in c.args.frames.now.items) (frames_in c.open_first.new.frames.items) c.args.opened.now.committee c.open_first.new.committee c.in_ok-open_first.ensures
    (subst (λ (b : _). HasFollowed c.args.version c.requires.come.0 (frames_in c.args.frames.now.items) c.args.opened.now.committee b) (none_there c.args.opened.now.book (sym c.if-is_some.ensures)) c.requires.come.1) some

pub open_second-requires-clause-none : goal.open_second-requires-clause-none
open_second-requires-clause-none c = none_there c.args.opened.now.book (sym c.if-is_some.ensures)

pub returns-clause-opened : goal.returns-clause-opened
returns-clause-opened c = λ before h. opened_now c.args.version before c.args.opened.now.committee c.open_first.new.committee c.open_second.new.opened.committee
    (frames_in c.args.frames.now.items) (frames_in c.open_first.new.frames.items) (frames_in c.open_second.new.frames.items) c.open_second.new.opened.book c.in_ok-open_first.ensures c.in_ok-open_second.ensures
    (subst (FollowsBy c.args.version before c.args.opened.now.committee) (none_there c.args.opened.now.book (sym c.if-is_some.ensures)) h)

pub returns-then-is_some-clause-stays : goal.returns-then-is_some-clause-stays
returns-then-is_some-clause-stays c = stays_itself c.args.opened.now.book

pub returns-clause-stays : goal.returns-clause-stays
returns-clause-stays c =
    subst (λ (o : Option BookValue). StaysSettled o c.open_second.new.opened.book) (sym (none_there c.args.opened.now.book (sym c.if-is_some.ensures)))
    (opened_stays c.open_first.new.committee c.open_second.new.opened.committee (frames_in c.open_first.new.frames.items) (frames_in c.open_second.new.frames.items) c.open_second.new.opened.book c.in_ok-open_second.ensures)
