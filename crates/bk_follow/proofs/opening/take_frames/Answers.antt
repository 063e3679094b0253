use Rattle.std.proofs.Common.{◌++◌, Option, Some, refl, subst}
use Rattle.bk_frames.specs.Cutting.{frames_in}
use Rattle.bk_follow.specs.Follower.{BookValue, StaysSettled}
use Rattle.bk_follow.specs.private.Openings.{IsOpened}
use Rattle.bk_follow.proofs.Openings.{opened_whole, room_for_left, took_left, stays_then}
use Rattle.bk_follow.proofs.opening.take_frames.Goals as goal

pub returns-in_default-clause-follows : goal.returns-in_default-clause-follows
returns-in_default-clause-follows g c = λ before h.
    opened_whole c.args.version (before ++ frames_in c.args.frames.items) (frames_in c.open.new.frames.items) c.open.new.opened.committee c.open.new.opened.book c.in_default.is (c.in_ok-open.ensures.opened before h)

pub take-requires-clause-room : goal.take-requires-clause-room
take-requires-clause-room g c κs within =
    let before = c.requires.come.0 in
    room_for_left c.args.version before (frames_in c.args.frames.items) c.open.new.frames.items c.args.opened.now.committee c.open.new.opened.committee c.args.opened.now.book c.in-Some.book c.requires.come.1
    (subst (λ (b : Option BookValue). IsOpened c.args.version (before ++ frames_in c.args.frames.items) c.open.new.opened.committee b (frames_in c.open.new.frames.items)) c.in-Some.is (c.in_ok-open.ensures.opened before c.requires.come.1.follows))

pub returns-clause-follows : goal.returns-clause-follows
returns-clause-follows g c = λ before h.
    took_left c.args.version (before ++ frames_in c.args.frames.items) (frames_in c.open.new.frames.items) c.open.new.opened.committee c.in-Some.book c.take.new.self
    (subst (λ (b : Option BookValue). IsOpened c.args.version (before ++ frames_in c.args.frames.items) c.open.new.opened.committee b (frames_in c.open.new.frames.items)) c.in-Some.is (c.in_ok-open.ensures.opened before h)) c.in_ok-take.ensures.taken

pub returns-in_default-clause-stays : goal.returns-in_default-clause-stays
returns-in_default-clause-stays g c = c.in_ok-open.ensures.stays

pub returns-clause-stays : goal.returns-clause-stays
returns-clause-stays g c =
    stays_then c.args.opened.now.book (Some c.in-Some.book) (Some c.take.new.self) (subst (StaysSettled c.args.opened.now.book) c.in-Some.is c.in_ok-open.ensures.stays) (c.take.new.self, refl, c.in_ok-take.ensures.order, c.in_ok-take.ensures.executed)
