use Rattle.std.proofs.Common.{Option, subst}
use Rattle.bk_base.specs.declared.version.Version.{Version}
use Rattle.bk_frames.specs.Cutting.{frames_in}
use Rattle.bk_follow.specs.private.Gathering.{CanTake}
use Rattle.bk_follow.proofs.opening.take.Goals as goal

pub take_frames-requires-clause-come : goal.take_frames-requires-clause-come
take_frames-requires-clause-come g c = λ κs within. subst (λ (o : Option Version). CanTake o (frames_in c.args.frames.items) c.args.opened.now) c.in-Some.is c.requires.come
