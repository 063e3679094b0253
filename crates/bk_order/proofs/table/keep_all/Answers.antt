use Rattle.std.proofs.Common.{List, [], ap, refl, subst, sym, arith, rules}
use Rattle.std.proofs.lemmas.List.{append-nil}
use Rattle.std.specs.Vec.Iter.{into_iter_items}
use Rattle.bk_base.specs.Feed.{Frame, frame_of}
use Rattle.bk_frames.specs.Cutting.{frames_in}
use Rattle.bk_order.specs.Intake.{IsKeptOf}
use Rattle.bk_order.specs.private.Joined.{kept_in}
use Rattle.bk_order.proofs.Tables.{keeping_on}
use Rattle.bk_order.proofs.table.keep_all.Goals as goal

pub loop-frame-init : goal.loop-frame-init
loop-frame-init c = (
  tt,
  tt,
  record {
    room = search rules;
    is_found = search rules;
    done = [];
    split = search rules;
    so_far = record {
      joined = c.requires.joined;
      goes_on = record { rounds = λ x t. t; sizes = refl; batches = ([], sym (append-nil c.args.table.now.batches)) };
      next = omega arith;
      kept = λ before h. subst (λ (fs : List Frame). IsKeptOf c.args.committee.now fs (kept_in c.args.table.now)) (sym (append-nil before)) h;
    };
  },
)

pub loop-frame-preserved : goal.loop-frame-preserved
loop-frame-preserved c = (
  tt,
  tt,
  keeping_on c.args.committee.now c.args.table.now c.loop-frame.table c.keep.new.table c.args.judged.frames (frames_in (into_iter_items c.loop-frame.frame-iterator)) (frames_in (into_iter_items c.next.new.self))
      (into_iter_items c.loop-frame.left) (into_iter_items c.next-in-loop-frame.new.self) (frame_of c.in-Some.frame.0 c.in-Some.frame.1.items) c.in-Some-next.one c.loop-frame.invariant.2
      (ap frames_in c.in-Some.ensures.steps.0) c.in-Some-next.ensures.items c.in_ok-keep.ensures,
)
