use Rattle.std.proofs.Common.{List, drop, subst, take}
use Rattle.std.specs.List.{Contains}
use Rattle.std.proofs.lemmas.List.{take-append-drop}
use Rattle.std.proofs.lemmas.List.Elements.{Contains-append_right}
use Rattle.bk_base.specs.Feed.{Frame}
use Rattle.bk_commit.specs.Growth.{IsPartOf}
use Rattle.bk_ledger.proofs.Runs.{few_feed_transactions}
use Rattle.bk_answer.specs.RunReport.{committee_in, later_frames}
use Rattle.bk_answer.proofs.Counting.{few_places}
use Rattle.bk_laws.proofs.laws.few_places.Goals as goal

later_part : (frames : List Frame) → IsPartOf (drop 2 frames) frames
later_part frames = λ c h. subst (λ (fs : List Frame). Contains fs c) (take-append-drop 2 frames) (Contains-append_right (take 2 frames) (drop 2 frames) c h)

pub returns : goal.returns
returns c = λ feed r good reads. (
  few_feed_transactions feed good,
  few_places feed.version (committee_in feed) feed.frames (later_frames feed) r.ordered good.good (later_part feed.frames) reads.ordered,
)
