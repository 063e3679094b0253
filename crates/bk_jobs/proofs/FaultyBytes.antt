-- What a fault says of the bytes of its source: these are to blame.
use Rattle.std.proofs.Common.{Ok, ◌≡◌, ℕ, List, Option, Some, None, IfSome, true, inl, inr}
use Rattle.bk_frames.specs.Device.{Device, IfKnown}
use Rattle.bk_base.specs.Feed.{FeedValue}
use Rattle.bk_frames.specs.FirstFault.{HasFault}
use Rattle.bk_frames.specs.Pulling.{Refuses}
use Rattle.bk_frames.specs.declared.fault.FaultCode.{FaultCode}
use Rattle.bk_frames.specs.declared.fault.FaultCode.TheVariants as code
use Rattle.bk_frames.specs.declared.fault.FeedFault.{FeedFault}
use Rattle.bk_order.specs.declared.stop.Stop.TheVariants as stop
use Rattle.bk_results.specs.Devices.{IsUntouched}
use Rattle.bk_frames.proofs.Devices.{known_of}
use Rattle.bk_compare.specs.FeedAgreement.{FeedsDiffer, OfTheirFeeds}
use Rattle.bk_compare.proofs.FeedEnds.{both_known}
use Rattle.bk_results.specs.declared.compare_stop.CompareStop.{CompareStop}
use Rattle.bk_results.specs.declared.compare_stop.CompareStop.TheVariants as compared
use Rattle.bk_results.specs.declared.differ.Differ.TheVariants as differ
use Rattle.bk_answer.specs.RunReport.{IsStopped}
use Rattle.bk_results.specs.declared.fault.Fault.{Fault}
use Rattle.bk_results.specs.declared.fault.Fault.TheVariants as replay
use Rattle.bk_script.specs.Script.{LineFault, feed_of}
use Rattle.bk_script.specs.Events.{events_of}
use Rattle.bk_steps.specs.declared.outcome.ScheduleFault.TheVariants as schedule
use Rattle.bk_base.specs.declared.refused.Refused as reason
use Rattle.bk_apply.specs.Scheduling.{IsNotWholeFor}
use Rattle.std.specs.Prelude.{Err}
use Rattle.bk_cli.specs.declared.exit.Exit.TheVariants as exit
use Rattle.bk_cli.specs.declared.job.Job.{Job}
use Rattle.bk_cli.specs.declared.job.Job.TheVariants as job
use Rattle.bk_jobs.specs.Schedules.{AreNoEvents, AreRefused, IsListed, IsRefusedAt}
use Rattle.bk_jobs.specs.Sources.{AreBroken, Inputs, JobDevices, inputs_of}
use Rattle.bk_cli.specs.Exits.{exit_after_compare, exit_by_code, is_refusal}
use Rattle.bk_jobs.specs.Comparisons.{DoNotAgree, HaveSomeStop, both_sources}
use Rattle.bk_jobs.specs.Blame.{AreNoAccounts, AreNoLinks, AreStopped, AreToBlame, MakeNoFeed}
use Rattle.bk_chain.specs.Chain.{HasLinksFault}
use Rattle.bk_tables.specs.Listing.{ids_of}

broken : (found : FeedFault) (bytes : Option (List ℕ)) → IfSome bytes (λ bs. HasFault bs found) → IfSome bytes AreBroken
broken found None h = tt
broken found (Some bs) h = (found, h)

pub stopped : (found : Fault) (bytes : Option (List ℕ)) → IfSome bytes (λ bs. IsStopped bs found) → IfSome bytes AreStopped
stopped found None h = tt
stopped found (Some bs) h = (found, h)

pub no_feed : (found : LineFault) (bytes : Option (List ℕ)) → IfSome bytes (λ bs. feed_of bs ≡ Err found) → IfSome bytes MakeNoFeed
no_feed found None h = tt
no_feed found (Some bs) h = (found, h)

pub weaker : (bytes : Option (List ℕ)) {P Q : List ℕ → Type 0} → ((bs : List ℕ) → P bs → Q bs) → IfSome bytes P → IfSome bytes Q
weaker None f h = tt
weaker (Some bs) f h = f bs h

-- a feed was refused for its bytes
pub refused : (j : Job) (given : Inputs) (f : FaultCode) (offset : ℕ) (old new : Device)
    (right : IfKnown old AreBroken → AreToBlame j exit.WrongInput given)
    → Refuses (record { offset = offset; code = f }) old new → is_refusal (exit_by_code f) ≡ true
    → AreToBlame j (exit_by_code f) given
refused j given code.Magic offset old new right h e = right (broken _ old.bytes h.2)
refused j given code.Truncated offset old new right h e = right (broken _ old.bytes h.2)
refused j given code.Kind offset old new right h e = right (broken _ old.bytes h.2)
refused j given code.Length offset old new right h e = right (broken _ old.bytes h.2)
refused j given code.Committee offset old new right h e = right (broken _ old.bytes h.2)
refused j given code.Genesis offset old new right h e = right (broken _ old.bytes h.2)
refused j given code.Extra offset old new right h e = right (broken _ old.bytes h.2)
refused j given code.Read offset old new right h e = absurd (cc)
refused j given code.Memory offset old new right h e = absurd (cc)

-- a list of events has a line that is none
pub no_events : (line : ℕ) (text : Option (List ℕ)) → IfSome text (λ t. events_of t ≡ Err line) → IfSome text AreNoEvents
no_events line None h = tt
no_events line (Some t) h = (line, h)

-- a list of accounts has a line that is none, or a text of links one that is none
pub no_accounts : (line : ℕ) (list : Option (List ℕ)) → IfSome list (λ t. ids_of t ≡ Err line) → IfSome list AreNoAccounts
no_accounts line None h = tt
no_accounts line (Some t) h = (line, h)

pub no_links : (line : ℕ) (links : Option (List ℕ)) → IfSome links (λ t. HasLinksFault t line) → IfSome links AreNoLinks
no_links line None h = tt
no_links line (Some t) h = (line, h)

-- one of the events is refused
pub one_refused : (workers line : ℕ) (why : reason.Refused) (old new : JobDevices) → IsListed old new (IsRefusedAt workers old.first new.first line why)
    → IfSome old.second.bytes (λ t. IfSome old.first.bytes (λ bytes. AreRefused workers bytes t))
one_refused workers line why old new (events, (gave, known), (index, at, whole)) =
    by_known old.second.bytes old.first.bytes known (known_of old.first new.first (IsNotWholeFor workers events.list (schedule.Refused index why)) whole)
  where
    by_known : (text feed : Option (List ℕ)) → IfSome text (λ t. events_of t ≡ Ok events) → IfSome feed (IsNotWholeFor workers events.list (schedule.Refused index why))
        → IfSome text (λ t. IfSome feed (λ bytes. AreRefused workers bytes t))
    by_known None feed is h = tt
    by_known (Some t) None is h = tt
    by_known (Some t) (Some bytes) is h = (events, is, (index, why, h))

-- two feeds are stopped together
stopped_so : (P : FeedValue → FeedValue → Type 0) (bytes more : List ℕ) → ((f g : FeedValue) → P f g → HaveSomeStop f g) → OfTheirFeeds bytes more P
    → OfTheirFeeds bytes more HaveSomeStop
stopped_so P bytes more f o = record {
  one = o.one;
  other = o.other;
  good = o.good;
  other_good = o.other_good;
  spelled = o.spelled;
  other_spelled = o.other_spelled;
  holds = f o.one o.other o.holds;
}

stopped_together : (P : FeedValue → FeedValue → Type 0) (bytes more : Option (List ℕ)) → ((f g : FeedValue) → P f g → HaveSomeStop f g)
    → IfSome bytes (λ bs. IfSome more (λ ms. OfTheirFeeds bs ms P)) → IfSome bytes (λ bs. IfSome more (λ ms. OfTheirFeeds bs ms HaveSomeStop))
stopped_together P bytes more f h = weaker bytes (λ bs k. weaker more (λ ms o. stopped_so P bs ms f o) k) h

pub compare_blames : (first second : _) (e : CompareStop) (old new : JobDevices) → DoNotAgree e old new → is_refusal (exit_after_compare e) ≡ true
    → AreToBlame (job.Compare first second) (exit_after_compare e) (inputs_of old) × IsUntouched old.out new.out
compare_blames first second (compared.First (replay.Feed found)) old new h r =
    (refused (job.Compare first second) (inputs_of old) found.code found.offset old.first new.first (λ b. inl b) h.why.0 r, h.untouched)
compare_blames first second (compared.First (replay.Collision id)) old new h r = absurd h.why.0
compare_blames first second (compared.First (replay.Equivocation round author one other)) old new h r = absurd h.why.0
compare_blames first second (compared.First (replay.Unfinished place)) old new h r = absurd (cc)
compare_blames first second (compared.First (replay.Write written)) old new h r = absurd (cc)
compare_blames first second (compared.First replay.Memory) old new h r = absurd (cc)
compare_blames first second (compared.Second (replay.Feed found)) old new h r =
    (refused (job.Compare first second) (inputs_of old) found.code found.offset old.second new.second (λ b. inr (inl (known_of old.first new.first _ h.why.1, b))) h.why.2 r, h.untouched)
compare_blames first second (compared.Second (replay.Collision id)) old new h r = absurd h.why.2
compare_blames first second (compared.Second (replay.Equivocation round author one other)) old new h r = absurd h.why.2
compare_blames first second (compared.Second (replay.Unfinished place)) old new h r = absurd (cc)
compare_blames first second (compared.Second (replay.Write written)) old new h r = absurd (cc)
compare_blames first second (compared.Second replay.Memory) old new h r = absurd (cc)
compare_blames first second (compared.Differ (differ.Setup part)) old new h r =
    (inr (inr (part, both_known (both_sources old) (both_sources new) (FeedsDiffer (differ.Setup part)) h.why.1)), h.untouched)
compare_blames first second (compared.Differ (differ.Collision id)) old new h r = (
  stopped_together (FeedsDiffer (differ.Collision id)) old.first.bytes old.second.bytes (λ f g k. (stop.Collision id, k))
      (both_known (both_sources old) (both_sources new) (FeedsDiffer (differ.Collision id)) h.why.1),
  h.untouched,
)
compare_blames first second (compared.Differ (differ.Twins round author one other)) old new h r = (
  stopped_together (FeedsDiffer (differ.Twins round author one other)) old.first.bytes old.second.bytes
      (λ f g k. (stop.Twins (record { round = round; author = author; first = one; second = other }), k))
      (both_known (both_sources old) (both_sources new) (FeedsDiffer (differ.Twins round author one other)) h.why.1),
  h.untouched,
)
compare_blames first second (compared.Differ differ.Memory) old new h r = absurd (cc)

-- a feed was not answered for its bytes
