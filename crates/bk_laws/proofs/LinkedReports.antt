-- The digests of a link are those of the last lines of reports.
use Rattle.std.proofs.Common.{◌≡◌, ◌≤◌, ℕ, List, [], ◌∷◌, length, take, drop, reverse, refl, sym, ap, ◌∙◌, subst, arith}
use Rattle.std.specs.Prelude.{Contains}
use Rattle.bk_base.specs.Feed.{AreGoodFrom, Frame, FeedValue, IsFeed, genesis_of, spelling}
use Rattle.bk_base.specs.declared.version.Version.{Version}
use Rattle.bk_committee.specs.Payload.{CommitteeValue, sizes_of}
use Rattle.bk_cert.specs.declared.place.CertRef.{CertRef}
use Rattle.bk_cert.proofs.Lists.{none_in_nil}
use Rattle.bk_rounds.proofs.Admitted.{admitted_held}
use Rattle.bk_flatten.specs.Batches.{batches_of}
use Rattle.bk_flatten.proofs.Orders.{order_present}
use Rattle.bk_order.specs.Orders.{IsOrderOf, Ordered}
use Rattle.bk_order.specs.Stops.{HasNoStop}
use Rattle.bk_report.specs.Leaves.{leaves_of, state_of}
use Rattle.bk_report.specs.Lines.{text_of}
use Rattle.bk_report.specs.RunLines.{Reading, run_lines}
use Rattle.bk_rules.specs.Fold.{state_after}
use Rattle.bk_tx.specs.Batches.{transactions_of}
use Rattle.bk_answer.specs.RunReport.{HasNoStopIn, IsReport, Reads, committee_in, reach_of}
use Rattle.bk_laws.specs.Binding.{EndsInState}
use Rattle.bk_laws.specs.Chained.{LinksAreOfReports, ReportEndsIn, setup_of}
use Rattle.bk_laws.proofs.Answers.{reading_exists}
use Rattle.bk_laws.proofs.BindingFeeds.{run_ends}
use Rattle.bk_laws.proofs.BindingTrees.{root_digest}
use Rattle.bk_laws.proofs.Proving.{same_rows}

-- ---- a report and its end

-- a feed that nothing stops has a report, which ends in the digest of the accounts at its end
ends_in : (feed : FeedValue) → IsFeed feed → HasNoStopIn feed → (digest : List ℕ) → state_of (reading_exists feed).0.rows ≡ digest → ReportEndsIn (spelling feed) digest
ends_in feed good clear digest same =
    let r = reading_exists feed in
    let text = text_of (run_lines (committee_in feed) (length feed.frames) r.0) in
    let status = reach_of r.0.ordered.payloads.missing in
    let reported : IsReport (spelling feed) text status = record {
      feed = feed;
      good = good;
      spelled = refl;
      holds = record { clear = clear; reading = r.0; reads = r.1; report = refl; status_is = refl };
    } in
    let last = run_ends (committee_in feed) (length feed.frames) r.0 in
    let ends : EndsInState text (state_of r.0.rows) = record { front = last.0; is_digest = root_digest (leaves_of r.0.rows); text_is = ap text_of last.1 } in
    record {
      report = text;
      status = status;
      reported = reported;
      ends = subst (EndsInState text) same ends;
    }

-- ---- two frames alone

setup_good : (version : Version) (frames : List Frame) → AreGoodFrom version 0 4 frames → 2 ≤ length frames → IsFeed (record { version = version; frames = take 2 frames })
setup_good version [] good opened = absurd (omega (arith, opened))
setup_good version (f ∷ []) good opened = absurd (omega (arith, opened))
setup_good version (f ∷ g ∷ more) good opened = record { good = (good.0, (good.1.0, tt)); opened = omega arith }

setup_genesis : (frames : List Frame) → genesis_of (take 2 frames) ≡ genesis_of frames
setup_genesis [] = refl
setup_genesis (f ∷ []) = refl
setup_genesis (f ∷ g ∷ more) = refl

setup_later : (frames : List Frame) → drop 2 (take 2 frames) ≡ []
setup_later [] = refl
setup_later (f ∷ []) = refl
setup_later (f ∷ g ∷ more) = refl

-- no frame stops a feed
nothing_stops : (k : CommitteeValue) → HasNoStop k []
nothing_stops k = record {
  certs = [];
  batches = [];
  are_certs = record { sound = λ c h. absurd (none_in_nil c h); complete = λ c h. absurd (none_in_nil _ h.1) };
  are_batches = record { sound = λ b h. absurd (none_in_nil b h); complete = λ b h. absurd (none_in_nil _ h.1) };
  holds = record {
    clear = record { no_collision = λ c d h. absurd (none_in_nil c h); no_twins = λ c d h. absurd (none_in_nil c h) };
    apart = λ b c h. absurd (none_in_nil b h);
  };
}

none_listed : (xs : List CertRef) → ((a : CertRef) → Contains xs a → ⊥) → xs ≡ []
none_listed [] none = refl
none_listed (a ∷ xs) none = absurd (none a (0, omega arith, refl))

-- and has no order
nothing_ordered_of : (k : CommitteeValue) (o : Ordered) → IsOrderOf k [] o → o.payloads.list ≡ []
nothing_ordered_of k o h =
    let none : (a : CertRef) → Contains o.order a → ⊥ =
    λ a there. let present = order_present (sizes_of k) h.certs (reverse o.anchors) o.order h.holds.committed h.holds.ordered a there in
    let held = admitted_held (sizes_of k) h.certs present.0.header.round present.0 present.1.admitted in
    none_in_nil _ (h.are_certs.sound present.0 held).1 in
    ap (λ p. p.list) (h.holds.payloads_are ∙ ap (batches_of h.certs h.batches) (none_listed o.order none))

setup_rows : (feed : FeedValue) (r : Reading) → Reads (setup_of feed) r → r.rows ≡ genesis_of feed.frames
setup_rows feed r reads =
    let none : r.ordered.payloads.list ≡ [] = nothing_ordered_of (committee_in (setup_of feed)) r.ordered
    (subst (λ (fs : List Frame). IsOrderOf (committee_in (setup_of feed)) fs r.ordered) (setup_later feed.frames) reads.ordered) in
    reads.rows
    ∙ ap (λ (ps : List (List ℕ)). state_after feed.version (transactions_of ps) (genesis_of (take 2 feed.frames))) none
    ∙ setup_genesis feed.frames

-- ---- both digests

pub links_are_of_reports : LinksAreOfReports
links_are_of_reports feed reached v good link = (
  ends_in feed good link.outcome.clear v.closing
      (ap state_of (same_rows feed reached (reading_exists feed).0 link.outcome (reading_exists feed).1) ∙ sym link.closing),
  ends_in (setup_of feed) (setup_good feed.version feed.frames good.good good.opened)
      (subst (HasNoStop (committee_in (setup_of feed))) (sym (setup_later feed.frames)) (nothing_stops (committee_in (setup_of feed)))) v.opening
      (ap state_of (setup_rows feed (reading_exists (setup_of feed)).0 (reading_exists (setup_of feed)).1) ∙ sym link.opening),
)
