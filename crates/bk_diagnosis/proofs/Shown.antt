-- The lines that were made of a feed are those of the feed.
use Rattle.std.proofs.Common.{◌≡◌, ℕ, Bool, List, Contains, refl, sym, subst, ◌∙◌, ap}
use Rattle.std.specs.Prelude.{◌↔◌}
use Rattle.bk_base.specs.Feed.{FeedValue}
use Rattle.bk_committee.specs.Payload.{CommitteeValue, sizes_of}
use Rattle.bk_committee.specs.Sizes.{Sizes}
use Rattle.bk_cert.specs.Node.{Node}
use Rattle.bk_cert.specs.declared.place.CertRef.{CertRef}
use Rattle.bk_commit.specs.Growth.{IsPartOf}
use Rattle.bk_flatten.proofs.Orders.{order_present}
use Rattle.bk_rounds.proofs.Grown.{present_more}
use Rattle.bk_cert.specs.Place.{Lists}
use Rattle.bk_rounds.specs.Admission.{IsPresent, WaitsAt}
use Rattle.bk_rounds.specs.Rounds.{RoundsValue}
use Rattle.bk_order.specs.Frames.{AreCerts, AreRejects}
use Rattle.bk_order.specs.Intake.{first_later_frame}
use Rattle.bk_order.specs.Orders.{AreRoundsOf}
use Rattle.bk_answer.specs.Closed.{OrderValue, IsOrderedFor}
use Rattle.bk_answer.specs.RunReport.{committee_in, later_frames}
use Rattle.bk_diagnosis.specs.Answers.{ShowsLines, are_some}
use Rattle.bk_diagnosis.specs.Lines.{text_of}
use Rattle.bk_diagnosis.specs.Missing.{AreMissingIn}
use Rattle.bk_diagnosis.specs.Waiting.{AreWaitingIn, AreWaitingLines}
use Rattle.bk_diagnosis.specs.private.Graph.{AreLinesOf, graph_of}
use Rattle.bk_diagnosis.specs.private.Lacking.{missing_lines}
use Rattle.bk_diagnosis.specs.declared.line.Line.{Line}

-- lines that each feed has are the answer of each
pub shows : (of : FeedValue → Type 0) (are_lines : FeedValue → List Line → Type 0) (lines : List Line) → ((feed : FeedValue) → of feed → are_lines feed lines) → (some : Bool) (text : List ℕ)
    → some ≡ are_some lines → text ≡ text_of lines → (feed : FeedValue) → of feed → ShowsLines are_lines feed some text
shows of are_lines lines are some text e t feed made = record { lines = lines; are = are feed made; some_is = e; text_is = t }

-- ---- what the order lacks

module _ (feed : FeedValue) (o : OrderValue) (rounds : RoundsValue) (ordered : IsOrderedFor feed o) (here : AreRoundsOf (committee_in feed) (later_frames feed) rounds) where
  in_rounds : IsPartOf ordered.ordered.certs rounds.held
  in_rounds c t = here.certs.complete c (ordered.ordered.are_certs.sound c t)

  pub present_here : (a : CertRef) → Contains o.taken.ordered.order a → IsPresent rounds.sizes rounds.held a
  present_here a t =
      let z = sizes_of (committee_in feed) in
      subst (λ (y : Sizes). IsPresent y rounds.held a) (sym here.sizes)
      (present_more z ordered.ordered.certs rounds.held in_rounds a (order_present z ordered.ordered.certs _ o.taken.ordered.order ordered.ordered.holds.committed ordered.ordered.holds.ordered a t))

  pub missing_here : AreMissingIn feed (missing_lines rounds o.taken)
  missing_here = record {
    clear = ordered.clear;
    ordered = o.taken.ordered;
    is_order = ordered.ordered;
    lack = record {
      certs = rounds.held;
      batches = o.taken.kept.batches;
      are_certs = here.certs;
      are_batches = ordered.taken.batches;
      holds = refl;
    };
  }

  -- ---- what waits

  pub sizes_here : rounds.sizes ≡ sizes_of o.taken.committee
  sizes_here = here.sizes ∙ ap sizes_of (sym ordered.committee)

  pub certs_here : (c : Node) → Contains o.taken.kept.certs c ↔ Contains rounds.held c
  certs_here c =
      let kept : AreCerts (committee_in feed) (later_frames feed) o.taken.kept.certs = subst (λ (k : CommitteeValue). AreCerts k (later_frames feed) o.taken.kept.certs) ordered.committee ordered.taken.certs in
      ((λ t. here.certs.complete c (kept.sound c t)), (λ t. kept.complete c (here.certs.sound c t)))

  pub waiting_here : (lines : List Line) → AreLinesOf (graph_of rounds o.taken) lines → AreWaitingIn feed lines
  waiting_here lines (places, listed, are) =
      let z = sizes_of (committee_in feed) in
      record {
        clear = ordered.clear;
        certs = rounds.held;
        are_certs = here.certs;
        rejects = o.taken.kept.rejected;
        are_rejects = subst (λ (k : CommitteeValue). AreRejects k first_later_frame (later_frames feed) o.taken.kept.rejected) ordered.committee ordered.taken.rejected;
        places = places;
        listed = subst (λ (y : Sizes). Lists places (WaitsAt y rounds.held)) here.sizes listed;
        are_lines = subst (λ (y : Sizes). AreWaitingLines y rounds.held o.taken.kept.rejected places lines) here.sizes are;
      }
