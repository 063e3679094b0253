-- What the frames of two lists hold together.
use Rattle.std.proofs.Common.{◌≡◌, List, ◌++◌, Option, Some, None, sym, subst, ⊎_elim}
use Rattle.std.specs.Prelude.{MatchOption}
use Rattle.std.specs.List.{Contains}
use Rattle.std.proofs.lemmas.List.Elements.{Contains-append_left, Contains-append_right, Contains-append_cases}
use Rattle.bk_base.specs.declared.kind.Kind.TheVariants as kind
use Rattle.bk_base.specs.Feed.{Frame, frame_of}
use Rattle.bk_committee.specs.Payload.{CommitteeValue}
use Rattle.bk_cert.specs.Node.{Node}
use Rattle.bk_evidence.specs.Batches.{Batch}
use Rattle.bk_order.specs.declared.stop.Stop.{Stop}
use Rattle.bk_order.specs.Frames.{AreCerts, AreBatches}
use Rattle.bk_order.specs.Stops.{AreClear, IsStopOf, IsStop, HasNoStop}
use Rattle.bk_order.specs.Intake.{Taken, HasTaken}

module _ (k : CommitteeValue) (one other : List Frame) where
  certs_together : (xs ys : List Node) → AreCerts k one xs → AreCerts k other ys → AreCerts k (one ++ other) (xs ++ ys)
  certs_together xs ys h g = record {
    sound = λ c t. ⊎_elim
        (λ (u : Contains xs c). let s = h.sound c u in (s.0, Contains-append_left one other (frame_of kind.Certificate s.0) s.1, s.2))
        (λ (u : Contains ys c). let s = g.sound c u in (s.0, Contains-append_right one other (frame_of kind.Certificate s.0) s.1, s.2))
        (Contains-append_cases xs ys c t);
    complete = λ c s. ⊎_elim
        (λ (u : Contains one (frame_of kind.Certificate s.0)). Contains-append_left xs ys c (h.complete c (s.0, u, s.2)))
        (λ (u : Contains other (frame_of kind.Certificate s.0)). Contains-append_right xs ys c (g.complete c (s.0, u, s.2)))
        (Contains-append_cases one other (frame_of kind.Certificate s.0) s.1);
  }

  batches_together : (xs ys : List Batch) → AreBatches one xs → AreBatches other ys → AreBatches (one ++ other) (xs ++ ys)
  batches_together xs ys h g = record {
    sound = λ b t. ⊎_elim
        (λ (u : Contains xs b). let s = h.sound b u in (s.0, Contains-append_left one other (frame_of kind.Batch s.0) s.1, s.2))
        (λ (u : Contains ys b). let s = g.sound b u in (s.0, Contains-append_right one other (frame_of kind.Batch s.0) s.1, s.2))
        (Contains-append_cases xs ys b t);
    complete = λ b s. ⊎_elim
        (λ (u : Contains one (frame_of kind.Batch s.0)). Contains-append_left xs ys b (h.complete b (s.0, u, s.2)))
        (λ (u : Contains other (frame_of kind.Batch s.0)). Contains-append_right xs ys b (g.complete b (s.0, u, s.2)))
        (Contains-append_cases one other (frame_of kind.Batch s.0) s.1);
  }

  module _ (xs ys : List Node) (bs cs : List Batch) (certs : AreCerts k one xs) (more : AreCerts k other ys) (batches : AreBatches one bs) (others : AreBatches other cs) where
    stop_of_lists : (found : Option Stop) → MatchOption found (AreClear (xs ++ ys) (bs ++ cs)) (IsStopOf (xs ++ ys) (bs ++ cs))
        → MatchOption found (HasNoStop k (one ++ other)) (IsStop k (one ++ other))
    stop_of_lists None h = record {
      certs = xs ++ ys;
      batches = bs ++ cs;
      are_certs = certs_together xs ys certs more;
      are_batches = batches_together bs cs batches others;
      holds = h;
    }
    stop_of_lists (Some s) h = record {
      certs = xs ++ ys;
      batches = bs ++ cs;
      are_certs = certs_together xs ys certs more;
      are_batches = batches_together bs cs batches others;
      holds = h;
    }

-- the stop of what was taken of two lists of frames
pub stop_together : (v w : Taken) → v.committee ≡ w.committee → (found : Option Stop)
    → MatchOption found (AreClear (v.kept.certs ++ w.kept.certs) (v.kept.batches ++ w.kept.batches)) (IsStopOf (v.kept.certs ++ w.kept.certs) (v.kept.batches ++ w.kept.batches))
    → (one other : List Frame) → HasTaken one v → HasTaken other w
    → MatchOption found (HasNoStop v.committee (one ++ other)) (IsStop v.committee (one ++ other))
stop_together v w same found h one other taken taken' =
    stop_of_lists v.committee one other v.kept.certs w.kept.certs v.kept.batches w.kept.batches
    taken.certs (subst (λ (k : CommitteeValue). AreCerts k other w.kept.certs) (sym same) taken'.certs) taken.batches taken'.batches found h
