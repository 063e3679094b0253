use Rattle.std.proofs.Common.{◌≡◌, ◌<◌, ◌↔◌, ◌∙◌, ℕ, List, false, sym, ap, subst, arith, length, get_or}
use Rattle.std.specs.List.{Contains}
use Rattle.std.proofs.lemmas.Bool.{both_ways}
use Rattle.std.proofs.lemmas.List.{get_or-map}
use Rattle.bk_cert.specs.declared.place.CertRef.{CertRef}
use Rattle.bk_rounds.specs.declared.slots.Slot.{Slot}
use Rattle.bk_rounds.specs.private.Numbered.{round_of, author_of}
use Rattle.bk_rounds.specs.private.Tied.{WaitsBelow, place_at}
use Rattle.bk_cert.proofs.Refs.{same_place}
use Rattle.bk_rounds.proofs.Found.{round_read, read_any}
use Rattle.bk_rounds.proofs.Waits.{waits_none, waits_more, waits_skip}
use Rattle.bk_rounds.proofs.table.waiting_places.Goals as goal
use Rattle.bk_rounds.proofs.table.waiting_places.Goals.{then-slot-gt0+then-not-index+in_ok-push, else-slot-gt0, else-slot-gt0-via-then-slot-gt0+else-not-index, else-slot-gt0-via-else-slot-gt0}

pub loop-number-init : goal.loop-number-init
loop-number-init c = rw c.new-places.ensures.items (λ a. waits_none c.args.names.now a)

pub loop-number-preserved : goal.loop-number-preserved
loop-number-preserved c =
    let n = c.args.names.now in
    let k : ℕ = c.loop-number.number in
    let low : k < length n.slots = omega (arith, c.loop-number-test.true, c.len-number-end.ensures) in
    let low' : k < length n.marks.items = omega (arith, low, c.requires.marks) in
    let round : c.index-as_slice-number.result.round ≡ round_of n.slots k = round_read n.slots k c.index-as_slice-number.result low (c.index-as_slice-number.is ∙ ap (λ (ss : List Slot). get_or ss k c.index-as_slice-number.result) c.as_slice.ensures) in
    let author : c.index-as_slice-number.result.author ≡ author_of n.slots k =
    ap (λ (s : Slot). s.author) (c.index-as_slice-number.is ∙ ap (λ (ss : List Slot). get_or ss k c.index-as_slice-number.result) c.as_slice.ensures) ∙ sym (get_or-map (λ (s : Slot). s.author) n.slots k c.index-as_slice-number.result 0 low) in
    let here : CertRef = record { round = c.index-as_slice-number.result.round; author = c.index-as_slice-number.result.author } in
    elim c.if-slot-gt0.branch [
      | then-slot-gt0+then-not-index+in_ok-push w ↦ rw (w.places-is, w.in_ok-push.ensures.items)
          (waits_more n c.loop-number.places.items k here c.loop-number.invariant (omega (arith, w.if-slot-gt0.true, round))
          (read_any n.marks.items k w.index.result.now false low' ∙ (sym w.index.ensures ∙ w.if-not-index.true))
          (same_place (place_at n.slots k) here (sym round) (sym author)))
      | else-slot-gt0 w ↦ rw w.places-is
          (waits_skip n c.loop-number.places.items k c.loop-number.invariant (λ some free. elim w.else-slot-gt0.branch [
            | else-slot-gt0-via-then-slot-gt0+else-not-index v ↦ both_ways _ free (read_any n.marks.items k v.index.result.now false low' ∙ (sym v.index.ensures ∙ v.if-not-index.false))
            | else-slot-gt0-via-else-slot-gt0 v ↦ absurd (omega (arith, some, round, v.if-slot-gt0.false))
          ]))
    ]

pub returns : goal.returns
returns c =
    let all : c.loop-number.number ≡ length c.args.names.now.slots = omega (arith, c.loop-number-test.false, c.loop-number.auto.number-end, c.len-number-end.ensures) in
    subst (λ (i : ℕ). (a : CertRef) → Contains c.loop-number.places.items a ↔ WaitsBelow c.args.names.now i a) all c.loop-number.invariant
