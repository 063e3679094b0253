-- Faults that bytes show.
use Rattle.std.proofs.Common.{◌+◌, ◌-◌, replicate, ◌||◌, ◌≡◌, ℕ, suc, ◌≤◌, List, [], ◌∷◌, ◌++◌, length, take, None, true, false, refl, arith, ltb, sym, subst, ◌∙◌, length-append, Bool}
use Rattle.std.proofs.lemmas.Bool.{le-ltb, ltb-false}
use Rattle.std.proofs.lemmas.List.{take_at, append-nil, length-replicate}
use Rattle.std.proofs.lemmas.Nat.{from_be_bytes-to_be_bytes_4}
use Rattle.std.proofs.lemmas.Bool.Decides.{nat_tests}
use Rattle.bk_base.specs.declared.limits.TheConstants.{MOST_FEED, MOST_PAYLOAD}
use Rattle.bk_frames.specs.declared.fault.FaultCode.{FaultCode}
use Rattle.bk_frames.specs.declared.fault.FaultCode.TheVariants as code
use Rattle.std.specs.Prelude.{IsTrue, not}
use Rattle.std.specs.Int.{w32, to_be_bytes, from_be_bytes}
use Rattle.bk_base.specs.declared.version.Version.{Version}
use Rattle.bk_base.specs.declared.kind.Kind.{Kind}
use Rattle.bk_base.specs.declared.kind.Kind.TheVariants as kind
use Rattle.bk_base.specs.Committee.{is_committee}
use Rattle.bk_base.specs.Genesis.{is_genesis}
use Rattle.bk_base.specs.Feed.{Frame, frame_text, kind_number, stands_at, IsFramedAt, IsGoodAt}
use Rattle.bk_frames.specs.FirstFault.{kind_fault, length_fault, payload_fault, content_fault, frame_fault, fault_if}
use Rattle.bk_frames.specs.Pulling.{ByCode, IsPartAt}

-- one reason becomes another, case by case
pub by_code : (e : FaultCode) (P Q R P' Q' R' : Type 0) → (P → P') → (Q → Q') → (R → R') → ByCode e P Q R → ByCode e P' Q' R'
by_code code.Read P Q R P' Q' R' f g h x = f x
by_code code.Memory P Q R P' Q' R' f g h x = g x
by_code code.Magic P Q R P' Q' R' f g h x = h x
by_code code.Truncated P Q R P' Q' R' f g h x = h x
by_code code.Kind P Q R P' Q' R' f g h x = h x
by_code code.Length P Q R P' Q' R' f g h x = h x
by_code code.Committee P Q R P' Q' R' f g h x = h x
by_code code.Genesis P Q R P' Q' R' f g h x = h x
by_code code.Extra P Q R P' Q' R' f g h x = h x

-- a length that shows no fault fits
pub length_limits : (offset len : ℕ) → length_fault offset len ≡ None → (len ≤ MOST_PAYLOAD) × (offset + 5 + len ≤ MOST_FEED)
length_limits offset len h = split (ltb MOST_PAYLOAD len) (ltb MOST_FEED (offset + 5 + len)) refl refl h
  where
    split : (p q : Bool) → ltb MOST_PAYLOAD len ≡ p → ltb MOST_FEED (offset + 5 + len) ≡ q → fault_if (p || q) code.Length ≡ None → (len ≤ MOST_PAYLOAD) × (offset + 5 + len ≤ MOST_FEED)
    split true q hp hq e = absurd cc
    split false true hp hq e = absurd cc
    split false false hp hq e = (ltb-false _ _ hp, ltb-false _ _ hq)

-- a part of a payload after a good kind and length is a part of a frame
pub part_of_frame : (index offset : ℕ) (k : Kind) (len : ℕ) (part : List ℕ) → IsTrue (stands_at index k) → length_fault offset len ≡ None → length part ≤ len → IsPartAt index offset (kind_number k ∷ (to_be_bytes w32 len ++ part))
part_of_frame index offset k len part in_place fits le =
    let filler : List ℕ = replicate (len - length part) 0 in
    let whole : length (part ++ filler) ≡ len = length-append part filler ∙ omega (arith, length-replicate {A = ℕ} (len - length part) 0) in
    let limits = length_limits offset len fits in
    record {
      frame = record { kind = k; payload = part ++ filler };
      more = filler;
      framed = record { in_place = in_place; short = rw whole limits.0; inside = omega (arith, whole, limits.1) };
      joined = rw whole refl;
      measured = omega arith;
    }

-- a whole frame is a part of it
pub whole_part : (index offset : ℕ) (f : Frame) → IsFramedAt index offset f → IsPartAt index offset (frame_text f)
whole_part index offset f framed = record { frame = f; more = []; framed = framed; joined = sym (append-nil (frame_text f)); measured = omega arith }

-- a kind in its place shows no fault
pub kind_fits : (index : ℕ) (k : Kind) → IsTrue (stands_at index k) → kind_fault index (kind_number k) ≡ None
kind_fits index kind.Committee h = grind (arith, nat_tests, h)
kind_fits index kind.Genesis h = grind (arith, nat_tests, h)
kind_fits index kind.Certificate h = grind (arith, nat_tests, h)
kind_fits index kind.Batch h = grind (arith, nat_tests, h)

-- a length that fits shows no fault
pub length_good : (offset len : ℕ) → len ≤ MOST_PAYLOAD → offset + 5 + len ≤ MOST_FEED → length_fault offset len ≡ None
length_good offset len short inside = grind (arith, nat_tests, short, inside)

-- of a whole payload whose length fits, only the payload can show a fault
content_good : (version : Version) (index offset len : ℕ) (payload rest : List ℕ) → length payload ≡ len → len ≤ MOST_PAYLOAD → offset + 5 + len ≤ MOST_FEED → content_fault version index offset len (payload ++ rest) ≡ payload_fault version index payload
content_good version index offset len payload rest same short inside =
    let long : ltb (length (payload ++ rest)) len ≡ false = le-ltb _ _ (omega (arith, length-append payload rest)) in
    let front : take len (payload ++ rest) ≡ payload = take_at payload rest len same in
    rw (length_good offset len short inside, long, front) refl

-- of a frame that is framed, whatever follows it, only the payload can show a fault
pub judged : (version : Version) (index offset : ℕ) (f : Frame) (rest : List ℕ) → IsFramedAt index offset f → frame_fault version index offset (frame_text f ++ rest) ≡ payload_fault version index f.payload
judged version index offset f rest framed =
    let number : from_be_bytes w32 (to_be_bytes w32 (length f.payload)) ≡ length f.payload = from_be_bytes-to_be_bytes_4 (length f.payload) (omega (arith, framed.short)) in
    let content = content_good version index offset (length f.payload) f.payload rest refl framed.short (omega (arith, framed.inside)) in
    let four : ltb (suc (suc (suc (suc (length (f.payload ++ rest)))))) 4 ≡ false = le-ltb _ _ (omega arith) in
    rw (kind_fits index f.kind framed.in_place, four) (subst (λ (n : ℕ). content_fault version index offset n (f.payload ++ rest) ≡ payload_fault version index f.payload) (sym number) content)

-- a frame whose payload shows no fault is good
pub good : (version : Version) (index offset : ℕ) (f : Frame) → IsFramedAt index offset f → payload_fault version index f.payload ≡ None → IsGoodAt version index offset f
good version index offset f framed none = record { framed = framed; committee = λ e. committee_is index f.payload e none; genesis = λ e. genesis_is index f.payload e none }
  where
    test_is : (b : Bool) (e : FaultCode) → fault_if (not b) e ≡ None → IsTrue b
    test_is true e h = refl
    test_is false e h = absurd cc

    committee_is : (index : ℕ) (payload : List ℕ) → index ≡ 0 → payload_fault version index payload ≡ None → IsTrue (is_committee version payload)
    committee_is index payload e h = test_is (is_committee version payload) code.Committee (subst (λ (n : ℕ). payload_fault version n payload ≡ None) e h)

    genesis_is : (index : ℕ) (payload : List ℕ) → index ≡ 1 → payload_fault version index payload ≡ None → IsTrue (is_genesis payload)
    genesis_is index payload e h = test_is (is_genesis payload) code.Genesis (subst (λ (n : ℕ). payload_fault version n payload ≡ None) e h)
