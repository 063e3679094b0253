-- A committee's payload and its members are two forms of one thing.
use Rattle.std.proofs.Common.{◌≡◌, ◌≢◌, ℕ, suc, ◌+◌, ◌*◌, ◌^◌, ◌<◌, ◌≤◌, Bool, true, false, cond, leb, ltb, eqb, ◌&&◌, ◌||◌, List, [], ◌∷◌, ◌++◌, length, take, drop, map, sum, Some, None, refl, sym, ap, subst, ◌∙◌, arith}
use Rattle.std.specs.Prelude.{IsTrue, ◌↔◌, replicate}
use Rattle.std.specs.List.{concat, flat_map, list_all}
use Rattle.std.specs.Int.{w32, to_be_bytes}
use Rattle.std.specs.Simd.{first_chunks}
use Rattle.std.proofs.lemmas.Bool.{and_parts, and_from, le-leb, leb-true, eq-eqb, eqb-true, eqb-false, ltb-false, le-ltb, or_from, or_parts, ne_eqb}
use Rattle.std.proofs.lemmas.List.{append-nil, length-append, length-map, length-drop, take-append-drop, length-take-le, drop_at}
use Rattle.bk_base.specs.Numbers.{IsBytes}
use Rattle.bk_base.specs.Committee.{is_committee, weights_at}
use Rattle.bk_base.proofs.FieldLemmas.{IsBytes-drop}
use Rattle.bk_base.specs.declared.version.Version.{Version}
use Rattle.bk_base.specs.declared.version.Version.TheVariants as version
use Rattle.bk_committee.specs.Payload.{CommitteeValue, IsCommittee, committee_with, committee_bytes, committee_of, weights_of, bad_of, member_size}
use Rattle.bk_committee.specs.declared.bad.Bad.TheVariants as bad
use Rattle.bk_committee.proofs.Chunks.{Sized, length-pieces, sized-pieces, concat-pieces, length-concat-sized, pieces-front, pieces-take}
use Rattle.bk_committee.proofs.Weights.{number, length-ones, ones_fit, ones_pass, ones_are, sum-many, sum-few, read_fits, fit_pass, back, again, length-four}

-- the numbers of a payload: how many members, and how many bytes follow
pub record Counts (size n : ℕ) (bytes : List ℕ) : Type 0 where
  pub some : 1 ≤ n
  pub few : n ≤ 128
  pub long : length bytes ≡ size * n

counts : (size n : ℕ) (bytes : List ℕ) → IsTrue (leb 1 n && leb n 128 && eqb (length bytes) (size * n)) → Counts size n bytes
counts size n bytes h =
    let outer = and_parts (leb 1 n && leb n 128) (eqb (length bytes) (size * n)) h in
    let inner = and_parts (leb 1 n) (leb n 128) outer.0 in
    record { some = leb-true 1 n inner.0; few = leb-true n 128 inner.1; long = eqb-true (length bytes) (size * n) outer.1 }

counted : (size n : ℕ) (bytes : List ℕ) → Counts size n bytes → IsTrue (leb 1 n && leb n 128 && eqb (length bytes) (size * n))
counted size n bytes k =
    and_from (leb 1 n && leb n 128) (eqb (length bytes) (size * n)) (and_from (leb 1 n) (leb n 128) (le-leb 1 n k.some) (le-leb n 128 k.few)) (eq-eqb (length bytes) (size * n) k.long)

-- ---- what is read

-- the keys, where there are bytes enough
keys_sized : (n : ℕ) (bytes : List ℕ) → 32 * n ≤ length bytes → Sized 32 (first_chunks 32 n bytes)
keys_sized n bytes h =
    let long : length (take (32 * n) bytes) ≡ 32 * n = length-take-le (32 * n) bytes h in
    subst (Sized 32) (pieces-take 32 n bytes h) (sized-pieces 32 n (take (32 * n) bytes) long)

keys_joined : (n : ℕ) (bytes : List ℕ) → 32 * n ≤ length bytes → concat (first_chunks 32 n bytes) ≡ take (32 * n) bytes
keys_joined n bytes h =
    ap concat (sym (pieces-take 32 n bytes h)) ∙ concat-pieces 32 n (take (32 * n) bytes) (length-take-le (32 * n) bytes h)

pub read_one : (n : ℕ) (bytes : List ℕ) → Counts 32 n bytes → IsCommittee (committee_of version.One (n ∷ bytes))
read_one n bytes k = record {
  some = rw (length-pieces 32 n bytes) k.some;
  few = rw (length-pieces 32 n bytes) k.few;
  sized = keys_sized n bytes (omega (arith, k.long));
  weighted = length-ones n ∙ sym (length-pieces 32 n bytes);
  weights_fit = ones_fit n;
}

pub read_two : (n : ℕ) (bytes : List ℕ) → IsBytes bytes → Counts 36 n bytes → list_all (λ (w : ℕ). ltb 0 w) (weights_at n bytes) ≡ true → IsCommittee (committee_of version.Two (n ∷ bytes))
read_two n bytes fits k above = record {
  some = rw (length-pieces 32 n bytes) k.some;
  few = rw (length-pieces 32 n bytes) k.few;
  sized = keys_sized n bytes (omega (arith, k.long));
  weighted = length-map (first_chunks 4 n (drop (32 * n) bytes)) number ∙ length-pieces 4 n (drop (32 * n) bytes) ∙ sym (length-pieces 32 n bytes);
  weights_fit = read_fits n (drop (32 * n) bytes) (IsBytes-drop (32 * n) bytes fits) above;
}

one_encoded : (n : ℕ) (bytes : List ℕ) → Counts 32 n bytes → n ∷ bytes ≡ committee_bytes (committee_of version.One (n ∷ bytes))
one_encoded n bytes k =
    let text : concat (first_chunks 32 n bytes) ++ [] ≡ bytes = append-nil (concat (first_chunks 32 n bytes)) ∙ concat-pieces 32 n bytes k.long in
    ap (λ (a : ℕ). a ∷ bytes) (sym (length-pieces 32 n bytes)) ∙ ap (λ (b : List ℕ). length (first_chunks 32 n bytes) ∷ b) (sym text)

two_encoded : (n : ℕ) (bytes : List ℕ) → IsBytes bytes → Counts 36 n bytes → n ∷ bytes ≡ committee_bytes (committee_of version.Two (n ∷ bytes))
two_encoded n bytes fits k =
    let rest : length (drop (32 * n) bytes) ≡ 4 * n = omega (arith, k.long, length-drop (32 * n) bytes) in
    let weights : flat_map (to_be_bytes w32) (weights_at n bytes) ≡ drop (32 * n) bytes = back n (drop (32 * n) bytes) (IsBytes-drop (32 * n) bytes fits) rest in
    let text : concat (first_chunks 32 n bytes) ++ flat_map (to_be_bytes w32) (weights_at n bytes) ≡ bytes =
    ap (λ (t : List ℕ). t ++ flat_map (to_be_bytes w32) (weights_at n bytes)) (keys_joined n bytes (omega (arith, k.long)))
    ∙ ap (λ (t : List ℕ). take (32 * n) bytes ++ t) weights ∙ take-append-drop (32 * n) bytes in
    ap (λ (a : ℕ). a ∷ bytes) (sym (length-pieces 32 n bytes)) ∙ ap (λ (b : List ℕ). length (first_chunks 32 n bytes) ∷ b) (sym text)

two_parts : (n : ℕ) (bytes : List ℕ) → IsTrue (is_committee version.Two (n ∷ bytes)) → Counts 36 n bytes × (list_all (λ (w : ℕ). ltb 0 w) (weights_at n bytes) ≡ true)
two_parts n bytes h =
    let test = and_parts (leb 1 n && leb n 128 && eqb (length bytes) (36 * n)) (list_all (λ (w : ℕ). ltb 0 w) (weights_at n bytes)) h in
    (counts 36 n bytes test.0, test.1)

pub encoded : (v : Version) (payload : List ℕ) → IsBytes payload → IsTrue (is_committee v payload) → IsCommittee (committee_of v payload) × (payload ≡ committee_bytes (committee_of v payload))
encoded v [] fits h = absurd cc
encoded version.One (n ∷ bytes) fits h = (read_one n bytes (counts 32 n bytes h), one_encoded n bytes (counts 32 n bytes h))
encoded version.Two (n ∷ bytes) fits h =
    let parts = two_parts n bytes h in
    let rest : IsBytes bytes = λ i. fits (suc i) in
    (read_two n bytes rest parts.0 parts.1, two_encoded n bytes rest parts.0)

-- ---- what is encoded

one_read : (keys : List (List ℕ)) (weights : List ℕ) → IsCommittee (committee_with version.One keys weights)
    → IsTrue (is_committee version.One (committee_bytes (committee_with version.One keys weights)))
    × (committee_of version.One (committee_bytes (committee_with version.One keys weights)) ≡ committee_with version.One keys weights)
one_read keys weights good =
    let long : length (concat keys ++ []) ≡ 32 * length keys = ap length (append-nil (concat keys)) ∙ length-concat-sized 32 keys good.sized in
    let ones : replicate (length keys) 1 ≡ weights = ones_are (length keys) weights good.weighted good.weights_fit in (
      counted 32 (length keys) (concat keys ++ []) (record { some = good.some; few = good.few; long = long }),
      ap (λ (k : List (List ℕ)). committee_with version.One k (replicate (length keys) 1)) (pieces-front 32 keys [] good.sized) ∙ ap (committee_with version.One keys) ones,
    )

two_read : (keys : List (List ℕ)) (weights : List ℕ) → IsCommittee (committee_with version.Two keys weights)
    → IsTrue (is_committee version.Two (committee_bytes (committee_with version.Two keys weights)))
    × (committee_of version.Two (committee_bytes (committee_with version.Two keys weights)) ≡ committee_with version.Two keys weights)
two_read keys weights good =
    let text : List ℕ = flat_map (to_be_bytes w32) weights in
    let keys_long : length (concat keys) ≡ 32 * length keys = length-concat-sized 32 keys good.sized in
    let four : length (flat_map (to_be_bytes w32) weights) ≡ 4 * length keys = length-four weights ∙ ap (λ (k : ℕ). 4 * k) good.weighted in
    let both : length (concat keys ++ flat_map (to_be_bytes w32) weights) ≡ length (concat keys) + length (flat_map (to_be_bytes w32) weights) = length-append (concat keys) (flat_map (to_be_bytes w32) weights) in
    let long : length (concat keys ++ flat_map (to_be_bytes w32) weights) ≡ 36 * length keys = omega arith in
    let rest : drop (32 * length keys) (concat keys ++ flat_map (to_be_bytes w32) weights) ≡ flat_map (to_be_bytes w32) weights = drop_at (concat keys) (flat_map (to_be_bytes w32) weights) (32 * length keys) keys_long in
    let numbers : weights_at (length keys) (concat keys ++ flat_map (to_be_bytes w32) weights) ≡ weights =
    ap (λ (t : List ℕ). map number (first_chunks 4 (length keys) t)) rest
    ∙ ap (λ (k : ℕ). map number (first_chunks 4 k (flat_map (to_be_bytes w32) weights))) (sym good.weighted)
    ∙ again weights good.weights_fit in
    let above : list_all (λ (w : ℕ). ltb 0 w) (weights_at (length keys) (concat keys ++ flat_map (to_be_bytes w32) weights)) ≡ true = ap (list_all (λ (w : ℕ). ltb 0 w)) numbers ∙ fit_pass weights good.weights_fit in
    let test = counted 36 (length keys) (concat keys ++ flat_map (to_be_bytes w32) weights) (record { some = good.some; few = good.few; long = long }) in (
      and_from (leb 1 (length keys) && leb (length keys) 128 && eqb (length (concat keys ++ flat_map (to_be_bytes w32) weights)) (36 * length keys))
          (list_all (λ (w : ℕ). ltb 0 w) (weights_at (length keys) (concat keys ++ flat_map (to_be_bytes w32) weights))) test above,
      ap (λ (k : List (List ℕ)). committee_with version.Two k (weights_at (length keys) (concat keys ++ flat_map (to_be_bytes w32) weights))) (pieces-front 32 keys (flat_map (to_be_bytes w32) weights) good.sized)
          ∙ ap (committee_with version.Two keys) numbers,
    )

pub read : (c : CommitteeValue) → IsCommittee c → IsTrue (is_committee c.version (committee_bytes c)) × (committee_of c.version (committee_bytes c) ≡ c)
read c good = by_version c.version c.keys c.weights good
  where
    by_version : (v : Version) (keys : List (List ℕ)) (weights : List ℕ) → IsCommittee (committee_with v keys weights)
        → IsTrue (is_committee v (committee_bytes (committee_with v keys weights))) × (committee_of v (committee_bytes (committee_with v keys weights)) ≡ committee_with v keys weights)
    by_version version.One keys weights good = one_read keys weights good
    by_version version.Two keys weights good = two_read keys weights good

-- ---- what is wrong

bad_parts : (a b w : Bool) → cond a (Some bad.Count) (cond b (cond w None (Some bad.Weight)) (Some bad.Length)) ≡ None → (a ≡ false) × (b ≡ true) × (w ≡ true)
bad_parts true b w e = absurd cc
bad_parts false true true e = (refl, refl, refl)
bad_parts false true false e = absurd cc
bad_parts false false w e = absurd cc

bad_none : (a b w : Bool) → a ≡ false → b ≡ true → w ≡ true → cond a (Some bad.Count) (cond b (cond w None (Some bad.Weight)) (Some bad.Length)) ≡ None
bad_none a b w p q r = rw (p, q, r) refl

in_range : (n : ℕ) → (eqb n 0 || ltb 128 n) ≡ false → (1 ≤ n) × (n ≤ 128)
in_range n e =
    let both = or_parts (eqb n 0) (ltb 128 n) e in
    let some : n ≢ 0 = eqb-false n 0 both.0 in
    (omega arith, ltb-false 128 n both.1)

out_of_range : (n : ℕ) → 1 ≤ n → n ≤ 128 → (eqb n 0 || ltb 128 n) ≡ false
out_of_range n some few =
    let above : n ≢ 0 = λ (e : n ≡ 0). (omega arith) in
    or_from (eqb n 0) (ltb 128 n) (ne_eqb n 0 above) (le-ltb 128 n few)

-- what a payload of which nothing is wrong has
pub counts_good : (v : Version) (n : ℕ) (bytes : List ℕ) → bad_of v (n ∷ bytes) ≡ None → Counts (member_size v) n bytes
counts_good v n bytes e =
    let parts = bad_parts (eqb n 0 || ltb 128 n) (eqb (length bytes) (member_size v * n)) (list_all (λ (w : ℕ). ltb 0 w) (weights_of v n bytes)) e in
    let range = in_range n parts.0 in
    record { some = range.0; few = range.1; long = eqb-true (length bytes) (member_size v * n) parts.1 }

pub weights_good : (v : Version) (n : ℕ) (bytes : List ℕ) → bad_of v (n ∷ bytes) ≡ None → list_all (λ (w : ℕ). ltb 0 w) (weights_of v n bytes) ≡ true
weights_good v n bytes e = (bad_parts (eqb n 0 || ltb 128 n) (eqb (length bytes) (member_size v * n)) (list_all (λ (w : ℕ). ltb 0 w) (weights_of v n bytes)) e).2

nothing_bad : (v : Version) (n : ℕ) (bytes : List ℕ) → Counts (member_size v) n bytes → list_all (λ (w : ℕ). ltb 0 w) (weights_of v n bytes) ≡ true → bad_of v (n ∷ bytes) ≡ None
nothing_bad v n bytes k above =
    bad_none (eqb n 0 || ltb 128 n) (eqb (length bytes) (member_size v * n)) (list_all (λ (w : ℕ). ltb 0 w) (weights_of v n bytes))
    (out_of_range n k.some k.few) (eq-eqb (length bytes) (member_size v * n) k.long) above

pub one_good : (v : Version) (n : ℕ) (bytes : List ℕ) → v ≡ version.One → n ≢ 0 → n ≤ 128 → length bytes ≡ member_size v * n → bad_of v (n ∷ bytes) ≡ None
one_good version.One n bytes is some few long = nothing_bad version.One n bytes (record { some = omega arith; few = few; long = long }) (ones_pass n)
one_good version.Two n bytes is some few long = absurd cc

pub good_is : (v : Version) (payload : List ℕ) → (bad_of v payload ≡ None) ↔ IsTrue (is_committee v payload)
good_is v [] = (λ e. absurd cc, λ h. absurd cc)
good_is version.One (n ∷ bytes) = (
  λ e. counted 32 n bytes (counts_good version.One n bytes e),
  λ h. nothing_bad version.One n bytes (counts 32 n bytes h) (ones_pass n),
)
good_is version.Two (n ∷ bytes) = (
  λ e. and_from (leb 1 n && leb n 128 && eqb (length bytes) (36 * n)) (list_all (λ (w : ℕ). ltb 0 w) (weights_at n bytes)) (counted 36 n bytes (counts_good version.Two n bytes e)) (weights_good version.Two n bytes e),
  λ h. nothing_bad version.Two n bytes (two_parts n bytes h).0 (two_parts n bytes h).1,
)

-- the committee of a payload of which nothing is wrong
pub good_committee : (v : Version) (n : ℕ) (bytes : List ℕ) → IsBytes bytes → bad_of v (n ∷ bytes) ≡ None → IsCommittee (committee_of v (n ∷ bytes))
good_committee version.One n bytes fits e = read_one n bytes (counts_good version.One n bytes e)
good_committee version.Two n bytes fits e = read_two n bytes fits (counts_good version.Two n bytes e) (weights_good version.Two n bytes e)

-- how much the members of a committee weigh together
pub total_some : (c : CommitteeValue) → IsCommittee c → 1 ≤ sum c.weights
total_some c good = omega (arith, sum-many c.version c.weights good.weights_fit, good.weighted, good.some)

pub total_few : (c : CommitteeValue) → IsCommittee c → sum c.weights < 2 ^ 39
total_few c good = omega (arith, sum-few c.version c.weights good.weights_fit, good.weighted, good.few)
