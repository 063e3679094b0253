-- The list of batches, step by step.
use Rattle.std.proofs.Common.{◌≡◌, ℕ, zero, suc, ◌+◌, ◌<◌, ◌≤◌, Bool, true, false, cond, List, [], ◌∷◌, ◌++◌, length, drop, take, get_or, Option, Some, None, refl, sym, ap, subst, ◌∙◌, arith}
use Rattle.std.specs.Prelude.{not, ◌||◌, filter, fold, slice_get, option_map, unwrap_or, IfSome}
use Rattle.std.specs.Str.{bytes_eq}
use Rattle.std.specs.List.{flat_map, position, list_any}
use Rattle.std.proofs.lemmas.Slice.Eq.{bytes_eq-Decides}
use Rattle.std.proofs.lemmas.List.{append-nil, append_assoc, take_more, length-append}
use Rattle.std.proofs.lemmas.List.Sums.{fold-append}
use Rattle.std.proofs.lemmas.List.Concat.{flat_map-append, flat_map-cons}
use Rattle.std.proofs.lemmas.Option.{slice_get_past, slice_get-get_or}
use Rattle.std.proofs.lemmas.List.Elements.{filter-append}
use Rattle.bk_committee.specs.Sizes.{Sizes}
use Rattle.bk_cert.specs.Node.{Node}
use Rattle.bk_cert.specs.Clear.{IsClear}
use Rattle.bk_cert.specs.declared.place.CertRef.{CertRef}
use Rattle.bk_rounds.specs.Admission.{StandsAt}
use Rattle.bk_rounds.proofs.Admitted.{admitted_held}
use Rattle.bk_evidence.specs.declared.batches.BatchRef.{BatchRef}
use Rattle.bk_evidence.specs.Batches.{Batch, batch_with, has_digest, payload_of}
use Rattle.bk_evidence.proofs.Naming.{find_none, find_position, position_push_some}
use Rattle.bk_flatten.specs.Batches.{named_at, stands, once, Listed, listed_with, AreFound, IsFoundWhole, payload_at, payloads_of, cons_payload, before_missing}
use Rattle.bk_flatten.specs.private.Listing.{with_digest, with_digests}
use Rattle.bk_flatten.proofs.Listing.{same_back}
use Rattle.bk_flatten.proofs.Growth.{finds, stands_there, place_is}

-- ---- digests, each once

pub any_filter : (x d : List ℕ) (ys : List (List ℕ)) → bytes_eq d x ≡ false → list_any (bytes_eq d) (filter (λ (e : List ℕ). not (bytes_eq x e)) ys) ≡ list_any (bytes_eq d) ys
any_filter x d [] e = refl
any_filter x d (y ∷ ys) e = by_test (bytes_eq x y) refl (any_filter x d ys e)
  where
    left : List (List ℕ)
    left = filter (λ (e : List ℕ). not (bytes_eq x e)) ys

    by_test : (b : Bool) → bytes_eq x y ≡ b → list_any (bytes_eq d) left ≡ list_any (bytes_eq d) ys
        → list_any (bytes_eq d) (cond (not b) (y ∷ left) left) ≡ (bytes_eq d y || list_any (bytes_eq d) ys)
    by_test true t h = h ∙ sym (ap (λ (b : Bool). b || list_any (bytes_eq d) ys) (subst (λ (z : List ℕ). bytes_eq d z ≡ false) ((bytes_eq-Decides x y).0 t) e))
    by_test false t h = ap (λ (b : Bool). bytes_eq d y || b) h

dropped : (x d : List ℕ) (ys : List (List ℕ)) (b : Bool) → bytes_eq x d ≡ true
    → filter (λ (e : List ℕ). not (bytes_eq x e)) (cond b ys (ys ++ d ∷ [])) ≡ filter (λ (e : List ℕ). not (bytes_eq x e)) ys
dropped x d ys true e = refl
dropped x d ys false e = filter-append (λ (e : List ℕ). not (bytes_eq x e)) ys (d ∷ [])
    ∙ (ap (λ (t : Bool). filter (λ (e : List ℕ). not (bytes_eq x e)) ys ++ cond (not t) (d ∷ []) []) e ∙ append-nil (filter (λ (e : List ℕ). not (bytes_eq x e)) ys))

kept : (x d : List ℕ) (ys : List (List ℕ)) (b : Bool) → bytes_eq x d ≡ false
    → filter (λ (e : List ℕ). not (bytes_eq x e)) (cond b ys (ys ++ d ∷ [])) ≡ cond b (filter (λ (e : List ℕ). not (bytes_eq x e)) ys) (filter (λ (e : List ℕ). not (bytes_eq x e)) ys ++ d ∷ [])
kept x d ys true e = refl
kept x d ys false e = filter-append (λ (e : List ℕ). not (bytes_eq x e)) ys (d ∷ [])
    ∙ ap (λ (t : Bool). filter (λ (e : List ℕ). not (bytes_eq x e)) ys ++ cond (not t) (d ∷ []) []) e

cond_cons : {X : Type 0} (x : X) (b : Bool) (us vs : List X) → x ∷ cond b us vs ≡ cond b (x ∷ us) (x ∷ vs)
cond_cons x true us vs = refl
cond_cons x false us vs = refl

-- one digest more
pub once_push : (xs : List (List ℕ)) (d : List ℕ) → once (xs ++ d ∷ []) ≡ with_digest (once xs) d
once_push [] d = refl
once_push (x ∷ xs) d = by_test (bytes_eq d x) refl (once_push xs d)
  where
    left : List (List ℕ)
    left = filter (λ (e : List ℕ). not (bytes_eq x e)) (once xs)

    by_test : (b : Bool) → bytes_eq d x ≡ b → once (xs ++ d ∷ []) ≡ with_digest (once xs) d
        → x ∷ filter (λ (e : List ℕ). not (bytes_eq x e)) (once (xs ++ d ∷ [])) ≡ cond (b || list_any (bytes_eq d) left) (x ∷ left) (x ∷ (left ++ d ∷ []))
    by_test true t h = ap (λ (zs : List (List ℕ)). x ∷ filter (λ (e : List ℕ). not (bytes_eq x e)) zs) h
        ∙ ap (λ (zs : List (List ℕ)). x ∷ zs) (dropped x d (once xs) (list_any (bytes_eq d) (once xs)) (same_back d x true t))
    by_test false t h = ap (λ (zs : List (List ℕ)). x ∷ filter (λ (e : List ℕ). not (bytes_eq x e)) zs) h
        ∙ (ap (λ (zs : List (List ℕ)). x ∷ zs) (kept x d (once xs) (list_any (bytes_eq d) (once xs)) (same_back d x false t))
        ∙ (cond_cons x (list_any (bytes_eq d) (once xs)) left (left ++ d ∷ [])
        ∙ ap (λ (b : Bool). cond b (x ∷ left) (x ∷ (left ++ d ∷ []))) (sym (any_filter x d (once xs) t))))

pub once_grows : (ds all : List (List ℕ)) → with_digests (once all) ds ≡ once (all ++ ds)
once_grows [] all = ap once (sym (append-nil all))
once_grows (d ∷ ds) all = ap (λ (ks : List (List ℕ)). fold (with_digest) ks ds) (sym (once_push all d))
    ∙ (once_grows ds (all ++ d ∷ []) ∙ ap once (append_assoc all (d ∷ []) ds))

-- ---- names

-- what the certificate at a place names
pub named_here : (z : Sizes) (held : List Node) → IsClear held → (a : CertRef) (c : Node) → StandsAt z held a c → named_at held a ≡ c.header.batches
named_here z held clear a c at =
    let here = admitted_held z held c.header.round c at.admitted in
    let f = finds (stands a) held c here (stands_there a c at.place) in
    let same : f.0 ≡ c = clear.no_collision f.0 c f.1.inside here (clear.no_twins f.0 c f.1.inside here (place_is a f.0 f.1.passes ∙ sym at.place)) in
    ap (λ (o : Option Node). unwrap_or (option_map (λ (d : Node). d.header.batches) o) []) (f.1.first ∙ ap Some same)

-- ---- batches that are found

pub found_joins : (batches : List Batch) (ds : List (List ℕ)) (found part : List BatchRef) → AreFound batches ds found → AreFound batches (drop (length found) ds) part → AreFound batches ds (found ++ part)
found_joins batches ds [] part h k = k
found_joins batches [] (b ∷ found) part h k = absurd h
found_joins batches (d ∷ ds) (b ∷ found) part h k = (h.0, found_joins batches ds found part h.1 k)

pub found_push : (batches : List Batch) (ds : List (List ℕ)) (part : List BatchRef) (d : List ℕ) (b : BatchRef) → AreFound batches ds part → slice_get ds (length part) ≡ Some d
    → position (has_digest d) batches ≡ Some b.index → AreFound batches ds (part ++ b ∷ [])
found_push batches [] [] d b h e is = absurd cc
found_push batches (x ∷ ds) [] d b h e is = let same : x ≡ d = cc in (subst (λ (y : List ℕ). position (has_digest y) batches ≡ Some b.index) (sym same) is, tt)
found_push batches [] (c ∷ part) d b h e is = absurd h
found_push batches (x ∷ ds) (c ∷ part) d b h e is = (h.0, found_push batches ds part d b h.1 e is)

-- the batches that are found are those before the first that is missing
pub found_before : (batches : List Batch) (ds : List (List ℕ)) (found : List BatchRef) → AreFound batches ds found → IfSome (slice_get ds (length found)) (λ d. payload_of batches d ≡ None)
    → before_missing batches ds ≡ payloads_of batches (listed_with ds found)
found_before batches [] [] h ends = refl
found_before batches (d ∷ ds) [] h ends = ap (λ (o : Option (List ℕ)). cons_payload o d (before_missing batches ds)) ends
found_before batches [] (b ∷ found) h ends = absurd h
found_before batches (d ∷ ds) (b ∷ found) h ends =
    let first : payload_of batches d ≡ Some (payload_at batches b) = ap (option_map (λ (x : Batch). x.payload)) (find_position (has_digest d) batches b.index (batch_with [] []) h.0) in
    let rest = found_before batches ds found h.1 ends in
    λ i. cons_payload (first i) d (rest i)

pub whole_list : (batches : List Batch) (l : Listed) → IsFoundWhole batches l → before_missing batches l.digests ≡ payloads_of batches l
whole_list batches l h = found_before batches l.digests l.found h.found h.ends

-- what is found stays where more is held and more is named
pub position_stays : {E : Type 0} (p : E → Bool) (xs ys : List E) (k : ℕ) → position p xs ≡ Some k → position p (xs ++ ys) ≡ Some k
position_stays {E} p xs [] k h = ap (position p) (append-nil xs) ∙ h
position_stays {E} p xs (y ∷ ys) k h = ap (position p) (sym (append_assoc xs (y ∷ []) ys)) ∙ position_stays p (xs ++ y ∷ []) ys k (position_push_some p xs y k h)

pub found_stays : (batches more : List Batch) (ds rest : List (List ℕ)) (found : List BatchRef) → AreFound batches ds found → AreFound (batches ++ more) (ds ++ rest) found
found_stays batches more ds rest [] h = tt
found_stays batches more [] rest (b ∷ found) h = absurd h
found_stays batches more (d ∷ ds) rest (b ∷ found) h = (position_stays (has_digest d) batches more b.index h.0, found_stays batches more ds rest found h.1)

-- ---- one more of each

pub one_more : (ks ds : List (List ℕ)) (k : ℕ) (d : List ℕ) → k < length ds → d ≡ get_or ds k d → with_digest (with_digests ks (take k ds)) d ≡ with_digests ks (take (k + 1) ds)
one_more ks ds k d low is =
    let more : take (k + 1) ds ≡ take k ds ++ d ∷ [] = take_more ds k d low ∙ ap (λ (x : List ℕ). take k ds ++ x ∷ []) (sym is) in
    sym (ap (with_digests ks) more ∙ fold-append (with_digest) ks (take k ds) (d ∷ []))

pub names_more : (held : List Node) (part : List CertRef) (k : ℕ) (a none : CertRef) (bs names : List (List ℕ)) → k < length part → get_or part k none ≡ a → named_at held a ≡ bs
    → names ≡ flat_map (named_at held) (take k part) → names ++ bs ≡ flat_map (named_at held) (take (k + 1) part)
names_more held part k a none bs names low is here so_far =
    let more : take (k + 1) part ≡ take k part ++ a ∷ [] = take_more part k none low ∙ ap (λ (x : CertRef). take k part ++ x ∷ []) is in
    let one : flat_map (named_at held) (a ∷ []) ≡ bs = flat_map-cons (named_at held) a [] ∙ (append-nil (named_at held a) ∙ here) in
    sym (ap (flat_map (named_at held)) more ∙ (flat_map-append (named_at held) (take k part) (a ∷ []) ∙ (λ i. sym so_far i ++ one i)))

pub next_drop : {X : Type 0} (xs : List X) (n i : ℕ) → slice_get (drop n xs) i ≡ slice_get xs (n + i)
next_drop {X} xs zero i = ap (slice_get xs) (let e : i ≡ 0 + i = omega arith in e)
next_drop {X} [] (suc n) i = slice_get_past [] i (omega arith) ∙ sym (slice_get_past [] (suc n + i) (omega arith))
next_drop {X} (x ∷ xs) (suc n) i = next_drop xs n i ∙ ap (slice_get (x ∷ xs)) (let e : suc (n + i) ≡ suc n + i = omega arith in e)

pub found_more : (batches : List Batch) (ds : List (List ℕ)) (part : List BatchRef) (from k : ℕ) (d : List ℕ) (b : BatchRef) → AreFound batches (drop from ds) part → from + length part ≡ k
    → Some d ≡ slice_get ds k → Some b.index ≡ position (has_digest d) batches → AreFound batches (drop from ds) (part ++ b ∷ [])
found_more batches ds part from k d b h e at is =
    found_push batches (drop from ds) part d b h (next_drop ds from (length part) ∙ (ap (slice_get ds) e ∙ sym at)) (sym is)

pub found_ends : (batches : List Batch) (ds : List (List ℕ)) (found part : List BatchRef) (from k : ℕ) → length found ≡ from → AreFound batches ds found → AreFound batches (drop from ds) part
    → from + length part ≡ k → IfSome (slice_get ds k) (λ d. payload_of batches d ≡ None) → IsFoundWhole batches (listed_with ds (found ++ part))
found_ends batches ds found part from k is h more e none = record {
  found = found_joins batches ds found part h (subst (λ (n : ℕ). AreFound batches (drop n ds) part) (sym is) more);
  ends = subst (λ (n : ℕ). IfSome (slice_get ds n) (λ d. payload_of batches d ≡ None)) (let l = length-append found part in let q : k ≡ length (found ++ part) = omega arith in q) none;
}

pub read_there : (ds : List (List ℕ)) (k : ℕ) (d : List ℕ) → k < length ds → d ≡ get_or ds k d → Some d ≡ slice_get ds k
read_there ds k d low e = ap Some e ∙ sym (slice_get-get_or ds k d low)

pub missing_there : (batches : List Batch) (ds : List (List ℕ)) (k : ℕ) (d : List ℕ) → Some d ≡ slice_get ds k → None ≡ position (has_digest d) batches → IfSome (slice_get ds k) (λ x. payload_of batches x ≡ None)
missing_there batches ds k d at is = subst (λ (o : Option (List ℕ)). IfSome o (λ x. payload_of batches x ≡ None)) at
    (ap (option_map (λ (x : Batch). x.payload)) (find_none (has_digest d) batches (sym is)))

pub none_left : (batches : List Batch) (ds : List (List ℕ)) (k : ℕ) → length ds ≤ k → IfSome (slice_get ds k) (λ x. payload_of batches x ≡ None)
none_left batches ds k high = subst (λ (o : Option (List ℕ)). IfSome o (λ x. payload_of batches x ≡ None)) (sym (slice_get_past ds k high)) tt
