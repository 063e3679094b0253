-- Where one held set is part of another, its batches begin the other's.
use Rattle.std.proofs.Common.{◌≡◌, ℕ, Bool, true, false, cond, eqb, List, [], ◌∷◌, ◌++◌, Option, Some, None, refl, sym, ap, subst, ◌∙◌, ◌⊎◌, ⊎_elim}
use Rattle.std.specs.Prelude.{reverse, not, filter, option_map, unwrap_or}
use Rattle.std.specs.Str.{bytes_eq}
use Rattle.std.specs.List.{Contains, flat_map, find}
use Rattle.std.proofs.lemmas.Slice.Eq.{bytes_eq-Decides}
use Rattle.std.proofs.lemmas.Bool.{and_parts, and_from}
use Rattle.std.proofs.lemmas.Bool.Decides.{Decides-eqb}
use Rattle.std.proofs.lemmas.List.Elements.{filter-append}
use Rattle.std.proofs.lemmas.List.Concat.{flat_map-append, flat_map-cons}
use Rattle.bk_committee.specs.Sizes.{Sizes}
use Rattle.bk_cert.specs.Node.{Node}
use Rattle.bk_cert.specs.Place.{place_of}
use Rattle.bk_cert.specs.Clear.{IsClear}
use Rattle.bk_cert.specs.declared.place.CertRef.{CertRef}
use Rattle.bk_rounds.specs.Admission.{IsPresent}
use Rattle.bk_rounds.proofs.Admitted.{admitted_held}
use Rattle.bk_cert.proofs.Lists.{none_in_nil, contains_cases, contains_first, contains_later}
use Rattle.bk_commit.specs.Growth.{IsPartOf, IsPrefix}
use Rattle.bk_evidence.specs.Batches.{Batch, AreApart, payload_of}
use Rattle.bk_flatten.specs.Batches.{stands, named_at, once, cons_payload, before_missing, batches_of}
use Rattle.bk_flatten.specs.Order.{IsWholeOrder}
use Rattle.bk_flatten.proofs.Orders.{order_present, whole_begins}

-- the first that passes a test

pub record Finds {X : Type 0} (p : X → Bool) (xs : List X) (y : X) : Type 0 where
  pub first : find p xs ≡ Some y
  pub inside : Contains xs y
  pub passes : p y ≡ true

found : {X : Type 0} (p : X → Bool) (xs : List X) (y : X) → find p xs ≡ Some y → Finds p xs y
found {X} p [] y e = absurd cc
found {X} p (x ∷ xs) y e = by_test (p x) refl e (λ g. found p xs y g)
  where
    by_test : (b : Bool) → p x ≡ b → cond b (Some x) (find p xs) ≡ Some y → (find p xs ≡ Some y → Finds p xs y) → Finds p (x ∷ xs) y
    by_test true t g go = let same : x ≡ y = cc in subst (λ (z : X). Finds p (x ∷ xs) z) same (record { first = ap (λ (b : Bool). cond b (Some x) (find p xs)) t; inside = contains_first x xs; passes = t })
    by_test false t g go = let f = go g in record { first = ap (λ (b : Bool). cond b (Some x) (find p xs)) t ∙ f.first; inside = contains_later x xs y f.inside; passes = f.passes }

clash : (b : Bool) → b ≡ false → b ≡ true → ⊥
clash true s u = absurd cc
clash false s u = absurd cc

pub finds : {X : Type 0} (p : X → Bool) (xs : List X) (x : X) → Contains xs x → p x ≡ true → (y : X) × Finds p xs y
finds {X} p [] x h t = absurd (none_in_nil x h)
finds {X} p (z ∷ xs) x h t = by_test (p z) refl (contains_cases z xs x h) (λ later. finds p xs x later t)
  where
    by_test : (b : Bool) → p z ≡ b → (z ≡ x) ⊎ Contains xs x → (Contains xs x → (y : X) × Finds p xs y) → (y : X) × Finds p (z ∷ xs) y
    by_test true s where_is go = (z, record { first = ap (λ (b : Bool). cond b (Some z) (find p xs)) s; inside = contains_first z xs; passes = s })
    by_test false s where_is go =
        let rest : Contains xs x = ⊎_elim (λ (same : z ≡ x). absurd (clash (p z) s (ap p same ∙ t))) (λ (later : Contains xs x). later) where_is in
        let f = go rest in
        (f.0, record { first = ap (λ (b : Bool). cond b (Some z) (find p xs)) s ∙ f.1.first; inside = contains_later z xs f.0 f.1.inside; passes = f.1.passes })

-- the batches that a certificate names

pub stands_there : (a : CertRef) (c : Node) → place_of c ≡ a → stands a c ≡ true
stands_there a c e = and_from _ _ ((Decides-eqb c.header.round a.round).1 (ap (λ (p : CertRef). p.round) e)) ((Decides-eqb c.header.author a.author).1 (ap (λ (p : CertRef). p.author) e))

pub place_is : (a : CertRef) (c : Node) → stands a c ≡ true → place_of c ≡ a
place_is a c t = let both = and_parts (eqb c.header.round a.round) (eqb c.header.author a.author) t in λ i. record { round = (Decides-eqb c.header.round a.round).0 both.0 i; author = (Decides-eqb c.header.author a.author).0 both.1 i }

named_same : (z : Sizes) (small large : List Node) → IsPartOf small large → IsClear large → (a : CertRef) → IsPresent z small a → named_at small a ≡ named_at large a
named_same z small large within clear a (c, at) =
    let here = admitted_held z small c.header.round c at.admitted in
    let test = stands_there a c at.place in
    let f = finds (stands a) small c here test in
    let g = finds (stands a) large c (within c here) test in
    let inside = within f.0 f.1.inside in
    let places : place_of f.0 ≡ place_of g.0 = place_is a f.0 f.1.passes ∙ sym (place_is a g.0 g.1.passes) in
    let same : f.0 ≡ g.0 = clear.no_collision f.0 g.0 inside g.1.inside (clear.no_twins f.0 g.0 inside g.1.inside places) in
    ap (λ (o : Option Node). unwrap_or (option_map (λ (d : Node). d.header.batches) o) []) (f.1.first ∙ ap Some same ∙ sym g.1.first)

pub names_same : (z : Sizes) (small large : List Node) → IsPartOf small large → IsClear large → (xs : List CertRef) → ((a : CertRef) → Contains xs a → IsPresent z small a) → flat_map (named_at small) xs ≡ flat_map (named_at large) xs
names_same z small large within clear [] here = refl
names_same z small large within clear (a ∷ xs) here =
    let first = named_same z small large within clear a (here a (contains_first a xs)) in
    let others = names_same z small large within clear xs (λ b t. here b (contains_later a xs b t)) in
    flat_map-cons (named_at small) a xs ∙ (λ i. first i ++ others i) ∙ sym (flat_map-cons (named_at large) a xs)

-- the list of batches

once_begins : (xs ys : List (List ℕ)) → IsPrefix (once xs) (once (xs ++ ys))
once_begins [] ys = (once ys, refl)
once_begins (x ∷ xs) ys =
    let h = once_begins xs ys in
    (filter (λ (e : List ℕ). not (bytes_eq x e)) h.0, ap (λ (t : List (List ℕ)). x ∷ filter (λ (e : List ℕ). not (bytes_eq x e)) t) h.1 ∙ ap (λ (t : List (List ℕ)). x ∷ t) (filter-append (λ (e : List ℕ). not (bytes_eq x e)) (once xs) h.0))

payload_same : (few many : List Batch) → IsPartOf few many → AreApart many → (d q : List ℕ) → payload_of few d ≡ Some q → payload_of many d ≡ Some q
payload_same few many within apart d q e = by_first (find (λ (b : Batch). bytes_eq b.digest d) few) refl e
  where
    by_first : (o : Option Batch) → find (λ (b : Batch). bytes_eq b.digest d) few ≡ o → option_map (λ (b : Batch). b.payload) o ≡ Some q → payload_of many d ≡ Some q
    by_first None t g = absurd cc
    by_first (Some b) t g =
        let f = found (λ (x : Batch). bytes_eq x.digest d) few b t in
        let inside = within b f.inside in
        let other = finds (λ (x : Batch). bytes_eq x.digest d) many b inside f.passes in
        let same : other.0 ≡ b = apart other.0 b other.1.inside inside ((bytes_eq-Decides other.0.digest d).0 other.1.passes ∙ sym ((bytes_eq-Decides b.digest d).0 f.passes)) in
        ap (option_map (λ (x : Batch). x.payload)) (other.1.first ∙ ap Some same) ∙ g

pub under_begins : (few many : List Batch) → IsPartOf few many → AreApart many → (ds rest : List (List ℕ)) → IsPrefix (before_missing few ds).list (before_missing many (ds ++ rest)).list
under_begins few many within apart [] rest = ((before_missing many rest).list, refl)
under_begins few many within apart (d ∷ ds) rest = by_payload (payload_of few d) refl (under_begins few many within apart ds rest)
  where
    by_payload : (o : Option (List ℕ)) → payload_of few d ≡ o → IsPrefix (before_missing few ds).list (before_missing many (ds ++ rest)).list
        → IsPrefix (cons_payload o d (before_missing few ds)).list (cons_payload (payload_of many d) d (before_missing many (ds ++ rest))).list
    by_payload None t h = ((cons_payload (payload_of many d) d (before_missing many (ds ++ rest))).list, refl)
    by_payload (Some q) t h =
        let there = payload_same few many within apart d q t in
        (h.0, ap (λ (o : Option (List ℕ)). (cons_payload o d (before_missing many (ds ++ rest))).list) there ∙ ap (λ (ps : List (List ℕ)). q ∷ ps) h.1)

-- so the batches of a growing set only grow, in their order
pub batches_begin : (z : Sizes) (small large : List Node) (few many : List Batch) (xs ys : List CertRef)
    → IsClear large → AreApart many → IsPartOf small large → IsPartOf few many → IsWholeOrder z small xs → IsWholeOrder z large ys
    → IsPrefix (batches_of small few xs).list (batches_of large many ys).list
batches_begin z small large few many xs ys clear apart within inside a b =
    let orders = whole_begins z small large xs ys clear within a b in
    let names = names_same z small large within clear xs (order_present z small (reverse a.anchors) xs a.committed a.ordered) in
    let all : flat_map (named_at large) ys ≡ flat_map (named_at small) xs ++ flat_map (named_at large) orders.0 =
    ap (flat_map (named_at large)) orders.1 ∙ flat_map-append (named_at large) xs orders.0 ∙ ap (λ (t : List (List ℕ)). t ++ flat_map (named_at large) orders.0) (sym names) in
    let h = once_begins (flat_map (named_at small) xs) (flat_map (named_at large) orders.0) in
    let digests : once (flat_map (named_at large) ys) ≡ once (flat_map (named_at small) xs) ++ h.0 = ap once all ∙ h.1 in
    subst (λ (ds : List (List ℕ)). IsPrefix (batches_of small few xs).list (before_missing many ds).list) (sym digests) (under_begins few many inside apart (once (flat_map (named_at small) xs)) h.0)
