-- The first of each digest that certificates name.
use Rattle.std.proofs.Common.{◌≡◌, ℕ, ◌+◌, ◌<◌, Bool, true, false, cond, ◌||◌, List, [], ◌∷◌, ◌++◌, length, take, get_or, Some, None, refl, sym, ap, subst, ◌∙◌, ⊎_elim, append_assoc}
use Rattle.std.specs.Prelude.{fold}
use Rattle.std.specs.List.{Contains, find, flat_map, list_any}
use Rattle.std.specs.Str.{bytes_eq}
use Rattle.std.proofs.lemmas.List.{append-nil, map-append, take_more}
use Rattle.std.proofs.lemmas.List.Concat.{flat_map-append, flat_map-cons}
use Rattle.std.proofs.lemmas.List.Elements.{Contains-append_cases}
use Rattle.std.proofs.lemmas.List.Sums.{fold-append}
use Rattle.std.proofs.lemmas.Slice.Eq.{bytes_eq-Decides}
use Rattle.bk_cert.specs.Node.{Node}
use Rattle.bk_cert.proofs.Lists.{none_in_nil, contains_cases, contains_first, contains_later}
use Rattle.bk_flatten.specs.Batches as flatten
use Rattle.bk_flatten.specs.Batches.{once}
use Rattle.bk_flatten.specs.private.Listing.{with_digest, with_digests}
use Rattle.bk_flatten.proofs.Taken.{once_grows, once_push}
use Rattle.bk_order.proofs.OnceMore.{any_once}
use Rattle.bk_tables.specs.Batches.{names}
use Rattle.bk_tables.specs.private.Naming.{digests_in, named_at, named_by, with_named}
use Rattle.bk_tables.specs.private.Placing.{certs_of}
use Rattle.bk_tables.specs.declared.naming.Named.{Named}
use Rattle.bk_tables.specs.declared.placing.Placed.{Placed}

-- ---- one more

pub digests_more : (list : List Named) (n : Named) → digests_in (list ++ n ∷ []) ≡ digests_in list ++ n.digest ∷ []
digests_more list n = map-append (λ (m : Named). m.digest) list (n ∷ [])

-- the digest of one more is tried against those of the list
any_digests : (d : List ℕ) (list : List Named) → list_any (λ (m : Named). bytes_eq d m.digest) list ≡ list_any (bytes_eq d) (digests_in list)
any_digests d [] = refl
any_digests d (m ∷ list) = ap (λ (b : Bool). bytes_eq d m.digest || b) (any_digests d list)

pub named_added : (list now : List Named) (n : Named) → now ≡ cond (list_any (λ (m : Named). bytes_eq n.digest m.digest) list) list (list ++ n ∷ []) → now ≡ with_named list n
named_added list now n is = is ∙ ap (λ (b : Bool). cond b list (list ++ n ∷ [])) (any_digests n.digest list)

pub certs_one_more : (held : List Node) (placed : List Placed) (k : ℕ) (by d : Placed) (old now more : List Named) → k < length placed → get_or placed k d ≡ by
    → now ≡ fold with_named old (flat_map (named_at held) (take k placed)) → more ≡ fold with_named now (named_at held by)
    → more ≡ fold with_named old (flat_map (named_at held) (take (k + 1) placed))
certs_one_more held placed k by d old now more low here is e =
    e ∙ ap (λ (ns : List Named). fold with_named ns (named_at held by)) is
    ∙ sym (fold-append with_named old (flat_map (named_at held) (take k placed)) (named_at held by))
    ∙ ap (fold with_named old) (sym (
    ap (flat_map (named_at held)) (take_more placed k d low ∙ ap (λ (x : Placed). take k placed ++ x ∷ []) here)
    ∙ flat_map-append (named_at held) (take k placed) (by ∷ [])
    ∙ ap (λ (ns : List Named). flat_map (named_at held) (take k placed) ++ ns) (flat_map-cons (named_at held) by [] ∙ append-nil (named_at held by))))

-- ---- each digest once

digest_with : (list : List Named) (n : Named) → digests_in (with_named list n) ≡ with_digest (digests_in list) n.digest
digest_with list n = by_test (list_any (bytes_eq n.digest) (digests_in list))
  where
    by_test : (b : Bool) → digests_in (cond b list (list ++ n ∷ [])) ≡ cond b (digests_in list) (digests_in list ++ n.digest ∷ [])
    by_test true = refl
    by_test false = digests_more list n

digests_with : (ns list : List Named) → digests_in (fold with_named list ns) ≡ with_digests (digests_in list) (digests_in ns)
digests_with [] list = refl
digests_with (n ∷ ns) list = digests_with ns (with_named list n) ∙ ap (λ (ds : List (List ℕ)). with_digests ds (digests_in ns)) (digest_with list n)

pub digests_once : (ns : List Named) → digests_in (fold with_named [] ns) ≡ once (digests_in ns)
digests_once ns = digests_with ns [] ∙ once_grows (digests_in ns) []

digests_by : (by : Placed) (ds : List (List ℕ)) → digests_in (named_by by ds) ≡ ds
digests_by by [] = refl
digests_by by (d ∷ ds) = ap (λ (xs : List (List ℕ)). d ∷ xs) (digests_by by ds)

-- the digests that certificates name
pub digests_at : (held : List Node) (placed : List Placed) → digests_in (flat_map (named_at held) placed) ≡ flat_map (flatten.named_at held) (certs_of placed)
digests_at held [] = refl
digests_at held (p ∷ ps) =
    ap digests_in (flat_map-cons (named_at held) p ps)
    ∙ map-append (λ (m : Named). m.digest) (named_at held p) (flat_map (named_at held) ps)
    ∙ (λ i. digests_by p (flatten.named_at held p.cert) i ++ digests_at held ps i)
    ∙ sym (flat_map-cons (flatten.named_at held) p.cert (certs_of ps))

-- ---- the first of a digest

abbrev same : List ℕ → Named → Bool
same d m = bytes_eq d m.digest

abbrev pub IsFirst : List Named → Named → Type 0
IsFirst seen n = find (λ (m : Named). bytes_eq n.digest m.digest) seen ≡ Some n

find_more : (d : List ℕ) (xs ys : List Named) (n : Named) → find (same d) xs ≡ Some n → find (same d) (xs ++ ys) ≡ Some n
find_more d [] ys n e = absurd cc
find_more d (x ∷ xs) ys n e = by_test (same d x) e (λ k. find_more d xs ys n k)
  where
    by_test : (b : Bool) → cond b (Some x) (find (same d) xs) ≡ Some n → (find (same d) xs ≡ Some n → find (same d) (xs ++ ys) ≡ Some n) → cond b (Some x) (find (same d) (xs ++ ys)) ≡ Some n
    by_test true k rest = k
    by_test false k rest = rest k

same_itself : (d : List ℕ) → bytes_eq d d ≡ true
same_itself d = (bytes_eq-Decides d d).1 refl

find_last : (n : Named) (xs : List Named) → list_any (bytes_eq n.digest) (digests_in xs) ≡ false → find (same n.digest) (xs ++ n ∷ []) ≡ Some n
find_last n [] e = ap (λ (b : Bool). cond b (Some n) None) (same_itself n.digest)
find_last n (x ∷ xs) e = by_test (same n.digest x) e (λ k. find_last n xs k)
  where
    by_test : (b : Bool) → (b || list_any (bytes_eq n.digest) (digests_in xs)) ≡ false → (list_any (bytes_eq n.digest) (digests_in xs) ≡ false → find (same n.digest) (xs ++ n ∷ []) ≡ Some n)
        → cond b (Some x) (find (same n.digest) (xs ++ n ∷ [])) ≡ Some n
    by_test true k rest = absurd cc
    by_test false k rest = rest k

firsts_from : (ns seen list : List Named) → digests_in list ≡ once (digests_in seen) → ((n : Named) → Contains list n → IsFirst seen n) → (n : Named) → Contains (fold with_named list ns) n → IsFirst (seen ++ ns) n
firsts_from [] seen list e each n t = subst (λ (xs : List Named). IsFirst xs n) (sym (append-nil seen)) (each n t)
firsts_from (m ∷ ns) seen list e each n t =
    subst (λ (xs : List Named). IsFirst xs n) (append_assoc seen (m ∷ []) ns)
    (firsts_from ns (seen ++ m ∷ []) (with_named list m) digests (one_more (list_any (bytes_eq m.digest) (digests_in list)) refl) n t)
  where
    digests : digests_in (with_named list m) ≡ once (digests_in (seen ++ m ∷ []))
    digests = digest_with list m ∙ ap (λ (ds : List (List ℕ)). with_digest ds m.digest) e ∙ sym (once_push (digests_in seen) m.digest) ∙ ap once (sym (digests_more seen m))

    new : list_any (bytes_eq m.digest) (digests_in list) ≡ false → list_any (bytes_eq m.digest) (digests_in seen) ≡ false
    new k = sym (any_once m.digest (digests_in seen)) ∙ ap (list_any (bytes_eq m.digest)) (sym e) ∙ k

    one_more : (b : Bool) → list_any (bytes_eq m.digest) (digests_in list) ≡ b → (k : Named) → Contains (cond b list (list ++ m ∷ [])) k → IsFirst (seen ++ m ∷ []) k
    one_more true is k u = find_more k.digest seen (m ∷ []) k (each k u)
    one_more false is k u = ⊎_elim
        (λ (old : Contains list k). find_more k.digest seen (m ∷ []) k (each k old))
        (λ (last : Contains (m ∷ []) k). ⊎_elim (λ (here : m ≡ k). subst (IsFirst (seen ++ m ∷ [])) here (find_last m seen (new is))) (λ (nothing : Contains [] k). absurd (none_in_nil k nothing)) (contains_cases m [] k last))
        (Contains-append_cases list (m ∷ []) k u)

pub firsts_are : (ns : List Named) (n : Named) → Contains (fold with_named [] ns) n → IsFirst ns n
firsts_are ns n t = firsts_from ns [] [] refl (λ k u. absurd (none_in_nil k u)) n t

-- ---- the certificate that names it

-- the batches that a certificate names and others: the first of a digest is one of its, or it names none
data InPart (p : Placed) (d : List ℕ) (ds : List (List ℕ)) (rest : List Named) (n : Named) : Type 0 where
  here : list_any (bytes_eq d) ds ≡ true → p ≡ n.by → InPart p d ds rest n
  later : list_any (bytes_eq d) ds ≡ false → find (same d) rest ≡ Some n → InPart p d ds rest n

in_part : (p : Placed) (d : List ℕ) (ds : List (List ℕ)) (rest : List Named) (n : Named) → find (same d) (named_by p ds ++ rest) ≡ Some n → InPart p d ds rest n
in_part p d [] rest n e = later refl e
in_part p d (x ∷ ds) rest n e = by_test (bytes_eq d x) refl e (λ k. in_part p d ds rest n k)
  where
    more : bytes_eq d x ≡ false → InPart p d ds rest n → InPart p d (x ∷ ds) rest n
    more t (here any is) = here (ap (λ (b : Bool). b || list_any (bytes_eq d) ds) t ∙ any) is
    more t (later any k) = later (ap (λ (b : Bool). b || list_any (bytes_eq d) ds) t ∙ any) k

    by_test : (b : Bool) → bytes_eq d x ≡ b → cond b (Some (record { digest = x; by = p })) (find (same d) (named_by p ds ++ rest)) ≡ Some n → (find (same d) (named_by p ds ++ rest) ≡ Some n → InPart p d ds rest n) → InPart p d (x ∷ ds) rest n
    by_test true t k go = here (ap (λ (b : Bool). b || list_any (bytes_eq d) ds) t) (let e : record { digest = x; by = p } ≡ n = cc in ap (λ (m : Named). m.by) e)
    by_test false t k go = more t (go k)

-- it is the first certificate that names the digest
pub record NamesFirst (held : List Node) (placed : List Placed) (d : List ℕ) (by : Placed) : Type 0 where
  pub first : find (names held d) (certs_of placed) ≡ Some by.cert
  pub inside : Contains placed by

pub names_first : (held : List Node) (placed : List Placed) (d : List ℕ) (n : Named) → find (same d) (flat_map (named_at held) placed) ≡ Some n → NamesFirst held placed d n.by
names_first held [] d n e = absurd cc
names_first held (p ∷ ps) d n e =
    by_part (in_part p d (flatten.named_at held p.cert) (flat_map (named_at held) ps) n (ap (find (same d)) (sym (flat_map-cons (named_at held) p ps)) ∙ e)) (λ k. names_first held ps d n k)
  where
    by_part : InPart p d (flatten.named_at held p.cert) (flat_map (named_at held) ps) n → (find (same d) (flat_map (named_at held) ps) ≡ Some n → NamesFirst held ps d n.by) → NamesFirst held (p ∷ ps) d n.by
    by_part (here any is) go = record {
      first = ap (λ (b : Bool). cond b (Some p.cert) (find (names held d) (certs_of ps))) any ∙ ap (λ (q : Placed). Some q.cert) is;
      inside = subst (Contains (p ∷ ps)) is (contains_first p ps);
    }
    by_part (later any k) go =
        let rest = go k in
        record {
          first = ap (λ (b : Bool). cond b (Some p.cert) (find (names held d) (certs_of ps))) any ∙ rest.first;
          inside = contains_later p ps n.by rest.inside;
        }
