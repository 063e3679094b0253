-- The first digest that is missing.
use Rattle.std.proofs.Common.{◌≡◌, ℕ, Bool, true, false, cond, List, [], ◌∷◌, ◌++◌, Option, Some, None, refl, sym, ap, ◌∙◌}
use Rattle.std.specs.Prelude.{filter, not, option_map, slice_get}
use Rattle.std.specs.List.{flat_map}
use Rattle.std.specs.Str.{bytes_eq}
use Rattle.std.proofs.lemmas.List.{map-append}
use Rattle.std.proofs.lemmas.List.Concat.{flat_map-cons}
use Rattle.bk_cert.specs.Node.{Node}
use Rattle.bk_cert.specs.declared.place.CertRef.{CertRef}
use Rattle.bk_evidence.specs.Batches.{Batch, payload_of}
use Rattle.bk_flatten.specs.Batches.{before_missing, cons_payload, digests_of, named_at, once}
use Rattle.bk_diagnosis.specs.Laws.{FirstIsMissing}
use Rattle.bk_diagnosis.specs.Missing.{Naming, first_namings, is_none, missing_in, namings}
use Rattle.bk_diagnosis.specs.private.Lacking.{digests_in, named_by}

filter_digests : (p : List ℕ → Bool) (ns : List Naming) → digests_in (filter (λ (n : Naming). p n.digest) ns) ≡ filter p (digests_in ns)
filter_digests p [] = refl
filter_digests p (n ∷ ns) = by_test (p n.digest) (filter_digests p ns)
  where
    rest : List Naming
    rest = filter (λ (m : Naming). p m.digest) ns

    by_test : (b : Bool) → digests_in rest ≡ filter p (digests_in ns) → digests_in (cond b (n ∷ rest) rest) ≡ cond b (n.digest ∷ filter p (digests_in ns)) (filter p (digests_in ns))
    by_test true h = ap (λ (ds : List (List ℕ)). n.digest ∷ ds) h
    by_test false h = h

-- each digest once
pub digests_once : (ns : List Naming) → digests_in (first_namings ns) ≡ once (digests_in ns)
digests_once [] = refl
digests_once (n ∷ ns) =
    ap (λ (ds : List (List ℕ)). n.digest ∷ ds)
    (filter_digests (λ (d : List ℕ). not (bytes_eq n.digest d)) (first_namings ns) ∙ ap (filter (λ (d : List ℕ). not (bytes_eq n.digest d))) (digests_once ns))

digests_by : (a : CertRef) (ds : List (List ℕ)) → digests_in (named_by a ds) ≡ ds
digests_by a [] = refl
digests_by a (d ∷ ds) = ap (λ (es : List (List ℕ)). d ∷ es) (digests_by a ds)

pub digests_named : (certs : List Node) (order : List CertRef) → digests_in (namings certs order) ≡ flat_map (named_at certs) order
digests_named certs [] = refl
digests_named certs (a ∷ order) =
    ap digests_in (flat_map-cons (λ (b : CertRef). named_by b (named_at certs b)) a order)
    ∙ map-append (λ (n : Naming). n.digest) (named_by a (named_at certs a)) (namings certs order)
    ∙ (λ i. digests_by a (named_at certs a) i ++ digests_named certs order i)
    ∙ sym (flat_map-cons (named_at certs) a order)

-- the digests of which there is no batch
abbrev is_gone : List Batch → List ℕ → Bool
is_gone batches d = is_none (payload_of batches d)

missing_first : (batches : List Batch) (ds : List (List ℕ)) → slice_get (filter (is_gone batches) ds) 0 ≡ (before_missing batches ds).missing
missing_first batches [] = refl
missing_first batches (d ∷ ds) = by_payload (payload_of batches d) (missing_first batches ds)
  where
    rest : List (List ℕ)
    rest = filter (is_gone batches) ds

    by_payload : (o : Option (List ℕ)) → slice_get rest 0 ≡ (before_missing batches ds).missing → slice_get (cond (is_none o) (d ∷ rest) rest) 0 ≡ (cons_payload o d (before_missing batches ds)).missing
    by_payload None h = refl
    by_payload (Some payload) h = h

first_digest : (ns : List Naming) → option_map (λ (n : Naming). n.digest) (slice_get ns 0) ≡ slice_get (digests_in ns) 0
first_digest [] = refl
first_digest (n ∷ ns) = refl

pub first_missing : FirstIsMissing
first_missing certs batches order =
    first_digest (missing_in certs batches order)
    ∙ ap (λ (ds : List (List ℕ)). slice_get ds 0) (
    filter_digests (is_gone batches) (first_namings (namings certs order))
    ∙ ap (filter (is_gone batches)) (digests_once (namings certs order) ∙ ap once (digests_named certs order)))
    ∙ missing_first batches (digests_of certs order)
