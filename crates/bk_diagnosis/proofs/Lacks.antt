-- The digests that an order names and that no batch has, each where it is named first.
use Rattle.std.proofs.Common.{◌≡◌, ℕ, ◌+◌, ◌<◌, Bool, true, false, cond, ◌||◌, List, [], ◌∷◌, ◌++◌, length, map, take, get_or, Option, Some, None, refl, sym, ap, subst, ◌∙◌, append_assoc}
use Rattle.std.specs.Prelude.{fold, filter, is_some, not, option_map, ◌&&◌}
use Rattle.std.proofs.lemmas.Bool.{both_ways}
use Rattle.std.specs.List.{list_any}
use Rattle.std.specs.Str.{bytes_eq}
use Rattle.std.proofs.lemmas.List.{append-nil, map-append, take_more}
use Rattle.std.proofs.lemmas.List.Concat.{flat_map-append, flat_map-cons}
use Rattle.std.proofs.lemmas.List.Elements.{filter_agree}
use Rattle.std.proofs.lemmas.List.Folds.{list_any-append}
use Rattle.std.proofs.lemmas.List.Sums.{fold-append}
use Rattle.std.proofs.lemmas.Slice.Eq.{bytes_eq-Decides}
use Rattle.bk_cert.specs.Node.{Node}
use Rattle.bk_cert.specs.declared.place.CertRef.{CertRef}
use Rattle.bk_evidence.specs.Batches.{Batch, payload_of}
use Rattle.bk_flatten.specs.Batches.{named_at}
use Rattle.bk_flatten.proofs.Listing.{same_back}
use Rattle.bk_diagnosis.specs.Missing.{Naming, first_namings, is_lacking, is_none, missing_in, namings}
use Rattle.bk_diagnosis.specs.private.Lacking.{digests_in, named_by, naming_of, with_lacking}
use Rattle.bk_diagnosis.specs.declared.lacking.Lack.{Lack}

-- ---- one more

-- no batch is there where none is found
pub none_found : {X : Type 0} (f : X → List ℕ) (o : Option X) → is_some o ≡ false → is_none (option_map f o) ≡ true
none_found f None h = refl
none_found f (Some x) h = absurd (both_ways true h refl)

-- the digest of one more is tried against those of the list
any_digests : (d : List ℕ) (items : List Lack) → list_any (λ (m : Lack). bytes_eq d m.digest) items ≡ list_any (bytes_eq d) (digests_in (map naming_of items))
any_digests d [] = refl
any_digests d (m ∷ items) = ap (λ (b : Bool). bytes_eq d m.digest || b) (any_digests d items)

lacks_with : (b : Bool) (items : List Lack) (l : Lack) → map naming_of (cond b items (items ++ l ∷ [])) ≡ cond b (map naming_of items) (map naming_of items ++ naming_of l ∷ [])
lacks_with true items l = refl
lacks_with false items l = map-append naming_of items (l ∷ [])

pub lack_added : (batches : List Batch) (items now : List Lack) (l : Lack) → is_lacking batches (naming_of l) ≡ true
    → now ≡ cond (list_any (λ (m : Lack). bytes_eq l.digest m.digest) items) items (items ++ l ∷ []) → map naming_of now ≡ with_lacking batches (map naming_of items) (naming_of l)
lack_added batches items now l lacking is =
    let list : List Naming = map naming_of items in
    let more : List Naming = list ++ naming_of l ∷ [] in
    ap (map naming_of) is
    ∙ lacks_with (list_any (λ (m : Lack). bytes_eq l.digest m.digest) items) items l
    ∙ ap (λ (b : Bool). cond b list more) (any_digests l.digest items)
    ∙ sym (ap (λ (b : Bool). cond b (cond (list_any (bytes_eq l.digest) (digests_in list)) list more) list) lacking)

-- what the certificate at a place names
abbrev at_place : List Node → CertRef → List Naming
at_place certs a = named_by a (named_at certs a)

pub places_one_more : (batches : List Batch) (certs : List Node) (order : List CertRef) (k : ℕ) (a d : CertRef) (now more : List Naming) → k < length order → get_or order k d ≡ a
    → now ≡ fold (with_lacking batches) [] (namings certs (take k order)) → more ≡ fold (with_lacking batches) now (named_by a (named_at certs a))
    → more ≡ fold (with_lacking batches) [] (namings certs (take (k + 1) order))
places_one_more batches certs order k a d now more low here is e =
    e ∙ ap (λ (ns : List Naming). fold (with_lacking batches) ns (at_place certs a)) is
    ∙ sym (fold-append (with_lacking batches) [] (namings certs (take k order)) (at_place certs a))
    ∙ ap (fold (with_lacking batches) []) (sym (
    ap (namings certs) (take_more order k d low ∙ ap (λ (x : CertRef). take k order ++ x ∷ []) here)
    ∙ flat_map-append (at_place certs) (take k order) (a ∷ [])
    ∙ ap (λ (ns : List Naming). namings certs (take k order) ++ ns) (flat_map-cons (at_place certs) a [] ∙ append-nil (at_place certs a))))

-- ---- tests

filter_twice : {X : Type 0} (p q : X → Bool) (xs : List X) → filter p (filter q xs) ≡ filter (λ (x : X). q x && p x) xs
filter_twice p q [] = refl
filter_twice {X} p q (x ∷ xs) = by_test (q x) (filter_twice p q xs)
  where
    both : List X
    both = filter (λ (y : X). q y && p y) xs

    by_test : (b : Bool) → filter p (filter q xs) ≡ both → filter p (cond b (x ∷ filter q xs) (filter q xs)) ≡ cond (b && p x) (x ∷ both) both
    by_test true h = λ i. cond (p x) (x ∷ h i) (h i)
    by_test false h = h

none_and : (b : Bool) → (b && false) ≡ false
none_and true = refl
none_and false = refl

or_none : (b : Bool) → (b || (false || false)) ≡ b
or_none true = refl
or_none false = refl

or_some : (b : Bool) → (b || (true || false)) ≡ true
or_some true = refl
or_some false = refl

-- its digest is not in the list
abbrev is_new : List Naming → Naming → Bool
is_new list m = not (list_any (bytes_eq m.digest) (digests_in list))

-- it has another digest
abbrev is_other : Naming → Naming → Bool
is_other n m = not (bytes_eq n.digest m.digest)

new_last : (list : List Naming) (n m : Naming) → is_new (list ++ n ∷ []) m ≡ not (list_any (bytes_eq m.digest) (digests_in list) || (bytes_eq m.digest n.digest || false))
new_last list n m =
    ap (λ (ds : List (List ℕ)). not (list_any (bytes_eq m.digest) ds)) (map-append (λ (k : Naming). k.digest) list (n ∷ []))
    ∙ ap not (list_any-append (bytes_eq m.digest) (digests_in list) (n.digest ∷ []))

module _ (batches : List Batch) (n m : Naming) where
  -- what has another digest than one with a batch
  other_lacks : is_lacking batches n ≡ false → (is_other n m && is_lacking batches m) ≡ is_lacking batches m
  other_lacks e = by_test (bytes_eq n.digest m.digest) refl
    where
      by_test : (b : Bool) → bytes_eq n.digest m.digest ≡ b → (not b && is_lacking batches m) ≡ is_lacking batches m
      by_test true t = sym e ∙ ap (λ (d : List ℕ). is_none (payload_of batches d)) ((bytes_eq-Decides n.digest m.digest).0 t)
      by_test false t = refl

  -- what is new has another digest than one in the list
  new_other : (list : List Naming) → list_any (bytes_eq n.digest) (digests_in list) ≡ true
      → ((is_other n m && is_lacking batches m) && is_new list m) ≡ (is_lacking batches m && is_new list m)
  new_other list e = by_test (bytes_eq n.digest m.digest) refl
    where
      by_test : (b : Bool) → bytes_eq n.digest m.digest ≡ b → ((not b && is_lacking batches m) && is_new list m) ≡ (is_lacking batches m && is_new list m)
      by_test true t = sym (ap (λ (b : Bool). is_lacking batches m && not b) (subst (λ (d : List ℕ). list_any (bytes_eq d) (digests_in list) ≡ true) ((bytes_eq-Decides n.digest m.digest).0 t) e) ∙ none_and (is_lacking batches m))
      by_test false t = refl

  -- and than the last one
  new_both : (list : List Naming) → ((is_other n m && is_lacking batches m) && is_new list m) ≡ (is_lacking batches m && is_new (list ++ n ∷ []) m)
  new_both list = by_test (bytes_eq n.digest m.digest) refl
    where
      by_test : (b : Bool) → bytes_eq n.digest m.digest ≡ b → ((not b && is_lacking batches m) && is_new list m) ≡ (is_lacking batches m && is_new (list ++ n ∷ []) m)
      by_test true t = sym (
          ap (λ (b : Bool). is_lacking batches m && b) (new_last list n m ∙ ap (λ (b : Bool). not (list_any (bytes_eq m.digest) (digests_in list) || (b || false))) (same_back n.digest m.digest true t)
          ∙ ap not (or_some (list_any (bytes_eq m.digest) (digests_in list))))
          ∙ none_and (is_lacking batches m))
      by_test false t = sym (
          ap (λ (b : Bool). is_lacking batches m && b) (new_last list n m ∙ ap (λ (b : Bool). not (list_any (bytes_eq m.digest) (digests_in list) || (b || false))) (same_back n.digest m.digest false t)
          ∙ ap not (or_none (list_any (bytes_eq m.digest) (digests_in list)))))

-- ---- all of them

module _ (batches : List Batch) where
  -- those of these that are not in the list
  abbrev left : List Naming → List Naming → List Naming
  left list ns = filter (is_new list) (filter (is_lacking batches) (first_namings ns))

  left_of : (list ns : List Naming) → left list ns ≡ filter (λ (m : Naming). is_lacking batches m && is_new list m) (first_namings ns)
  left_of list ns = filter_twice (is_new list) (is_lacking batches) (first_namings ns)

  others_left : (list : List Naming) (n : Naming) (ns : List Naming)
      → filter (is_new list) (filter (is_lacking batches) (filter (is_other n) (first_namings ns)))
      ≡ filter (λ (m : Naming). (is_other n m && is_lacking batches m) && is_new list m) (first_namings ns)
  others_left list n ns =
      ap (filter (is_new list)) (filter_twice (is_lacking batches) (is_other n) (first_namings ns))
      ∙ filter_twice (is_new list) (λ (m : Naming). is_other n m && is_lacking batches m) (first_namings ns)

  grown : (ns list : List Naming) → fold (with_lacking batches) list ns ≡ list ++ left list ns
  grown [] list = sym (append-nil list)
  grown (n ∷ ns) list =
      by_lack (is_lacking batches n) refl (list_any (bytes_eq n.digest) (digests_in list)) refl (λ more. grown ns more)
    where
      others : List Naming
      others = filter (is_lacking batches) (filter (is_other n) (first_namings ns))

      rest : List Naming
      rest = filter (is_new list) others

      by_lack : (lack : Bool) → is_lacking batches n ≡ lack → (known : Bool) → list_any (bytes_eq n.digest) (digests_in list) ≡ known → ((more : List Naming) → fold (with_lacking batches) more ns ≡ more ++ left more ns)
          → fold (with_lacking batches) (cond lack (cond known list (list ++ n ∷ [])) list) ns ≡ list ++ filter (is_new list) (cond lack (n ∷ others) others)
      by_lack false e known k go =
          go list ∙ ap (λ (ms : List Naming). list ++ ms) (
          left_of list ns
          ∙ filter_agree (λ (m : Naming). is_lacking batches m && is_new list m) (λ (m : Naming). (is_other n m && is_lacking batches m) && is_new list m)
          (λ m. ap (λ (b : Bool). b && is_new list m) (sym (other_lacks batches n m e))) (first_namings ns)
          ∙ sym (others_left list n ns))
      by_lack true e true k go =
          go list ∙ ap (λ (ms : List Naming). list ++ ms) (
          left_of list ns
          ∙ filter_agree (λ (m : Naming). is_lacking batches m && is_new list m) (λ (m : Naming). (is_other n m && is_lacking batches m) && is_new list m)
          (λ m. sym (new_other batches n m list k)) (first_namings ns)
          ∙ sym (others_left list n ns)
          ∙ sym (ap (λ (b : Bool). cond (not b) (n ∷ rest) rest) k))
      by_lack true e false k go =
          go (list ++ n ∷ []) ∙ append_assoc list (n ∷ []) (left (list ++ n ∷ []) ns) ∙ ap (λ (ms : List Naming). list ++ ms) (
          ap (λ (ms : List Naming). n ∷ ms) (
          left_of (list ++ n ∷ []) ns
          ∙ filter_agree (λ (m : Naming). is_lacking batches m && is_new (list ++ n ∷ []) m) (λ (m : Naming). (is_other n m && is_lacking batches m) && is_new list m)
          (λ m. sym (new_both batches n m list)) (first_namings ns)
          ∙ sym (others_left list n ns))
          ∙ sym (ap (λ (b : Bool). cond (not b) (n ∷ rest) rest) k))

all_new : (ns : List Naming) → filter (is_new []) ns ≡ ns
all_new [] = refl
all_new (n ∷ ns) = ap (λ (ms : List Naming). n ∷ ms) (all_new ns)

pub lacks_all : (batches : List Batch) (certs : List Node) (order : List CertRef) (lacks : List Naming) → lacks ≡ fold (with_lacking batches) [] (namings certs order) → lacks ≡ missing_in certs batches order
lacks_all batches certs order lacks e = e ∙ grown batches (namings certs order) [] ∙ all_new (missing_in certs batches order)
