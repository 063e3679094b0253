-- A feed has one table of batches.
use Rattle.std.proofs.Common.{◌≡◌, ℕ, Bool, cond, List, [], ◌∷◌, Some, refl, sym, ap, subst, ◌∙◌, ⊎_elim, arith}
use Rattle.std.specs.List.{AllZip, Contains, find, list_any}
use Rattle.std.specs.Str.{bytes_eq}
use Rattle.std.proofs.lemmas.List.{append-nil}
use Rattle.std.proofs.lemmas.List.Concat.{flat_map-cons}
use Rattle.bk_cert.specs.Clear.{IsClear}
use Rattle.bk_cert.specs.Node.{Node}
use Rattle.bk_cert.specs.declared.place.CertRef.{CertRef}
use Rattle.bk_cert.proofs.Lists.{contains_cases, contains_first, contains_later, none_in_nil}
use Rattle.bk_committee.specs.Sizes.{Sizes}
use Rattle.bk_commit.specs.Growth.{IsPartOf}
use Rattle.bk_commit.proofs.Grown.{history_more}
use Rattle.bk_flatten.specs.Batches.{named_at}
use Rattle.bk_flatten.proofs.Growth.{names_same}
use Rattle.bk_rounds.specs.Admission.{IsPresent}
use Rattle.bk_order.specs.Orders.{Ordered}
use Rattle.bk_tables.specs.Batches.{IsBatchRow, IsOrderedIn, names}
use Rattle.bk_tables.specs.declared.batches.BatchRow.{BatchRow}

-- tests that agree on a list find the same
find_alike : (p q : CertRef → Bool) (xs : List CertRef) → ((x : CertRef) → Contains xs x → p x ≡ q x) → find p xs ≡ find q xs
find_alike p q [] same = refl
find_alike p q (x ∷ xs) same =
    let here = same x (contains_first x xs) in
    let rest = find_alike p q xs (λ y t. same y (contains_later x xs y t)) in
    λ i. cond (here i) (Some x) (rest i)

some_cert : (a b : CertRef) → Some a ≡ Some b → a ≡ b
some_cert a b e = cc

-- ---- two lists with the same certificates

module _ (z : Sizes) (xs ys : List Node) (into : IsPartOf xs ys) (back : IsPartOf ys xs) (clear : IsClear ys) (o : Ordered) (present : (a : CertRef) → Contains o.order a → IsPresent z xs a) where
  -- name the same batches
  named_alike : (a : CertRef) → Contains o.order a → named_at xs a ≡ named_at ys a
  named_alike a t =
      let one : (b : CertRef) → Contains (a ∷ []) b → IsPresent z xs b = λ b u. ⊎_elim (λ (e : a ≡ b). subst (IsPresent z xs) e (present a t)) (λ (later : Contains [] b). absurd (none_in_nil b later)) (contains_cases a [] b u) in
      sym (append-nil (named_at xs a)) ∙ sym (flat_map-cons (named_at xs) a [])
      ∙ names_same z xs ys into clear (a ∷ []) one
      ∙ flat_map-cons (named_at ys) a [] ∙ append-nil (named_at ys a)

  -- were ordered with the same anchors
  one_anchor : (a : CertRef) (r q : ℕ) → IsOrderedIn z xs o.anchors a r → IsOrderedIn z ys o.anchors a q → r ≡ q
  one_anchor a r q h g =
      let low = h.first g.anchor g.committed (history_more z ys xs back g.anchor a g.reached) in
      let high = g.first h.anchor h.committed (history_more z xs ys into h.anchor a h.reached) in
      let e = h.round_is in
      let f = g.round_is in
      let both : r ≡ q = omega (arith, low, high, e, f) in both

  one_row : (payload : List ℕ) (row other : BatchRow) → IsBatchRow z xs o payload row → IsBatchRow z ys o payload other → row ≡ other
  one_row payload row other h g =
      let digest : row.digest ≡ other.digest = h.digest_is ∙ sym g.digest_is in
      let cert : row.cert ≡ other.cert = some_cert row.cert other.cert (
      sym h.cert_is
      ∙ find_alike (names xs row.digest) (names ys row.digest) o.order (λ a t. ap (λ (ds : List (List ℕ)). list_any (bytes_eq row.digest) ds) (named_alike a t))
      ∙ ap (λ (d : List ℕ). find (names ys d) o.order) digest
      ∙ g.cert_is
      ) in
      let anchor : row.anchor ≡ other.anchor = one_anchor other.cert row.anchor other.anchor (subst (λ (a : CertRef). IsOrderedIn z xs o.anchors a row.anchor) cert h.anchor_is) g.anchor_is in
      let count : row.count ≡ other.count = h.count_is ∙ sym g.count_is in
      λ i. record { digest = digest i; cert = cert i; anchor = anchor i; count = count i }

  pub one_rows : (payloads : List (List ℕ)) (rows others : List BatchRow) → AllZip (IsBatchRow z xs o) payloads rows → AllZip (IsBatchRow z ys o) payloads others → rows ≡ others
  one_rows [] [] [] h g = refl
  one_rows [] [] (q ∷ others) h g = absurd g
  one_rows [] (r ∷ rows) others h g = absurd h
  one_rows (p ∷ payloads) [] others h g = absurd h
  one_rows (p ∷ payloads) (r ∷ rows) [] h g = absurd g
  one_rows (p ∷ payloads) (r ∷ rows) (q ∷ others) h g =
      let here = one_row p r q h.0 g.0 in
      let rest = one_rows payloads rows others h.1 g.1 in
      λ i. here i ∷ rest i
