-- The rows of the batches of an order.
use Rattle.std.proofs.Common.{◌≡◌, ℕ, zero, suc, ◌+◌, ◌≤◌, List, [], ◌∷◌, ◌++◌, length, map, take, Some, refl, sym, ap, subst, ◌∙◌, arith, length-append}
use Rattle.std.specs.Prelude.{fold, reverse, slice_get}
use Rattle.std.specs.List.{AllZip, Contains, find, flat_map}
use Rattle.std.proofs.lemmas.List.{length-map, take_all}
use Rattle.sha2.specs.Sha256.{sha256}
use Rattle.bk_cert.specs.declared.place.CertRef.{CertRef}
use Rattle.bk_cert.proofs.Lists.{contains_first, contains_later, in_map}
use Rattle.bk_commit.specs.Ordering.{IsCommitted}
use Rattle.bk_flatten.specs.Batches.{once}
use Rattle.bk_flatten.specs.Batches as flatten
use Rattle.bk_flatten.proofs.Orders.{one_order, order_present}
use Rattle.bk_order.specs.Orders.{Ordered}
use Rattle.bk_rounds.specs.Admission.{IsPresent}
use Rattle.bk_rounds.specs.Rounds.{RoundsValue}
use Rattle.bk_tables.specs.Batches.{IsBatchRow, IsOrderedIn, names}
use Rattle.bk_tables.specs.private.Naming.{digests_in, named_at, with_named}
use Rattle.bk_tables.specs.private.Placing.{ArePlaced, certs_of}
use Rattle.bk_tables.specs.private.Rows.{AreRowsOf, IsTakenOf, row_with, rows_with}
use Rattle.bk_tables.specs.declared.batches.BatchRow.{BatchRow}
use Rattle.bk_tables.specs.declared.naming.Named.{Named}
use Rattle.bk_tables.specs.declared.placing.Placed.{Placed}
use Rattle.bk_tables.proofs.Names.{NamesFirst, digests_at, digests_once, firsts_are, names_first}

-- ---- one row after another

-- one item more of a list
take_next : {A : Type 0} (xs : List A) (i : ℕ) (a : A) → slice_get xs i ≡ Some a → take (i + 1) xs ≡ take i xs ++ a ∷ []
take_next [] i a e = absurd cc
take_next (x ∷ xs) zero a e = let same : x ≡ a = cc in ap (λ b. b ∷ []) same
take_next (x ∷ xs) (suc i) a e = let k : suc i + 1 ≡ suc (i + 1) = omega arith in rw k (ap (λ t. x ∷ t) (take_next xs i a e))

row_at : (named : List Named) (payloads : List (List ℕ)) (i : ℕ) (n : Named) (payload : List ℕ) → slice_get named i ≡ Some n → slice_get payloads i ≡ Some payload
    → slice_get (rows_with named payloads) i ≡ Some (row_with n payload)
row_at [] payloads i n payload e f = absurd cc
row_at (m ∷ named) [] i n payload e f = absurd cc
row_at (m ∷ named) (p ∷ payloads) zero n payload e f = let same : m ≡ n = cc in let text : p ≡ payload = cc in (λ j. Some (row_with (same j) (text j)))
row_at (m ∷ named) (p ∷ payloads) (suc i) n payload e f = row_at named payloads i n payload e f

pub row_more : (named : List Named) (payloads : List (List ℕ)) (i : ℕ) (n : Named) (payload : List ℕ) (rows : List BatchRow) (row : BatchRow) → slice_get named i ≡ Some n → slice_get payloads i ≡ Some payload
    → row ≡ row_with n payload → rows ≡ take i (rows_with named payloads) → rows ++ row ∷ [] ≡ take (i + 1) (rows_with named payloads)
row_more named payloads i n payload rows row e f is so_far =
    (λ j. so_far j ++ is j ∷ []) ∙ sym (take_next (rows_with named payloads) i (row_with n payload) (row_at named payloads i n payload e f))

few_rows : (named : List Named) (payloads : List (List ℕ)) → length (rows_with named payloads) ≤ length payloads
few_rows [] payloads = omega arith
few_rows (n ∷ named) [] = omega arith
few_rows (n ∷ named) (p ∷ payloads) = let rest = few_rows named payloads in omega (arith, rest)

pub rows_all : (named : List Named) (payloads : List (List ℕ)) (i : ℕ) (rows : List BatchRow) → length payloads ≤ i → rows ≡ take i (rows_with named payloads) → rows ≡ rows_with named payloads
rows_all named payloads i rows high e = let few = few_rows named payloads in e ∙ take_all i (rows_with named payloads) (omega (arith, few, high))

-- ---- what they say

-- the first certificate of the order that names a digest, and its anchor
record IsNamed (rounds : RoundsValue) (o : Ordered) (n : Named) : Type 0 where
  cert : find (names rounds.held n.digest) o.order ≡ Some n.by.cert
  anchor : IsOrderedIn rounds.sizes rounds.held o.anchors n.by.cert n.by.anchor

rows_are : (rounds : RoundsValue) (o : Ordered) (payloads : List (List ℕ)) (named : List Named) (rest : List (List ℕ)) → digests_in named ≡ map sha256 payloads ++ rest
    → ((n : Named) → Contains named n → IsNamed rounds o n) → AllZip (IsBatchRow rounds.sizes rounds.held o) payloads (rows_with named payloads)
rows_are rounds o [] [] rest e each = tt
rows_are rounds o [] (n ∷ named) rest e each = tt
rows_are rounds o (p ∷ payloads) [] rest e each = absurd cc
rows_are rounds o (p ∷ payloads) (n ∷ named) rest e each =
    let digest : n.digest ≡ sha256 p = cc in
    let more : digests_in named ≡ map sha256 payloads ++ rest = cc in
    let here = each n (contains_first n named) in
    (record { digest_is = digest; cert_is = here.cert; anchor_is = here.anchor; count_is = refl }, rows_are rounds o payloads named rest more (λ m t. each m (contains_later n named m t)))

module _ (rounds : RoundsValue) (o : Ordered) (placed : List Placed) (named : List Named) (are : ArePlaced rounds.sizes rounds.held o.anchors placed) (taken : IsTakenOf rounds o)
    (is : named ≡ fold with_named [] (flat_map (named_at rounds.held) placed)) where
  certs_are : certs_of placed ≡ o.order
  certs_are = one_order rounds.sizes rounds.held (reverse o.anchors) (certs_of placed) o.order are.order taken.order

  digests_are : digests_in named ≡ map sha256 o.payloads.list ++ taken.rest
  digests_are =
      ap digests_in is ∙ digests_once (flat_map (named_at rounds.held) placed)
      ∙ ap once (digests_at rounds.held placed ∙ ap (flat_map (flatten.named_at rounds.held)) certs_are)
      ∙ taken.digests

  pub many_named : length o.payloads.list ≤ length named
  many_named =
      let n = ap length digests_are in
      let a = length-map o.payloads.list sha256 in
      let b = length-map named (λ (m : Named). m.digest) in
      let c = length-append (map sha256 o.payloads.list) taken.rest in
      omega (arith, n, a, b, c)

  each_named : (n : Named) → Contains named n → IsNamed rounds o n
  each_named n t =
      let first : NamesFirst rounds.held placed n.digest n.by =
      names_first rounds.held placed n.digest n (firsts_are (flat_map (named_at rounds.held) placed) n (subst (λ (ns : List Named). Contains ns n) is t)) in
      record {
        cert = subst (λ (cs : List CertRef). find (names rounds.held n.digest) cs ≡ Some n.by.cert) certs_are first.first;
        anchor = are.each n.by first.inside;
      }

  pub all_rows_are : AreRowsOf rounds o (rows_with named o.payloads.list)
  all_rows_are = rows_are rounds o o.payloads.list named taken.rest digests_are each_named

-- what is placed is there
pub placed_present : (rounds : RoundsValue) (anchors : List CertRef) (placed : List Placed) → IsCommitted rounds.sizes rounds.held anchors → ArePlaced rounds.sizes rounds.held anchors placed
    → (p : Placed) → Contains placed p → IsPresent rounds.sizes rounds.held p.cert
placed_present rounds anchors placed settled are p t =
    order_present rounds.sizes rounds.held (reverse anchors) (certs_of placed) settled are.order p.cert (in_map (λ (q : Placed). q.cert) placed p t)
