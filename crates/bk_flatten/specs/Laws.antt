-- What the definitions of the order and of its batches say together.
use Rattle.std.specs.Prelude.{◌≡◌, ℕ, List, ◌++◌, Contains, ◌↔◌}
use Rattle.bk_committee.specs.Sizes.{Sizes}
use Rattle.bk_cert.specs.Node.{Node}
use Rattle.bk_cert.specs.Clear.{IsClear}
use Rattle.bk_cert.specs.declared.place.CertRef.{CertRef}
use Rattle.bk_rounds.specs.Admission.{IsPresent}
use Rattle.bk_commit.specs.Ordering.{InHistory, IsWayBack}
use Rattle.bk_commit.specs.Growth.{IsPartOf, IsPrefix}
use Rattle.bk_flatten.specs.Order.{IsOrder, IsOrderBack, IsWholeOrder}
use Rattle.bk_evidence.specs.Batches.{Batch, AreApart}
use Rattle.bk_evidence.specs.declared.batches.BatchRef.{BatchRef}
use Rattle.bk_flatten.specs.Batches.{Listed, AreFound, IsFoundWhole, payloads_of, digests_of, batches_of}

-- where the one held set is part of the other, its order begins the other's
abbrev pub OrderGrows : Type 0
OrderGrows = (z : Sizes) (small large : List Node) (xs ys : List CertRef) → IsClear large
    → IsPartOf small large → IsWholeOrder z small xs → IsWholeOrder z large ys → IsPrefix xs ys

-- anchors have one order
abbrev pub OneOrder : Type 0
OneOrder = (z : Sizes) (held : List Node) (back xs ys : List CertRef)
    → IsOrder z held back xs → IsOrder z held back ys → xs ≡ ys

-- the order is one list, whatever order the certificates came in
abbrev pub OneWholeOrder : Type 0
OneWholeOrder = (z : Sizes) (one other : List Node) (xs ys : List CertRef) → IsClear one
    → IsClear other
    → IsPartOf one other → IsPartOf other one → IsWholeOrder z one xs → IsWholeOrder z other ys
    → xs ≡ ys

-- what is ordered is admitted
abbrev pub OrderedIsPresent : Type 0
OrderedIsPresent = (z : Sizes) (held : List Node) (xs : List CertRef) → IsWholeOrder z held xs
    → (a : CertRef) → Contains xs a → IsPresent z held a

-- the order up to an anchor has exactly the anchor's history
abbrev pub OrderHasHistory : Type 0
OrderHasHistory = (z : Sizes) (held : List Node) (a : CertRef) (ps xs : List CertRef)
    → IsWayBack z held a ps → IsOrderBack z held a ps xs
    → (b : CertRef) → Contains xs b ↔ InHistory z held a b

-- where the held certificates and batches lie in others without a collision or twins, the payloads
-- of the order begin the others'
abbrev pub BatchesGrow : Type 0
BatchesGrow = (z : Sizes) (small large : List Node) (few many : List Batch) (xs ys : List CertRef)
    → IsClear large → AreApart many → IsPartOf small large → IsPartOf few many
    → IsWholeOrder z small xs → IsWholeOrder z large ys
    → IsPrefix (batches_of small few xs).list (batches_of large many ys).list

-- a list of an order's digests, whose batches are found as far as they are held, has the payloads of
-- the order
abbrev pub FoundIsBatches : Type 0
FoundIsBatches = (held : List Node) (batches : List Batch) (order : List CertRef) (l : Listed)
    → l.digests ≡ digests_of held order → IsFoundWhole batches l
    → payloads_of batches l ≡ batches_of held batches order

-- what is found stays found where more batches are held and more digests follow
abbrev pub FoundStays : Type 0
FoundStays = (batches more : List Batch) (digests rest : List (List ℕ)) (found : List BatchRef)
    → AreFound batches digests found → AreFound (batches ++ more) (digests ++ rest) found

-- where the one held set is part of the other, the digests of an order of the one are those in the other
abbrev pub DigestsStay : Type 0
DigestsStay = (z : Sizes) (small large : List Node) (order : List CertRef)
    → IsPartOf small large → IsClear large
    → ((a : CertRef) → Contains order a → IsPresent z small a)
    → digests_of small order ≡ digests_of large order
