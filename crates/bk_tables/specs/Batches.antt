-- The batches of an order as rows.
use Rattle.std.specs.Prelude.{◌≡◌, ℕ, ◌+◌, ◌≤◌, Bool, List, [], ◌∷◌, ◌++◌, Contains, codes, decimal, Option, Some, None}
use Rattle.std.specs.List.{find, list_any}
use Rattle.std.specs.Str.{bytes_eq}
use Rattle.hex.specs.Hex.{encode_lower}
use Rattle.sha2.specs.Sha256.{sha256}
use Rattle.bk_committee.specs.Sizes.{Sizes}
use Rattle.bk_cert.specs.Node.{Node}
use Rattle.bk_cert.specs.declared.place.CertRef.{CertRef}
use Rattle.bk_commit.specs.Ordering.{InHistory}
use Rattle.bk_flatten.specs.Batches.{named_at}
use Rattle.bk_order.specs.Orders.{Ordered}
use Rattle.bk_tx.specs.Batches.{count_in}
use Rattle.bk_tables.specs.Csv.{row_text, table_text}
use Rattle.bk_tables.specs.declared.batches.BatchRow.{BatchRow}

-- ---- the rows

-- the certificate at a place names a digest
abbrev pub names : List Node → List ℕ → CertRef → Bool
names held digest a = list_any (bytes_eq digest) (named_at held a)

-- a certificate was ordered with the committed anchor of this round: the first in whose history it is
pub record IsOrderedIn (z : Sizes) (held : List Node) (anchors : List CertRef) (a : CertRef) (round : ℕ) : Type 0 where
  pub anchor : CertRef
  pub committed : Contains anchors anchor
  pub reached : InHistory z held anchor a
  pub round_is : round ≡ anchor.round
  pub first : (b : CertRef) → Contains anchors b → InHistory z held b a → round ≤ b.round

-- the row of a batch with this payload: its digest, the first certificate of the order that names it, the anchor with which
-- that one was ordered, and how many transactions it holds
pub record IsBatchRow (z : Sizes) (held : List Node) (o : Ordered) (payload : List ℕ) (row : BatchRow) : Type 0 where
  pub digest_is : row.digest ≡ sha256 payload
  pub cert_is : find (names held row.digest) o.order ≡ Some row.cert
  pub anchor_is : IsOrderedIn z held o.anchors row.cert row.anchor
  pub count_is : row.count ≡ count_in payload

-- ---- the text

abbrev pub batches_header : List (List ℕ)
batches_header =
    codes "batch" ∷ codes "digest" ∷ codes "round" ∷ codes "author" ∷ codes "anchor" ∷ codes "transactions" ∷ []

-- how many transactions there are, or that the batch is void
abbrev pub count_field : Option ℕ → List ℕ
count_field None = codes "void"
count_field (Some count) = decimal count

abbrev pub batch_fields : ℕ → BatchRow → List (List ℕ)
batch_fields index row =
    decimal index ∷ encode_lower row.digest ∷ decimal row.cert.round ∷ decimal row.cert.author ∷ decimal row.anchor
    ∷ count_field row.count ∷ []

-- the fields of each row, numbered from `index` on
abbrev pub batches_fields : ℕ → List BatchRow → List (List (List ℕ))
batches_fields index [] = []
batches_fields index (row ∷ more) = batch_fields index row ∷ batches_fields (index + 1) more

abbrev pub batches_text : List BatchRow → List ℕ
batches_text rows = row_text batches_header ++ table_text (batches_fields 0 rows)
