-- The laws of the kinds of tables.
use Rattle.std.proofs.Common.{◌≡◌, ◌≤◌, ℕ, List, [], length, Option, refl, arith}
use Rattle.bk_base.specs.Feed.{genesis_of}
use Rattle.bk_base.specs.declared.genesis.Row.{Row}
use Rattle.bk_base.specs.declared.version.Version.{Version}
use Rattle.bk_rules.specs.Fold.{receipts_of, state_after}
use Rattle.bk_tx.specs.Batches.{transactions_of}
use Rattle.bk_tables.specs.Csv.{row_text}
use Rattle.bk_tables.specs.Payments.{payments_header}
use Rattle.bk_tables.specs.Postings.{postings_header}
use Rattle.bk_tables.specs.Kinds.{IsTextOf, payments, postings}

-- no batch has no row
pub no_payments : (ids : Option (List ℕ)) (version : Version) (genesis : List Row) → (payments ids).rows version genesis [] ≡ []
no_payments ids version genesis = refl

pub no_postings : (ids : Option (List ℕ)) (version : Version) (genesis : List Row) → (postings ids).rows version genesis [] ≡ []
no_postings ids version genesis = refl

-- headers are short
payments_size : length (row_text payments_header) ≡ 68
payments_size = refl

pub payments_short : (ids : Option (List ℕ)) → length (payments ids).header ≤ 100
payments_short ids = omega (arith, payments_size)

postings_size : length (row_text postings_header) ≡ 45
postings_size = refl

pub postings_short : (ids : Option (List ℕ)) → length (postings ids).header ≤ 100
postings_short ids = omega (arith, postings_size)

-- header and rows are the table
pub payments_table : (ids : Option (List ℕ)) → IsTextOf (payments ids)
payments_table ids feed o clear order = record {
  outcome = record {
    ordered = o;
    receipts = receipts_of feed.version (transactions_of o.payloads.list) (genesis_of feed.frames);
    rows = state_after feed.version (transactions_of o.payloads.list) (genesis_of feed.frames);
  };
  is_outcome = record { clear = clear; ordered = order; receipts = refl; rows = refl };
  text_is = refl;
  end_is = refl;
}

pub postings_table : (ids : Option (List ℕ)) → IsTextOf (postings ids)
postings_table ids feed o clear order = record {
  outcome = record {
    ordered = o;
    receipts = receipts_of feed.version (transactions_of o.payloads.list) (genesis_of feed.frames);
    rows = state_after feed.version (transactions_of o.payloads.list) (genesis_of feed.frames);
  };
  is_outcome = record { clear = clear; ordered = order; receipts = refl; rows = refl };
  text_is = refl;
  end_is = refl;
}
