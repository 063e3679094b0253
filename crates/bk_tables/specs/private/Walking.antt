-- The rows of places, read off the accounts as a walk over the places has them.
use Rattle.std.specs.Prelude.{◌≡◌, ℕ, ◌+◌, true, List, [], ◌∷◌, ◌++◌, map, Option, Some, None}
use Rattle.bk_base.specs.declared.genesis.Row.{Row}
use Rattle.bk_base.specs.declared.version.Version.{Version}
use Rattle.bk_tx.specs.Transaction.{Transaction}
use Rattle.bk_tx.specs.declared.body.Body.{Body}
use Rattle.bk_tx.specs.declared.body.Body.TheVariants as body
use Rattle.bk_tx.specs.declared.payments.Payment.{Payment}
use Rattle.bk_rules.specs.Rows.{Outcome, account_at, outcome_of}
use Rattle.bk_rules.specs.Rule.{Accounts, guard_of}
use Rattle.bk_rules.specs.Ledger.{Ledger, are_covered}
use Rattle.bk_rules.specs.declared.receipt.Receipt.{Receipt}
use Rattle.bk_views.specs.declared.entry.Role.TheVariants as role
use Rattle.bk_views.specs.Statement.{amount_by, credited_by}
use Rattle.bk_tables.specs.Payments.{paid_by}
use Rattle.bk_tables.specs.Postings.{Part, guard_parts, parts_of}
use Rattle.bk_tables.specs.declared.parts.Played.{Played}
use Rattle.bk_tables.specs.declared.parts.Spot.{Spot}
use Rattle.bk_tables.specs.declared.posting.Posting.{Posting}

-- ---- who plays a part, with the amount of each

abbrev pub played_out : Receipt → ℕ → Played
played_out r from = record { account = from; role = role.Out; amount = r.moved }

-- a receiver that is to get this much; a sweep gives it all that was moved
abbrev pub played_in : Receipt → ℕ → Option ℕ → Played
played_in r to asked = record { account = to; role = role.In; amount = paid_by r.status r.moved asked }

abbrev pub played_split : Receipt → Payment → Played
played_split r p = played_in r p.to (Some p.amount)

abbrev pub receivers_by : Receipt → Body → List Played
receivers_by r (body.Pay to amount) = played_in r to (Some amount) ∷ []
receivers_by r (body.PayIf to amount guard min) = played_in r to (Some amount) ∷ []
receivers_by r (body.Sweep to keep) = played_in r to None ∷ []
receivers_by r (body.Split payments) = map (played_split r) payments

abbrev pub idle : Part → Played
idle p = record { account = p.account; role = p.role; amount = 0 }

abbrev pub guards_by : ℕ → Body → List Played
guards_by from b = map idle (guard_parts from b (guard_of b))

abbrev pub played_by : Receipt → Transaction → List Played
played_by r t = played_out r t.from ∷ (receivers_by r t.body ++ guards_by t.from t.body)

-- those of an account, or of none
abbrev pub one_or_none : Option Played → List Played
one_or_none None = []
one_or_none (Some p) = p ∷ []

-- ---- their rows, where these are the accounts after the place

abbrev pub row_by : Spot → List Row → Played → Posting
row_by at rows p = record {
  account = p.account;
  entry = record {
    place = at.place;
    status = at.receipt.status;
    role = p.role;
    amount = p.amount;
    after = account_at rows p.account;
  };
}

abbrev pub spot_with : ℕ → Receipt → Spot
spot_with place r = record { place = place; receipt = r }

-- the row of a part that an account plays, where these are the accounts before the transaction and this is what it gave
abbrev pub posting_by : ℕ → Accounts → Outcome → Transaction → Part → Posting
posting_by place before o t p = record {
  account = p.account;
  entry = record {
    place = place;
    status = o.receipt.status;
    role = p.role;
    amount = amount_by p.role o.receipt.moved (credited_by o.receipt.status before t p.account);
    after = account_at o.after p.account;
  };
}

-- the rows of a place, where these are the rows of the ledger before it
abbrev pub rows_of : ℕ → Version → List Row → Option Transaction → List Posting
rows_of place version rows None = []
rows_of place version rows (Some t) =
    map (posting_by place (account_at rows) (outcome_of version (Some t) rows) t) (parts_of t)

-- the rows of these transactions, their places counted from `place` on
abbrev pub walk_rows : Version → ℕ → List (Option Transaction) → List Row → List Posting
walk_rows version place [] rows = []
walk_rows version place (t ∷ more) rows =
    rows_of place version rows t ++ walk_rows version (place + 1) more (outcome_of version t rows).after

-- ---- the accounts before the first place

-- the ledger is the same, but that there is a slot for each account that these transactions declare
pub record HasSlotsFor (txs : List (Option Transaction)) (old new : Ledger) : Type 0 where
  pub version : new.version ≡ old.version
  pub rows : new.rows ≡ old.rows
  pub covered : are_covered new.version new.slots txs ≡ true
