-- What each place does to each account that plays a part, as rows.
use Rattle.std.specs.Prelude.{ℕ, ◌+◌, ◌==◌, ◌||◌, Bool, true, List, [], ◌∷◌, ◌++◌, codes, decimal, filter, map, Option, Some, None, if◌then◌else◌}
use Rattle.bk_tx.specs.Reading.{pays}
use Rattle.bk_tx.specs.Spelling.{receivers_of}
use Rattle.bk_tx.specs.Transaction.{Transaction}
use Rattle.bk_tx.specs.declared.body.Body.{Body}
use Rattle.bk_rules.specs.Fold.{outcome_at}
use Rattle.bk_rules.specs.Numbers.{number_of}
use Rattle.bk_rules.specs.Rule.{Guard, guard_of}
use Rattle.bk_rules.specs.declared.account.Account.{Account}
use Rattle.bk_views.specs.Statement.{Course, entry_with, role_word}
use Rattle.bk_views.specs.declared.entry.Role.{Role}
use Rattle.bk_views.specs.declared.entry.Role.TheVariants as role
use Rattle.bk_tables.specs.Csv.{table_text}
use Rattle.bk_tables.specs.Payments.{is_among}
use Rattle.bk_tables.specs.declared.posting.Posting.{Posting}

-- ---- the rows of a place

-- an account that plays a part in a transaction
pub record Part : Type 0 where
  pub account : ℕ
  pub role : Role

abbrev pub part_with : Role → ℕ → Part
part_with part id = record { account = id; role = part }

-- the guard, if it is neither the sender nor a receiver
abbrev pub guard_parts : ℕ → Body → Option Guard → List Part
guard_parts from body None = []
guard_parts from body (Some g) = if g.id == from || pays body g.id then [] else part_with role.Guard g.id ∷ []

-- the sender, the receivers by ascending id, and a guard that is neither
abbrev pub parts_of : Transaction → List Part
parts_of t =
    part_with role.Out t.from ∷ (map (part_with role.In) (receivers_of t.body) ++ guard_parts t.from t.body (guard_of t.body))

-- the row of an account: the entry of its statement
abbrev pub posting_of : Course → ℕ → Transaction → Part → Posting
posting_of c place t p = record {
  account = p.account;
  entry = entry_with c p.account place t (outcome_at c.version c.txs place c.opening).receipt p.role;
}

-- the rows of a place, if its transaction is well formed
abbrev pub postings_at : Course → ℕ → Option Transaction → List Posting
postings_at c place None = []
postings_at c place (Some t) = map (posting_of c place t) (parts_of t)

-- ---- the rows of all places

-- the rows of these transactions, their places counted from `place` on
abbrev pub postings_from : Course → ℕ → List (Option Transaction) → List Posting
postings_from c place [] = []
postings_from c place (t ∷ more) = postings_at c place t ++ postings_from c (place + 1) more

abbrev pub postings : Course → List Posting
postings c = postings_from c 0 c.txs

-- without a list all rows are shown
abbrev pub picks_posting : Option (List ℕ) → Posting → Bool
picks_posting None row = true
picks_posting (Some ids) row = is_among ids row.account

-- ---- the text

abbrev pub postings_header : List (List ℕ)
postings_header =
    codes "place" ∷ codes "status" ∷ codes "account" ∷ codes "role" ∷ codes "amount" ∷ codes "balance" ∷ codes "seq" ∷ []

-- balance and sequence number, both empty where the account is absent
abbrev pub after_fields : Option Account → List (List ℕ)
after_fields None = [] ∷ [] ∷ []
after_fields (Some a) = decimal a.balance ∷ decimal a.seq ∷ []

abbrev pub posting_fields : Posting → List (List ℕ)
posting_fields row =
    decimal row.entry.place ∷ decimal (number_of row.entry.status) ∷ decimal row.account ∷ role_word row.entry.role
    ∷ decimal row.entry.amount ∷ after_fields row.entry.after

-- the text of those of these rows that are shown
abbrev pub postings_text : Option (List ℕ) → List Posting → List ℕ
postings_text ids rows = table_text (map posting_fields (filter (picks_posting ids) rows))
