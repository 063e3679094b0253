-- Sequence numbers over a list of transactions.
use Rattle.std.proofs.Common.{◌≡◌, ℕ, ◌+◌, ◌^◌, ◌<◌, ◌≤◌, Bool, true, false, cond, eqb, ltb, List, [], ◌∷◌, length, map, Option, Some, None, refl, sym, ap, subst, ◌∙◌, arith}
use Rattle.std.specs.List.{AllByRecursion}
use Rattle.bk_base.specs.declared.genesis.Row.{Row}
use Rattle.bk_base.specs.Genesis.{AreAccounts}
use Rattle.bk_tx.specs.declared.payments.Payment.{Payment}
use Rattle.bk_tx.specs.Transaction.{Transaction}
use Rattle.bk_base.specs.declared.version.Version.{Version}
use Rattle.bk_base.specs.declared.version.Version.TheVariants.{One, Two}
use Rattle.bk_rules.specs.declared.receipt.Status.{Status}
use Rattle.bk_rules.specs.declared.receipt.Status.TheVariants as status
use Rattle.bk_rules.specs.Rule.{Accounts, Change, new_account, sum_of, payments_on, is_declared, status_of, send, receive, changes_of}
use Rattle.bk_rules.specs.Rows.{account_of, row_of, account_at, changed, rows_after, outcome_of}
use Rattle.bk_rules.proofs.Locality.{status_by, guard_holds, is_short}
use Rattle.bk_rules.specs.Fold.{seq_end, state_after, HasRoom}

-- what follows row by row
pub all_weaker : (P Q : Row → Type 0) → ((r : Row) → P r → Q r) → (rows : List Row) → AllByRecursion P rows → AllByRecursion Q rows
all_weaker P Q weaker [] all = tt
all_weaker P Q weaker (r ∷ rows) all = (weaker r all.0, all_weaker P Q weaker rows all.1)

-- a fact of each row after a change: it holds of the row that is changed or made, and where a row stays
all-changed : (P Q : Row → Type 0) (c : Change) → ((r : Row) → P r → Q (row_of c.id (c.makes (account_of r)))) → Q (row_of c.id (c.makes new_account)) → ((r : Row) → P r → Q r) → (rows : List Row) → AllByRecursion P rows → AllByRecursion Q (changed c rows)
all-changed P Q c here made other [] all = (made, tt)
all-changed P Q c here made other (r ∷ rows) all = by_tests (eqb r.id c.id) (ltb c.id r.id) (all-changed P Q c here made other rows all.1)
  where
    by_tests : (e l : Bool) → AllByRecursion Q (changed c rows) → AllByRecursion Q (cond e (row_of c.id (c.makes (account_of r)) ∷ rows) (cond l (row_of c.id (c.makes new_account) ∷ r ∷ rows) (r ∷ changed c rows)))
    by_tests true l rest = (here r all.0, all_weaker P Q other rows all.1)
    by_tests false true rest = (made, (other r all.0, all_weaker P Q other rows all.1))
    by_tests false false rest = (other r all.0, rest)

-- each sequence number stays below the bound after so many more
abbrev SeqsBelow : ℕ → ℕ → List Row → Type 0
SeqsBelow bound more rows = AllByRecursion (λ (r : Row). r.seq + more < bound) rows

seqs-payments : (bound n : ℕ) → n < bound → (payments : List Payment) (rows : List Row) → SeqsBelow bound n rows → SeqsBelow bound n (rows_after (map receive payments) rows)
seqs-payments bound n room [] rows all = all
seqs-payments bound n room (p ∷ more) rows all = seqs-payments bound n room more _ (all-changed (λ (r : Row). r.seq + n < bound) (λ (r : Row). r.seq + n < bound) (receive p) (λ r h. h) (omega arith) (λ r h. h) rows all)

seqs-send : (bound n id paid : ℕ) → n + 1 < bound → (rows : List Row) → SeqsBelow bound (n + 1) rows → SeqsBelow bound n (changed (send id paid) rows)
seqs-send bound n id paid room rows all = all-changed (λ (r : Row). r.seq + (n + 1) < bound) (λ (r : Row). r.seq + n < bound) (send id paid) (λ r h. omega arith) (omega arith) (λ r h. omega arith) rows all

seqs_weaker : (b c m n : ℕ) (rows : List Row) → b + n ≤ c + m → SeqsBelow b m rows → SeqsBelow c n rows
seqs_weaker b c m n rows le all = all_weaker (λ (r : Row). r.seq + m < b) (λ (r : Row). r.seq + n < c) (λ r h. omega arith) rows all

seqs_by_status : (bound n : ℕ) → n + 1 < bound → (s : Status) (t : Transaction) (a : Accounts) (rows : List Row) → SeqsBelow bound (n + 1) rows → SeqsBelow bound n (rows_after (changes_of s a t) rows)
seqs_by_status bound n room status.Ok t a rows all = seqs-payments bound n (omega arith) (payments_on a t) _ (seqs-send bound n t.from (sum_of (payments_on a t)) room rows all)
seqs_by_status bound n room status.Guard t a rows all = seqs-send bound n t.from 0 room rows all
seqs_by_status bound n room status.Funds t a rows all = seqs-send bound n t.from 0 room rows all
seqs_by_status bound n room status.Malformed t a rows all = seqs_weaker bound bound (n + 1) n rows (omega arith) all
seqs_by_status bound n room status.Undeclared t a rows all = seqs_weaker bound bound (n + 1) n rows (omega arith) all
seqs_by_status bound n room status.Unknown t a rows all = seqs_weaker bound bound (n + 1) n rows (omega arith) all
seqs_by_status bound n room status.Stale t a rows all = seqs_weaker bound bound (n + 1) n rows (omega arith) all

-- a transaction counts each sequence number up by one at most
pub seqs_kept : (v : Version) (bound n : ℕ) → n + 1 < bound → (t : Option Transaction) (rows : List Row) → SeqsBelow bound (n + 1) rows → SeqsBelow bound n (outcome_of v t rows).after
seqs_kept v bound n room None rows all = seqs_weaker bound bound (n + 1) n rows (omega arith) all
seqs_kept v bound n room (Some t) rows all = seqs_by_status bound n room (status_of v (account_at rows) t) t (account_at rows) rows all

-- and a list by its length
seqs_kept_by_fold : (v : Version) (bound n : ℕ) (txs : List (Option Transaction)) (rows : List Row) → length txs + n < bound → SeqsBelow bound (length txs + n) rows → SeqsBelow bound n (state_after v txs rows)
seqs_kept_by_fold v bound n [] rows room all = seqs_weaker bound bound (0 + n) n rows (omega arith) all
seqs_kept_by_fold v bound n (t ∷ more) rows room all = seqs_kept_by_fold v bound n more _ (omega arith) (seqs_kept v bound (length more + n) (omega arith) t rows (seqs_weaker bound bound _ _ rows (omega arith) all))

-- where no account is there, none comes to be
empty_stays : (v : Version) (t : Option Transaction) → (outcome_of v t []).after ≡ []
empty_stays v None = refl
empty_stays v (Some t) = by_test (is_declared t)
  where
    by_test : (d : Bool) → rows_after (changes_of (status_by d false (eqb t.seq 0) (guard_holds (account_at []) t.body) (is_short (account_at []) t)) (account_at []) t) [] ≡ []
    by_test true = refl
    by_test false = refl

empty_fold : (v : Version) (txs : List (Option Transaction)) → state_after v txs [] ≡ []
empty_fold v [] = refl
empty_fold v (t ∷ more) = ap (state_after v more) (empty_stays v t) ∙ empty_fold v more

pub room_kept : (v : Version) (txs : List (Option Transaction)) (n : ℕ) (rows : List Row) → HasRoom v (length txs + n) rows → HasRoom v n (state_after v txs rows)
room_kept v txs n [] room = subst (λ (xs : List Row). HasRoom v n xs) (sym (empty_fold v txs)) tt
room_kept v txs n (r ∷ rows) room = seqs_kept_by_fold v (seq_end v) n txs (r ∷ rows) (let first = room.0 in omega arith) room

-- the end is far above
pub far : (v : Version) → 2 ^ 64 ≤ seq_end v + 1
far One = omega arith
far Two = omega arith

pub room_left : (v : Version) (txs : List (Option Transaction)) (n : ℕ) (rows : List Row) → AreAccounts rows → length txs + n < 2 ^ 63 → HasRoom v n (state_after v txs rows)
room_left v txs n rows accounts few =
    let end = far v in
    room_kept v txs n rows (all_weaker (λ (r : Row). r.seq < 2 ^ 63) (λ (r : Row). r.seq + (length txs + n) < seq_end v) (λ r h. omega arith) rows accounts.young)

-- room for more is room for fewer
pub room_weaker : (v : Version) (m n : ℕ) (rows : List Row) → n ≤ m → HasRoom v m rows → HasRoom v n rows
room_weaker v m n rows le room = seqs_weaker (seq_end v) (seq_end v) m n rows (omega arith) room

pub seqs_below : (v : Version) (txs : List (Option Transaction)) (rows : List Row) → AreAccounts rows → AllByRecursion (λ (r : Row). r.seq < 2 ^ 63 + length txs) (state_after v txs rows)
seqs_below v txs rows accounts =
    all_weaker (λ (r : Row). r.seq + 0 < 2 ^ 63 + length txs) (λ (r : Row). r.seq < 2 ^ 63 + length txs) (λ r h. omega arith) (state_after v txs rows)
    (seqs_kept_by_fold v (2 ^ 63 + length txs) 0 txs rows (omega arith) (all_weaker (λ (r : Row). r.seq < 2 ^ 63) (λ (r : Row). r.seq + (length txs + 0) < 2 ^ 63 + length txs) (λ r h. omega arith) rows accounts.young))
