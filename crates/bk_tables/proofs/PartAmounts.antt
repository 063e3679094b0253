-- What a walk over the places writes of the accounts that play a part.
use Rattle.std.proofs.Common.{◌≡◌, ℕ, ◌+◌, ◌-◌, Bool, true, false, cond, eqb, ◌||◌, List, [], ◌∷◌, ◌++◌, map, Option, Some, None, refl, sym, ap, subst, ◌∙◌, arith}
use Rattle.std.specs.Prelude.{IfSome}
use Rattle.std.specs.List.{AllByRecursion, list_any}
use Rattle.std.proofs.lemmas.Bool.{eq-eqb}
use Rattle.std.proofs.lemmas.List.{map-append}
use Rattle.bk_base.specs.declared.genesis.Row.{Row}
use Rattle.bk_base.specs.declared.version.Version.{Version}
use Rattle.bk_base.specs.Numbers.{is_ascending}
use Rattle.bk_tx.specs.Access.{receivers_in}
use Rattle.bk_tx.specs.Reading.{pays}
use Rattle.bk_tx.specs.Spelling.{IsTransaction, receivers_of}
use Rattle.bk_tx.specs.Transaction.{Transaction}
use Rattle.bk_tx.specs.declared.body.Body.{Body}
use Rattle.bk_tx.specs.declared.body.Body.TheVariants as body
use Rattle.bk_tx.specs.declared.payments.Payment.{Payment}
use Rattle.bk_rules.specs.Rows.{Outcome, account_at, outcome_of}
use Rattle.bk_rules.specs.Rule.{Accounts, Guard, balance_at, guard_of, moved_by, payments_on, sum_of}
use Rattle.bk_rules.specs.Ledger.{Ledger, after_of}
use Rattle.bk_rules.specs.declared.receipt.Receipt.{Receipt}
use Rattle.bk_rules.specs.declared.receipt.Status.{Status}
use Rattle.bk_rules.specs.declared.receipt.Status.TheVariants as status
use Rattle.bk_views.specs.Statement.{credited_by, paid_to}
use Rattle.bk_views.specs.declared.entry.Role.TheVariants as role
use Rattle.bk_tables.specs.Payments.{paid_by}
use Rattle.bk_tables.specs.Postings.{Part, guard_parts, part_with}
use Rattle.bk_tables.specs.private.Walking.{guards_by, idle, played_by, played_split, posting_by, receivers_by, row_by, rows_of, spot_with}
use Rattle.bk_tables.specs.declared.posting.Posting.{Posting}
use Rattle.bk_tables.proofs.PartRows.{above, apart_of, not_same, receivers_up, rest_up}
use Rattle.bk_tables.proofs.PartSums.{paid_here, paid_nothing}

-- ---- what payments pay to each receiver

paid_own : (p : Payment) (ps : List Payment) → list_any (λ (to : ℕ). eqb to p.to) (receivers_in ps) ≡ false → paid_to p.to (p ∷ ps) ≡ p.amount
paid_own p ps e =
    let here : paid_to p.to (p ∷ ps) ≡ p.amount + paid_to p.to ps = paid_here p.to p ps ∙ ap (λ (b : Bool). cond {A = ℕ} b p.amount 0 + paid_to p.to ps) (eq-eqb p.to p.to refl) in
    let none = paid_nothing p.to ps e in
    omega (arith, here, none)

-- a payment to none of these changes nothing
others_own : (p : Payment) (ps qs : List Payment) → list_any (λ (to : ℕ). eqb to p.to) (receivers_in qs) ≡ false → AllByRecursion (λ (q : Payment). paid_to q.to ps ≡ q.amount) qs → AllByRecursion (λ (q : Payment). paid_to q.to (p ∷ ps) ≡ q.amount) qs
others_own p ps [] e all = tt
others_own p ps (q ∷ qs) e all = by_test (eqb q.to p.to) refl e (λ k. others_own p ps qs k all.1)
  where
    by_test : (b : Bool) → eqb q.to p.to ≡ b → (b || list_any (λ (to : ℕ). eqb to p.to) (receivers_in qs)) ≡ false
        → (list_any (λ (to : ℕ). eqb to p.to) (receivers_in qs) ≡ false → AllByRecursion (λ (q : Payment). paid_to q.to (p ∷ ps) ≡ q.amount) qs)
        → AllByRecursion (λ (q : Payment). paid_to q.to (p ∷ ps) ≡ q.amount) (q ∷ qs)
    by_test true t k go = absurd cc
    by_test false t k go =
        let other : eqb p.to q.to ≡ false = not_same p.to q.to (λ same. apart_of q.to p.to t (sym same)) in
        let here : paid_to q.to (p ∷ ps) ≡ 0 + paid_to q.to ps = paid_here q.to p ps ∙ ap (λ (b : Bool). cond {A = ℕ} b p.amount 0 + paid_to q.to ps) other in
        let was : paid_to q.to ps ≡ q.amount = all.0 in
        let still : paid_to q.to (p ∷ ps) ≡ q.amount = omega (arith, here, was) in
        (still, go k)

all_own : (ps : List Payment) → is_ascending (receivers_in ps) ≡ true → AllByRecursion (λ (q : Payment). paid_to q.to ps ≡ q.amount) ps
all_own [] up = tt
all_own (p ∷ ps) up =
    let alone : list_any (λ (to : ℕ). eqb to p.to) (receivers_in ps) ≡ false = above p.to p.to (receivers_in ps) up (omega arith) in
    (paid_own p ps alone, others_own p ps ps alone (all_own ps (rest_up p.to (receivers_in ps) up)))

-- ---- the rows of receivers

one_paid : (to amount : ℕ) → paid_to to (record { to = to; amount = amount } ∷ []) ≡ amount
one_paid to amount = paid_own (record { to = to; amount = amount }) [] refl

one_sum : (to amount : ℕ) → sum_of (record { to = to; amount = amount } ∷ []) ≡ amount
one_sum to amount = let n : 0 + amount ≡ amount = omega arith in n

module _ (place : ℕ) (v : Version) (rows : List Row) (t : Transaction) (h : IsTransaction t) where
  abbrev before : Accounts
  before = account_at rows

  abbrev gave : Outcome
  gave = outcome_of v (Some t) rows

  -- what the amounts of a status are
  credit : (s : Status) (to amount : ℕ) → paid_to to (payments_on before t) ≡ amount → credited_by s before t to ≡ paid_by s (moved_by s before t) (Some amount)
  credit status.Ok to amount e = e
  credit status.Malformed to amount e = refl
  credit status.Undeclared to amount e = refl
  credit status.Unknown to amount e = refl
  credit status.Stale to amount e = refl
  credit status.Guard to amount e = refl
  credit status.Funds to amount e = refl

  swept : (s : Status) (to : ℕ) → paid_to to (payments_on before t) ≡ sum_of (payments_on before t) → credited_by s before t to ≡ paid_by s (moved_by s before t) None
  swept status.Ok to e = e
  swept status.Malformed to e = refl
  swept status.Undeclared to e = refl
  swept status.Unknown to e = refl
  swept status.Stale to e = refl
  swept status.Guard to e = refl
  swept status.Funds to e = refl

  -- the row of an amount
  abbrev row_in : ℕ → ℕ → Posting
  row_in to amount = row_by (spot_with place gave.receipt) gave.after (record { account = to; role = role.In; amount = amount })

  split_rows : (ps : List Payment) → AllByRecursion (λ (q : Payment). paid_to q.to (payments_on before t) ≡ q.amount) ps
      → map (posting_by place before gave t) (map (part_with role.In) (receivers_in ps)) ≡ map (row_by (spot_with place gave.receipt) gave.after) (map (played_split gave.receipt) ps)
  split_rows [] all = refl
  split_rows (p ∷ ps) all = (λ i. row_in p.to (credit gave.receipt.status p.to p.amount all.0 i) ∷ split_rows ps all.1 i)

  receiver_rows : (b : Body) → t.body ≡ b
      → map (posting_by place before gave t) (map (part_with role.In) (receivers_of b)) ≡ map (row_by (spot_with place gave.receipt) gave.after) (receivers_by gave.receipt b)
  receiver_rows (body.Pay to amount) e =
      let paid : paid_to to (payments_on before t) ≡ amount = ap (λ (b : Body). paid_to to (payments_on before (record t { body = b }))) e ∙ one_paid to amount in
      ap (λ (n : ℕ). row_in to n ∷ []) (credit gave.receipt.status to amount paid)
  receiver_rows (body.PayIf to amount guard min) e =
      let paid : paid_to to (payments_on before t) ≡ amount = ap (λ (b : Body). paid_to to (payments_on before (record t { body = b }))) e ∙ one_paid to amount in
      ap (λ (n : ℕ). row_in to n ∷ []) (credit gave.receipt.status to amount paid)
  receiver_rows (body.Sweep to keep) e =
      let all : ℕ = balance_at before t.from - keep in
      let paid : paid_to to (payments_on before t) ≡ sum_of (payments_on before t) =
      ap (λ (b : Body). paid_to to (payments_on before (record t { body = b }))) e ∙ one_paid to all ∙ sym (one_sum to all)
      ∙ ap (λ (b : Body). sum_of (payments_on before (record t { body = b }))) (sym e) in
      ap (λ (n : ℕ). row_in to n ∷ []) (swept gave.receipt.status to paid)
  receiver_rows (body.Split payments) e =
      let up : is_ascending (receivers_in payments) ≡ true = subst (λ (b : Body). is_ascending (receivers_of b) ≡ true) e (receivers_up t h) in
      split_rows payments (subst (λ (b : Body). AllByRecursion (λ (q : Payment). paid_to q.to (payments_on before (record t { body = b })) ≡ q.amount) payments) (sym e) (all_own payments up))

  guard_rows : (o : Option Guard) → map (posting_by place before gave t) (guard_parts t.from t.body o) ≡ map (row_by (spot_with place gave.receipt) gave.after) (map idle (guard_parts t.from t.body o))
  guard_rows None = refl
  guard_rows (Some g) = by_test (eqb g.id t.from || pays t.body g.id)
    where
      by_test : (b : Bool) → map (posting_by place before gave t) (cond {A = List Part} b [] (part_with role.Guard g.id ∷ []))
          ≡ map (row_by (spot_with place gave.receipt) gave.after) (map idle (cond {A = List Part} b [] (part_with role.Guard g.id ∷ [])))
      by_test true = refl
      by_test false = refl

  all_rows : rows_of place v rows (Some t) ≡ map (row_by (spot_with place gave.receipt) gave.after) (played_by gave.receipt t)
  all_rows =
      let ins : List Part = map (part_with role.In) (receivers_of t.body) in
      let guards : List Part = guard_parts t.from t.body (guard_of t.body) in
      let first : Posting = posting_by place before gave t (part_with role.Out t.from) in
      ap (λ (qs : List Posting). first ∷ qs) (
      map-append (posting_by place before gave t) ins guards
      ∙ (λ i. receiver_rows t.body refl i ++ guard_rows (guard_of t.body) i)
      ∙ sym (map-append (row_by (spot_with place gave.receipt) gave.after) (receivers_by gave.receipt t.body) (guards_by t.from t.body))
      )

-- what is written of a place is its rows
pub place_rows : (place : ℕ) (old now : Ledger) (o : Option Transaction) (t : Transaction) (r : Receipt) → o ≡ Some t → IfSome o IsTransaction → r ≡ (outcome_of old.version o old.rows).receipt → now ≡ after_of old o
    → map (row_by (spot_with place r) now.rows) (played_by r t) ≡ rows_of place old.version old.rows o
place_rows place old now None t r e h f g = absurd cc
place_rows place old now (Some u) t r e h f g =
    let same : u ≡ t = cc in
    (λ i. map (row_by (spot_with place (f i)) (g i).rows) (played_by (f i) (sym same i))) ∙ sym (all_rows place old.version old.rows u h)
