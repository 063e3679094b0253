-- The table of postings that was written is that of the feed.
use Rattle.std.proofs.Common.{◌≡◌, ℕ, ◌+◌, ◌<◌, ◌^◌, List, [], ◌∷◌, ◌++◌, length, get_or, map, take, Option, Some, None, refl, sym, ap, subst, ◌∙◌, append_assoc, length-append, arith}
use Rattle.bk_base.specs.Genesis.{AreAccounts}
use Rattle.bk_base.specs.declared.genesis.Row.{Row}
use Rattle.bk_base.proofs.Accounts.{genesis_accounts}
use Rattle.bk_rules.specs.Fold.{HasRoom, outcome_at, rows_before, state_after}
use Rattle.bk_rules.specs.Rows.{IsLedger, Outcome, account_at, outcome_of}
use Rattle.bk_rules.proofs.Folding.{ledger_of_accounts, rows_of_place, state_append}
use Rattle.bk_rules.proofs.Room.{room_left}
use Rattle.bk_tx.specs.Batches.{transactions_of}
use Rattle.bk_tx.specs.Transaction.{Transaction}
use Rattle.bk_views.specs.Statement.{Course, amount_by, credited_by}
use Rattle.bk_answer.specs.Closed.{ClosedValue}
use Rattle.bk_answer.proofs.Reports.{IsMade, few_receipts}
use Rattle.bk_tables.specs.Postings.{Part, parts_of, postings, postings_at, postings_from}
use Rattle.bk_tables.specs.declared.posting.Posting.{Posting}
use Rattle.bk_tables.specs.private.Walking.{rows_of, walk_rows}
use Rattle.bk_tables.proofs.PaymentTables.{receipts_each}

-- ---- the walk over all places gives their rows

take_front : (before more : List (Option Transaction)) → take (length before) (before ++ more) ≡ before
take_front [] more = refl
take_front (t ∷ before) more = ap (λ (ts : List (Option Transaction)). t ∷ ts) (take_front before more)

get_front : (before : List (Option Transaction)) (t : Option Transaction) (more : List (Option Transaction)) → get_or (before ++ t ∷ more) (length before) None ≡ t
get_front [] t more = refl
get_front (u ∷ before) t more = get_front before t more

module _ (c : Course) (before more : List (Option Transaction)) (t : Option Transaction) (all : c.txs ≡ before ++ t ∷ more) (place : ℕ) (at : place ≡ length before) where
  abbrev here : List Row
  here = state_after c.version before c.opening

  before_is : here ≡ rows_before c.version c.txs place c.opening
  before_is = sym (ap (λ (ts : List (Option Transaction)). state_after c.version ts c.opening) ((λ i. take (at i) (all i)) ∙ take_front before (t ∷ more)))

  outcome_is_of : outcome_of c.version t here ≡ outcome_at c.version c.txs place c.opening
  outcome_is_of =
      let found : get_or c.txs place None ≡ t = (λ i. get_or (all i) (at i) None) ∙ get_front before t more in
      λ i. outcome_of c.version (sym found i) (before_is i)

  after_is : (outcome_of c.version t here).after ≡ rows_before c.version c.txs (place + 1) c.opening
  after_is =
      let n = ap length all in
      let m = length-append before (t ∷ more) in
      ap (λ (o : Outcome). o.after) outcome_is_of ∙ sym (rows_of_place c.version c.txs place c.opening (omega (arith, n, m, at)))

rows_at_place : (c : Course) (before more : List (Option Transaction)) (t : Option Transaction) → c.txs ≡ before ++ t ∷ more → (place : ℕ) → place ≡ length before → rows_of place c.version (state_after c.version before c.opening) t ≡ postings_at c place t
rows_at_place c before more None all place at = refl
rows_at_place c before more (Some t) all place at =
    let eb = before_is c before more (Some t) all place at in
    let eo = outcome_is_of c before more (Some t) all place at in
    let ea = after_is c before more (Some t) all place at in
    λ i. map (λ (p : Part). record {
      account = p.account;
      entry = record {
        place = place;
        status = (eo i).receipt.status;
        role = p.role;
        amount = amount_by p.role (eo i).receipt.moved (credited_by (eo i).receipt.status (account_at (eb i)) t p.account);
        after = account_at (ea i) p.account;
      };
    }) (parts_of t)

pub walk_from : (c : Course) (before more : List (Option Transaction)) → c.txs ≡ before ++ more → (place : ℕ) → place ≡ length before → walk_rows c.version place more (state_after c.version before c.opening) ≡ postings_from c place more
walk_from c before [] all place at = refl
walk_from c before (t ∷ more) all place at =
    let next = walk_from c (before ++ t ∷ []) more (all ∙ sym (append_assoc before (t ∷ []) more)) (place + 1) (let n = length-append before (t ∷ []) in omega (arith, n, at)) in
    (λ i. rows_at_place c before more t all place at i ++ walk_rows c.version (place + 1) more (sym (state_append c.version before (t ∷ []) c.opening) i))
    ∙ ap (λ (qs : List Posting). postings_at c place t ++ qs) next

pub walk_all : (c : Course) → walk_rows c.version 0 c.txs c.opening ≡ postings c
walk_all c = walk_from c [] c.txs refl 0 refl

-- ---- what was made of a feed

opening_accounts : (c : ClosedValue) → IsMade c → AreAccounts c.order.opening
opening_accounts c (feed, (good, closed)) = subst AreAccounts (sym closed.order.opening) (genesis_accounts feed.version feed.frames good)

pub opening_ledger : (c : ClosedValue) → IsMade c → IsLedger c.order.opening
opening_ledger c made = ledger_of_accounts c.order.opening (opening_accounts c made)

pub few_transactions : (c : ClosedValue) → IsMade c → length (transactions_of c.order.taken.ordered.payloads.list) < 2 ^ 32
few_transactions c made = let few = few_receipts c made in let each = receipts_each c made in omega (arith, few, each)

pub opening_room : (c : ClosedValue) → IsMade c → HasRoom c.ledger.state.version (length (transactions_of c.order.taken.ordered.payloads.list)) c.order.opening
opening_room c made =
    let few = few_transactions c made in
    room_left c.ledger.state.version [] (length (transactions_of c.order.taken.ordered.payloads.list)) c.order.opening (opening_accounts c made) (omega (arith, few))
