-- The numbers of the accounts of a run, and how many they are, fit 64 bits.
use Rattle.std.proofs.Common.{◌≡◌, ℕ, ◌+◌, ◌*◌, ◌^◌, ◌<◌, ◌≤◌, Bool, true, false, cond, eqb, ltb, List, [], ◌∷◌, length, map, Option, Some, None, refl, sym, subst, arith}
use Rattle.std.specs.Prelude.{All, unwrap_or}
use Rattle.std.specs.List.{AllByRecursion, Contains}
use Rattle.std.proofs.lemmas.List.Elements.{All-from_recursion}
use Rattle.std.proofs.lemmas.List.Sums.{sum_by-cons}
use Rattle.bk_base.specs.declared.genesis.Row.{Row}
use Rattle.bk_base.specs.declared.limits.TheConstants.{MOST_ACCOUNTS}
use Rattle.bk_base.specs.declared.version.Version.{Version}
use Rattle.bk_base.specs.declared.version.Version.TheVariants.{One, Two}
use Rattle.bk_base.specs.Numbers.{IsBytes}
use Rattle.bk_base.specs.Genesis.{IsGenesis, rows_of, total_of}
use Rattle.bk_base.specs.Feed.{Frame, FeedValue, IsFeed, genesis_of, spelling}
use Rattle.bk_base.proofs.Accounts.{genesis_accounts}
use Rattle.bk_base.proofs.GenesisGrammar.{genesis_spelled}
use Rattle.bk_tx.specs.Access.{PaymentsFit}
use Rattle.bk_tx.specs.Spelling.{payments_of, BodyFits, IsTransaction}
use Rattle.bk_tx.specs.Transaction.{Transaction}
use Rattle.bk_tx.specs.declared.body.Body.{Body}
use Rattle.bk_tx.specs.declared.body.Body.TheVariants.{Pay, PayIf, Sweep, Split}
use Rattle.bk_tx.specs.declared.payments.Payment.{Payment}
use Rattle.bk_cert.proofs.Lists.{contains_first, contains_later}
use Rattle.bk_rules.specs.declared.receipt.Status.{Status}
use Rattle.bk_rules.specs.declared.receipt.Status.TheVariants as status
use Rattle.bk_rules.specs.Fold.{seq_end, state_after}
use Rattle.bk_rules.specs.Rule.{Accounts, Change, balance_at, changes_of, payments_on, new_account, receive, status_of}
use Rattle.bk_rules.specs.Rows.{account_at, account_of, changed, outcome_of, row_of, rows_after}
use Rattle.bk_rules.proofs.Folding.{total_below}
use Rattle.bk_rules.proofs.Room.{room_left}
use Rattle.bk_order.specs.Orders.{Ordered}
use Rattle.bk_report.specs.Proofs.{IsRow}
use Rattle.bk_tx.specs.Batches.{transactions_of}
use Rattle.bk_report.specs.RunLines.{Reading}
use Rattle.bk_answer.specs.RunReport.{IsOrderIn, Reads, committee_in, later_frames}
use Rattle.bk_answer.proofs.Counting.{few_places}
use Rattle.bk_laws.proofs.Texts.{later_part, ordered_transactions, payload_bytes}

-- ---- ids, and how many accounts there are

-- ids below 2^64, of no more accounts than this
record Fits (most : ℕ) (rows : List Row) : Type 0 where
  ids : AllByRecursion (λ (r : Row). r.id < 2 ^ 64) rows
  few : length rows ≤ most

ids_changed : (c : Change) → c.id < 2 ^ 64 → (rows : List Row) → AllByRecursion (λ (r : Row). r.id < 2 ^ 64) rows → AllByRecursion (λ (r : Row). r.id < 2 ^ 64) (changed c rows)
ids_changed c fit [] all = (fit, tt)
ids_changed c fit (r ∷ rows) all = by_tests (eqb r.id c.id) (ltb c.id r.id) (ids_changed c fit rows all.1)
  where
    by_tests : (e l : Bool) → AllByRecursion (λ (r : Row). r.id < 2 ^ 64) (changed c rows)
        → AllByRecursion (λ (r : Row). r.id < 2 ^ 64) (cond e (row_of c.id (c.makes (account_of r)) ∷ rows) (cond l (row_of c.id (c.makes new_account) ∷ r ∷ rows) (r ∷ changed c rows)))
    by_tests true l rest = (fit, all.1)
    by_tests false true rest = (fit, all)
    by_tests false false rest = (all.0, rest)

length-changed : (c : Change) (rows : List Row) → length (changed c rows) ≤ length rows + 1
length-changed c [] = omega arith
length-changed c (r ∷ rows) = by_tests (eqb r.id c.id) (ltb c.id r.id) (length-changed c rows)
  where
    by_tests : (e l : Bool) → length (changed c rows) ≤ length rows + 1
        → length (cond e (row_of c.id (c.makes (account_of r)) ∷ rows) (cond l (row_of c.id (c.makes new_account) ∷ r ∷ rows) (r ∷ changed c rows))) ≤ length (r ∷ rows) + 1
    by_tests true l rest = omega arith
    by_tests false true rest = omega arith
    by_tests false false rest = omega arith

fits_after : (cs : List Change) (most : ℕ) (rows : List Row) → AllByRecursion (λ (c : Change). c.id < 2 ^ 64) cs → Fits most rows → Fits (most + length cs) (rows_after cs rows)
fits_after [] most rows each h = record { ids = h.ids; few = omega (arith, h.few) }
fits_after (c ∷ cs) most rows each h =
    let rest = fits_after cs (most + 1) (changed c rows) each.1 (record { ids = ids_changed c each.0 rows h.ids; few = omega (arith, h.few, length-changed c rows) }) in
    record { ids = rest.ids; few = omega (arith, rest.few) }

fits_wider : (less most : ℕ) (rows : List Row) → less ≤ most → Fits less rows → Fits most rows
fits_wider less most rows low h = record { ids = h.ids; few = omega (arith, h.few) }

-- ---- a transaction changes seven accounts at most

payments_fit : (balance : ℕ) (b : Body) → BodyFits b → AllByRecursion (λ (p : Payment). p.to < 2 ^ 64) (payments_of balance b) × (length (payments_of balance b) ≤ 6)
payments_fit balance (Pay to amount) fit = ((fit.0, tt), omega arith)
payments_fit balance (PayIf to amount guard min) fit = ((fit.0, tt), omega arith)
payments_fit balance (Sweep to keep) fit = ((fit.0, tt), omega arith)
payments_fit balance (Split payments) fit = (receivers payments fit.fit, fit.few)
  where
    receivers : (ps : List Payment) → PaymentsFit ps → AllByRecursion (λ (p : Payment). p.to < 2 ^ 64) ps
    receivers [] all = tt
    receivers (p ∷ ps) all = (all.0.0, receivers ps all.1)

received_fit : (ps : List Payment) → AllByRecursion (λ (p : Payment). p.to < 2 ^ 64) ps → AllByRecursion (λ (c : Change). c.id < 2 ^ 64) (map receive ps) × (length (map receive ps) ≡ length ps)
received_fit [] all = (tt, refl)
received_fit (p ∷ ps) all = let rest = received_fit ps all.1 in ((all.0, rest.0), omega (arith, rest.1))

changes_fit : (s : Status) (a : Accounts) (t : Transaction) → IsTransaction t → AllByRecursion (λ (c : Change). c.id < 2 ^ 64) (changes_of s a t) × (length (changes_of s a t) ≤ 7)
changes_fit status.Ok a t is =
    let ps = payments_fit (balance_at a t.from) t.body is.body_fits in
    let cs = received_fit (payments_on a t) ps.0 in
    ((is.from_fits, cs.0), omega (arith, ps.1, cs.1))
changes_fit status.Guard a t is = ((is.from_fits, tt), omega arith)
changes_fit status.Funds a t is = ((is.from_fits, tt), omega arith)
changes_fit status.Malformed a t is = (tt, omega arith)
changes_fit status.Undeclared a t is = (tt, omega arith)
changes_fit status.Unknown a t is = (tt, omega arith)
changes_fit status.Stale a t is = (tt, omega arith)

fits_by : (v : Version) (t : Option Transaction) (most : ℕ) (rows : List Row) → ((u : Transaction) → t ≡ Some u → IsTransaction u) → Fits most rows → Fits (most + 7) (outcome_of v t rows).after
fits_by v None most rows is h = fits_wider most (most + 7) rows (omega arith) h
fits_by v (Some t) most rows is h =
    let s = status_of v (account_at rows) t in
    let cs = changes_fit s (account_at rows) t (is t refl) in
    fits_wider (most + length (changes_of s (account_at rows) t)) (most + 7) (rows_after (changes_of s (account_at rows) t) rows) (omega (arith, cs.1))
    (fits_after (changes_of s (account_at rows) t) most rows cs.0 h)

fits_fold : (v : Version) (txs : List (Option Transaction)) (most : ℕ) (rows : List Row) → ((t : Transaction) → Contains txs (Some t) → IsTransaction t) → Fits most rows → Fits (most + 7 * length txs) (state_after v txs rows)
fits_fold v [] most rows each h = fits_wider most (most + 7 * 0) rows (omega arith) h
fits_fold v (t ∷ more) most rows each h =
    let first = fits_by v t most rows (λ u e. each u (subst (Contains (t ∷ more)) e (contains_first t more))) h in
    let rest = fits_fold v more (most + 7) (outcome_of v t rows).after (λ u k. each u (contains_later t more (Some u) k)) first in
    fits_wider (most + 7 + 7 * length more) (most + 7 * length (t ∷ more)) (state_after v more (outcome_of v t rows).after) (omega arith) rest

-- ---- the opening accounts

genesis_fits : (frames : List Frame) → ((f : Frame) → Contains frames f → IsBytes f.payload) → Fits MOST_ACCOUNTS (genesis_of frames)
genesis_fits [] are = record { ids = tt; few = omega arith }
genesis_fits (f ∷ []) are = record { ids = tt; few = omega arith }
genesis_fits (f ∷ g ∷ more) are = by (rows_of g.payload) refl
  where
    each_id : (rows : List Row) → AllByRecursion (λ (r : Row). (r.id < 2 ^ 64) × (r.balance < 2 ^ 64)) rows → AllByRecursion (λ (r : Row). r.id < 2 ^ 64) rows
    each_id [] all = tt
    each_id (r ∷ rows) all = (all.0.0, each_id rows all.1)

    of_genesis : (rows : List Row) → IsGenesis rows → Fits MOST_ACCOUNTS rows
    of_genesis rows is = record { ids = each_id rows is.fit; few = is.few }

    by : (o : Option (List Row)) → rows_of g.payload ≡ o → Fits MOST_ACCOUNTS (unwrap_or o [])
    by None e = record { ids = tt; few = omega arith }
    by (Some rows) e = of_genesis rows (genesis_spelled g.payload rows (are g (contains_later f (g ∷ more) g (contains_first g more))) e).0

-- ---- the accounts of a run

balances_fit : (rows : List Row) → total_of rows < 2 ^ 63 → AllByRecursion (λ (r : Row). r.balance < 2 ^ 64) rows
balances_fit [] low = tt
balances_fit (r ∷ rows) low =
    let sum = sum_by-cons (λ (x : Row). x.balance) r rows in
    (omega arith, balances_fit rows (omega arith))

seq_end_fits : (v : Version) → seq_end v ≤ 2 ^ 64
seq_end_fits One = omega arith
seq_end_fits Two = omega arith

rows_fit : (v : Version) (rows : List Row) → AllByRecursion (λ (r : Row). r.id < 2 ^ 64) rows → AllByRecursion (λ (r : Row). r.balance < 2 ^ 64) rows → AllByRecursion (λ (r : Row). r.seq + 0 < seq_end v) rows → AllByRecursion IsRow rows
rows_fit v [] ids balances seqs = tt
rows_fit v (r ∷ rows) ids balances seqs =
    let end = seq_end_fits v in
    let seq = seqs.0 in
    (record { id = ids.0; balance = balances.0; seq = omega arith }, rows_fit v rows ids.1 balances.1 seqs.1)

-- those after the transactions of an order
pub rows_after_fit : (feed : FeedValue) (o : Ordered) → IsBytes (spelling feed) → IsFeed feed → IsOrderIn feed o
    → All IsRow (state_after feed.version (transactions_of o.payloads.list) (genesis_of feed.frames)) × (length (state_after feed.version (transactions_of o.payloads.list) (genesis_of feed.frames)) < 2 ^ 64)
rows_after_fit feed o are good ordered =
    let txs = transactions_of o.payloads.list in
    let opening = genesis_of feed.frames in
    let accounts = genesis_accounts feed.version feed.frames good in
    let few : length txs < 2 ^ 31 = few_places feed.version (committee_in feed) feed.frames (later_frames feed) o good.good (later_part feed.frames) ordered in
    let fits = fits_fold feed.version txs MOST_ACCOUNTS opening (ordered_transactions feed o are ordered) (genesis_fits feed.frames (payload_bytes feed are)) in
    let rows = state_after feed.version txs opening in
    let each : AllByRecursion IsRow rows = rows_fit feed.version rows fits.ids (balances_fit rows (total_below feed.version txs opening accounts)) (room_left feed.version txs 0 opening accounts (omega (arith, few))) in
    (All-from_recursion IsRow rows each, omega (arith, fits.few, few))

-- and the opening ones
pub opening_fits : (feed : FeedValue) → IsBytes (spelling feed) → IsFeed feed → All IsRow (genesis_of feed.frames)
opening_fits feed are good =
    let opening = genesis_of feed.frames in
    let accounts = genesis_accounts feed.version feed.frames good in
    let ids = (genesis_fits feed.frames (payload_bytes feed are)).ids in
    All-from_recursion IsRow opening (rows_fit feed.version opening ids (balances_fit opening accounts.within) (room_left feed.version [] 0 opening accounts (omega arith)))

pub accounts_fit : (feed : FeedValue) (r : Reading) → IsBytes (spelling feed) → IsFeed feed → Reads feed r → All IsRow r.rows × (length r.rows < 2 ^ 64)
accounts_fit feed r are good reads =
    subst (λ (xs : List Row). All IsRow xs × (length xs < 2 ^ 64)) (sym reads.rows) (rows_after_fit feed r.ordered are good reads.ordered)
