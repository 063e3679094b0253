-- A chain of feeds is one fold.
use Rattle.std.proofs.Common.{◌≡◌, List, [], ◌∷◌, ◌++◌, Option, sym, ap, ◌∙◌}
use Rattle.std.proofs.lemmas.List.{append-nil}
use Rattle.bk_base.specs.declared.genesis.Row.{Row}
use Rattle.bk_base.specs.Feed.{genesis_of}
use Rattle.bk_base.specs.Genesis.{total_of}
use Rattle.bk_base.proofs.Accounts.{genesis_accounts}
use Rattle.bk_rules.specs.Fold.{state_after, receipts_of}
use Rattle.bk_rules.proofs.Folding.{state_append, receipts_append, total_kept_by_fold, ledger_of_accounts}
use Rattle.bk_tx.specs.Batches.{transactions_of}
use Rattle.bk_tx.specs.Transaction.{Transaction}
use Rattle.bk_chain.specs.Chains.{AreChain, IsReplayed, OneFold, Replayed, receipts_in, rows_at_end, transactions_in}

abbrev own : Replayed → List (Option Transaction)
own r = transactions_of r.end.ordered.payloads.list

abbrev opening : Replayed → List Row
opening r = genesis_of r.feed.frames

replayed : (r : Replayed) (more : List Replayed) → AreChain (r ∷ more) → IsReplayed r
replayed r [] h = h
replayed r (s ∷ more) h = h.0

receipts_are : (r : Replayed) (more : List Replayed) → AreChain (r ∷ more) → receipts_in (r ∷ more) ≡ receipts_of r.feed.version (transactions_in (r ∷ more)) (opening r)
receipts_are r [] h =
    append-nil r.end.receipts ∙ (h.1.receipts ∙ ap (λ (txs : List (Option Transaction)). receipts_of r.feed.version txs (opening r)) (sym (append-nil (own r))))
receipts_are r (s ∷ more) h =
    let rest = receipts_are s more h.2 in
    let from : opening s ≡ state_after r.feed.version (own r) (opening r) = h.1.opening ∙ h.0.1.rows in
    let later = rest ∙ (λ i. receipts_of (h.1.version i) (transactions_in (s ∷ more)) (from i)) in
    (λ i. h.0.1.receipts i ++ later i) ∙ sym (receipts_append r.feed.version (own r) (transactions_in (s ∷ more)) (opening r))

rows_are : (r : Replayed) (more : List Replayed) → AreChain (r ∷ more) → rows_at_end r more ≡ state_after r.feed.version (transactions_in (r ∷ more)) (opening r)
rows_are r [] h = h.1.rows ∙ ap (λ (txs : List (Option Transaction)). state_after r.feed.version txs (opening r)) (sym (append-nil (own r)))
rows_are r (s ∷ more) h =
    let rest = rows_are s more h.2 in
    let from : opening s ≡ state_after r.feed.version (own r) (opening r) = h.1.opening ∙ h.0.1.rows in
    rest ∙ ((λ i. state_after (h.1.version i) (transactions_in (s ∷ more)) (from i)) ∙ sym (state_append r.feed.version (own r) (transactions_in (s ∷ more)) (opening r)))

pub one_fold : OneFold
one_fold first more h =
    let good = (replayed first more h).0 in
    let rows = rows_are first more h in
    record {
      receipts = receipts_are first more h;
      rows = rows;
      money = ap total_of rows
          ∙ total_kept_by_fold first.feed.version (transactions_in (first ∷ more)) (opening first) (ledger_of_accounts (opening first) (genesis_accounts first.feed.version first.feed.frames good));
    }
