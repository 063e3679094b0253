-- Batches of a feed, read frame by frame.
use Rattle.std.proofs.Common.{◌≡◌, ℕ, ◌+◌, List, [], ◌∷◌, ◌++◌, take, Option, Some, sym, ap, ◌∙◌}
use Rattle.std.specs.Prelude.{slice_get}
use Rattle.bk_base.specs.Feed.{Frame}
use Rattle.bk_tx.specs.Transaction.{Transaction}
use Rattle.bk_tx.specs.Batches.{feed_transactions}
use Rattle.bk_ledger.proofs.Runs.{transactions_next}

-- the transactions, with one frame more
pub txs_next : (frames : List Frame) (i : ℕ) (f : Frame) (old new : List (Option Transaction)) → slice_get frames i ≡ Some f → old ≡ feed_transactions (take i frames)
    → new ≡ old ++ feed_transactions (f ∷ []) → new ≡ feed_transactions (take (i + 1) frames)
txs_next frames i f old new e before grown =
    grown ∙ ap (λ (t : List (Option Transaction)). t ++ feed_transactions (f ∷ [])) before ∙ sym (transactions_next frames i f e)
