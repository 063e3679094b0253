-- What the texts of a batch put at the end of a list of transactions.
use Rattle.std.specs.Prelude.{◌≡◌, ℕ, Bool, false, List, ◌++◌, length, map, Option, Some, None, ◌==◌}
use Rattle.bk_tx.specs.Transaction.{Transaction}
use Rattle.bk_tx.specs.Reading.{transaction_of}

-- the list is longer by the transactions of the texts that were read, and it is said whether bytes are left; or texts are missing
abbrev pub IsPut : List (Option Transaction) → List (Option Transaction) → Option (List (List ℕ) × List ℕ) → Bool → Type 0
IsPut old new (Some texts) whole = (whole ≡ (length texts.1 == 0)) × (new ≡ old ++ map transaction_of texts.0)
IsPut old new None whole = whole ≡ false
