-- Accounts as the code holds them: their numbers in lists of their own.
use Rattle.std.specs.Prelude.{ℕ, Bool, List, [], ◌∷◌, Option, Some, None, if◌then◌else◌}
use Rattle.bk_rules.specs.declared.account.Account.{Account}

-- accounts whose numbers are in lists of their own, beside a list that says which are there
abbrev pub side_by_side : List Bool → List ℕ → List ℕ → List (Option Account)
side_by_side [] balances seqs = []
side_by_side (b ∷ there) [] seqs = []
side_by_side (b ∷ there) (x ∷ balances) [] = []
side_by_side (b ∷ there) (x ∷ balances) (s ∷ seqs) = (if b then Some (record { balance = x; seq = s }) else None) ∷ side_by_side there balances seqs
