-- Which transactions are in conflict, and which of them has to wait for which.
use Rattle.std.specs.Prelude.{◌≡◌, ◌≢◌, ℕ, ◌<◌, ◌&&◌, ◌||◌, List, [], Bool, true, false, Option, None, Some, slice_index_or}
use Rattle.bk_tx.specs.declared.declared.Declared.{Declared}
use Rattle.bk_tx.specs.Access.{writes, declares}
use Rattle.bk_tx.specs.Transaction.{Transaction}
use Rattle.bk_rules.specs.Ledger.{has_slot}

-- the accounts that a transaction declares; a malformed one declares none
abbrev pub declared_by : Option Transaction → List Declared
declared_by None = []
declared_by (Some t) = t.declared

-- the accounts that the transaction of a place declares; there are none where there is no such place
abbrev pub declared_at : List (Option Transaction) → ℕ → List Declared
declared_at txs place = declared_by (slice_index_or txs place None)

-- both places declare this account, one of them for writing
abbrev pub share : List (Option Transaction) → ℕ → ℕ → ℕ → Bool
share txs id p q =
    (declares (declared_at txs p) id && declares (declared_at txs q) id)
    && (writes (declared_at txs p) id || writes (declared_at txs q) id)

-- they share it, and it has a slot
unfoldable pub clash : List ℕ → List (Option Transaction) → ℕ → ℕ → ℕ → Bool
clash slots txs id p q = has_slot slots id && share txs id p q

-- two transactions are in conflict: they share some account that has a slot
abbrev pub Conflict : List ℕ → List (Option Transaction) → ℕ → ℕ → Type 0
Conflict slots txs p q = (p ≢ q) × ((id : ℕ) × (clash slots txs id p q ≡ true))

-- p comes before q, the two clash, and no place between them clashes with both
pub record IsNearest (clashes : ℕ → ℕ → Bool) (p q : ℕ) : Type 0 where
  pub earlier : p < q
  pub here : clashes p q ≡ true
  pub between : (m : ℕ) → p < m → m < q → clashes p m ≡ true → clashes m q ≡ false

-- q has to wait for p directly: on some account the two are nearest
abbrev pub Edge : (ℕ → ℕ → ℕ → Bool) → ℕ → ℕ → Type 0
Edge clashes p q = (id : ℕ) × IsNearest (clashes id) p q

-- q has to wait for p, perhaps through places between
pub data Waits (clashes : ℕ → ℕ → ℕ → Bool) : ℕ → ℕ → Type 0 where
  directly : (p q : ℕ) → Edge clashes p q → Waits clashes p q
  through : (p r q : ℕ) → Waits clashes p r → Edge clashes r q → Waits clashes p q
