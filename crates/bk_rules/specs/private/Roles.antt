-- Where the accounts that a transaction names are among those that it declares.
use Rattle.std.specs.Prelude.{Bool, true, ◌≡◌, ℕ, ◌<◌, List, [], ◌∷◌, length, slice_set, slice_index, slice_index_or, Option, Some, None, option_map, unwrap_or, IsSomeAnd}
use Rattle.bk_tx.specs.declared.declared.Declared.{Declared}
use Rattle.bk_tx.specs.declared.payments.Payment.{Payment}
use Rattle.bk_tx.specs.Transaction.{Transaction}
use Rattle.bk_tx.specs.declared.body.Body.{Body}
use Rattle.bk_tx.specs.declared.body.Body.TheVariants.{Split}
use Rattle.bk_rules.specs.declared.account.Account.{Account}
use Rattle.bk_rules.specs.declared.roles.Floor.{Floor}
use Rattle.bk_rules.specs.declared.roles.FloorAt.{FloorAt}
use Rattle.bk_rules.specs.declared.roles.Roles.{Roles}
use Rattle.bk_rules.specs.Rule.{Guard, guard_of, received}
use Rattle.bk_rules.specs.View.{nth_id, nth_or_new}

-- the account of this id is the one declared at this index
pub record IsAt (ds : List Declared) (id k : ℕ) : Type 0 where
  pub in_range : k < length ds
  pub has_id : nth_id ds k ≡ id

-- a payment of nobody, read past the end
abbrev pub no_payment : Payment
no_payment = record { to = 0; amount = 0 }

-- the receiver of each payment is at the place of the same index
abbrev pub AllAt : List Declared → List Payment → List ℕ → Type 0
AllAt ds payments places = (k : ℕ) → k < length payments → IsAt ds (slice_index_or payments k no_payment).to (slice_index places k)

-- the guard as the code holds it
abbrev pub guard_in : Floor → Guard
guard_in f = record { id = f.id; least = f.least }

-- the guard is at this place, and there is a place only where there is a guard
abbrev pub GuardIsAt : List Declared → Option Guard → Option FloorAt → Type 0
GuardIsAt ds None at = at ≡ None
GuardIsAt ds (Some g) at = IsSomeAnd at (λ p. IsAt ds g.id p.at × (p.least ≡ g.least))

-- all that a transaction names is at these places
pub record AreAt (t : Transaction) (payments : List Payment) (roles : Roles) : Type 0 where
  pub sender : IsAt t.declared t.from roles.from
  pub receivers : AllAt t.declared payments roles.to
  pub guard : GuardIsAt t.declared (guard_of t.body) roles.guard

-- a test of the guard at its place
abbrev pub floor_passes : (FloorAt → Bool) → Option FloorAt → Bool
floor_passes test floor = unwrap_or (option_map test floor) true

-- a body that makes several payments
abbrev pub IsSplit : Body → Type 0
IsSplit body = (payments : List Payment) × (body ≡ Split payments)

-- accounts side by side, each payment put in at its place
abbrev pub credited : List Payment → List ℕ → List (Option Account) → List (Option Account)
credited [] places view = view
credited (p ∷ more) [] view = view
credited (p ∷ more) (k ∷ places) view = credited more places (slice_set view k (Some (received p.amount (nth_or_new view k))))
