-- What a list of declared accounts allows, and whom a list of payments pays.
use Rattle.std.specs.Prelude.{ℕ, Bool, false, List, map, ◌^◌, ◌<◌, ◌==◌, ◌&&◌}
use Rattle.std.specs.List.{list_any, AllByRecursion}
use Rattle.bk_tx.specs.declared.declared.Declared.{Declared}
use Rattle.bk_tx.specs.declared.payments.Payment.{Payment}

-- the ids of declared accounts
abbrev pub declared_ids : List Declared → List ℕ
declared_ids declarations = map (λ (d : Declared). d.id) declarations

-- the account is declared for writing
abbrev pub writes : List Declared → ℕ → Bool
writes declarations id = list_any (λ (d : Declared). d.writable && d.id == id) declarations

-- the account is declared, for reading or for writing
abbrev pub declares : List Declared → ℕ → Bool
declares declarations id = list_any (λ (d : Declared). d.id == id) declarations

-- the receivers of payments
abbrev pub receivers_in : List Payment → List ℕ
receivers_in payments = map (λ (p : Payment). p.to) payments

-- a declared account of nobody, read past the end
abbrev pub no_declared : Declared
no_declared = record { id = 0; writable = false }

-- the id of each declared account fits eight bytes
abbrev pub IdsFit : List Declared → Type 0
IdsFit declarations = AllByRecursion (λ (d : Declared). d.id < 2 ^ 64) declarations

-- the receiver and the amount of each payment fit eight bytes
abbrev pub PaymentsFit : List Payment → Type 0
PaymentsFit payments = AllByRecursion (λ (p : Payment). (p.to < 2 ^ 64) × (p.amount < 2 ^ 64)) payments
