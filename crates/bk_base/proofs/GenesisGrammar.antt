-- The payload of a genesis and its rows are two forms of one thing.
use Rattle.std.proofs.Common.{◌≡◌, ℕ, ◌^◌, ◌<◌, ◌≤◌, true, cond, ltb, leb, eqb, ◌&&◌, List, [], ◌∷◌, ◌++◌, length, Some, None, refl, sym, ap, subst, ◌∙◌, append_assoc, arith}
use Rattle.std.specs.List.{flat_map, list_all, AllByRecursion}
use Rattle.std.specs.Int.{w32, w64, to_be_bytes}
use Rattle.std.proofs.lemmas.Bool.{lt-ltb, eqb-true}
use Rattle.std.proofs.lemmas.Bool.Decides.{nat_tests}
use Rattle.std.proofs.lemmas.List.{append-nil, nil_from_length}
use Rattle.bk_base.specs.declared.limits.TheConstants.{MOST_ACCOUNTS}
use Rattle.bk_base.specs.declared.genesis.Row.{Row}
use Rattle.bk_base.specs.Numbers.{◌>>=◌, number_at, list_at}
use Rattle.bk_base.specs.Genesis.{total_of, are_accounts, AreAccounts, row_text, genesis_text, IsGenesis, row_at, rows_of}
use Rattle.bk_base.specs.Numbers.{IsBytes}
use Rattle.bk_base.proofs.FieldLemmas.{bind_some, guard_some, if_some, some_is, Takes, Takes-then, wide32, wide64, number_takes, number_again, list_takes, list_again}
use Rattle.bk_base.proofs.Accounts.{and_true, accounts_from_test}

-- ---- rows

row_takes : (bytes : List ℕ) (x : Row × List ℕ) → IsBytes bytes → row_at bytes ≡ Some x → Takes bytes (row_text x.0) x.1 × ((x.0.id < 2 ^ 64) × (x.0.balance < 2 ^ 64))
unfolding row_at
row_takes bytes x fits e =
    let a = bind_some (number_at w64 bytes) (λ id. number_at w64 id.1 >>= λ balance. number_at w64 balance.1 >>= λ seq. Some (record { id = id.0; balance = balance.0; seq = seq.0 }, seq.1)) x e in
    let b = bind_some (number_at w64 a.0.1) (λ balance. number_at w64 balance.1 >>= λ seq. Some (record { id = a.0.0; balance = balance.0; seq = seq.0 }, seq.1)) x a.2 in
    let c = bind_some (number_at w64 b.0.1) (λ seq. Some (record { id = a.0.0; balance = b.0.0; seq = seq.0 }, seq.1)) x b.2 in
    let t0 = number_takes w64 (2 ^ 64) wide64 bytes a.0.0 a.0.1 fits a.1 in
    let t1 = number_takes w64 (2 ^ 64) wide64 a.0.1 b.0.0 b.0.1 t0.0.rest_fits b.1 in
    let t2 = number_takes w64 (2 ^ 64) wide64 b.0.1 c.0.0 c.0.1 t1.0.rest_fits c.1 in
    let two = Takes-then bytes (to_be_bytes w64 a.0.0) a.0.1 (to_be_bytes w64 b.0.0) b.0.1 t0.0 t1.0 in
    let all = Takes-then bytes (to_be_bytes w64 a.0.0 ++ to_be_bytes w64 b.0.0) b.0.1 (to_be_bytes w64 c.0.0) c.0.1 two t2.0 in
    let made : Row × List ℕ = (record { id = a.0.0; balance = b.0.0; seq = c.0.0 }, c.0.1) in
    subst (λ (y : Row × List ℕ). Takes bytes (row_text y.0) y.1 × ((y.0.id < 2 ^ 64) × (y.0.balance < 2 ^ 64))) (some_is made x c.2) (all, (t0.1, t1.1))

-- its numbers fit into eight bytes each
abbrev CanBeRead : Row → Type 0
CanBeRead r = (r.id < 2 ^ 64) × (r.balance < 2 ^ 64) × (r.seq < 2 ^ 63)

row_again : (r : Row) (rest : List ℕ) → CanBeRead r → row_at (row_text r ++ rest) ≡ Some (r, rest)
unfolding row_at
row_again r rest (id, balance, seq) =
    let regrouped : row_text r ++ rest ≡ to_be_bytes w64 r.id ++ (to_be_bytes w64 r.balance ++ (to_be_bytes w64 r.seq ++ rest)) = append_assoc (to_be_bytes w64 r.id ++ to_be_bytes w64 r.balance) (to_be_bytes w64 r.seq) rest ∙ append_assoc (to_be_bytes w64 r.id) (to_be_bytes w64 r.balance) (to_be_bytes w64 r.seq ++ rest) in
    ap row_at regrouped ∙ rw (number_again w64 (2 ^ 64) wide64 r.id (to_be_bytes w64 r.balance ++ (to_be_bytes w64 r.seq ++ rest)) id, number_again w64 (2 ^ 64) wide64 r.balance (to_be_bytes w64 r.seq ++ rest) balance, number_again w64 (2 ^ 64) wide64 r.seq rest (omega arith)) refl

can_be_read : (rows : List Row) → AllByRecursion (λ (r : Row). (r.id < 2 ^ 64) × (r.balance < 2 ^ 64)) rows → AllByRecursion (λ (r : Row). r.seq < 2 ^ 63) rows → AllByRecursion CanBeRead rows
can_be_read [] fit young = tt
can_be_read (r ∷ rows) fit young = ((fit.0.0, fit.0.1, young.0), can_be_read rows fit.1 young.1)

-- ---- the whole payload

le_true : (a b : ℕ) → leb a b ≡ true → a ≤ b
le_true a b h = grind (arith, nat_tests)

pub genesis_spelled : (payload : List ℕ) (rows : List Row) → IsBytes payload → rows_of payload ≡ Some rows → IsGenesis rows × (payload ≡ genesis_text rows)
unfolding rows_of
genesis_spelled payload rows fits e =
    let a = bind_some (number_at w32 payload) (λ count. cond (leb count.0 MOST_ACCOUNTS) (list_at row_at count.0 count.1) None >>= λ x. cond (eqb (length x.1) 0 && are_accounts x.0) (Some x.0) None) rows e in
    let b = bind_some (cond (leb a.0.0 MOST_ACCOUNTS) (list_at row_at a.0.0 a.0.1) None) (λ x. cond (eqb (length x.1) 0 && are_accounts x.0) (Some x.0) None) rows a.2 in
    let f = if_some (leb a.0.0 MOST_ACCOUNTS) (list_at row_at a.0.0 a.0.1) b.0 b.1 in
    let g = guard_some (eqb (length b.0.1) 0 && are_accounts b.0.0) b.0.0 rows b.2 in
    let tests = and_true (eqb (length b.0.1) 0) (are_accounts b.0.0) g.0 in
    let first = number_takes w32 (2 ^ 32) wide32 payload a.0.0 a.0.1 fits a.1 in
    let second = list_takes row_at row_text (λ (r : Row). (r.id < 2 ^ 64) × (r.balance < 2 ^ 64)) row_takes a.0.0 a.0.1 b.0 first.0.rest_fits f.1 in
    let nothing : b.0.1 ≡ [] = nil_from_length b.0.1 (eqb-true _ _ tests.0) in
    let both = (Takes-then payload (to_be_bytes w32 a.0.0) a.0.1 (flat_map row_text b.0.0) b.0.1 first.0 second.0).parts in
    let whole : payload ≡ genesis_text b.0.0 = both ∙ ap (λ (r : List ℕ). (to_be_bytes w32 a.0.0 ++ flat_map row_text b.0.0) ++ r) nothing ∙ append-nil (to_be_bytes w32 a.0.0 ++ flat_map row_text b.0.0) ∙ ap (λ (k : ℕ). to_be_bytes w32 k ++ flat_map row_text b.0.0) (sym second.1) in
    let few : length b.0.0 ≤ MOST_ACCOUNTS = omega (arith, second.1, le_true _ _ f.0) in
    subst (λ (v : List Row). IsGenesis v × (payload ≡ genesis_text v)) g.1 (record { few = few; accounts = accounts_from_test b.0.0 tests.1; fit = second.2 }, whole)

young_test : (rows : List Row) → AllByRecursion (λ (r : Row). r.seq < 2 ^ 63) rows → list_all (λ (r : Row). ltb r.seq (2 ^ 63)) rows ≡ true
young_test [] h = refl
young_test (r ∷ rows) h = rw (lt-ltb r.seq (2 ^ 63) h.0, young_test rows h.1) refl

-- accounts pass the test
test_from_accounts : (rows : List Row) → AreAccounts rows → are_accounts rows ≡ true
test_from_accounts rows h = rw (h.ascending, young_test rows h.young, lt-ltb (total_of rows) (2 ^ 63) h.within) refl

pub genesis_read : (rows : List Row) → IsGenesis rows → rows_of (genesis_text rows) ≡ Some rows
unfolding rows_of
genesis_read rows h =
    let all : list_at row_at (length rows) (flat_map row_text rows) ≡ Some (rows, []) = ap (list_at row_at (length rows)) (sym (append-nil (flat_map row_text rows))) ∙ list_again row_at row_text CanBeRead row_again rows [] (can_be_read rows h.fit h.accounts.young) in
    let few : leb (length rows) MOST_ACCOUNTS ≡ true = grind (arith, nat_tests, h.few) in
    rw (number_again w32 (2 ^ 32) wide32 (length rows) (flat_map row_text rows) (omega (arith, h.few)), few, all, test_from_accounts rows h.accounts) refl
