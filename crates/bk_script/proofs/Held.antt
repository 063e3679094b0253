-- Accounts in a map, by ascending id.
use Rattle.std.proofs.Common.{◌≡◌, ℕ, suc, ◌+◌, ◌==◌, ◌||◌, Bool, true, false, cond, not, nat_lt, List, [], ◌∷◌, ◌++◌, map, is_some, Some, refl, sym, ap, ◌∙◌, arith, append_assoc}
use Rattle.std.specs.BTreeMap.{insert_entry, is_at}
use Rattle.std.specs.List.{flat_map, insert, list_any, position_or_len}
use Rattle.std.specs.Map.{lookup}
use Rattle.std.specs.Ordering.{is_eq, match_ordering, nat_cmp}
use Rattle.std.specs.declared.cmp.Ordering.TheVariants.{Less, Equal, Greater}
use Rattle.std.proofs.lemmas.Bool.Decides.{nat_tests}
use Rattle.bk_base.specs.declared.genesis.Row.{Row}
use Rattle.bk_base.specs.Genesis.{row_text}
use Rattle.bk_script.specs.declared.accounts.Held.{Held}
use Rattle.bk_script.specs.private.Held.{row_with}

same : (a b : ℕ) → is_eq (nat_cmp a b) ≡ (b == a)
same a b = by_case (nat_lt a b) (a == b) refl refl
  where
    by_case : (l e : Bool) → nat_lt a b ≡ l → (a == b) ≡ e → is_eq (cond l Less (cond e Equal Greater)) ≡ (b == a)
    by_case true e p q = let no : (b == a) ≡ false = grind (arith, nat_tests) in sym no
    by_case false true p q = let yes : (b == a) ≡ true = grind (arith, nat_tests) in sym yes
    by_case false false p q = let no : (b == a) ≡ false = grind (arith, nat_tests) in sym no

-- an id is looked up
pub found : (id : ℕ) (es : List (ℕ × Held)) → is_some (lookup (is_at (nat_cmp id)) es) ≡ list_any (λ (r : Row). r.id == id) (map row_with es)
found id [] = refl
found id (e ∷ es) = by_test (is_eq (nat_cmp id e.0)) ∙ ap (λ b. b || is_some (lookup (is_at (nat_cmp id)) es)) (same id e.0) ∙ ap (λ b. (e.0 == id) || b) (found id es)
  where
    by_test : (b : Bool) → is_some (cond b (Some e.1) (lookup (is_at (nat_cmp id)) es)) ≡ (b || is_some (lookup (is_at (nat_cmp id)) es))
    by_test true = refl
    by_test false = refl

first_not : (a b : Bool) → (a || b) ≡ false → a ≡ false
first_not true b h = h
first_not false b h = refl

others_not : (a b : Bool) → (a || b) ≡ false → b ≡ false
others_not true b h = absurd cc
others_not false b h = h

apart : (a b : ℕ) → (a == b) ≡ false → (b == a) ≡ false
apart a b h = grind (arith, nat_tests)

insert_behind : (r one : Row) (rows : List Row) (k : ℕ) → one ∷ insert rows k r ≡ insert (one ∷ rows) (1 + k) r
insert_behind r one rows k = let next : suc k ≡ 1 + k = omega arith in ap (λ n. insert (one ∷ rows) n r) next

-- an account goes to its place
pub placed : (es : List (ℕ × Held)) (id : ℕ) (held : Held) → list_any (λ (r : Row). r.id == id) (map row_with es) ≡ false
    → map row_with (insert_entry nat_cmp es id held) ≡ insert (map row_with es) (position_or_len (λ (r : Row). nat_lt id r.id) (map row_with es)) (row_with (id, held))
placed [] id held h = refl
placed (e ∷ es) id held h =
    by_case (nat_lt id e.0) (id == e.0) (apart e.0 id (first_not (e.0 == id) (list_any (λ (r : Row). r.id == id) (map row_with es)) h))
    (placed es id held (others_not (e.0 == id) (list_any (λ (r : Row). r.id == id) (map row_with es)) h))
  where
    by_case : (l e' : Bool) → e' ≡ false
        → map row_with (insert_entry nat_cmp es id held) ≡ insert (map row_with es) (position_or_len (λ (r : Row). nat_lt id r.id) (map row_with es)) (row_with (id, held))
        → map row_with (match_ordering (cond l Less (cond e' Equal Greater)) ((id, held) ∷ e ∷ es) ((e.0, held) ∷ es) (e ∷ insert_entry nat_cmp es id held))
        ≡ insert (row_with e ∷ map row_with es) (cond (not l) (1 + position_or_len (λ (r : Row). nat_lt id r.id) (map row_with es)) 0) (row_with (id, held))
    by_case true e' n rest = refl
    by_case false true n rest = absurd cc
    by_case false false n rest = ap (λ t. row_with e ∷ t) rest ∙ insert_behind (row_with (id, held)) (row_with e) (map row_with es) (position_or_len (λ (r : Row). nat_lt id r.id) (map row_with es))

-- one more is written
pub row_more : (r : Row) (rest : List Row) (out next all : List ℕ) → next ≡ out ++ row_text r → out ++ flat_map row_text (r ∷ rest) ≡ all → next ++ flat_map row_text rest ≡ all
row_more r rest out next all e inv = ap (λ o. o ++ flat_map row_text rest) e ∙ append_assoc out (row_text r) (flat_map row_text rest) ∙ inv
