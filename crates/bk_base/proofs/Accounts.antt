-- The rows of a genesis, and the opening accounts of a feed.
use Rattle.std.proofs.Common.{◌≡◌, ◌≢◌, ℕ, ◌-◌, ◌^◌, ◌<◌, ◌≤◌, Bool, true, false, cond, ltb, leb, eqb, ◌&&◌, List, [], ◌∷◌, ◌++◌, length, length-drop, drop, Option, Some, None, IsTrue, refl, ap, subst, ◌∙◌, arith}
use Rattle.std.specs.Prelude.{is_some, unwrap_or}
use Rattle.std.specs.List.{list_all, AllByRecursion}
use Rattle.std.specs.Int.{w32}
use Rattle.std.proofs.lemmas.Bool.{ltb-true}
use Rattle.std.proofs.lemmas.Bool.Decides.{nat_tests}
use Rattle.bk_base.specs.declared.limits.TheConstants.{MOST_ACCOUNTS}
use Rattle.bk_base.specs.declared.genesis.Row.{Row}
use Rattle.bk_base.specs.declared.version.Version.{Version}
use Rattle.bk_base.specs.Numbers.{◌>>=◌, number_at, list_at, is_ascending}
use Rattle.bk_base.specs.Genesis.{ids_of, total_of, are_accounts, AreAccounts, row_at, rows_of}
use Rattle.bk_base.specs.Feed.{Frame, IsFeed, genesis_of}
use Rattle.bk_base.proofs.FieldLemmas.{bind_some, guard_some, if_some, length-list_at}

-- both parts of a test that was passed
pub and_true : (a b : Bool) → (a && b) ≡ true → (a ≡ true) × (b ≡ true)
and_true true b h = (refl, h)
and_true false b h = absurd cc

all_young : (rows : List Row) → list_all (λ (r : Row). ltb r.seq (2 ^ 63)) rows ≡ true → AllByRecursion (λ (r : Row). r.seq < 2 ^ 63) rows
all_young [] h = tt
all_young (r ∷ rows) h = let both = and_true (ltb r.seq (2 ^ 63)) (list_all (λ (r : Row). ltb r.seq (2 ^ 63)) rows) h in (ltb-true _ _ both.0, all_young rows both.1)

-- what passes the test is accounts
pub accounts_from_test : (rows : List Row) → are_accounts rows ≡ true → AreAccounts rows
accounts_from_test rows h =
    let outer = and_true (is_ascending (ids_of rows) && list_all (λ (r : Row). ltb r.seq (2 ^ 63)) rows) (ltb (total_of rows) (2 ^ 63)) h in
    let inner = and_true (is_ascending (ids_of rows)) (list_all (λ (r : Row). ltb r.seq (2 ^ 63)) rows) outer.0 in
    record { ascending = inner.0; young = all_young rows inner.1; within = ltb-true _ _ outer.1 }

-- the rows that a payload encodes are accounts
pub rows_are_accounts : (payload : List ℕ) (rows : List Row) → rows_of payload ≡ Some rows → AreAccounts rows
unfolding rows_of
rows_are_accounts payload rows e =
    let a = bind_some (number_at w32 payload) (λ count. cond (leb count.0 MOST_ACCOUNTS) (list_at row_at count.0 count.1) None >>= λ x. cond (eqb (length x.1) 0 && are_accounts x.0) (Some x.0) None) rows e in
    let b = bind_some (cond (leb a.0.0 MOST_ACCOUNTS) (list_at row_at a.0.0 a.0.1) None) (λ x. cond (eqb (length x.1) 0 && are_accounts x.0) (Some x.0) None) rows a.2 in
    let g = guard_some (eqb (length b.0.1) 0 && are_accounts b.0.0) b.0.0 rows b.2 in
    subst AreAccounts g.1 (accounts_from_test b.0.0 (and_true (eqb (length b.0.1) 0) (are_accounts b.0.0) g.0).1)

-- the rows that a payload encodes are at most 600,000
rows_are_few : (payload : List ℕ) (rows : List Row) → rows_of payload ≡ Some rows → length rows ≤ MOST_ACCOUNTS
unfolding rows_of
rows_are_few payload rows e =
    let a = bind_some (number_at w32 payload) (λ count. cond (leb count.0 MOST_ACCOUNTS) (list_at row_at count.0 count.1) None >>= λ x. cond (eqb (length x.1) 0 && are_accounts x.0) (Some x.0) None) rows e in
    let b = bind_some (cond (leb a.0.0 MOST_ACCOUNTS) (list_at row_at a.0.0 a.0.1) None) (λ x. cond (eqb (length x.1) 0 && are_accounts x.0) (Some x.0) None) rows a.2 in
    let c = if_some (leb a.0.0 MOST_ACCOUNTS) (list_at row_at a.0.0 a.0.1) b.0 b.1 in
    let g = guard_some (eqb (length b.0.1) 0 && are_accounts b.0.0) b.0.0 rows b.2 in
    let few : a.0.0 ≤ MOST_ACCOUNTS = grind (arith, nat_tests, c.0) in
    omega (arith, length-list_at row_at a.0.0 a.0.1 b.0 c.1, ap length g.1, few)

pub genesis_few : (frames : List Frame) → length (genesis_of frames) ≤ MOST_ACCOUNTS
genesis_few [] = omega arith
genesis_few (f ∷ []) = omega arith
genesis_few (f ∷ g ∷ more) = found (rows_of g.payload) refl
  where
    found : (r : Option (List Row)) → rows_of g.payload ≡ r → length (unwrap_or r []) ≤ MOST_ACCOUNTS
    found (Some rows) e = rows_are_few g.payload rows e
    found None e = omega arith

-- the opening accounts of a feed are accounts
pub genesis_accounts : (version : Version) (frames : List Frame) → IsFeed (record { version = version; frames = frames }) → AreAccounts (genesis_of frames)
genesis_accounts version [] feed = absurd (omega (arith, feed.opened))
genesis_accounts version (f ∷ []) feed = absurd (omega (arith, feed.opened))
genesis_accounts version (f ∷ g ∷ more) feed = found (rows_of g.payload) refl (feed.good.1.0.genesis refl)
  where
    found : (r : Option (List Row)) → rows_of g.payload ≡ r → IsTrue (is_some r) → AreAccounts (unwrap_or r [])
    found (Some rows) e h = rows_are_accounts g.payload rows e
    found None e h = absurd cc

-- the opening accounts stay those of frame 1
pub genesis_more : (frames : List Frame) (f : Frame) (old new : List Row) → (2 ≤ length frames → old ≡ genesis_of frames) → (length frames ≡ 1 → rows_of f.payload ≡ Some new) → (length frames ≢ 1 → new ≡ old)
    → 2 ≤ length (frames ++ f ∷ []) → new ≡ genesis_of (frames ++ f ∷ [])
genesis_more [] f old new before found kept two = absurd (omega arith)
genesis_more (g ∷ []) f old new before found kept two = rw (found refl) refl
genesis_more (g ∷ h ∷ more) f old new before found kept two = kept (λ e. omega arith) ∙ before (omega arith)

-- what is left of an ascending list at its end
pub ascending_end : (rows : List Row) (i : ℕ) → length rows ≤ i → 1 ≤ i → is_ascending (ids_of (drop (i - 1) rows)) ≡ true
ascending_end rows i all some = short (drop (i - 1) rows) (omega (arith, length-drop (i - 1) rows))
  where
    short : (xs : List Row) → length xs ≤ 1 → is_ascending (ids_of xs) ≡ true
    short [] le = refl
    short (x ∷ []) le = refl
    short (x ∷ y ∷ more) le = absurd (omega arith)
