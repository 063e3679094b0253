-- Names in a map.
use Rattle.std.proofs.Common.{◌≡◌, ℕ, suc, ◌+◌, Bool, true, false, cond, not, nat_lt, List, [], ◌∷◌, ◌++◌, length, Option, Some, None, is_some, refl, sym, ap, ◌∙◌, subst, arith}
use Rattle.std.specs.BTreeMap.{BTreeMap, UpdatesBy}
use Rattle.std.specs.Cmp.{eq_by_cmp_equiv}
use Rattle.std.specs.Cmp.Lexicographic.{slice_cmp, nat_list_cmp_total, nat_list_eq_equiv}
use Rattle.std.specs.Global.{Vec}
use Rattle.std.specs.List.{position, position_or_len}
use Rattle.std.specs.Map.{lookup, IsKeyTest, AreApart, KeepsOthers}
use Rattle.std.specs.Option.{option_map, option_or}
use Rattle.std.specs.Ordering.{is_eq, nat_cmp}
use Rattle.std.specs.Str.{bytes_eq}
use Rattle.std.proofs.lemmas.Bool.Decides.{nat_tests}
use Rattle.std.proofs.lemmas.Map.Text.{is_eq-slice_cmp}
use Rattle.std.proofs.lemmas.Slice.Eq.{bytes_eq-Decides}
use Rattle.bk_script.specs.Known.{NamedValue, place_of}
use Rattle.bk_script.specs.private.Places.{noted_at, ArePlaces, IsNoted}

-- ---- the first that passes, where one more comes after the others

position_cons : {X : Type 0} (p : X → Bool) (x : X) (xs : List X) → position p (x ∷ xs) ≡ cond (p x) (Some 0) (option_map suc (position p xs))
position_cons p x xs = by_test (p x)
  where
    moved : (k n : ℕ) (a b : Bool) → nat_lt (1 + k) (suc n) ≡ a → nat_lt k n ≡ b → cond a (Some (1 + k)) None ≡ option_map suc (cond b (Some k) None)
    moved k n true true e f = ap Some (omega arith)
    moved k n false false e f = refl
    moved k n true false e f = absurd grind (arith, nat_tests)
    moved k n false true e f = absurd grind (arith, nat_tests)

    by_test : (b : Bool)
        → cond (nat_lt (cond (not b) (1 + position_or_len p xs) 0) (suc (length xs))) (Some (cond (not b) (1 + position_or_len p xs) 0)) None
        ≡ cond b (Some 0) (option_map suc (position p xs))
    by_test true = let low : nat_lt 0 (suc (length xs)) ≡ true = grind (arith, nat_tests) in ap (λ b. cond b (Some 0) None) low
    by_test false = moved (position_or_len p xs) (length xs) (nat_lt (1 + position_or_len p xs) (suc (length xs))) (nat_lt (position_or_len p xs) (length xs)) refl refl

pub position_push : {X : Type 0} (p : X → Bool) (xs : List X) (x : X) → position p (xs ++ x ∷ []) ≡ option_or (position p xs) (cond (p x) (Some (length xs)) None)
position_push p [] x = position_cons p x []
position_push p (y ∷ ys) x =
    position_cons p y (ys ++ x ∷ []) ∙ ap (λ o. cond (p y) (Some 0) (option_map suc o)) (position_push p ys x)
    ∙ by_test (p y) (position p ys) (p x) ∙ ap (λ o. option_or o (cond (p x) (Some (suc (length ys))) None)) (sym (position_cons p y ys))
  where
    by_test : (b : Bool) (o : Option ℕ) (here : Bool)
        → cond b (Some 0) (option_map suc (option_or o (cond here (Some (length ys)) None)))
        ≡ option_or (cond b (Some 0) (option_map suc o)) (cond here (Some (suc (length ys))) None)
    by_test true o here = refl
    by_test false (Some k) here = refl
    by_test false None true = refl
    by_test false None false = refl

-- ---- a map that got one name more

apart : (bs cs ks : List ℕ) → bytes_eq bs cs ≡ false → is_eq (slice_cmp nat_cmp bs ks) ≡ true → is_eq (slice_cmp nat_cmp cs ks) ≡ false
apart bs cs ks n y =
    let same : bytes_eq bs ks ≡ true = sym (is_eq-slice_cmp bs ks) ∙ y in
    is_eq-slice_cmp cs ks ∙ nat_list_eq_equiv.symm cs ks ∙ sym (nat_list_eq_equiv.congr bs ks cs same) ∙ n

others : (test : Vec ℕ → Bool) (old new : List (Vec ℕ × ℕ)) (other : Vec ℕ → Bool)
    → KeepsOthers (λ (x y : Vec ℕ). is_eq (slice_cmp nat_cmp x.items y.items)) test old new
    → IsKeyTest (λ (x y : Vec ℕ). is_eq (slice_cmp nat_cmp x.items y.items)) other → AreApart test other → lookup other new ≡ lookup other old
unfolding KeepsOthers
others test old new other h = h other

-- at another name it has what it had
kept : (bs cs : List ℕ) (m n : BTreeMap (Vec ℕ) ℕ) (w : Option ℕ)
    → UpdatesBy (λ (x y : Vec ℕ). slice_cmp nat_cmp x.items y.items) (λ (k : Vec ℕ). slice_cmp nat_cmp bs k.items) m n w
    → bytes_eq bs cs ≡ false → noted_at n cs ≡ noted_at m cs
kept bs cs m n w h e =
    others (λ (k : Vec ℕ). is_eq (slice_cmp nat_cmp bs k.items)) m.entries n.entries (λ (k : Vec ℕ). is_eq (slice_cmp nat_cmp cs k.items)) h.3
    (λ x y. (eq_by_cmp_equiv nat_list_cmp_total).congr cs x.items y.items) (λ k. apart bs cs k.items e)

or_none : (o : Option ℕ) → o ≡ option_or o None
or_none None = refl
or_none (Some k) = refl

or_some : (o p : Option ℕ) → is_some o ≡ true → o ≡ option_or o p
or_some None p e = absurd cc
or_some (Some k) p e = refl

-- a name that the map had not
pub noted_new : (bs : List ℕ) (place : ℕ) (m n : BTreeMap (Vec ℕ) ℕ) → is_some (noted_at m bs) ≡ false
    → UpdatesBy (λ (x y : Vec ℕ). slice_cmp nat_cmp x.items y.items) (λ (k : Vec ℕ). slice_cmp nat_cmp bs k.items) m n (Some place) → IsNoted m n bs place
unfolding IsNoted
noted_new bs place m n new h = λ cs. by_case cs (bytes_eq bs cs) refl
  where
    none : (o : Option ℕ) → is_some o ≡ false → Some place ≡ option_or o (Some place)
    none None e = refl
    none (Some k) e = absurd cc

    by_case : (cs : List ℕ) (b : Bool) → bytes_eq bs cs ≡ b → noted_at n cs ≡ option_or (noted_at m cs) (cond b (Some place) None)
    by_case cs true e = subst (λ ds. noted_at n ds ≡ option_or (noted_at m ds) (Some place)) ((bytes_eq-Decides bs cs).0 e) (h.1 ∙ none (noted_at m bs) new)
    by_case cs false e = kept bs cs m n (Some place) h e ∙ or_none (noted_at m cs)

-- a name that it had
pub noted_again : (bs : List ℕ) (place : ℕ) (m : BTreeMap (Vec ℕ) ℕ) → is_some (noted_at m bs) ≡ true → IsNoted m m bs place
unfolding IsNoted
noted_again bs place m there = λ cs. by_case cs (bytes_eq bs cs) refl
  where
    by_case : (cs : List ℕ) (b : Bool) → bytes_eq bs cs ≡ b → noted_at m cs ≡ option_or (noted_at m cs) (cond b (Some place) None)
    by_case cs true e = subst (λ ds. noted_at m ds ≡ option_or (noted_at m ds) (Some place)) ((bytes_eq-Decides bs cs).0 e) (or_some (noted_at m bs) (Some place) there)
    by_case cs false e = or_none (noted_at m cs)

-- ---- the names with their places

pub no_places : (places : BTreeMap (Vec ℕ) ℕ) → places.entries ≡ [] → ArePlaces [] places
unfolding ArePlaces
no_places places e = λ name. ap (lookup (λ (k : Vec ℕ). is_eq (slice_cmp nat_cmp name k.items))) e

pub place_known : (named : List NamedValue) (places : BTreeMap (Vec ℕ) ℕ) (name : List ℕ) → ArePlaces named places → noted_at places name ≡ place_of named name
unfolding ArePlaces
place_known named places name h = h name

-- the map is read by its entries alone
pub same_places : (named : List NamedValue) (old new : BTreeMap (Vec ℕ) ℕ) → new.entries ≡ old.entries → ArePlaces named old → ArePlaces named new
unfolding ArePlaces
same_places named old new e h = λ name. ap (lookup (λ (k : Vec ℕ). is_eq (slice_cmp nat_cmp name k.items))) e ∙ h name

pub one_more : (named : List NamedValue) (one : NamedValue) (old new : BTreeMap (Vec ℕ) ℕ) → ArePlaces named old → IsNoted old new one.name (length named) → ArePlaces (named ++ one ∷ []) new
unfolding ArePlaces IsNoted
one_more named one old new h e =
    λ name. e name ∙ ap (λ o. option_or o (cond (bytes_eq one.name name) (Some (length named)) None)) (h name) ∙ sym (position_push (λ (n : NamedValue). bytes_eq n.name name) named one)
