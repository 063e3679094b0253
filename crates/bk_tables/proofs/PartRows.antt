-- The rows of one account in a place are the entry of its statement.
use Rattle.std.proofs.Common.{◌≡◌, ◌≢◌, ℕ, ◌<◌, ◌≤◌, Bool, true, false, cond, eqb, ltb, ◌||◌, ◌&&◌, List, [], ◌∷◌, ◌++◌, map, Option, Some, None, refl, sym, ap, ◌∙◌, arith}
use Rattle.std.specs.Prelude.{IfSome, filter, option_map, unwrap_or}
use Rattle.std.specs.List.{AllByRecursion, list_any}
use Rattle.std.proofs.lemmas.Bool.{eqb-true, eq-eqb}
use Rattle.std.proofs.lemmas.Bool.Decides.{nat_tests}
use Rattle.std.proofs.lemmas.List.Elements.{filter-append}
use Rattle.bk_base.specs.Numbers.{is_ascending}
use Rattle.bk_tx.specs.Reading.{pays}
use Rattle.bk_tx.specs.Spelling.{IsTransaction, receivers_of}
use Rattle.bk_tx.specs.Transaction.{Transaction}
use Rattle.bk_tx.specs.declared.body.Body.{Body}
use Rattle.bk_tx.specs.declared.body.Body.TheVariants as body
use Rattle.bk_rules.specs.Rule.{Guard, guard_of}
use Rattle.bk_rules.specs.Fold.{outcome_at}
use Rattle.bk_views.specs.Statement.{Course, entries_by, entries_of, entry_with, guards, role_in}
use Rattle.bk_views.specs.declared.entry.Role.{Role}
use Rattle.bk_views.specs.declared.entry.Role.TheVariants as role
use Rattle.bk_tables.specs.Postings.{Part, guard_parts, part_with, parts_of, posting_of, postings_at}
use Rattle.bk_tables.specs.declared.posting.Posting.{Posting}

abbrev is_of : ℕ → Part → Bool
is_of id p = eqb p.account id

-- ---- tests of numbers

pub not_same : (x y : ℕ) → x ≢ y → eqb x y ≡ false
not_same x y n = by_test (eqb x y) refl
  where
    by_test : (b : Bool) → eqb x y ≡ b → b ≡ false
    by_test true e = absurd (n (eqb-true x y e))
    by_test false e = refl

pub apart_of : (x y : ℕ) → eqb x y ≡ false → x ≢ y
apart_of x y e same = absurd (let t : true ≡ false = sym (eq-eqb x y same) ∙ e in cc)

-- ---- receivers

none_is : (x : ℕ) (rs : List ℕ) → AllByRecursion (λ to. to ≢ x) rs → list_any (λ (to : ℕ). eqb to x) rs ≡ false
none_is x [] h = refl
none_is x (r ∷ rs) h = ap (λ (b : Bool). b || list_any (λ (to : ℕ). eqb to x) rs) (not_same r x h.0) ∙ none_is x rs h.1

-- all that follow are above
pub above : (x z : ℕ) (rs : List ℕ) → is_ascending (x ∷ rs) ≡ true → z ≤ x → list_any (λ (to : ℕ). eqb to z) rs ≡ false
above x z [] up low = refl
above x z (y ∷ rs) up low =
    let next : x < y = grind (arith, nat_tests) in
    let more : is_ascending (y ∷ rs) ≡ true = right_true (ltb x y) (is_ascending (y ∷ rs)) up in
    ap (λ (b : Bool). b || list_any (λ (to : ℕ). eqb to z) rs) (not_same y z (λ same. absurd (omega (arith, same, next, low)))) ∙ above y z rs more (omega (arith, next, low))
  where
    right_true : (a b : Bool) → (a && b) ≡ true → b ≡ true
    right_true true b e = e
    right_true false b e = absurd cc

pub rest_up : (x : ℕ) (rs : List ℕ) → is_ascending (x ∷ rs) ≡ true → is_ascending rs ≡ true
rest_up x [] up = refl
rest_up x (y ∷ rs) up = right_true (ltb x y) (is_ascending (y ∷ rs)) up
  where
    right_true : (a b : Bool) → (a && b) ≡ true → b ≡ true
    right_true true b e = e
    right_true false b e = absurd cc

-- of receivers none is an account that is not among them
in_none : (id : ℕ) (rs : List ℕ) → list_any (λ (to : ℕ). eqb to id) rs ≡ false → filter (is_of id) (map (part_with role.In) rs) ≡ []
in_none id [] e = refl
in_none id (r ∷ rs) e = by_test (eqb r id) e (λ k. in_none id rs k)
  where
    by_test : (b : Bool) → (b || list_any (λ (to : ℕ). eqb to id) rs) ≡ false → (list_any (λ (to : ℕ). eqb to id) rs ≡ false → filter (is_of id) (map (part_with role.In) rs) ≡ [])
        → cond b (part_with role.In r ∷ filter (is_of id) (map (part_with role.In) rs)) (filter (is_of id) (map (part_with role.In) rs)) ≡ []
    by_test true k go = absurd cc
    by_test false k go = go k

-- and exactly one is an account that is
in_one : (id : ℕ) (rs : List ℕ) → is_ascending rs ≡ true → list_any (λ (to : ℕ). eqb to id) rs ≡ true → filter (is_of id) (map (part_with role.In) rs) ≡ part_with role.In id ∷ []
in_one id [] up e = absurd cc
in_one id (r ∷ rs) up e = by_test (eqb r id) refl e (λ k. in_one id rs (rest_up r rs up) k)
  where
    by_test : (b : Bool) → eqb r id ≡ b → (b || list_any (λ (to : ℕ). eqb to id) rs) ≡ true → (list_any (λ (to : ℕ). eqb to id) rs ≡ true → filter (is_of id) (map (part_with role.In) rs) ≡ part_with role.In id ∷ [])
        → cond b (part_with role.In r ∷ filter (is_of id) (map (part_with role.In) rs)) (filter (is_of id) (map (part_with role.In) rs)) ≡ part_with role.In id ∷ []
    by_test true t k go =
        let same : r ≡ id = eqb-true r id t in
        (λ i. part_with role.In (same i) ∷ in_none id rs (above r id rs up (omega (arith, same))) i)
    by_test false t k go = go k

pub receivers_up : (t : Transaction) → IsTransaction t → is_ascending (receivers_of t.body) ≡ true
receivers_up t h = by_body t.body h
  where
    by_body : (b : Body) → IsTransaction (record t { body = b }) → is_ascending (receivers_of b) ≡ true
    by_body (body.Pay to amount) k = refl
    by_body (body.PayIf to amount guard min) k = refl
    by_body (body.Sweep to keep) k = refl
    by_body (body.Split payments) k = k.body_fits.ascending

-- ---- the guard

module _ (from id : ℕ) (b : Body) where
  guard_none : (o : Option Guard) → (eqb from id ≡ true) → filter (is_of id) (guard_parts from b o) ≡ []
  guard_none None e = refl
  guard_none (Some g) e = by_test (eqb g.id from) refl
    where
      kept : (x : Bool) → eqb g.id from ≡ false → filter (is_of id) (cond {A = List Part} x [] (part_with role.Guard g.id ∷ [])) ≡ []
      kept true t = refl
      kept false t = ap (λ (y : Bool). cond {A = List Part} y (part_with role.Guard g.id ∷ []) []) (ap (eqb g.id) (sym (eqb-true from id e)) ∙ t)

      by_test : (x : Bool) → eqb g.id from ≡ x → filter (is_of id) (cond {A = List Part} (x || pays b g.id) [] (part_with role.Guard g.id ∷ [])) ≡ []
      by_test true t = refl
      by_test false t = kept (pays b g.id) t

  guard_paid : (o : Option Guard) → pays b id ≡ true → filter (is_of id) (guard_parts from b o) ≡ []
  guard_paid None e = refl
  guard_paid (Some g) e = by_test (eqb g.id from || pays b g.id) (pays b g.id) refl (eqb g.id from)
    where
      by_test : Bool → (x : Bool) → pays b g.id ≡ x → (y : Bool) → filter (is_of id) (cond {A = List Part} (y || x) [] (part_with role.Guard g.id ∷ [])) ≡ []
      by_test w x t true = refl
      by_test w true t false = refl
      by_test w false t false = ap (λ (z : Bool). cond {A = List Part} z (part_with role.Guard g.id ∷ []) [])
          (not_same g.id id (λ same. absurd (let clash : true ≡ false = sym e ∙ ap (pays b) (sym same) ∙ t in cc)))

  guard_else : (o : Option Guard) → eqb from id ≡ false → pays b id ≡ false
      → filter (is_of id) (guard_parts from b o) ≡ cond {A = List Part} (unwrap_or (option_map (λ (g : Guard). eqb g.id id) o) false) (part_with role.Guard id ∷ []) []
  guard_else None e f = refl
  guard_else (Some g) e f = by_test (eqb g.id id) refl
    where
      dropped : (x : Bool) → filter (is_of id) (cond {A = List Part} x [] (part_with role.Guard g.id ∷ [])) ≡ cond {A = List Part} x [] (cond {A = List Part} (eqb g.id id) (part_with role.Guard g.id ∷ []) [])
      dropped true = refl
      dropped false = refl

      both : (x : Bool) → cond {A = List Part} x [] [] ≡ []
      both true = refl
      both false = refl

      by_test : (y : Bool) → eqb g.id id ≡ y → filter (is_of id) (cond {A = List Part} (eqb g.id from || pays b g.id) [] (part_with role.Guard g.id ∷ [])) ≡ cond {A = List Part} y (part_with role.Guard id ∷ []) []
      by_test true t =
          let same : g.id ≡ id = eqb-true g.id id t in
          let other : eqb g.id from ≡ false = not_same g.id from (λ k. apart_of from id e (sym k ∙ same)) in
          let unpaid : pays b g.id ≡ false = ap (pays b) same ∙ f in
          dropped (eqb g.id from || pays b g.id)
          ∙ (λ i. cond {A = List Part} (other i || unpaid i) [] (cond {A = List Part} (t i) (part_with role.Guard (same i) ∷ []) []))
      by_test false t =
          dropped (eqb g.id from || pays b g.id)
          ∙ ap (λ (z : Bool). cond {A = List Part} (eqb g.id from || pays b g.id) [] (cond {A = List Part} z (part_with role.Guard g.id ∷ []) [])) t
          ∙ both (eqb g.id from || pays b g.id)

-- ---- all parts

-- the part of an account, as a list
abbrev parts_by : ℕ → Option Role → List Part
parts_by id None = []
parts_by id (Some r) = part_with r id ∷ []

parts_one : (t : Transaction) (id : ℕ) → IsTransaction t → filter (is_of id) (parts_of t) ≡ parts_by id (role_in t id)
parts_one t id h = by_from (eqb t.from id) refl
  where
    rest : filter (is_of id) (map (part_with role.In) (receivers_of t.body) ++ guard_parts t.from t.body (guard_of t.body))
        ≡ filter (is_of id) (map (part_with role.In) (receivers_of t.body)) ++ filter (is_of id) (guard_parts t.from t.body (guard_of t.body))
    rest = filter-append (is_of id) (map (part_with role.In) (receivers_of t.body)) (guard_parts t.from t.body (guard_of t.body))

    by_guard : (y : Bool) → cond {A = List Part} y (part_with role.Guard id ∷ []) [] ≡ parts_by id (cond y (Some role.Guard) None)
    by_guard true = refl
    by_guard false = refl

    by_pays : (x : Bool) → pays t.body id ≡ x → eqb t.from id ≡ false
        → filter (is_of id) (map (part_with role.In) (receivers_of t.body) ++ guard_parts t.from t.body (guard_of t.body)) ≡ parts_by id (cond x (Some role.In) (cond (guards t.body id) (Some role.Guard) None))
    by_pays true e f = rest ∙ (λ i. in_one id (receivers_of t.body) (receivers_up t h) e i ++ guard_paid t.from id t.body (guard_of t.body) e i)
    by_pays false e f = rest ∙ (λ i. in_none id (receivers_of t.body) e i ++ guard_else t.from id t.body (guard_of t.body) f e i) ∙ by_guard (guards t.body id)

    by_from : (b : Bool) → eqb t.from id ≡ b
        → cond b (part_with role.Out t.from ∷ filter (is_of id) (map (part_with role.In) (receivers_of t.body) ++ guard_parts t.from t.body (guard_of t.body))) (filter (is_of id) (map (part_with role.In) (receivers_of t.body) ++ guard_parts t.from t.body (guard_of t.body)))
        ≡ parts_by id (cond b (Some role.Out) (cond (pays t.body id) (Some role.In) (cond (guards t.body id) (Some role.Guard) None)))
    by_from true e =
        let same : t.from ≡ id = eqb-true t.from id e in
        let unpaid : list_any (λ (to : ℕ). eqb to id) (receivers_of t.body) ≡ false = ap (λ (x : ℕ). list_any (λ (to : ℕ). eqb to x) (receivers_of t.body)) (sym same) ∙ none_is t.from (receivers_of t.body) h.apart in
        let nothing : filter (is_of id) (map (part_with role.In) (receivers_of t.body) ++ guard_parts t.from t.body (guard_of t.body)) ≡ [] =
        rest ∙ (λ i. in_none id (receivers_of t.body) unpaid i ++ guard_none t.from id t.body (guard_of t.body) e i) in
        (λ i. part_with role.Out (same i) ∷ nothing i)
    by_from false e = by_pays (pays t.body id) refl e

-- ---- the rows of one account

rows_one : (c : Course) (place : ℕ) (t : Transaction) (id : ℕ) (parts : List Part) → filter (λ (q : Posting). eqb q.account id) (map (posting_of c place t) parts) ≡ map (posting_of c place t) (filter (is_of id) parts)
rows_one c place t id [] = refl
rows_one c place t id (p ∷ parts) = by_test (eqb p.account id) (rows_one c place t id parts)
  where
    by_test : (b : Bool) → filter (λ (q : Posting). eqb q.account id) (map (posting_of c place t) parts) ≡ map (posting_of c place t) (filter (is_of id) parts)
        → cond b (posting_of c place t p ∷ filter (λ (q : Posting). eqb q.account id) (map (posting_of c place t) parts)) (filter (λ (q : Posting). eqb q.account id) (map (posting_of c place t) parts))
        ≡ map (posting_of c place t) (cond b (p ∷ filter (is_of id) parts) (filter (is_of id) parts))
    by_test true e = ap (λ (qs : List Posting). posting_of c place t p ∷ qs) e
    by_test false e = e

pub place_entries : (c : Course) (id place : ℕ) (t : Option Transaction) → IfSome t IsTransaction → map (λ (q : Posting). q.entry) (filter (λ (q : Posting). eqb q.account id) (postings_at c place t)) ≡ entries_of c id place t
place_entries c id place None h = refl
place_entries c id place (Some t) h =
    ap (map (λ (q : Posting). q.entry)) (rows_one c place t id (parts_of t) ∙ ap (map (posting_of c place t)) (parts_one t id h)) ∙ by_role (role_in t id)
  where
    by_role : (r : Option Role) → map (λ (q : Posting). q.entry) (map (posting_of c place t) (parts_by id r)) ≡ entries_by (entry_with c id place t (outcome_at c.version c.txs place c.opening).receipt) r
    by_role None = refl
    by_role (Some r) = refl
