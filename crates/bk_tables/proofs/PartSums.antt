-- What the sender of a transaction loses is what its receivers get.
use Rattle.std.proofs.Common.{◌≡◌, ℕ, ◌+◌, Bool, true, false, cond, eqb, ◌||◌, List, [], ◌∷◌, ◌++◌, map, Option, Some, None, refl, sym, ap, subst, ◌∙◌, arith}
use Rattle.std.specs.List.{list_any, sum_by}
use Rattle.std.specs.Prelude.{slice_index_or}
use Rattle.std.proofs.lemmas.Bool.{eq-eqb}
use Rattle.std.proofs.lemmas.List.{map-append}
use Rattle.std.proofs.lemmas.List.Sums.{sum_by-append, sum_by-cons}
use Rattle.bk_base.specs.declared.genesis.Row.{Row}
use Rattle.bk_base.specs.declared.version.Version.{Version}
use Rattle.bk_base.specs.Numbers.{is_ascending}
use Rattle.bk_tx.specs.Access.{receivers_in}
use Rattle.bk_tx.specs.Reading.{pays}
use Rattle.bk_tx.specs.Spelling.{IsTransaction, payments_of, receivers_of}
use Rattle.bk_tx.specs.Transaction.{Transaction}
use Rattle.bk_tx.specs.declared.body.Body.{Body}
use Rattle.bk_tx.specs.declared.body.Body.TheVariants as body
use Rattle.bk_tx.specs.declared.payments.Payment.{Payment}
use Rattle.bk_rules.specs.Fold.{outcome_at, rows_before}
use Rattle.bk_rules.specs.Rows.{account_at, outcome_of}
use Rattle.bk_rules.specs.Rule.{Accounts, Guard, balance_at, guard_of, moved_by, payments_on, sum_of}
use Rattle.bk_rules.specs.declared.receipt.Status.{Status}
use Rattle.bk_rules.specs.declared.receipt.Status.TheVariants as status
use Rattle.bk_views.specs.Laws.{adds, takes}
use Rattle.bk_views.specs.Statement.{Course, credited_by, paid_to}
use Rattle.bk_views.specs.declared.entry.Role.TheVariants as role
use Rattle.bk_tables.specs.Postings.{Part, guard_parts, part_with, parts_of, posting_of, postings_at}
use Rattle.bk_tables.specs.declared.posting.Posting.{Posting}
use Rattle.bk_tables.proofs.PartRows.{above, apart_of, not_same, receivers_up, rest_up}

-- ---- what payments pay to each receiver

pub paid_here : (id : ℕ) (p : Payment) (more : List Payment) → paid_to id (p ∷ more) ≡ cond {A = ℕ} (eqb p.to id) p.amount 0 + paid_to id more
paid_here id p more = sum_by-cons (λ (q : Payment). cond {A = ℕ} (eqb q.to id) q.amount 0) p more

-- nothing to an account that is no receiver
pub paid_nothing : (id : ℕ) (ps : List Payment) → list_any (λ (to : ℕ). eqb to id) (receivers_in ps) ≡ false → paid_to id ps ≡ 0
paid_nothing id [] e = refl
paid_nothing id (p ∷ ps) e = by_test (eqb p.to id) refl e (λ k. paid_nothing id ps k)
  where
    by_test : (b : Bool) → eqb p.to id ≡ b → (b || list_any (λ (to : ℕ). eqb to id) (receivers_in ps)) ≡ false → (list_any (λ (to : ℕ). eqb to id) (receivers_in ps) ≡ false → paid_to id ps ≡ 0) → paid_to id (p ∷ ps) ≡ 0
    by_test true t k go = absurd cc
    by_test false t k go =
        let here : paid_to id (p ∷ ps) ≡ 0 + paid_to id ps = paid_here id p ps ∙ ap (λ (b : Bool). cond {A = ℕ} b p.amount 0 + paid_to id ps) t in
        let rest = go k in omega (arith, here, rest)

-- a payment to none of these changes nothing
others_paid : (p : Payment) (ps : List Payment) (rs : List ℕ) → list_any (λ (to : ℕ). eqb to p.to) rs ≡ false → sum_by (λ (to : ℕ). paid_to to (p ∷ ps)) rs ≡ sum_by (λ (to : ℕ). paid_to to ps) rs
others_paid p ps [] e = refl
others_paid p ps (r ∷ rs) e = by_test (eqb r p.to) refl e (λ k. others_paid p ps rs k)
  where
    by_test : (b : Bool) → eqb r p.to ≡ b → (b || list_any (λ (to : ℕ). eqb to p.to) rs) ≡ false
        → (list_any (λ (to : ℕ). eqb to p.to) rs ≡ false → sum_by (λ (to : ℕ). paid_to to (p ∷ ps)) rs ≡ sum_by (λ (to : ℕ). paid_to to ps) rs)
        → sum_by (λ (to : ℕ). paid_to to (p ∷ ps)) (r ∷ rs) ≡ sum_by (λ (to : ℕ). paid_to to ps) (r ∷ rs)
    by_test true t k go = absurd cc
    by_test false t k go =
        let other : eqb p.to r ≡ false = not_same p.to r (λ same. apart_of r p.to t (sym same)) in
        let here : paid_to r (p ∷ ps) ≡ 0 + paid_to r ps = paid_here r p ps ∙ ap (λ (b : Bool). cond {A = ℕ} b p.amount 0 + paid_to r ps) other in
        let one = sum_by-cons (λ (to : ℕ). paid_to to (p ∷ ps)) r rs in
        let two = sum_by-cons (λ (to : ℕ). paid_to to ps) r rs in
        let rest = go k in omega (arith, here, one, two, rest)

-- all that receivers get is all that is paid
all_paid : (ps : List Payment) → is_ascending (receivers_in ps) ≡ true → sum_by (λ (to : ℕ). paid_to to ps) (receivers_in ps) ≡ sum_of ps
all_paid [] up = refl
all_paid (p ∷ ps) up =
    let alone : list_any (λ (to : ℕ). eqb to p.to) (receivers_in ps) ≡ false = above p.to p.to (receivers_in ps) up (omega arith) in
    let here : paid_to p.to (p ∷ ps) ≡ p.amount + paid_to p.to ps = paid_here p.to p ps ∙ ap (λ (b : Bool). cond {A = ℕ} b p.amount 0 + paid_to p.to ps) (same_one p.to) in
    let none = paid_nothing p.to ps alone in
    let one = sum_by-cons (λ (to : ℕ). paid_to to (p ∷ ps)) p.to (receivers_in ps) in
    let others = others_paid p ps (receivers_in ps) alone in
    let rest = all_paid ps (rest_up p.to (receivers_in ps) up) in
    let whole = sum_by-cons (λ (q : Payment). q.amount) p ps in
    omega (arith, here, none, one, others, rest, whole)
  where
    same_one : (x : ℕ) → eqb x x ≡ true
    same_one x = eq-eqb x x refl

same_receivers : (balance : ℕ) (b : Body) → receivers_in (payments_of balance b) ≡ receivers_of b
same_receivers balance (body.Pay to amount) = refl
same_receivers balance (body.PayIf to amount guard min) = refl
same_receivers balance (body.Sweep to keep) = refl
same_receivers balance (body.Split payments) = refl

no_credit : (rs : List ℕ) → sum_by (λ (to : ℕ). 0) rs ≡ 0
no_credit [] = refl
no_credit (r ∷ rs) = let e = sum_by-cons (λ (to : ℕ). 0) r rs in let rest = no_credit rs in omega (arith, e, rest)

-- what a transaction credits to its receivers together
all_credited : (s : Status) (accounts : Accounts) (t : Transaction) → IsTransaction t → sum_by (λ (to : ℕ). credited_by s accounts t to) (receivers_of t.body) ≡ moved_by s accounts t
all_credited status.Ok accounts t h =
    let same = same_receivers (balance_at accounts t.from) t.body in
    ap (sum_by (λ (to : ℕ). paid_to to (payments_on accounts t))) (sym same) ∙ all_paid (payments_on accounts t) (ap is_ascending same ∙ receivers_up t h)
all_credited status.Malformed accounts t h = no_credit (receivers_of t.body)
all_credited status.Undeclared accounts t h = no_credit (receivers_of t.body)
all_credited status.Unknown accounts t h = no_credit (receivers_of t.body)
all_credited status.Stale accounts t h = no_credit (receivers_of t.body)
all_credited status.Guard accounts t h = no_credit (receivers_of t.body)
all_credited status.Funds accounts t h = no_credit (receivers_of t.body)

-- ---- the rows

abbrev pub in_row : Posting → ℕ
in_row q = adds q.entry.role q.entry.amount

abbrev pub out_row : Posting → ℕ
out_row q = takes q.entry.role q.entry.amount

module _ (c : Course) (place : ℕ) (t : Transaction) where
  abbrev seen : Accounts
  seen = account_at (rows_before c.version c.txs place c.opening)

  abbrev received : ℕ → ℕ
  received to = credited_by (outcome_at c.version c.txs place c.opening).receipt.status seen t to

  in_rows : (rs : List ℕ) → (sum_by in_row (map (posting_of c place t) (map (part_with role.In) rs)) ≡ sum_by received rs) × (sum_by out_row (map (posting_of c place t) (map (part_with role.In) rs)) ≡ 0)
  in_rows [] = (refl, refl)
  in_rows (r ∷ rs) =
      let rest = in_rows rs in
      let row : Posting = posting_of c place t (part_with role.In r) in
      let others : List Posting = map (posting_of c place t) (map (part_with role.In) rs) in
      let a = sum_by-cons in_row row others in
      let b = sum_by-cons out_row row others in
      let d = sum_by-cons received r rs in
      let x = rest.0 in let y = rest.1 in
      (omega (arith, a, d, x), omega (arith, b, y))

  guard_rows : (o : Option Guard) → (sum_by in_row (map (posting_of c place t) (guard_parts t.from t.body o)) ≡ 0) × (sum_by out_row (map (posting_of c place t) (guard_parts t.from t.body o)) ≡ 0)
  guard_rows None = (refl, refl)
  guard_rows (Some g) = by_test (eqb g.id t.from || pays t.body g.id)
    where
      by_test : (b : Bool) → (sum_by in_row (map (posting_of c place t) (cond {A = List Part} b [] (part_with role.Guard g.id ∷ []))) ≡ 0) × (sum_by out_row (map (posting_of c place t) (cond {A = List Part} b [] (part_with role.Guard g.id ∷ []))) ≡ 0)
      by_test true = (refl, refl)
      by_test false = (refl, refl)

  -- the rows of a place are the sender's, the receivers' and the guard's
  sums : (f : Posting → ℕ) → sum_by f (map (posting_of c place t) (parts_of t))
      ≡ f (posting_of c place t (part_with role.Out t.from)) + (sum_by f (map (posting_of c place t) (map (part_with role.In) (receivers_of t.body))) + sum_by f (map (posting_of c place t) (guard_parts t.from t.body (guard_of t.body))))
  sums f =
      let ins : List Part = map (part_with role.In) (receivers_of t.body) in
      let guards : List Part = guard_parts t.from t.body (guard_of t.body) in
      sum_by-cons f (posting_of c place t (part_with role.Out t.from)) (map (posting_of c place t) (ins ++ guards))
      ∙ ap (λ (n : ℕ). f (posting_of c place t (part_with role.Out t.from)) + n) (ap (sum_by f) (map-append (posting_of c place t) ins guards) ∙ sum_by-append f (map (posting_of c place t) ins) (map (posting_of c place t) guards))

moved_here : (v : Version) (rows : List Row) (t : Transaction) (o : Option Transaction) → o ≡ Some t → (outcome_of v o rows).receipt.moved ≡ moved_by (outcome_of v o rows).receipt.status (account_at rows) t
moved_here v rows t o e = subst (λ (x : Option Transaction). (outcome_of v x rows).receipt.moved ≡ moved_by (outcome_of v x rows).receipt.status (account_at rows) t) (sym e) refl

pub one_place : (c : Course) (place : ℕ) (t : Transaction) → slice_index_or c.txs place None ≡ Some t → IsTransaction t → sum_by in_row (postings_at c place (Some t)) ≡ sum_by out_row (postings_at c place (Some t))
one_place c place t here h =
    let ins = in_rows c place t (receivers_of t.body) in
    let guards = guard_rows c place t (guard_of t.body) in
    let all = all_credited (outcome_at c.version c.txs place c.opening).receipt.status (account_at (rows_before c.version c.txs place c.opening)) t h in
    let moved = moved_here c.version (rows_before c.version c.txs place c.opening) t (slice_index_or c.txs place None) here in
    let a = sums c place t in_row in
    let b = sums c place t out_row in
    let w = ins.0 in let x = ins.1 in let y = guards.0 in let z = guards.1 in
    omega (arith, a, b, w, x, y, z, all, moved)
