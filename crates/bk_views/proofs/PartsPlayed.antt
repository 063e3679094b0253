-- What a transaction makes of an account, by the part that the account plays in it.
use Rattle.std.proofs.Common.{◌≡◌, ◌≢◌, ℕ, ◌+◌, ◌^◌, ◌<◌, ◌≤◌, min, List, [], ◌∷◌, length, take, get_or, map, Bool, true, false, cond, eqb, Option, Some, None, refl, sym, ap, subst, ◌∙◌, arith, ◌||◌}
use Rattle.std.specs.Prelude.{unwrap_or}
use Rattle.std.specs.List.{AllByRecursion, list_any}
use Rattle.std.proofs.lemmas.Bool.{eqb-true, false≢true}
use Rattle.std.proofs.lemmas.List.{take_all, take_more}
use Rattle.std.proofs.lemmas.List.Sums.{sum_by-append, sum_by-cons}
use Rattle.bk_tx.specs.declared.payments.Payment.{Payment}
use Rattle.bk_tx.specs.Reading.{pays}
use Rattle.bk_tx.specs.Spelling.{IsTransaction, receivers_of}
use Rattle.bk_tx.specs.Transaction.{Transaction}
use Rattle.bk_rules.specs.declared.account.Account.{Account}
use Rattle.bk_rules.specs.declared.receipt.Status.{Status}
use Rattle.bk_rules.specs.declared.receipt.Status.TheVariants as status
use Rattle.bk_rules.specs.Rule.{Accounts, Change, account_after, balance_at, changes_of, moved_by, new_account, payments_on, receive, received, send, sent, sum_of}
use Rattle.bk_rules.proofs.Locality.{receivers-payments}
use Rattle.bk_views.specs.Statement.{amount_by, credited_by, guards, paid_to, role_in}
use Rattle.bk_views.specs.private.Accounts.{after_part, after_receiving, after_sending}
use Rattle.bk_views.specs.declared.entry.Role.{Role}
use Rattle.bk_views.specs.declared.entry.Role.TheVariants as role

-- ---- payments

or_left : (a b : Bool) → (a || b) ≡ false → a ≡ false
or_left false b e = refl
or_left true b e = absurd (false≢true (sym e))

or_right : (a b : Bool) → (a || b) ≡ false → b ≡ false
or_right false b e = e
or_right true b e = absurd (false≢true (sym e))

-- an account is among those that are paid
abbrev is_paid : List Payment → ℕ → Bool
is_paid ps id = list_any (λ (to : ℕ). eqb to id) (map (λ (p : Payment). p.to) ps)

pub any_paid : (ps : List Payment) (id : ℕ) → list_any (λ (p : Payment). eqb p.to id) ps ≡ is_paid ps id
any_paid [] id = refl
any_paid (p ∷ more) id = ap (λ (b : Bool). eqb p.to id || b) (any_paid more id)

-- one payment more
pub paid_next : (id : ℕ) (ps : List Payment) (i : ℕ) (p : Payment) → i < length ps → paid_to id (take (i + 1) ps) ≡ paid_to id (take i ps) + cond {A = ℕ} (eqb (get_or ps i p).to id) (get_or ps i p).amount 0
paid_next id ps i p low =
    ap (paid_to id) (take_more ps i p low) ∙ sum_by-append (λ (q : Payment). cond {A = ℕ} (eqb q.to id) q.amount 0) (take i ps) (get_or ps i p ∷ [])
    ∙ ap (λ (n : ℕ). paid_to id (take i ps) + n) (sum_by-cons (λ (q : Payment). cond {A = ℕ} (eqb q.to id) q.amount 0) (get_or ps i p) [] ∙ zero_after (cond {A = ℕ} (eqb (get_or ps i p).to id) (get_or ps i p).amount 0))
  where
    zero_after : (n : ℕ) → n + 0 ≡ n
    zero_after n = omega arith

-- a sum that stays at the greatest number of eight bytes is right as long as it fits
pub paid_step : (id : ℕ) (ps : List Payment) (i : ℕ) (p : Payment) (old amount new : ℕ) → i < length ps → (paid_to id (take i ps) < 2 ^ 64 → old ≡ paid_to id (take i ps))
    → amount ≡ cond {A = ℕ} (eqb (get_or ps i p).to id) (get_or ps i p).amount 0 → new ≡ min (old + amount) 18446744073709551615 → paid_to id (take (i + 1) ps) < 2 ^ 64 → new ≡ paid_to id (take (i + 1) ps)
paid_step id ps i p old amount new low so_far amount_is new_is fits =
    let next = paid_next id ps i p low in
    let all : paid_to id (take (i + 1) ps) ≡ paid_to id (take i ps) + amount = next ∙ ap (λ (n : ℕ). paid_to id (take i ps) + n) (sym amount_is) in
    let was : old ≡ paid_to id (take i ps) = so_far (omega (arith, all, fits)) in
    omega (arith, all, was, new_is, fits)

pub paid_all : (id : ℕ) (ps : List Payment) (i paid : ℕ) → length ps ≤ i → (paid_to id (take i ps) < 2 ^ 64 → paid ≡ paid_to id (take i ps)) → paid_to id ps < 2 ^ 64 → paid ≡ paid_to id ps
paid_all id ps i paid high so_far = subst (λ (qs : List Payment). paid_to id qs < 2 ^ 64 → paid ≡ paid_to id qs) (take_all i ps high) so_far

-- payments to others leave it
paid_none : (ps : List Payment) (id : ℕ) (a : Option Account) → is_paid ps id ≡ false → account_after (map receive ps) id a ≡ a
paid_none [] id a none = refl
paid_none (p ∷ more) id a none =
    ap (λ (b : Bool). account_after (map receive more) id (cond b (Some (received p.amount (unwrap_or a new_account))) a)) (or_left (eqb p.to id) (is_paid more id) none)
    ∙ paid_none more id a (or_right (eqb p.to id) (is_paid more id) none)

paid_first : (p : Payment) (more : List Payment) (id : ℕ) (b : Bool) → eqb p.to id ≡ b → paid_to id (p ∷ more) ≡ cond {A = ℕ} b p.amount 0 + paid_to id more
paid_first p more id b e = sum_by-cons (λ (q : Payment). cond (eqb q.to id) q.amount 0) p more ∙ ap (λ (x : Bool). cond {A = ℕ} x p.amount 0 + paid_to id more) e

same_account : (x : Account) (m n : ℕ) → m ≡ n → received m x ≡ received n x
same_account x m n e = ap (λ (k : ℕ). received k x) e

received_twice : (x : Account) (m n : ℕ) → received n (received m x) ≡ received (m + n) x
received_twice x m n = let all : (x.balance + m) + n ≡ x.balance + (m + n) = omega arith in λ i. record { balance = all i; seq = x.seq }

received_none : (x : Account) → received 0 x ≡ x
received_none x = let all : x.balance + 0 ≡ x.balance = omega arith in λ i. record { balance = all i; seq = x.seq }

zero_plus : (n : ℕ) → n ≡ 0 + n
zero_plus n = omega arith

-- an account that is there gets all that is paid to it
paid_on : (ps : List Payment) (id : ℕ) (x : Account) → account_after (map receive ps) id (Some x) ≡ Some (received (paid_to id ps) x)
paid_on [] id x = ap Some (sym (received_none x))
paid_on (p ∷ more) id x = by_test (eqb p.to id) refl (paid_on more id (received p.amount x)) (paid_on more id x)
  where
    by_test : (b : Bool) → eqb p.to id ≡ b → account_after (map receive more) id (Some (received p.amount x)) ≡ Some (received (paid_to id more) (received p.amount x))
        → account_after (map receive more) id (Some x) ≡ Some (received (paid_to id more) x)
        → account_after (map receive (p ∷ more)) id (Some x) ≡ Some (received (paid_to id (p ∷ more)) x)
    by_test true e here other =
        ap (λ (b : Bool). account_after (map receive more) id (cond b (Some (received p.amount x)) (Some x))) e
        ∙ here ∙ ap Some (received_twice x p.amount (paid_to id more) ∙ same_account x (p.amount + paid_to id more) (paid_to id (p ∷ more)) (sym (paid_first p more id true e)))
    by_test false e here other =
        ap (λ (b : Bool). account_after (map receive more) id (cond b (Some (received p.amount x)) (Some x))) e
        ∙ other ∙ ap Some (same_account x (paid_to id more) (paid_to id (p ∷ more)) (zero_plus (paid_to id more) ∙ sym (paid_first p more id false e)))

-- and so does one that comes to be with the first
paid_some : (ps : List Payment) (id : ℕ) (a : Option Account) → is_paid ps id ≡ true → account_after (map receive ps) id a ≡ Some (received (paid_to id ps) (unwrap_or a new_account))
paid_some [] id a some = absurd (false≢true some)
paid_some (p ∷ more) id a some = by_test (eqb p.to id) refl (paid_on more id (received p.amount (unwrap_or a new_account))) (paid_some more id a)
  where
    by_test : (b : Bool) → eqb p.to id ≡ b
        → account_after (map receive more) id (Some (received p.amount (unwrap_or a new_account))) ≡ Some (received (paid_to id more) (received p.amount (unwrap_or a new_account)))
        → (is_paid more id ≡ true → account_after (map receive more) id a ≡ Some (received (paid_to id more) (unwrap_or a new_account)))
        → account_after (map receive (p ∷ more)) id a ≡ Some (received (paid_to id (p ∷ more)) (unwrap_or a new_account))
    by_test true e here other =
        ap (λ (b : Bool). account_after (map receive more) id (cond b (Some (received p.amount (unwrap_or a new_account))) a)) e
        ∙ here ∙ ap Some (received_twice (unwrap_or a new_account) p.amount (paid_to id more) ∙ same_account (unwrap_or a new_account) (p.amount + paid_to id more) (paid_to id (p ∷ more)) (sym (paid_first p more id true e)))
    by_test false e here other =
        ap (λ (b : Bool). account_after (map receive more) id (cond b (Some (received p.amount (unwrap_or a new_account))) a)) e
        ∙ other (ap (λ (b : Bool). b || is_paid more id) (sym e) ∙ some)
        ∙ ap Some (same_account (unwrap_or a new_account) (paid_to id more) (paid_to id (p ∷ more)) (zero_plus (paid_to id more) ∙ sym (paid_first p more id false e)))

-- nobody is paid by themselves
not_paid : (ids : List ℕ) (from id : ℕ) → AllByRecursion (λ (to : ℕ). to ≢ from) ids → from ≡ id → list_any (λ (to : ℕ). eqb to id) ids ≡ false
not_paid [] from id apart e = refl
not_paid (to ∷ ids) from id apart e = by_test (eqb to id) refl (not_paid ids from id apart.1 e)
  where
    by_test : (b : Bool) → eqb to id ≡ b → list_any (λ (x : ℕ). eqb x id) ids ≡ false → list_any (λ (x : ℕ). eqb x id) (to ∷ ids) ≡ false
    by_test true same rest = absurd (apart.0 (eqb-true to id same ∙ sym e))
    by_test false other rest = ap (λ (b : Bool). b || list_any (λ (x : ℕ). eqb x id) ids) other ∙ rest

-- ---- a transaction

module _ (accounts : Accounts) (t : Transaction) (id : ℕ) (a : Option Account) where
  paid_as : is_paid (payments_on accounts t) id ≡ pays t.body id
  paid_as = ap (λ (ids : List ℕ). list_any (λ (to : ℕ). eqb to id) ids) (receivers-payments (balance_at accounts t.from) t.body)

  send_test : (paid : ℕ) (more : List Change) (b : Bool) → eqb t.from id ≡ b → account_after (send t.from paid ∷ more) id a ≡ account_after more id (cond b (Some (sent paid (unwrap_or a new_account))) a)
  send_test paid more b e = ap (λ (x : Bool). account_after more id (cond x (Some (sent paid (unwrap_or a new_account))) a)) e

  -- the sender
  out : IsTransaction t → eqb t.from id ≡ true → (s : Status) → account_after (changes_of s accounts t) id a ≡ after_sending s (moved_by s accounts t) a
  out sound e status.Ok =
      send_test (sum_of (payments_on accounts t)) (map receive (payments_on accounts t)) true e
      ∙ paid_none (payments_on accounts t) id (Some (sent (sum_of (payments_on accounts t)) (unwrap_or a new_account))) (paid_as ∙ not_paid (receivers_of t.body) t.from id sound.apart (eqb-true t.from id e))
  out sound e status.Guard = send_test 0 [] true e
  out sound e status.Funds = send_test 0 [] true e
  out sound e status.Malformed = refl
  out sound e status.Undeclared = refl
  out sound e status.Unknown = refl
  out sound e status.Stale = refl

  -- a receiver
  into : eqb t.from id ≡ false → pays t.body id ≡ true → (s : Status) → account_after (changes_of s accounts t) id a ≡ after_receiving s (credited_by s accounts t id) a
  into e paid status.Ok = send_test (sum_of (payments_on accounts t)) (map receive (payments_on accounts t)) false e ∙ paid_some (payments_on accounts t) id a (paid_as ∙ paid)
  into e paid status.Guard = send_test 0 [] false e
  into e paid status.Funds = send_test 0 [] false e
  into e paid status.Malformed = refl
  into e paid status.Undeclared = refl
  into e paid status.Unknown = refl
  into e paid status.Stale = refl

  -- neither
  idle : eqb t.from id ≡ false → pays t.body id ≡ false → (s : Status) → account_after (changes_of s accounts t) id a ≡ a
  idle e none status.Ok = send_test (sum_of (payments_on accounts t)) (map receive (payments_on accounts t)) false e ∙ paid_none (payments_on accounts t) id a (paid_as ∙ none)
  idle e none status.Guard = send_test 0 [] false e
  idle e none status.Funds = send_test 0 [] false e
  idle e none status.Malformed = refl
  idle e none status.Undeclared = refl
  idle e none status.Unknown = refl
  idle e none status.Stale = refl

  same_part : (one other : Role) → Some one ≡ Some other → one ≡ other
  same_part one other e = cc

  -- by the part
  pub part_after : IsTransaction t → (part : Role) → role_in t id ≡ Some part → (s : Status) → account_after (changes_of s accounts t) id a ≡ after_part part s (amount_by part (moved_by s accounts t) (credited_by s accounts t id)) a
  part_after sound part e s = by_tests (eqb t.from id) (pays t.body id) (guards t.body id) refl refl refl e
    where
      stands : (other : Role) → Some other ≡ Some part → account_after (changes_of s accounts t) id a ≡ after_part other s (amount_by other (moved_by s accounts t) (credited_by s accounts t id)) a
          → account_after (changes_of s accounts t) id a ≡ after_part part s (amount_by part (moved_by s accounts t) (credited_by s accounts t id)) a
      stands other same h = subst (λ (x : Role). account_after (changes_of s accounts t) id a ≡ after_part x s (amount_by x (moved_by s accounts t) (credited_by s accounts t id)) a) (same_part other part same) h

      by_tests : (f p g : Bool) → eqb t.from id ≡ f → pays t.body id ≡ p → guards t.body id ≡ g
          → cond (eqb t.from id) (Some role.Out) (cond (pays t.body id) (Some role.In) (cond (guards t.body id) (Some role.Guard) None)) ≡ Some part
          → account_after (changes_of s accounts t) id a ≡ after_part part s (amount_by part (moved_by s accounts t) (credited_by s accounts t id)) a
      by_tests true p g ef ep eg is = stands role.Out (sym (ap (λ (b : Bool). cond b (Some role.Out) (cond (pays t.body id) (Some role.In) (cond (guards t.body id) (Some role.Guard) None))) ef) ∙ is) (out sound ef s)
      by_tests false true g ef ep eg is =
          stands role.In (sym (λ i. cond (ef i) (Some role.Out) (cond (ep i) (Some role.In) (cond (guards t.body id) (Some role.Guard) None))) ∙ is) (into ef ep s)
      by_tests false false true ef ep eg is =
          stands role.Guard (sym (λ i. cond (ef i) (Some role.Out) (cond (ep i) (Some role.In) (cond (eg i) (Some role.Guard) None))) ∙ is) (idle ef ep s)
      by_tests false false false ef ep eg is = absurd (let none : None ≡ Some part = sym (λ i. cond (ef i) (Some role.Out) (cond (ep i) (Some role.In) (cond (eg i) (Some role.Guard) None))) ∙ is in cc)

  pub no_part_after : role_in t id ≡ None → (s : Status) → account_after (changes_of s accounts t) id a ≡ a
  no_part_after e s = by_tests (eqb t.from id) (pays t.body id) refl refl e
    where
      some_not_none : (x : Role) → Some x ≡ None → ⊥
      some_not_none x same = absurd cc

      by_tests : (f p : Bool) → eqb t.from id ≡ f → pays t.body id ≡ p
          → cond (eqb t.from id) (Some role.Out) (cond (pays t.body id) (Some role.In) (cond (guards t.body id) (Some role.Guard) None)) ≡ None
          → account_after (changes_of s accounts t) id a ≡ a
      by_tests true p ef ep is = absurd (some_not_none role.Out (sym (ap (λ (b : Bool). cond b (Some role.Out) (cond (pays t.body id) (Some role.In) (cond (guards t.body id) (Some role.Guard) None))) ef) ∙ is))
      by_tests false true ef ep is = absurd (some_not_none role.In (sym (λ i. cond (ef i) (Some role.Out) (cond (ep i) (Some role.In) (cond (guards t.body id) (Some role.Guard) None))) ∙ is))
      by_tests false false ef ep is = idle ef ep s
