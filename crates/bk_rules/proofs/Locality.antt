-- The rule sees the declared accounts alone, and changes only those declared for writing.
use Rattle.std.proofs.Common.{◌≡◌, ℕ, Bool, true, false, cond, ◌&&◌, ◌||◌, not, eqb, ltb, List, [], ◌∷◌, map, Option, Some, None, is_some, option_map, unwrap_or, refl, sym, ap, ap₂, subst, ◌∙◌, arith}
use Rattle.std.specs.List.{list_all}
use Rattle.std.proofs.lemmas.Bool.Decides.{nat_tests}
use Rattle.bk_tx.specs.declared.declared.Declared.{Declared}
use Rattle.bk_tx.specs.declared.payments.Payment.{Payment}
use Rattle.bk_tx.specs.Transaction.{Transaction}
use Rattle.bk_tx.specs.declared.body.Body.{Body}
use Rattle.bk_tx.specs.declared.body.Body.TheVariants.{Pay, PayIf, Sweep, Split}
use Rattle.bk_tx.specs.Access.{writes, declares}
use Rattle.bk_tx.specs.Spelling.{payments_of, receivers_of}
use Rattle.bk_rules.specs.declared.account.Account.{Account}
use Rattle.bk_base.specs.declared.version.Version.{Version}
use Rattle.bk_base.specs.declared.version.Version.TheVariants.{One, Two}
use Rattle.bk_rules.specs.declared.receipt.Status.{Status}
use Rattle.bk_rules.specs.declared.receipt.Status.TheVariants as status
use Rattle.bk_rules.specs.Rule.{Accounts, Change, Guard, new_account, is_known, balance_at, seq_at, payments_on, sum_of, guard_of, guard_passes, is_declared, can_receive, are_known, status_of, moved_by, send, receive, changes_of, account_after}
use Rattle.bk_rules.specs.Laws.{AgreeOn, SeesSame}
use Rattle.bk_rules.proofs.RowLemmas.{and_left, and_right}

-- ---- the five tests

-- the status by the answers of the five tests
abbrev pub status_by : Bool → Bool → Bool → Bool → Bool → Status
status_by declared known timely guarded short =
    cond (not declared) status.Undeclared
    (cond (not known) status.Unknown
    (cond (not timely) status.Stale
    (cond (not guarded) status.Guard
    (cond short status.Funds status.Ok))))

-- the test of the guard
abbrev pub guard_holds : Accounts → Body → Bool
guard_holds accounts body = guard_passes (λ (g : Guard). not (ltb (balance_at accounts g.id) g.least)) body

-- the money is not there
abbrev pub is_short : Accounts → Transaction → Bool
is_short accounts t = ltb (balance_at accounts t.from) (sum_of (payments_on accounts t))

-- the status is that of these tests
pub by_tests : (v : Version) (accounts : Accounts) (t : Transaction) → status_of v accounts t ≡ status_by (is_declared t) (are_known v accounts t) (eqb t.seq (seq_at accounts t.from)) (guard_holds accounts t.body) (is_short accounts t)
by_tests v accounts t = refl

-- a status with which the sender's sequence number counts up
abbrev pub counts : Status → Bool
counts status.Ok = true
counts status.Guard = true
counts status.Funds = true
counts other = false

-- where it counts, the first two tests hold
pub counted_by : (d k s g f : Bool) → counts (status_by d k s g f) ≡ true → (d ≡ true) × (k ≡ true)
counted_by false k s g f c = absurd (cc)
counted_by true false s g f c = absurd (cc)
counted_by true true s g f c = (refl, refl)

-- where it is OK, the money is there
pub funded_by : (d k s g f : Bool) → status_by d k s g f ≡ status.Ok → f ≡ false
funded_by false k s g f ok = absurd (cc)
funded_by true false s g f ok = absurd (cc)
funded_by true true false g f ok = absurd (cc)
funded_by true true true false f ok = absurd (cc)
funded_by true true true true true ok = absurd (cc)
funded_by true true true true false ok = refl

-- ---- what is declared

-- what is declared for writing is declared
pub declares_written : (ds : List Declared) (id : ℕ) → writes ds id ≡ true → declares ds id ≡ true
declares_written [] id w = absurd (cc)
declares_written (d ∷ ds) id w = by_flag d.writable (eqb d.id id) w (declares_written ds id)
  where
    by_flag : (b e : Bool) → ((b && e) || writes ds id) ≡ true → (writes ds id ≡ true → declares ds id ≡ true) → (e || declares ds id) ≡ true
    by_flag b true w rest = refl
    by_flag true false w rest = rest w
    by_flag false false w rest = rest w

-- tests that agree where another holds
pub list_all_same : (p q w : ℕ → Bool) (ids : List ℕ) → ((id : ℕ) → w id ≡ true → p id ≡ q id) → list_all w ids ≡ true → list_all p ids ≡ list_all q ids
list_all_same p q w [] same all = refl
list_all_same p q w (id ∷ ids) same all = ap₂ (λ (a b : Bool). a && b) (same id (and_left (w id) _ all)) (list_all_same p q w ids same (and_right (w id) _ all))

module _ (t : Transaction) (accounts others : Accounts) (agree : AgreeOn t accounts others) (declared : is_declared t ≡ true) where
  sender_declared : writes t.declared t.from ≡ true
  sender_declared = and_left _ (list_all (λ (to : ℕ). writes t.declared to) (receivers_of t.body)) (and_left _ (guard_passes (λ (g : Guard). declares t.declared g.id) t.body) declared)

  receivers_declared : list_all (λ (to : ℕ). writes t.declared to) (receivers_of t.body) ≡ true
  receivers_declared = and_right (writes t.declared t.from) _ (and_left _ (guard_passes (λ (g : Guard). declares t.declared g.id) t.body) declared)

  guard_declared : guard_passes (λ (g : Guard). declares t.declared g.id) t.body ≡ true
  guard_declared = and_right (writes t.declared t.from && list_all (λ (to : ℕ). writes t.declared to) (receivers_of t.body)) _ declared

  same_sender : accounts t.from ≡ others t.from
  same_sender = agree t.from (declares_written t.declared t.from sender_declared)

  pub same_balance : balance_at accounts t.from ≡ balance_at others t.from
  same_balance = ap (λ (o : Option Account). unwrap_or (option_map (λ (a : Account). a.balance) o) 0) same_sender

  same_seq : seq_at accounts t.from ≡ seq_at others t.from
  same_seq = ap (λ (o : Option Account). unwrap_or (option_map (λ (a : Account). a.seq) o) 0) same_sender

  same_receiver : (v : Version) (id : ℕ) → writes t.declared id ≡ true → can_receive v (accounts id) ≡ can_receive v (others id)
  same_receiver One id w = ap (λ (o : Option Account). is_some o) (agree id (declares_written t.declared id w))
  same_receiver Two id w = refl

  -- tests of the guard that agree on declared ids
  same_guard : (p q : Guard → Bool) → ((g : Guard) → declares t.declared g.id ≡ true → p g ≡ q g) → guard_passes p t.body ≡ guard_passes q t.body
  same_guard p q same = by_guard (guard_of t.body) guard_declared
    where
      by_guard : (o : Option Guard) → unwrap_or (option_map (λ (g : Guard). declares t.declared g.id) o) true ≡ true → unwrap_or (option_map p o) true ≡ unwrap_or (option_map q o) true
      by_guard None d = refl
      by_guard (Some g) d = same g d

  same_known : (v : Version) → are_known v accounts t ≡ are_known v others t
  same_known v = ap₂ (λ (a b : Bool). a && b)
      (ap₂ (λ (a b : Bool). a && b)
      (ap (λ (o : Option Account). is_some o) same_sender)
      (list_all_same (λ (to : ℕ). can_receive v (accounts to)) (λ (to : ℕ). can_receive v (others to)) (writes t.declared) (receivers_of t.body) (same_receiver v) receivers_declared))
      (same_guard (λ (g : Guard). is_known accounts g.id) (λ (g : Guard). is_known others g.id) (λ g d. ap (λ (o : Option Account). is_some o) (agree g.id d)))

  same_guarded : guard_holds accounts t.body ≡ guard_holds others t.body
  same_guarded = same_guard (λ (g : Guard). not (ltb (balance_at accounts g.id) g.least)) (λ (g : Guard). not (ltb (balance_at others g.id) g.least)) (λ g d. ap (λ (o : Option Account). not (ltb (unwrap_or (option_map (λ (a : Account). a.balance) o) 0) g.least)) (agree g.id d))

  same_status : (v : Version) → status_of v accounts t ≡ status_of v others t
  same_status v =
      let known = same_known v in
      let timely = ap (λ (n : ℕ). eqb t.seq n) same_seq in
      let guarded = same_guarded in
      let short = ap (λ (n : ℕ). ltb n (sum_of (payments_of n t.body))) same_balance in
      ap₂ (λ (k s : Bool). status_by (is_declared t) k s (guard_holds accounts t.body) (is_short accounts t)) known timely
      ∙ ap₂ (λ (g f : Bool). status_by (is_declared t) (are_known v others t) (eqb t.seq (seq_at others t.from)) g f) guarded short

-- ---- what follows

-- payments of one balance are the same
same_moved : (s : Status) (t : Transaction) (accounts others : Accounts) → balance_at accounts t.from ≡ balance_at others t.from → moved_by s accounts t ≡ moved_by s others t
same_moved status.Ok t accounts others same = ap (λ (n : ℕ). sum_of (payments_of n t.body)) same
same_moved status.Malformed t accounts others same = refl
same_moved status.Undeclared t accounts others same = refl
same_moved status.Unknown t accounts others same = refl
same_moved status.Stale t accounts others same = refl
same_moved status.Guard t accounts others same = refl
same_moved status.Funds t accounts others same = refl

same_changes : (s : Status) (t : Transaction) (accounts others : Accounts) → balance_at accounts t.from ≡ balance_at others t.from → changes_of s accounts t ≡ changes_of s others t
same_changes status.Ok t accounts others same = ap (λ (n : ℕ). send t.from (sum_of (payments_of n t.body)) ∷ map receive (payments_of n t.body)) same
same_changes status.Malformed t accounts others same = refl
same_changes status.Undeclared t accounts others same = refl
same_changes status.Unknown t accounts others same = refl
same_changes status.Stale t accounts others same = refl
same_changes status.Guard t accounts others same = refl
same_changes status.Funds t accounts others same = refl

-- the same status, and the same of what follows
sees_from : (v : Version) (t : Transaction) (accounts others : Accounts) → status_of v accounts t ≡ status_of v others t → ((s : Status) → s ≡ status_of v accounts t → (moved_by s accounts t ≡ moved_by s others t) × (changes_of s accounts t ≡ changes_of s others t)) → SeesSame v t accounts others
sees_from v t accounts others same follows =
    let f = follows (status_of v accounts t) refl in
    record {
      statuses = same;
      moved = f.0 ∙ ap (λ (s : Status). moved_by s others t) same;
      changes = f.1 ∙ ap (λ (s : Status). changes_of s others t) same;
    }

-- the rule sees the declared accounts alone
pub sees_declared_alone : (v : Version) (t : Transaction) (accounts others : Accounts) → AgreeOn t accounts others → SeesSame v t accounts others
sees_declared_alone v t accounts others agree = by_test (is_declared t) refl
  where
    undeclared : (a : Accounts) → is_declared t ≡ false → status_of v a t ≡ status.Undeclared
    undeclared a no_d = ap (λ (d : Bool). status_by d (are_known v a t) (eqb t.seq (seq_at a t.from)) (guard_holds a t.body) (is_short a t)) no_d

    by_test : (d : Bool) → is_declared t ≡ d → SeesSame v t accounts others
    by_test true d = sees_from v t accounts others (same_status t accounts others agree d v) (λ s _. (same_moved s t accounts others (same_balance t accounts others agree d), same_changes s t accounts others (same_balance t accounts others agree d)))
    by_test false d = sees_from v t accounts others (undeclared accounts d ∙ sym (undeclared others d)) (λ s is. subst (λ (u : Status). (moved_by u accounts t ≡ moved_by u others t) × (changes_of u accounts t ≡ changes_of u others t)) (sym (is ∙ undeclared accounts d)) (refl, refl))

-- ---- what is changed

-- two ids of which one is declared for writing alone
apart : (ds : List Declared) (x id : ℕ) → writes ds x ≡ true → writes ds id ≡ false → eqb x id ≡ false
apart ds x id w no_w = by_test (eqb x id) refl
  where
    by_test : (b : Bool) → b ≡ eqb x id → b ≡ false
    by_test false e = refl
    by_test true e = let same : x ≡ id = grind (arith, nat_tests) in let both = ap (λ (n : ℕ). writes ds n) same in absurd (cc)

-- the payments leave an account that is not declared for writing
payments_leave : (ds : List Declared) (payments : List Payment) (id : ℕ) (a : Option Account) → list_all (λ (to : ℕ). writes ds to) (map (λ (p : Payment). p.to) payments) ≡ true → writes ds id ≡ false → account_after (map receive payments) id a ≡ a
payments_leave ds [] id a all no_w = refl
payments_leave ds (p ∷ more) id a all no_w =
    let other = apart ds p.to id (and_left (writes ds p.to) _ all) no_w in
    ap (λ (b : Bool). account_after (map receive more) id (cond b (Some ((receive p).makes (unwrap_or a new_account))) a)) other ∙ payments_leave ds more id a (and_right (writes ds p.to) _ all) no_w

-- who is paid
pub receivers-payments : (balance : ℕ) (body : Body) → map (λ (p : Payment). p.to) (payments_of balance body) ≡ receivers_of body
receivers-payments balance (Pay to amount) = refl
receivers-payments balance (PayIf to amount guard min) = refl
receivers-payments balance (Sweep to keep) = refl
receivers-payments balance (Split payments) = refl

module _ (t : Transaction) (accounts : Accounts) (id : ℕ) (a : Option Account) (no_w : writes t.declared id ≡ false) (declared : is_declared t ≡ true) where
  sender_leaves : (paid : ℕ) (more : List Change) → account_after (send t.from paid ∷ more) id a ≡ account_after more id a
  sender_leaves paid more = ap (λ (b : Bool). account_after more id (cond b (Some ((send t.from paid).makes (unwrap_or a new_account))) a)) (apart t.declared t.from id (sender_declared t accounts accounts (λ id d. refl) declared) no_w)

  pub leaves : (s : Status) → account_after (changes_of s accounts t) id a ≡ a
  leaves status.Ok = sender_leaves _ (map receive (payments_on accounts t)) ∙ payments_leave t.declared (payments_on accounts t) id a (ap (λ (ids : List ℕ). list_all (λ (to : ℕ). writes t.declared to) ids) (receivers-payments (balance_at accounts t.from) t.body) ∙ receivers_declared t accounts accounts (λ id d. refl) declared) no_w
  leaves status.Guard = sender_leaves 0 []
  leaves status.Funds = sender_leaves 0 []
  leaves status.Malformed = refl
  leaves status.Undeclared = refl
  leaves status.Unknown = refl
  leaves status.Stale = refl

-- the rule changes those alone that are declared for writing
pub changes_writable_alone : (v : Version) (t : Transaction) (accounts : Accounts) (id : ℕ) (a : Option Account) → writes t.declared id ≡ false → account_after (changes_of (status_of v accounts t) accounts t) id a ≡ a
changes_writable_alone v t accounts id a no_w = by_test (is_declared t) refl
  where
    by_test : (d : Bool) → is_declared t ≡ d → account_after (changes_of (status_of v accounts t) accounts t) id a ≡ a
    by_test true d = leaves t accounts id a no_w d (status_of v accounts t)
    by_test false d = ap (λ (b : Bool). account_after (changes_of (status_by b (are_known v accounts t) (eqb t.seq (seq_at accounts t.from)) (guard_holds accounts t.body) (is_short accounts t)) accounts t) id a) d
