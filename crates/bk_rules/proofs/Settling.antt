-- What the returns of the code are, in the words of the rule.
use Rattle.std.proofs.Common.{◌≡◌, ℕ, ◌<◌, ◌≤◌, Bool, true, false, cond, ◌&&◌, not, eqb, ltb, leb, List, [], ◌∷◌, length, map, get_or, set, take, Option, Some, None, is_some, option_map, unwrap_or, refl, sym, ap, ap₂, subst, ◌∙◌, arith}
use Rattle.std.specs.List.{list_all}
use Rattle.std.proofs.Math.ListN.{length-set}
use Rattle.std.proofs.lemmas.List.Folds.{list_all_at, list_all-map}
use Rattle.bk_tx.specs.Access.{writes, declares, receivers_in}
use Rattle.bk_tx.specs.declared.declared.Declared.{Declared}
use Rattle.bk_tx.specs.declared.payments.Payment.{Payment}
use Rattle.bk_tx.specs.Transaction.{Transaction}
use Rattle.bk_tx.specs.Spelling.{payments_of, receivers_of}
use Rattle.bk_rules.specs.declared.account.Account.{Account}
use Rattle.bk_base.specs.declared.version.Version.{Version}
use Rattle.bk_rules.specs.declared.receipt.Status.{Status}
use Rattle.bk_rules.specs.declared.receipt.Status.TheVariants as status
use Rattle.bk_rules.specs.declared.receipt.Receipt.{Receipt}
use Rattle.bk_rules.specs.declared.roles.Floor.{Floor}
use Rattle.bk_rules.specs.declared.roles.FloorAt.{FloorAt}
use Rattle.bk_rules.specs.declared.roles.Roles.{Roles}
use Rattle.bk_rules.specs.Rule.{Accounts, Guard, balance_of, seq_of, seq_at, payments_on, sum_of, guard_of, guard_passes, is_declared, can_receive, are_known, status_of, moved_by, sent, send, receive, changes_of, account_after}
use Rattle.bk_rules.specs.View.{nth, nth_or_new, seen, nth_id, Become, Settles, is_writable, IsEffect}
use Rattle.bk_rules.specs.private.Roles.{AllAt, guard_in, AreAt, floor_passes, credited}
use Rattle.bk_rules.proofs.RowLemmas.{step}
use Rattle.bk_rules.proofs.Places.{Rise, seen_at, changed_there, credited_there, all_at_cut, receivers_there, guard_there, least_test}
use Rattle.bk_rules.proofs.Locality.{status_by, guard_holds, is_short, receivers-payments}

-- ---- lists of payments

-- each receiver passes
pub list_all-always : {X : Type 0} (xs : List X) → list_all (λ (x : X). true) xs ≡ true
list_all-always [] = refl
list_all-always (x ∷ xs) = list_all-always xs

-- one that does not pass
pub none_at : {X : Type 0} (p : X → Bool) (xs : List X) (i : ℕ) (d : X) → i < length xs → p (get_or xs i d) ≡ false → list_all p xs ≡ false
none_at p xs i d low fails = list_all_at p xs i d low fails

-- tests of receivers
pub list_all-receivers : (p : ℕ → Bool) (payments : List Payment) → list_all p (receivers_in payments) ≡ list_all (λ (x : Payment). p x.to) payments
list_all-receivers p payments = list_all-map p (λ (x : Payment). x.to) payments

-- ---- what is declared

-- the guard as the code found it
guard_declared_at : (ds : List Declared) (test : Guard → Bool) (g : Option Guard) (f : Option Floor) → option_map guard_in f ≡ g → unwrap_or (option_map test g) true ≡ unwrap_or (option_map (λ (x : Floor). test (guard_in x)) f) true
guard_declared_at ds test g None e = ap (λ (o : Option Guard). unwrap_or (option_map test o) true) (sym e)
guard_declared_at ds test g (Some x) e = ap (λ (o : Option Guard). unwrap_or (option_map test o) true) (sym e)

module _ (t : Transaction) (payments : List Payment) (writable : writes t.declared t.from ≡ true) (paid : receivers_in payments ≡ receivers_of t.body) where
  declared_parts : (b e : Bool) → list_all (λ (p : Payment). writes t.declared p.to) payments ≡ b → guard_passes (λ (g : Guard). declares t.declared g.id) t.body ≡ e → is_declared t ≡ (b && e)
  declared_parts b e eb ee = ap₂ (λ (x y : Bool). x && y) (ap₂ (λ (x y : Bool). x && y) writable (ap (λ (ids : List ℕ). list_all (λ (to : ℕ). writes t.declared to) ids) (sym paid) ∙ list_all-receivers (λ (to : ℕ). writes t.declared to) payments ∙ eb)) ee

  guard_test : (f : Option Floor) → option_map guard_in f ≡ guard_of t.body → guard_passes (λ (g : Guard). declares t.declared g.id) t.body ≡ unwrap_or (option_map (λ (x : Floor). declares t.declared x.id) f) true
  guard_test f e = guard_declared_at t.declared (λ (g : Guard). declares t.declared g.id) (guard_of t.body) f e

  -- a receiver is not declared
  pub undeclared_receiver : list_all (λ (p : Payment). writes t.declared p.to) payments ≡ false → is_declared t ≡ false
  undeclared_receiver none = declared_parts false _ none refl

  -- there is no guard
  pub declared_alone : list_all (λ (p : Payment). writes t.declared p.to) payments ≡ true → (f : Option Floor) → option_map guard_in f ≡ guard_of t.body → f ≡ None → is_declared t ≡ true
  declared_alone all f e none = declared_parts true true all (guard_test f e ∙ ap (λ (o : Option Floor). unwrap_or (option_map (λ (x : Floor). declares t.declared x.id) o) true) none)

  -- there is one
  pub declared_with_guard : list_all (λ (p : Payment). writes t.declared p.to) payments ≡ true → (f : Option Floor) → option_map guard_in f ≡ guard_of t.body → (x : Floor) → f ≡ Some x → (b : Bool) → declares t.declared x.id ≡ b → is_declared t ≡ b
  declared_with_guard all f e x some b is = declared_parts true b all (guard_test f e ∙ ap (λ (o : Option Floor). unwrap_or (option_map (λ (x : Floor). declares t.declared x.id) o) true) some ∙ is)

-- ---- what is settled

-- a status that was found, and what follows from it
pub settles_from : (v : Version) (t : Transaction) (old : List (Option Account)) (s : Status) (moved : ℕ) (new : List (Option Account)) → status_of v (seen t.declared old) t ≡ s → moved ≡ moved_by s (seen t.declared old) t → Become t.declared (changes_of s (seen t.declared old) t) old new → Settles v t old (record { status = s; moved = moved }) new
settles_from v t old s moved new is money after = record {
  status = sym is;
  moved = money ∙ ap (λ (u : Status). moved_by u (seen t.declared old) t) (sym is);
  after = subst (λ (u : Status). Become t.declared (changes_of u (seen t.declared old) t) old new) (sym is) after;
}

-- a receipt of this status that moved nothing
pub settles_unmoved : (v : Version) (t : Transaction) (old : List (Option Account)) (s : Status) (r : Receipt) (new : List (Option Account)) → r ≡ record { status = s; moved = 0 } → Settles v t old (record { status = s; moved = 0 }) new → Settles v t old r new
settles_unmoved v t old s r new is settles = subst (λ (x : Receipt). Settles v t old x new) (sym is) settles

-- undeclared
pub settles_undeclared : (v : Version) (t : Transaction) (old : List (Option Account)) → is_declared t ≡ false → Settles v t old (record { status = status.Undeclared; moved = 0 }) old
settles_undeclared v t old no_d = settles_from v t old status.Undeclared 0 old (ap (λ (d : Bool). status_by d (are_known v (seen t.declared old) t) (eqb t.seq (seq_at (seen t.declared old) t.from)) (guard_holds (seen t.declared old) t.body) (is_short (seen t.declared old) t)) no_d) refl (λ k low. refl)

pub status_from : (v : Version) (a : Accounts) (t : Transaction) (k s g f : Bool) → is_declared t ≡ true → are_known v a t ≡ k → eqb t.seq (seq_at a t.from) ≡ s → guard_holds a t.body ≡ g → is_short a t ≡ f → status_of v a t ≡ status_by true k s g f
status_from v a t k s g f ed ek es eg ef = ap₂ (λ (x y : Bool). status_by x y (eqb t.seq (seq_at a t.from)) (guard_holds a t.body) (is_short a t)) ed ek ∙ ap₂ (λ (x y : Bool). status_by true k x y (is_short a t)) es eg ∙ ap (λ (x : Bool). status_by true k s g x) ef

floor_same : (f g : FloorAt → Bool) → ((q : FloorAt) → f q ≡ g q) → (p : Option FloorAt) → floor_passes f p ≡ floor_passes g p
floor_same f g same None = refl
floor_same f g same (Some q) = same q

module _ (v : Version) (t : Transaction) (payments : List Payment) (roles : Roles) (old : List (Option Account)) (up : Rise t.declared) (declared : is_declared t ≡ true) (at : AreAt t payments roles) (asked : payments ≡ payments_of (balance_of (nth old roles.from)) t.body) where
  sender_seen : seen t.declared old t.from ≡ nth old roles.from
  sender_seen = seen_at t.declared up old t.from roles.from at.sender

  payments_seen : payments_on (seen t.declared old) t ≡ payments
  payments_seen = ap (λ (o : Option Account). payments_of (balance_of o) t.body) sender_seen ∙ sym asked

  receivers_paid : receivers_of t.body ≡ receivers_in payments
  receivers_paid = sym (ap receivers_in asked ∙ receivers-payments (balance_of (nth old roles.from)) t.body)

  pub known_there : (to : List ℕ) → to ≡ take (length payments) roles.to → length to ≡ length payments → are_known v (seen t.declared old) t ≡ (is_some (nth old roles.from) && list_all (λ (k : ℕ). can_receive v (nth old k)) to && floor_passes (λ (p : FloorAt). is_some (nth old p.at)) roles.guard)
  known_there to cut same =
      let there : AllAt t.declared payments to = subst (λ (ks : List ℕ). AllAt t.declared payments ks) (sym cut) (all_at_cut t.declared payments roles.to (length payments) refl at.receivers) in
      ap₂ (λ (x y : Bool). x && y)
      (ap₂ (λ (x y : Bool). x && y)
      (ap (λ (o : Option Account). is_some o) sender_seen)
      (ap (λ (ids : List ℕ). list_all (λ (to : ℕ). can_receive v (seen t.declared old to)) ids) receivers_paid ∙ receivers_there v t.declared up old payments to same there))
      (guard_there t.declared up old (guard_of t.body) roles.guard at.guard (λ least o. is_some o))

  timely_there : eqb t.seq (seq_at (seen t.declared old) t.from) ≡ eqb t.seq (seq_of (nth old roles.from))
  timely_there = ap (λ (o : Option Account). eqb t.seq (seq_of o)) sender_seen

  guarded_there : guard_holds (seen t.declared old) t.body ≡ floor_passes (λ (p : FloorAt). leb p.least (balance_of (nth old p.at))) roles.guard
  guarded_there = guard_there t.declared up old (guard_of t.body) roles.guard at.guard (λ least o. not (ltb (balance_of o) least)) ∙ floor_same _ _ (λ q. least_test q.least (balance_of (nth old q.at))) roles.guard

  short_there : is_short (seen t.declared old) t ≡ ltb (balance_of (nth old roles.from)) (sum_of payments)
  short_there = ap₂ (λ (o : Option Account) (ps : List Payment). ltb (balance_of o) (sum_of ps)) sender_seen payments_seen

  -- some account is not there
  pub settles_unknown : (to : List ℕ) → to ≡ take (length payments) roles.to → length to ≡ length payments → (is_some (nth old roles.from) && list_all (λ (k : ℕ). can_receive v (nth old k)) to && floor_passes (λ (p : FloorAt). is_some (nth old p.at)) roles.guard) ≡ false → Settles v t old (record { status = status.Unknown; moved = 0 }) old
  settles_unknown to cut same none = settles_from v t old status.Unknown 0 old (status_from v (seen t.declared old) t false _ _ _ declared (known_there to cut same ∙ none) refl refl refl) refl (λ k low. refl)

  module _ (known : are_known v (seen t.declared old) t ≡ true) where
    pub settles_stale : eqb t.seq (seq_of (nth old roles.from)) ≡ false → Settles v t old (record { status = status.Stale; moved = 0 }) old
    settles_stale stale = settles_from v t old status.Stale 0 old (status_from v (seen t.declared old) t true false _ _ declared known (timely_there ∙ stale) refl refl) refl (λ k low. refl)

    module _ (timely : eqb t.seq (seq_of (nth old roles.from)) ≡ true) (wide : length t.declared ≤ length old) where
      -- the sender's place after it has paid
      sent_there : (paid : ℕ) (new : List (Option Account)) → new ≡ set old roles.from (Some (sent paid (nth_or_new old roles.from))) → (k : ℕ) → k < length t.declared → nth new k ≡ step (send t.from paid) (nth_id t.declared k) (nth old k)
      sent_there paid new is k low =
          let sender = at.sender in
          let range = sender.in_range in
          ap (λ (view : List (Option Account)). nth view k) is ∙ changed_there t.declared up (send t.from paid) roles.from at.sender old (omega arith) k low

      pub settles_guard : floor_passes (λ (p : FloorAt). leb p.least (balance_of (nth old p.at))) roles.guard ≡ false → (new : List (Option Account)) → new ≡ set old roles.from (Some (sent 0 (nth_or_new old roles.from))) → Settles v t old (record { status = status.Guard; moved = 0 }) new
      settles_guard fails new is = settles_from v t old status.Guard 0 new (status_from v (seen t.declared old) t true true false _ declared known (timely_there ∙ timely) (guarded_there ∙ fails) refl) refl (sent_there 0 new is)

      module _ (guarded : floor_passes (λ (p : FloorAt). leb p.least (balance_of (nth old p.at))) roles.guard ≡ true) where
        pub settles_funds : ltb (balance_of (nth old roles.from)) (sum_of payments) ≡ true → (new : List (Option Account)) → new ≡ set old roles.from (Some (sent 0 (nth_or_new old roles.from))) → Settles v t old (record { status = status.Funds; moved = 0 }) new
        settles_funds short new is = settles_from v t old status.Funds 0 new (status_from v (seen t.declared old) t true true true true declared known (timely_there ∙ timely) (guarded_there ∙ guarded) (short_there ∙ short)) refl (sent_there 0 new is)

        pub settles_ok : ltb (balance_of (nth old roles.from)) (sum_of payments) ≡ false → (to : List ℕ) → to ≡ take (length payments) roles.to → length to ≡ length payments → (moved : ℕ) → moved ≡ sum_of payments → (mid new : List (Option Account)) → mid ≡ set old roles.from (Some (sent moved (nth_or_new old roles.from))) → new ≡ credited payments to mid → Settles v t old (record { status = status.Ok; moved = moved }) new
        settles_ok enough to cut same moved is mid new sent_is new_is =
            let there : AllAt t.declared payments to = subst (λ (ks : List ℕ). AllAt t.declared payments ks) (sym cut) (all_at_cut t.declared payments roles.to (length payments) refl at.receivers) in
            let wide_mid : length t.declared ≤ length mid = omega (arith, ap (λ (view : List (Option Account)). length view) sent_is, length-set {A = Option Account}) in
            settles_from v t old status.Ok moved new
            (status_from v (seen t.declared old) t true true true false declared known (timely_there ∙ timely) (guarded_there ∙ guarded) (short_there ∙ enough))
            (is ∙ ap sum_of (sym payments_seen))
            (λ k low. ap (λ (view : List (Option Account)). nth view k) new_is
            ∙ credited_there t.declared up payments to same there mid wide_mid k low
            ∙ ap (account_after (map receive payments) (nth_id t.declared k)) (sent_there moved mid sent_is k low)
            ∙ ap (λ (paid : ℕ). account_after (send t.from paid ∷ map receive payments) (nth_id t.declared k) (nth old k)) is
            ∙ ap (λ (ps : List Payment). account_after (send t.from (sum_of ps) ∷ map receive ps) (nth_id t.declared k) (nth old k)) (sym payments_seen))

-- the sender is not declared for writing
pub undeclared_sender : (t : Transaction) → writes t.declared t.from ≡ false → is_declared t ≡ false
undeclared_sender t no_w = ap (λ (b : Bool). b && list_all (λ (to : ℕ). writes t.declared to) (receivers_of t.body) && guard_passes (λ (g : Guard). declares t.declared g.id) t.body) no_w

-- ---- an effect

-- what was settled, and the accounts that are written
pub effect_of : (v : Version) (t : Transaction) (view old new : List (Option Account)) → old ≡ view → (r : Receipt) → Settles v t old r new → (writes : List (Option Account)) → ((k : ℕ) → nth writes k ≡ cond (is_writable t.declared k) (nth new k) None) → IsEffect v t view (record { status = r.status; moved = r.moved; writes = writes })
effect_of v t view old new same r settles writes written = record {
  after = new;
  settles = subst (λ (x : List (Option Account)). Settles v t x r new) same settles;
  writes = written;
}
