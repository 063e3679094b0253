-- A payment by the indexes of its accounts is the rule.
use Rattle.std.proofs.Common.{◌≡◌, ◌≢◌, ℕ, ◌+◌, ◌^◌, ◌<◌, Bool, true, false, cond, not, ◌&&◌, eqb, ltb, leb, List, [], ◌∷◌, length, map, get_or, set, Option, Some, None, IsTrue, IsSomeAnd, is_some, unwrap_or, refl, sym, ap, ap₂, subst, ◌∙◌, inl, inr, arith}
use Rattle.std.specs.Prelude.{option_and_then}
use Rattle.std.specs.List.{list_all}
use Rattle.std.proofs.lemmas.Bool.{cases_lt}
use Rattle.std.proofs.lemmas.Bool.Decides.{nat_tests}
use Rattle.std.proofs.lemmas.List.{get_or_default, get_or_past}
use Rattle.std.proofs.lemmas.List.Sums.{sum_by-cons}
use Rattle.std.proofs.lemmas.Option.{slice_get-get_or}
use Rattle.std.proofs.Math.ListN.{length-set}
use Rattle.bk_base.specs.declared.genesis.Row.{Row}
use Rattle.bk_base.specs.Numbers.{is_ascending}
use Rattle.bk_base.specs.declared.version.Version.{Version}
use Rattle.bk_base.specs.declared.version.Version.TheVariants.{One}
use Rattle.bk_tx.specs.Transaction.{Transaction}
use Rattle.bk_tx.specs.declared.body.Body.{Body}
use Rattle.bk_tx.specs.declared.payments.Payment.{Payment}
use Rattle.bk_tx.specs.Spelling.{payments_of, receivers_of}
use Rattle.bk_rules.specs.declared.account.Account.{Account}
use Rattle.bk_rules.specs.declared.receipt.Receipt.{Receipt}
use Rattle.bk_rules.specs.declared.receipt.Status.{Status}
use Rattle.bk_rules.specs.declared.receipt.Status.TheVariants as status
use Rattle.bk_rules.specs.Rule.{Change, Guard, new_account, balance_of, seq_of, balance_at, guard_passes, can_receive, are_known, status_of, moved_by, payments_on, sum_of, send, receive, changes_of, account_after}
use Rattle.bk_rules.specs.Rows.{IsLedger, account_at, outcome_of}
use Rattle.bk_rules.specs.Fold.{HasRoom}
use Rattle.bk_rules.specs.Ledger.{Ledger, ledger_of, after_of, rows_shown}
use Rattle.bk_rules.specs.declared.ops.Op.{Op}
use Rattle.bk_rules.specs.Ops.{PaysBy, IsOpOf}
use Rattle.bk_rules.specs.private.Slots.{index_or_len, shown, shown_at, AreSlots}
use Rattle.bk_rules.specs.private.Paying.{numbers_at, payment_status, amount_by, sent_by, numbers_after}
use Rattle.bk_rules.proofs.Finding.{first_is}
use Rattle.bk_rules.proofs.Places.{least_test}
use Rattle.bk_rules.proofs.RowLemmas.{step}
use Rattle.bk_rules.proofs.Locality.{status_by, guard_holds}
use Rattle.bk_rules.proofs.Kept.{ledger_kept, rule_of_rows}
use Rattle.bk_rules.proofs.Settling.{status_from}
use Rattle.bk_rules.proofs.Slots.{account_at-shown, ascend-shown}
use Rattle.bk_rules.proofs.Storing.{rows_same}
use Rattle.bk_rules.proofs.Stores.{get-set_same, get-set_other, index_reads, balance_below, seq_below}

-- ---- one slot

module _ (ids : List ℕ) (up : IsTrue (is_ascending ids)) where
  -- the account at an index
  pub slot_at : (numbers : List Account) → length numbers ≡ length ids → (k : ℕ) → k < length ids → account_at (rows_shown One ids numbers) (get_or ids k 0) ≡ Some (numbers_at numbers k)
  slot_at numbers same k low =
      account_at-shown One ids numbers up same (get_or ids k 0)
      ∙ ap (shown_at One numbers) (first_is ids up (get_or ids k 0) k low refl)
      ∙ ap (option_and_then (λ (a : Account). Some a)) (slice_get-get_or numbers k new_account (omega arith))

  -- a change of the numbers at an index is the change of its account
  pub slot_changed : (numbers : List Account) → length numbers ≡ length ids → (k : ℕ) → k < length ids → (c : Change) → c.id ≡ get_or ids k 0 → (a : Account) → a ≡ c.makes (numbers_at numbers k) → (id : ℕ) → account_at (rows_shown One ids (set numbers k a)) id ≡ step c id (account_at (rows_shown One ids numbers) id)
  slot_changed numbers same k low c is a made id = by_test (eqb c.id id) refl
    where
      same_after : length (set numbers k a) ≡ length ids
      same_after = length-set {A = Account} numbers k a ∙ same

      by_test : (b : Bool) → b ≡ eqb c.id id → account_at (rows_shown One ids (set numbers k a)) id ≡ step c id (account_at (rows_shown One ids numbers) id)
      by_test true e =
          let there : get_or ids k 0 ≡ id = grind (arith, nat_tests) in
          account_at-shown One ids (set numbers k a) up same_after id
          ∙ ap (shown_at One (set numbers k a)) (first_is ids up id k low there)
          ∙ ap (option_and_then (λ (x : Account). Some x)) (get-set_same numbers k a (omega arith) ∙ ap (λ (x : Account). Some x) made)
          ∙ sym (ap (λ (b : Bool). cond b (Some (c.makes (unwrap_or (account_at (rows_shown One ids numbers) id) new_account))) (account_at (rows_shown One ids numbers) id)) (sym e)
          ∙ ap (λ (o : Option Account). Some (c.makes (unwrap_or o new_account))) (ap (account_at (rows_shown One ids numbers)) (sym there) ∙ slot_at numbers same k low))
      by_test false e =
          let apart : get_or ids k 0 ≢ id = grind (arith, nat_tests) in
          account_at-shown One ids (set numbers k a) up same_after id
          ∙ ap (option_and_then (λ (x : Account). Some x)) (get-set_other numbers k (index_or_len ids id) a (λ at. apart (elsewhere at)))
          ∙ sym (ap (λ (b : Bool). cond b (Some (c.makes (unwrap_or (account_at (rows_shown One ids numbers) id) new_account))) (account_at (rows_shown One ids numbers) id)) (sym e)
          ∙ account_at-shown One ids numbers up same id)
        where
          elsewhere : k ≡ index_or_len ids id → get_or ids k 0 ≡ id
          elsewhere at = ap (λ (i : ℕ). get_or ids i 0) at ∙ index_reads ids id (omega arith)

-- ---- the status

module _ (ids : List ℕ) (old : List Account) (are : AreSlots One ids old) (from to amount seq : ℕ) (guarded : Bool) (body : ℕ → Body) (t : Transaction) (pays : PaysBy ids from to seq body t)
    (paid : payments_of (numbers_at old from).balance t.body ≡ record { to = get_or ids to 0; amount = amount } ∷ []) (receivers : receivers_of t.body ≡ get_or ids to 0 ∷ [])
    (guard_known : guard_passes (λ (g : Guard). is_some (account_at (rows_shown One ids old) g.id)) t.body ≡ true) (guard_is : guard_holds (account_at (rows_shown One ids old)) t.body ≡ guarded) where
  sender_is : account_at (rows_shown One ids old) t.from ≡ Some (numbers_at old from)
  sender_is = ap (account_at (rows_shown One ids old)) pays.sender ∙ slot_at ids are.ascending old are.same from pays.from_in

  receiver_is : account_at (rows_shown One ids old) (get_or ids to 0) ≡ Some (numbers_at old to)
  receiver_is = slot_at ids are.ascending old are.same to pays.to_in

  payments_are : payments_on (account_at (rows_shown One ids old)) t ≡ record { to = get_or ids to 0; amount = amount } ∷ []
  payments_are = ap (λ (o : Option Account). payments_of (balance_of o) t.body) sender_is ∙ paid

  sum_is : sum_of (payments_on (account_at (rows_shown One ids old)) t) ≡ amount
  sum_is = ap sum_of payments_are ∙ (let one = sum_by-cons (λ (p : Payment). p.amount) (record { to = get_or ids to 0; amount = amount }) [] in omega arith)

  known : are_known One (account_at (rows_shown One ids old)) t ≡ true
  known =
      ap₂ (λ (ks : List ℕ) (b : Bool). is_some (account_at (rows_shown One ids old) t.from) && list_all (λ (k : ℕ). can_receive One (account_at (rows_shown One ids old) k)) ks && b) receivers guard_known
      ∙ ap₂ (λ (x y : Option Account). is_some x && (is_some y && true) && true) sender_is receiver_is

  status_is : status_of One (account_at (rows_shown One ids old)) t ≡ payment_status guarded amount seq (numbers_at old from)
  status_is =
      status_from One (account_at (rows_shown One ids old)) t true _ guarded _ pays.declared known refl guard_is refl
      ∙ ap₂ (λ (s f : Bool). status_by true true s guarded f)
      (ap₂ (λ (n : ℕ) (o : Option Account). eqb n (seq_of o)) pays.seq_is sender_is)
      (ap₂ (λ (o : Option Account) (n : ℕ). ltb (balance_of o) n) sender_is sum_is)

  -- ---- what follows

  module _ (r : Receipt) (new : List Account) (ends_so : r.status ≡ payment_status guarded amount seq (numbers_at old from)) (moved : r.moved ≡ amount_by r.status amount) (after : new ≡ numbers_after r.status from to amount old) where
    same_status : r.status ≡ status_of One (account_at (rows_shown One ids old)) t
    same_status = ends_so ∙ sym status_is

    moved_is : (s : Status) → amount_by s amount ≡ moved_by s (account_at (rows_shown One ids old)) t
    moved_is status.Ok = sym sum_is
    moved_is status.Malformed = refl
    moved_is status.Undeclared = refl
    moved_is status.Unknown = refl
    moved_is status.Stale = refl
    moved_is status.Guard = refl
    moved_is status.Funds = refl

    accounts_by : (id : ℕ) (b g d : Bool) → account_at (rows_shown One ids (numbers_after (cond (not b) status.Stale (cond (not g) status.Guard (cond d status.Funds status.Ok))) from to amount old)) id ≡ account_after (changes_of (cond (not b) status.Stale (cond (not g) status.Guard (cond d status.Funds status.Ok))) (account_at (rows_shown One ids old)) t) id (account_at (rows_shown One ids old) id)
    accounts_by id false g d = refl
    accounts_by id true false d = slot_changed ids are.ascending old are.same from pays.from_in (send t.from 0) pays.sender _ refl id
    accounts_by id true true true = slot_changed ids are.ascending old are.same from pays.from_in (send t.from 0) pays.sender _ refl id
    accounts_by id true true false =
        slot_changed ids are.ascending (sent_by from amount old) (length-set {A = Account} old from _ ∙ are.same) to pays.to_in (receive (record { to = get_or ids to 0; amount = amount })) refl _ refl id
        ∙ ap (step (receive (record { to = get_or ids to 0; amount = amount })) id) (slot_changed ids are.ascending old are.same from pays.from_in (send t.from amount) pays.sender _ refl id)
        ∙ sym (ap₂ (λ (n : ℕ) (ps : List Payment). account_after (send t.from n ∷ map receive ps) id (account_at (rows_shown One ids old) id)) sum_is payments_are)

    accounts_are : (id : ℕ) → account_at (rows_shown One ids new) id ≡ account_after (changes_of (status_of One (account_at (rows_shown One ids old)) t) (account_at (rows_shown One ids old)) t) id (account_at (rows_shown One ids old) id)
    accounts_are id =
        ap (λ (ns : List Account). account_at (rows_shown One ids ns) id) (after ∙ ap (λ (s : Status). numbers_after s from to amount old) ends_so)
        ∙ accounts_by id (eqb seq (numbers_at old from).seq) guarded (ltb (numbers_at old from).balance amount)
        ∙ sym (ap (λ (s : Status). account_after (changes_of s (account_at (rows_shown One ids old)) t) id (account_at (rows_shown One ids old) id)) status_is)

    receipt_of : r ≡ (outcome_of One (Some t) (rows_shown One ids old)).receipt
    receipt_of = ap₂ (λ (s : Status) (m : ℕ). record { status = s; moved = m }) same_status (moved ∙ moved_is r.status ∙ ap (λ (s : Status). moved_by s (account_at (rows_shown One ids old)) t) same_status)

    rows_are : rows_shown One ids new ≡ (outcome_of One (Some t) (rows_shown One ids old)).after
    rows_are =
        let kept = ledger_kept One (Some t) (rows_shown One ids old) are.ledger in
        rows_same (rows_shown One ids new) (outcome_of One (Some t) (rows_shown One ids old)).after (ascend-shown One ids new are.ascending) kept.ascending
        (λ id. accounts_are id ∙ sym (rule_of_rows One t (rows_shown One ids old) id are.ledger))

    length_by : (s : Status) → length (numbers_after s from to amount old) ≡ length old
    length_by status.Ok = length-set {A = Account} (sent_by from amount old) to _ ∙ length-set {A = Account} old from _
    length_by status.Malformed = refl
    length_by status.Undeclared = refl
    length_by status.Unknown = refl
    length_by status.Stale = refl
    length_by status.Guard = length-set {A = Account} old from _
    length_by status.Funds = length-set {A = Account} old from _

    slots_are : AreSlots One ids new
    slots_are = record {
      same = ap length after ∙ length_by r.status ∙ are.same;
      ascending = are.ascending;
      ledger = subst (λ (xs : List Row). IsLedger xs) (sym rows_are) (ledger_kept One (Some t) (rows_shown One ids old) are.ledger);
      own = λ k a e. refl;
    }

-- ---- what a payment needs

module _ (ids : List ℕ) (old : List Account) (are : AreSlots One ids old) where
  small_of : (k : ℕ) → (numbers_at old k).balance < 2 ^ 63
  small_of k = elim (cases_lt k (length old)) [
    | inl lt ↦
        (let there = slot_at ids are.ascending old are.same k (let same = are.same in omega arith) in
        let most = balance_below (rows_shown One ids old) (get_or ids k 0) in
        let is = ap balance_of there in
        let ledger = are.ledger in
        let within = ledger.within in
        omega arith)
    | inr ge ↦ (let none = ap (λ (a : Account). a.balance) (get_or_past old k new_account ge) in omega arith)
  ]

  room_of : HasRoom One 1 (rows_shown One ids old) → (k : ℕ) → k < length ids → (numbers_at old k).seq + 1 < 2 ^ 64
  room_of room k low =
      let there = ap seq_of (slot_at ids are.ascending old are.same k low) in
      let most = seq_below 18446744073709551616 (rows_shown One ids old) (omega arith) room (get_or ids k 0) in
      omega arith

-- ---- the same of a state, in the words of its contracts

-- the transaction of a payment
paying : (ids : List ℕ) (from to seq : ℕ) (body : ℕ → Body) (tx : Option Transaction) → IsSomeAnd tx (PaysBy ids from to seq body) → (t : Transaction) × (tx ≡ Some t) × PaysBy ids from to seq body t
paying ids from to seq body None pays = absurd pays
paying ids from to seq body (Some t) pays = (t, refl, pays)

module _ (l : Ledger) (v : Version) (ids : List ℕ) (old : List Account) (are : AreSlots v ids old) (is : shown v ids old ≡ l) (one : l.version ≡ One) where
  first : v ≡ One
  first = ap (λ (x : Ledger). x.version) is ∙ one

  are_one : AreSlots One ids old
  are_one = subst (λ (w : Version). AreSlots w ids old) first are

  is_one : shown One ids old ≡ l
  is_one = subst (λ (w : Version). shown w ids old ≡ l) first is

  pub small_at : (k : ℕ) → (numbers_at old k).balance < 2 ^ 63
  small_at k = small_of ids old are_one k

  module _ (tx : Option Transaction) (from to seq : ℕ) (body : ℕ → Body) (pays : IsSomeAnd tx (PaysBy ids from to seq body)) where
    pays_here : (t : Transaction) × (tx ≡ Some t) × PaysBy ids from to seq body t
    pays_here = paying ids from to seq body tx pays

    pub low_at : from < length ids
    low_at = let here = pays_here.2 in here.from_in

    pub room_at : HasRoom l.version 1 l.rows → (numbers_at old from).seq + 1 < 2 ^ 64
    room_at room =
        let here = pays_here.2 in
        room_of ids old are_one (subst (λ (x : Ledger). HasRoom x.version 1 x.rows) (sym is_one) room) from here.from_in

    module _ (amount : ℕ) (guarded : Bool) (paid : payments_of (numbers_at old from).balance (body (get_or ids to 0)) ≡ record { to = get_or ids to 0; amount = amount } ∷ []) (receivers : receivers_of (body (get_or ids to 0)) ≡ get_or ids to 0 ∷ [])
        (guard_known : guard_passes (λ (g : Guard). is_some (account_at (rows_shown One ids old) g.id)) (body (get_or ids to 0)) ≡ true) (guard_is : guard_holds (account_at (rows_shown One ids old)) (body (get_or ids to 0)) ≡ guarded)
        (r : Receipt) (new : List Account) (ends_so : r.status ≡ payment_status guarded amount seq (numbers_at old from)) (moved : r.moved ≡ amount_by r.status amount) (after : new ≡ numbers_after r.status from to amount old) where
      body_is : pays_here.0.body ≡ body (get_or ids to 0)
      body_is = let here = pays_here.2 in here.body_is

      paid_so : payments_of (numbers_at old from).balance pays_here.0.body ≡ record { to = get_or ids to 0; amount = amount } ∷ []
      paid_so = ap (payments_of (numbers_at old from).balance) body_is ∙ paid

      receivers_so : receivers_of pays_here.0.body ≡ get_or ids to 0 ∷ []
      receivers_so = ap receivers_of body_is ∙ receivers

      known_so : guard_passes (λ (g : Guard). is_some (account_at (rows_shown One ids old) g.id)) pays_here.0.body ≡ true
      known_so = ap (guard_passes (λ (g : Guard). is_some (account_at (rows_shown One ids old) g.id))) body_is ∙ guard_known

      guard_so : guard_holds (account_at (rows_shown One ids old)) pays_here.0.body ≡ guarded
      guard_so = ap (guard_holds (account_at (rows_shown One ids old))) body_is ∙ guard_is

      pub op_slots : AreSlots v ids new
      op_slots = subst (λ (w : Version). AreSlots w ids new) (sym first) (slots_are ids old are_one from to amount seq guarded body pays_here.0 pays_here.2 paid_so receivers_so known_so guard_so r new ends_so moved after)

      pub op_receipt : r ≡ (outcome_of l.version tx l.rows).receipt
      op_receipt =
          receipt_of ids old are_one from to amount seq guarded body pays_here.0 pays_here.2 paid_so receivers_so known_so guard_so r new ends_so moved after
          ∙ ap₂ (λ (x : Ledger) (o : Option Transaction). (outcome_of x.version o x.rows).receipt) is_one (sym pays_here.1)

      pub op_after : shown v ids new ≡ after_of l tx
      op_after =
          ap (λ (w : Version). shown w ids new) first
          ∙ ap (ledger_of One ids) (rows_are ids old are_one from to amount seq guarded body pays_here.0 pays_here.2 paid_so receivers_so known_so guard_so r new ends_so moved after)
          ∙ ap₂ after_of is_one (sym pays_here.1)

  -- the op, over the ids
  pub op_here : (tx : Option Transaction) (o p : Op) → o ≡ p → IsOpOf l.slots tx o → IsOpOf ids tx p
  op_here tx o p same says = subst (λ (x : Ledger). IsOpOf x.slots tx p) (sym is) (subst (λ (q : Op). IsOpOf l.slots tx q) same says)

  -- numbers that were read at an index
  pub read_there : (k : ℕ) → k < length ids → (a : Account) → a ≡ get_or old k a → a ≡ numbers_at old k
  read_there k low a read = read ∙ get_or_default old k a new_account (let same = are.same in omega arith)

  -- the guard at an index
  pub guard_there : (k : ℕ) → k < length ids → is_some (account_at (rows_shown One ids old) (get_or ids k 0)) ≡ true
  guard_there k low = ap (λ (o : Option Account). is_some o) (slot_at ids are_one.ascending old are_one.same k low)

  pub guard_tests : (k least : ℕ) → k < length ids → not (ltb (balance_at (account_at (rows_shown One ids old)) (get_or ids k 0)) least) ≡ leb least (numbers_at old k).balance
  guard_tests k least low = ap (λ (o : Option Account). not (ltb (balance_of o) least)) (slot_at ids are_one.ascending old are_one.same k low) ∙ least_test least (numbers_at old k).balance
