-- A statement, one place more at a time.
use Rattle.std.proofs.Common.{◌≡◌, ℕ, ◌+◌, ◌^◌, ◌<◌, ◌≤◌, List, [], ◌∷◌, ◌++◌, length, take, get_or, true, false, Option, Some, None, refl, sym, ap, subst, ◌∙◌, arith, add-one}
use Rattle.std.specs.Prelude.{unwrap_or}
use Rattle.std.proofs.lemmas.Bool.{false≢true}
use Rattle.std.proofs.lemmas.List.{append-nil, flat_map_more, length-take}
use Rattle.bk_base.specs.declared.version.Version.{Version}
use Rattle.bk_base.specs.declared.version.Version.TheVariants.{One, Two}
use Rattle.bk_base.specs.declared.genesis.Row.{Row}
use Rattle.bk_base.specs.Genesis.{AreAccounts}
use Rattle.bk_tx.specs.Transaction.{Transaction}
use Rattle.bk_tx.specs.Spelling.{IsTransaction}
use Rattle.bk_rules.specs.declared.account.Account.{Account}
use Rattle.bk_rules.specs.declared.receipt.Receipt.{Receipt}
use Rattle.bk_rules.specs.declared.receipt.Status.{Status}
use Rattle.bk_rules.specs.declared.receipt.Status.TheVariants as status
use Rattle.bk_rules.specs.Fold.{outcome_at, rows_before, seq_end}
use Rattle.bk_rules.specs.Rows.{Outcome, IsLedger, account_at, outcome_of}
use Rattle.bk_rules.specs.Rule.{Accounts, account_after, balance_of, changes_of, moved_by, new_account, seq_of, status_of}
use Rattle.bk_rules.proofs.Folding.{ledger_kept_by_fold, ledger_of_accounts, rows_of_place, total_below}
use Rattle.bk_rules.proofs.Kept.{rule_of_rows}
use Rattle.bk_rules.proofs.Room.{room_left}
use Rattle.bk_rules.proofs.Stores.{balance_below, seq_below}
use Rattle.bk_views.specs.Statement.{Course, account_before, amount_by, credited_by, entries_below, entries_by, entries_of, entries_text, entry_text, entry_with, opening_text, role_in}
use Rattle.bk_views.specs.Told.{IsToldOf, IsToldTo, Told}
use Rattle.bk_views.specs.private.Accounts.{IsPlaceOf, after_part, after_receiving}
use Rattle.bk_views.specs.declared.entry.Entry.{Entry}
use Rattle.bk_views.specs.declared.entry.Role.{Role}
use Rattle.bk_views.specs.declared.entry.Role.TheVariants as role
use Rattle.bk_views.proofs.PartsPlayed.{no_part_after, part_after}

-- ---- the next place

entries_next : (c : Course) (id place : ℕ) (t : Option Transaction) → get_or c.txs place None ≡ t → entries_below c id (place + 1) ≡ entries_below c id place ++ entries_of c id place t
entries_next c id place t e = ap (entries_below c id) (add-one place) ∙ ap (λ (u : Option Transaction). entries_below c id place ++ entries_of c id place u) e

-- nothing is said of it
told_same : (c : Course) (place : ℕ) (t : Option Transaction) (s : Told) → get_or c.txs place None ≡ t → entries_of c s.id place t ≡ [] → account_before c (place + 1) s.id ≡ account_before c place s.id
    → IsToldTo c place s → IsToldTo c (place + 1) s
told_same c place t s e none same h =
    let entries : entries_below c s.id (place + 1) ≡ entries_below c s.id place = entries_next c s.id place t e ∙ ap (λ (xs : List Entry). entries_below c s.id place ++ xs) none ∙ append-nil (entries_below c s.id place) in
    record {
      account = h.account ∙ sym same;
      blank = (
        (λ yes. let b = h.blank.0 yes in (b.0, entries ∙ b.1)),
        (λ b. h.blank.1 (b.0, sym entries ∙ b.1)),
      );
      text = h.text ∙ ap (λ (xs : List Entry). opening_text s.id (account_at c.opening s.id) ++ entries_text xs) (sym entries);
    }

not_empty : {X : Type 0} (xs : List X) (x : X) → xs ++ x ∷ [] ≡ [] → ⊥
not_empty {X} [] x e = absurd cc
not_empty {X} (y ∷ ys) x e = absurd cc

-- an entry says what became of it
told_more : (c : Course) (place : ℕ) (t : Option Transaction) (s : Told) (entry : Entry) (after : Option Account) (text : List ℕ) → get_or c.txs place None ≡ t → entries_of c s.id place t ≡ entry ∷ []
    → after ≡ account_before c (place + 1) s.id → text ≡ s.text ++ (entry_text entry ++ 10 ∷ []) → IsToldTo c place s
    → IsToldTo c (place + 1) (record { id = s.id; account = after; place = s.place; is_blank = false; text = text })
told_more c place t s entry after text e one is grown h =
    let entries : entries_below c s.id (place + 1) ≡ entries_below c s.id place ++ entry ∷ [] = entries_next c s.id place t e ∙ ap (λ (xs : List Entry). entries_below c s.id place ++ xs) one in
    record {
      account = is;
      blank = (
        (λ yes. absurd (false≢true yes)),
        (λ b. absurd (not_empty (entries_below c s.id place) entry (sym entries ∙ b.1))),
      );
      text = grown ∙ ap (λ (u : List ℕ). u ++ (entry_text entry ++ 10 ∷ [])) h.text
          ∙ flat_map_more (λ (x : Entry). entry_text x ++ 10 ∷ []) (opening_text s.id (account_at c.opening s.id)) (entries_below c s.id place) entry
          ∙ ap (λ (xs : List Entry). opening_text s.id (account_at c.opening s.id) ++ entries_text xs) (sym entries);
    }

-- ---- the account at a place

module _ (c : Course) (place : ℕ) (genesis : AreAccounts c.opening) where
  ledger_before : IsLedger (rows_before c.version c.txs place c.opening)
  ledger_before = ledger_kept_by_fold c.version (take place c.txs) c.opening (ledger_of_accounts c.opening genesis)

  balance_low : (id : ℕ) → balance_of (account_before c place id) < 2 ^ 63
  balance_low id = let below = balance_below (rows_before c.version c.txs place c.opening) id in let total = total_below c.version (take place c.txs) c.opening genesis in omega (arith, below, total)

end_fits : (v : Version) → seq_end v ≤ 2 ^ 64
end_fits One = omega arith
end_fits Two = omega arith

some_end : (v : Version) → 1 < seq_end v
some_end One = omega arith
some_end Two = omega arith

few_before : (txs : List (Option Transaction)) (place : ℕ) → length txs < 2 ^ 32 → length (take place txs) + 1 < 2 ^ 63
few_before txs place few = let shorter = length-take place txs in omega (arith, shorter, few)

seq_low : (c : Course) (place id : ℕ) → AreAccounts c.opening → length c.txs < 2 ^ 32 → seq_of (account_before c place id) + 1 < 2 ^ 64
seq_low c place id genesis few =
    let low = seq_below (seq_end c.version) (rows_before c.version c.txs place c.opening) (some_end c.version) (room_left c.version (take place c.txs) 1 c.opening genesis (few_before c.txs place few)) id in
    let end = end_fits c.version in
    omega (arith, low, end)

-- what was received is a part of what is there
pub new_balance : (a : Option Account) → (unwrap_or a new_account).balance ≡ balance_of a
new_balance None = refl
new_balance (Some x) = refl

room_received : (s : Status) (accounts : Accounts) (t : Transaction) (id : ℕ) (a b : Option Account) → b ≡ after_receiving s (credited_by s accounts t id) a → balance_of b < 2 ^ 63 → balance_of a < 2 ^ 63
    → balance_of a + credited_by s accounts t id < 2 ^ 64
room_received status.Ok accounts t id a b e low old = let all = ap balance_of e in let was = new_balance a in omega (arith, all, was, low)
room_received status.Malformed accounts t id a b e low old = omega (arith, old)
room_received status.Undeclared accounts t id a b e low old = omega (arith, old)
room_received status.Unknown accounts t id a b e low old = omega (arith, old)
room_received status.Stale accounts t id a b e low old = omega (arith, old)
room_received status.Guard accounts t id a b e low old = omega (arith, old)
room_received status.Funds accounts t id a b e low old = omega (arith, old)

-- ---- a transaction that is well formed

-- the accounts before a place
abbrev accounts_before : Course → ℕ → Accounts
accounts_before c place = account_at (rows_before c.version c.txs place c.opening)

module _ (c : Course) (t : Transaction) (r : Receipt) (s : Told) (is : IsPlaceOf c s.place (Some t) r) where
  outcome_is : outcome_at c.version c.txs s.place c.opening ≡ outcome_of c.version (Some t) (rows_before c.version c.txs s.place c.opening)
  outcome_is = ap (λ (u : Option Transaction). outcome_of c.version u (rows_before c.version c.txs s.place c.opening)) is.tx

  status_is : r.status ≡ status_of c.version (accounts_before c s.place) t
  status_is = ap (λ (x : Receipt). x.status) (is.receipt ∙ ap (λ (o : Outcome). o.receipt) outcome_is)

  pub moved_is : r.moved ≡ moved_by r.status (accounts_before c s.place) t
  moved_is = ap (λ (x : Receipt). x.moved) (is.receipt ∙ ap (λ (o : Outcome). o.receipt) outcome_is) ∙ ap (λ (x : Status). moved_by x (accounts_before c s.place) t) (sym status_is)

  next_account : account_before c (s.place + 1) s.id ≡ account_after (changes_of r.status (accounts_before c s.place) t) s.id (account_before c s.place s.id)
  next_account =
      ap (λ (rs : List Row). account_at rs s.id) (rows_of_place c.version c.txs s.place c.opening is.low ∙ ap (λ (o : Outcome). o.after) outcome_is)
      ∙ rule_of_rows c.version t (rows_before c.version c.txs s.place c.opening) s.id (ledger_before c s.place is.accounts)
      ∙ ap (λ (x : Status). account_after (changes_of x (accounts_before c s.place) t) s.id (account_before c s.place s.id)) (sym status_is)

  -- the account plays no part
  pub told_without : role_in t s.id ≡ None → IsToldOf c s → IsToldTo c (s.place + 1) s
  told_without none h = told_same c s.place (Some t) s is.tx
      (ap (entries_by (entry_with c s.id s.place t (outcome_at c.version c.txs s.place c.opening).receipt)) none)
      (next_account ∙ no_part_after (accounts_before c s.place) t s.id (account_before c s.place s.id) none r.status)
      h

  module _ (sound : IsTransaction t) (part : Role) (plays : role_in t s.id ≡ Some part) (h : IsToldOf c s) where
    follows : account_before c (s.place + 1) s.id ≡ after_part part r.status (amount_by part (moved_by r.status (accounts_before c s.place) t) (credited_by r.status (accounts_before c s.place) t s.id)) (account_before c s.place s.id)
    follows = next_account ∙ part_after (accounts_before c s.place) t s.id (account_before c s.place s.id) sound part plays r.status

    has_room : part ≡ role.In → balance_of (account_before c s.place s.id) + credited_by r.status (accounts_before c s.place) t s.id < 2 ^ 64
    has_room e =
        let got : account_before c (s.place + 1) s.id ≡ after_receiving r.status (credited_by r.status (accounts_before c s.place) t s.id) (account_before c s.place s.id) =
        follows ∙ ap (λ (x : Role). after_part x r.status (amount_by x (moved_by r.status (accounts_before c s.place) t) (credited_by r.status (accounts_before c s.place) t s.id)) (account_before c s.place s.id)) e in
        room_received r.status (accounts_before c s.place) t s.id (account_before c s.place s.id) (account_before c (s.place + 1) s.id) got (balance_low c (s.place + 1) is.accounts s.id) (balance_low c s.place is.accounts s.id)

    module _ (amount : ℕ) (after : Option Account) (text : List ℕ)
        (amount_is : (accounts : Accounts) → r.moved ≡ moved_by r.status accounts t → (part ≡ role.In → credited_by r.status accounts t s.id < 2 ^ 64) → amount ≡ amount_by part r.moved (credited_by r.status accounts t s.id))
        (after_is : seq_of s.account + 1 < 2 ^ 64 → (part ≡ role.In → balance_of s.account + amount < 2 ^ 64) → after ≡ after_part part r.status amount s.account)
        (text_is : text ≡ s.text ++ (entry_text (record { place = s.place; status = r.status; role = part; amount = amount; after = after }) ++ 10 ∷ [])) where
      amount_here : amount ≡ amount_by part r.moved (credited_by r.status (accounts_before c s.place) t s.id)
      amount_here = amount_is (accounts_before c s.place) moved_is (λ e. let room = has_room e in omega (arith, room))

      amount_in : part ≡ role.In → amount ≡ credited_by r.status (accounts_before c s.place) t s.id
      amount_in e = amount_here ∙ ap (λ (x : Role). amount_by x r.moved (credited_by r.status (accounts_before c s.place) t s.id)) e

      after_here : after ≡ account_before c (s.place + 1) s.id
      after_here =
          after_is
          (subst (λ (a : Option Account). seq_of a + 1 < 2 ^ 64) (sym h.account) (seq_low c s.place s.id is.accounts is.few))
          (λ e. let room = has_room e in let same = amount_in e in let was = ap balance_of h.account in omega (arith, room, same, was))
          ∙ (λ i. after_part part r.status (amount_here i) (h.account i))
          ∙ ap (λ (m : ℕ). after_part part r.status (amount_by part m (credited_by r.status (accounts_before c s.place) t s.id)) (account_before c s.place s.id)) moved_is
          ∙ sym follows

      entry_is : entries_of c s.id s.place (Some t) ≡ record { place = s.place; status = r.status; role = part; amount = amount; after = after } ∷ []
      entry_is =
          ap (entries_by (entry_with c s.id s.place t (outcome_at c.version c.txs s.place c.opening).receipt)) plays
          ∙ ap (λ (x : Receipt). entry_with c s.id s.place t x part ∷ []) (sym is.receipt)
          ∙ (λ i. record { place = s.place; status = r.status; role = part; amount = sym amount_here i; after = sym after_here i } ∷ [])

      pub told_with : IsToldTo c (s.place + 1) (record { id = s.id; account = after; place = s.place; is_blank = false; text = text })
      told_with = told_more c s.place (Some t) s (record { place = s.place; status = r.status; role = part; amount = amount; after = after }) after text is.tx entry_is after_here text_is h

-- ---- one that is not

pub told_malformed : (c : Course) (r : Receipt) (s : Told) → IsPlaceOf c s.place None r → IsToldOf c s → IsToldTo c (s.place + 1) s
told_malformed c r s is h = told_same c s.place None s is.tx refl
    (ap (λ (rs : List Row). account_at rs s.id) (rows_of_place c.version c.txs s.place c.opening is.low ∙ ap (λ (u : Option Transaction). (outcome_of c.version u (rows_before c.version c.txs s.place c.opening)).after) is.tx))
    h
