-- Accounts as words, and the accounts that words say.
use Rattle.std.proofs.Common.{◌≡◌, ◌⊎◌, inl, inr, ⊎_elim, ℕ, zero, suc, ◌+◌, ◌*◌, ◌<◌, List, [], ◌∷◌, length, get_or, Option, None, Some, refl, sym, ap, ◌∙◌, arith}
use Rattle.bk_base.specs.declared.version.Version.{Version}
use Rattle.bk_tx.specs.Transaction.{Transaction}
use Rattle.bk_rules.specs.declared.account.Account.{Account}
use Rattle.bk_rules.specs.Rule.{Accounts, account_after}
use Rattle.bk_rules.specs.Laws.{AgreeOn}
use Rattle.bk_rules.specs.Ledger.{numbers_of, shown_by}
use Rattle.bk_rules.proofs.Locality.{sees_declared_alone}
use Rattle.bk_conflicts.specs.SceneOf.{word_by, account_from, accounts_by, accounts_after, status_on, moved_on}
use Rattle.bk_conflicts.specs.Words.{slot_of}
use Rattle.bk_conflicts.proofs.Accessed.{slot_there}

-- the two words of a slot
pub word_at : (slots : List ℕ) (accounts : Accounts) (a : ℕ) → a < length slots
    → (word_by slots accounts (2 * a) ≡ (numbers_of (accounts (get_or slots a 0))).balance) × (word_by slots accounts (2 * a + 1) ≡ (numbers_of (accounts (get_or slots a 0))).seq)
word_at [] accounts a l = absurd (omega arith)
word_at (i ∷ slots) accounts zero l = (refl, refl)
word_at (i ∷ slots) accounts (suc a) l = let ih = word_at slots accounts a (omega arith) in (
  ap (word_by (i ∷ slots) accounts) (let e : 2 * suc a ≡ suc (suc (2 * a)) = omega arith in e) ∙ ih.0,
  ap (word_by (i ∷ slots) accounts) (let e : 2 * suc a + 1 ≡ suc (suc (2 * a + 1)) = omega arith in e) ∙ ih.1,
)

-- accounts that agree where the word is have one word there
pub word_same : (slots : List ℕ) (A B : Accounts) (x : ℕ) → ((a : ℕ) → a < length slots → (x ≡ 2 * a) ⊎ (x ≡ 2 * a + 1) → A (get_or slots a 0) ≡ B (get_or slots a 0)) → word_by slots A x ≡ word_by slots B x
word_same [] A B x h = refl
word_same (i ∷ slots) A B zero h = ap (λ (o : Option Account). (numbers_of o).balance) (h 0 (omega arith) (inl (omega arith)))
word_same (i ∷ slots) A B (suc zero) h = ap (λ (o : Option Account). (numbers_of o).seq) (h 0 (omega arith) (inr (omega arith)))
word_same (i ∷ slots) A B (suc (suc x)) h = word_same slots A B x (λ a l e. h (suc a) (omega arith) (⊎_elim (λ z. inl (omega arith)) (λ z. inr (omega arith)) e))

-- what the words of accounts say of a slot
pub said_is : (v : Version) (slots : List ℕ) (accounts : Accounts) (id a : ℕ) → slot_of slots id ≡ Some a → accounts_by v slots (word_by slots accounts) id ≡ shown_by v (numbers_of (accounts id))
said_is v slots accounts id a e =
    let here = slot_there slots id a e in
    let w = word_at slots accounts a here.inside in
    ap (account_from v (word_by slots accounts)) e
    ∙ (ap (shown_by v) (λ i. record { balance = w.0 i; seq = w.1 i })
    ∙ ap (λ (k : ℕ). shown_by v (numbers_of (accounts k))) here.id_is)

-- words that agree on the words of a slot say one account
pub said_same : (v : Version) (slots : List ℕ) (f g : ℕ → ℕ) (id : ℕ) → ((a : ℕ) → slot_of slots id ≡ Some a → (f (2 * a) ≡ g (2 * a)) × (f (2 * a + 1) ≡ g (2 * a + 1))) → accounts_by v slots f id ≡ accounts_by v slots g id
said_same v slots f g id h = at (slot_of slots id) refl
  where
    at : (o : Option ℕ) → slot_of slots id ≡ o → account_from v f (slot_of slots id) ≡ account_from v g (slot_of slots id)
    at None e = ap (account_from v f) e ∙ sym (ap (account_from v g) e)
    at (Some a) e = ap (account_from v f) e ∙ (ap (shown_by v) (λ i. record { balance = (h a e).0 i; seq = (h a e).1 i }) ∙ sym (ap (account_from v g) e))

-- ---- a transaction does the same on accounts that agree where it declares them

pub record DoesSame (v : Version) (o : Option Transaction) (A B : Accounts) : Type 0 where
  pub after : (id : ℕ) → A id ≡ B id → accounts_after v o A id ≡ accounts_after v o B id
  pub status : status_on v o A ≡ status_on v o B
  pub moved : moved_on v o A ≡ moved_on v o B

pub does_same : (v : Version) (o : Option Transaction) (A B : Accounts) → ((t : Transaction) → o ≡ Some t → AgreeOn t A B) → DoesSame v o A B
does_same v None A B h = record { after = λ id e. e; status = refl; moved = refl }
does_same v (Some t) A B h = let same = sees_declared_alone v t A B (h t refl) in record {
  after = λ id e. λ i. account_after (same.changes i) id (e i);
  status = same.statuses;
  moved = same.moved;
}
