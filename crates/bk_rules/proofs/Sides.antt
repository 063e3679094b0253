-- Accounts side by side: what is read at an index, and what a write there does.
use Rattle.std.proofs.Common.{◌≡◌, ℕ, zero, suc, ◌+◌, ◌-◌, ◌<◌, Bool, true, false, cond, List, [], ◌∷◌, length, get_or, set, Option, Some, None, is_some, unwrap_or, refl, sym, ap, ap₂, ◌∙◌, arith}
use Rattle.std.proofs.lemmas.List.{same_lists, get_or_default}
use Rattle.bk_rules.specs.declared.account.Account.{Account}
use Rattle.bk_rules.specs.View.{nth}
use Rattle.bk_rules.specs.private.Sides.{side_by_side}
use Rattle.bk_rules.specs.Rule.{balance_of, seq_of, sent, received, new_account}

-- an account by what is in the three lists
abbrev pub entry : Bool → ℕ → ℕ → Option Account
entry b x s = cond b (Some (record { balance = x; seq = s })) None

-- three lists of one length
pub nth-side_by_side : (there : List Bool) (balances seqs : List ℕ) (k : ℕ) (b : Bool) → k < length there → length balances ≡ length there → length seqs ≡ length there → nth (side_by_side there balances seqs) k ≡ entry (get_or there k b) (get_or balances k 0) (get_or seqs k 0)
nth-side_by_side [] balances seqs k b low e f = absurd (omega arith)
nth-side_by_side (h ∷ there) [] seqs k b low e f = absurd (omega arith)
nth-side_by_side (h ∷ there) (x ∷ balances) [] k b low e f = absurd (omega arith)
nth-side_by_side (h ∷ there) (x ∷ balances) (s ∷ seqs) zero b low e f = refl
nth-side_by_side (h ∷ there) (x ∷ balances) (s ∷ seqs) (suc k) b low e f = nth-side_by_side there balances seqs k b (omega arith) (omega arith) (omega arith)

-- a write in each
pub set-side_by_side : (there : List Bool) (balances seqs : List ℕ) (k : ℕ) (b : Bool) (x s : ℕ) → k < length there → length balances ≡ length there → length seqs ≡ length there → side_by_side (set there k b) (set balances k x) (set seqs k s) ≡ set (side_by_side there balances seqs) k (entry b x s)
set-side_by_side [] balances seqs k b x s low e f = absurd (omega arith)
set-side_by_side (h ∷ there) [] seqs k b x s low e f = absurd (omega arith)
set-side_by_side (h ∷ there) (y ∷ balances) [] k b x s low e f = absurd (omega arith)
set-side_by_side (h ∷ there) (y ∷ balances) (z ∷ seqs) zero b x s low e f = refl
set-side_by_side (h ∷ there) (y ∷ balances) (z ∷ seqs) (suc k) b x s low e f = ap (λ (more : List (Option Account)). entry h y z ∷ more) (set-side_by_side there balances seqs k b x s (omega arith) (omega arith) (omega arith))

-- the same of the value that contracts see
module _ (there : List Bool) (balances seqs : List ℕ) (view : List (Option Account)) (is : side_by_side there balances seqs ≡ view) (e : length there ≡ 8) (f : length balances ≡ 8) (g : length seqs ≡ 8) (k : ℕ) (low : k < 8) where
  pub read_here : entry (get_or there k false) (get_or balances k 0) (get_or seqs k 0) ≡ nth view k
  read_here = sym (nth-side_by_side there balances seqs k false (omega arith) (omega arith) (omega arith)) ∙ ap (λ (v : List (Option Account)). nth v k) is

  pub read_there : get_or there k false ≡ true → entry true (get_or balances k 0) (get_or seqs k 0) ≡ nth view k
  read_there h = ap (λ (b : Bool). entry b (get_or balances k 0) (get_or seqs k 0)) (sym h) ∙ read_here

  pub read_absent : get_or there k false ≡ false → None ≡ nth view k
  read_absent h = ap (λ (b : Bool). entry b (get_or balances k 0) (get_or seqs k 0)) (sym h) ∙ read_here

  pub flag_here : get_or there k false ≡ is_some (nth view k)
  flag_here = by_flag (get_or there k false) ∙ ap (λ (o : Option Account). is_some o) read_here
    where
      by_flag : (b : Bool) → b ≡ is_some (entry b (get_or balances k 0) (get_or seqs k 0))
      by_flag true = refl
      by_flag false = refl

  pub put_here : (x s : ℕ) → side_by_side (set there k true) (set balances k x) (set seqs k s) ≡ set view k (entry true x s)
  put_here x s = set-side_by_side there balances seqs k true x s (omega arith) (omega arith) (omega arith) ∙ ap (λ (v : List (Option Account)). set v k (entry true x s)) is

-- an account by its numbers
pub entry_of : (o : Option Account) → entry (is_some o) (unwrap_or o new_account).balance (unwrap_or o new_account).seq ≡ o
entry_of None = refl
entry_of (Some a) = refl

pub set_here : (there : List Bool) (balances seqs : List ℕ) (view : List (Option Account)) → side_by_side there balances seqs ≡ view → length there ≡ 8 → length balances ≡ 8 → length seqs ≡ 8 → (k : ℕ) → k < 8 → (o : Option Account) (b : Bool) (a : Account) → b ≡ is_some o → a ≡ unwrap_or o new_account → side_by_side (set there k b) (set balances k a.balance) (set seqs k a.seq) ≡ set view k o
set_here there balances seqs view is e f g k low o b a eb ea =
    set-side_by_side there balances seqs k b a.balance a.seq (omega arith) (omega arith) (omega arith)
    ∙ ap₂ (λ (v : List (Option Account)) (x : Option Account). set v k x) is (ap₂ (λ (c : Bool) (d : Account). entry c d.balance d.seq) eb ea ∙ entry_of o)

-- eight accounts that agree are the same
pub same_views : (xs ys : List (Option Account)) → length xs ≡ length ys → ((k : ℕ) → k < length xs → nth xs k ≡ nth ys k) → xs ≡ ys
same_views xs ys same agree = same_lists xs ys same (λ k d low. get_or_default xs k d None low ∙ agree k low ∙ get_or_default ys k None d (omega arith))

-- an account, or a new one, by its numbers
pub numbers_of : (o : Option Account) → record { balance = balance_of o; seq = seq_of o } ≡ unwrap_or o new_account
numbers_of None = refl
numbers_of (Some a) = refl

-- eight of them
pub length-side_by_side : (there : List Bool) (balances seqs : List ℕ) → length balances ≡ length there → length seqs ≡ length there → length (side_by_side there balances seqs) ≡ length there
length-side_by_side [] balances seqs e f = refl
length-side_by_side (h ∷ there) [] seqs e f = absurd (omega arith)
length-side_by_side (h ∷ there) (x ∷ balances) [] e f = absurd (omega arith)
length-side_by_side (h ∷ there) (x ∷ balances) (s ∷ seqs) e f = ap suc (length-side_by_side there balances seqs (omega arith) (omega arith))

pub eight : (there : List Bool) (balances seqs : List ℕ) (view : List (Option Account)) → side_by_side there balances seqs ≡ view → length there ≡ 8 → length balances ≡ 8 → length seqs ≡ 8 → length view ≡ 8
eight there balances seqs view is e f g = let wide = length-side_by_side there balances seqs (omega arith) (omega arith) in let same = ap (λ (v : List (Option Account)). length v) is in omega arith

-- what the two changes write
pub after_send : (view new : List (Option Account)) (k paid b s : ℕ) → b ≡ balance_of (nth view k) → s ≡ seq_of (nth view k) → new ≡ set view k (Some (record { balance = b - paid; seq = s + 1 })) → new ≡ set view k (Some (sent paid (unwrap_or (nth view k) new_account)))
after_send view new k paid b s eb es made = made ∙ ap₂ (λ (x y : ℕ). set view k (Some (record { balance = x - paid; seq = y + 1 }))) eb es ∙ ap (λ (a : Account). set view k (Some (sent paid a))) (numbers_of (nth view k))

pub after_receive : (view new : List (Option Account)) (k amount b s : ℕ) → b ≡ balance_of (nth view k) → s ≡ seq_of (nth view k) → new ≡ set view k (Some (record { balance = b + amount; seq = s })) → new ≡ set view k (Some (received amount (unwrap_or (nth view k) new_account)))
after_receive view new k amount b s eb es made = made ∙ ap₂ (λ (x y : ℕ). set view k (Some (record { balance = x + amount; seq = y }))) eb es ∙ ap (λ (a : Account). set view k (Some (received amount a))) (numbers_of (nth view k))
