-- Where the words of a declared account are among those of all.
use Rattle.std.proofs.Common.{◌≡◌, ℕ, zero, suc, ◌+◌, ◌*◌, ◌/◌, ◌<◌, ◌≤◌, List, [], ◌∷◌, ◌++◌, length, get_or, set, Bool, Option, None, Some, refl, sym, ap, ◌∙◌, arith, length-set, get_or-set_other, get_or-set_same}
use mathlib.Core.Logic.{dite}
use Rattle.std.proofs.Math.Nat.{mul-div_cancel_left}
use native.Mathlib.Decide.{ℕ_discrete}
use Rattle.bk_base.specs.declared.version.Version.{Version}
use Rattle.bk_tx.specs.declared.declared.Declared.{Declared}
use Rattle.bk_rules.specs.declared.account.Account.{Account}
use Rattle.bk_rules.specs.Rule.{Accounts}
use Rattle.bk_rules.specs.Ledger.{numbers_of, shown_by}
use Rattle.bk_rules.specs.View.{nth, nth_id}
use Rattle.bk_conflicts.specs.Words as places
use Rattle.bk_conflicts.specs.Words.{slot_of}
use Rattle.bk_conflicts.specs.declared.words.WordRef.{WordRef}
use Rattle.bk_conflicts.specs.SceneOf.{word_by, accounts_by, account_from}
use Rattle.bk_conflicts.proofs.Accessed.{slot_there}
use Rattle.bk_conflicts.proofs.Said as said
use Rattle.bk_steps.specs.Machine.{no_word}
use Rattle.bk_steps.specs.Settling.{wide, words_in, words_before, word_in, said_at, put_at, Say, AreOf}

pub wide_most : (o : Option ℕ) → wide o ≤ 2
wide_most None = omega arith
wide_most (Some s) = omega arith

pub next_word : (slots : List ℕ) (ds : List Declared) (k : ℕ) → k < length ds → words_before slots ds (suc k) ≡ words_before slots ds k + wide (slot_of slots (nth_id ds k))
next_word slots [] k l = absurd (omega arith)
next_word slots (d ∷ ds) zero l = omega arith
next_word slots (d ∷ ds) (suc k) l = let ih = next_word slots ds k (omega arith) in omega arith

length-one : (w : Bool) (o : Option ℕ) (rest : List WordRef) → length (places.words_in w o ++ rest) ≡ wide o + length rest
length-one w None rest = omega arith
length-one w (Some a) rest = omega arith

pub room_here : (slots : List ℕ) (ds : List Declared) (k : ℕ) → k < length ds → words_before slots ds k + wide (slot_of slots (nth_id ds k)) ≤ length (words_in slots ds)
room_here slots [] k l = absurd (omega arith)
room_here slots (d ∷ ds) zero l = let e = length-one d.writable (slot_of slots d.id) (words_in slots ds) in omega arith
room_here slots (d ∷ ds) (suc k) l = let e = length-one d.writable (slot_of slots d.id) (words_in slots ds) in let ih = room_here slots ds k (omega arith) in omega arith

pub words_all : (slots : List ℕ) (ds : List Declared) → words_before slots ds (length ds) ≡ length (words_in slots ds)
words_all slots [] = refl
words_all slots (d ∷ ds) = let e = length-one d.writable (slot_of slots d.id) (words_in slots ds) in let ih = words_all slots ds in omega arith

skip : (w : Bool) (o : Option ℕ) (rest : List WordRef) (i j : ℕ) → i ≡ wide o + j → (get_or (places.words_in w o ++ rest) i no_word).word ≡ (get_or rest j no_word).word
skip w None rest i j e = ap (λ (k : ℕ). (get_or rest k no_word).word) (let z : i ≡ j = omega arith in z)
skip w (Some a) rest i j e = ap (λ (k : ℕ). (get_or (places.words_in w (Some a) ++ rest) k no_word).word) (let z : i ≡ suc (suc j) = omega arith in z)

pub words_here : (slots : List ℕ) (ds : List Declared) (k s : ℕ) → k < length ds → slot_of slots (nth_id ds k) ≡ Some s
    → (word_in slots ds (words_before slots ds k) ≡ 2 * s) × (word_in slots ds (words_before slots ds k + 1) ≡ 2 * s + 1)
words_here slots [] k s l e = absurd (omega arith)
words_here slots (d ∷ ds) zero s l e = (
  ap (λ (o : Option ℕ). (get_or (places.words_in d.writable o ++ words_in slots ds) 0 no_word).word) e,
  ap (λ (o : Option ℕ). (get_or (places.words_in d.writable o ++ words_in slots ds) 1 no_word).word) e,
)
words_here slots (d ∷ ds) (suc k) s l e = let ih = words_here slots ds k s (omega arith) e in let n = words_before slots ds k in (
  skip d.writable (slot_of slots d.id) (words_in slots ds) (wide (slot_of slots d.id) + n) n refl ∙ ih.0,
  skip d.writable (slot_of slots d.id) (words_in slots ds) (wide (slot_of slots d.id) + n + 1) (n + 1) (omega arith) ∙ ih.1,
)

-- ---- where each declared account has words

two_at_most : (slots : List ℕ) (ds : List Declared) → length (words_in slots ds) ≤ 2 * length ds
two_at_most slots [] = omega arith
two_at_most slots (d ∷ ds) = let e = length-one d.writable (slot_of slots d.id) (words_in slots ds) in let w = wide_most (slot_of slots d.id) in let ih = two_at_most slots ds in omega arith

pub all_slots : (slots : List ℕ) (ds : List Declared) → length (words_in slots ds) ≡ 2 * length ds → (k : ℕ) → k < length ds → (s : ℕ) × (slot_of slots (nth_id ds k) ≡ Some s)
all_slots slots [] whole k l = absurd (omega arith)
all_slots slots (d ∷ ds) whole zero l = at (slot_of slots d.id) refl
  where
    at : (o : Option ℕ) → slot_of slots d.id ≡ o → (s : ℕ) × (slot_of slots d.id ≡ Some s)
    at None e = let one = length-one d.writable (slot_of slots d.id) (words_in slots ds) in let none : wide (slot_of slots d.id) ≡ 0 = ap wide e in let most = two_at_most slots ds in absurd (omega arith)
    at (Some s) e = (s, e)
all_slots slots (d ∷ ds) whole (suc k) l = let one = length-one d.writable (slot_of slots d.id) (words_in slots ds) in let w = wide_most (slot_of slots d.id) in let most = two_at_most slots ds in
    all_slots slots ds (omega arith) k (omega arith)

-- the slot is half of the first of its words
pub slot_by_word : (slots : List ℕ) (ds : List Declared) (words : List WordRef) (k at slot : ℕ) → k < length ds → words ≡ words_in slots ds → length words ≡ 2 * length ds → at ≡ words_before slots ds k
    → slot ≡ (get_or words at no_word).word / 2 → Some slot ≡ slot_of slots (nth_id ds k)
slot_by_word slots ds words k at slot l is whole here e =
    let there = all_slots slots ds (ap length (sym is) ∙ whole) k l in
    let word : (get_or words at no_word).word ≡ 2 * there.0 = (λ i. (get_or (is i) (here i) no_word).word) ∙ (words_here slots ds k there.0 l there.1).0 in
    ap (λ (n : ℕ). Some n) (e ∙ (ap (λ (n : ℕ). n / 2) word ∙ mul-div_cancel_left there.0 (omega arith))) ∙ sym there.1

pub word_inside : (slots : List ℕ) (ds : List Declared) (words : List WordRef) (k at : ℕ) → k < length ds → words ≡ words_in slots ds → length words ≡ 2 * length ds → at ≡ words_before slots ds k → at < length words
word_inside slots ds words k at l is whole here =
    let there = all_slots slots ds (ap length (sym is) ∙ whole) k l in
    let two : wide (slot_of slots (nth_id ds k)) ≡ 2 = ap wide there.1 in let room = room_here slots ds k l in let same : length words ≡ length (words_in slots ds) = ap length is in omega arith

-- what the values at its index say of an account
pub said_here : (v : Version) (slots : List ℕ) (ds : List Declared) (values : List ℕ) (f : ℕ → ℕ) → Say f slots ds values → (k : ℕ) → k < length ds
    → said_at v (slot_of slots (nth_id ds k)) values (words_before slots ds k) ≡ accounts_by v slots f (nth_id ds k)
said_here v slots ds values f says k l = at (slot_of slots (nth_id ds k)) refl
  where
    at : (o : Option ℕ) → slot_of slots (nth_id ds k) ≡ o → said_at v o values (words_before slots ds k) ≡ account_from v f o
    at None e = refl
    at (Some s) e = let two : wide (slot_of slots (nth_id ds k)) ≡ 2 = ap wide e in let room = room_here slots ds k l in let w = words_here slots ds k s l e in
        let b : get_or values (words_before slots ds k) 0 ≡ f (2 * s) = says (words_before slots ds k) (omega arith) ∙ ap f w.0 in
        let q : get_or values (words_before slots ds k + 1) 0 ≡ f (2 * s + 1) = says (words_before slots ds k + 1) (omega arith) ∙ ap f w.1 in
        ap (shown_by v) (λ j. record { balance = b j; seq = q j })

pub length-put : (o : Option ℕ) (a : Option Account) (values : List ℕ) (n : ℕ) → length (put_at o a values n) ≡ length values
length-put None a values n = refl
length-put (Some s) a values n = length-set (set values n (numbers_of a).balance) (n + 1) (numbers_of a).seq ∙ length-set values n (numbers_of a).balance

-- the values with those of one account more
pub put_here : (slots : List ℕ) (ds : List Declared) (values : List ℕ) (view : List (Option Account)) (accounts : Accounts) → length (words_in slots ds) ≤ length values → AreOf accounts ds view
    → (k : ℕ) → k < length ds → ((i : ℕ) → i < words_before slots ds k → get_or values i 0 ≡ word_by slots accounts (word_in slots ds i))
    → (i : ℕ) → i < words_before slots ds k + wide (slot_of slots (nth_id ds k))
    → get_or (put_at (slot_of slots (nth_id ds k)) (nth view k) values (words_before slots ds k)) i 0 ≡ word_by slots accounts (word_in slots ds i)
put_here slots ds values view accounts long are k l so_far i low = at (slot_of slots (nth_id ds k)) refl low
  where
    at : (o : Option ℕ) → slot_of slots (nth_id ds k) ≡ o → i < words_before slots ds k + wide o → get_or (put_at o (nth view k) values (words_before slots ds k)) i 0 ≡ word_by slots accounts (word_in slots ds i)
    at None e low = so_far i (omega arith)
    at (Some s) e low = let n = words_before slots ds k in let b = (numbers_of (nth view k)).balance in let q = (numbers_of (nth view k)).seq in
        let two : wide (slot_of slots (nth_id ds k)) ≡ 2 = ap wide e in let room = room_here slots ds k l in
        let w = words_here slots ds k s l e in let here = slot_there slots (nth_id ds k) s e in let said = said.word_at slots accounts s here.inside in
        let same : nth view k ≡ accounts (get_or slots s 0) = are k l ∙ ap accounts (sym here.id_is) in
        let once : length (set values n b) ≡ length values = length-set values n b in
        dite (ℕ_discrete i n)
        (λ is. ap (λ (z : ℕ). get_or (set (set values n b) (n + 1) q) z 0) is
        ∙ (get_or-set_other (set values n b) (n + 1) n q 0 (λ z. absurd (omega arith))
        ∙ (get_or-set_same values n b 0 (omega arith)
        ∙ (ap (λ (o : Option Account). (numbers_of o).balance) same ∙ (sym said.0 ∙ (ap (word_by slots accounts) (sym w.0) ∙ ap (λ (z : ℕ). word_by slots accounts (word_in slots ds z)) (sym is)))))))
        (λ other. dite (ℕ_discrete i (n + 1))
        (λ is. ap (λ (z : ℕ). get_or (set (set values n b) (n + 1) q) z 0) is
        ∙ (get_or-set_same (set values n b) (n + 1) q 0 (omega arith)
        ∙ (ap (λ (o : Option Account). (numbers_of o).seq) same ∙ (sym said.1 ∙ (ap (word_by slots accounts) (sym w.1) ∙ ap (λ (z : ℕ). word_by slots accounts (word_in slots ds z)) (sym is))))))
        (λ more. get_or-set_other (set values n b) (n + 1) i q 0 more ∙ (get_or-set_other values n i b 0 other ∙ so_far i (omega arith))))

-- ---- for the loops over the declared accounts

pub no_account : (j : ℕ) → nth (None ∷ None ∷ None ∷ None ∷ None ∷ None ∷ None ∷ None ∷ []) j ≡ None
no_account zero = refl
no_account (suc zero) = refl
no_account (suc (suc zero)) = refl
no_account (suc (suc (suc zero))) = refl
no_account (suc (suc (suc (suc zero)))) = refl
no_account (suc (suc (suc (suc (suc zero))))) = refl
no_account (suc (suc (suc (suc (suc (suc zero)))))) = refl
no_account (suc (suc (suc (suc (suc (suc (suc zero))))))) = refl
no_account (suc (suc (suc (suc (suc (suc (suc (suc j)))))))) = refl

pub room_at : (slots : List ℕ) (ds : List Declared) (k : ℕ) (o : Option ℕ) (at n : ℕ) → k < length ds → o ≡ slot_of slots (nth_id ds k) → at ≡ words_before slots ds k
    → length (words_in slots ds) ≤ n → at + wide o ≤ n
room_at slots ds k o at n l is here few = let r = room_here slots ds k l in let w : wide o ≡ wide (slot_of slots (nth_id ds k)) = ap wide is in omega arith

pub next_at : (slots : List ℕ) (ds : List Declared) (k : ℕ) (o : Option ℕ) (at w : ℕ) → k < length ds → o ≡ slot_of slots (nth_id ds k) → at ≡ words_before slots ds k
    → w ≡ wide o → at + w ≡ words_before slots ds (k + 1)
next_at slots ds k o at w l is here e = let n = next_word slots ds k l in let s : wide o ≡ wide (slot_of slots (nth_id ds k)) = ap wide is in
    let one : words_before slots ds (suc k) ≡ words_before slots ds (k + 1) = ap (words_before slots ds) (let z : suc k ≡ k + 1 = omega arith in z) in omega arith

pub found_more : (v : Version) (slots : List ℕ) (ds : List Declared) (values : List ℕ) (f : ℕ → ℕ) → Say f slots ds values → (k : ℕ) → k < length ds
    → (o : Option ℕ) (at : ℕ) (a : Option Account) (old new : List (Option Account)) → o ≡ slot_of slots (nth_id ds k) → at ≡ words_before slots ds k
    → a ≡ said_at v o values at → k < length old → new ≡ set old k a → ((j : ℕ) → j < k → nth old j ≡ accounts_by v slots f (nth_id ds j))
    → (j : ℕ) → j < k + 1 → nth new j ≡ accounts_by v slots f (nth_id ds j)
found_more v slots ds values f says k l o at a old new is here said low e before j below = dite (ℕ_discrete j k)
    (λ same. ap (λ (z : List (Option Account)). nth z j) e ∙ (ap (nth (set old k a)) same ∙ (get_or-set_same old k a None low
    ∙ (said ∙ ((λ i. said_at v (is i) values (here i)) ∙ (said_here v slots ds values f says k l ∙ ap (λ (z : ℕ). accounts_by v slots f (nth_id ds z)) (sym same)))))))
    (λ other. ap (λ (z : List (Option Account)). nth z j) e ∙ (get_or-set_other old k j a None other ∙ before j (omega arith)))

pub rest_more : (k : ℕ) (a : Option Account) (old new : List (Option Account)) → new ≡ set old k a → ((j : ℕ) → k ≤ j → nth old j ≡ None) → (j : ℕ) → k + 1 ≤ j → nth new j ≡ None
rest_more k a old new e rest j above = ap (λ (z : List (Option Account)). nth z j) e ∙ (get_or-set_other old k j a None (λ z. absurd (omega arith)) ∙ rest j (omega arith))

pub put_more : (slots : List ℕ) (ds : List Declared) (values : List ℕ) (view : List (Option Account)) (accounts : Accounts) → length (words_in slots ds) ≤ length values → AreOf accounts ds view
    → (k : ℕ) → k < length ds → (o : Option ℕ) (at w : ℕ) (a : Option Account) (new : List ℕ) → o ≡ slot_of slots (nth_id ds k) → at ≡ words_before slots ds k → w ≡ wide o
    → a ≡ nth view k → new ≡ put_at o a values at
    → ((i : ℕ) → i < at → get_or values i 0 ≡ word_by slots accounts (word_in slots ds i))
    → (i : ℕ) → i < at + w → get_or new i 0 ≡ word_by slots accounts (word_in slots ds i)
put_more slots ds values view accounts long are k l o at w a new is here width acc e so_far i low =
    let s : wide o ≡ wide (slot_of slots (nth_id ds k)) = ap wide is in
    ap (λ (z : List ℕ). get_or z i 0) e ∙ ((λ j. get_or (put_at (is j) (acc j) values (here j)) i 0)
    ∙ put_here slots ds values view accounts long are k l (λ m h. so_far m (omega arith)) i (omega arith))
