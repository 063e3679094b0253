-- What the words of a closed bank say, where all places are done.
use Rattle.std.proofs.Common.{◌≡◌, ℕ, zero, suc, ◌+◌, ◌-◌, ◌*◌, ◌^◌, ◌<◌, ◌≤◌, List, [], ◌∷◌, ◌++◌, length, take, get_or, set, Option, Some, refl, sym, ap, ◌∙◌, subst, arith, length-append}
use Rattle.std.proofs.lemmas.List.{append-nil, append_assoc, get_or_append_left, get_or-append-add, take_more_set}
use lib.Seq.{get_or-append_seam}
use mathlib.Core.Logic.{dite}
use native.Mathlib.Decide.{ℕ_discrete}
use Rattle.bk_rules.specs.declared.account.Account.{Account}
use Rattle.bk_rules.specs.declared.receipt.Receipt.{Receipt}
use Rattle.bk_rules.specs.declared.receipt.Status.{Status}
use Rattle.bk_rules.specs.declared.receipt.Status.TheVariants as status
use Rattle.bk_rules.specs.Ledger.{Ledger, in_pairs}
use Rattle.bk_rules.proofs.Words.{length-pairs}
use Rattle.bk_rules.specs.Numbers.{number_of, status_with}
use Rattle.bk_conflicts.specs.Plan.{PlanValue}
use Rattle.bk_conflicts.specs.Scene.{status_at, moved_at}
use Rattle.bk_conflicts.specs.SceneOf.{tx_at, accounts_by, status_on}
use Rattle.bk_bank.specs.declared.setting.Setting.{Setting}
use Rattle.bk_bank.specs.Setting.{scene_of, setting_with}
use Rattle.bk_bank.specs.Steps.{Ends}
use Rattle.bk_bank.specs.Bank.{BankData, bank_scene}
use Rattle.bk_bank.specs.Words.{WordsData, state_at, moved_word_at, AllFinished}
use Rattle.bk_bank.proofs.Settings.{scene_places, scene_words}
use Rattle.bk_pool.specs.Outcomes.{IsClosed}
use Rattle.bk_pool.specs.private.Receipts.{receipt_at, no_receipt, AreReceipts, AreAdded, AreStatuses, AreNumbers}

-- ---- statuses by number

pub status_again : (s : Status) → status_with (number_of s) ≡ Some s
status_again status.Ok = refl
status_again status.Malformed = refl
status_again status.Undeclared = refl
status_again status.Unknown = refl
status_again status.Stale = refl
status_again status.Guard = refl
status_again status.Funds = refl

pub number_low : (s : Status) → number_of s < 7
number_low status.Ok = omega arith
number_low status.Malformed = omega arith
number_low status.Undeclared = omega arith
number_low status.Unknown = omega arith
number_low status.Stale = omega arith
number_low status.Guard = omega arith
number_low status.Funds = omega arith

pub found_status : (o : Option Status) (n : ℕ) (s : Status) → o ≡ status_with (n - 2 ^ 63) → n ≡ 2 ^ 63 + number_of s → o ≡ Some s
found_status o n s e h = e ∙ (ap status_with (let z : n - 2 ^ 63 ≡ number_of s = omega arith in z) ∙ status_again s)

-- ---- receipts

scene_status : (g : Setting) (p : ℕ) → (s : Status) × (status_at (scene_of g) p ≡ number_of s)
unfolding scene_of
scene_status g p = (status_on g.plan.version (tx_at g.plan p) (accounts_by g.plan.version g.plan.ids ((scene_of g).fold p)), refl)

pub done_at : (plan : PlanValue) (ledger : Ledger) (w : WordsData) → IsClosed plan ledger w → AllFinished w → (p : ℕ) → p < w.places
    → (state_at w p ≡ 2 ^ 63 + status_at (scene_of (setting_with plan ledger)) p) × (moved_word_at w p ≡ moved_at (scene_of (setting_with plan ledger)) p)
done_at plan ledger w closed all p l = let s = scene_of (setting_with plan ledger) in
    let n = scene_places (setting_with plan ledger) in let places = closed.places in
    let same : w.words ≡ s.words = closed.words ∙ sym (scene_words (setting_with plan ledger)) in
    let at : w.words + 2 * p ≡ s.words + 2 * p = omega arith in
    let next : w.words + 2 * p + 1 ≡ s.words + (2 * p + 1) = omega arith in
    let d = closed.ends.done p (omega arith) (subst (λ (i : ℕ). 2 ^ 63 ≤ get_or w.items i 0) at (all p l)) in
    (ap (λ (i : ℕ). get_or w.items i 0) at ∙ d.0, ap (λ (i : ℕ). get_or w.items i 0) next ∙ d.1)

pub statuses_shown : (plan : PlanValue) (ledger : Ledger) (w : WordsData) → IsClosed plan ledger w → AllFinished w → AreStatuses w
statuses_shown plan ledger w closed all p l = let t = scene_status (setting_with plan ledger) p in (t.0, (done_at plan ledger w closed all p l).0 ∙ ap (λ (n : ℕ). 2 ^ 63 + n) t.1)

-- one receipt more
pub more_receipts : (w : WordsData) (rs : List Receipt) (n : ℕ) (r : Receipt) → AreReceipts w rs n → state_at w n ≡ 2 ^ 63 + number_of r.status → r.moved ≡ moved_word_at w n
    → AreReceipts w (rs ++ r ∷ []) (n + 1)
more_receipts w rs n r (long, each) st mv = (
  omega (arith, length-append rs (r ∷ []), long),
  λ p l. dite (ℕ_discrete p n)
      (λ is. let new : receipt_at (rs ++ r ∷ []) p ≡ r = ap (receipt_at (rs ++ r ∷ [])) (is ∙ sym long) ∙ get_or-append_seam rs r [] no_receipt in (
        ap (state_at w) is ∙ (st ∙ ap (λ (z : Receipt). 2 ^ 63 + number_of z.status) (sym new)),
        ap (λ (z : Receipt). z.moved) new ∙ (mv ∙ ap (moved_word_at w) (sym is)),
      ))
      (λ other. let old : receipt_at (rs ++ r ∷ []) p ≡ receipt_at rs p = get_or_append_left rs (r ∷ []) no_receipt p (omega arith) in
      let e = each p (omega arith) in
      (e.0 ∙ ap (λ (z : Receipt). 2 ^ 63 + number_of z.status) (sym old), ap (λ (z : Receipt). z.moved) old ∙ e.1)),
)

pub none_added : (w : WordsData) (old : List Receipt) → AreAdded w old old 0
none_added w old = record { added = []; new_is = sym (append-nil old); are = (refl, λ p l. absurd (omega arith)) }

pub more_added : (w : WordsData) (old new : List Receipt) (n : ℕ) (r : Receipt) → AreAdded w old new n → state_at w n ≡ 2 ^ 63 + number_of r.status → r.moved ≡ moved_word_at w n
    → AreAdded w old (new ++ r ∷ []) (n + 1)
more_added w old new n r a st mv = record {
  added = a.added ++ r ∷ [];
  new_is = ap (λ (rs : List Receipt). rs ++ r ∷ []) a.new_is ∙ append_assoc old a.added (r ∷ []);
  are = more_receipts w a.added n r a.are st mv;
}

-- ---- numbers

pairs_more : (n : ℕ) (words : List ℕ) (b s : ℕ) → length words ≡ 2 * n → in_pairs (words ++ b ∷ s ∷ []) ≡ in_pairs words ++ record { balance = b; seq = s } ∷ []
pairs_more zero [] b s e = refl
pairs_more zero (x ∷ words) b s e = absurd (omega arith)
pairs_more (suc n) [] b s e = absurd (omega arith)
pairs_more (suc n) (x ∷ []) b s e = absurd (omega arith)
pairs_more (suc n) (x ∷ y ∷ words) b s e = ap (λ (more : List Account). record { balance = x; seq = y } ∷ more) (pairs_more n words b s (omega arith))

pub no_numbers : (w : WordsData) (numbers : List Account) → AreNumbers w (take 0 numbers) 0
no_numbers w numbers = record { words = []; numbers_are = refl; long = refl; same = λ x l. absurd (omega arith) }

-- the numbers of one account more
pub more_numbers : (w : WordsData) (numbers : List Account) (k b s : ℕ) → AreNumbers w numbers (2 * k) → b ≡ get_or w.items (2 * k) 0 → s ≡ get_or w.items (2 * k + 1) 0
    → AreNumbers w (numbers ++ record { balance = b; seq = s } ∷ []) (2 * (k + 1))
more_numbers w numbers k b s h first second = record {
  words = h.words ++ b ∷ s ∷ [];
  numbers_are = ap (λ (xs : List Account). xs ++ record { balance = b; seq = s } ∷ []) h.numbers_are ∙ sym (pairs_more k h.words b s h.long);
  long = let a = length-append h.words (b ∷ s ∷ []) in let e = h.long in omega arith;
  same = λ x l. dite (ℕ_discrete x (2 * k))
      (λ is. ap (λ (i : ℕ). get_or (h.words ++ b ∷ s ∷ []) i 0) (let e = h.long in let z : x ≡ length h.words + 0 = omega arith in z) ∙ (get_or-append-add h.words (b ∷ s ∷ []) 0 0 ∙ (first ∙ ap (λ (i : ℕ). get_or w.items i 0) (sym is))))
      (λ other. dite (ℕ_discrete x (2 * k + 1))
      (λ is. ap (λ (i : ℕ). get_or (h.words ++ b ∷ s ∷ []) i 0) (let e = h.long in let z : x ≡ length h.words + 1 = omega arith in z) ∙ (get_or-append-add h.words (b ∷ s ∷ []) 1 0 ∙ (second ∙ ap (λ (i : ℕ). get_or w.items i 0) (sym is))))
      (λ more. let low : x < 2 * k = omega arith in get_or_append_left h.words (b ∷ s ∷ []) 0 x (let e = h.long in omega arith) ∙ h.same x low));
}

-- the same, where they are written over others
pub more_written : (w : WordsData) (numbers : List Account) (k b s : ℕ) → k < length numbers → AreNumbers w (take k numbers) (2 * k) → b ≡ get_or w.items (2 * k) 0 → s ≡ get_or w.items (2 * k + 1) 0
    → AreNumbers w (take (k + 1) (set numbers k (record { balance = b; seq = s }))) (2 * (k + 1))
more_written w numbers k b s low h first second = subst (λ (xs : List Account). AreNumbers w xs (2 * (k + 1))) (sym (take_more_set numbers k (record { balance = b; seq = s }) low))
    (more_numbers w (take k numbers) k b s h first second)

pub numbers_long : (w : WordsData) (numbers : List Account) (n : ℕ) → AreNumbers w numbers (2 * n) → length numbers ≡ n
numbers_long w numbers n h = ap length h.numbers_are ∙ length-pairs n h.words h.long

-- ---- words

pub last_words : (plan : PlanValue) (ledger : Ledger) (w : WordsData) → IsClosed plan ledger w → AllFinished w → (xs : List ℕ) → length xs ≡ w.words
    → ((x : ℕ) → x < w.words → get_or xs x 0 ≡ get_or w.items x 0)
    → (x : ℕ) → x < length xs → get_or xs x 0 ≡ (scene_of (setting_with plan ledger)).fold (length plan.txs) x
last_words plan ledger w closed all xs long same x l = let g = setting_with plan ledger in let s = scene_of g in
    let places = closed.places in let n = scene_places g in let m = scene_words g in let words = closed.words in
    let ws : w.words ≡ s.words = words ∙ sym m in
    same x (omega arith) ∙ (closed.ends.all (λ p k. subst (λ (i : ℕ). 2 ^ 63 ≤ get_or w.items i 0) (let at : w.words + 2 * p ≡ s.words + 2 * p = omega arith in at) (all p (omega arith))) x (omega arith)
    ∙ ap (λ (k : ℕ). s.fold k x) n)

-- ---- banks

pub closed_of : (plan : PlanValue) (ledger : Ledger) (b : BankData) (w : WordsData) → b.setting ≡ setting_with plan ledger → Ends (bank_scene b) w.items
    → (w.words ≡ (bank_scene b).words) × (w.places ≡ (bank_scene b).places) → IsClosed plan ledger w
closed_of plan ledger b w is ends size = record {
  ends = subst (λ (g : Setting). Ends (scene_of g) w.items) is ends;
  words = size.0 ∙ (ap (λ (g : Setting). (scene_of g).words) is ∙ scene_words (setting_with plan ledger));
  places = size.1 ∙ (ap (λ (g : Setting). (scene_of g).places) is ∙ scene_places (setting_with plan ledger));
}
