-- What the rule makes of what a worker has read.
use Rattle.std.proofs.Common.{◌≡◌, ◌≢◌, ⊎_elim, ℕ, ◌+◌, ◌<◌, ◌≤◌, List, length, get_or, set, true, false, Option, None, Some, is_some, unwrap_or, refl, sym, ap, ◌∙◌, subst, arith}
use Rattle.std.proofs.lemmas.Bool.{cases_eq}
use Rattle.std.proofs.lemmas.List.{get_or-set_same, get_or-set_other}
use Rattle.bk_rules.specs.declared.receipt.Receipt.{Receipt}
use Rattle.bk_rules.specs.Numbers.{number_of}
use Rattle.bk_conflicts.specs.Conflicts.{declared_at}
use Rattle.bk_conflicts.specs.Plan.{PlanValue}
use Rattle.bk_conflicts.specs.SceneOf.{tx_at, reads_word}
use Rattle.bk_conflicts.specs.Words.{words_at}
use Rattle.bk_steps.specs.Course.{HasRead, found}
use Rattle.bk_steps.specs.Machine.{MachineValue, scene_in, seat_at, SeatIs, NotedIs, AreNotes, word_at, IsMachine}
use Rattle.bk_steps.specs.Settling.{Say, AreLow, Does}
use Rattle.bk_steps.proofs.Found.{found_fold}
use Rattle.bk_steps.proofs.Hands.{busy_shown}
use Rattle.bk_steps.proofs.Noted.{word_is, word_in}
use Rattle.bk_steps.proofs.Settled.{low_before}

some_read : (x : ℕ) (o : Option ℕ) (rs : List (ℕ × ℕ)) → NotedIs x o rs → is_some o ≡ true → HasRead rs x
some_read x None rs h e = absurd (cc)
some_read x (Some v) rs h e = h.0

none_read : (x : ℕ) (o : Option ℕ) (rs : List (ℕ × ℕ)) → NotedIs x o rs → is_some o ≡ false → ¬ HasRead rs x
none_read x None rs h e = h
none_read x (Some v) rs h e = absurd (cc)

some_found : (x : ℕ) (o : Option ℕ) (rs : List (ℕ × ℕ)) → NotedIs x o rs → is_some o ≡ true → unwrap_or o 0 ≡ found rs x
some_found x None rs h e = absurd (cc)
some_found x (Some v) rs h e = sym h.1

-- every word of the place is noted
abbrev pub AllNoted : PlanValue → ℕ → List (Option ℕ) → Type 0
AllNoted plan p read = (k : ℕ) → k < length (words_at plan.ids plan.txs p) → is_some (get_or read k None) ≡ true

-- a word of the place is not noted
abbrev pub OneMissing : PlanValue → ℕ → List (Option ℕ) → Type 0
OneMissing plan p read = (k : ℕ) × (k < length (words_at plan.ids plan.txs p)) × (is_some (get_or read k None) ≡ false)

-- the values are those that are noted
abbrev pub AreNoted : List (Option ℕ) → List ℕ → Type 0
AreNoted read values = (k : ℕ) → k < 16 → get_or values k 0 ≡ unwrap_or (get_or read k None) 0

pub noted_more : (read : List (Option ℕ)) (values : List ℕ) (k r : ℕ) → length values ≡ 16 → k < 16 → r ≡ unwrap_or (get_or read k None) 0
    → ((j : ℕ) → j < k → get_or values j 0 ≡ unwrap_or (get_or read j None) 0)
    → (j : ℕ) → j < k + 1 → get_or (set values k r) j 0 ≡ unwrap_or (get_or read j None) 0
noted_more read values k r long l e before j m = ⊎_elim
    (λ (is : j ≡ k). ap (λ (i : ℕ). get_or (set values k r) i 0) is ∙ (get_or-set_same values k r 0 (omega arith) ∙ (e ∙ ap (λ (i : ℕ). unwrap_or (get_or read i None) 0) (sym is))))
    (λ (other : j ≢ k). get_or-set_other values k j r 0 other ∙ before j (omega arith))
    (cases_eq j k)

pub all_read : (plan : PlanValue) (p : ℕ) (read : List (Option ℕ)) (rs : List (ℕ × ℕ)) → AreNotes plan p read rs → AllNoted plan p read
    → (x : ℕ) → reads_word plan.ids plan.txs p x ≡ true → HasRead rs x
all_read plan p read rs notes all x e = let k = word_in plan p x e in
    subst (HasRead rs) k.2 (some_read (word_at plan p k.0) (get_or read k.0 None) rs (notes k.0 k.1) (all k.0 k.1))

pub not_all_read : (plan : PlanValue) (p : ℕ) (read : List (Option ℕ)) (rs : List (ℕ × ℕ)) → AreNotes plan p read rs → OneMissing plan p read
    → ¬ ((x : ℕ) → reads_word plan.ids plan.txs p x ≡ true → HasRead rs x)
not_all_read plan p read rs notes (k, l, e) all = none_read (word_at plan p k) (get_or read k None) rs (notes k l) e
    (all (word_at plan p k) (word_is plan p (word_at plan p k) k l refl))

-- the values are what was read
pub says_found : (plan : PlanValue) (p : ℕ) (read : List (Option ℕ)) (rs : List (ℕ × ℕ)) (values : List ℕ) → length (words_at plan.ids plan.txs p) ≤ 16
    → AreNotes plan p read rs → AllNoted plan p read → AreNoted read values → Say (found rs) plan.ids (declared_at plan.txs p) values
says_found plan p read rs values few notes all are i l =
    are i (omega arith) ∙ some_found (word_at plan p i) (get_or read i None) rs (notes i l) (all i l)

-- and leave room for the transaction
pub low_values : (m : MachineValue) (w p : ℕ) (values : List ℕ) → IsMachine m → (seat_at m w).place ≡ Some p → length (words_at m.plan.ids m.plan.txs p) ≤ 16
    → AllNoted m.plan p (seat_at m w).read → AreNoted (seat_at m w).read values → AreLow m.plan.version m.plan.ids (declared_at m.plan.txs p) values
low_values m w p values z at few all are =
    let t = z.course in
    let h = busy_shown m.plan (seat_at m w) p (t.0.hand w) (t.2.hands w) at in
    let s = subst (SeatIs m.plan (seat_at m w)) h.2 (t.2.hands w) in
    let read = all_read m.plan p (seat_at m w).read h.0 s.1 all in (
      (scene_in m).fold p,
      λ i l. says_found m.plan p (seat_at m w).read h.0 values few s.1 all are i l
          ∙ found_fold (scene_in m) p h.0 (word_at m.plan p i) (t.1.reads w p h.0 h.1 h.2) (read (word_at m.plan p i) (word_is m.plan p (word_at m.plan p i) i l refl)),
      λ k l. low_before m.plan m.opening z.is_plan z.can_run p k l,
    )

-- what the rule does on all that the values can mean
abbrev pub DoesOn : PlanValue → ℕ → List ℕ → Receipt → List ℕ → Type 0
DoesOn plan p values receipt after = (f : ℕ → ℕ) → Say f plan.ids (declared_at plan.txs p) values
    → Does plan.version plan.ids (tx_at plan p) f receipt after

pub ruled_value : (m : MachineValue) (p k : ℕ) (f : ℕ → ℕ) (receipt : Receipt) (after : List ℕ) → k < length (words_at m.plan.ids m.plan.txs p)
    → Does m.plan.version m.plan.ids (tx_at m.plan p) f receipt after → get_or after k 0 ≡ (scene_in m).effect p f (word_at m.plan p k)
ruled_value m p k f receipt after l d = d.says k l

pub ruled_status : (m : MachineValue) (p : ℕ) (f : ℕ → ℕ) (receipt : Receipt) (after : List ℕ)
    → Does m.plan.version m.plan.ids (tx_at m.plan p) f receipt after → number_of receipt.status ≡ (scene_in m).status p f
ruled_status m p f receipt after d = ap number_of d.status

pub ruled_moved : (m : MachineValue) (p : ℕ) (f : ℕ → ℕ) (receipt : Receipt) (after : List ℕ)
    → Does m.plan.version m.plan.ids (tx_at m.plan p) f receipt after → receipt.moved ≡ (scene_in m).moved p f
ruled_moved m p f receipt after d = d.moved
