-- What a write makes of a machine, and of the course that it shows.
use Rattle.std.proofs.Common.{◌≡◌, ◌≢◌, inl, inr, ⊎_elim, ℕ, suc, ◌<◌, ◌≤◌, ◌==◌, ◌&&◌, List, [], ◌∷◌, length, get_or, set, Bool, true, false, Option, None, Some, eq-eqb, refl, sym, ap, ◌∙◌, subst, arith, length-set, AllPairs}
use Rattle.std.specs.List.{list_any}
use Rattle.std.proofs.lemmas.Bool.{cases_eq, or_cases, and_parts, and_from, eqb-true}
use Rattle.std.proofs.lemmas.List.Folds.{list_any_at}
use Rattle.bk_rules.specs.declared.receipt.Receipt.{Receipt}
use Rattle.bk_conflicts.specs.Plan.{PlanValue}
use Rattle.bk_conflicts.specs.SceneOf.{writes_word}
use Rattle.bk_conflicts.specs.Words.{words_at}
use Rattle.bk_conflicts.specs.declared.words.WordRef.{WordRef}
use Rattle.bk_steps.specs.Course.{Hand, busy, Has, found}
use Rattle.bk_steps.specs.Moves.{writes_one, after_write}
use Rattle.bk_steps.specs.Machine.{MachineValue, scene_in, no_seat, no_word, seat_at, SeatIs, AreNotes, MarkIs, AreMarks, word_at}
use Rattle.bk_steps.specs.Refusals.{no_writer, not_written, write_early}
use Rattle.bk_steps.specs.Steps.{Steps, IsRefused}
use Rattle.bk_steps.specs.declared.event.Event.TheVariants.{Write}
use Rattle.bk_base.specs.declared.refused.Refused.TheVariants.{NotHolder, NotDeclared, OutOfTurn}
use Rattle.bk_steps.specs.declared.seat.Seat.{Seat}
use Rattle.bk_steps.proofs.Hands.{set_put, seat_inside, busy_shown, nobody}
use Rattle.bk_steps.proofs.Reached.{with_lists}
use Rattle.bk_steps.proofs.Noted.{word_is, others_differ, mark_true, mark_false}
use Rattle.bk_steps.proofs.Ruled.{AllNoted, OneMissing, AreNoted, DoesOn, all_read, not_all_read, says_found, ruled_value}

-- ---- the words that a place may write, by index

abbrev pub IsWritable : PlanValue → ℕ → ℕ → Type 0
IsWritable plan p k = (get_or (words_at plan.ids plan.txs p) k no_word).writable ≡ true

pub written_is : (plan : PlanValue) (p x k : ℕ) → k < length (words_at plan.ids plan.txs p) → word_at plan p k ≡ x
    → IsWritable plan p k → writes_word plan.ids plan.txs p x ≡ true
written_is plan p x k l e may = list_any_at (λ (w : WordRef). w.writable && w.word == x) (words_at plan.ids plan.txs p) k no_word l
    (and_from (get_or (words_at plan.ids plan.txs p) k no_word).writable (word_at plan p k == x) may (eq-eqb (word_at plan p k) x e))

in_writable : (xs : List WordRef) (x : ℕ) → list_any (λ (w : WordRef). w.writable && w.word == x) xs ≡ true
    → (k : ℕ) × (k < length xs) × ((get_or xs k no_word).writable ≡ true) × ((get_or xs k no_word).word ≡ x)
in_writable [] x e = absurd (cc)
in_writable (r ∷ rs) x e = ⊎_elim
    (λ h. let b = and_parts r.writable (r.word == x) h in (0, omega arith, b.0, eqb-true r.word x b.1))
    (λ h. let t = in_writable rs x h in let l = t.1 in (suc t.0, omega arith, t.2, t.3))
    (or_cases (r.writable && r.word == x) (list_any (λ (w : WordRef). w.writable && w.word == x) rs) e)

pub written_in : (plan : PlanValue) (p x : ℕ) → writes_word plan.ids plan.txs p x ≡ true
    → (k : ℕ) × (k < length (words_at plan.ids plan.txs p)) × IsWritable plan p k × (word_at plan p k ≡ x)
written_in plan p x e = in_writable (words_at plan.ids plan.txs p) x e

-- ---- refusals

pub no_write_holder : (m : MachineValue) (w x : ℕ) → (seat_at m w).place ≡ None → IsRefused m (Write w x) NotHolder
no_write_holder m w x e d k = no_writer w x (nobody m w e d k)

pub no_write_word : (m : MachineValue) (w x p : ℕ) → (seat_at m w).place ≡ Some p
    → writes_word m.plan.ids m.plan.txs p x ≡ false → IsRefused m (Write w x) NotDeclared
no_write_word m w x p e off d k = let h = busy_shown m.plan (seat_at m w) p (d.hand w) (k.hands w) e in
    not_written w x p h.0 h.1 (seat_inside m.seats w p e, h.2) (λ t. let z : false ≡ true = sym off ∙ t in absurd (cc))

pub write_unread : (m : MachineValue) (w x p : ℕ) → (seat_at m w).place ≡ Some p
    → writes_word m.plan.ids m.plan.txs p x ≡ true → OneMissing m.plan p (seat_at m w).read
    → IsRefused m (Write w x) OutOfTurn
write_unread m w x p e wr missing d k = let h = busy_shown m.plan (seat_at m w) p (d.hand w) (k.hands w) e in
    let s = subst (SeatIs m.plan (seat_at m w)) h.2 (k.hands w) in
    write_early w x p h.0 h.1 (seat_inside m.seats w p e, h.2) wr (λ g. not_all_read m.plan p (seat_at m w).read h.0 s.1 missing g.0)

pub write_again : (m : MachineValue) (w x p j : ℕ) → (seat_at m w).place ≡ Some p
    → j < length (words_at m.plan.ids m.plan.txs p) → word_at m.plan p j ≡ x
    → writes_word m.plan.ids m.plan.txs p x ≡ true → get_or (seat_at m w).written j false ≡ true
    → IsRefused m (Write w x) OutOfTurn
write_again m w x p j e l is wr marked d k = let h = busy_shown m.plan (seat_at m w) p (d.hand w) (k.hands w) e in
    let s = subst (SeatIs m.plan (seat_at m w)) h.2 (k.hands w) in
    write_early w x p h.0 h.1 (seat_inside m.seats w p e, h.2) wr
    (λ g. g.1 (subst (Has h.1) is (mark_true m.plan p j (seat_at m w).written h.1 s.2 l marked)))

-- ---- after the write

-- what a seat is that has marked a word
pub record IsMarked (old seat : Seat) (k : ℕ) : Type 0 where
  pub place : seat.place ≡ old.place
  pub read : seat.read ≡ old.read
  pub here : get_or seat.written k false ≡ true
  pub others : (j : ℕ) → j ≢ k → get_or seat.written j false ≡ get_or old.written j false

mark_old : (x y : ℕ) (b : Bool) (ws : List ℕ) → x ≢ y → MarkIs y b ws → MarkIs y b (x ∷ ws)
mark_old x y true ws off h = inr h
mark_old x y false ws off h = λ t. ⊎_elim (λ e. off e) (λ u. h u) t

marks_shown : (plan : PlanValue) (old seat : Seat) (p x k : ℕ) (ws : List ℕ) → IsMarked old seat k
    → AllPairs (λ (x y : WordRef). x.word < y.word) (words_at plan.ids plan.txs p)
    → k < length (words_at plan.ids plan.txs p) → word_at plan p k ≡ x
    → AreMarks plan p old.written ws → AreMarks plan p seat.written (x ∷ ws)
marks_shown plan old seat p x k ws n up l is a = record {
  marks = λ j m. ⊎_elim
      (λ (e : j ≡ k). subst (λ (b : Bool). MarkIs (word_at plan p j) b (x ∷ ws))
      (sym (ap (λ (i : ℕ). get_or seat.written i false) e ∙ n.here))
      (inl (sym (ap (word_at plan p) e ∙ is))))
      (λ (off : j ≢ k). subst (λ (b : Bool). MarkIs (word_at plan p j) b (x ∷ ws)) (sym (n.others j off))
      (mark_old x (word_at plan p j) (get_or old.written j false) ws
      (λ e. others_differ (words_at plan.ids plan.txs p) j k up m l off (sym e ∙ sym is)) (a.marks j m)))
      (cases_eq j k);
  inside = λ y h. ⊎_elim (λ (e : x ≡ y). word_is plan p y k l (is ∙ e)) (λ t. a.inside y t) h;
}

-- a word that a worker may write, by what it has read
pub record IsWritten (m : MachineValue) (w x p k v : ℕ) (values : List ℕ) (receipt : Receipt) (after : List ℕ) : Type 0 where
  pub at : (seat_at m w).place ≡ Some p
  pub few : length (words_at m.plan.ids m.plan.txs p) ≤ 16
  pub rise : AllPairs (λ (x y : WordRef). x.word < y.word) (words_at m.plan.ids m.plan.txs p)
  pub low : k < length (words_at m.plan.ids m.plan.txs p)
  pub word : word_at m.plan p k ≡ x
  pub may : IsWritable m.plan p k
  pub all : AllNoted m.plan p (seat_at m w).read
  pub fresh : get_or (seat_at m w).written k false ≡ false
  pub are : AreNoted (seat_at m w).read values
  pub does : DoesOn m.plan p values receipt after
  pub value : v ≡ get_or after k 0
  pub inside : x < length m.words

pub write_steps : (m : MachineValue) (w x p k v : ℕ) (values : List ℕ) (receipt : Receipt) (after : List ℕ) (seat : Seat)
    → IsWritten m w x p k v values receipt after → IsMarked (seat_at m w) seat k
    → Steps m (Write w x) (with_lists m (set m.words x v) m.stages (set m.seats w seat))
write_steps m w x p k v values receipt after seat i n = record {
  same = record { plan = refl; opening = refl; workers = length-set m.seats w seat };
  follows = λ d shown.
      let h = busy_shown m.plan (seat_at m w) p (d.hand w) (shown.hands w) i.at in
      let s = subst (SeatIs m.plan (seat_at m w)) h.2 (shown.hands w) in
      let says = says_found m.plan p (seat_at m w).read h.0 values i.few s.1 i.all i.are in
      let new : Hand = busy p h.0 (x ∷ h.1) in record {
        next = after_write d w p h.0 h.1 x v;
        allowed = (
          seat_inside m.seats w p i.at,
          writes_one w p x v h.0 h.1 h.2 (all_read m.plan p (seat_at m w).read h.0 s.1 i.all) (written_is m.plan p x k i.low i.word i.may)
              (λ t. mark_false m.plan p k (seat_at m w).written h.1 s.2 i.low i.fresh (subst (Has h.1) (sym i.word) t))
              (i.value ∙ (ruled_value m p k (found h.0) receipt after i.low (i.does (found h.0) says) ∙ ap ((scene_in m).effect p (found h.0)) i.word)),
        );
        shown = record {
          values = set_put (λ (a b : ℕ). b ≡ a) m.words 0 d.value x v v i.inside shown.values refl;
          phases = shown.phases;
          hands = set_put (SeatIs m.plan) m.seats no_seat d.hand w seat new (seat_inside m.seats w p i.at) shown.hands (
            n.place ∙ i.at,
            subst (λ (r : List (Option ℕ)). AreNotes m.plan p r h.0) (sym n.read) s.1,
            marks_shown m.plan (seat_at m w) seat p x k h.1 n i.rise i.low i.word s.2,
          );
        };
      };
}
