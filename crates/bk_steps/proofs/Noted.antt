-- What a read makes of a machine, and of the course that it shows.
use Rattle.std.proofs.Common.{◌≡◌, ◌≢◌, inl, inr, ⊎_elim, ℕ, suc, ◌<◌, ◌≤◌, ◌*◌, ◌==◌, List, [], ◌∷◌, length, get_or, set, Bool, true, false, Option, None, Some, eqb, eq-eqb, ne_eqb, refl, sym, ap, ◌∙◌, subst, arith, length-set, AllPairs}
use Rattle.std.specs.List.{list_any}
use Rattle.std.proofs.lemmas.Bool.{cases_eq, cases_lt, cond-true, cond-false, or_cases, eqb-true}
use Rattle.std.proofs.lemmas.List.Folds.{list_any_at}
use Rattle.bk_conflicts.specs.Plan.{PlanValue}
use Rattle.bk_conflicts.specs.SceneOf.{reads_word}
use Rattle.bk_conflicts.specs.Words.{words_at}
use Rattle.bk_conflicts.specs.declared.words.WordRef.{WordRef}
use Rattle.bk_conflicts.proofs.Sound.{are_words}
use Rattle.bk_steps.specs.Course.{Hand, busy, Has, found}
use Rattle.bk_steps.specs.Moves.{reads_one, after_read}
use Rattle.bk_steps.specs.Machine.{MachineValue, no_seat, no_word, seat_at, SeatIs, NotedIs, AreNotes, MarkIs, AreMarks, word_at, IsMachine}
use Rattle.bk_steps.specs.Refusals.{no_reader, not_read, read_late}
use Rattle.bk_steps.specs.Steps.{Steps, IsRefused}
use Rattle.bk_steps.specs.declared.event.Event.TheVariants.{Read}
use Rattle.bk_base.specs.declared.refused.Refused.TheVariants.{NotHolder, NotDeclared, OutOfTurn}
use Rattle.bk_steps.specs.declared.seat.Seat.{Seat}
use Rattle.bk_steps.proofs.Hands.{set_put, seat_inside, busy_shown, nobody}
use Rattle.bk_steps.proofs.Reached.{with_lists}

-- ---- the words of a place by index

-- the word at an index of those of a place is one of them, and of the machine
pub word_is : (plan : PlanValue) (p x k : ℕ) → k < length (words_at plan.ids plan.txs p) → word_at plan p k ≡ x
    → reads_word plan.ids plan.txs p x ≡ true
word_is plan p x k l e = list_any_at (λ (w : WordRef). eqb w.word x) (words_at plan.ids plan.txs p) k no_word l
    (eq-eqb (word_at plan p k) x e)

pub word_inside : (m : MachineValue) (p x : ℕ) → IsMachine m → reads_word m.plan.ids m.plan.txs p x ≡ true
    → x < length m.words
word_inside m p x z e =
    let low : x < 2 * length m.plan.ids = (are_words m.plan m.opening).words_inside p x e in
    let long = z.words_long in omega arith

in_words : (xs : List WordRef) (x : ℕ) → list_any (λ (w : WordRef). w.word == x) xs ≡ true
    → (k : ℕ) × (k < length xs) × ((get_or xs k no_word).word ≡ x)
in_words [] x e = absurd (cc)
in_words (r ∷ rs) x e = ⊎_elim
    (λ h. (0, omega arith, eqb-true r.word x h))
    (λ h. let t = in_words rs x h in let l = t.1 in (suc t.0, omega arith, t.2))
    (or_cases (r.word == x) (list_any (λ (w : WordRef). w.word == x) rs) e)

-- each word of a place has an index
pub word_in : (plan : PlanValue) (p x : ℕ) → reads_word plan.ids plan.txs p x ≡ true
    → (k : ℕ) × (k < length (words_at plan.ids plan.txs p)) × (word_at plan p k ≡ x)
word_in plan p x e = in_words (words_at plan.ids plan.txs p) x e

-- other words of the place are other words
pub others_differ : (ws : List WordRef) (j k : ℕ) → AllPairs (λ (x y : WordRef). x.word < y.word) ws → j < length ws
    → k < length ws → j ≢ k → (get_or ws j no_word).word ≢ (get_or ws k no_word).word
others_differ ws j k up l m off e = ⊎_elim
    (λ (b : j < k). let h = up j k no_word b m in omega arith)
    (λ (b : k ≤ j). let h = up k j no_word (omega arith) l in omega arith)
    (cases_lt j k)

-- ---- refusals

pub no_holder : (m : MachineValue) (w x : ℕ) → (seat_at m w).place ≡ None → IsRefused m (Read w x) NotHolder
no_holder m w x e d k = no_reader w x (nobody m w e d k)

pub no_word_of : (m : MachineValue) (w x p : ℕ) → (seat_at m w).place ≡ Some p
    → reads_word m.plan.ids m.plan.txs p x ≡ false → IsRefused m (Read w x) NotDeclared
no_word_of m w x p e off d k = let h = busy_shown m.plan (seat_at m w) p (d.hand w) (k.hands w) e in
    not_read w x p h.0 h.1 (seat_inside m.seats w p e, h.2) (λ t. let z : false ≡ true = sym off ∙ t in absurd (cc))

was_written : (x : ℕ) (b : Bool) (ws : List ℕ) → MarkIs x b ws → b ≡ true → Has ws x
was_written x true ws h e = h
was_written x false ws h e = absurd (cc)

not_written_yet : (x : ℕ) (b : Bool) (ws : List ℕ) → MarkIs x b ws → b ≡ false → ¬ Has ws x
not_written_yet x true ws h e = absurd (cc)
not_written_yet x false ws h e = h

-- a word at an index is marked
pub mark_true : (plan : PlanValue) (p k : ℕ) (written : List Bool) (ws : List ℕ) → AreMarks plan p written ws
    → k < length (words_at plan.ids plan.txs p) → get_or written k false ≡ true → Has ws (word_at plan p k)
mark_true plan p k written ws a l e = was_written (word_at plan p k) (get_or written k false) ws (a.marks k l) e

pub mark_false : (plan : PlanValue) (p k : ℕ) (written : List Bool) (ws : List ℕ) → AreMarks plan p written ws
    → k < length (words_at plan.ids plan.txs p) → get_or written k false ≡ false → ¬ Has ws (word_at plan p k)
mark_false plan p k written ws a l e = not_written_yet (word_at plan p k) (get_or written k false) ws (a.marks k l) e

pub no_turn : (m : MachineValue) (w x p : ℕ) → (seat_at m w).place ≡ Some p
    → reads_word m.plan.ids m.plan.txs p x ≡ true
    → (k : ℕ) × (k < length (words_at m.plan.ids m.plan.txs p)) × (get_or (seat_at m w).written k false ≡ true)
    → IsRefused m (Read w x) OutOfTurn
no_turn m w x p e on some d k = let h = busy_shown m.plan (seat_at m w) p (d.hand w) (k.hands w) e in
    let s = subst (SeatIs m.plan (seat_at m w)) h.2 (k.hands w) in
    read_late w x p h.0 h.1 (seat_inside m.seats w p e, h.2) on
    (λ z. subst (λ (ws : List ℕ). Has ws (word_at m.plan p some.0)) z
    (mark_true m.plan p some.0 (seat_at m w).written h.1 s.2 some.1 some.2))

-- nothing was written where nothing is marked
pub none_written : (plan : PlanValue) (p : ℕ) (written : List Bool) (ws : List ℕ) → AreMarks plan p written ws
    → ((k : ℕ) → k < length (words_at plan.ids plan.txs p) → get_or written k false ≡ false) → ws ≡ []
none_written plan p written [] a none = refl
none_written plan p written (y ∷ ys) a none = let k = word_in plan p y (a.inside y (inl refl)) in
    absurd (mark_false plan p k.0 written (y ∷ ys) a k.1 (none k.0 k.1) (inl (sym k.2)))

-- ---- after the read

noted_new : (x v : ℕ) (y : ℕ) (rs : List (ℕ × ℕ)) → x ≡ y → NotedIs y (Some v) ((x, v) ∷ rs)
unfolding found
noted_new x v y rs e = (inl e, cond-true (eqb x y) v (found rs y) (eq-eqb x y e))

noted_old : (x v y : ℕ) (o : Option ℕ) (rs : List (ℕ × ℕ)) → x ≢ y → NotedIs y o rs → NotedIs y o ((x, v) ∷ rs)
unfolding found
noted_old x v y None rs off h = λ t. ⊎_elim (λ e. off e) (λ u. h u) t
noted_old x v y (Some u) rs off h = (inr h.0, cond-false (eqb x y) v (found rs y) (ne_eqb x y off) ∙ h.1)

-- what a seat is that has noted a value
pub record IsNoted (old seat : Seat) (k v : ℕ) : Type 0 where
  pub place : seat.place ≡ old.place
  pub here : get_or seat.read k None ≡ Some v
  pub others : (j : ℕ) → j ≢ k → get_or seat.read j None ≡ get_or old.read j None
  pub written : seat.written ≡ old.written

notes_shown : (plan : PlanValue) (old seat : Seat) (p x k v : ℕ) (rs : List (ℕ × ℕ)) → IsNoted old seat k v
    → AllPairs (λ (x y : WordRef). x.word < y.word) (words_at plan.ids plan.txs p)
    → k < length (words_at plan.ids plan.txs p) → word_at plan p k ≡ x
    → AreNotes plan p old.read rs → AreNotes plan p seat.read ((x, v) ∷ rs)
notes_shown plan old seat p x k v rs n up l is notes j m = ⊎_elim
    (λ (e : j ≡ k). subst (λ (o : Option ℕ). NotedIs (word_at plan p j) o ((x, v) ∷ rs))
    (sym (ap (λ (i : ℕ). get_or seat.read i None) e ∙ n.here))
    (noted_new x v (word_at plan p j) rs (sym (ap (word_at plan p) e ∙ is))))
    (λ (off : j ≢ k). subst (λ (o : Option ℕ). NotedIs (word_at plan p j) o ((x, v) ∷ rs)) (sym (n.others j off))
    (noted_old x v (word_at plan p j) (get_or old.read j None) rs
    (λ e. others_differ (words_at plan.ids plan.txs p) j k up m l off (sym e ∙ sym is)) (notes j m)))
    (cases_eq j k)

pub read_steps : (m : MachineValue) (w p x k : ℕ) (seat : Seat) → (seat_at m w).place ≡ Some p
    → AllPairs (λ (x y : WordRef). x.word < y.word) (words_at m.plan.ids m.plan.txs p)
    → k < length (words_at m.plan.ids m.plan.txs p) → word_at m.plan p k ≡ x
    → ((j : ℕ) → j < length (words_at m.plan.ids m.plan.txs p) → get_or (seat_at m w).written j false ≡ false)
    → IsNoted (seat_at m w) seat k (get_or m.words x 0)
    → Steps m (Read w x) (with_lists m m.words m.stages (set m.seats w seat))
read_steps m w p x k seat at up l is none n = record {
  same = record { plan = refl; opening = refl; workers = length-set m.seats w seat };
  follows = λ d shown.
      let h = busy_shown m.plan (seat_at m w) p (d.hand w) (shown.hands w) at in
      let s = subst (SeatIs m.plan (seat_at m w)) h.2 (shown.hands w) in
      let empty : h.1 ≡ [] = none_written m.plan p (seat_at m w).written h.1 s.2 none in
      let here : d.hand w ≡ busy p h.0 [] = h.2 ∙ ap (λ (ws : List ℕ). busy p h.0 ws) empty in
      let new : Hand = busy p ((x, d.value x) ∷ h.0) [] in record {
        next = after_read d w p h.0 x;
        allowed = (seat_inside m.seats w p at, reads_one w p x h.0 here (word_is m.plan p x k l is));
        shown = record {
          values = shown.values;
          phases = shown.phases;
          hands = set_put (SeatIs m.plan) m.seats no_seat d.hand w seat new (seat_inside m.seats w p at) shown.hands (
            n.place ∙ at,
            notes_shown m.plan (seat_at m w) seat p x k (d.value x) h.0
                (subst (IsNoted (seat_at m w) seat k) (sym (shown.values x)) n) up l is s.1,
            subst (λ (t : List Bool × List ℕ). AreMarks m.plan p t.0 t.1) (λ i. (sym n.written i, empty i)) s.2,
          );
        };
      };
}

-- ---- what the code found

pub word_found : (plan : PlanValue) (p x k : ℕ) (ws : List WordRef) → ws ≡ words_at plan.ids plan.txs p
    → (k < length ws) × ((get_or ws k no_word).word ≡ x)
    → (k < length (words_at plan.ids plan.txs p)) × (word_at plan p k ≡ x)
word_found plan p x k ws same h = subst (λ (us : List WordRef). (k < length us) × ((get_or us k no_word).word ≡ x)) same h

pub words_rise : (plan : PlanValue) (p : ℕ) (ws : List WordRef) → ws ≡ words_at plan.ids plan.txs p
    → AllPairs (λ (x y : WordRef). x.word < y.word) ws → AllPairs (λ (x y : WordRef). x.word < y.word) (words_at plan.ids plan.txs p)
words_rise plan p ws same h = subst (AllPairs (λ (x y : WordRef). x.word < y.word)) same h

pub noted_at : (m : MachineValue) (w x k v : ℕ) (s new : Seat) → s ≡ seat_at m w → v ≡ get_or m.words x 0
    → IsNoted s new k v → IsNoted (seat_at m w) new k (get_or m.words x 0)
noted_at m w x k v s new e f n = subst (λ (t : Seat × ℕ). IsNoted t.0 new k t.1) (λ i. (e i, f i)) n

pub unmarked : (m : MachineValue) (w p : ℕ) (ws : List WordRef) (s : Seat) → ws ≡ words_at m.plan.ids m.plan.txs p → s ≡ seat_at m w
    → ((k : ℕ) → k < length ws → get_or s.written k false ≡ false)
    → (k : ℕ) → k < length (words_at m.plan.ids m.plan.txs p) → get_or (seat_at m w).written k false ≡ false
unmarked m w p ws s e f h = subst (λ (t : List WordRef × Seat). (k : ℕ) → k < length t.0 → get_or t.1.written k false ≡ false) (λ i. (e i, f i)) h

pub one_marked : (m : MachineValue) (w p : ℕ) (ws : List WordRef) (s : Seat) → ws ≡ words_at m.plan.ids m.plan.txs p → s ≡ seat_at m w
    → (k : ℕ) × (k < length ws) × (get_or s.written k false ≡ true)
    → (k : ℕ) × (k < length (words_at m.plan.ids m.plan.txs p)) × (get_or (seat_at m w).written k false ≡ true)
one_marked m w p ws s e f h = subst (λ (t : List WordRef × Seat). (k : ℕ) × (k < length t.0) × (get_or t.1.written k false ≡ true)) (λ i. (e i, f i)) h
