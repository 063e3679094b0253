-- Lists in which one entry is changed, and the seats of workers.
use Rattle.std.proofs.Common.{◌≡◌, ◌≢◌, ⊎_elim, ℕ, ◌<◌, ◌≤◌, List, length, get_or, set, Option, None, Some, sym, ap, ◌∙◌, subst}
use Rattle.std.proofs.lemmas.Bool.{cases_eq, cases_lt}
use Rattle.std.proofs.lemmas.List.{get_or-set_same, get_or-set_other, get_or_past, get_or_default}
use Rattle.bk_conflicts.specs.Plan.{PlanValue}
use Rattle.bk_steps.specs.Course.{Course, Hand, free, busy, put}
use Rattle.bk_steps.specs.Refusals.{IsHolder}
use Rattle.bk_steps.specs.Machine.{MachineValue, no_seat, seat_at, SeatIs, Shows}
use Rattle.bk_steps.specs.declared.seat.Seat.{Seat}
use Rattle.bk_steps.proofs.Tables.{put_here, put_else}

-- a list and a function that agree do so after a change of one entry
pub set_put : {A B : Type 0} (R : A → B → Type 0) (xs : List A) (e : A) (f : ℕ → B) (p : ℕ) (a : A) (b : B) → p < length xs
    → ((q : ℕ) → R (get_or xs q e) (f q)) → R a b → (q : ℕ) → R (get_or (set xs p a) q e) (put f p b q)
set_put {A} {B} R xs e f p a b l all new q = ⊎_elim
    (λ (is : q ≡ p). subst (λ (u : ℕ). R (get_or (set xs p a) u e) (put f p b u)) (sym is)
    (subst (λ (t : A × B). R t.0 t.1) (λ i. (sym (get_or-set_same xs p a e l) i, sym (put_here f p b) i)) new))
    (λ (other : q ≢ p). subst (λ (t : A × B). R t.0 t.1)
    (λ i. (sym (get_or-set_other xs p q a e other) i, sym (put_else f p b q other) i)) (all q))
    (cases_eq q p)

-- a seat at a place is that of a worker
pub seat_inside : (seats : List Seat) (w p : ℕ) → (get_or seats w no_seat).place ≡ Some p → w < length seats
seat_inside seats w p e = ⊎_elim (λ (l : w < length seats). l)
    (λ (m : length seats ≤ w). let none : None ≡ Some p = sym (ap (λ (t : Seat). t.place) (get_or_past seats w no_seat m)) ∙ e in absurd (cc))
    (cases_lt w (length seats))

-- what such a worker holds
pub busy_shown : (plan : PlanValue) (seat : Seat) (p : ℕ) (h : Hand) → SeatIs plan seat h → seat.place ≡ Some p
    → (rs : List (ℕ × ℕ)) × (ws : List ℕ) × (h ≡ busy p rs ws)
busy_shown plan seat p free s e = let none : None ≡ Some p = sym s ∙ e in absurd (cc)
busy_shown plan seat p (busy q rs ws) s e = let same : Some q ≡ Some p = sym s.0 ∙ e in let is : q ≡ p = cc in
    (rs, ws, ap (λ (u : ℕ). busy u rs ws) is)

-- a worker without a place holds none
pub nobody : (m : MachineValue) (w : ℕ) → (seat_at m w).place ≡ None → (d : Course) → Shows m d → ¬ IsHolder (length m.seats) d w
nobody m w e d k h =
    let s = subst (SeatIs m.plan (seat_at m w)) h.3.1 (k.hands w) in
    let none : None ≡ Some h.0 = sym e ∙ s.0 in absurd (cc)

-- ---- what the code found

pub at_place : (seats given : List Seat) (w p : ℕ) (r : Option ℕ) → given ≡ seats → r ≡ (get_or given w no_seat).place
    → r ≡ Some p → (get_or seats w no_seat).place ≡ Some p
at_place seats given w p r same is at = sym (is ∙ ap (λ (xs : List Seat). (get_or xs w no_seat).place) same) ∙ at

pub no_seat_at : (seats given : List Seat) (w : ℕ) (r : Option ℕ) → given ≡ seats → r ≡ (get_or given w no_seat).place
    → r ≡ None → (get_or seats w no_seat).place ≡ None
no_seat_at seats given w r same is at = sym (is ∙ ap (λ (xs : List Seat). (get_or xs w no_seat).place) same) ∙ at

pub seat_is : (seats : List Seat) (w p : ℕ) (s : Seat) → (get_or seats w no_seat).place ≡ Some p → s ≡ get_or seats w s
    → s ≡ get_or seats w no_seat
seat_is seats w p s at e = e ∙ get_or_default seats w s no_seat (seat_inside seats w p at)
