-- Whether those who have something weigh enough.
use Rattle.std.proofs.Common.{◌≡◌, ℕ, List, [], ◌∷◌, eqb, refl, subst, inl, inr, ⊎_elim, arith}
use Rattle.std.specs.List.{Contains, IsDistinct}
use Rattle.std.proofs.lemmas.Bool.{eqb-true, false_from_ne_true, cases_lt}
use Rattle.std.proofs.lemmas.Map.Views.{Contains-from_any}
use Rattle.bk_committee.specs.Sizes.{Sizes, Weigh, weight_of}
use Rattle.bk_rounds.specs.Votes.{WeighExactly}
use Rattle.bk_rounds.proofs.Counting.{apart_from_none}
use Rattle.bk_cert.proofs.Lists.{none_in_nil, contains_cases, contains_first, contains_later}
use Rattle.bk_rounds.proofs.Weighed.{inside-le}
use Rattle.bk_laws.proofs.Deciding.{Decided, decided_contains, same_number}

-- those of a list who have it, none twice
record Chosen (P : ℕ → Type 0) (all : List ℕ) : Type 0 where
  who : List ℕ
  apart : IsDistinct eqb who
  each : (x : ℕ) → Contains who x → P x
  every : (x : ℕ) → Contains all x → P x → Contains who x

chosen_none : (P : ℕ → Type 0) → Chosen P []
unfolding IsDistinct
chosen_none P = record { who = []; apart = tt; each = λ x h. absurd (none_in_nil x h); every = λ x h p. absurd (none_in_nil x h) }

chosen_more : (P : ℕ → Type 0) (x : ℕ) (xs : List ℕ) (h : Chosen P xs) → P x → (Contains h.who x → ⊥) → Chosen P (x ∷ xs)
unfolding IsDistinct
chosen_more P x xs h p new = record {
  who = x ∷ h.who;
  apart = (apart_from_none x h.who (false_from_ne_true _ (λ e. new (Contains-from_any eqb-true x h.who e))), h.apart);
  each = λ y t. ⊎_elim (λ (e : x ≡ y). subst P e p) (λ (later : Contains h.who y). h.each y later) (contains_cases x h.who y t);
  every = λ y t q. ⊎_elim (λ (e : x ≡ y). subst (Contains (x ∷ h.who)) e (contains_first x h.who)) (λ (later : Contains xs y). contains_later x h.who y (h.every y later q)) (contains_cases x xs y t);
}

chosen_same : (P : ℕ → Type 0) (x : ℕ) (xs : List ℕ) (h : Chosen P xs) → (P x → Contains h.who x) → Chosen P (x ∷ xs)
chosen_same P x xs h there = record {
  who = h.who;
  apart = h.apart;
  each = h.each;
  every = λ y t q. ⊎_elim (λ (e : x ≡ y). subst (λ (v : ℕ). P v → Contains h.who v) e there q) (λ (later : Contains xs y). h.every y later q) (contains_cases x xs y t);
}

chosen : (P : ℕ → Type 0) → ((x : ℕ) → Decided (P x)) → (all : List ℕ) → Chosen P all
chosen P d [] = chosen_none P
chosen P d (x ∷ xs) =
    let rest : Chosen P xs = chosen P d xs in
    ⊎_elim
    (λ (p : P x). ⊎_elim (λ (t : Contains rest.who x). chosen_same P x xs rest (λ q. t)) (λ (n : Contains rest.who x → ⊥). chosen_more P x xs rest p n) (decided_contains same_number rest.who x))
    (λ (n : P x → ⊥). chosen_same P x xs rest (λ q. absurd (n q)))
    (d x)

-- whoever has it is in the list
pub decided_weigh : (z : Sizes) (P : ℕ → Type 0) (all : List ℕ) (least : ℕ) → ((x : ℕ) → Decided (P x)) → ((x : ℕ) → P x → Contains all x) → Decided (Weigh z P least)
decided_weigh z P all least d in_all =
    let c : Chosen P all = chosen P d all in
    ⊎_elim
    (λ low. inr (λ (h : Weigh z P least). omega (arith, h.enough, low, inside-le z h.who c.who h.apart (λ x t. c.every x (in_all x (h.each x t)) (h.each x t)))))
    (λ high. inl (record { who = c.who; apart = c.apart; each = c.each; enough = high }))
    (cases_lt (weight_of z c.who) least)

-- those who have it weigh something together
pub weight_exists : (z : Sizes) (P : ℕ → Type 0) (all : List ℕ) → ((x : ℕ) → Decided (P x)) → ((x : ℕ) → P x → Contains all x) → (weight : ℕ) × WeighExactly z P weight
weight_exists z P all d in_all =
    let c : Chosen P all = chosen P d all in
    (weight_of z c.who, record { who = c.who; apart = c.apart; lists = λ x. (c.each x, λ p. c.every x (in_all x p) p); is = refl })
