-- Each item is put into the row that it names.
use Rattle.std.proofs.Common.{◌≡◌, ℕ, suc, ◌+◌, ◌-◌, ◌<◌, ◌≤◌, List, [], ◌∷◌, ◌++◌, length, drop, get_or, set, All, refl, ap, ◌∙◌, subst, arith, length-append, add-one}
use Rattle.std.proofs.lemmas.List.Elements.{All-take, All-drop}
use Rattle.bk_conflicts.specs.private.Rows.{laid, turned, row_at, IsRows}
use Rattle.bk_conflicts.proofs.Turning.{IsFilled, grown, grown_fits, grown_here, grown_else, grown_none, grown_all, turned_none, put_next, filled_same, filled_none, laid_next, laid_mono, row_in}

-- where item j of row q goes
pub record IsSpot (total : ℕ → List ℕ) (g : ℕ → List ℕ) (w s at : ℕ) : Type 0 where
  pub low : s < w
  pub room : length (g s) < length (total s)
  pub inside : at < length (laid total w)

pub spot : (start items cursor after : List ℕ) (n w q j : ℕ) → All (λ x. x < w) items → q < n → j < length (row_at start items q)
    → IsFilled (turned (row_at start items) n) (grown (row_at start items) q (row_at start items q) j) w cursor after
    → IsSpot (turned (row_at start items) n) (grown (row_at start items) q (row_at start items q) j) w (get_or (row_at start items q) j 0) (get_or cursor (get_or (row_at start items q) j 0) 0)
spot start items cursor after n w q j low l m h =
    let F : ℕ → List ℕ = row_at start items in
    let s : ℕ = get_or (F q) j 0 in
    let small : s < w = All-take (λ x. x < w) (get_or start (q + 1) 0 - get_or start q 0) (drop (get_or start q 0) items) (All-drop (λ x. x < w) (get_or start q 0) items low) j 0 m in
    let fits = grown_fits F n q (suc j) s l in
    let one = ap length (grown_here F q (F q) j s m refl) in
    let two = length-append (grown F q (F q) j s) (q ∷ []) in
    let room : length (grown F q (F q) j s) < length (turned F n s) = omega arith in
    let at = h.cursors s small in
    let next = laid_next (turned F n) s in
    let mono = laid_mono (turned F n) (suc s) w small in
    record { low = small; room = room; inside = omega arith }

pub spot_next : (start items cursor after : List ℕ) (n w q j : ℕ) → All (λ x. x < w) items → q < n → j < length (row_at start items q) → length (laid (turned (row_at start items) n) w) ≤ length after
    → IsFilled (turned (row_at start items) n) (grown (row_at start items) q (row_at start items q) j) w cursor after
    → IsFilled (turned (row_at start items) n) (grown (row_at start items) q (row_at start items q) (j + 1)) w
    (set cursor (get_or (row_at start items q) j 0) (get_or cursor (get_or (row_at start items q) j 0) 0 + 1)) (set after (get_or cursor (get_or (row_at start items q) j 0) 0) q)
spot_next start items cursor after n w q j low l m space h =
    let F : ℕ → List ℕ = row_at start items in
    let s : ℕ = get_or (F q) j 0 in
    let here = spot start items cursor after n w q j low l m h in
    put_next (turned F n) (grown F q (F q) j) (grown F q (F q) (j + 1)) w s q cursor after h here.low (λ p k. grown_fits F n q j p l) here.room space
    (subst (λ (k : ℕ). grown F q (F q) k s ≡ grown F q (F q) j s ++ q ∷ []) (let e : suc j ≡ j + 1 = omega arith in e) (grown_here F q (F q) j s m refl))
    (λ p other. subst (λ (k : ℕ). grown F q (F q) k p ≡ grown F q (F q) j p) (let e : suc j ≡ j + 1 = omega arith in e) (grown_else F q (F q) j s p m refl other))

pub row_first : (start items cursor after : List ℕ) (n w q : ℕ) → IsFilled (turned (row_at start items) n) (turned (row_at start items) q) w cursor after
    → IsFilled (turned (row_at start items) n) (grown (row_at start items) q (row_at start items q) 0) w cursor after
row_first start items cursor after n w q h = filled_same _ (turned (row_at start items) q) (grown (row_at start items) q (row_at start items q) 0) w cursor after (grown_none (row_at start items) q (row_at start items q)) h

pub row_last : (start items cursor after : List ℕ) (n w q j : ℕ) → j ≡ length (row_at start items q) → IsFilled (turned (row_at start items) n) (grown (row_at start items) q (row_at start items q) j) w cursor after
    → IsFilled (turned (row_at start items) n) (turned (row_at start items) (q + 1)) w cursor after
row_last start items cursor after n w q j e h = let F : ℕ → List ℕ = row_at start items in
    filled_same _ (grown F q (F q) j) (turned F (q + 1)) w cursor after
    (λ p. ap (λ (k : ℕ). grown F q (F q) k p) e ∙ (grown_all F q p ∙ ap (λ (k : ℕ). turned F k p) (let z : suc q ≡ q + 1 = omega arith in z))) h

pub start_none : (start items first : List ℕ) (n w : ℕ) → 0 < length first → w ≡ length first - 1 → ((p : ℕ) → p < length first → get_or first p 0 ≡ length (laid (turned (row_at start items) n) p))
    → (after : List ℕ) → IsFilled (turned (row_at start items) n) (turned (row_at start items) 0) w first after
start_none start items first n w some e h after = filled_same _ (λ _. []) (turned (row_at start items) 0) w first after (turned_none (row_at start items))
    (filled_none (turned (row_at start items) n) w first after (omega arith) (λ p l. h p (omega arith)))

pub bounds : (start items : List ℕ) (q : ℕ) → 0 < length start → IsRows (row_at start items) (length start - 1) start items → q < length start - 1 → (get_or start q 0 ≤ get_or start (q + 1) 0) × (get_or start (q + 1) 0 ≤ length items)
bounds start items q some r l = rw add-one (row_in (row_at start items) (length start - 1) start items r q l)
