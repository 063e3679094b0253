-- Each claim has one verdict, and it is good exactly where the claim is the report.
use Rattle.std.proofs.Common.{◌≡◌, ℕ, zero, suc, ◌<◌, List, [], ◌∷◌, take, Some, refl, sym, ap, subst, ◌∙◌, ◌⊎◌, inl, inr, ⊎_elim, slice_get, arith}
use mathlib.Core.Logic.{dite}
use native.Mathlib.Decide.{ℕ_discrete}
use Rattle.bk_results.specs.declared.status.Status.{Status}
use Rattle.bk_results.specs.declared.status.Status.TheVariants as status
use Rattle.bk_answer.specs.RunReport.{IsReport}
use Rattle.bk_laws.specs.RunLaws.{reported}
use Rattle.bk_laws.proofs.RunLaws.{one_answer}
use Rattle.bk_claim.specs.Claims.{FirstDiffer, IsVerdict, ShowsVerdict, difference, good}
use Rattle.bk_claim.specs.declared.verdict.Verdict.{Verdict}
use Rattle.bk_claim.specs.declared.verdict.Verdict.TheVariants as verdict
use Rattle.bk_laws.specs.Claims.{ExactlyOneVerdict, FindsGood, GoodIsTheReport}

-- ---- where two texts first differ

-- they are the same, or first differ somewhere
differ_or_not : (xs ys : List ℕ) → (ys ≡ xs) ⊎ ((i : ℕ) × FirstDiffer xs ys i)
differ_or_not [] [] = inl refl
differ_or_not [] (y ∷ ys) = inr (0, (refl, λ e. absurd cc))
differ_or_not (x ∷ xs) [] = inr (0, (refl, λ e. absurd cc))
differ_or_not (x ∷ xs) (y ∷ ys) = dite (ℕ_discrete x y)
    (λ same. ⊎_elim
    (λ (e : ys ≡ xs). inl (λ i. sym same i ∷ e i))
    (λ (d : (i : ℕ) × FirstDiffer xs ys i). inr (suc d.0, ((λ i. same i ∷ d.1.0 i), d.1.1)))
    (differ_or_not xs ys))
    (λ other. inr (0, (refl, λ e. other cc)))

heads : (x y : ℕ) (xs ys : List ℕ) → x ∷ xs ≡ y ∷ ys → x ≡ y
heads x y xs ys e = cc

tails : (x y : ℕ) (xs ys : List ℕ) → x ∷ xs ≡ y ∷ ys → xs ≡ ys
tails x y xs ys e = cc

-- before a place up to which they are the same, they have the same bytes
same_before : (xs ys : List ℕ) (i j : ℕ) → take j xs ≡ take j ys → i < j → slice_get xs i ≡ slice_get ys i
same_before xs ys i zero e low = absurd (omega (arith, low))
same_before [] [] i (suc j) e low = refl
same_before [] (y ∷ ys) i (suc j) e low = absurd cc
same_before (x ∷ xs) [] i (suc j) e low = absurd cc
same_before (x ∷ xs) (y ∷ ys) zero (suc j) e low = ap Some (heads x y (take j xs) (take j ys) e)
same_before (x ∷ xs) (y ∷ ys) (suc i) (suc j) e low = same_before xs ys i j (tails x y (take j xs) (take j ys) e) (omega (arith, low))

one_place : (xs ys : List ℕ) (i j : ℕ) → FirstDiffer xs ys i → FirstDiffer xs ys j → i ≡ j
one_place xs ys i j h g = dite (ℕ_discrete i j)
    (λ same. same)
    (λ other. absurd (⊎_elim
    (λ (low : i < j). h.1 (same_before xs ys i j g.0 low))
    (λ (high : j < i). g.1 (same_before xs ys j i h.0 high))
    (apart i j other)))
  where
    apart : (a b : ℕ) → (a ≡ b → ⊥) → (a < b) ⊎ (b < a)
    apart zero zero o = absurd (o refl)
    apart zero (suc b) o = inl (omega arith)
    apart (suc a) zero o = inr (omega arith)
    apart (suc a) (suc b) o = ⊎_elim (λ (l : a < b). inl (omega (arith, l))) (λ (l : b < a). inr (omega (arith, l))) (apart a b (λ e. o (ap suc e)))

differ_not_same : (xs ys : List ℕ) (i : ℕ) → FirstDiffer xs ys i → ys ≡ xs → ⊥
differ_not_same xs ys i h e = h.1 (ap (λ (zs : List ℕ). slice_get zs i) (sym e))

-- ---- verdicts

one_shown : (right claimed : List ℕ) (end : Status) (a b : Verdict) (t u : List ℕ) → ShowsVerdict right claimed end a t → ShowsVerdict right claimed end b u → (a ≡ b) × (t ≡ u)
one_shown right claimed end verdict.Good verdict.Good t u h g = (refl, h.2 ∙ sym g.2)
one_shown right claimed end verdict.Good verdict.Short t u h g = absurd (let e : status.Whole ≡ status.Missing = sym h.1 ∙ g.1 in cc)
one_shown right claimed end verdict.Good verdict.Differs t u h g = absurd (differ_not_same right claimed g.0 g.1 h.0)
one_shown right claimed end verdict.Short verdict.Good t u h g = absurd (let e : status.Missing ≡ status.Whole = sym h.1 ∙ g.1 in cc)
one_shown right claimed end verdict.Short verdict.Short t u h g = (refl, h.2 ∙ sym g.2)
one_shown right claimed end verdict.Short verdict.Differs t u h g = absurd (differ_not_same right claimed g.0 g.1 h.0)
one_shown right claimed end verdict.Differs verdict.Good t u h g = absurd (differ_not_same right claimed h.0 h.1 g.0)
one_shown right claimed end verdict.Differs verdict.Short t u h g = absurd (differ_not_same right claimed h.0 h.1 g.0)
one_shown right claimed end verdict.Differs verdict.Differs t u h g =
    (refl, h.2 ∙ (ap (difference right claimed) (one_place right claimed h.0 g.0 h.1 g.1) ∙ sym g.2))

-- the report of a verdict is the report of the feed
shown_of : (feed report claimed : List ℕ) (end : Status) (a : Verdict) (t : List ℕ) → IsReport feed report end → IsVerdict feed claimed a t → ShowsVerdict report claimed end a t
shown_of feed report claimed end a t is v =
    let same : reported v.right v.end ≡ reported report end = one_answer feed (reported v.right v.end) (reported report end) v.report is in
    let right : v.right ≡ report = cc in
    let ends : v.end ≡ end = cc in
    subst (λ (p : List ℕ × Status). ShowsVerdict p.0 claimed p.1 a t) (λ i. (right i, ends i)) v.shows

found : (report claimed : List ℕ) (end : Status) → (a : Verdict) × (t : List ℕ) × ShowsVerdict report claimed end a t
found report claimed end = ⊎_elim
    (λ (e : claimed ≡ report). by_end end refl e)
    (λ (d : (i : ℕ) × FirstDiffer report claimed i). (verdict.Differs, difference report claimed d.0, (d.0, d.1, refl)))
    (differ_or_not report claimed)
  where
    by_end : (s : Status) → end ≡ s → claimed ≡ report → (a : Verdict) × (t : List ℕ) × ShowsVerdict report claimed end a t
    by_end status.Whole is e = (verdict.Good, good, (e, is, refl))
    by_end status.Missing is e = (verdict.Short, good, (e, is, refl))

pub one_verdict : ExactlyOneVerdict
one_verdict = λ feed report claimed end is.
    let f = found report claimed end in (
      f.0,
      f.1,
      record { right = report; end = end; report = is; shows = f.2 },
      λ other words v. one_shown report claimed end f.0 other f.1 words f.2 (shown_of feed report claimed end other words is v),
    )

by_verdict : (report claimed : List ℕ) (end : Status) (a : Verdict) (t : List ℕ) → ShowsVerdict report claimed end a t → (FindsGood a → claimed ≡ report) × (claimed ≡ report → FindsGood a)
by_verdict report claimed end verdict.Good t h = (λ g. h.0, λ e. tt)
by_verdict report claimed end verdict.Short t h = (λ g. h.0, λ e. tt)
by_verdict report claimed end verdict.Differs t h = (λ g. absurd g, λ e. differ_not_same report claimed h.0 h.1 e)

pub good_is_report : GoodIsTheReport
good_is_report = λ feed report claimed text end a is v. by_verdict report claimed end a text (shown_of feed report claimed end a text is v)
