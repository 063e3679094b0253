-- The anchors that follow those committed before.
use Rattle.std.proofs.Common.{◌≡◌, ℕ, zero, suc, ◌+◌, ◌-◌, ◌<◌, ◌≤◌, get_or, length, ◌==◌, false, List, [], ◌∷◌, ◌++◌, reverse, refl, sym, ap, ◌∙◌, subst, arith}
use Rattle.std.proofs.lemmas.Bool.{false≢true}
use Rattle.std.proofs.lemmas.List.{reverse-append, reverse-reverse, append-nil}
use Rattle.bk_committee.specs.Sizes.{Sizes}
use Rattle.bk_cert.specs.Node.{Node}
use Rattle.bk_cert.specs.Clear.{IsClear}
use Rattle.bk_cert.specs.declared.place.CertRef.{CertRef}
use Rattle.bk_rounds.specs.Admission.{IsPresent}
use Rattle.bk_rounds.specs.Votes.{IsAnchor, IsVoted, IsLast}
use Rattle.bk_commit.specs.Ordering.{IsPrior, IsWayBack, IsCommitted, IsCommittedBack}
use Rattle.bk_commit.specs.Growth.{IsPartOf, WereCommitted}
use Rattle.bk_commit.specs.private.Way.{IsPath, IsOnTheWay, IsWayTo, newest_in}
use Rattle.bk_commit.proofs.Grown.{voted_more, way_back_more, voted_earlier}
use Rattle.bk_commit.proofs.Back.{present_low}
use Rattle.bk_cert.proofs.Lists.{none_in_nil}
use Rattle.bk_rounds.proofs.Admitted.{admitted_held}

pub newest_snoc : (xs : List CertRef) (c : CertRef) → newest_in (xs ++ c ∷ []) ≡ c.round
unfolding newest_in
newest_snoc [] c = refl
newest_snoc (x ∷ []) c = refl
newest_snoc (x ∷ y ∷ more) c = newest_snoc (y ∷ more) c

-- the end of a list, read from its reverse
pub from_reverse : {X : Type 0} (old : List X) (c : X) (ps : List X) → reverse old ≡ c ∷ ps → old ≡ reverse ps ++ c ∷ []
from_reverse {X} old c ps e =
    let whole : reverse (reverse ps ++ c ∷ []) ≡ c ∷ ps = reverse-append (reverse ps) (c ∷ []) ∙ ap (λ (xs : List X). c ∷ xs) (reverse-reverse ps) in
    sym (reverse-reverse old) ∙ (ap reverse (e ∙ sym whole) ∙ reverse-reverse (reverse ps ++ c ∷ []))

pub newest_back : (old : List CertRef) (c : CertRef) (ps : List CertRef) → reverse old ≡ c ∷ ps → newest_in old ≡ c.round
newest_back old c ps e = ap newest_in (from_reverse old c ps e) ∙ newest_snoc (reverse ps) c

pub newest_none : (old : List CertRef) → reverse old ≡ [] → newest_in old ≡ 0
unfolding newest_in
newest_none old e = ap newest_in (sym (reverse-reverse old) ∙ ap reverse e)

pub newest_empty : (xs : List CertRef) → length xs ≡ 0 → newest_in xs ≡ 0
unfolding newest_in
newest_empty [] e = refl
newest_empty (x ∷ xs) e = absurd (omega arith)

pub newest_get : (xs : List CertRef) (d : CertRef) → 0 < length xs → newest_in xs ≡ (get_or xs (length xs - 1) d).round
unfolding newest_in
newest_get [] d some = absurd (omega arith)
newest_get (x ∷ []) d some = refl
newest_get (x ∷ y ∷ more) d some =
    let e : length (x ∷ y ∷ more) - 1 ≡ suc (length (y ∷ more) - 1) = omega arith in
    newest_get (y ∷ more) d (omega arith) ∙ sym (ap (λ (k : ℕ). (get_or (x ∷ y ∷ more) k d).round) e)

pub some_items : (n : ℕ) → (n == 0) ≡ false → 0 < n
some_items zero e = absurd (false≢true (sym e))
some_items (suc n) e = omega arith

pub path_anchor : (z : Sizes) (held : List Node) (a : CertRef) (ps : List CertRef) (x : CertRef) → IsAnchor z held a → IsPath z held a ps x → IsAnchor z held x
path_anchor z held a [] x anchor path = subst (IsAnchor z held) path anchor
path_anchor z held a (p ∷ ps) x anchor path = path_anchor z held p ps x path.0.earlier.anchor path.1

-- the sweep down to the floor has found the way
pub way_halts : (z : Sizes) (held : List Node) (last : CertRef) (back : List CertRef) (round level floor : ℕ) → IsAnchor z held last
    → floor < round → round ≤ floor + 1 → IsOnTheWay z held last back round level → IsWayTo z held last floor back
way_halts z held last back round level floor anchor above low way = record {
  x = way.x;
  path = way.path;
  anchor = path_anchor z held last back way.x anchor way.path;
  above = let b : round ≤ way.x.round = way.below in omega arith;
  rest = λ b h. let p : b.round < round = way.passed b h in omega arith;
}

pub path_way : (z : Sizes) (held : List Node) (a : CertRef) (ps : List CertRef) (x : CertRef) (xs : List CertRef) → IsPath z held a ps x → IsWayBack z held x xs → IsWayBack z held a (ps ++ xs)
path_way z held a [] x xs path way = subst (λ (q : CertRef). IsWayBack z held q xs) (sym path) way
path_way z held a (p ∷ ps) x xs path way = (path.0, path_way z held p ps x xs path.1 way)

-- from the end of the way on it is the way back of what was committed before
way_joins : (z : Sizes) (held part : List Node) (old xs : List CertRef) → IsClear held → IsPartOf part held → reverse old ≡ xs → IsCommittedBack z part xs
    → (last : CertRef) (back : List CertRef) (way : IsWayTo z held last (newest_in old) back) → IsWayBack z held way.x xs
way_joins z held part old [] clear within e were last back way = λ b h.
    let low : b.round ≤ newest_in old = way.rest b h in
    let none : newest_in old ≡ 0 = newest_none old e in
    let some : 0 < b.round = present_low z held b h.anchor.present in absurd (omega arith)
way_joins z held part old (c ∷ ps) clear within e were last back way =
    let is : newest_in old ≡ c.round = newest_back old c ps e in
    let above : newest_in old < way.x.round = way.above in
    let prior : IsPrior z held way.x c = record {
      earlier = voted_earlier z held clear c way.x (voted_more z part held within c were.0.voted) way.anchor (omega arith);
      greatest = λ b h. let low : b.round ≤ newest_in old = way.rest b h in omega arith;
    } in
    (prior, way_back_more z part held within clear c ps were.0.voted.anchor.present were.1)

-- a new last anchor, and the way back from it to those committed before
pub goes_on : (z : Sizes) (held : List Node) (old : List CertRef) → IsClear held → WereCommitted z held old
    → (last : CertRef) (back : List CertRef) → IsLast z held last → IsWayTo z held last (newest_in old) back → IsCommitted z held (old ++ (reverse back ++ last ∷ []))
goes_on z held old clear (part, within, were) last back is way =
    let front : reverse (reverse back ++ last ∷ []) ≡ last ∷ back = reverse-append (reverse back) (last ∷ []) ∙ ap (λ (xs : List CertRef). last ∷ xs) (reverse-reverse back) in
    let all : reverse (old ++ (reverse back ++ last ∷ [])) ≡ last ∷ (back ++ reverse old) = reverse-append old (reverse back ++ last ∷ []) ∙ ap (λ (xs : List CertRef). xs ++ reverse old) front in
    subst (IsCommittedBack z held) (sym all)
    (is, path_way z held last back way.x (reverse old) way.path (way_joins z held part old (reverse old) clear within refl were last back way))

-- nothing above is voted, and so all is as it was
stays_back : (z : Sizes) (held part : List Node) (old xs : List CertRef) → IsClear held → IsPartOf part held → reverse old ≡ xs → IsCommittedBack z part xs
    → ((a : CertRef) → IsVoted z held a → a.round ≤ newest_in old) → IsCommittedBack z held xs
stays_back z held part old [] clear within e were low = λ a v.
    let top : a.round ≤ newest_in old = low a v in
    let none : newest_in old ≡ 0 = newest_none old e in
    let some : 0 < a.round = present_low z held a v.anchor.present in absurd (omega arith)
stays_back z held part old (c ∷ ps) clear within e were low =
    let is : newest_in old ≡ c.round = newest_back old c ps e in (
      record {
        voted = voted_more z part held within c were.0.voted;
        greatest = λ b v. let top : b.round ≤ newest_in old = low b v in omega arith;
      },
      way_back_more z part held within clear c ps were.0.voted.anchor.present were.1,
    )

pub stays : (z : Sizes) (held : List Node) (old : List CertRef) → IsClear held → WereCommitted z held old
    → ((a : CertRef) → IsVoted z held a → a.round ≤ newest_in old) → IsCommitted z held (old ++ [])
stays z held old clear (part, within, were) low =
    subst (λ (xs : List CertRef). IsCommitted z held xs) (sym (append-nil old)) (stays_back z held part old (reverse old) clear within refl were low)

-- nothing was committed of nothing
pub none_were : (z : Sizes) (held : List Node) → WereCommitted z held []
none_were z held = ([], (λ c h. absurd (none_in_nil c h)), λ a v. absurd (none_there v.anchor.present))
  where
    none_there : {a : CertRef} → IsPresent z [] a → ⊥
    none_there (c, at) = none_in_nil c (admitted_held z [] c.header.round c at.admitted)
