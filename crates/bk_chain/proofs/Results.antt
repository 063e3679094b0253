-- A text comes to exactly one of a fault and a verdict.
use Rattle.std.proofs.Common.{◌≡◌, ◌⊎◌, inl, inr, ℕ, suc, ◌+◌, ◌<◌, List, [], ◌∷◌, ◌++◌, length, map, Option, Some, None, Result, Ok, Err, refl, sym, ap, subst, ◌∙◌, arith}
use Rattle.std.specs.Prelude.{All}
use Rattle.std.proofs.lemmas.List.Elements.{All-nil, All-cons, All-head, All-tail}
use Rattle.std.proofs.lemmas.Bool.{cases_lt}
use Rattle.bk_chain.specs.declared.link.LinkValue.{LinkValue}
use Rattle.bk_chain.specs.declared.reading.TheConstants.{MOST_LINKS}
use Rattle.bk_chain.specs.declared.verdict.Verdict.{Verdict}
use Rattle.bk_chain.specs.Line.{Fits, IsNoLine, link_line}
use Rattle.bk_chain.specs.Chain.{AreLinks, HasLinksFault, IsVerdict, lines_in}
use Rattle.bk_chain.specs.Laws.{ComesTo, OneResult}
use Rattle.bk_chain.specs.private.Reading.{link_of}
use Rattle.bk_chain.proofs.LineWords.{line_is, line_is_none, one_link}
use Rattle.bk_chain.proofs.Verdicts.{head_same, one_verdict, some_verdict, tail_same}

-- ---- the lines of a text are links, up to a first that is none

-- all of these lines are those of links
abbrev pub AllAre : List (List ℕ) → Type 0
AllAre ls = (links : List LinkValue) × All Fits links × (ls ≡ map link_line links)

-- one of them is not, and those before it are
abbrev pub OneIsNot : List (List ℕ) → Type 0
OneIsNot ls = (before : List LinkValue) × (line : List ℕ) × (more : List (List ℕ)) × All Fits before × (ls ≡ map link_line before ++ line ∷ more) × IsNoLine line

lines_split : (ls : List (List ℕ)) → AllAre ls ⊎ OneIsNot ls
lines_split [] = inl ([], All-nil Fits, refl)
lines_split (line ∷ ls) = by_link (link_of line) refl (lines_split ls)
  where
    by_link : (o : Option LinkValue) → link_of line ≡ o → AllAre ls ⊎ OneIsNot ls → AllAre (line ∷ ls) ⊎ OneIsNot (line ∷ ls)
    by_link None e rest = inr ([], line, ls, All-nil Fits, refl, line_is_none line e)
    by_link (Some v) e (inl (links, fit, are)) =
        let is = line_is v line e in
        inl (v ∷ links, All-cons Fits v links is.0 fit, (λ i. is.1 i ∷ are i))
    by_link (Some v) e (inr (before, bad, more, fit, are, none)) =
        let is = line_is v line e in
        inr (v ∷ before, bad, more, All-cons Fits v before is.0 fit, (λ i. is.1 i ∷ are i), none)

pub last_apart : (v : LinkValue) (links : List LinkValue) → (front : List LinkValue) × (last : LinkValue) × (v ∷ links ≡ front ++ last ∷ [])
last_apart v [] = ([], v, refl)
last_apart v (w ∷ links) = let parts = last_apart w links in (v ∷ parts.0, parts.1, ap (λ (xs : List LinkValue). v ∷ xs) parts.2)

pub fits_front : (front : List LinkValue) (last : LinkValue) → All Fits (front ++ last ∷ []) → All Fits front
fits_front [] last all = All-nil Fits
fits_front (v ∷ front) last all =
    All-cons Fits v front (All-head Fits v (front ++ last ∷ []) all) (fits_front front last (All-tail Fits v (front ++ last ∷ []) all))

pub map_push : (front : List LinkValue) (last : LinkValue) → map link_line (front ++ last ∷ []) ≡ map link_line front ++ link_line last ∷ []
map_push [] last = refl
map_push (v ∷ front) last = ap (λ (xs : List (List ℕ)). link_line v ∷ xs) (map_push front last)

-- the last line of a text that is too long crosses the limit
crossing : (text : List ℕ) (v : LinkValue) (links : List LinkValue) → All Fits (v ∷ links) → lines_in text ≡ map link_line (v ∷ links) → MOST_LINKS < length text
    → (n : ℕ) × HasLinksFault text n
crossing text v links fit lines long =
    let parts = last_apart v links in (
      length parts.0 + 1,
      inr (record {
        before = parts.0;
        line = link_line parts.1;
        more = [];
        fit = fits_front parts.0 parts.1 (subst (All Fits) parts.2 fit);
        lines = lines ∙ (ap (map link_line) parts.2 ∙ map_push parts.0 parts.1);
        number = refl;
        bad = inr (refl, long);
      }),
    )

result_of : (text : List ℕ) (links : List LinkValue) → All Fits links → lines_in text ≡ map link_line links → (r : Result Verdict ℕ) × ComesTo text r
result_of text [] fit lines = (Err 1, inl (lines, refl))
result_of text (v ∷ links) fit lines =
    elim (cases_lt MOST_LINKS (length text)) [
      | inl long ↦ let found = crossing text v links fit lines long in (Err found.0, found.1)
      | inr few ↦
          let found = some_verdict (v ∷ links) (omega arith) in
          (Ok found.0, record { links = v ∷ links; are = record { few = few; some = omega arith; fit = fit; lines = lines }; judged = found.1 })
    ]

some_result : (text : List ℕ) → AllAre (lines_in text) ⊎ OneIsNot (lines_in text) → (r : Result Verdict ℕ) × ComesTo text r
some_result text (inl (links, fit, are)) = result_of text links fit are
some_result text (inr (before, line, more, fit, are, none)) =
    (Err (length before + 1), inr (record { before = before; line = line; more = more; fit = fit; lines = are; number = refl; bad = inl none }))

-- ---- there are no two

pub same_links : (xs ys : List LinkValue) → All Fits xs → All Fits ys → map link_line xs ≡ map link_line ys → xs ≡ ys
same_links [] [] f g e = refl
same_links [] (y ∷ ys) f g e = absurd cc
same_links (x ∷ xs) [] f g e = absurd cc
same_links (x ∷ xs) (y ∷ ys) f g e =
    let first = head_same (link_line x) (link_line y) (map link_line xs) (map link_line ys) e in
    let same = one_link x y (link_line x) (All-head Fits x xs f, refl) (All-head Fits y ys g, first) in
    let rest = same_links xs ys (All-tail Fits x xs f) (All-tail Fits y ys g) (tail_same (link_line x) (link_line y) (map link_line xs) (map link_line ys) e) in
    (λ i. same i ∷ rest i)

not_empty : {A : Type 0} (xs : List A) (x : A) (ys : List A) → [] ≡ xs ++ x ∷ ys → ⊥
not_empty [] x ys e = absurd cc
not_empty (y ∷ xs) x ys e = absurd cc

-- a line that is none, or the last one
abbrev pub IsBad : List ℕ → List (List ℕ) → Type 0
IsBad line more = IsNoLine line ⊎ (more ≡ [])

none_here : (v : LinkValue) (line : List ℕ) (more rest : List (List ℕ)) (x : List ℕ) (xs : List LinkValue) → Fits v → line ∷ more ≡ link_line v ∷ (map link_line xs ++ x ∷ rest) → IsBad line more → ⊥
none_here v line more rest x xs fit e (inl none) = none v (fit, head_same line (link_line v) more (map link_line xs ++ x ∷ rest) e)
none_here v line more rest x xs fit e (inr last) =
    not_empty (map link_line xs) x rest (sym last ∙ tail_same line (link_line v) more (map link_line xs ++ x ∷ rest) e)

one_bad : (xs ys : List LinkValue) (a b : List ℕ) (more rest : List (List ℕ)) → All Fits xs → All Fits ys → map link_line xs ++ a ∷ more ≡ map link_line ys ++ b ∷ rest
    → IsBad a more → IsBad b rest → length xs ≡ length ys
one_bad [] [] a b more rest f g e h k = refl
one_bad [] (y ∷ ys) a b more rest f g e h k = absurd (none_here y a more rest b ys (All-head Fits y ys g) e h)
one_bad (x ∷ xs) [] a b more rest f g e h k = absurd (none_here x b rest more a xs (All-head Fits x xs f) (sym e) k)
one_bad (x ∷ xs) (y ∷ ys) a b more rest f g e h k =
    ap suc (one_bad xs ys a b more rest (All-tail Fits x xs f) (All-tail Fits y ys g) (tail_same (link_line x) (link_line y) (map link_line xs ++ a ∷ more) (map link_line ys ++ b ∷ rest) e) h k)

bad_of : (text : List ℕ) (line : List ℕ) (more : List (List ℕ)) → IsNoLine line ⊎ ((more ≡ []) × (MOST_LINKS < length text)) → IsBad line more
bad_of text line more (inl none) = inl none
bad_of text line more (inr (last, long)) = inr last

one_fault : (text : List ℕ) (n m : ℕ) → HasLinksFault text n → HasLinksFault text m → n ≡ m
one_fault text n m (inl (none, e)) (inl (also, f)) = e ∙ sym f
one_fault text n m (inl (none, e)) (inr bad) = absurd (not_empty (map link_line bad.before) bad.line bad.more (sym none ∙ bad.lines))
one_fault text n m (inr bad) (inl (none, e)) = absurd (not_empty (map link_line bad.before) bad.line bad.more (sym none ∙ bad.lines))
one_fault text n m (inr one) (inr other) =
    let same = one_bad one.before other.before one.line other.line one.more other.more one.fit other.fit (sym one.lines ∙ other.lines) (bad_of text one.line one.more one.bad) (bad_of text other.line other.more other.bad) in
    omega (arith, same, one.number, other.number)

-- a bad line is not among the lines of links
no_bad : (xs links : List LinkValue) (line : List ℕ) (more : List (List ℕ)) → All Fits links → map link_line links ≡ map link_line xs ++ line ∷ more → IsNoLine line → ⊥
no_bad [] [] line more f e none = absurd cc
no_bad [] (v ∷ links) line more f e none = none v (All-head Fits v links f, sym (head_same (link_line v) line (map link_line links) more e))
no_bad (x ∷ xs) [] line more f e none = absurd cc
no_bad (x ∷ xs) (v ∷ links) line more f e none =
    no_bad xs links line more (All-tail Fits v links f) (tail_same (link_line v) (link_line x) (map link_line links) (map link_line xs ++ line ∷ more) e) none

no_lines : (links : List LinkValue) → 0 < length links → [] ≡ map link_line links → ⊥
no_lines [] some e = absurd (omega arith)
no_lines (v ∷ links) some e = absurd cc

not_both : (text : List ℕ) (links : List LinkValue) (n : ℕ) → AreLinks text links → HasLinksFault text n → ⊥
not_both text links n are (inl (none, e)) = no_lines links are.some (sym none ∙ are.lines)
not_both text links n are (inr bad) = by_kind bad.bad
  where
    by_kind : IsNoLine bad.line ⊎ ((bad.more ≡ []) × (MOST_LINKS < length text)) → ⊥
    by_kind (inl none) = no_bad bad.before links bad.line bad.more are.fit (sym are.lines ∙ bad.lines) none
    by_kind (inr (last, long)) = absurd (omega (arith, long, are.few))

same_result : (text : List ℕ) (r other : Result Verdict ℕ) → ComesTo text r → ComesTo text other → other ≡ r
same_result text (Ok v) (Ok w) h k =
    let same = same_links k.links h.links k.are.fit h.are.fit (sym k.are.lines ∙ h.are.lines) in
    ap Ok (one_verdict h.links w v (subst (λ (xs : List LinkValue). IsVerdict xs w) same k.judged) h.judged)
same_result text (Ok v) (Err n) h k = absurd (not_both text h.links n h.are k)
same_result text (Err n) (Ok v) h k = absurd (not_both text k.links n k.are h)
same_result text (Err n) (Err m) h k = ap Err (one_fault text m n k h)

pub one_result : OneResult
one_result text =
    let found = some_result text (lines_split (lines_in text)) in
    (found.0, found.1, λ other k. same_result text found.0 other found.1 k)
