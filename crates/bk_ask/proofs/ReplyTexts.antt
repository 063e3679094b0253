-- The texts of replies.
use Rattle.std.proofs.Common.{◌≡◌, ℕ, ◌+◌, ◌≤◌, List, [], ◌∷◌, ◌++◌, length, map, take, Some, sym, ap, ◌∙◌, append_assoc}
use Rattle.std.specs.Prelude.{slice_get}
use Rattle.std.proofs.lemmas.List.{take_all}
use Rattle.bk_report.specs.declared.line.Line.{Line}
use Rattle.bk_report.specs.Lines.{line_text, text_of}
use Rattle.bk_report.proofs.LineGroups.{all_items}
use Rattle.bk_report.proofs.Putting.{text_next, text_one}

-- a text of one line
pub one_line : (before after : List ℕ) (l : Line) → before ≡ [] → after ≡ before ++ (line_text l ++ 10 ∷ []) → after ≡ text_of (l ∷ [])
one_line before after l none e = e ∙ ap (λ (t : List ℕ). t ++ (line_text l ++ 10 ∷ [])) none ∙ text_one l

-- one line more of a text
pub line_more : (lines : List Line) (i : ℕ) (start before after : List ℕ) (l : Line) → slice_get lines i ≡ Some l → before ≡ start ++ text_of (take i lines) → after ≡ before ++ (line_text l ++ 10 ∷ [])
    → after ≡ start ++ text_of (take (i + 1) lines)
line_more lines i start before after l is e put =
    put ∙ ap (λ (t : List ℕ). t ++ (line_text l ++ 10 ∷ [])) e ∙ append_assoc start (text_of (take i lines)) (line_text l ++ 10 ∷ []) ∙ ap (λ (t : List ℕ). start ++ t) (sym (text_next lines i l is))

-- no line is left
pub lines_whole : {A : Type 0} (line_of : A → Line) (xs : List A) (i : ℕ) (start text : List ℕ) → length xs ≤ i → text ≡ start ++ text_of (take i (map line_of xs)) → text ≡ start ++ text_of (map line_of xs)
lines_whole line_of xs i start text high e = e ∙ ap (λ (ls : List Line). start ++ text_of ls) (take_all i (map line_of xs) (all_items line_of xs i high))
