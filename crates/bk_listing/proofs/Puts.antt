-- Texts that are put one after another.
use Rattle.std.proofs.Common.{◌≡◌, ℕ, List, ◌++◌, sym, ap, ◌∙◌, append_assoc}

-- after a text a word, and what belongs to it
pub puts_word : (old text word more one two : List ℕ) → one ≡ old ++ text → two ≡ one ++ (word ++ more) → two ≡ old ++ ((text ++ word) ++ more)
puts_word old text word more one two e f =
    f ∙ ap (λ (t : List ℕ). t ++ (word ++ more)) e ∙ append_assoc old text (word ++ more) ∙ ap (λ (t : List ℕ). old ++ t) (sym (append_assoc text word more))
