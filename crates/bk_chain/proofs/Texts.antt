-- A text that is written in two parts.
use Rattle.std.proofs.Common.{◌≡◌, ℕ, List, ◌++◌, ap, ◌∙◌, append_assoc}

pub two_parts : (text one other first second : List ℕ) → first ≡ text ++ one → second ≡ first ++ other → second ≡ text ++ (one ++ other)
two_parts text one other first second e f = f ∙ (ap (λ (t : List ℕ). t ++ other) e ∙ append_assoc text one other)
