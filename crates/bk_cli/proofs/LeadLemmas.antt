-- How many options a list of words begins with, word by word.
use Rattle.std.proofs.Common.{◌≡◌, ◌∙◌, ℕ, ◌+◌, ◌<◌, sym, ap, List, true, false, map, length, arith}
use Rattle.std.specs.Prelude.{drop, get_or}
use Rattle.std.proofs.Math.ListN.{get_or-map}
use Rattle.std.proofs.lemmas.List.{length-map}
use Rattle.std.proofs.lemmas.List.Sums.{prefix_len-drop_no, prefix_len-drop_yes}
use Rattle.clap.specs.Words.{Text}
use Rattle.bk_cli.specs.Words.{is_common, lead}

module _ {X : Type 0} (text : X → Text) (xs : List X) (i : ℕ) (x : X) (is : x ≡ get_or xs i x) (inside : i < length xs) where
  here : get_or (map text xs) i (text x) ≡ text x
  here = get_or-map text xs i x ∙ ap text (sym is)

  within : i < length (map text xs)
  within = omega (arith, inside, length-map xs text)

  -- a word that is no option ends them
  pub ends_here : is_common (text x) ≡ false → lead (drop i (map text xs)) ≡ 0
  ends_here none = prefix_len-drop_no is_common (map text xs) i (text x) within (ap is_common here ∙ none)

  -- an option is one of them
  pub goes_on : is_common (text x) ≡ true → lead (drop i (map text xs)) ≡ 1 + lead (drop (i + 1) (map text xs))
  goes_on one = prefix_len-drop_yes is_common (map text xs) i (text x) within (ap is_common here ∙ one)
