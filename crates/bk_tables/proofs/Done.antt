-- Texts that are put one after another: the front of a whole.
use Rattle.std.proofs.Common.{◌≡◌, ℕ, ◌+◌, ◌≤◌, List, [], ◌++◌, sym, ap, subst, ◌∙◌, append_assoc}
use Rattle.std.proofs.lemmas.List.{append-nil}
use Rattle.bk_frames.specs.Device.{Device}
use Rattle.bk_report.specs.Pages.{Desk, HasPut, IsReady, Puts}
use Rattle.bk_report.proofs.Putting.{puts_as, puts_nothing, puts_then, puts_within}

-- the front of a text was put, all but this rest
pub record IsDone (a b : Desk) (most : ℕ) (whole rest : List ℕ) : Type 0 where
  pub front : List ℕ
  pub puts : Puts a b most front
  pub adds : front ++ rest ≡ whole

-- nothing was put
pub begun : {a : Desk} (most : ℕ) (whole rest : List ℕ) → IsReady a → rest ≡ whole → IsDone a a most whole rest
begun {a} most whole rest ready e = record { front = []; puts = puts_nothing most ready; adds = e }

-- one text more
pub next_done : {a b c : Desk} {m n : ℕ} {whole rest : List ℕ} (most : ℕ) (text more : List ℕ) → rest ≡ text ++ more → IsDone a b m whole rest → Puts b c n text → m + n ≤ most → IsDone a c most whole more
next_done {a} {b} {c} {m} {n} {whole} {rest} most text more e h put few = record {
  front = h.front ++ text;
  puts = puts_within most (puts_then h.puts put) few;
  adds = append_assoc h.front text more ∙ ap (λ (t : List ℕ). h.front ++ t) (sym e) ∙ h.adds;
}

-- no text is left
pub all_done : {a b : Desk} {m : ℕ} {whole rest : List ℕ} (most : ℕ) → rest ≡ [] → IsDone a b m whole rest → m ≤ most → Puts a b most whole
all_done {a} {b} {m} {whole} {rest} most e h few = puts_as most whole h.puts few (sym (append-nil h.front) ∙ ap (λ (t : List ℕ). h.front ++ t) (sym e) ∙ h.adds)

-- the same rest by other words
pub same_rest : {a b : Desk} {m : ℕ} {whole rest : List ℕ} (rest' : List ℕ) → rest ≡ rest' → IsDone a b m whole rest → IsDone a b m whole rest'
same_rest {a} {b} {m} {whole} {rest} rest' e h = subst (λ (t : List ℕ). IsDone a b m whole t) e h

-- what was put stays where nothing more is put
pub still_put : {p q : Desk} {m : ℕ} (start : Device) (text : List ℕ) → Puts p q m [] → HasPut start p text → HasPut start q text
still_put {p} {q} {m} start text put h = subst (HasPut start q) (append-nil text) (put.put start text h)
