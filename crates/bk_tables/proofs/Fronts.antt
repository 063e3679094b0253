-- A page with a text in front of it.
use Rattle.std.proofs.Common.{◌≡◌, ◌⊎◌, inl, inr, ◌∙◌, ℕ, List, [], ◌∷◌, ◌++◌, length, refl, sym, ap, subst, append-nil, length-append, arith}
use Rattle.std.specs.Prelude.{Result, Ok, Err}
use Rattle.bk_frames.specs.Device.{Device, Receives, Works}
use Rattle.bk_frames.specs.declared.writing.WriteFault.{WriteFault}
use Rattle.bk_report.specs.Pages.{Desk, HasPut, IsOut, IsReady, PageValue, Puts, Written, blank, desk}
use Rattle.bk_report.proofs.Putting.{puts_as, puts_nothing, puts_then}
use Rattle.bk_tables.specs.Kinds.{OfAllPut, WrittenOrWaits}
use Rattle.bk_tables.specs.private.Sheets.{with_front}

pub no_items : (front : List ℕ) → length front ≡ 0 → front ≡ []
no_items [] e = refl
no_items (b ∷ front) e = absurd (omega (arith, e))

-- nothing is in front
pub front_none : (a : Device) (front : List ℕ) (p : PageValue) → front ≡ [] → IsReady (desk p a) → Puts (desk (with_front front p) a) (desk p a) 0 []
front_none a front p e ready = subst (λ (t : List ℕ). Puts (desk (with_front t p) a) (desk p a) 0 []) (sym e) (puts_nothing 0 ready)

-- what was put since a moment, where all of a page is the text in front
module _ (start a : Device) (front text : List ℕ) (h : IsOut start (desk (with_front front blank) a) text) where
  before_front : HasPut start (desk blank a) h.pushed
  before_front _ = record { works = h.works; pushed = h.pushed; gave = h.gave; whole = sym (append-nil h.pushed); count = h.count }

  with_it : h.pushed ++ front ≡ text ++ []
  with_it = ap (λ (t : List ℕ). h.pushed ++ t) (sym (append-nil front)) ∙ sym h.whole ∙ sym (append-nil text)

-- the text in front is put
pub front_put : (a : Device) (d : Desk) (front text : List ℕ) (p : PageValue) → p ≡ blank → text ≡ front → Puts (desk p a) d (length text) text → Puts (desk (with_front front p) a) d 0 []
front_put a d front text p e same put =
    let h : Puts (desk blank a) d (length front) front = subst (λ (x : PageValue × List ℕ). Puts (desk x.0 a) d (length x.1) x.1) (λ i. (e i, same i)) put in
    subst (λ (r : PageValue). Puts (desk (with_front front r) a) d 0 []) (sym e) (record {
      ready = h.ready;
      short = omega arith;
      put = λ start before old wide.
          let o : IsOut start (desk (with_front front blank) a) before = old (omega (arith, wide, length-append before [])) in
          subst (HasPut start d) (with_it start a front before o) (h.put start o.pushed (before_front start a front before o)) wide;
    })

-- a text after the one in front
pub text_after : {p q : Desk} {m : ℕ} {text : List ℕ} (b : Device) (front : List ℕ) (r : PageValue) → front ≡ [] → Puts p q 0 [] → Puts q (desk r b) m text → Puts p (desk (with_front front r) b) m text
text_after {p} {q} {m} {text} b front r none first last = subst (λ (t : List ℕ). Puts p (desk (with_front t r) b) m text) (sym none) (puts_as m text (puts_then first last) (omega arith) refl)

-- ---- what goes out

-- all goes out, the rows too
pub all_rows_out : {X : Type 0} (result : Result X WriteFault) (old : Desk) (new : Device) → OfAllPut old (λ start text. Written result start new text) → OfAllPut old (λ start text. WrittenOrWaits result start new text)
all_rows_out {X} (Ok x) old new out = λ start text h short. let w = out start text h short in (w.0, inr w.1)
all_rows_out {X} (Err e) old new out = out

-- the text in front waits
pub front_waits : (a : Device) (front : List ℕ) (p : PageValue) → p ≡ blank → OfAllPut (desk (with_front front p) a) (λ start text. Works start a × (Receives start a [] ⊎ Receives start a text))
front_waits a front p e start text h short =
    let o : IsOut start (desk (with_front front blank) a) text = subst (λ (r : PageValue). HasPut start (desk (with_front front r) a) text) e h short in
    (o.works, inl (subst (Receives start a) (no_items o.pushed (sym o.count)) o.gave))
