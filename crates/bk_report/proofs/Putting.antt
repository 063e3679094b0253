-- Texts that are put one after another.
use Rattle.std.proofs.Common.{◌≡◌, ℕ, zero, suc, ◌+◌, ◌-◌, ◌^◌, ◌<◌, ◌≤◌, Bool, false, true, List, [], ◌∷◌, ◌++◌, length, min, take, drop, Some, refl, sym, ap, subst, ◌∙◌, append_assoc, length-append, arith}
use Rattle.bk_frames.specs.Device.{CanBeUsed, Device, Works, Fails, Receives}
use Rattle.bk_frames.specs.Writing.{StopsWriting, Writes}
use Rattle.bk_frames.specs.declared.writing.WriteFault.{WriteFault}
use Rattle.std.proofs.lemmas.List.{append-nil, take-append-drop, length-take, length-drop, take_all, take_at}
use Rattle.bk_frames.proofs.Devices.{appends_then}
use Rattle.std.specs.Prelude.{slice_get, Option, None}
use Rattle.std.specs.Io.KnownBytes.{Appends}
use Rattle.std.proofs.lemmas.List.Concat.{flat_map-append, flat_map-cons}
use Rattle.bk_report.specs.declared.line.Line.{Line}
use Rattle.bk_report.specs.Lines.{line_text, text_of}
use Rattle.bk_report.specs.Pages.{Desk, PageValue, HasPut, IsCut, IsOut, IsPut, IsReady, Puts, blank, desk}

-- ---- one text after another

-- nothing is put where nothing changes
pub puts_nothing : {p : Desk} (most : ℕ) → IsReady p → Puts p p most []
puts_nothing {p} most ready = record {
  ready = ready;
  short = omega arith;
  put = λ start before h. subst (λ (t : List ℕ). HasPut start p t) (sym (append-nil before)) h;
}

-- two texts in turn are one
pub puts_then : {p q r : Desk} {m n : ℕ} {xs ys : List ℕ} → Puts p q m xs → Puts q r n ys → Puts p r (m + n) (xs ++ ys)
puts_then {p} {q} {r} {m} {n} {xs} {ys} one other = record {
  ready = other.ready;
  short = omega (arith, one.short, other.short, length-append xs ys);
  put = λ start before h. subst (λ (t : List ℕ). HasPut start r t) (append_assoc before xs ys) (other.put start (before ++ xs) (one.put start before h));
}

-- a text is put as another that it is
pub puts_as : {p q : Desk} {m : ℕ} {xs : List ℕ} (most : ℕ) (ys : List ℕ) → Puts p q m xs → m ≤ most → xs ≡ ys → Puts p q most ys
puts_as {p} {q} {m} {xs} most ys one few same = record {
  ready = one.ready;
  short = subst (λ (t : List ℕ). length t ≤ most) same (omega (arith, one.short, few));
  put = λ start before h. subst (λ (t : List ℕ). HasPut start q (before ++ t)) same (one.put start before h);
}

-- ---- what goes onto a page, and out

-- a sink that works
still_out : (start : Device) (page : PageValue) (sink : Device) (text : List ℕ) → page.failed ≡ false → IsPut page.failed start (desk page sink) text → IsOut start (desk page sink) text
still_out start page sink text works h = subst (λ (f : Bool). IsPut f start (desk page sink) text) works h

-- the front of a text that can be counted
front_short : (xs ys : List ℕ) → length (xs ++ ys) < 2 ^ 62 → length xs < 2 ^ 62
front_short xs ys short = omega (arith, short, length-append xs ys)

-- a text that ends a cut one is lost
cut_more : (start : Device) (p q : PageValue) (sink : Device) (before text : List ℕ) → q.out ≡ p.out → IsCut start (desk p sink) before → IsCut start (desk q sink) (before ++ text)
cut_more start p q sink before text out cut = record {
  fails = cut.fails;
  pushed = cut.pushed;
  rest = cut.rest ++ text;
  gave = cut.gave;
  whole = ap (λ (t : List ℕ). t ++ text) cut.whole ∙ append_assoc cut.pushed cut.rest text;
  some = omega (arith, cut.some, length-append cut.rest text);
  count = out ∙ cut.count;
}

-- a text that is put after the sink failed is lost
pub puts_lost : (p q : PageValue) (sink : Device) (text : List ℕ) → p.failed ≡ true → q.failed ≡ true → q.out ≡ p.out → Puts (desk p sink) (desk q sink) (length text) text
puts_lost p q sink text was is out = record {
  ready = λ not. absurd cc;
  short = omega arith;
  put = λ start before h wide.
      let cut : IsCut start (desk p sink) before = subst (λ (f : Bool). IsPut f start (desk p sink) before) was (h (front_short before text wide)) in
      subst (λ (f : Bool). IsPut f start (desk q sink) (before ++ text)) (sym is) (cut_more start p q sink before text out cut);
}

-- what is behind the bytes of a page was put, whether the sink has failed or not
behind : (start : Device) (p q : PageValue) (sink : Device) (before text : List ℕ) (failed : Bool) → q.out ≡ p.out → q.bytes ≡ p.bytes ++ text → IsPut failed start (desk p sink) before → IsPut failed start (desk q sink) (before ++ text)
behind start p q sink before text false out bytes h = record {
  works = h.works;
  pushed = h.pushed;
  gave = h.gave;
  whole = ap (λ (t : List ℕ). t ++ text) h.whole ∙ append_assoc h.pushed p.bytes text ∙ ap (λ (t : List ℕ). h.pushed ++ t) (sym bytes);
  count = out ∙ h.count;
}
behind start p q sink before text true out bytes h = cut_more start p q sink before text out h

-- a text that is put behind the bytes of a page
pub puts_behind : (p q : PageValue) (sink : Device) (most : ℕ) (text : List ℕ) → IsReady (desk p sink) → length text ≤ most → q.failed ≡ p.failed → q.out ≡ p.out → q.bytes ≡ p.bytes ++ text → Puts (desk p sink) (desk q sink) most text
puts_behind p q sink most text ready short same out bytes = record {
  ready = λ works. ready (sym same ∙ works);
  short = short;
  put = λ start before h wide. subst (λ (f : Bool). IsPut f start (desk q sink) (before ++ text)) (sym same) (behind start p q sink before text p.failed out bytes (h (front_short before text wide)));
}

-- what is on a page goes out, and a text after it
pub puts_out : (p q : PageValue) (old new : Device) (text bytes : List ℕ) (n : ℕ) → bytes ≡ p.bytes ++ text → n ≡ length bytes → p.failed ≡ false → q.failed ≡ false → CanBeUsed old → Works old new → Receives old new bytes → q.bytes ≡ []
    → q.out ≡ min (p.out + n) (2 ^ 64 - 1) → Puts (desk p old) (desk q new) (length text) text
puts_out p q old new text bytes n are many was is sound works gave none out = record {
  ready = λ _. omega (arith, sound, works);
  short = omega arith;
  put = λ start before h wide.
      let first = still_out start p old before was (h (front_short before text wide)) in
      let whole : before ++ text ≡ first.pushed ++ bytes = ap (λ (t : List ℕ). t ++ text) first.whole ∙ append_assoc first.pushed p.bytes text ∙ ap (λ (t : List ℕ). first.pushed ++ t) (sym are) in
      let pushed : List ℕ = first.pushed ++ bytes in
      let all : IsOut start (desk q new) (before ++ text) = record {
        works = works ∙ first.works;
        pushed = pushed;
        gave = appends_then start.bytes old.bytes new.bytes first.pushed bytes first.gave gave;
        whole = whole ∙ sym (append-nil pushed) ∙ ap (λ (t : List ℕ). pushed ++ t) (sym none);
        count = omega (arith, out, many, first.count, wide, ap length whole, length-append first.pushed bytes);
      } in
      subst (λ (f : Bool). IsPut f start (desk q new) (before ++ text)) (sym is) all;
}

-- the sink fails on the way
pub puts_part : (p q : PageValue) (old new : Device) (text bytes : List ℕ) (n : ℕ) → bytes ≡ p.bytes ++ text → p.failed ≡ false → q.failed ≡ true → Fails old new → Receives old new (take n bytes) → n < length bytes
    → q.out ≡ min (p.out + n) (2 ^ 64 - 1) → Puts (desk p old) (desk q new) (length text) text
puts_part p q old new text bytes n are was is fails gave short out = record {
  ready = λ not. absurd cc;
  short = omega arith;
  put = λ start before h wide.
      let first = still_out start p old before was (h (front_short before text wide)) in
      let whole : before ++ text ≡ first.pushed ++ bytes = ap (λ (t : List ℕ). t ++ text) first.whole ∙ append_assoc first.pushed p.bytes text ∙ ap (λ (t : List ℕ). first.pushed ++ t) (sym are) in
      let part : IsCut start (desk q new) (before ++ text) = record {
        fails = fails ∙ ap (λ (k : ℕ). k + 1) first.works;
        pushed = first.pushed ++ take n bytes;
        rest = drop n bytes;
        gave = appends_then start.bytes old.bytes new.bytes first.pushed (take n bytes) first.gave gave;
        whole = whole ∙ ap (λ (t : List ℕ). first.pushed ++ t) (sym (take-append-drop n bytes)) ∙ sym (append_assoc first.pushed (take n bytes) (drop n bytes));
        some = omega (arith, length-drop n bytes, short);
        count = omega (arith, out, first.count, wide, ap length whole, short, length-append first.pushed bytes, length-append first.pushed (take n bytes), length-take n bytes);
      } in
      subst (λ (f : Bool). IsPut f start (desk q new) (before ++ text)) (sym is) part;
}

-- ---- the end

appends_none : (bytes : Option (List ℕ)) → Appends bytes bytes []
appends_none None = tt
appends_none (Some bytes) = sym (append-nil bytes)

-- all that was put on an empty page
pub put_all : {page : PageValue} {sink : Device} {q : Desk} {most : ℕ} {text : List ℕ} → page ≡ blank → Puts (desk page sink) q most text → HasPut sink q text
put_all {page} {sink} {q} {most} {text} empty put =
    let nothing : IsOut sink (desk blank sink) [] = record { works = refl; pushed = []; gave = appends_none sink.bytes; whole = refl; count = refl } in
    put.put sink [] (λ _. subst (λ (p : PageValue). IsPut p.failed sink (desk p sink) []) (sym empty) nothing)

-- what was put before the page went out
ended : (start : Device) (p q : Desk) (text : List ℕ) → Puts p q 0 [] → HasPut start p text → length text < 2 ^ 62 → IsPut q.page.failed start q text
ended start p q text put h wide = subst (λ (t : List ℕ). HasPut start q t) (append-nil text) (put.put start text h) wide

-- all of it is out
pub end_works : (start : Device) (p q : Desk) (text : List ℕ) → Puts p q 0 [] → HasPut start p text → length text < 2 ^ 62 → q.page.failed ≡ false → q.page.bytes ≡ [] → Writes text start q.sink
end_works start p q text put h wide is none =
    let out : IsOut start q text = subst (λ (f : Bool). IsPut f start q text) is (ended start p q text put h wide) in
    (out.works, subst (λ (t : List ℕ). Receives start q.sink t) (sym (out.whole ∙ ap (λ (t : List ℕ). out.pushed ++ t) none ∙ append-nil out.pushed)) out.gave)

-- the sink failed
pub end_stops : (start : Device) (p q : Desk) (text : List ℕ) (e : WriteFault) → Puts p q 0 [] → HasPut start p text → length text < 2 ^ 62 → q.page.failed ≡ true → e.written ≡ q.page.out → StopsWriting e text start q.sink
end_stops start p q text e put h wide is count =
    let cut : IsCut start q text = subst (λ (f : Bool). IsPut f start q text) is (ended start p q text put h wide) in
    let front : take e.written text ≡ cut.pushed = ap (λ (t : List ℕ). take e.written t) cut.whole ∙ take_at cut.pushed cut.rest e.written (sym (count ∙ cut.count)) in record {
      fails = cut.fails;
      short = omega (arith, count, cut.count, cut.some, ap length cut.whole, length-append cut.pushed cut.rest);
      out = subst (λ (t : List ℕ). Receives start q.sink t) (sym front) cut.gave;
    }

-- ---- lines one after another

-- one item more of a list
pub take_next : {A : Type 0} (xs : List A) (i : ℕ) (a : A) → slice_get xs i ≡ Some a → take (i + 1) xs ≡ take i xs ++ a ∷ []
take_next [] i a e = absurd cc
take_next (x ∷ xs) zero a e = let same : x ≡ a = cc in ap (λ b. b ∷ []) same
take_next (x ∷ xs) (suc i) a e = let k : suc i + 1 ≡ suc (i + 1) = omega arith in rw k (ap (λ t. x ∷ t) (take_next xs i a e))

-- one line more
pub text_next : (lines : List Line) (i : ℕ) (l : Line) → slice_get lines i ≡ Some l → text_of (take (i + 1) lines) ≡ text_of (take i lines) ++ (line_text l ++ 10 ∷ [])
text_next lines i l e =
    ap text_of (take_next lines i l e) ∙ flat_map-append (λ (x : Line). line_text x ++ 10 ∷ []) (take i lines) (l ∷ [])
    ∙ ap (λ (t : List ℕ). text_of (take i lines) ++ t) (flat_map-cons (λ (x : Line). line_text x ++ 10 ∷ []) l [] ∙ append-nil (line_text l ++ 10 ∷ []))

-- a line is put after the lines before it
pub line_put : {p q r : Desk} {m : ℕ} (most : ℕ) (lines : List Line) (i : ℕ) (l : Line) → slice_get lines i ≡ Some l → Puts p q m (text_of (take i lines)) → Puts q r 96 (line_text l ++ 10 ∷ []) → m + 96 ≤ most
    → Puts p r most (text_of (take (i + 1) lines))
line_put {p} {q} {r} {m} most lines i l e before put few = puts_as most (text_of (take (i + 1) lines)) (puts_then before put) few (sym (text_next lines i l e))

-- no line is left
pub lines_put : {p q : Desk} {m : ℕ} (most : ℕ) (lines : List Line) (i : ℕ) → length lines ≤ i → Puts p q m (text_of (take i lines)) → m ≤ most → Puts p q most (text_of lines)
lines_put most lines i le put few = puts_as most (text_of lines) put few (ap text_of (take_all i lines le))

-- a line alone
pub text_one : (l : Line) → line_text l ++ 10 ∷ [] ≡ text_of (l ∷ [])
text_one l = sym (flat_map-cons (λ (x : Line). line_text x ++ 10 ∷ []) l [] ∙ append-nil (line_text l ++ 10 ∷ []))

pub one_put : {p q : Desk} (l m : Line) → l ≡ m → Puts p q 96 (line_text l ++ 10 ∷ []) → Puts p q 96 (text_of (m ∷ []))
one_put l m same put = puts_as 96 (text_of (m ∷ [])) put (omega arith) (text_one l ∙ ap (λ (x : Line). text_of (x ∷ [])) same)

-- two groups of lines
pub groups_put : {p q r : Desk} {m n : ℕ} (xs ys : List Line) → Puts p q m (text_of xs) → Puts q r n (text_of ys) → Puts p r (m + n) (text_of (xs ++ ys))
groups_put {p} {q} {r} {m} {n} xs ys one other = puts_as (m + n) (text_of (xs ++ ys)) (puts_then one other) (omega arith) (sym (flat_map-append (λ (l : Line). line_text l ++ 10 ∷ []) xs ys))

-- with more room than they need
pub puts_within : {p q : Desk} {m : ℕ} {text : List ℕ} (most : ℕ) → Puts p q m text → m ≤ most → Puts p q most text
puts_within {p} {q} {m} {text} most put few = puts_as most text put few refl
