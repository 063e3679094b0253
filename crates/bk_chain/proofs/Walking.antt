-- A text of links whose lines are taken in turn.
use Rattle.std.proofs.Common.{◌≡◌, inl, inr, ℕ, ◌+◌, ◌-◌, ◌<◌, ◌≤◌, ◌==◌, Bool, true, false, if◌then◌else◌, List, [], ◌∷◌, ◌++◌, length, get_or, map, take, drop, Err, refl, sym, ap, subst, ◌∙◌, append_assoc, arith, length-append}
use Rattle.std.specs.Prelude.{All}
use Rattle.std.proofs.lemmas.Bool.{eq-eqb, eqb-true}
use Rattle.std.proofs.lemmas.List.{take_all}
use Rattle.std.proofs.lemmas.List.Elements.{All-nil, All-push}
use Rattle.bk_script.specs.Words.{pieces, pieces_after}
use Rattle.bk_script.specs.Listing.{ended_lines, last_line, lines_of}
use Rattle.bk_script.proofs.Cuts.{goes_on}
use Rattle.bk_script.proofs.TextLines.{next_line, ended_begin, pieces_end, ended_all, last_of_all, lines_one, rest_is}
use Rattle.bk_chain.specs.declared.fault.ChainFault.{ChainFault}
use Rattle.bk_chain.specs.declared.fault.ChainFault.TheVariants as fault
use Rattle.bk_chain.specs.declared.link.LinkValue.{LinkValue}
use Rattle.bk_chain.specs.declared.reading.TheConstants.{MOST_LINKS}
use Rattle.bk_chain.specs.Line.{Fits, IsLineOf, link_line}
use Rattle.bk_chain.specs.Chain.{AreLinks, HasLinksFault, lines_in}
use Rattle.bk_chain.specs.private.Walking.{AreEnded, IsBadEnded, IsNoText, IsPushed, StopsInside}
use Rattle.bk_chain.proofs.Results.{fits_front, last_apart, map_push}

-- ---- while the lines are taken

-- the links of some lines are taken; the next line begins at `start` and goes on at `end`
abbrev pub HasWalked : List ℕ → List LinkValue → ℕ → ℕ → Type 0
HasWalked text links start end =
    (before : List (List ℕ)) × (before ++ pieces_after 10 (take (end - start) (drop start text)) (drop end text) ≡ pieces 10 text)
    × (before ≡ map link_line links) × All Fits links

pub none_walked : (text : List ℕ) (links : List LinkValue) → length links ≡ 0 → HasWalked text links 0 0
none_walked text [] none = ([], refl, refl, All-nil Fits)
none_walked text (v ∷ links) none = absurd (omega arith)

pub one_walked : (text line : List ℕ) (links more : List LinkValue) (start end : ℕ) → start ≤ end → end < length text → get_or text end 0 ≡ 10
    → line ≡ take (end - start) (drop start text) → ((v : LinkValue) × IsLineOf v line × (more ≡ links ++ v ∷ [])) → HasWalked text links start end
    → HasWalked text more (end + 1) (end + 1)
one_walked text line links more start end h l e cut (v, is, pushed) (before, parts, are, fit) =
    let lines : before ++ take (end - start) (drop start text) ∷ [] ≡ map link_line more =
    (λ i. are i ++ (sym cut ∙ is.1) i ∷ []) ∙ (sym (map_push links v) ∙ ap (map link_line) (sym pushed)) in
    (before ++ take (end - start) (drop start text) ∷ [], next_line before text start end h l e parts, lines, subst (All Fits) (sym pushed) (All-push Fits links v fit is.0))

pub pushed_few : (line : List ℕ) (links more : List LinkValue) (start end : ℕ) → ((v : LinkValue) × IsLineOf v line × (more ≡ links ++ v ∷ [])) → length links ≤ start → start ≤ end
    → length more ≤ end + 1
pushed_few line links more start end (v, is, pushed) few h = let n = ap length pushed in omega (arith, n, few, h, length-append links (v ∷ []))

pub none_ends : (text : List ℕ) (links : List LinkValue) (start end : ℕ) → start ≤ end → end < length text → (get_or text end 0 ≡ 10 → ⊥)
    → HasWalked text links start end → HasWalked text links start (end + 1)
none_ends text links start end h l e (before, parts, are, fit) = (before, goes_on before 10 text start end h l e parts, are, fit)

pub stops_walk : (text line : List ℕ) (links more : List LinkValue) (start end : ℕ) (e : ChainFault) → start ≤ end → end < length text → get_or text end 0 ≡ 10
    → line ≡ take (end - start) (drop start text) → IsPushed (Err e) links more line → HasWalked text links start end → StopsInside text e
stops_walk text line links more start end (fault.Links n) h l e cut bad (before, parts, are, fit) =
    let (rest, begins) = ended_begin before text start end h l e parts in
    record {
      before = links;
      line = line;
      more = rest;
      fit = fit;
      lines = begins ∙ (λ i. are i ++ sym cut i ∷ rest);
      number = bad.0;
      bad = bad.1;
    }
stops_walk text line links more start end fault.Read h l e cut bad walked = bad
stops_walk text line links more start end (fault.Write written) h l e cut bad walked = bad
stops_walk text line links more start end fault.Memory h l e cut bad walked = bad

pub all_walked : (text : List ℕ) (links : List LinkValue) (start end : ℕ) → length text ≤ end → start ≤ length text → length links ≤ start → HasWalked text links start end → AreEnded text links start
all_walked text links start end l within few (before, parts, are, fit) =
    let all = pieces_end before text start end l parts in
    record {
      fit = fit;
      lines = ended_all before text (drop start text) all ∙ are;
      few = few;
      within = within;
      rest = sym (last_of_all before text (drop start text) all);
    }

-- ---- the whole text

-- no more is left out than a byte past the limit
lines_whole : (text : List ℕ) → length text ≤ MOST_LINKS + 1 → lines_in text ≡ lines_of text
lines_whole text few = ap lines_of (take_all (MOST_LINKS + 1) text few)

-- bytes after the last line feed: there are none
lines_none : (text last : List ℕ) (end : ℕ) → last ≡ take (length text - end) (drop end text) → drop end text ≡ last_line text → length last ≡ 0 → lines_of text ≡ ended_lines text
lines_none text last end is rest none =
    let no_bytes : length (last_line text) ≡ 0 = ap length (sym (rest_is text last end is rest)) ∙ none in
    ap (λ b. if b then ended_lines text else ended_lines text ++ last_line text ∷ []) (eq-eqb (length (last_line text)) 0 no_bytes)

-- a line that a line feed ends stays the first bad one
bad_within : (b : Bool) (text : List ℕ) (n : ℕ) → length text ≤ MOST_LINKS + 1 → IsBadEnded text n
    → lines_of text ≡ (if b then ended_lines text else ended_lines text ++ last_line text ∷ []) → HasLinksFault text n
bad_within true text n few bad e = inr (record {
  before = bad.before;
  line = bad.line;
  more = bad.more;
  fit = bad.fit;
  lines = lines_whole text few ∙ (e ∙ bad.lines);
  number = bad.number;
  bad = inl bad.bad;
})
bad_within false text n few bad e = inr (record {
  before = bad.before;
  line = bad.line;
  more = bad.more ++ last_line text ∷ [];
  fit = bad.fit;
  lines = lines_whole text few ∙ (e ∙ (ap (λ (ls : List (List ℕ)). ls ++ last_line text ∷ []) bad.lines ∙ append_assoc (map link_line bad.before) (bad.line ∷ bad.more) (last_line text ∷ [])));
  number = bad.number;
  bad = inl bad.bad;
})

pub stopped_inside : (text : List ℕ) (e : ChainFault) → length text ≤ MOST_LINKS + 1 → StopsInside text e → IsNoText text e
stopped_inside text (fault.Links n) few bad = bad_within (length (last_line text) == 0) text n few bad refl
stopped_inside text fault.Read few bad = bad
stopped_inside text (fault.Write written) few bad = bad
stopped_inside text fault.Memory few bad = bad

map_none : (links : List LinkValue) → length links ≡ 0 → map link_line links ≡ []
map_none [] e = refl
map_none (v ∷ links) e = absurd (omega arith)

-- nothing is after the last line feed
module _ (text last : List ℕ) (links : List LinkValue) (end : ℕ) (few : length text ≤ MOST_LINKS + 1) (ended : AreEnded text links end)
    (is : last ≡ take (length text - end) (drop end text)) (none : length last ≡ 0) where
  lines_are : lines_in text ≡ map link_line links
  lines_are = lines_whole text few ∙ (lines_none text last end is ended.rest none ∙ ended.lines)

  pub empty_text : length links ≡ 0 → HasLinksFault text 1
  empty_text zero_links = inl (lines_are ∙ map_none links zero_links, refl)

  pub whole_text : (length links ≡ 0 → ⊥) → length text ≤ MOST_LINKS → AreLinks text links
  whole_text some short = record { few = short; some = omega (arith, some); fit = ended.fit; lines = lines_are }

crosses : (text : List ℕ) (links : List LinkValue) → (length links ≡ 0 → ⊥) → All Fits links → lines_in text ≡ map link_line links → MOST_LINKS < length text → HasLinksFault text (length links)
crosses text [] some fit lines long = absurd (some refl)
crosses text (v ∷ links) some fit lines long =
    let parts = last_apart v links in
    let number : length (v ∷ links) ≡ length parts.0 + 1 = ap length parts.2 ∙ length-append parts.0 (parts.1 ∷ []) in
    inr (record {
      before = parts.0;
      line = link_line parts.1;
      more = [];
      fit = fits_front parts.0 parts.1 (subst (All Fits) parts.2 fit);
      lines = lines ∙ (ap (map link_line) parts.2 ∙ map_push parts.0 parts.1);
      number = number;
      bad = inr (refl, long);
    })

pub crosses_ended : (text last : List ℕ) (links : List LinkValue) (end : ℕ) → length text ≤ MOST_LINKS + 1 → AreEnded text links end → last ≡ take (length text - end) (drop end text) → length last ≡ 0
    → (length links ≡ 0 → ⊥) → MOST_LINKS < length text → HasLinksFault text (length links)
crosses_ended text last links end few ended is none some long = crosses text links some ended.fit (lines_are text last links end few ended is none) long

pub nothing_left : (last : List ℕ) → true ≡ (length last == 0) → length last ≡ 0
nothing_left last e = eqb-true (length last) 0 (sym e)

not_nothing : (last : List ℕ) → false ≡ (length last == 0) → length last ≡ 0 → ⊥
not_nothing last some e = absurd (cc (some ∙ eq-eqb (length last) 0 e))

-- a line without a line feed is
module _ (text last : List ℕ) (links : List LinkValue) (end : ℕ) (few : length text ≤ MOST_LINKS + 1) (ended : AreEnded text links end)
    (is : last ≡ take (length text - end) (drop end text)) (some : false ≡ (length last == 0)) where
  one_more : lines_in text ≡ map link_line links ++ last ∷ []
  one_more = lines_whole text few ∙ (lines_one text last end is ended.rest some ∙ ap (λ (ls : List (List ℕ)). ls ++ last ∷ []) ended.lines)

  pub crosses_last : MOST_LINKS < length text → HasLinksFault text (length links + 1)
  crosses_last long = inr (record { before = links; line = last; more = []; fit = ended.fit; lines = one_more; number = refl; bad = inr (refl, long) })

  pub last_stops : (more : List LinkValue) (e : ChainFault) → IsPushed (Err e) links more last → IsNoText text e
  last_stops more (fault.Links n) bad = inr (record { before = links; line = last; more = []; fit = ended.fit; lines = one_more; number = bad.0; bad = inl bad.1 })
  last_stops more fault.Read bad = bad
  last_stops more (fault.Write written) bad = bad
  last_stops more fault.Memory bad = bad

  pub last_taken : (more : List LinkValue) → length text ≤ MOST_LINKS → ((v : LinkValue) × IsLineOf v last × (more ≡ links ++ v ∷ [])) → AreLinks text more
  last_taken more short (v, line, pushed) = record {
    few = short;
    some = let n = ap length pushed in omega (arith, n, length-append links (v ∷ []));
    fit = subst (All Fits) (sym pushed) (All-push Fits links v ended.fit line.0);
    lines = one_more ∙ ((λ i. map link_line links ++ line.1 i ∷ []) ∙ (sym (map_push links v) ∙ ap (map link_line) (sym pushed)));
  }
