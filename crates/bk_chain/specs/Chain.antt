-- Texts of links: the first line with a fault, the first line that does not link to the one before it, and good chains.
use Rattle.std.specs.Prelude.{◌≡◌, ◌⊎◌, ℕ, ◌+◌, ◌<◌, ◌≤◌, Bool, true, false, not, if◌then◌else◌, List, [], ◌∷◌, ◌++◌, All, length, map, take, Option, Some, None, codes, decimal}
use Rattle.std.specs.List.{sum_by}
use Rattle.std.specs.Str.{bytes_eq}
use Rattle.hex.specs.Hex.{encode_lower}
use Rattle.bk_base.specs.declared.version.Version.{Version}
use Rattle.bk_base.specs.declared.version.Version.TheVariants as version
use Rattle.bk_results.specs.declared.status.Status.{Status}
use Rattle.bk_results.specs.declared.status.Status.TheVariants as status
use Rattle.bk_script.specs.Listing.{lines_of}
use Rattle.bk_chain.specs.declared.link.LinkValue.{LinkValue}
use Rattle.bk_chain.specs.declared.reading.TheConstants.{MOST_LINKS}
use Rattle.bk_chain.specs.declared.verdict.Break.{Break}
use Rattle.bk_chain.specs.declared.verdict.Break.TheVariants as break
use Rattle.bk_chain.specs.declared.verdict.Chain.{Chain}
use Rattle.bk_chain.specs.declared.verdict.ChainEnd.{ChainEnd}
use Rattle.bk_chain.specs.declared.verdict.ChainEnd.TheVariants as end
use Rattle.bk_chain.specs.declared.verdict.Verdict.{Verdict}
use Rattle.bk_chain.specs.declared.verdict.Verdict.TheVariants as verdict
use Rattle.bk_chain.specs.Line.{Fits, IsNoLine, link_line}

-- ---- what a text holds

-- the lines of a text, without their line feeds: of a text that is too long those of the limit and one byte more
abbrev pub lines_in : List ℕ → List (List ℕ)
lines_in text = lines_of (take (MOST_LINKS + 1) text)

-- the lines of a text are those of these links, of one at least
pub record AreLinks (text : List ℕ) (links : List LinkValue) : Type 0 where
  pub few : length text ≤ MOST_LINKS
  pub some : 0 < length links
  pub fit : All Fits links
  pub lines : lines_in text ≡ map link_line links

-- line n, counted from 1, is the first that has a fault: those before it are the lines of links, and it is the line of
-- none, or the one that crosses the limit
pub record IsBadLine (text : List ℕ) (n : ℕ) : Type 0 where
  pub before : List LinkValue
  pub line : List ℕ
  pub more : List (List ℕ)
  pub fit : All Fits before
  pub lines : lines_in text ≡ map link_line before ++ line ∷ more
  pub number : n ≡ length before + 1
  pub bad : IsNoLine line ⊎ ((more ≡ []) × (MOST_LINKS < length text))

-- the fault of a text: its first bad line, or line 1 where it has no line
abbrev pub HasLinksFault : List ℕ → ℕ → Type 0
HasLinksFault text n = ((lines_in text ≡ []) × (n ≡ 1)) ⊎ IsBadLine text n

-- ---- how links follow each other

abbrev pub same_version : Version → Version → Bool
same_version version.One version.One = true
same_version version.Two version.Two = true
same_version one other = false

abbrev pub is_short : Status → Bool
is_short status.Whole = false
is_short status.Missing = true

-- why a link does not follow the one before it, by the first that applies; None where it does
abbrev pub break_of : LinkValue → LinkValue → Option Break
break_of before v =
    if not (same_version before.version v.version) then Some break.Version
    else (if is_short before.end then Some break.Short
    else (if bytes_eq v.opening before.closing then None else Some break.Opening))

-- each link but the first follows the one before it
abbrev pub AllFollow : List LinkValue → Type 0
AllFollow [] = Unit {0}
AllFollow (v ∷ []) = Unit {0}
AllFollow (v ∷ w ∷ more) = (break_of v w ≡ None) × AllFollow (w ∷ more)

-- ---- the verdict

-- link n, counted from 1, is the first that does not follow the one before it, for this reason
pub record IsBrokenAt (links : List LinkValue) (n : ℕ) (by_what : Break) : Type 0 where
  pub front : List LinkValue
  pub before : LinkValue
  pub broken : LinkValue
  pub more : List LinkValue
  pub parts : links ≡ front ++ before ∷ broken ∷ more
  pub number : n ≡ length front + 2
  pub follow : AllFollow (front ++ before ∷ [])
  pub breaks : break_of before broken ≡ Some by_what

-- how many transactions links have together
abbrev pub transactions_in : List LinkValue → ℕ
transactions_in links = sum_by (λ (v : LinkValue). v.transactions) links

-- all links follow each other, from the opening of the first to the closing of the last
pub record IsChainOf (links : List LinkValue) (c : Chain) : Type 0 where
  pub first : LinkValue
  pub later : List LinkValue
  pub from : links ≡ first ∷ later
  pub front : List LinkValue
  pub last : LinkValue
  pub to : links ≡ front ++ last ∷ []
  pub follow : AllFollow links
  pub feeds : c.feeds ≡ length links
  pub opening : c.opening ≡ first.opening
  pub closing : c.closing ≡ last.closing
  pub transactions : c.transactions ≡ transactions_in links
  pub end : c.end ≡ last.end

-- the verdict on links
abbrev pub IsVerdict : List LinkValue → Verdict → Type 0
IsVerdict links (verdict.Good c) = IsChainOf links c
IsVerdict links (verdict.Broken n by_what) = IsBrokenAt links n by_what

-- the text is one of links, and this is the verdict on them
pub record HasVerdict (text : List ℕ) (v : Verdict) : Type 0 where
  pub links : List LinkValue
  pub are : AreLinks text links
  pub judged : IsVerdict links v

-- ---- what is written

abbrev pub break_text : Break → List ℕ
break_text break.Version = codes "version\n"
break_text break.Short = codes "short\n"
break_text break.Opening = codes "opening\n"

abbrev pub feeds_text : Chain → List ℕ
feeds_text c = codes "chain good\nfeeds " ++ decimal c.feeds ++ codes "\n"

abbrev pub digests_text : Chain → List ℕ
digests_text c = codes "opening " ++ encode_lower c.opening ++ codes "\nclosing " ++ encode_lower c.closing ++ codes "\n"

abbrev pub work_text : Chain → List ℕ
work_text c = codes "transactions " ++ decimal c.transactions ++ codes "\n"

abbrev pub chain_text : Chain → List ℕ
chain_text c = feeds_text c ++ digests_text c ++ work_text c

abbrev pub broken_text : ℕ → Break → List ℕ
broken_text n by_what = (codes "chain broken at line " ++ decimal n ++ codes "\n") ++ break_text by_what

abbrev pub verdict_text : Verdict → List ℕ
verdict_text (verdict.Good c) = chain_text c
verdict_text (verdict.Broken n by_what) = broken_text n by_what

-- how the check ends after a verdict
abbrev pub end_by_status : Status → ChainEnd
end_by_status status.Whole = end.Whole
end_by_status status.Missing = end.Short

abbrev pub end_of : Verdict → ChainEnd
end_of (verdict.Good c) = end_by_status c.end
end_of (verdict.Broken n by_what) = end.Broken
