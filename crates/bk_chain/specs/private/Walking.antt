-- What the private functions that read a text of links say.
use Rattle.std.specs.Prelude.{◌≡◌, ℕ, ◌+◌, ◌≤◌, List, [], ◌∷◌, ◌++◌, All, length, map, drop, Result, Ok, Err}
use Rattle.bk_frames.specs.Device.{Device, Works, Fails}
use Rattle.bk_script.specs.Listing.{ended_lines, last_line}
use Rattle.bk_chain.specs.declared.fault.ChainFault.{ChainFault}
use Rattle.bk_chain.specs.declared.fault.ChainFault.TheVariants as fault
use Rattle.bk_chain.specs.declared.link.LinkValue.{LinkValue}
use Rattle.bk_chain.specs.Line.{Fits, IsNoLine, IsLineOf, link_line}
use Rattle.bk_chain.specs.Chain.{HasLinksFault}

-- a line was taken: its link came behind the others; or it is no link's, and this is its number; or memory ran out
abbrev pub IsPushed : Result (Unit {0}) ChainFault → List LinkValue → List LinkValue → List ℕ → Type 0
IsPushed (Ok done) old new line = (v : LinkValue) × IsLineOf v line × (new ≡ old ++ v ∷ [])
IsPushed (Err (fault.Links n)) old new line = (n ≡ length old + 1) × IsNoLine line
IsPushed (Err fault.Memory) old new line = Unit {0}
IsPushed (Err other) old new line = ⊥

-- these are the links of the lines that a line feed ends, and the rest begins here
pub record AreEnded (text : List ℕ) (links : List LinkValue) (end : ℕ) : Type 0 where
  pub fit : All Fits links
  pub lines : ended_lines text ≡ map link_line links
  pub few : length links ≤ end
  pub within : end ≤ length text
  pub rest : drop end text ≡ last_line text

-- a line that a line feed ends is no link's, and those before it are
pub record IsBadEnded (text : List ℕ) (n : ℕ) : Type 0 where
  pub before : List LinkValue
  pub line : List ℕ
  pub more : List (List ℕ)
  pub fit : All Fits before
  pub lines : ended_lines text ≡ map link_line before ++ line ∷ more
  pub number : n ≡ length before + 1
  pub bad : IsNoLine line

-- the first of those that are no link's has this number; or memory ran out
abbrev pub StopsInside : List ℕ → ChainFault → Type 0
StopsInside text (fault.Links n) = IsBadEnded text n
StopsInside text fault.Memory = Unit {0}
StopsInside text other = ⊥

-- a text has this fault; or memory ran out
abbrev pub IsNoText : List ℕ → ChainFault → Type 0
IsNoText text (fault.Links n) = HasLinksFault text n
IsNoText text fault.Memory = Unit {0}
IsNoText text other = ⊥

-- why a text was not read: a call of the source failed, or memory ran out
abbrev pub IsUnread : ChainFault → Device → Device → Type 0
IsUnread fault.Read old new = Fails old new
IsUnread fault.Memory old new = Works old new
IsUnread other old new = ⊥
