-- The line that `link` writes.
use Rattle.std.specs.Prelude.{◌≡◌, ℕ, ◌<◌, ◌^◌, List, ◌++◌, codes, decimal}
use Rattle.hex.specs.Hex.{encode_lower}
use Rattle.bk_base.specs.declared.version.Version.{Version}
use Rattle.bk_base.specs.declared.version.Version.TheVariants as version
use Rattle.bk_results.specs.declared.status.Status.{Status}
use Rattle.bk_results.specs.declared.status.Status.TheVariants as status
use Rattle.bk_report.specs.Proofs.{IsDigest}
use Rattle.bk_chain.specs.declared.link.LinkValue.{LinkValue}

abbrev pub version_words : Version → List ℕ
version_words version.One = codes "link version 1"
version_words version.Two = codes "link version 2"

abbrev pub end_word : Status → List ℕ
end_word status.Whole = codes " whole"
end_word status.Missing = codes " short"

-- ---- the parts of a line

abbrev pub setup_words : LinkValue → List ℕ
setup_words v = version_words v.version ++ (codes " committee " ++ encode_lower v.committee)

abbrev pub digest_words : LinkValue → List ℕ
digest_words v = codes " opening " ++ encode_lower v.opening ++ codes " closing " ++ encode_lower v.closing

abbrev pub count_words : LinkValue → List ℕ
count_words v = codes " accounts " ++ decimal v.accounts ++ codes " money " ++ decimal v.money

abbrev pub work_words : LinkValue → List ℕ
work_words v = (codes " transactions " ++ decimal v.transactions) ++ end_word v.end

-- the line of a link, without its line feed
abbrev pub link_line : LinkValue → List ℕ
link_line v = setup_words v ++ digest_words v ++ count_words v ++ work_words v

-- ---- lines that have this form

-- what a link can say: three digests of 32 bytes, numbers of accounts and of transactions below 2^32, money below 2^63
pub record Fits (v : LinkValue) : Type 0 where
  pub committee : IsDigest v.committee
  pub opening : IsDigest v.opening
  pub closing : IsDigest v.closing
  pub accounts : v.accounts < 2 ^ 32
  pub money : v.money < 2 ^ 63
  pub transactions : v.transactions < 2 ^ 32

-- a line is the one that is written of this link
abbrev pub IsLineOf : LinkValue → List ℕ → Type 0
IsLineOf v line = Fits v × (line ≡ link_line v)

-- a line is that of no link
abbrev pub IsNoLine : List ℕ → Type 0
IsNoLine line = (v : LinkValue) → IsLineOf v line → ⊥
