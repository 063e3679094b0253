-- The lines of the frames of a feed, and their text.
use Rattle.std.specs.Prelude.{◌≡◌, ℕ, ◌+◌, List, [], ◌∷◌, ◌++◌, length, codes, Option, Some, None, unwrap_or, option_map}
use Rattle.sha2.specs.Sha256.{sha256}
use Rattle.hex.specs.Hex.{encode_lower}
use Rattle.bk_base.specs.declared.version.Version.{Version}
use Rattle.bk_base.specs.declared.version.Version.TheVariants as version
use Rattle.bk_base.specs.declared.kind.Kind.{Kind}
use Rattle.bk_base.specs.declared.kind.Kind.TheVariants as kind
use Rattle.bk_base.specs.declared.genesis.Row.{Row}
use Rattle.bk_base.specs.Feed.{Frame, frame_text}
use Rattle.bk_base.specs.Genesis.{rows_of, total_of}
use Rattle.bk_committee.specs.Payload.{CommitteeValue, committee_of}
use Rattle.bk_cert.specs.Values.{CertValue}
use Rattle.bk_cert.specs.Mask.{signer_count}
use Rattle.bk_cert.specs.Identity.{id_of}
use Rattle.bk_cert.specs.Reading.{certificate_of}
use Rattle.bk_certcheck.specs.Rules.{rule_number}
use Rattle.bk_certcheck.specs.declared.rule.Rule.{Rule}
use Rattle.bk_certcheck.specs.Verdicts.{IsVerdict}
use Rattle.bk_certcheck.specs.declared.verdict.Verdict.{Verdict}
use Rattle.bk_certcheck.specs.declared.verdict.Verdict.TheVariants as verdict
use Rattle.bk_listing.specs.declared.rows.CertRow.{CertRow}
use Rattle.bk_tx.specs.Batches.{count_in}
use Rattle.bk_results.specs.Lines.{spaced}

-- ---- what a line says of a frame

-- the number of a version
abbrev pub version_number : Version → ℕ
version_number version.One = 1
version_number version.Two = 2

-- of a committee with this digest: its version, and how many members it has
abbrev pub committee_words : CommitteeValue → List ℕ → List ℕ
committee_words k digest =
    codes "committee " ++ encode_lower digest ++ codes " version" ++ spaced (version_number k.version)
    ++ codes " members" ++ spaced (length k.keys)

-- of a genesis with this digest: how many accounts it has, and their money
abbrev pub genesis_words : List ℕ → ℕ → ℕ → List ℕ
genesis_words digest accounts money =
    codes "genesis " ++ encode_lower digest ++ codes " accounts" ++ spaced accounts ++ codes " money" ++ spaced money

-- the accounts that a payload encodes, none where it encodes none
abbrev pub accounts_in : List ℕ → List Row
accounts_in payload = unwrap_or (rows_of payload) []

-- what a line says of a certificate: its id, its place, and how many batches, parents and signers it names
abbrev pub cert_row : CertValue → CertRow
cert_row c = record {
  id = id_of c.header;
  round = c.header.round;
  author = c.header.author;
  batches = length c.header.batches;
  parents = length c.header.parents;
  signers = signer_count c.mask;
}

-- the same as words
abbrev pub cert_words : CertRow → List ℕ
cert_words row =
    codes " " ++ encode_lower row.id ++ codes " round" ++ spaced row.round ++ codes " author" ++ spaced row.author
    ++ codes " batches" ++ spaced row.batches ++ codes " parents" ++ spaced row.parents
    ++ codes " signers" ++ spaced row.signers

-- the same of bytes, nothing where they are no certificate
abbrev pub shape_words : Option CertRow → List ℕ
shape_words None = []
shape_words (Some row) = cert_words row

-- the rule that a verdict names, none where the certificate is good
abbrev pub rule_of : Verdict → Option Rule
rule_of (verdict.Good node) = None
rule_of (verdict.Broken r) = Some r

-- that no rule is broken, or the number of the rule that is
abbrev pub rule_words : Option Rule → List ℕ
rule_words None = codes " good"
rule_words (Some r) = codes " broken" ++ spaced (rule_number r)

-- of the bytes of a certificate with this verdict
abbrev pub judged_words : List ℕ → Verdict → List ℕ
judged_words payload v =
    codes "cert" ++ shape_words (option_map cert_row (certificate_of payload)) ++ rule_words (rule_of v)

-- how many transactions a batch holds, malformed ones too, or that it is void
abbrev pub count_words : Option ℕ → List ℕ
count_words (Some n) = codes " transactions" ++ spaced n
count_words None = codes " void"

-- of a batch with this digest that holds this many transactions
abbrev pub batch_words : List ℕ → Option ℕ → List ℕ
batch_words digest count = codes "batch " ++ encode_lower digest ++ count_words count

-- what a line says of a frame of this kind and payload under a committee, which is that of frame 0
abbrev pub AreWords : CommitteeValue → Kind → List ℕ → List ℕ → Type 0
AreWords k kind.Committee payload words = words ≡ committee_words k (sha256 payload)
AreWords k kind.Genesis payload words =
    words ≡ genesis_words (sha256 payload) (length (accounts_in payload)) (total_of (accounts_in payload))
AreWords k kind.Certificate payload words =
    (v : Verdict) × IsVerdict k payload v × (words ≡ judged_words payload v)
AreWords k kind.Batch payload words = words ≡ batch_words (sha256 payload) (count_in payload)

-- ---- the text of lines

-- a line says these words of the frame with this number, whose kind byte is at this offset
abbrev pub line_with : ℕ → ℕ → List ℕ → List ℕ
line_with index offset words =
    codes "frame" ++ spaced index ++ codes " at" ++ spaced offset ++ codes " " ++ words

-- a text is the lines of these frames, each with its line feed; the first frame has this number and offset, and each
-- further one begins right after the one before it
abbrev pub AreLinesFrom : CommitteeValue → ℕ → ℕ → List Frame → List ℕ → Type 0
AreLinesFrom k index offset [] text = text ≡ []
AreLinesFrom k index offset (f ∷ more) text =
    (words : List ℕ) × (rest : List ℕ) × AreWords k f.kind f.payload words
    × (text ≡ line_with index offset words ++ 10 ∷ rest)
    × AreLinesFrom k (index + 1) (offset + length (frame_text f)) more rest

-- a text is the listing of the frames of a feed of this version: their lines under the committee of frame 0, which
-- stands right after the four bytes of the magic
abbrev pub IsListing : Version → List Frame → List ℕ → Type 0
IsListing version [] text = text ≡ []
IsListing version (first ∷ more) text =
    AreLinesFrom (committee_of version first.payload) 0 4 (first ∷ more) text
