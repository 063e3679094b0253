-- Which certificate is the first whose tags are wrong, and whose tag of it is.
use Rattle.std.specs.Prelude.{◌≡◌, ◌≢◌, ℕ, List, [], ◌∷◌, ◌++◌, length, take, slice_get, slice_index_or, Contains, Option, Some, None}
use Rattle.bk_base.specs.declared.kind.Kind.TheVariants as kind
use Rattle.bk_base.specs.declared.version.Version.{Version}
use Rattle.bk_base.specs.Feed.{Frame}
use Rattle.bk_committee.specs.Payload.{CommitteeValue, committee_of}
use Rattle.bk_cert.specs.Values.{CertValue}
use Rattle.bk_cert.specs.Mask.{signers_of}
use Rattle.bk_cert.specs.Identity.{id_of, tag_of, tags_by}
use Rattle.bk_cert.specs.Reading.{certificate_of}
use Rattle.bk_certcheck.specs.declared.rule.Rule.TheVariants as rule
use Rattle.bk_certcheck.specs.declared.verdict.Verdict.TheVariants as verdict
use Rattle.bk_certcheck.specs.Verdicts.{IsVerdict}
use Rattle.bk_results.specs.declared.wrong_tag.WrongTag.{WrongTag}

-- this signer of a certificate is the first, by ascending member, whose tag is not that of its key
pub record HasWrongTag (k : CommitteeValue) (c : CertValue) (signer : ℕ) : Type 0 where
  pub before : List ℕ
  pub after : List ℕ
  pub signs : signers_of c.mask ≡ before ++ signer ∷ after
  pub right : take (length before) c.tags ≡ tags_by k.keys c.header before
  pub wrong : slice_get c.tags (length before) ≢ Some (tag_of (slice_index_or k.keys signer []) (id_of c.header))

-- a frame is a certificate that is rejected for its tags: it breaks no other rule
abbrev pub IsForged : CommitteeValue → Frame → Type 0
IsForged k f = (f.kind ≡ kind.Certificate) × IsVerdict k f.payload (verdict.Broken rule.Tag)

-- no frame is such a certificate; or this is the first, after those before it, and this signer's tag of it is wrong
abbrev pub IsFirstForged : CommitteeValue → List Frame → Option WrongTag → Type 0
IsFirstForged k frames None = (f : Frame) → Contains frames f → ¬ IsForged k f
IsFirstForged k frames (Some found) =
    (before : List Frame) × (f : Frame) × (after : List Frame) × (frames ≡ before ++ f ∷ after)
    × ((g : Frame) → Contains before g → ¬ IsForged k g) × IsForged k f × (found.frame ≡ length before)
    × (c : CertValue) × (certificate_of f.payload ≡ Some c) × HasWrongTag k c found.signer

-- the same of the frames of a feed of this version, under the committee of frame 0
abbrev pub IsFirstForgedOf : Version → List Frame → Option WrongTag → Type 0
IsFirstForgedOf version [] found = found ≡ None
IsFirstForgedOf version (first ∷ more) found =
    IsFirstForged (committee_of version first.payload) (first ∷ more) found
