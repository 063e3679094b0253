-- What is found of the frames of a feed, and the payloads of each kind.
use Rattle.std.specs.Prelude.{◌≡◌, ℕ, List, [], ◌∷◌, Option, option_map}
use Rattle.std.specs.List.{flat_map}
use Rattle.sha2.specs.Sha256.{sha256}
use Rattle.bk_base.specs.declared.kind.Kind.{Kind}
use Rattle.bk_base.specs.declared.kind.Kind.TheVariants as kind
use Rattle.bk_base.specs.Feed.{Frame}
use Rattle.bk_committee.specs.Payload.{CommitteeValue}
use Rattle.bk_cert.specs.Identity.{id_of}
use Rattle.bk_cert.specs.Reading.{certificate_of}
use Rattle.bk_cert.specs.Values.{CertValue}
use Rattle.bk_certcheck.specs.Verdicts.{IsBroken, IsGood}
use Rattle.bk_certcheck.specs.declared.finding.Found.{Found}
use Rattle.bk_certcheck.specs.declared.finding.Found.TheVariants as found

-- neither a certificate nor a batch
abbrev pub IsOther : Kind → Type 0
IsOther kind.Committee = Unit {0}
IsOther kind.Genesis = Unit {0}
IsOther kind.Certificate = ⊥
IsOther kind.Batch = ⊥

-- the id of the certificate of these bytes, none where they are no certificate
abbrev pub id_in : List ℕ → Option (List ℕ)
id_in payload = option_map (λ (c : CertValue). id_of c.header) (certificate_of payload)

-- what is found of a frame
abbrev pub IsFound : CommitteeValue → Frame → Found → Type 0
IsFound k f (found.Good c) = (f.kind ≡ kind.Certificate) × IsGood k f.payload c
IsFound k f (found.Broken r id) = (f.kind ≡ kind.Certificate) × IsBroken k f.payload r × (id ≡ id_in f.payload)
IsFound k f (found.Batch digest) = (f.kind ≡ kind.Batch) × (digest ≡ sha256 f.payload)
IsFound k f found.Other = IsOther f.kind

-- ---- the payloads of a kind, in the order of the frames and as often as they come

-- the payload of a frame of this kind, if it is a certificate
abbrev pub certificate_in : Kind → List ℕ → List (List ℕ)
certificate_in kind.Certificate payload = payload ∷ []
certificate_in other payload = []

-- the payload of a frame of this kind, if it is a batch
abbrev pub batch_in : Kind → List ℕ → List (List ℕ)
batch_in kind.Batch payload = payload ∷ []
batch_in other payload = []

-- the payloads of the certificates of frames
abbrev pub certificates_in : List Frame → List (List ℕ)
certificates_in frames = flat_map (λ f. certificate_in f.kind f.payload) frames

-- the payloads of the batches of frames
abbrev pub batches_in : List Frame → List (List ℕ)
batches_in frames = flat_map (λ f. batch_in f.kind f.payload) frames
