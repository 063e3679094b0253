-- The batches that an order names and that a feed lacks.
use Rattle.std.specs.Prelude.{◌≡◌, ℕ, Bool, true, false, List, [], ◌∷◌, Option, Some, None, map, filter, not}
use Rattle.std.specs.List.{flat_map}
use Rattle.std.specs.Str.{bytes_eq}
use Rattle.bk_base.specs.Feed.{FeedValue}
use Rattle.bk_cert.specs.Node.{Node}
use Rattle.bk_cert.specs.declared.place.CertRef.{CertRef}
use Rattle.bk_evidence.specs.Batches.{Batch, payload_of}
use Rattle.bk_flatten.specs.Batches.{named_at}
use Rattle.bk_order.specs.Frames.{OfHeld}
use Rattle.bk_order.specs.Orders.{Ordered}
use Rattle.bk_answer.specs.RunReport.{HasNoStopIn, IsOrderIn, committee_in, later_frames}
use Rattle.bk_diagnosis.specs.declared.line.Line.{Line}
use Rattle.bk_diagnosis.specs.declared.line.Line.TheVariants as line

-- a digest, and the place of a certificate that names it
pub record Naming : Type 0 where
  pub digest : List ℕ
  pub place : CertRef

-- what the certificates at these places name, in their order
abbrev pub namings : List Node → List CertRef → List Naming
namings certs order = flat_map (λ (a : CertRef). map (λ (d : List ℕ). record { digest = d; place = a }) (named_at certs a)) order

-- each digest where it is named first
abbrev pub first_namings : List Naming → List Naming
first_namings [] = []
first_namings (n ∷ more) = n ∷ filter (λ (m : Naming). not (bytes_eq n.digest m.digest)) (first_namings more)

-- nothing is there
abbrev pub is_none : {X : Type 0} → Option X → Bool
is_none None = true
is_none (Some x) = false

-- no batch has the digest
abbrev pub is_lacking : List Batch → Naming → Bool
is_lacking batches n = is_none (payload_of batches n.digest)

-- the digests that an order names and that no batch has, each where it is named first
abbrev pub missing_in : List Node → List Batch → List CertRef → List Naming
missing_in certs batches order = filter (is_lacking batches) (first_namings (namings certs order))

-- the line of a digest that is missing
abbrev pub missing_line : Naming → Line
missing_line n = line.Missing n.digest n.place.round n.place.author

-- nothing stops a feed, and these are the lines of what its order lacks
pub record AreMissingIn (feed : FeedValue) (lines : List Line) : Type 0 where
  pub clear : HasNoStopIn feed
  pub ordered : Ordered
  pub is_order : IsOrderIn feed ordered
  pub lack : OfHeld (committee_in feed) (later_frames feed)
      (λ certs batches. lines ≡ map missing_line (missing_in certs batches ordered.order))
