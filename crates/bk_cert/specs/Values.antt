-- What a header and a certificate hold.
use Rattle.std.specs.Prelude.{ℕ, List}

-- a header: its author and its round, the digests of its batches and those of its parents
pub record HeaderValue : Type 0 where
  pub author : ℕ
  pub round : ℕ
  pub batches : List (List ℕ)
  pub parents : List (List ℕ)

-- the header of these parts
abbrev pub header_with : ℕ → ℕ → List (List ℕ) → List (List ℕ) → HeaderValue
header_with author round batches parents = record { author = author; round = round; batches = batches; parents = parents }

-- a certificate: a header, and the seal of a mask that marks the signers and their tags
pub record CertValue : Type 0 where
  pub header : HeaderValue
  pub mask : List ℕ
  pub tags : List (List ℕ)

-- the certificate of these parts
abbrev pub cert_with : HeaderValue → List ℕ → List (List ℕ) → CertValue
cert_with header mask tags = record { header = header; mask = mask; tags = tags }
