-- The id of a header, and the seal that members put under it.
use Rattle.std.specs.Prelude.{◌≡◌, ◌↔◌, ℕ, ◌<◌, List, [], map, Contains, IsTrue, slice_index_or}
use Rattle.bk_digest.specs.Digest.{tagged_of}
use Rattle.bk_digest.specs.Mac.{hmac_of}
use Rattle.bk_cert.specs.Values.{HeaderValue, CertValue}
use Rattle.bk_cert.specs.Mask.{is_signer, signers_of}
use Rattle.bk_cert.specs.Spelling.{header_text}

-- the id of a header: SHA-256 of the byte 0x10 and the header's encoding
abbrev pub id_of : HeaderValue → List ℕ
id_of header = tagged_of 0x10 (header_text header)

-- the tag of an id under a member's key: HMAC-SHA-256 (RFC 2104)
abbrev pub tag_of : List ℕ → List ℕ → List ℕ
tag_of key id = hmac_of key id

-- the tags of a header by these members, each under its own key
abbrev pub tags_by : List (List ℕ) → HeaderValue → List ℕ → List (List ℕ)
tags_by keys header members = map (λ member. hmac_of (slice_index_or keys member []) (id_of header)) members

-- the certificate seals the header by exactly these signers, with the tag of each by ascending member
pub record IsSealOf (keys : List (List ℕ)) (header : HeaderValue) (signers : List ℕ) (cert : CertValue) : Type 0 where
  pub same_header : cert.header ≡ header
  pub marks : (member : ℕ) → member < 128 → IsTrue (is_signer cert.mask member) ↔ Contains signers member
  pub own_tags : cert.tags ≡ tags_by keys header (signers_of cert.mask)
