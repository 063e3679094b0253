-- What headers and certificates are, and the one encoding of each.
use Rattle.std.specs.Prelude.{◌≡◌, ℕ, ◌^◌, ◌<◌, ◌≤◌, List, ◌∷◌, ◌++◌, length}
use Rattle.std.specs.List.{AllByRecursion, concat}
use Rattle.std.specs.Int.{w16, w32, to_be_bytes}
use Rattle.bk_cert.specs.Values.{HeaderValue, CertValue}
use Rattle.bk_cert.specs.Mask.{signer_count}

-- each digest has 32 bytes
abbrev pub AreDigests : List (List ℕ) → Type 0
AreDigests digests = AllByRecursion (λ digest. length digest ≡ 32) digests

-- the values that are headers: at most 1,000 batches and 128 parents, each a digest, and numbers that fit their fields
pub record IsHeader (h : HeaderValue) : Type 0 where
  pub author_fits : h.author < 2 ^ 8
  pub round_fits : h.round < 2 ^ 32
  pub few_batches : length h.batches ≤ 1000
  pub few_parents : length h.parents ≤ 128
  pub batches_sized : AreDigests h.batches
  pub parents_sized : AreDigests h.parents

-- the encoding of a header: author, round, count of batches, these, count of parents, these
abbrev pub header_text : HeaderValue → List ℕ
header_text h = h.author ∷ to_be_bytes w32 h.round ++ to_be_bytes w16 (length h.batches) ++ concat h.batches ++ length h.parents ∷ concat h.parents

-- the values that are certificates: a header, a mask of 16 bytes, and as many tags of 32 bytes as the mask marks signers
pub record IsCertificate (c : CertValue) : Type 0 where
  pub headed : IsHeader c.header
  pub mask_sized : length c.mask ≡ 16
  pub tag_each : length c.tags ≡ signer_count c.mask
  pub tags_sized : AreDigests c.tags

-- the encoding of a seal: the mask, and then the tags
abbrev pub seal_text : List ℕ → List (List ℕ) → List ℕ
seal_text mask tags = mask ++ concat tags

-- the encoding of a certificate: that of its header, and then that of its seal
abbrev pub certificate_text : CertValue → List ℕ
certificate_text c = header_text c.header ++ seal_text c.mask c.tags
