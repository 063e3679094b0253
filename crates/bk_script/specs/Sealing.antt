-- The key rule of a script, and the certificates that are sealed by it.
use Rattle.std.specs.Prelude.{ℕ, ◌+◌, ◌*◌, ◌^◌, Bool, List, length, map, replicate, ◌==◌, if◌then◌else◌}
use Rattle.std.specs.List.{range_with_len, sum_by, list_any}
use Rattle.bk_base.specs.declared.version.Version.{Version}
use Rattle.bk_committee.specs.Payload.{committee_with, committee_bytes}
use Rattle.bk_cert.specs.Values.{HeaderValue, cert_with}
use Rattle.bk_cert.specs.Mask.{signers_of}
use Rattle.bk_cert.specs.Identity.{tags_by}
use Rattle.bk_cert.specs.Spelling.{certificate_text}

-- the key of a member: 32 bytes of its number and 1
abbrev pub member_key : ℕ → List ℕ
member_key member = replicate 32 (member + 1)

-- the keys of this many members
abbrev pub member_keys : ℕ → List (List ℕ)
member_keys n = map member_key (range_with_len 0 n)

-- the payload of the committee of these weights
abbrev pub members_text : Version → List ℕ → List ℕ
members_text version weights = committee_bytes (committee_with version (member_keys (length weights)) weights)

-- the member is among the signers
abbrev pub signs : List ℕ → ℕ → Bool
signs signers member = list_any (λ signer. signer == member) signers

-- byte i of a mask: the bit of value 2^b for member 8 i + b
abbrev pub mask_byte : List ℕ → ℕ → ℕ
mask_byte signers i = sum_by (λ b. if signs signers (8 * i + b) then 2 ^ b else 0) (range_with_len 0 8)

-- the mask that marks the signers
abbrev pub mask_of : List ℕ → List ℕ
mask_of signers = map (mask_byte signers) (range_with_len 0 16)

-- the bytes of the certificate that these members sign, each of 128 members with its own key
unfoldable pub sealed : HeaderValue → List ℕ → List ℕ
sealed header signers =
    let mask = mask_of signers in
    certificate_text (cert_with header mask (tags_by (member_keys 128) header (signers_of mask)))
