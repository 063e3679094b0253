-- What is to be tagged for a seal.
use Rattle.std.specs.Prelude.{◌≡◌, ℕ, List, [], map, slice_index_or}
use Rattle.std.specs.List.{AllZip}
use Rattle.bk_digest.specs.Mac.{hmac_of}
use Rattle.bk_digest.specs.Prepared.{IsPrepared}
use Rattle.bk_digest.specs.declared.tags.ToTag.{ToTag}
use Rattle.bk_cert.specs.Mask.{signers_of}
use Rattle.bk_cert.specs.Identity.{tag_of}

-- the tags of an id by the members that the mask marks, by ascending member
abbrev pub tags_under : List (List ℕ) → List ℕ → List ℕ → List (List ℕ)
tags_under keys id mask = map (λ member. tag_of (slice_index_or keys member []) id) (signers_of mask)

-- each of the tags is that of the id under the key
abbrev pub AreTagsOf : List ToTag → List (List ℕ) → Type 0
AreTagsOf wanted tags =
    AllZip (λ t tag. (key : List ℕ) × IsPrepared key t.key.now × (tag ≡ hmac_of key t.id)) wanted tags
