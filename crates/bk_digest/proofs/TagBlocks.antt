-- A tag, block by block.
use Rattle.std.proofs.Common.{◌≡◌, ℕ, ◌+◌, ◌-◌, ◌*◌, ◌/◌, ◌<◌, ◌≤◌, List, [], ◌∷◌, ◌++◌, length, take, drop, get_or, replicate, refl, ap, ◌∙◌, arith, length-append, append_assoc}
use Rattle.std.proofs.lemmas.List.{append-nil, drop_all, drop_at, length-map, length-replicate, take_all, take_at, take_more}
use borrow.Rule.Slice.PartMut.{put_mid}
use Rattle.std.proofs.lemmas.Slice.Zip.{all_zipped_more}
use Rattle.std.specs.List.{AllZip}
use Rattle.std.specs.Prelude.{if◌then◌else◌, nat_lt}
use Rattle.sha2.proofs.Facts256.{length-sha256}
use Rattle.sha2.specs.Sha256.{compress, digest_bytes, hash_after, initial_hash_256, padded_message, padding, sha256}
use Rattle.bk_digest.specs.Mac.{hmac_of, key_block, padded_with}
use Rattle.bk_digest.specs.Prepared.{IsPrepared, state_after}
use Rattle.bk_digest.specs.private.Tags.{IsTagOf}
use Rattle.bk_digest.specs.declared.tags.ToTag.{ToTag}

-- a key or its digest, filled up to a block
length-filled : (short : List ℕ) → length short ≤ 64 → length (short ++ replicate (64 - length short) 0) ≡ 64
length-filled short h =
    let zeros : length {A = ℕ} (replicate (64 - length short) 0) ≡ 64 - length short = length-replicate (64 - length short) 0 in
    omega (arith, length-append short (replicate (64 - length short) 0))

length-short : (key : List ℕ) → length (if nat_lt 64 (length key) then sha256 key else key) ≤ 64
length-short key = let l = length-sha256 key in grind (arith, l)

length-key_block : (key : List ℕ) → length (key_block key) ≡ 64
unfolding key_block
length-key_block key = length-filled _ (length-short key)

length-padded_with : (pad : ℕ) (block : List ℕ) → length (padded_with pad block) ≡ length block
length-padded_with pad block = length-map block _

-- a message of two blocks: one of key, and one of a text with its padding
two_blocks : (h b u : List ℕ) → length b ≡ 64 → length u ≡ 64 → hash_after h (b ++ u) 2 ≡ compress (compress h b) u
unfolding hash_after
two_blocks h b u lb lu =
    let first : take 64 (drop (0 * 64) (b ++ u)) ≡ b = take_at b u 64 lb in
    let rest : drop (1 * 64) (b ++ u) ≡ u = drop_at b u 64 lb in
    let second : take 64 (drop (1 * 64) (b ++ u)) ≡ u = rw rest (take_all 64 u (omega arith)) in
    rw (first, second) refl

-- SHA-256 of a block and 32 bytes
pub digest_of_two : (b t : List ℕ) → length b ≡ 64 → length t ≡ 32
    → digest_bytes (compress (compress initial_hash_256 b) (t ++ padding 96)) 8 ≡ sha256 (b ++ t)
unfolding sha256
digest_of_two b t lb lt =
    let all : length (b ++ t) ≡ 96 = omega (arith, length-append b t) in
    let end : length (padding 96) ≡ 32 = refl in
    let lu : length (t ++ padding 96) ≡ 64 = omega (arith, length-append t (padding 96)) in
    let whole : padded_message (b ++ t) ≡ b ++ (t ++ padding 96) = rw all (append_assoc b t (padding 96)) in
    let long : length (b ++ (t ++ padding 96)) / 64 ≡ 2 = omega (arith, length-append b (t ++ padding 96)) in
    rw (whole, long, two_blocks initial_hash_256 b (t ++ padding 96) lb lu) refl

half : (pad : ℕ) (key t s b r : List ℕ) → length t ≡ 32 → s ≡ state_after pad (key_block key) → b ≡ t ++ padding 96 → r ≡ compress s b
    → digest_bytes r 8 ≡ sha256 (padded_with pad (key_block key) ++ t)
half pad key t s b r lt es eb er =
    let lb : length (padded_with pad (key_block key)) ≡ 64 = length-padded_with pad (key_block key) ∙ length-key_block key in
    rw (er, es, eb) (digest_of_two (padded_with pad (key_block key)) t lb lt)

-- the tag, from the two hash values of its key
pub tag_is : (key id s0 b0 s1 d s2 b2 s3 : List ℕ) → length id ≡ 32 → s0 ≡ state_after 0x36 (key_block key) → b0 ≡ id ++ padding 96
    → s1 ≡ compress s0 b0 → d ≡ digest_bytes s1 8 → s2 ≡ state_after 0x5c (key_block key) → b2 ≡ d ++ padding 96 → s3 ≡ compress s2 b2
    → digest_bytes s3 8 ≡ hmac_of key id
unfolding hmac_of
tag_is key id s0 b0 s1 d s2 b2 s3 lid e0 f0 e1 ed e2 f2 e3 =
    let inner : d ≡ sha256 (padded_with 0x36 (key_block key) ++ id) = ed ∙ half 0x36 key id s0 b0 s1 lid e0 f0 e1 in
    let ld : length d ≡ 32 = ap length inner ∙ length-sha256 (padded_with 0x36 (key_block key) ++ id) in
    half 0x5c key d s2 b2 s3 ld e2 f2 e3 ∙ rw inner refl

-- the tag of an item of the list
pub item_tagged : (t : ToTag) (s0 b0 s1 s2 b2 s3 : List ℕ) → length t.id ≡ 32 → s0 ≡ t.key.now.inner_state → b0 ≡ t.id ++ padding 96
    → s1 ≡ compress s0 b0 → s2 ≡ t.key.now.outer_state → b2 ≡ digest_bytes s1 8 ++ padding 96 → s3 ≡ compress s2 b2
    → IsTagOf t (digest_bytes s3 8)
unfolding IsPrepared
item_tagged t s0 b0 s1 s2 b2 s3 lid e0 f0 e1 e2 f2 e3 = λ key h.
    tag_is key t.id s0 b0 s1 (digest_bytes s1 8) s2 b2 s3 lid (e0 ∙ h.2) f0 e1 refl (e2 ∙ h.3) f2 e3

-- one tag more
pub one_more_tag : (of : List ToTag) (n k : ℕ) (tags now : List (List ℕ)) (tag : List ℕ) → n < length of → k ≡ n + 1 → AllZip IsTagOf (take n of) tags
    → ((d : ToTag) → IsTagOf (get_or of n d) tag) → now ≡ tags ++ tag ∷ [] → AllZip IsTagOf (take k of) now
one_more_tag [] n k tags now tag lt ek before this e = absurd (omega arith)
one_more_tag (t ∷ rest) n k tags now tag lt ek before this e =
    let longer : take (n + 1) (t ∷ rest) ≡ take n (t ∷ rest) ++ get_or (t ∷ rest) n t ∷ [] = take_more (t ∷ rest) n t lt in
    rw (e, ek, longer) (all_zipped_more IsTagOf (take n (t ∷ rest)) tags (get_or (t ∷ rest) n t) tag before (this t))

-- two halves of a block
pub halves_joined : (l r a b z : List ℕ) → l ≡ a → r ≡ b → length a ≡ 32 → length z ≡ 32 → put_mid 32 32 (l ++ z) r ≡ a ++ b
halves_joined l r a b z el er la lz =
    let none : drop 32 z ≡ [] = drop_all 32 z (omega arith) in
    rw (el, er, take_at a z 32 la, drop_at a z 32 la, none, append-nil) refl
