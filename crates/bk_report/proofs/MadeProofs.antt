-- Proofs that are made of accounts are good ones.
use Rattle.std.proofs.Common.{◌≡◌, ℕ, zero, suc, ◌+◌, ◌-◌, ◌*◌, ◌/◌, ◌^◌, ◌<◌, ◌≤◌, Bool, true, false, List, [], ◌∷◌, ◌++◌, length, take, drop, get_or, Some, refl, sym, ap, subst, ◌∙◌, arith, if◌then◌else◌, length-append}
use Rattle.std.specs.Prelude.{All, slice_get, slice_index, nat_le, nat_lt, decimal, codes}
use Rattle.std.specs.Int.{w32, byte_at, bytes_high_first, to_be_bytes}
use Rattle.std.proofs.Math.Nat.{mod-lt}
use Rattle.std.proofs.lemmas.List.{length-map}
use Rattle.std.proofs.lemmas.List.Elements.{All-nil, All-push, All-head, All-tail}
use Rattle.sha2.specs.Sha256.{sha256, digest_bytes, final_hash, initial_hash_256}
use Rattle.sha2.proofs.Facts256.{length-sha256}
use Rattle.hex.specs.Hex.{IsBytes, encode_lower, lower_digits}
use Rattle.hex.proofs.HexLemmas.{length-encode_with}
use Rattle.bk_digest.specs.Digest.{tagged_of}
use Rattle.bk_digest.specs.Tree.{node_of, root_within, root_of, path_within, path_of, climb}
use Rattle.bk_digest.proofs.Paths.{path_at}
use Rattle.bk_digest.proofs.Climbs.{own_path}
use Rattle.bk_base.specs.declared.genesis.Row.{Row}
use Rattle.bk_base.specs.Genesis.{row_text}
use Rattle.bk_report.specs.Leaves.{leaves_of, state_of}
use Rattle.bk_report.specs.Lines.{text_of}
use Rattle.bk_report.specs.Proofs.{ProofValue, IsDigest, IsRow, IsProofOf, IsProofValue, IsGoodProof, path_lines, proof_text, most_proof}
use Rattle.bk_report.proofs.Numbers.{number_short}
use Rattle.bk_report.proofs.ProofPaths.{path_text, account_part, index_part, size_part, text_parts}

-- ---- digests are 32 bytes

bytes_none : IsBytes []
bytes_none i = omega arith

bytes_more : (x : ℕ) (xs : List ℕ) → x < 256 → IsBytes xs → IsBytes (x ∷ xs)
bytes_more x xs low h zero = low
bytes_more x xs low h (suc i) = h i

bytes_append : (xs ys : List ℕ) → IsBytes xs → IsBytes ys → IsBytes (xs ++ ys)
bytes_append [] ys h k = k
bytes_append (x ∷ xs) ys h k = bytes_more x (xs ++ ys) (h 0) (bytes_append xs ys (λ i. h (suc i)) k)

byte_low : (k n : ℕ) → byte_at k n < 256
byte_low zero n = mod-lt n (omega arith)
byte_low (suc k) n = mod-lt (n / 256 ^ suc k) (omega arith)

bytes_of_number : (k n : ℕ) → IsBytes (bytes_high_first k n)
bytes_of_number zero n = bytes_none
bytes_of_number (suc k) n = bytes_more (byte_at k n) (bytes_high_first k n) (byte_low k n) (bytes_of_number k n)

bytes_of_hash : (h : List ℕ) (n : ℕ) → IsBytes (digest_bytes h n)
unfolding digest_bytes
bytes_of_hash h zero = bytes_none
bytes_of_hash h (suc n) = bytes_append (digest_bytes h n) (to_be_bytes w32 (slice_index h n)) (bytes_of_hash h n) (bytes_of_number 4 (slice_index h n))

sha_bytes : (m : List ℕ) → IsBytes (sha256 m)
unfolding sha256
sha_bytes m = bytes_of_hash (final_hash initial_hash_256 m) 8

sha_digest : (m : List ℕ) → IsDigest (sha256 m)
sha_digest m = record { sized = length-sha256 m; bytes = sha_bytes m }

tagged_digest : (byte : ℕ) (m : List ℕ) → IsDigest (tagged_of byte m)
unfolding tagged_of
tagged_digest byte m = sha_digest (byte ∷ m)

-- ---- so are the roots and the paths of trees

by_test : {A : Type 0} (P : A → Type 0) (b : Bool) (x y : A) → P x → P y → P (if b then x else y)
by_test P true x y h k = h
by_test P false x y h k = k

root_digest : (depth : ℕ) (leaves : List (List ℕ)) → IsDigest (root_within depth leaves)
unfolding root_within
root_digest zero [] = sha_digest []
root_digest zero (leaf ∷ rest) = tagged_digest 0x00 leaf
root_digest (suc depth) leaves = by_test IsDigest (nat_le (length leaves) (2 ^ depth)) (root_within depth leaves)
    (node_of (root_within depth (take (2 ^ depth) leaves)) (root_within depth (drop (2 ^ depth) leaves)))
    (root_digest depth leaves)
    (tagged_digest 0x01 (root_within depth (take (2 ^ depth) leaves) ++ root_within depth (drop (2 ^ depth) leaves)))

whole_root : (leaves : List (List ℕ)) → IsDigest (root_of leaves)
unfolding root_of
whole_root leaves = root_digest (length leaves) leaves

-- digests, at most one for each level
record ArePath (depth : ℕ) (path : List (List ℕ)) : Type 0 where
  digests : All IsDigest path
  few : length path ≤ depth

path_wider : (depth : ℕ) (path : List (List ℕ)) → ArePath depth path → ArePath (suc depth) path
path_wider depth path h = let few = h.few in record { digests = h.digests; few = omega (arith, few) }

path_longer : (depth : ℕ) (path : List (List ℕ)) (d : List ℕ) → ArePath depth path → IsDigest d → ArePath (suc depth) (path ++ d ∷ [])
path_longer depth path d h is = let few = h.few in record { digests = All-push IsDigest path d h.digests is; few = omega (arith, few, length-append path (d ∷ [])) }

path_digests : (depth : ℕ) (leaves : List (List ℕ)) (i : ℕ) → ArePath depth (path_within depth leaves i)
unfolding path_within
path_digests zero leaves i = record { digests = All-nil IsDigest; few = omega arith }
path_digests (suc depth) leaves i =
    let left = take (2 ^ depth) leaves in
    let right = drop (2 ^ depth) leaves in
    let in_left = path_within depth left i ++ root_of right ∷ [] in
    let in_right = path_within depth right (i - 2 ^ depth) ++ root_of left ∷ [] in
    by_test (ArePath (suc depth)) (nat_le (length leaves) (2 ^ depth)) (path_within depth leaves i) (if nat_lt i (2 ^ depth) then in_left else in_right)
    (path_wider depth (path_within depth leaves i) (path_digests depth leaves i))
    (by_test (ArePath (suc depth)) (nat_lt i (2 ^ depth)) in_left in_right
    (path_longer depth (path_within depth left i) (root_of right) (path_digests depth left i) (whole_root right))
    (path_longer depth (path_within depth right (i - 2 ^ depth)) (root_of left) (path_digests depth right (i - 2 ^ depth)) (whole_root left)))

whole_path : (leaves : List (List ℕ)) (i : ℕ) → length leaves < 2 ^ 64 → ArePath 64 (path_of leaves i)
whole_path leaves i low = subst (ArePath 64) (sym (path_at leaves i 64 (omega (arith, low)))) (path_digests 64 leaves i)

-- ---- the account

-- what holds of all accounts holds of the one that is found
row_found : (rows : List Row) (i : ℕ) (a : Row) → All IsRow rows → slice_get rows i ≡ Some a → IsRow a
row_found [] i a h e = absurd cc
row_found (r ∷ rows) zero a h e = let same : r ≡ a = cc in subst IsRow same (All-head IsRow r rows h)
row_found (r ∷ rows) (suc i) a h e = row_found rows i a (All-tail IsRow r rows h) e

-- its leaf is at the same index
leaf_found : (rows : List Row) (i : ℕ) (a : Row) → slice_get rows i ≡ Some a → (i < length rows) × (get_or (leaves_of rows) i [] ≡ row_text a)
leaf_found [] i a e = absurd cc
leaf_found (r ∷ rows) zero a e = let same : r ≡ a = cc in (omega arith, ap row_text same)
leaf_found (r ∷ rows) (suc i) a e = let h = leaf_found rows i a e in (let low = h.0 in omega (arith, low), h.1)

-- ---- the text is short

part_short : (word value rest : List ℕ) (b w v r : ℕ) → length word ≤ w → length value ≤ v → length rest ≤ r → length (word ++ (value ++ b ∷ rest)) ≤ w + v + 1 + r
part_short word value rest b w v r hw hv hr = omega (arith, length-append word (value ++ b ∷ rest), length-append value (b ∷ rest), hw, hv, hr)

digest_short : (d : List ℕ) → IsDigest d → length (encode_lower d) ≤ 64
digest_short d is = let sized = is.sized in omega (arith, length-encode_with lower_digits d, sized)

path_short : (path : List (List ℕ)) → All IsDigest path → length (text_of (path_lines path)) ≤ 70 * length path
path_short [] h = omega arith
path_short (d ∷ tail) h =
    let later = path_short tail (All-tail IsDigest d tail h) in
    let one = part_short (codes "path ") (encode_lower d) (text_of (path_lines tail)) 10 5 64 (70 * length tail) (let c : length (codes "path ") ≡ 5 = refl in omega (arith, c)) (digest_short d (All-head IsDigest d tail h)) later in
    let all = ap length (path_text d tail) in
    omega (arith, one, all)

account_short : (p : ProofValue) → IsRow p.account → length (text_of (path_lines p.path)) ≤ 4480 → length (account_part p) ≤ 4551
account_short p row path =
    let seq = part_short [] (decimal p.account.seq) (text_of (path_lines p.path)) 10 0 20 4480 (omega arith) (number_short p.account.seq row.seq) path in
    let balance = part_short [] (decimal p.account.balance) (decimal p.account.seq ++ 10 ∷ text_of (path_lines p.path)) 32 0 20 4501 (omega arith) (number_short p.account.balance row.balance) seq in
    part_short (codes "account ") (decimal p.account.id) (decimal p.account.balance ++ 32 ∷ (decimal p.account.seq ++ 10 ∷ text_of (path_lines p.path))) 32 8 20 4522
    (let c : length (codes "account ") ≡ 8 = refl in omega (arith, c)) (number_short p.account.id row.id) balance

text_short : (p : ProofValue) → IsProofValue p → length p.path ≤ 64 → length (proof_text p) ≤ most_proof
text_short p valid few =
    let path : length (text_of (path_lines p.path)) ≤ 4480 = omega (arith, path_short p.path valid.path, few) in
    let account = account_short p valid.account path in
    let index = part_short (codes "index ") (decimal p.index) (account_part p) 10 6 20 4551 (let c : length (codes "index ") ≡ 6 = refl in omega (arith, c)) (number_short p.index valid.index) account in
    let size = part_short (codes "size ") (decimal p.size) (index_part p) 10 5 20 4578 (let c : length (codes "size ") ≡ 5 = refl in omega (arith, c)) (number_short p.size valid.size) index in
    let state = part_short (codes "state ") (encode_lower p.state) (size_part p) 10 6 64 4604 (let c : length (codes "state ") ≡ 6 = refl in omega (arith, c)) (digest_short p.state valid.state) size in
    let all = ap length (text_parts p) in
    omega (arith, state, all)

-- ---- the proof

module _ (rows : List Row) (id : ℕ) (p : ProofValue) (count : length rows < 2 ^ 64) (fit : All IsRow rows) (made : IsProofOf rows id p) where
  leaves_low : length (leaves_of rows) < 2 ^ 64
  leaves_low = subst (λ (n : ℕ). n < 2 ^ 64) (sym (length-map rows row_text)) count

  inside : p.index < p.size
  inside = subst (λ (n : ℕ). p.index < n) (sym made.size) (leaf_found rows p.index p.account made.found).0

  path_is : ArePath 64 p.path
  path_is = subst (ArePath 64) (sym made.path) (whole_path (leaves_of rows) p.index leaves_low)

  valid_made : IsProofValue p
  valid_made =
      let size : p.size < 2 ^ 64 = subst (λ (n : ℕ). n < 2 ^ 64) (sym made.size) count in
      let low = inside in
      record {
        state = subst IsDigest (sym made.state) (whole_root (leaves_of rows));
        size = size;
        index = omega (arith, low, size);
        account = row_found rows p.index p.account fit made.found;
        path = path_is.digests;
      }

  leads_made : climb (tagged_of 0x00 (row_text p.account)) p.index p.size p.path ≡ Some p.state
  leads_made =
      let leaf = leaf_found rows p.index p.account made.found in
      let size : p.size ≡ length (leaves_of rows) = made.size ∙ sym (length-map rows row_text) in
      let low : p.index < length (leaves_of rows) = subst (λ (n : ℕ). p.index < n) size inside in
      (λ i. climb (tagged_of 0x00 (sym leaf.1 i)) p.index (size i) (made.path i))
      ∙ own_path (leaves_of rows) p.index low
      ∙ ap (λ (d : List ℕ). Some d) (sym made.state)

  pub made_is_good : IsGoodProof (encode_lower (state_of rows)) (proof_text p)
  made_is_good = record {
    proof = p;
    valid = valid_made;
    spelled = refl;
    short = text_short p valid_made path_is.few;
    root_is = ap encode_lower (sym made.state);
    inside = inside;
    leads = leads_made;
  }
