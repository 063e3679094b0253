-- How digests are cut from bytes, measured, written one after another, hashed and put together.
use Rattle.std.proofs.Common.{◌≡◌, ℕ, suc, ◌+◌, ◌*◌, ◌/◌, ◌<◌, List, [], ◌∷◌, ◌++◌, length, get_or, map, take, Some, None, refl, sym, ap, ◌∙◌, append_assoc, arith}
use Rattle.std.specs.List.{concat}
use Rattle.std.specs.Simd.{first_chunks}
use Rattle.std.specs.Int.{w16, w32, to_be_bytes}
use Rattle.std.proofs.lemmas.List.{append-nil, take_more, length-append, length-take}
use Rattle.sha2.specs.Sha256.{sha256}
use Rattle.sha2.proofs.Facts256.{length-sha256}
use Rattle.bk_digest.specs.Digest.{tagged_of}
use Rattle.bk_digest.specs.Mac.{hmac_of}
use Rattle.bk_base.specs.Numbers.{bytes_at}
use Rattle.bk_committee.proofs.Chunks.{length-concat-sized}
use Rattle.bk_cert.specs.Values.{HeaderValue, CertValue, cert_with}
use Rattle.bk_cert.specs.Spelling.{AreDigests, IsHeader, header_text}
use Rattle.bk_cert.specs.Reading.{digests_at}
use Rattle.bk_cert.specs.Identity.{id_of, tag_of}
use Rattle.bk_base.proofs.FieldLemmas.{bytes_rest}
use Rattle.bk_cert.proofs.Grammar.{digests_steps}

-- ---- cut from bytes

pub digests_missing : (n : ℕ) (bytes : List ℕ) → None ≡ bytes_at (32 * n) bytes → None ≡ digests_at n bytes
unfolding digests_at
digests_missing n bytes e = rw (← e) refl

how_many : (n len : ℕ) → len ≡ 32 * n → len / 32 ≡ n
how_many n len h = omega arith

run_long : (n : ℕ) (bytes run rest : List ℕ) → bytes_at n bytes ≡ Some (run, rest) → length run ≡ n
run_long n bytes run rest e = let (long, front, after) = bytes_rest n bytes run rest e in rw (← front) (omega (arith, length-take n bytes))

pub digests_cut : (n : ℕ) (bytes run rest : List ℕ) (pieces : List (List ℕ)) → Some (run, rest) ≡ bytes_at (32 * n) bytes → pieces ≡ first_chunks 32 (length run / 32) run → Some (pieces, rest) ≡ digests_at n bytes
digests_cut n bytes run rest pieces found cut =
    let len : length run ≡ 32 * n = run_long (32 * n) bytes run rest (sym found) in
    let all : pieces ≡ first_chunks 32 n run = cut ∙ ap (λ (k : ℕ). first_chunks 32 k run) (how_many n (length run) len) in
    ap (λ (ds : List (List ℕ)). Some (ds, rest)) all ∙ sym (digests_steps n bytes run rest (sym found))

-- ---- measured

pub header_long : (h : HeaderValue) → IsHeader h → length (header_text h) ≡ 8 + 32 * (length h.batches + length h.parents)
header_long h good =
    let batches : length (concat h.batches) ≡ 32 * length h.batches = length-concat-sized 32 h.batches good.batches_sized in
    let parents : length (concat h.parents) ≡ 32 * length h.parents = length-concat-sized 32 h.parents good.parents_sized in
    let both : length (concat h.batches ++ length h.parents ∷ concat h.parents) ≡ length (concat h.batches) + suc (length (concat h.parents)) = length-append (concat h.batches) (length h.parents ∷ concat h.parents) in
    omega arith

-- ---- one after another

concat-append : (xs ys : List (List ℕ)) → concat (xs ++ ys) ≡ concat xs ++ concat ys
concat-append [] ys = refl
concat-append (x ∷ xs) ys = ap (λ (t : List ℕ). x ++ t) (concat-append xs ys) ∙ sym (append_assoc x (concat xs) (concat ys))

concat_more : (xs : List (List ℕ)) (i : ℕ) (x : List ℕ) → i < length xs → x ≡ get_or xs i x → concat (take (i + 1) xs) ≡ concat (take i xs) ++ x
concat_more xs i x lt e =
    ap concat (take_more xs i x lt) ∙ concat-append (take i xs) (get_or xs i x ∷ []) ∙ ap (λ (t : List ℕ). concat (take i xs) ++ t) (append-nil (get_or xs i x) ∙ sym e)

pub written : (before : List ℕ) (xs : List (List ℕ)) (i : ℕ) (x item : List ℕ) → i < length xs → x ≡ item → item ≡ get_or xs i item → before ++ concat (take i xs) ++ x ≡ before ++ concat (take (i + 1) xs)
written before xs i x item lt same read =
    append_assoc before (concat (take i xs)) x ∙ ap (λ (t : List ℕ). before ++ t) (ap (λ (t : List ℕ). concat (take i xs) ++ t) same ∙ sym (concat_more xs i item lt read))

-- ---- hashed

id_hashed : (h : HeaderValue) → sha256 (([] ++ 0x10 ∷ []) ++ (h.author ∷ to_be_bytes w32 h.round ++ to_be_bytes w16 (length h.batches)) ++ concat h.batches ++ length h.parents ∷ [] ++ concat h.parents) ≡ id_of h
unfolding tagged_of
id_hashed h =
    let opening : List ℕ = h.author ∷ to_be_bytes w32 h.round ++ to_be_bytes w16 (length h.batches) in
    ap (λ (t : List ℕ). sha256 (0x10 ∷ t)) (append_assoc (opening ++ concat h.batches) (length h.parents ∷ []) (concat h.parents))

pub id_parts : (h : HeaderValue) (opening : List ℕ) (batches parents : List (List ℕ)) (n : ℕ) → opening ≡ h.author ∷ to_be_bytes w32 h.round ++ to_be_bytes w16 (length h.batches) → batches ≡ h.batches → n ≡ length h.parents → parents ≡ h.parents
    → sha256 (([] ++ 0x10 ∷ []) ++ opening ++ concat batches ++ n ∷ [] ++ concat parents) ≡ id_of h
id_parts h opening batches parents n e0 e1 e2 e3 = rw (e0, e1, e2, e3) (id_hashed h)

pub tags_sized : (key : ℕ → List ℕ) (id : List ℕ) (members : List ℕ) → AreDigests (map (λ (member : ℕ). tag_of (key member) id) members)
unfolding hmac_of
tags_sized key id [] = tt
tags_sized key id (m ∷ ms) = (length-sha256 _, tags_sized key id ms)

-- ---- put together

pub same_cert : (c : CertValue) (h : HeaderValue) (mask : List ℕ) (tags : List (List ℕ)) → h ≡ c.header → mask ≡ c.mask → tags ≡ c.tags → cert_with h mask tags ≡ c
same_cert c h mask tags e0 e1 e2 = rw (e0, e1, e2) refl
