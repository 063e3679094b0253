-- What is read of a certificate encodes to the same bytes, and what is encoded is read again.
use Rattle.std.proofs.Common.{◌≡◌, ◌≢◌, ℕ, ◌*◌, ◌^◌, ◌<◌, ◌≤◌, Bool, true, false, cond, eqb, leb, List, [], ◌∷◌, ◌++◌, length, take, drop, Option, Some, None, IfSome, IfNone, refl, sym, ap, subst, ◌∙◌, append_assoc, arith}
use Rattle.std.specs.List.{concat}
use Rattle.std.specs.Simd.{first_chunks}
use Rattle.std.specs.Int.{w8, w16, w32, to_be_bytes}
use Rattle.std.proofs.lemmas.Bool.{eqb-true, leb-true, le-leb}
use Rattle.std.proofs.lemmas.List.{append-nil, nil_from_length, take_at, drop_at}
use Rattle.std.proofs.lemmas.Option.{cond_some, none-some}
use Rattle.bk_base.specs.Numbers.{IsBytes}
use Rattle.bk_base.specs.Numbers.{◌>>=◌, number_at, bytes_at}
use Rattle.bk_committee.proofs.Chunks.{length-pieces, sized-pieces, concat-pieces, length-concat-sized, pieces-concat}
use Rattle.bk_cert.specs.Values.{HeaderValue, CertValue, header_with, cert_with}
use Rattle.bk_cert.specs.Mask.{signer_count}
use Rattle.bk_cert.specs.Spelling.{AreDigests, IsHeader, header_text, IsCertificate, seal_text, certificate_text}
use Rattle.bk_cert.specs.Reading.{digests_at, header_at, certificate_of}
use Rattle.bk_base.proofs.FieldLemmas.{bind_some, some_is, Takes, Takes-then, wide16, wide32, number_takes, number_again, byte_takes, byte_again, bytes_take, bytes_again}

-- ---- digests

abbrev AreTaken : ℕ → List ℕ → List (List ℕ) × List ℕ → Type 0
AreTaken n bytes x = Takes bytes (concat x.0) x.1 × (length x.0 ≡ n) × AreDigests x.0

digests_take : (n : ℕ) (bytes : List ℕ) (x : List (List ℕ) × List ℕ) → IsBytes bytes → digests_at n bytes ≡ Some x → AreTaken n bytes x
unfolding digests_at
digests_take n bytes x fits e =
    let a = bind_some (bytes_at (32 * n) bytes) (λ run. Some (first_chunks 32 n run.0, run.1)) x e in
    let t = bytes_take (32 * n) bytes a.0.0 a.0.1 fits a.1 in
    let made : List (List ℕ) × List ℕ = (first_chunks 32 n a.0.0, a.0.1) in
    let spelled : Takes bytes (concat (first_chunks 32 n a.0.0)) a.0.1 = subst (λ (text : List ℕ). Takes bytes text a.0.1) (sym (concat-pieces 32 n a.0.0 t.1)) t.0 in
    subst (AreTaken n bytes) {x = made} {y = x} (some_is made x a.2) (spelled, length-pieces 32 n a.0.0, sized-pieces 32 n a.0.0 t.1)

pub digests_steps : (n : ℕ) (bytes run rest : List ℕ) → bytes_at (32 * n) bytes ≡ Some (run, rest) → digests_at n bytes ≡ Some (first_chunks 32 n run, rest)
unfolding digests_at
digests_steps n bytes run rest e = rw e refl

digests_again : (digests : List (List ℕ)) (rest : List ℕ) → AreDigests digests → digests_at (length digests) (concat digests ++ rest) ≡ Some (digests, rest)
digests_again digests rest sized =
    let run : bytes_at (32 * length digests) (concat digests ++ rest) ≡ Some (concat digests, rest) = subst (λ (k : ℕ). bytes_at k (concat digests ++ rest) ≡ Some (concat digests, rest)) (length-concat-sized 32 digests sized) (bytes_again (concat digests) rest) in
    digests_steps (length digests) (concat digests ++ rest) (concat digests) rest run ∙ ap (λ (ds : List (List ℕ)). Some (ds, rest)) (pieces-concat 32 digests sized)

-- ---- counted digests

taken : {A : Type 0} (b : Bool) (o : Option A) (x : A) → cond b o None ≡ Some x → (b ≡ true) × (o ≡ Some x)
taken true o x e = (refl, e)
taken false o x e = absurd cc

few_take : (most n : ℕ) (bytes : List ℕ) (x : List (List ℕ) × List ℕ) → IsBytes bytes → cond (leb n most) (digests_at n bytes) None ≡ Some x → AreTaken n bytes x × (length x.0 ≤ most)
few_take most n bytes x fits e =
    let g = taken (leb n most) (digests_at n bytes) x e in
    let t = digests_take n bytes x fits g.1 in
    (t, subst (λ (k : ℕ). k ≤ most) (sym t.1) (leb-true n most g.0))

-- ---- headers

abbrev IsTaken : List ℕ → HeaderValue × List ℕ → Type 0
IsTaken bytes x = Takes bytes (header_text x.0) x.1 × IsHeader x.0

header_parts : (bytes r0 r1 r2 r3 r4 r5 : List ℕ) (author round n m : ℕ) (batches parents : List (List ℕ))
    → Takes bytes (author ∷ []) r0 → Takes r0 (to_be_bytes w32 round) r1 → Takes r1 (to_be_bytes w16 n) r2 → Takes r2 (concat batches) r3 → Takes r3 (m ∷ []) r4 → Takes r4 (concat parents) r5 → length batches ≡ n → length parents ≡ m
    → Takes bytes (header_text (header_with author round batches parents)) r5
header_parts bytes r0 r1 r2 r3 r4 r5 author round n m batches parents p0 p1 p2 p3 p4 p5 en em =
    let l1 = Takes-then bytes (author ∷ []) r0 (to_be_bytes w32 round) r1 p0 p1 in
    let l2 = Takes-then bytes ((author ∷ []) ++ to_be_bytes w32 round) r1 (to_be_bytes w16 n) r2 l1 p2 in
    let l3 = Takes-then bytes ((author ∷ []) ++ to_be_bytes w32 round ++ to_be_bytes w16 n) r2 (concat batches) r3 l2 p3 in
    let last = Takes-then r3 (m ∷ []) r4 (concat parents) r5 p4 p5 in
    let all = Takes-then bytes ((author ∷ []) ++ to_be_bytes w32 round ++ to_be_bytes w16 n ++ concat batches) r3 (m ∷ concat parents) r5 l3 last in
    let one : Takes bytes ((author ∷ []) ++ to_be_bytes w32 round ++ to_be_bytes w16 (length batches) ++ concat batches ++ m ∷ concat parents) r5 =
    subst (λ (k : ℕ). Takes bytes ((author ∷ []) ++ to_be_bytes w32 round ++ to_be_bytes w16 k ++ concat batches ++ m ∷ concat parents) r5) (sym en) all in
    subst (λ (k : ℕ). Takes bytes ((author ∷ []) ++ to_be_bytes w32 round ++ to_be_bytes w16 (length batches) ++ concat batches ++ k ∷ concat parents) r5) (sym em) one

header_takes : (bytes : List ℕ) (x : HeaderValue × List ℕ) → IsBytes bytes → header_at bytes ≡ Some x → IsTaken bytes x
unfolding header_at
header_takes bytes x fits e =
    let a = bind_some (number_at w8 bytes) (λ author. number_at w32 author.1 >>= λ round. number_at w16 round.1 >>= λ n. cond (leb n.0 1000) (digests_at n.0 n.1) None >>= λ batches. number_at w8 batches.1 >>= λ m. cond (leb m.0 128) (digests_at m.0 m.1) None >>= λ parents. Some (header_with author.0 round.0 batches.0 parents.0, parents.1)) x e in
    let b = bind_some (number_at w32 a.0.1) (λ round. number_at w16 round.1 >>= λ n. cond (leb n.0 1000) (digests_at n.0 n.1) None >>= λ batches. number_at w8 batches.1 >>= λ m. cond (leb m.0 128) (digests_at m.0 m.1) None >>= λ parents. Some (header_with a.0.0 round.0 batches.0 parents.0, parents.1)) x a.2 in
    let d = bind_some (number_at w16 b.0.1) (λ n. cond (leb n.0 1000) (digests_at n.0 n.1) None >>= λ batches. number_at w8 batches.1 >>= λ m. cond (leb m.0 128) (digests_at m.0 m.1) None >>= λ parents. Some (header_with a.0.0 b.0.0 batches.0 parents.0, parents.1)) x b.2 in
    let f = bind_some (cond (leb d.0.0 1000) (digests_at d.0.0 d.0.1) None) (λ batches. number_at w8 batches.1 >>= λ m. cond (leb m.0 128) (digests_at m.0 m.1) None >>= λ parents. Some (header_with a.0.0 b.0.0 batches.0 parents.0, parents.1)) x d.2 in
    let g = bind_some (number_at w8 f.0.1) (λ m. cond (leb m.0 128) (digests_at m.0 m.1) None >>= λ parents. Some (header_with a.0.0 b.0.0 f.0.0 parents.0, parents.1)) x f.2 in
    let h = bind_some (cond (leb g.0.0 128) (digests_at g.0.0 g.0.1) None) (λ parents. Some (header_with a.0.0 b.0.0 f.0.0 parents.0, parents.1)) x g.2 in
    let t0 = byte_takes bytes a.0.0 a.0.1 fits a.1 in
    let t1 = number_takes w32 (2 ^ 32) wide32 a.0.1 b.0.0 b.0.1 t0.0.rest_fits b.1 in
    let t2 = number_takes w16 (2 ^ 16) wide16 b.0.1 d.0.0 d.0.1 t1.0.rest_fits d.1 in
    let t3 = few_take 1000 d.0.0 d.0.1 f.0 t2.0.rest_fits f.1 in
    let t4 = byte_takes f.0.1 g.0.0 g.0.1 t3.0.0.rest_fits g.1 in
    let t5 = few_take 128 g.0.0 g.0.1 h.0 t4.0.rest_fits h.1 in
    let all = header_parts bytes a.0.1 b.0.1 d.0.1 f.0.1 g.0.1 h.0.1 a.0.0 b.0.0 d.0.0 g.0.0 f.0.0 h.0.0 t0.0 t1.0 t2.0 t3.0.0 t4.0 t5.0.0 t3.0.1 t5.0.1 in
    let made : HeaderValue × List ℕ = (header_with a.0.0 b.0.0 f.0.0 h.0.0, h.0.1) in
    let good : IsHeader made.0 = record { author_fits = t0.1; round_fits = t1.1; few_batches = t3.1; few_parents = t5.1; batches_sized = t3.0.2; parents_sized = t5.0.2 } in
    subst (IsTaken bytes) {x = made} {y = x} (some_is made x h.2) (all, good)

header_steps : (bytes r0 r1 r2 r3 r4 r5 : List ℕ) (author round n m : ℕ) (batches parents : List (List ℕ))
    → number_at w8 bytes ≡ Some (author, r0) → number_at w32 r0 ≡ Some (round, r1) → number_at w16 r1 ≡ Some (n, r2) → leb n 1000 ≡ true → digests_at n r2 ≡ Some (batches, r3) → number_at w8 r3 ≡ Some (m, r4) → leb m 128 ≡ true → digests_at m r4 ≡ Some (parents, r5)
    → header_at bytes ≡ Some (header_with author round batches parents, r5)
unfolding header_at
header_steps bytes r0 r1 r2 r3 r4 r5 author round n m batches parents e0 e1 e2 e3 e4 e5 e6 e7 = rw (e0, e1, e2, e3, e4, e5, e6, e7) refl

regroup : (a b c d e rest : List ℕ) → a ++ b ++ c ++ d ++ e ++ rest ≡ a ++ (b ++ (c ++ (d ++ (e ++ rest))))
regroup a b c d e rest = append_assoc (a ++ b ++ c ++ d) e rest ∙ append_assoc (a ++ b ++ c) d (e ++ rest) ∙ append_assoc (a ++ b) c (d ++ (e ++ rest)) ∙ append_assoc a b (c ++ (d ++ (e ++ rest)))

header_again : (h : HeaderValue) (rest : List ℕ) → IsHeader h → header_at (header_text h ++ rest) ≡ Some (h, rest)
header_again h rest good =
    let r4 : List ℕ = concat h.parents ++ rest in
    let r3 : List ℕ = length h.parents ∷ r4 in
    let r2 : List ℕ = concat h.batches ++ r3 in
    let r1 : List ℕ = to_be_bytes w16 (length h.batches) ++ r2 in
    let r0 : List ℕ = to_be_bytes w32 h.round ++ r1 in
    let spelled : header_text h ++ rest ≡ h.author ∷ r0 = regroup (h.author ∷ []) (to_be_bytes w32 h.round) (to_be_bytes w16 (length h.batches)) (concat h.batches) (length h.parents ∷ concat h.parents) rest in
    let few : length h.batches < 2 ^ 16 = omega (arith, good.few_batches) in
    ap header_at spelled ∙ header_steps (h.author ∷ r0) r0 r1 r2 r3 r4 rest h.author h.round (length h.batches) (length h.parents) h.batches h.parents
    (byte_again h.author r0) (number_again w32 (2 ^ 32) wide32 h.round r1 good.round_fits) (number_again w16 (2 ^ 16) wide16 (length h.batches) r2 few)
    (le-leb (length h.batches) 1000 good.few_batches) (digests_again h.batches r3 good.batches_sized) (byte_again (length h.parents) r4)
    (le-leb (length h.parents) 128 good.few_parents) (digests_again h.parents rest good.parents_sized)

-- ---- the whole certificate

nothing_after : (bytes text rest : List ℕ) → bytes ≡ text ++ rest → rest ≡ [] → bytes ≡ text
nothing_after bytes text rest parts nothing = parts ∙ ap (λ (r : List ℕ). text ++ r) nothing ∙ append-nil text

pub certificate_takes : (bytes : List ℕ) (c : CertValue) → IsBytes bytes → certificate_of bytes ≡ Some c → IsCertificate c × (bytes ≡ certificate_text c)
unfolding certificate_of
certificate_takes bytes c fits e =
    let a = bind_some (header_at bytes) (λ header. bytes_at 16 header.1 >>= λ mask. digests_at (signer_count mask.0) mask.1 >>= λ tags. cond (eqb (length tags.1) 0) (Some (cert_with header.0 mask.0 tags.0)) None) c e in
    let b = bind_some (bytes_at 16 a.0.1) (λ mask. digests_at (signer_count mask.0) mask.1 >>= λ tags. cond (eqb (length tags.1) 0) (Some (cert_with a.0.0 mask.0 tags.0)) None) c a.2 in
    let d = bind_some (digests_at (signer_count b.0.0) b.0.1) (λ tags. cond (eqb (length tags.1) 0) (Some (cert_with a.0.0 b.0.0 tags.0)) None) c b.2 in
    let g = cond_some (eqb (length d.0.1) 0) (cert_with a.0.0 b.0.0 d.0.0) c d.2 in
    let t0 = header_takes bytes a.0 fits a.1 in
    let t1 = bytes_take 16 a.0.1 b.0.0 b.0.1 t0.0.rest_fits b.1 in
    let t2 = digests_take (signer_count b.0.0) b.0.1 d.0 t1.0.rest_fits d.1 in
    let nothing : d.0.1 ≡ [] = nil_from_length d.0.1 (eqb-true (length d.0.1) 0 g.0) in
    let seal = Takes-then a.0.1 b.0.0 b.0.1 (concat d.0.0) d.0.1 t1.0 t2.0 in
    let all = (Takes-then bytes (header_text a.0.0) a.0.1 (seal_text b.0.0 d.0.0) d.0.1 t0.0 seal).parts in
    let made : CertValue = cert_with a.0.0 b.0.0 d.0.0 in
    let whole : bytes ≡ certificate_text made = nothing_after bytes (certificate_text made) d.0.1 all nothing in
    let good : IsCertificate made = record { headed = t0.1; mask_sized = t1.1; tag_each = t2.1; tags_sized = t2.2 } in
    subst (λ (v : CertValue). IsCertificate v × (bytes ≡ certificate_text v)) {x = made} {y = c} g.1 (good, whole)

certificate_steps : (bytes r0 r1 : List ℕ) (h : HeaderValue) (mask : List ℕ) (tags : List (List ℕ)) → header_at bytes ≡ Some (h, r0) → bytes_at 16 r0 ≡ Some (mask, r1) → digests_at (signer_count mask) r1 ≡ Some (tags, []) → certificate_of bytes ≡ Some (cert_with h mask tags)
unfolding certificate_of
certificate_steps bytes r0 r1 h mask tags e0 e1 e2 = rw (e0, e1, e2) refl

pub certificate_again : (c : CertValue) → IsCertificate c → certificate_of (certificate_text c) ≡ Some c
certificate_again c good =
    let r1 : List ℕ = concat c.tags in
    let r0 : List ℕ = c.mask ++ r1 in
    let mask : bytes_at 16 r0 ≡ Some (c.mask, r1) = subst (λ (k : ℕ). bytes_at k r0 ≡ Some (c.mask, r1)) good.mask_sized (bytes_again c.mask r1) in
    let whole : digests_at (length c.tags) r1 ≡ Some (c.tags, []) = ap (digests_at (length c.tags)) (sym (append-nil r1)) ∙ digests_again c.tags [] good.tags_sized in
    let tags : digests_at (signer_count c.mask) r1 ≡ Some (c.tags, []) = subst (λ (k : ℕ). digests_at k r1 ≡ Some (c.tags, [])) good.tag_each whole in
    certificate_steps (certificate_text c) r0 r1 c.header c.mask c.tags (header_again c.header r0 good.headed) mask tags

pub header_then_seal : (c : CertValue) → (take (length (header_text c.header)) (certificate_text c) ≡ header_text c.header) × (drop (length (header_text c.header)) (certificate_text c) ≡ seal_text c.mask c.tags)
header_then_seal c =
    let text : List ℕ = header_text c.header in
    let seal : List ℕ = seal_text c.mask c.tags in
    (take_at text seal (length text) refl, drop_at text seal (length text) refl)

pub header_cut : (bytes : List ℕ) (c : CertValue) (h : HeaderValue) (n : ℕ) → bytes ≡ certificate_text c → n ≡ length (header_text h) → h ≡ c.header → take n bytes ≡ header_text c.header
header_cut bytes c h n whole long same =
    ap (λ (b : List ℕ). take n b) whole ∙ take_at (header_text c.header) (seal_text c.mask c.tags) n (sym (long ∙ ap (λ (o : HeaderValue). length (header_text o)) same))

pub one_header : (h other : HeaderValue) → IsHeader h → IsHeader other → header_text h ≡ header_text other → h ≡ other
one_header h other good fine e =
    let read : Some (h, []) ≡ Some (other, []) = sym (header_again h [] good) ∙ ap (λ (t : List ℕ). header_at (t ++ [])) e ∙ header_again other [] fine in
    ap (λ (x : HeaderValue × List ℕ). x.0) (some_is (h, []) (other, []) read)

-- ---- what is known of a certificate, from the function that reads it

pub is_found : (bytes : List ℕ) (o : Option CertValue) → IsBytes bytes → o ≡ certificate_of bytes → IfSome o (λ c. IsCertificate c × (bytes ≡ certificate_text c))
is_found bytes (Some c) fits given = certificate_takes bytes c fits (sym given)
is_found bytes None fits given = tt

pub is_none : (bytes : List ℕ) (o : Option CertValue) → o ≡ certificate_of bytes → IfNone o ((c : CertValue) → IsCertificate c → bytes ≢ certificate_text c)
is_none bytes (Some c) given = tt
is_none bytes None given = λ c h e. none-some c (given ∙ ap certificate_of e ∙ certificate_again c h)
