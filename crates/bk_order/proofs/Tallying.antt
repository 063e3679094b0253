-- The tally of frames with one frame more.
use Rattle.std.proofs.Common.{◌≡◌, ℕ, ◌+◌, ◌<◌, ◌≤◌, ◌^◌, Bool, true, false, List, [], ◌∷◌, ◌++◌, length, map, refl, sym, ap, subst, ◌∙◌, ⊎_elim, arith, length-append}
use Rattle.std.specs.List.{AllZip, Contains, flat_map}
use Rattle.std.proofs.lemmas.List.{append-nil, length-map, map-append}
use Rattle.std.proofs.lemmas.List.Concat.{flat_map-append}
use Rattle.std.proofs.lemmas.List.Elements.{Contains-append_left, Contains-append_right, Contains-append_cases}
use Rattle.std.proofs.lemmas.Slice.Zip.{all_zipped_more, AllZip-long}
use Rattle.sha2.specs.Sha256.{sha256}
use Rattle.bk_base.specs.declared.kind.Kind.{Kind}
use Rattle.bk_base.specs.declared.kind.Kind.TheVariants as kind
use Rattle.bk_base.specs.Feed.{Frame, frame_of}
use Rattle.bk_committee.specs.Payload.{CommitteeValue}
use Rattle.bk_cert.specs.Node.{Node}
use Rattle.bk_cert.proofs.Lists.{none_in_nil, contains_cases, contains_first, contains_later, from_map, in_map}
use Rattle.bk_certcheck.specs.declared.verdict.Verdict.{Verdict}
use Rattle.bk_certcheck.specs.declared.verdict.Verdict.TheVariants as verdict
use Rattle.bk_certcheck.specs.Verdicts.{IsVerdict}
use Rattle.bk_evidence.specs.Batches.{Batch}
use Rattle.bk_evidence.specs.Laws.{HaveSame}
use Rattle.bk_certcheck.specs.Frames.{batch_in, batches_in, certificate_in, certificates_in}
use Rattle.bk_order.specs.Frames.{AreBatches, AreCerts, certs_by}
use Rattle.bk_order.specs.Tally.{AreVerdicts, IsTallyOf, count_of, digests_in, ids_by}
use Rattle.bk_order.specs.declared.tally.Count.{Count}
use Rattle.bk_order.specs.declared.tally.Tally.{Tally}
use Rattle.bk_order.specs.private.Tallies.{Counts, CountsGood, CountsVerdict, HasRoom, IsNewBy, IsNewDigest, IsNewId, one_if}
use Rattle.bk_order.proofs.Keeping.{lone, good_certs, certs_good}
use Rattle.bk_order.proofs.OnceMore.{new_named, once_counts, once_short}
use Rattle.bk_order.specs.private.Digested.{batch_of}

-- ---- payloads and frames

no_payload : {Q : Type 0} (p : List ℕ) → Contains {X = List ℕ} [] p → Q
no_payload p h = absurd (none_in_nil p h)

one_certificate : (x : Kind) (q p : List ℕ) → Contains (certificate_in x q) p → frame_of x q ≡ frame_of kind.Certificate p
one_certificate kind.Committee q p h = no_payload p h
one_certificate kind.Genesis q p h = no_payload p h
one_certificate kind.Certificate q p h = ap (frame_of kind.Certificate) (lone q p h)
one_certificate kind.Batch q p h = no_payload p h

one_batch : (x : Kind) (q p : List ℕ) → Contains (batch_in x q) p → frame_of x q ≡ frame_of kind.Batch p
one_batch kind.Committee q p h = no_payload p h
one_batch kind.Genesis q p h = no_payload p h
one_batch kind.Certificate q p h = no_payload p h
one_batch kind.Batch q p h = ap (frame_of kind.Batch) (lone q p h)

from_flat : {X Y : Type 0} (f : X → List Y) (xs : List X) (y : Y) → Contains (flat_map f xs) y → (x : X) × Contains xs x × Contains (f x) y
from_flat f [] y h = absurd (none_in_nil y h)
from_flat {X} {Y} f (x ∷ xs) y h = ⊎_elim
    (λ (a : Contains (f x) y). (x, contains_first x xs, a))
    (λ (b : Contains (flat_map f xs) y). let r = from_flat f xs y b in (r.0, contains_later x xs r.0 r.1, r.2))
    (Contains-append_cases (f x) (flat_map f xs) y h)

in_flat : {X Y : Type 0} (f : X → List Y) (xs : List X) (x : X) (y : Y) → Contains xs x → Contains (f x) y → Contains (flat_map f xs) y
in_flat f [] x y h t = absurd (none_in_nil x h)
in_flat {X} {Y} f (w ∷ xs) x y h t = ⊎_elim
    (λ (e : w ≡ x). Contains-append_left (f w) (flat_map f xs) y (subst (λ (u : X). Contains (f u) y) (sym e) t))
    (λ (b : Contains xs x). Contains-append_right (f w) (flat_map f xs) y (in_flat f xs x y b t))
    (contains_cases w xs x h)

certificate_framed : (frames : List Frame) (p : List ℕ) → Contains (certificates_in frames) p → Contains frames (frame_of kind.Certificate p)
certificate_framed frames p h = let g = from_flat (λ (f : Frame). certificate_in f.kind f.payload) frames p h in subst (Contains frames) (one_certificate g.0.kind g.0.payload p g.2) g.1

certificate_listed : (frames : List Frame) (p : List ℕ) → Contains frames (frame_of kind.Certificate p) → Contains (certificates_in frames) p
certificate_listed frames p h = in_flat (λ (f : Frame). certificate_in f.kind f.payload) frames (frame_of kind.Certificate p) p h (contains_first p [])

batch_framed : (frames : List Frame) (p : List ℕ) → Contains (batches_in frames) p → Contains frames (frame_of kind.Batch p)
batch_framed frames p h = let g = from_flat (λ (f : Frame). batch_in f.kind f.payload) frames p h in subst (Contains frames) (one_batch g.0.kind g.0.payload p g.2) g.1

pub batch_listed : (frames : List Frame) (p : List ℕ) → Contains frames (frame_of kind.Batch p) → Contains (batches_in frames) p
batch_listed frames p h = in_flat (λ (f : Frame). batch_in f.kind f.payload) frames (frame_of kind.Batch p) p h (contains_first p [])

-- ---- the good certificates of verdicts are those of the frames

zip_back : {A B : Type 0} (R : A → B → Type 0) (xs : List A) (ys : List B) (y : B) → AllZip R xs ys → Contains ys y → (x : A) × Contains xs x × R x y
zip_back {A} {B} R xs [] y h c = absurd (none_in_nil y c)
zip_back {A} {B} R [] (z ∷ ys) y h c = absurd h
zip_back {A} {B} R (x ∷ xs) (z ∷ ys) y h c = ⊎_elim
    (λ (e : z ≡ y). (x, contains_first x xs, subst (R x) e h.0))
    (λ (b : Contains ys y). let r = zip_back R xs ys y h.1 b in (r.0, contains_later x xs r.0 r.1, r.2))
    (contains_cases z ys y c)

zip_forth : {A B : Type 0} (R : A → B → Type 0) (xs : List A) (ys : List B) (x : A) → AllZip R xs ys → Contains xs x → (y : B) × Contains ys y × R x y
zip_forth {A} {B} R [] ys x h c = absurd (none_in_nil x c)
zip_forth {A} {B} R (z ∷ xs) [] x h c = absurd h
zip_forth {A} {B} R (z ∷ xs) (y ∷ ys) x h c = ⊎_elim
    (λ (e : z ≡ x). (y, contains_first y ys, subst (λ (a : A). R a y) e h.0))
    (λ (b : Contains xs x). let r = zip_forth R xs ys x h.1 b in (r.0, contains_later y ys r.0 r.1, r.2))
    (contains_cases z xs x c)

good_listed : (k : CommitteeValue) (frames : List Frame) (vs : List Verdict) → AreVerdicts k frames vs → AreCerts k frames (flat_map certs_by vs)
good_listed k frames vs are = record {
  sound = λ c h.
      let f = from_flat certs_by vs c h in
      let p = zip_back (IsVerdict k) (certificates_in frames) vs f.0 are f.1 in
      (p.0, certificate_framed frames p.0 p.1, good_certs k p.0 f.0 p.2 c f.2);
  complete = λ c s.
      let v = zip_forth (IsVerdict k) (certificates_in frames) vs s.0 are (certificate_listed frames s.0 s.1) in
      in_flat certs_by vs v.0 c v.1 (certs_good k s.0 v.0 v.2 c s.2);
}

-- ---- what is new

new_id : (k : CommitteeValue) (frames : List Frame) (held : List Node) (vs : List Verdict) (id : List ℕ) (new : Bool) → AreCerts k frames held → AreVerdicts k frames vs
    → IsNewId held id new → IsNewBy (λ (x : List ℕ). x) (ids_by vs) id new
new_id k frames held vs id new certs are h =
    let goods = good_listed k frames vs are in
    let same : HaveSame held (flat_map certs_by vs) = record { into = λ c t. goods.complete c (certs.sound c t); back = λ c t. certs.complete c (goods.sound c t) } in
    new_named (λ (c : Node). c.id) held (flat_map certs_by vs) id new same h

new_digest : (frames : List Frame) (batches : List Batch) (d : List ℕ) (new : Bool) → AreBatches frames batches → IsNewDigest batches d new
    → IsNewBy (λ (x : List ℕ). x) (digests_in frames) d new
new_digest frames batches d true are h = λ m c.
    let p = from_map sha256 (batches_in frames) m c in
    λ q. h (batch_of p.0) (are.complete (batch_of p.0) (p.0, batch_framed frames p.0 p.1, refl)) (p.2 ∙ q)
new_digest frames batches d false are h =
    let s = are.sound h.0 h.1 in
    (sha256 s.0, in_map sha256 (batches_in frames) s.0 (batch_listed frames s.0 s.1), sym (ap (λ (b : Batch). b.digest) s.2) ∙ h.2)

-- ---- one more frame

flat_last : {X Y : Type 0} (f : X → List Y) (xs : List X) (x : X) → flat_map f (xs ++ x ∷ []) ≡ flat_map f xs ++ f x
flat_last {Y = Y} f xs x = flat_map-append f xs (x ∷ []) ∙ ap (λ (ys : List Y). flat_map f xs ++ ys) (append-nil (f x))

certificates_last : (before : List Frame) (f : Frame) → certificates_in (before ++ f ∷ []) ≡ certificates_in before ++ certificate_in f.kind f.payload
certificates_last = flat_last (λ (g : Frame). certificate_in g.kind g.payload)

digests_last : (before : List Frame) (f : Frame) → digests_in (before ++ f ∷ []) ≡ digests_in before ++ map sha256 (batch_in f.kind f.payload)
digests_last before f = ap (map sha256) (flat_last (λ (g : Frame). batch_in g.kind g.payload) before f) ∙ map-append sha256 (batches_in before) (batch_in f.kind f.payload)

ids_last : (vs : List Verdict) (v : Verdict) → ids_by (vs ++ v ∷ []) ≡ ids_by vs ++ map (λ (c : Node). c.id) (certs_by v)
ids_last vs v = ap (map (λ (c : Node). c.id)) (flat_last certs_by vs v) ∙ map-append (λ (c : Node). c.id) (flat_map certs_by vs) (certs_by v)

no_certificate : (x : Kind) (p : List ℕ) → (x ≡ kind.Certificate → ⊥) → certificate_in x p ≡ []
no_certificate kind.Committee p h = refl
no_certificate kind.Genesis p h = refl
no_certificate kind.Certificate p h = absurd (h refl)
no_certificate kind.Batch p h = refl

no_batch : (x : Kind) (p : List ℕ) → (x ≡ kind.Batch → ⊥) → batch_in x p ≡ []
no_batch kind.Committee p h = refl
no_batch kind.Genesis p h = refl
no_batch kind.Certificate p h = refl
no_batch kind.Batch p h = absurd (h refl)

-- as many names as there were
same_count : (old new : Count) (names more last : List (List ℕ)) → old ≡ count_of names → new ≡ old → more ≡ names ++ last → last ≡ [] → new ≡ count_of more
same_count old new names more last are e m none = e ∙ are ∙ ap count_of (sym (m ∙ ap (λ (ns : List (List ℕ)). names ++ ns) none ∙ append-nil names))

-- one name more
one_counted : (old new : Count) (names more : List (List ℕ)) (n : List ℕ) (is_new : Bool) → old ≡ count_of names → length names + 1 < 2 ^ 64 → IsNewBy (λ (x : List ℕ). x) names n is_new
    → Counts is_new old new → more ≡ names ++ n ∷ [] → new ≡ count_of more
one_counted old new names more n is_new are few is counts m =
    let short = once_short names in
    let room : HasRoom (count_of names) = record { all = few; names = omega (arith, few, short) } in
    counts (subst HasRoom (sym are) room)
    ∙ ((λ i. record { all = (are i).all + 1; names = (are i).names + one_if is_new }) ∙ (λ i. record { all = sym (length-append names (n ∷ [])) i; names = sym (once_counts names n is_new is) i }))
    ∙ ap count_of (sym m)

-- lists of at most one for each are no longer
flat_short : {X Y : Type 0} (f : X → List Y) → ((x : X) → length (f x) ≤ 1) → (xs : List X) → length (flat_map f xs) ≤ length xs
flat_short f one [] = omega arith
flat_short f one (x ∷ xs) = let a = one x in let b = flat_short f one xs in let l = length-append (f x) (flat_map f xs) in omega (arith, a, b, l)

certificates_few : (frames : List Frame) → length (certificates_in frames) ≤ length frames
certificates_few = flat_short (λ (g : Frame). certificate_in g.kind g.payload) (λ g. one g.kind g.payload)
  where
    one : (x : Kind) (p : List ℕ) → length (certificate_in x p) ≤ 1
    one kind.Committee p = omega arith
    one kind.Genesis p = omega arith
    one kind.Certificate p = omega arith
    one kind.Batch p = omega arith

digests_few : (frames : List Frame) → length (digests_in frames) ≤ length frames
digests_few frames =
    let a = flat_short (λ (g : Frame). batch_in g.kind g.payload) (λ g. one g.kind g.payload) frames in
    let b = length-map (batches_in frames) sha256 in
    omega (arith, a, b)
  where
    one : (x : Kind) (p : List ℕ) → length (batch_in x p) ≤ 1
    one kind.Committee p = omega arith
    one kind.Genesis p = omega arith
    one kind.Certificate p = omega arith
    one kind.Batch p = omega arith

ids_few : (vs : List Verdict) → length (ids_by vs) ≤ length vs
ids_few vs =
    let a = flat_short certs_by one vs in
    let b = length-map (flat_map certs_by vs) (λ (c : Node). c.id) in
    omega (arith, a, b)
  where
    one : (v : Verdict) → length (certs_by v) ≤ 1
    one (verdict.Good c) = omega arith
    one (verdict.Broken r) = omega arith

module _ (k : CommitteeValue) (before : List Frame) (f : Frame) (old : Tally) (t : IsTallyOf k before old) (few : length before + 1 < 2 ^ 64) where
  pub verdict_tallied : (held : List Node) (new : Tally) (v : Verdict) → AreCerts k before held → f.kind ≡ kind.Certificate → IsVerdict k f.payload v
      → CountsVerdict held old new v → IsTallyOf k (before ++ f ∷ []) new
  verdict_tallied held new v held_are e h counts =
      let more : certificates_in (before ++ f ∷ []) ≡ certificates_in before ++ f.payload ∷ [] = certificates_last before f ∙ ap (λ (x : Kind). certificates_in before ++ certificate_in x f.payload) e in
      let a = certificates_few before in
      record {
        verdicts = t.verdicts ++ v ∷ [];
        are_verdicts = subst (λ (ps : List (List ℕ)). AllZip (IsVerdict k) ps (t.verdicts ++ v ∷ [])) (sym more)
            (all_zipped_more (IsVerdict k) (certificates_in before) t.verdicts f.payload v t.are_verdicts h);
        certs = counts.certs (let c = t.certs in omega (arith, few, a, c)) ∙ (ap (λ (n : ℕ). n + 1) t.certs ∙ (sym (length-append (certificates_in before) (f.payload ∷ [])) ∙ ap length (sym more)));
        good = good v counts.good;
        batches = same_count old.batches new.batches (digests_in before) (digests_in (before ++ f ∷ [])) (map sha256 (batch_in f.kind f.payload)) t.batches counts.batches (digests_last before f)
            (ap (map sha256) (no_batch f.kind f.payload (λ q. let clash : kind.Certificate ≡ kind.Batch = sym e ∙ q in absurd cc)));
      }
    where
      good : (w : Verdict) → CountsGood held old.good new.good w → new.good ≡ count_of (ids_by (t.verdicts ++ w ∷ []))
      good (verdict.Good c) (is_new, is, counted) = one_counted old.good new.good (ids_by t.verdicts) (ids_by (t.verdicts ++ verdict.Good c ∷ [])) c.id is_new t.good
          (let a = certificates_few before in let b = AllZip-long (IsVerdict k) (certificates_in before) t.verdicts t.are_verdicts in let d = ids_few t.verdicts in omega (arith, few, a, b, d))
          (new_id k before held t.verdicts c.id is_new held_are t.are_verdicts is) counted (ids_last t.verdicts (verdict.Good c))
      good (verdict.Broken r) same = same_count old.good new.good (ids_by t.verdicts) (ids_by (t.verdicts ++ verdict.Broken r ∷ [])) [] t.good same (ids_last t.verdicts (verdict.Broken r)) refl

  -- a frame of another kind
  same_certs : (f.kind ≡ kind.Certificate → ⊥) → certificates_in (before ++ f ∷ []) ≡ certificates_in before
  same_certs other = certificates_last before f ∙ (ap (λ (ps : List (List ℕ)). certificates_in before ++ ps) (no_certificate f.kind f.payload other) ∙ append-nil (certificates_in before))

  other_than_cert : (count : Count) → (f.kind ≡ kind.Certificate → ⊥) → count ≡ count_of (digests_in (before ++ f ∷ []))
      → IsTallyOf k (before ++ f ∷ []) (record { certs = old.certs; good = old.good; batches = count })
  other_than_cert count other are = record {
    verdicts = t.verdicts;
    are_verdicts = subst (λ (ps : List (List ℕ)). AllZip (IsVerdict k) ps t.verdicts) (sym (same_certs other)) t.are_verdicts;
    certs = t.certs ∙ ap length (sym (same_certs other));
    good = t.good;
    batches = are;
  }

  pub batch_tallied : (batches : List Batch) (count : Count) (digest : List ℕ) (is_new : Bool) → AreBatches before batches → f.kind ≡ kind.Batch → digest ≡ sha256 f.payload
      → IsNewDigest batches digest is_new → Counts is_new old.batches count → IsTallyOf k (before ++ f ∷ []) (record { certs = old.certs; good = old.good; batches = count })
  batch_tallied batches count digest is_new are e d is counts = other_than_cert count (λ q. let clash : kind.Batch ≡ kind.Certificate = sym e ∙ q in absurd cc)
      (one_counted old.batches count (digests_in before) (digests_in (before ++ f ∷ [])) digest is_new t.batches (let a = digests_few before in omega (arith, few, a)) (new_digest before batches digest is_new are is) counts
      (digests_last before f ∙ (λ i. digests_in before ++ map sha256 (batch_in (e i) f.payload)) ∙ ap (λ (x : List ℕ). digests_in before ++ x ∷ []) (sym d)))

  pub other_tallied : (f.kind ≡ kind.Certificate → ⊥) → (f.kind ≡ kind.Batch → ⊥) → IsTallyOf k (before ++ f ∷ []) old
  other_tallied not_cert not_batch = other_than_cert old.batches not_cert
      (same_count old.batches old.batches (digests_in before) (digests_in (before ++ f ∷ [])) (map sha256 (batch_in f.kind f.payload)) t.batches refl (digests_last before f) (ap (map sha256) (no_batch f.kind f.payload not_batch)))
