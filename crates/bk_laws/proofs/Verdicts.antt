-- Verdicts, certificates, batches and rejects that there are: a verdict on any bytes, and lists of what any frames hold.
use Rattle.std.proofs.Common.{◌≡◌, ◌≢◌, ◌⊎◌, ℕ, ◌+◌, ◌<◌, ◌≤◌, List, [], ◌∷◌, ◌++◌, Option, Some, None, length, Contains, Ordering, Less, Equal, Greater, refl, sym, ap, subst, inl, inr, ⊎_elim, arith}
use Rattle.std.specs.Ordering.{nat_cmp}
use Rattle.std.specs.Cmp.Lexicographic.{slice_cmp, pointwise}
use Rattle.std.specs.Str.{bytes_eq}
use Rattle.std.specs.List.{AllByRecursion}
use Rattle.std.specs.List.Sorted.{IsStrictlySortedBy}
use Rattle.std.proofs.lemmas.Bool.{cases_lt}
use Rattle.std.proofs.lemmas.Slice.Eq.{slice_eq-Decides, bytes_eq-Decides}
use Rattle.std.proofs.lemmas.List.Elements.{Contains-append_left, Contains-append_right, Contains-append_cases}
use Rattle.bk_base.specs.declared.kind.Kind.{Kind}
use Rattle.bk_base.specs.declared.kind.Kind.TheVariants as kind
use Rattle.bk_base.specs.Feed.{Frame, frame_of}
use Rattle.bk_committee.specs.Payload.{CommitteeValue, sizes_of}
use Rattle.bk_committee.specs.Sizes.{quorum, weight_of}
use Rattle.bk_cert.specs.Values.{CertValue}
use Rattle.bk_cert.specs.Reading.{certificate_of}
use Rattle.bk_cert.specs.Mask.{signers_of}
use Rattle.bk_cert.specs.Identity.{tags_by}
use Rattle.bk_cert.specs.Node.{Node, with_id}
use Rattle.bk_certcheck.specs.declared.rule.TheConstants.{MOST_ROUND}
use Rattle.bk_certcheck.specs.declared.rule.Rule.{Rule}
use Rattle.bk_certcheck.specs.declared.rule.Rule.TheVariants as rule
use Rattle.bk_certcheck.specs.declared.verdict.Verdict.{Verdict}
use Rattle.bk_certcheck.specs.declared.verdict.Verdict.TheVariants as verdict
use Rattle.bk_certcheck.specs.Rules.{Breaks, BreaksNoneBelow, rule_number, wrong_parents}
use Rattle.bk_certcheck.specs.Verdicts.{IsGood, IsVerdict}
use Rattle.bk_certcheck.proofs.Rules.{last_number, none_below_next, broken_later, one_verdict}
use Rattle.bk_cert.proofs.Lists.{none_in_nil, contains_cases, contains_first, contains_later}
use Rattle.bk_evidence.specs.Batches.{Batch}
use Rattle.bk_order.specs.declared.reject.Reject.{Reject}
use Rattle.bk_order.specs.Frames.{AreCerts, AreBatches, certs_by, id_in, rejects_by, IsRejectOf, AreRejects}
use Rattle.bk_laws.proofs.Deciding.{Decided, decided_any, decided_below, decided_both, decided_by, decided_not, decided_test, same_number}
use Rattle.bk_order.specs.private.Digested.{batch_of}

-- ---- what can be decided of numbers and lists

decided_up_to : (m n : ℕ) → Decided (m ≤ n)
decided_up_to m n = ⊎_elim (λ (lt : n < m). inr (λ (le : m ≤ n). omega arith)) (λ (ge : m ≤ n). inl ge) (cases_lt n m)

decided_either : (P Q : Type 0) → Decided P → Decided Q → Decided (P ⊎ Q)
decided_either P Q (inl p) d = inl (inl p)
decided_either P Q (inr n) (inl q) = inl (inr q)
decided_either P Q (inr n) (inr m) = inr (λ h. ⊎_elim n m h)

decided_lists : (xs ys : List (List ℕ)) → Decided (xs ≡ ys)
decided_lists xs ys =
    let same = slice_eq-Decides {E = bytes_eq} bytes_eq-Decides xs ys (pointwise bytes_eq xs ys) refl in
    decided_by (pointwise bytes_eq xs ys) (xs ≡ ys) same.0 same.1

decided_less : (o : Ordering) → Decided (o ≡ Less)
decided_less Less = inl refl
decided_less Equal = inr (λ e. cc)
decided_less Greater = inr (λ e. cc)

decided_all : {X : Type 0} (P : X → Type 0) → ((x : X) → Decided (P x)) → (xs : List X) → Decided (AllByRecursion P xs)
decided_all P d [] = inl tt
decided_all P d (x ∷ xs) = decided_both (P x) (AllByRecursion P xs) (d x) (decided_all P d xs)

decided_ascending : (ids : List (List ℕ)) → Decided (IsStrictlySortedBy (slice_cmp nat_cmp) ids)
unfolding IsStrictlySortedBy
decided_ascending [] = inl tt
decided_ascending (x ∷ xs) = decided_both (AllByRecursion (λ y. slice_cmp nat_cmp x y ≡ Less) xs) (IsStrictlySortedBy (slice_cmp nat_cmp) xs)
    (decided_all (λ y. slice_cmp nat_cmp x y ≡ Less) (λ y. decided_less (slice_cmp nat_cmp x y)) xs) (decided_ascending xs)

-- ---- rules

decided_breaks : (k : CommitteeValue) (c : CertValue) (r : Rule) → Decided (Breaks k c r)
decided_breaks k c rule.Shape = inr (λ h. h)
decided_breaks k c rule.Author = decided_up_to (length k.keys) c.header.author
decided_breaks k c rule.Round = decided_either (c.header.round ≡ 0) (MOST_ROUND < c.header.round) (same_number c.header.round 0) (decided_below MOST_ROUND c.header.round)
decided_breaks k c rule.Parents = decided_test (wrong_parents k c.header)
decided_breaks k c rule.ParentOrder = decided_not (IsStrictlySortedBy (slice_cmp nat_cmp) c.header.parents) (decided_ascending c.header.parents)
decided_breaks k c rule.Signer = decided_any (λ member. length k.keys ≤ member) (λ member. decided_up_to (length k.keys) member) (signers_of c.mask)
decided_breaks k c rule.Quorum = decided_below (weight_of (sizes_of k) (signers_of c.mask)) (quorum (sizes_of k))
decided_breaks k c rule.Tag = decided_not (c.tags ≡ tags_by k.keys c.header (signers_of c.mask)) (decided_lists c.tags (tags_by k.keys c.header (signers_of c.mask)))

-- a rule that is broken, and none before it
abbrev FirstOf : CommitteeValue → CertValue → Type 0
FirstOf k c = (r : Rule) × Breaks k c r × BreaksNoneBelow k c (rule_number r)

-- no rule with a number below n is broken, or there is a first that is
abbrev Found : CommitteeValue → CertValue → ℕ → Type 0
Found k c n = BreaksNoneBelow k c n ⊎ FirstOf k c

found_next : (k : CommitteeValue) (c : CertValue) (r : Rule) (n : ℕ) → n ≡ rule_number r + 1 → Found k c (rule_number r) → Found k c n
found_next k c r n e (inr first) = inr first
found_next k c r n e (inl below) = ⊎_elim
    (λ (h : Breaks k c r). inr (r, h, below))
    (λ (not : Breaks k c r → ⊥). inl (none_below_next k c r n e below not))
    (decided_breaks k c r)

found_last : (k : CommitteeValue) (c : CertValue) → Found k c 8
found_last k c =
    found_next k c rule.Tag 8 refl
    (found_next k c rule.Quorum 7 refl
    (found_next k c rule.Signer 6 refl
    (found_next k c rule.ParentOrder 5 refl
    (found_next k c rule.Parents 4 refl
    (found_next k c rule.Round 3 refl
    (found_next k c rule.Author 2 refl
    (found_next k c rule.Shape 1 refl (inl (λ r lt h. omega arith)))))))))

not_shape : (k : CommitteeValue) (c : CertValue) (r : Rule) → Breaks k c r → r ≢ rule.Shape
not_shape k c r h e = subst (Breaks k c) e h

-- ---- verdicts

pub verdict_exists : (k : CommitteeValue) (bytes : List ℕ) → (v : Verdict) × IsVerdict k bytes v
verdict_exists k bytes = by (certificate_of bytes) refl
  where
    of_cert : (c : CertValue) → certificate_of bytes ≡ Some c → Found k c 8 → (v : Verdict) × IsVerdict k bytes v
    of_cert c e (inl none) = (verdict.Good (with_id c.header), record { cert = c; read = e; breaks_none = λ r. none r (last_number r); is = refl })
    of_cert c e (inr first) = (verdict.Broken first.0, broken_later k bytes first.0 (not_shape k c first.0 first.1) (record { cert = c; read = e; breaks = first.1; none_before = first.2 }))

    by : (o : Option CertValue) → certificate_of bytes ≡ o → (v : Verdict) × IsVerdict k bytes v
    by None e = (verdict.Broken rule.Shape, e)
    by (Some c) e = of_cert c e (found_last k c)

-- ---- what the payloads of a kind give

-- these are the things that a payload gives
record AreOf {X : Type 0} (Gives : List ℕ → X → Type 0) (payload : List ℕ) (found : List X) : Type 0 where
  sound : (x : X) → Contains found x → Gives payload x
  complete : (x : X) → Gives payload x → Contains found x

module _ {X : Type 0} (of_kind : Kind) (Gives : List ℕ → X → Type 0) where
  -- a frame of the kind gives it
  abbrev GivenBy : List Frame → X → Type 0
  GivenBy frames x = (payload : List ℕ) × Contains frames (frame_of of_kind payload) × Gives payload x

  -- these are the things that the frames of the kind give
  abbrev AreIn : List Frame → List X → Type 0
  AreIn frames found = ((x : X) → Contains found x → GivenBy frames x) × ((x : X) → GivenBy frames x → Contains found x)

  given_later : (f : Frame) (more : List Frame) (x : X) → GivenBy more x → GivenBy (f ∷ more) x
  given_later f more x h = (h.0, contains_later f more (frame_of of_kind h.0) h.1, h.2)

  others_in : (f : Frame) (more : List Frame) (later : List X) → f.kind ≢ of_kind → AreIn more later → AreIn (f ∷ more) later
  others_in f more later other are = (
    λ x h. given_later f more x (are.0 x h),
    λ x h. ⊎_elim
        (λ (e : f ≡ frame_of of_kind h.0). absurd (other (ap (λ (g : Frame). g.kind) e)))
        (λ (t : Contains more (frame_of of_kind h.0)). are.1 x (h.0, t, h.2))
        (contains_cases f more (frame_of of_kind h.0) h.1),
  )

  own_in : (payload : List ℕ) (more : List Frame) (first later : List X) → AreOf Gives payload first → AreIn more later → AreIn (frame_of of_kind payload ∷ more) (first ++ later)
  own_in payload more first later own are = (
    λ x h. ⊎_elim
        (λ (t : Contains first x). (payload, contains_first (frame_of of_kind payload) more, own.sound x t))
        (λ (t : Contains later x). given_later (frame_of of_kind payload) more x (are.0 x t))
        (Contains-append_cases first later x h),
    λ x h. ⊎_elim
        (λ (e : frame_of of_kind payload ≡ frame_of of_kind h.0). Contains-append_left first later x (own.complete x (subst (λ p. Gives p x) (sym (ap (λ (g : Frame). g.payload) e)) h.2)))
        (λ (t : Contains more (frame_of of_kind h.0)). Contains-append_right first later x (are.1 x (h.0, t, h.2)))
        (contains_cases (frame_of of_kind payload) more (frame_of of_kind h.0) h.1),
  )

  module _ (decided : (other : Kind) → Decided (other ≡ of_kind)) (each : (payload : List ℕ) → (found : List X) × AreOf Gives payload found) where
    with_frame : (f : Frame) (more : List Frame) → (later : List X) × AreIn more later → (found : List X) × AreIn (f ∷ more) found
    with_frame f more later = ⊎_elim
        (λ (e : f.kind ≡ of_kind).
        let own = each f.payload in
        (own.0 ++ later.0, subst (λ (c : Kind). AreIn (frame_of c f.payload ∷ more) (own.0 ++ later.0)) (sym e) (own_in f.payload more own.0 later.0 own.1 later.1)))
        (λ (other : f.kind ≢ of_kind). (later.0, others_in f more later.0 other later.1))
        (decided f.kind)

    found_in : (frames : List Frame) → (found : List X) × AreIn frames found
    found_in [] = ([], (λ x h. absurd (none_in_nil x h), λ x h. absurd (none_in_nil (frame_of of_kind h.0) h.1)))
    found_in (f ∷ more) = with_frame f more (found_in more)

-- ---- kinds

decided_certificate : (other : Kind) → Decided (other ≡ kind.Certificate)
decided_certificate kind.Committee = inr (λ e. cc)
decided_certificate kind.Genesis = inr (λ e. cc)
decided_certificate kind.Certificate = inl refl
decided_certificate kind.Batch = inr (λ e. cc)

decided_batch : (other : Kind) → Decided (other ≡ kind.Batch)
decided_batch kind.Committee = inr (λ e. cc)
decided_batch kind.Genesis = inr (λ e. cc)
decided_batch kind.Certificate = inr (λ e. cc)
decided_batch kind.Batch = inl refl

-- ---- certificates

pub lone : {X : Type 0} (x y : X) → Contains (x ∷ []) y → x ≡ y
lone {X} x y h = ⊎_elim (λ (e : x ≡ y). e) (λ (later : Contains {X = X} [] y). absurd (none_in_nil y later)) (contains_cases x [] y h)

certs_of_verdict : (k : CommitteeValue) (payload : List ℕ) (v : Verdict) → IsVerdict k payload v → AreOf (IsGood k) payload (certs_by v)
certs_of_verdict k payload (verdict.Good c) good = record {
  sound = λ d h. subst (IsGood k payload) (lone c d h) good;
  complete = λ d other. let e : verdict.Good c ≡ verdict.Good d = one_verdict k payload (verdict.Good c) (verdict.Good d) good other in
      subst (Contains (c ∷ [])) (same_node c d e) (contains_first c []);
}
  where
    same_node : (c d : Node) → verdict.Good c ≡ verdict.Good d → c ≡ d
    same_node c d e = cc
certs_of_verdict k payload (verdict.Broken r) broken = record {
  sound = λ d h. absurd (none_in_nil d h);
  complete = λ d good. absurd (not_both d (one_verdict k payload (verdict.Good d) (verdict.Broken r) good broken));
}
  where
    not_both : (d : Node) → verdict.Good d ≡ verdict.Broken r → ⊥
    not_both d e = absurd cc

certs_of_payload : (k : CommitteeValue) (payload : List ℕ) → (certs : List Node) × AreOf (IsGood k) payload certs
certs_of_payload k payload = let v = verdict_exists k payload in (certs_by v.0, certs_of_verdict k payload v.0 v.1)

pub certs_exist : (k : CommitteeValue) (frames : List Frame) → (certs : List Node) × AreCerts k frames certs
certs_exist k frames =
    let found = found_in kind.Certificate (IsGood k) decided_certificate (certs_of_payload k) frames in
    (found.0, record { sound = found.1.0; complete = found.1.1 })

-- ---- batches

abbrev GivesBatch : List ℕ → Batch → Type 0
GivesBatch payload b = b ≡ batch_of payload

batches_of_payload : (payload : List ℕ) → (batches : List Batch) × AreOf GivesBatch payload batches
batches_of_payload payload = (
  batch_of payload ∷ [],
  record {
    sound = λ b h. sym (lone (batch_of payload) b h);
    complete = λ b e. subst (Contains (batch_of payload ∷ [])) (sym e) (contains_first (batch_of payload) []);
  },
)

pub batches_exist : (frames : List Frame) → (batches : List Batch) × AreBatches frames batches
batches_exist frames =
    let found = found_in kind.Batch GivesBatch decided_batch batches_of_payload frames in
    (found.0, record { sound = found.1.0; complete = found.1.1 })

-- ---- rejects

rejects_of : (k : CommitteeValue) (number : ℕ) (payload : List ℕ) (x : Kind) → (found : List Reject) × IsRejectOf k number payload x found
rejects_of k number payload kind.Committee = ([], refl)
rejects_of k number payload kind.Genesis = ([], refl)
rejects_of k number payload kind.Certificate = let v = verdict_exists k payload in (rejects_by number (id_in payload) v.0, (v.0, v.1, refl))
rejects_of k number payload kind.Batch = ([], refl)

pub rejects_exist : (k : CommitteeValue) (number : ℕ) (frames : List Frame) → (found : List Reject) × AreRejects k number frames found
rejects_exist k number [] = ([], refl)
rejects_exist k number (f ∷ more) =
    let first = rejects_of k number f.payload f.kind in
    let later = rejects_exist k (number + 1) more in
    (first.0 ++ later.0, (first.0, later.0, first.1, later.1, refl))
