-- What is kept of the frames with one more.
use Rattle.std.proofs.Common.{◌≡◌, ℕ, suc, ◌+◌, List, [], ◌∷◌, ◌++◌, length, refl, sym, ap, subst, ◌∙◌, ⊎_elim, arith, append_assoc, length-append}
use Rattle.std.specs.List.{Contains}
use Rattle.std.proofs.lemmas.List.{append-nil}
use Rattle.std.proofs.lemmas.List.Elements.{Contains-append_left, Contains-append_right, Contains-append_cases}
use Rattle.sha2.specs.Sha256.{sha256}
use Rattle.bk_base.specs.declared.kind.Kind.{Kind}
use Rattle.bk_base.specs.declared.kind.Kind.TheVariants as kind
use Rattle.bk_base.specs.Feed.{Frame, frame_of}
use Rattle.bk_committee.specs.Payload.{CommitteeValue}
use Rattle.bk_cert.specs.Node.{Node}
use Rattle.bk_certcheck.specs.declared.verdict.Verdict.{Verdict}
use Rattle.bk_certcheck.specs.declared.verdict.Verdict.TheVariants as verdict
use Rattle.bk_certcheck.specs.Verdicts.{IsGood, IsVerdict}
use Rattle.bk_certcheck.proofs.Rules.{one_verdict}
use Rattle.bk_evidence.specs.Batches.{Batch, batch_with}
use Rattle.bk_evidence.specs.Laws.{HaveSame}
use Rattle.bk_evidence.proofs.Members.{same_itself}
use Rattle.bk_cert.proofs.Lists.{none_in_nil, contains_cases, contains_first}
use Rattle.bk_order.specs.declared.reject.Reject.{Reject}
use Rattle.bk_order.specs.Frames.{IsCertIn, AreCerts, IsBatchIn, AreBatches, certs_by, id_in, rejects_by, IsRejectOf, AreRejects}
use Rattle.bk_order.specs.Intake.{Kept, IsKeptOf, first_later_frame}
use Rattle.bk_order.specs.Tally.{IsTallyOf}
use Rattle.bk_order.specs.private.Digested.{batch_of}

-- the only member of a list of one
pub lone : {X : Type 0} (x y : X) → Contains (x ∷ []) y → x ≡ y
lone {X} x y h = ⊎_elim (λ (e : x ≡ y). e) (λ (later : Contains {X = X} [] y). absurd (none_in_nil y later)) (contains_cases x [] y h)

pub certs_more : (k : CommitteeValue) (before : List Frame) (f : Frame) (certs extra new : List Node) → AreCerts k before certs
    → ((c : Node) → Contains extra c → IsCertIn k (f ∷ []) c) → ((c : Node) → IsCertIn k (f ∷ []) c → Contains extra c)
    → HaveSame new (certs ++ extra) → AreCerts k (before ++ f ∷ []) new
certs_more k before f certs extra new are sound complete same = record {
  sound = λ c h. ⊎_elim
      (λ (a : Contains certs c). let s = are.sound c a in (s.0, Contains-append_left before (f ∷ []) (frame_of kind.Certificate s.0) s.1, s.2))
      (λ (b : Contains extra c). let s = sound c b in (s.0, Contains-append_right before (f ∷ []) (frame_of kind.Certificate s.0) s.1, s.2))
      (Contains-append_cases certs extra c (same.into c h));
  complete = λ c s. same.back c (⊎_elim
      (λ (a : Contains before (frame_of kind.Certificate s.0)). Contains-append_left certs extra c (are.complete c (s.0, a, s.2)))
      (λ (b : Contains (f ∷ []) (frame_of kind.Certificate s.0)). Contains-append_right certs extra c (complete c (s.0, b, s.2)))
      (Contains-append_cases before (f ∷ []) (frame_of kind.Certificate s.0) s.1));
}

pub batches_more : (before : List Frame) (f : Frame) (batches extra new : List Batch) → AreBatches before batches
    → ((b : Batch) → Contains extra b → IsBatchIn (f ∷ []) b) → ((b : Batch) → IsBatchIn (f ∷ []) b → Contains extra b)
    → HaveSame new (batches ++ extra) → AreBatches (before ++ f ∷ []) new
batches_more before f batches extra new are sound complete same = record {
  sound = λ c h. ⊎_elim
      (λ (a : Contains batches c). let s = are.sound c a in (s.0, Contains-append_left before (f ∷ []) (frame_of kind.Batch s.0) s.1, s.2))
      (λ (b : Contains extra c). let s = sound c b in (s.0, Contains-append_right before (f ∷ []) (frame_of kind.Batch s.0) s.1, s.2))
      (Contains-append_cases batches extra c (same.into c h));
  complete = λ c s. same.back c (⊎_elim
      (λ (a : Contains before (frame_of kind.Batch s.0)). Contains-append_left batches extra c (are.complete c (s.0, a, s.2)))
      (λ (b : Contains (f ∷ []) (frame_of kind.Batch s.0)). Contains-append_right batches extra c (complete c (s.0, b, s.2)))
      (Contains-append_cases before (f ∷ []) (frame_of kind.Batch s.0) s.1));
}

pub rejects_more : (k : CommitteeValue) (number : ℕ) (before : List Frame) (f : Frame) (rejects extra : List Reject) → AreRejects k number before rejects
    → IsRejectOf k (number + length before) f.payload f.kind extra → AreRejects k number (before ++ f ∷ []) (rejects ++ extra)
rejects_more k number [] f rejects extra are here =
    (extra, [], subst (λ (n : ℕ). IsRejectOf k n f.payload f.kind extra) (let e : number + 0 ≡ number = omega arith in e) here, refl, ap (λ (rs : List Reject). rs ++ extra) are ∙ sym (append-nil extra))
rejects_more k number (g ∷ more) f rejects extra (first, later, at_first, at_later, e) here = (
  first,
  later ++ extra,
  at_first,
  rejects_more k (number + 1) more f later extra at_later (subst (λ (n : ℕ). IsRejectOf k n f.payload f.kind extra) (let q : number + suc (length more) ≡ number + 1 + length more = omega arith in q) here),
  ap (λ (rs : List Reject). rs ++ extra) e ∙ append_assoc first later extra,
)

-- ---- one more frame of each kind

no_certs : (k : CommitteeValue) (f : Frame) → (f.kind ≡ kind.Certificate → ⊥) → (c : Node) → IsCertIn k (f ∷ []) c → Contains {X = Node} [] c
no_certs k f other c s = absurd (other (ap (λ (x : Frame). x.kind) (lone f (frame_of kind.Certificate s.0) s.1)))

no_batches : (f : Frame) → (f.kind ≡ kind.Batch → ⊥) → (b : Batch) → IsBatchIn (f ∷ []) b → Contains {X = Batch} [] b
no_batches f other b s = absurd (other (ap (λ (x : Frame). x.kind) (lone f (frame_of kind.Batch s.0) s.1)))

pub same_nothing : {E : Type 0} (new old : List E) → new ≡ old → HaveSame new (old ++ [])
same_nothing {E} new old e = subst (HaveSame new) (e ∙ sym (append-nil old)) (same_itself new)

pub good_certs : (k : CommitteeValue) (p : List ℕ) (v : Verdict) → IsVerdict k p v → (c : Node) → Contains (certs_by v) c → IsGood k p c
good_certs k p (verdict.Good d) h c t = subst (IsGood k p) (lone d c t) h
good_certs k p (verdict.Broken r) h c t = absurd (none_in_nil c t)

pub certs_good : (k : CommitteeValue) (p : List ℕ) (v : Verdict) → IsVerdict k p v → (c : Node) → IsGood k p c → Contains (certs_by v) c
certs_good k p (verdict.Good d) h c t =
    let e : verdict.Good d ≡ verdict.Good c = one_verdict k p (verdict.Good d) (verdict.Good c) h t in
    let same : d ≡ c = cc in
    subst (Contains (d ∷ [])) same (contains_first d [])
certs_good k p (verdict.Broken r) h c t =
    let e : verdict.Broken r ≡ verdict.Good c = one_verdict k p (verdict.Broken r) (verdict.Good c) h t in
    absurd cc

next_more : (before : List Frame) (f : Frame) (old new : ℕ) → old ≡ first_later_frame + length before → new ≡ old + 1 → new ≡ first_later_frame + length (before ++ f ∷ [])
next_more before f old new e s = let l = length-append before (f ∷ []) in omega (arith, e, s, l)

module _ (k : CommitteeValue) (before : List Frame) (f : Frame) (old new : Kept) (kept : IsKeptOf k before old) (next : new.next ≡ old.next + 1) (tally : IsTallyOf k (before ++ f ∷ []) new.tally) where
  pub kept_certificate : (v : Verdict) → f.kind ≡ kind.Certificate → IsVerdict k f.payload v → HaveSame new.certs (old.certs ++ certs_by v) → new.batches ≡ old.batches
      → new.rejected ≡ old.rejected ++ rejects_by old.next (id_in f.payload) v → IsKeptOf k (before ++ f ∷ []) new
  kept_certificate v e h certs batches rejected = record {
    next = next_more before f old.next new.next kept.next next;
    certs = certs_more k before f old.certs (certs_by v) new.certs kept.certs
        (λ c t. (f.payload, subst (λ (x : Kind). Contains (f ∷ []) (frame_of x f.payload)) e (contains_first f []), good_certs k f.payload v h c t))
        (λ c s. certs_good k f.payload v h c (subst (λ (x : Frame). IsGood k x.payload c) (sym (lone f (frame_of kind.Certificate s.0) s.1)) s.2))
        certs;
    batches = batches_more before f old.batches [] new.batches kept.batches (λ b t. absurd (none_in_nil b t))
        (no_batches f (λ q. let clash : kind.Certificate ≡ kind.Batch = sym e ∙ q in absurd cc)) (same_nothing new.batches old.batches batches);
    rejected = subst (AreRejects k first_later_frame (before ++ f ∷ [])) (sym rejected) (rejects_more k first_later_frame before f old.rejected (rejects_by old.next (id_in f.payload) v) kept.rejected
        (subst (λ (x : Kind). IsRejectOf k (first_later_frame + length before) f.payload x (rejects_by old.next (id_in f.payload) v)) (sym e) (v, h, ap (λ (n : ℕ). rejects_by n (id_in f.payload) v) kept.next)));
    tally = tally;
  }

  nothing_rejected : (f.kind ≡ kind.Certificate → ⊥) → new.rejected ≡ old.rejected → AreRejects k first_later_frame (before ++ f ∷ []) new.rejected
  nothing_rejected other rejected = subst (AreRejects k first_later_frame (before ++ f ∷ [])) (append-nil old.rejected ∙ sym rejected)
      (rejects_more k first_later_frame before f old.rejected [] kept.rejected (by_kind f.kind refl))
    where
      by_kind : (x : Kind) → f.kind ≡ x → IsRejectOf k (first_later_frame + length before) f.payload x []
      by_kind kind.Committee e = refl
      by_kind kind.Genesis e = refl
      by_kind kind.Certificate e = absurd (other e)
      by_kind kind.Batch e = refl

  pub kept_batch : (digest : List ℕ) → f.kind ≡ kind.Batch → digest ≡ sha256 f.payload → new.certs ≡ old.certs
      → HaveSame new.batches (old.batches ++ batch_with digest f.payload ∷ []) → new.rejected ≡ old.rejected → IsKeptOf k (before ++ f ∷ []) new
  kept_batch digest e d certs batches rejected =
      let one : batch_with digest f.payload ≡ batch_of f.payload = ap (λ (s : List ℕ). batch_with s f.payload) d in
      let here : Contains (f ∷ []) (frame_of kind.Batch f.payload) = subst (λ (x : Kind). Contains (f ∷ []) (frame_of x f.payload)) e (contains_first f []) in
      record {
        next = next_more before f old.next new.next kept.next next;
        certs = certs_more k before f old.certs [] new.certs kept.certs (λ c t. absurd (none_in_nil c t))
            (no_certs k f (λ q. let clash : kind.Batch ≡ kind.Certificate = sym e ∙ q in absurd cc)) (same_nothing new.certs old.certs certs);
        batches = batches_more before f old.batches (batch_with digest f.payload ∷ []) new.batches kept.batches
            (λ b t. (f.payload, here, sym (lone (batch_with digest f.payload) b t) ∙ one))
            (λ b s. let q : f.payload ≡ s.0 = ap (λ (x : Frame). x.payload) (lone f (frame_of kind.Batch s.0) s.1) in
            subst (Contains (batch_with digest f.payload ∷ [])) (one ∙ ap batch_of q ∙ sym s.2) (contains_first (batch_with digest f.payload) []))
            batches;
        rejected = nothing_rejected (λ q. let clash : kind.Batch ≡ kind.Certificate = sym e ∙ q in absurd cc) rejected;
        tally = tally;
      }

  pub kept_other : (f.kind ≡ kind.Certificate → ⊥) → (f.kind ≡ kind.Batch → ⊥) → new.certs ≡ old.certs → new.batches ≡ old.batches → new.rejected ≡ old.rejected
      → IsKeptOf k (before ++ f ∷ []) new
  kept_other not_cert not_batch certs batches rejected = record {
    next = next_more before f old.next new.next kept.next next;
    certs = certs_more k before f old.certs [] new.certs kept.certs (λ c t. absurd (none_in_nil c t)) (no_certs k f not_cert) (same_nothing new.certs old.certs certs);
    batches = batches_more before f old.batches [] new.batches kept.batches (λ b t. absurd (none_in_nil b t)) (no_batches f not_batch) (same_nothing new.batches old.batches batches);
    rejected = nothing_rejected not_cert rejected;
    tally = tally;
  }
