-- The table with one more frame.
use Rattle.std.proofs.Common.{◌≡◌, ℕ, ◌+◌, ◌<◌, ◌^◌, Bool, true, false, List, [], ◌∷◌, ◌++◌, length, Option, refl, sym, ap, subst, ◌∙◌, arith, append_assoc}
use Rattle.std.specs.List.{AllZip}
use Rattle.std.proofs.lemmas.List.{append-nil, length-append}
use Rattle.bk_base.specs.declared.kind.Kind.{Kind}
use Rattle.bk_base.specs.declared.kind.Kind.TheVariants as kind
use Rattle.bk_base.specs.Feed.{Frame}
use Rattle.bk_committee.specs.Payload.{CommitteeValue}
use Rattle.bk_certcheck.specs.declared.verdict.Verdict.{Verdict}
use Rattle.bk_certcheck.specs.Verdicts.{IsVerdict}
use Rattle.bk_commit.specs.Growth.{IsPrefix}
use Rattle.bk_evidence.specs.Batches.{Batch, batch_with, IsBatchOffer, batches_after}
use Rattle.bk_evidence.specs.declared.batches.BatchOffer.{BatchOffer}
use Rattle.bk_evidence.specs.declared.batches.BatchOffer.TheVariants as offer
use Rattle.bk_evidence.specs.Laws.{HaveSame}
use Rattle.bk_evidence.proofs.Members.{same_itself, same_repeat}
use Rattle.bk_certcheck.specs.declared.finding.Found.{Found}
use Rattle.bk_certcheck.specs.declared.finding.Found.TheVariants as found
use Rattle.bk_order.specs.declared.table.Table.{Table}
use Rattle.bk_order.specs.Frames.{id_in, rejects_by}
use Rattle.bk_order.specs.declared.reject.Reject.{Reject}
use Rattle.bk_order.specs.Intake.{IsKeptOf}
use Rattle.bk_certcheck.specs.Frames.{IsFound, IsOther}
use Rattle.bk_order.specs.private.Joined.{GoesOn, IsJoined, IsKeeping, KeepsFrames, KeepsVerdict, kept_in}
use Rattle.bk_order.specs.declared.tally.Count.{Count}
use Rattle.bk_order.specs.private.Tallies.{Counts, IsNewDigest}
use Rattle.bk_order.proofs.Keeping.{kept_certificate, kept_batch, kept_other}
use Rattle.bk_order.proofs.Tallying.{batch_tallied, other_tallied, verdict_tallied}

-- the frame is counted
abbrev pub tick : Table → Table
tick t = record { next = t.next + 1; held = t.held; batches = t.batches; rejected = t.rejected; tally = t.tally; rounds = t.rounds }

-- with these batches, so many
abbrev pub with_batches : Table → List Batch → Count → Table
with_batches t bs count =
    record { next = t.next; held = t.held; batches = bs; rejected = t.rejected; tally = record { certs = t.tally.certs; good = t.tally.good; batches = count }; rounds = t.rounds }

-- there are few enough frames for one more
few_for : (k : CommitteeValue) (fs : List Frame) (old : Table) → IsKeptOf k fs (kept_in old) → old.next + 1 < 2 ^ 64 → length fs + 1 < 2 ^ 64
few_for k fs old h few = let n = h.next in omega (arith, n, few)

-- the certificate's frame is counted
pub cert_keeps : (k : CommitteeValue) (old mid : Table) (f : Frame) (v : Verdict) (id : Option (List ℕ)) → f.kind ≡ kind.Certificate → IsVerdict k f.payload v
    → rejects_by old.next id v ≡ rejects_by old.next (id_in f.payload) v → IsJoined k old.held old.rounds → old.next + 1 < 2 ^ 64 → KeepsVerdict k id v old mid → KeepsFrames k (f ∷ []) old (tick mid)
cert_keeps k old mid f v id is_cert is_judged ids before few c = record {
  joined = c.joined;
  goes_on = record { rounds = c.rounds; sizes = after.sizes ∙ sym before.sizes; batches = ([], c.batches ∙ sym (append-nil old.batches)) };
  next = ap (λ (n : ℕ). n + 1) c.next;
  kept = λ fs h. kept_certificate k fs f (kept_in old) (kept_in (tick mid)) h (ap (λ (n : ℕ). n + 1) c.next)
      (verdict_tallied k fs f old.tally h.tally (few_for k fs old h few) old.held mid.tally v h.certs is_cert is_judged c.tally) v is_cert is_judged c.certs c.batches (c.rejected ∙ ap (λ (rs : List Reject). old.rejected.items ++ rs) ids);
}
  where
    after : IsJoined k mid.held mid.rounds
    after = c.joined

pub batch_keeps : (k : CommitteeValue) (old : Table) (bs : List Batch) (count : Count) (new : Bool) (f : Frame) (digest : List ℕ) → IsFound k f (found.Batch digest) → IsJoined k old.held old.rounds
    → HaveSame bs (old.batches ++ batch_with digest f.payload ∷ []) → IsPrefix old.batches bs → old.next + 1 < 2 ^ 64 → IsNewDigest old.batches digest new → Counts new old.tally.batches count
    → KeepsFrames k (f ∷ []) old (tick (with_batches old bs count))
batch_keeps k old bs count new f digest is before same begins few is_new counts = record {
  joined = before;
  goes_on = record { rounds = λ c h. h; sizes = refl; batches = begins };
  next = refl;
  kept = λ fs h. kept_batch k fs f (kept_in old) (kept_in (tick (with_batches old bs count))) h refl
      (batch_tallied k fs f old.tally h.tally (few_for k fs old h few) old.batches count digest new h.batches is.0 is.1 is_new counts) digest is.0 is.1 refl same refl;
}

other_apart : (x : Kind) → IsOther x → (x ≡ kind.Certificate → ⊥) × (x ≡ kind.Batch → ⊥)
other_apart kind.Committee h = ((λ e. absurd cc), (λ e. absurd cc))
other_apart kind.Genesis h = ((λ e. absurd cc), (λ e. absurd cc))
other_apart kind.Certificate h = absurd h
other_apart kind.Batch h = absurd h

pub other_keeps : (k : CommitteeValue) (old : Table) (f : Frame) → IsFound k f found.Other → IsJoined k old.held old.rounds → old.next + 1 < 2 ^ 64 → KeepsFrames k (f ∷ []) old (tick old)
other_keeps k old f is before few = record {
  joined = before;
  goes_on = record { rounds = λ c h. h; sizes = refl; batches = ([], sym (append-nil old.batches)) };
  next = refl;
  kept = λ fs h. let apart = other_apart f.kind is in
      kept_other k fs f (kept_in old) (kept_in (tick old)) h refl (other_tallied k fs f old.tally h.tally (few_for k fs old h few) apart.0 apart.1) apart.0 apart.1 refl refl refl;
}

-- ---- an offer of a batch

pub batch_same : (old new : List Batch) (b : Batch) (o : BatchOffer) → IsBatchOffer old b o → new ≡ batches_after old b o → HaveSame new (old ++ b ∷ [])
batch_same old new b offer.New h e = subst (HaveSame new) e (same_itself new)
batch_same old new b offer.Repeat h e = subst (λ (bs : List Batch). HaveSame bs (old ++ b ∷ [])) (sym e) (same_repeat old b h)
batch_same old new b offer.Collision h e = subst (HaveSame new) e (same_itself new)

pub batch_begins : (old new : List Batch) (b : Batch) (o : BatchOffer) → new ≡ batches_after old b o → IsPrefix old new
batch_begins old new b offer.New e = (b ∷ [], e)
batch_begins old new b offer.Repeat e = ([], e ∙ sym (append-nil old))
batch_begins old new b offer.Collision e = (b ∷ [], e)

abbrev pub is_fresh_batch : BatchOffer → Bool
is_fresh_batch offer.New = true
is_fresh_batch offer.Repeat = false
is_fresh_batch offer.Collision = false

pub batch_is_new : (old : List Batch) (b : Batch) (o : BatchOffer) → IsBatchOffer old b o → IsNewDigest old b.digest (is_fresh_batch o)
batch_is_new old b offer.New h = h
batch_is_new old b offer.Repeat h = (b, h, refl)
batch_is_new old b offer.Collision h = h.1

-- ---- all frames

begins_on : {X : Type 0} (xs ys zs : List X) → IsPrefix xs ys → IsPrefix ys zs → IsPrefix xs zs
begins_on xs ys zs (a, e) (b, f) = (a ++ b, f ∙ (ap (λ us. us ++ b) e ∙ append_assoc xs a b))

goes_on_on : (a b c : Table) → GoesOn a b → GoesOn b c → GoesOn a c
goes_on_on a b c h g = record {
  rounds = λ x t. g.rounds x (h.rounds x t);
  sizes = g.sizes ∙ h.sizes;
  batches = begins_on a.batches b.batches c.batches h.batches g.batches;
}

pub keeping_on : (k : CommitteeValue) (start table new : Table) (all before left : List Frame) (found later : List Found) (f : Frame) (one : Found) → IsKeeping k start table all before found
    → before ≡ f ∷ left → found ≡ one ∷ later → KeepsFrames k (f ∷ []) table new → IsKeeping k start new all left later
keeping_on k start table new all before left found later f one h e d keeps = record {
  room = let r = h.room in let l = ap length e in let next = keeps.next in omega (arith, r, l, next);
  is_found = (subst (λ (fs : List Frame). AllZip (IsFound k) fs (one ∷ later)) e (subst (AllZip (IsFound k) before) d h.is_found)).1;
  done = h.done ++ f ∷ [];
  split = h.split ∙ (ap (λ (t : List Frame). h.done ++ t) e ∙ sym (append_assoc h.done (f ∷ []) left));
  so_far = record {
    joined = keeps.joined;
    goes_on = goes_on_on start table new h.so_far.goes_on keeps.goes_on;
    next = let first = h.so_far.next in let then = keeps.next in omega (arith, first, then, length-append h.done (f ∷ []));
    kept = λ fs was. subst (λ (t : List Frame). IsKeptOf k t (kept_in new)) (append_assoc fs h.done (f ∷ [])) (keeps.kept (fs ++ h.done) (h.so_far.kept fs was));
  };
}
