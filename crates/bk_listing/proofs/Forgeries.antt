-- Whose tag of a certificate is wrong, and which frame is the first such.
use Rattle.std.proofs.Common.{◌≡◌, ◌≢◌, ℕ, zero, suc, ◌+◌, ◌-◌, ◌<◌, ◌≤◌, inl, inr, true, false, cond, List, [], ◌∷◌, ◌++◌, length, take, drop, get_or, Some, None, Contains, refl, sym, ap, subst, ◌∙◌, arith, append_assoc, length-append}
use Rattle.std.specs.Prelude.{slice_get, slice_index_or}
use Rattle.std.specs.Global.{Vec}
use Rattle.std.proofs.lemmas.List.{append-nil, take_more, take_all, map-append, take-append-drop}
use Rattle.std.proofs.lemmas.List.Elements.{Contains-push_cases}
use Rattle.std.proofs.lemmas.Option.{get_or_from_slice_get, slice_get_within}
use Rattle.bk_base.specs.declared.kind.Kind.{Kind}
use Rattle.bk_base.specs.declared.kind.Kind.TheVariants as kind
use Rattle.bk_base.specs.Feed.{Frame, frame_of}
use Rattle.bk_frames.specs.Cutting.{frames_in}
use Rattle.bk_committee.specs.Payload.{CommitteeValue}
use Rattle.bk_cert.specs.Values.{CertValue}
use Rattle.bk_cert.specs.Mask.{is_signer, signers_of}
use Rattle.bk_cert.specs.Identity.{id_of, tag_of, tags_by}
use Rattle.bk_cert.specs.Reading.{certificate_of}
use Rattle.bk_cert.proofs.Marks.{marked, marked_more, marked_with, marked_without, all_marked}
use Rattle.bk_certcheck.specs.declared.rule.Rule.{Rule}
use Rattle.bk_certcheck.specs.declared.rule.Rule.TheVariants as rule
use Rattle.bk_certcheck.specs.declared.verdict.Verdict.{Verdict}
use Rattle.bk_certcheck.specs.declared.verdict.Verdict.TheVariants as verdict
use Rattle.bk_certcheck.specs.Verdicts.{IsVerdict}
use Rattle.bk_certcheck.proofs.Rules.{one_verdict}
use Rattle.bk_listing.specs.Rejects.{IsRejectedBy, rules_by}
use Rattle.bk_listing.specs.Forged.{HasWrongTag, IsForged, IsFirstForged}
use Rattle.bk_listing.specs.declared.rows.FrameRow.{FrameRow}
use Rattle.bk_listing.specs.declared.rows.FrameRow.TheVariants as shown
use Rattle.bk_listing.specs.private.FrameRow.{IsRow, is_forged, row_rules}
use Rattle.bk_listing.proofs.LineTexts.{frames_more}

-- ---- the signers of a mask

-- the members that are marked below n, and others after them
marked_after : (mask : List ℕ) (n d : ℕ) → (after : List ℕ) × (marked mask (n + d) ≡ marked mask n ++ after)
marked_after mask n zero = ([], ap (marked mask) (omega arith) ∙ sym (append-nil (marked mask n)))
marked_after mask n (suc d) =
    let r = marked_after mask n d in
    let next : (n + d) + 1 ≡ n + suc d = omega arith in
    let last : List ℕ = cond (is_signer mask (n + d)) ((n + d) ∷ []) [] in
    (r.0 ++ last, ap (marked mask) (sym next) ∙ marked_more mask (n + d) ∙ ap (λ (t : List ℕ). t ++ last) r.1 ∙ append_assoc (marked mask n) r.0 last)

-- a signer stands after those below it
pub signer_here : (mask : List ℕ) (n : ℕ) → n < 128 → is_signer mask n ≡ true → (after : List ℕ) × (signers_of mask ≡ marked mask n ++ n ∷ after)
signer_here mask n low marks =
    let r = marked_after mask (n + 1) (128 - (n + 1)) in
    let all : (n + 1) + (128 - (n + 1)) ≡ 128 = omega arith in
    (r.0, all_marked mask ∙ ap (marked mask) (sym all) ∙ r.1 ∙ ap (λ (t : List ℕ). t ++ r.0) (marked_with mask n marks) ∙ append_assoc (marked mask n) (n ∷ []) r.0)

-- ---- the tags so far

-- the tags of the signers below n are right
pub record AreRight (k : CommitteeValue) (c : CertValue) (n place : ℕ) : Type 0 where
  pub place_is : place ≡ length (marked c.mask n)
  pub right : take place c.tags ≡ tags_by k.keys c.header (marked c.mask n)

abbrev own : CommitteeValue → CertValue → ℕ → List ℕ
own k c n = tag_of (slice_index_or k.keys n []) (id_of c.header)

-- the place of a signer's tag is one of the tags
pub place_within : (k : CommitteeValue) (c : CertValue) (n place : ℕ) → n < 128 → is_signer c.mask n ≡ true → length c.tags ≡ length (signers_of c.mask) → AreRight k c n place → place < length c.tags
place_within k c n place low marks long h =
    let r = signer_here c.mask n low marks in
    omega (arith, h.place_is, long, ap length r.1, length-append (marked c.mask n) (n ∷ r.0))

pub wrong_here : (k : CommitteeValue) (c : CertValue) (n place : ℕ) → n < 128 → is_signer c.mask n ≡ true → AreRight k c n place → slice_get c.tags place ≢ Some (own k c n) → HasWrongTag k c n
wrong_here k c n place low marks h wrong =
    let r = signer_here c.mask n low marks in
    record {
      before = marked c.mask n;
      after = r.0;
      signs = r.1;
      right = subst (λ (p : ℕ). take p c.tags ≡ tags_by k.keys c.header (marked c.mask n)) h.place_is h.right;
      wrong = subst (λ (p : ℕ). slice_get c.tags p ≢ Some (own k c n)) h.place_is wrong;
    }

pub right_here : (k : CommitteeValue) (c : CertValue) (n place : ℕ) → is_signer c.mask n ≡ true → AreRight k c n place → slice_get c.tags place ≡ Some (own k c n) → AreRight k c (n + 1) (place + 1)
right_here k c n place marks h got =
    let within : place < length c.tags = slice_get_within c.tags place (own k c n) got in
    let there : get_or c.tags place [] ≡ own k c n = get_or_from_slice_get c.tags place (own k c n) [] got in
    let more = marked_with c.mask n marks in
    record {
      place_is = omega (arith, h.place_is, ap length more, length-append (marked c.mask n) (n ∷ []));
      right = take_more c.tags place [] within ∙ ap (λ (p : List (List ℕ) × List ℕ). p.0 ++ p.1 ∷ []) (λ j. (h.right j, there j))
          ∙ sym (ap (tags_by k.keys c.header) more ∙ map-append (own k c) (marked c.mask n) (n ∷ []));
    }

pub none_here : (k : CommitteeValue) (c : CertValue) (n place : ℕ) → is_signer c.mask n ≡ false → AreRight k c n place → AreRight k c (n + 1) place
none_here k c n place marks h =
    let same = marked_without c.mask n marks in
    record {
      place_is = h.place_is ∙ ap length (sym same);
      right = h.right ∙ ap (tags_by k.keys c.header) (sym same);
    }

-- all tags are right where those of all members are
pub all_right : (k : CommitteeValue) (c : CertValue) (n place : ℕ) → signers_of c.mask ≡ marked c.mask n → length c.tags ≡ length (signers_of c.mask) → AreRight k c n place → c.tags ≡ tags_by k.keys c.header (signers_of c.mask)
all_right k c n place all long h =
    sym (take_all place c.tags (omega (arith, h.place_is, long, ap length all))) ∙ h.right ∙ ap (tags_by k.keys c.header) (sym all)

-- ---- rows of certificates that are rejected for their tags

by_verdict : (k : CommitteeValue) (payload : List ℕ) (v : Verdict) → IsVerdict k payload v → rule.Tag ∷ [] ≡ rules_by v → IsVerdict k payload (verdict.Broken rule.Tag)
by_verdict k payload (verdict.Good node) is e = absurd cc
by_verdict k payload (verdict.Broken r) is e = let same : r ≡ rule.Tag = cc in subst (λ (x : Rule). IsVerdict k payload (verdict.Broken x)) same is

by_kind : (k : CommitteeValue) (of : Kind) (payload : List ℕ) → IsRejectedBy k of payload (rule.Tag ∷ []) → (of ≡ kind.Certificate) × IsVerdict k payload (verdict.Broken rule.Tag)
by_kind k kind.Committee payload e = absurd cc
by_kind k kind.Genesis payload e = absurd cc
by_kind k kind.Certificate payload (v, is, e) = (refl, by_verdict k payload v is e)
by_kind k kind.Batch payload e = absurd cc

forged_rules : (row : FrameRow) → is_forged row ≡ true → row_rules row ≡ rule.Tag ∷ []
forged_rules (shown.Committee digest) e = absurd cc
forged_rules (shown.Genesis digest accounts money) e = absurd cc
forged_rules shown.Malformed e = absurd cc
forged_rules (shown.Good row) e = absurd cc
forged_rules (shown.Broken row rule.Shape) e = absurd cc
forged_rules (shown.Broken row rule.Author) e = absurd cc
forged_rules (shown.Broken row rule.Round) e = absurd cc
forged_rules (shown.Broken row rule.Parents) e = absurd cc
forged_rules (shown.Broken row rule.ParentOrder) e = absurd cc
forged_rules (shown.Broken row rule.Signer) e = absurd cc
forged_rules (shown.Broken row rule.Quorum) e = absurd cc
forged_rules (shown.Broken row rule.Tag) e = refl
forged_rules (shown.Batch digest count) e = absurd cc
forged_rules (shown.Void digest) e = absurd cc

rules_forged : (row : FrameRow) → row_rules row ≡ rule.Tag ∷ [] → is_forged row ≡ true
rules_forged (shown.Committee digest) e = absurd cc
rules_forged (shown.Genesis digest accounts money) e = absurd cc
rules_forged shown.Malformed e = absurd cc
rules_forged (shown.Good row) e = absurd cc
rules_forged (shown.Broken row r) e = let same : r ≡ rule.Tag = cc in subst (λ (x : Rule). is_forged (shown.Broken row x) ≡ true) (sym same) refl
rules_forged (shown.Batch digest count) e = absurd cc
rules_forged (shown.Void digest) e = absurd cc

pub forged_row : (k : CommitteeValue) (f : Frame) (row : FrameRow) → IsRow k f row → is_forged row ≡ true → IsForged k f
forged_row k f row h e = by_kind k f.kind f.payload (subst (IsRejectedBy k f.kind f.payload) (forged_rules row e) h.1)

pub other_row : (k : CommitteeValue) (f : Frame) (row : FrameRow) → IsRow k f row → is_forged row ≡ false → IsForged k f → ⊥
other_row k f row h e (is, broken) = by_rules (subst (λ (of : Kind). IsRejectedBy k of f.payload (row_rules row)) is h.1)
  where
    by_rules : (v : Verdict) × IsVerdict k f.payload v × (row_rules row ≡ rules_by v) → ⊥
    by_rules (v, judged, all) =
        let same : v ≡ verdict.Broken rule.Tag = one_verdict k f.payload v (verdict.Broken rule.Tag) judged broken in
        let marks : is_forged row ≡ true = rules_forged row (all ∙ ap rules_by same) in
        absurd (let clash : true ≡ false = sym marks ∙ e in cc)

-- ---- the first frame that is one

-- none of the first frames is such a certificate
abbrev pub NoneForged : CommitteeValue → List Frame → Type 0
NoneForged k frames = (f : Frame) → Contains frames f → IsForged k f → ⊥

pub none_yet : (k : CommitteeValue) → NoneForged k []
none_yet k f there = absurd (omega (arith, there.1))

pub none_more : (k : CommitteeValue) (xs : List (Kind × Vec ℕ)) (i : ℕ) (x : Kind × Vec ℕ) (row : FrameRow) → i < length xs → x ≡ get_or xs i x → IsRow k (frame_of x.0 x.1.items) row → is_forged row ≡ false → NoneForged k (frames_in (take i xs)) → NoneForged k (frames_in (take (i + 1) xs))
none_more k xs i x row low there is e h = subst (NoneForged k) (sym (frames_more xs i x low there)) by_case
  where
    by_case : NoneForged k (frames_in (take i xs) ++ frame_of x.0 x.1.items ∷ [])
    by_case f t =
        elim (Contains-push_cases (frames_in (take i xs)) (frame_of x.0 x.1.items) f t) [
          | inl before ↦ h f before
          | inr same ↦ subst (λ (g : Frame). IsForged k g → ⊥) same (other_row k (frame_of x.0 x.1.items) row is e)
        ]

pub none_at_all : (k : CommitteeValue) (xs : List (Kind × Vec ℕ)) (i : ℕ) → length xs ≤ i → NoneForged k (frames_in (take i xs)) → IsFirstForged k (frames_in xs) None
none_at_all k xs i past h = subst (λ (ys : List (Kind × Vec ℕ)). NoneForged k (frames_in ys)) (take_all i xs past) h

pub first_here : (k : CommitteeValue) (xs : List (Kind × Vec ℕ)) (i signer : ℕ) (x : Kind × Vec ℕ) (row : FrameRow) → i < length xs → x ≡ get_or xs i x → IsRow k (frame_of x.0 x.1.items) row → is_forged row ≡ true → NoneForged k (frames_in (take i xs))
    → (c : CertValue) × (certificate_of x.1.items ≡ Some c) × HasWrongTag k c signer → IsFirstForged k (frames_in xs) (Some (record { frame = i; signer = signer }))
first_here k xs i signer x row low there is e none wrong = (
  frames_in (take i xs),
  frame_of x.0 x.1.items,
  frames_in (drop (i + 1) xs),
  ap frames_in (sym (take-append-drop (i + 1) xs)) ∙ map-append (λ (f : Kind × Vec ℕ). frame_of f.0 f.1.items) (take (i + 1) xs) (drop (i + 1) xs)
      ∙ ap (λ (t : List Frame). t ++ frames_in (drop (i + 1) xs)) (frames_more xs i x low there) ∙ append_assoc (frames_in (take i xs)) (frame_of x.0 x.1.items ∷ []) (frames_in (drop (i + 1) xs)),
  none,
  forged_row k (frame_of x.0 x.1.items) row is e,
  sym (first_long xs i low),
  wrong.0,
  wrong.1,
  wrong.2,
)
  where
    first_long : (xs : List (Kind × Vec ℕ)) (i : ℕ) → i < length xs → length (frames_in (take i xs)) ≡ i
    first_long [] i low = absurd (omega (arith, low))
    first_long (y ∷ ys) zero low = refl
    first_long (y ∷ ys) (suc i) low = ap suc (first_long ys i (omega (arith, low)))
