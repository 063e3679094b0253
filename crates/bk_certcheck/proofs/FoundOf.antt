-- What is found of the frames of a part.
use Rattle.std.proofs.Common.{◌≡◌, ℕ, ◌+◌, ◌<◌, ◌≤◌, List, [], ◌∷◌, ◌++◌, length, map, take, drop, get_or, refl, sym, ap, subst, ◌∙◌, arith, append_assoc}
use Rattle.std.specs.List.{AllZip, flat_map}
use Rattle.std.specs.Global.{Vec}
use Rattle.std.proofs.lemmas.List.{take_all, at_drop_more}
use Rattle.std.proofs.lemmas.List.Folds.{flat_map-map}
use Rattle.std.proofs.lemmas.Slice.Zip.{all_zipped_more}
use Rattle.sha2.specs.Sha256.{sha256}
use Rattle.bk_base.specs.declared.kind.Kind.{Kind}
use Rattle.bk_base.specs.declared.kind.Kind.TheVariants as kind
use Rattle.bk_base.specs.Feed.{Frame, frame_of}
use Rattle.bk_frames.specs.Cutting.{frames_in}
use Rattle.bk_committee.specs.Payload.{CommitteeValue}
use Rattle.bk_certcheck.specs.declared.verdict.Verdict.{Verdict}
use Rattle.bk_certcheck.specs.declared.verdict.Verdict.TheVariants as verdict
use Rattle.bk_certcheck.specs.Verdicts.{IsVerdict}
use Rattle.bk_certcheck.specs.declared.finding.Found.{Found}
use Rattle.bk_certcheck.specs.Frames.{IsFound, certificate_in, batch_in, certificates_in, batches_in}
use Rattle.bk_certcheck.specs.private.Finding.{CanTakeNext, TakesNext, IsPutting, found_by}

-- the payloads of frames, from the frames as they are held
pub certificates_flat : (xs : List (Kind × Vec ℕ)) → flat_map (λ (x : Kind × Vec ℕ). certificate_in x.0 x.1.items) xs ≡ certificates_in (frames_in xs)
certificates_flat xs = sym (flat_map-map (λ (f : Frame). certificate_in f.kind f.payload) (λ (y : Kind × Vec ℕ). frame_of y.0 y.1.items) xs)

pub batches_flat : (xs : List (Kind × Vec ℕ)) → flat_map (λ (x : Kind × Vec ℕ). batch_in x.0 x.1.items) xs ≡ batches_in (frames_in xs)
batches_flat xs = sym (flat_map-map (λ (f : Frame). batch_in f.kind f.payload) (λ (y : Kind × Vec ℕ). frame_of y.0 y.1.items) xs)

-- the frames from a place on begin with the one there
pub front_at : (xs : List (Kind × Vec ℕ)) (i : ℕ) (x : Kind × Vec ℕ) → i < length xs → x ≡ get_or xs i x
    → frames_in (drop i xs) ≡ frame_of x.0 x.1.items ∷ frames_in (drop (i + 1) xs)
front_at xs i x low is =
    at_drop_more frames_in xs i x low ∙ ap (λ (y : Kind × Vec ℕ). frame_of y.0 y.1.items ∷ frames_in (drop (i + 1) xs)) (sym is)

-- where a frame is left, so is what is found of it
pub can_take : (k : CommitteeValue) (all rest : List Frame) (of : Kind) (payload : List ℕ) (vs : List Verdict) (ds : List (List ℕ)) (out : List Found)
    → IsPutting k all (frame_of of payload ∷ rest) vs ds out → CanTakeNext of vs ds
can_take k all rest kind.Committee payload vs ds out j = tt
can_take k all rest kind.Genesis payload vs ds out j = tt
can_take k all rest kind.Certificate payload vs ds out j = λ none. subst (AllZip (IsVerdict k) (payload ∷ certificates_in rest)) none j.judged
can_take k all rest kind.Batch payload vs ds out j = λ none. let a = ap (λ (l : List (List ℕ)). length l) (sym none ∙ j.hashed) in omega (arith, a)

by_verdict : (k : CommitteeValue) (payload : List ℕ) (v : Verdict) → IsVerdict k payload v → IsFound k (frame_of kind.Certificate payload) (found_by payload v)
by_verdict k payload (verdict.Good c) h = (refl, h)
by_verdict k payload (verdict.Broken r) h = (refl, h, refl)

-- what is taken for a frame is what is found of it, and the others are left for the frames after it
taken : (k : CommitteeValue) (rest : List Frame) (of : Kind) (payload : List ℕ) (vs vs' : List Verdict) (ds ds' : List (List ℕ)) (one : Found)
    → AllZip (IsVerdict k) (certificates_in (frame_of of payload ∷ rest)) vs → ds ≡ map sha256 (batches_in (frame_of of payload ∷ rest)) → TakesNext of payload vs vs' ds ds' one
    → IsFound k (frame_of of payload) one × AllZip (IsVerdict k) (certificates_in rest) vs' × (ds' ≡ map sha256 (batches_in rest))
taken k rest kind.Committee payload vs vs' ds ds' one judged hashed (e, d, is) =
    (subst (IsFound k (frame_of kind.Committee payload)) (sym is) tt, subst (AllZip (IsVerdict k) (certificates_in rest)) (sym e) judged, d ∙ hashed)
taken k rest kind.Genesis payload vs vs' ds ds' one judged hashed (e, d, is) =
    (subst (IsFound k (frame_of kind.Genesis payload)) (sym is) tt, subst (AllZip (IsVerdict k) (certificates_in rest)) (sym e) judged, d ∙ hashed)
taken k rest kind.Certificate payload vs vs' ds ds' one judged hashed (v, e, d, is) =
    let z : AllZip (IsVerdict k) (payload ∷ certificates_in rest) (v ∷ vs') = subst (AllZip (IsVerdict k) (payload ∷ certificates_in rest)) e judged in
    (subst (IsFound k (frame_of kind.Certificate payload)) (sym is) (by_verdict k payload v z.0), z.1, d ∙ hashed)
taken k rest kind.Batch payload vs vs' ds ds' one judged hashed (x, e, d, is) =
    let both : x ∷ ds' ≡ sha256 payload ∷ map sha256 (batches_in rest) = sym d ∙ hashed in
    (subst (IsFound k (frame_of kind.Batch payload)) (sym is) (refl, ap (λ (l : List (List ℕ)). get_or l 0 x) both), subst (AllZip (IsVerdict k) (certificates_in rest)) (sym e) judged, ap (λ (l : List (List ℕ)). drop 1 l) both)

-- the verdicts on payloads are those on the lists that they show
pub shown_verdicts : {P : Type 0} (k : CommitteeValue) (show : P → List ℕ) (ps : List P) (vs : List Verdict) → AllZip (λ p v. IsVerdict k (show p) v) ps vs → AllZip (IsVerdict k) (map show ps) vs
shown_verdicts k show [] [] h = h
shown_verdicts k show [] (v ∷ vs) h = absurd h
shown_verdicts k show (p ∷ ps) [] h = absurd h
shown_verdicts k show (p ∷ ps) (v ∷ vs) h = (h.0, shown_verdicts k show ps vs h.1)

pub shown_digests : {P : Type 0} (show : P → List ℕ) (ps : List P) → map (λ p. sha256 (show p)) ps ≡ map sha256 (map show ps)
shown_digests show [] = refl
shown_digests show (p ∷ ps) = ap (λ (l : List (List ℕ)). sha256 (show p) ∷ l) (shown_digests show ps)

pub flat_whole : {X Y : Type 0} (f : X → List Y) (xs : List X) (i : ℕ) → length xs ≤ i → flat_map f (take i xs) ≡ flat_map f xs
flat_whole {X = X} f xs i low = ap (λ (ys : List X). flat_map f ys) (take_all i xs low)

-- the same of the frame at a place
pub can_take_at : (k : CommitteeValue) (xs : List (Kind × Vec ℕ)) (i : ℕ) (x : Kind × Vec ℕ) (vs : List Verdict) (ds : List (List ℕ)) (out : List Found) → i < length xs → x ≡ get_or xs i x
    → IsPutting k (frames_in xs) (frames_in (drop i xs)) vs ds out → CanTakeNext x.0 vs ds
can_take_at k xs i x vs ds out low is j =
    can_take k (frames_in xs) (frames_in (drop (i + 1) xs)) x.0 x.1.items vs ds out (subst (λ (fs : List Frame). IsPutting k (frames_in xs) fs vs ds out) (front_at xs i x low is) j)

pub putting_at : (k : CommitteeValue) (xs : List (Kind × Vec ℕ)) (i : ℕ) (x : Kind × Vec ℕ) (vs vs' : List Verdict) (ds ds' : List (List ℕ)) (out new : List Found) (one : Found) → i < length xs → x ≡ get_or xs i x
    → IsPutting k (frames_in xs) (frames_in (drop i xs)) vs ds out → TakesNext x.0 x.1.items vs vs' ds ds' one → new ≡ out ++ one ∷ [] → IsPutting k (frames_in xs) (frames_in (drop (i + 1) xs)) vs' ds' new
putting_at k xs i x vs vs' ds ds' out new one low is j takes pushed =
    let f : Frame = frame_of x.0 x.1.items in
    let rest : List Frame = frames_in (drop (i + 1) xs) in
    let at : IsPutting k (frames_in xs) (f ∷ rest) vs ds out = subst (λ (fs : List Frame). IsPutting k (frames_in xs) fs vs ds out) (front_at xs i x low is) j in
    let t = taken k rest x.0 x.1.items vs vs' ds ds' one at.judged at.hashed takes in
    record {
      judged = t.1;
      hashed = t.2;
      done = at.done ++ f ∷ [];
      split = at.split ∙ sym (append_assoc at.done (f ∷ []) rest);
      is_found = subst (AllZip (IsFound k) (at.done ++ f ∷ [])) (sym pushed) (all_zipped_more (IsFound k) at.done out f one at.is_found t.0);
    }

pub part_verdicts : {P : Type 0} (k : CommitteeValue) (show : P → List ℕ) (ps qs : List P) (vs : List Verdict) (xs : List (List ℕ)) → qs ≡ ps → map show ps ≡ xs
    → AllZip (λ p v. IsVerdict k (show p) v) qs vs → AllZip (IsVerdict k) xs vs
part_verdicts {P = P} k show ps qs vs xs same shown h =
    subst (λ (ys : List (List ℕ)). AllZip (IsVerdict k) ys vs) (ap (λ (l : List P). map show l) same ∙ shown) (shown_verdicts k show qs vs h)

pub part_digests : {P : Type 0} (show : P → List ℕ) (ps qs : List P) (ds xs : List (List ℕ)) → qs ≡ ps → map show ps ≡ xs → ds ≡ map (λ p. sha256 (show p)) qs → ds ≡ map sha256 xs
part_digests {P = P} show ps qs ds xs same shown h =
    h ∙ shown_digests show qs ∙ ap (λ (ys : List (List ℕ)). map sha256 ys) (ap (λ (l : List P). map show l) same ∙ shown)
