-- How far a feed can be pulled that shows no fault: its length is bounded.
use Rattle.std.proofs.Common.{◌≡◌, ◌≢◌, ℕ, ◌+◌, ◌<◌, ◌≤◌, Bool, true, false, cond, ltb, leb, eqb, ◌||◌, List, [], ◌∷◌, length, take, drop, Option, Some, None, refl, sym, ap, ◌∙◌, arith, length-append, length-drop}
use Rattle.std.specs.Prelude.{not}
use Rattle.std.specs.List.{flat_map}
use Rattle.std.specs.Int.{w32, from_be_bytes}
use Rattle.std.proofs.lemmas.Bool.{ltb-true, ltb-false}
use Rattle.std.proofs.lemmas.List.Concat.{flat_map-cons}
use Rattle.bk_base.specs.declared.limits.TheConstants.{MOST_FEED, MOST_PAYLOAD}
use Rattle.bk_base.specs.declared.version.Version.{Version}
use Rattle.bk_frames.specs.declared.fault.FaultCode.{FaultCode}
use Rattle.bk_frames.specs.declared.fault.FaultCode.TheVariants as code
use Rattle.bk_base.specs.Committee.{is_committee}
use Rattle.bk_base.specs.Genesis.{is_genesis}
use Rattle.bk_base.specs.Feed.{Frame, feed_of, frame_text, spelling, magic, AreGoodFrom}
use Rattle.bk_frames.specs.FirstFault.{begins_magic, start_fault, kind_fault, payload_fault, content_fault, frame_fault, fault_if, or_else}
use Rattle.bk_frames.specs.Cutting.{Cut, fresh, Cuts, in_magic, past_magic, in_frames, IsOpen, fault_at}
use Rattle.bk_base.proofs.FramesInTurn.{length-magic}
use Rattle.bk_frames.proofs.CutJoining.{none_before_magic}

no_version : (v : Version) → ¬ (None ≡ Some v)
no_version v e = absurd cc

length-spelling : (version : Version) (frames : List Frame) → length (spelling (feed_of version frames)) ≡ 4 + length (flat_map frame_text frames)
length-spelling version frames = omega (arith, length-append (magic version) (flat_map frame_text frames), length-magic version)

-- all bytes are as many as the offset and what is kept
pub so_long : (bytes : List ℕ) (frames : List Frame) (c : Cut) → Cuts fresh bytes frames c → length bytes ≡ c.offset + length c.kept
so_long bytes frames c (in_magic _ cv ci co none text) = omega (arith, ap length text, co)
so_long bytes frames c (past_magic v _ cv text good index offset) = omega (arith, ap length text, length-append (spelling (feed_of v frames)) c.kept, offset)
so_long bytes frames c (in_frames v fv cv text good index offset) = absurd (no_version v fv)

frames_inside : (version : Version) (index offset : ℕ) (frames : List Frame) → offset ≤ MOST_FEED → AreGoodFrom version index offset frames → offset + length (flat_map frame_text frames) ≤ MOST_FEED
frames_inside version index offset [] le good = omega arith
frames_inside version index offset (f ∷ more) le good =
    let rest = frames_inside version (index + 1) (offset + length (frame_text f)) more good.0.framed.inside good.1 in
    omega (arith, rest, ap length (flat_map-cons frame_text f more), length-append (frame_text f) (flat_map frame_text more))

offset_inside : (bytes : List ℕ) (frames : List Frame) (c : Cut) → Cuts fresh bytes frames c → c.offset ≤ MOST_FEED
offset_inside bytes frames c (in_magic _ cv ci co none text) = omega (arith, co)
offset_inside bytes frames c (past_magic v _ cv text good index offset) = omega (arith, offset, length-spelling v frames, frames_inside v 0 4 frames (omega arith) good)
offset_inside bytes frames c (in_frames v fv cv text good index offset) = absurd (no_version v fv)

-- ---- what is only cut short is short

one_code : (a b : FaultCode) → Some a ≡ Some b → a ≡ b
one_code a b e = cc

no_code : (e : FaultCode) → ¬ (None ≡ Some e)
no_code e h = absurd cc

other_code : (b : Bool) (e : FaultCode) → e ≢ code.Truncated → ¬ (fault_if b e ≡ Some code.Truncated)
other_code true e ne h = ne (one_code e code.Truncated h)
other_code false e ne h = absurd cc

start_short : (bytes : List ℕ) → start_fault bytes ≡ Some code.Truncated → length bytes < 4
start_short bytes h = by_front (begins_magic (take 4 bytes)) h
  where
    by_length : (b : Bool) → ltb (length bytes) 4 ≡ b → fault_if b code.Truncated ≡ Some code.Truncated → length bytes < 4
    by_length true t g = ltb-true _ _ t
    by_length false t g = absurd cc

    by_front : (b : Bool) → or_else (fault_if (not b) code.Magic) (fault_if (ltb (length bytes) 4) code.Truncated) ≡ Some code.Truncated → length bytes < 4
    by_front true g = by_length (ltb (length bytes) 4) refl g
    by_front false g = absurd cc

kind_never : (index number : ℕ) → ¬ (kind_fault index number ≡ Some code.Truncated)
kind_never index number h = by_range (ltb number 1 || ltb 4 number) h
  where
    third : (b : Bool) → ¬ (cond b (fault_if (not (eqb number 2)) code.Genesis) (fault_if (leb number 2) code.Extra) ≡ Some code.Truncated)
    third true g = other_code (not (eqb number 2)) code.Genesis (λ e. absurd cc) g
    third false g = other_code (leb number 2) code.Extra (λ e. absurd cc) g

    second : (b : Bool) → ¬ (cond b (fault_if (not (eqb number 1)) code.Committee) (cond (eqb index 1) (fault_if (not (eqb number 2)) code.Genesis) (fault_if (leb number 2) code.Extra)) ≡ Some code.Truncated)
    second true g = other_code (not (eqb number 1)) code.Committee (λ e. absurd cc) g
    second false g = third (eqb index 1) g

    by_range : (b : Bool) → cond b (Some code.Kind) (cond (eqb index 0) (fault_if (not (eqb number 1)) code.Committee) (cond (eqb index 1) (fault_if (not (eqb number 2)) code.Genesis) (fault_if (leb number 2) code.Extra))) ≡ Some code.Truncated → ⊥
    by_range true g = absurd cc
    by_range false g = second (eqb index 0) g

payload_never : (version : Version) (index : ℕ) (payload : List ℕ) → ¬ (payload_fault version index payload ≡ Some code.Truncated)
payload_never version index payload h = by_first (eqb index 0) h
  where
    by_second : (b : Bool) → ¬ (cond b (fault_if (not (is_genesis payload)) code.Genesis) None ≡ Some code.Truncated)
    by_second true g = other_code (not (is_genesis payload)) code.Genesis (λ e. absurd cc) g
    by_second false g = no_code code.Truncated g

    by_first : (b : Bool) → ¬ (cond b (fault_if (not (is_committee version payload)) code.Committee) (cond (eqb index 1) (fault_if (not (is_genesis payload)) code.Genesis) None) ≡ Some code.Truncated)
    by_first true g = other_code (not (is_committee version payload)) code.Committee (λ e. absurd cc) g
    by_first false g = by_second (eqb index 1) g

both_false : (a b : Bool) → (a || b) ≡ false → (a ≡ false) × (b ≡ false)
both_false true b h = absurd cc
both_false false b h = (refl, h)

content_short : (version : Version) (index offset len : ℕ) (bytes : List ℕ) → content_fault version index offset len bytes ≡ Some code.Truncated → offset + 5 + length bytes ≤ MOST_FEED
content_short version index offset len bytes h = by_limits (ltb MOST_PAYLOAD len || ltb MOST_FEED (offset + 5 + len)) refl h
  where
    by_rest : (b : Bool) → ltb (length bytes) len ≡ b → offset + 5 + len ≤ MOST_FEED → or_else (fault_if b code.Truncated) (payload_fault version index (take len bytes)) ≡ Some code.Truncated → offset + 5 + length bytes ≤ MOST_FEED
    by_rest true t le g = let lt = ltb-true _ _ t in omega (arith, lt, le)
    by_rest false t le g = absurd (payload_never version index (take len bytes) g)

    by_limits : (b : Bool) → (ltb MOST_PAYLOAD len || ltb MOST_FEED (offset + 5 + len)) ≡ b → or_else (fault_if b code.Length) (or_else (fault_if (ltb (length bytes) len) code.Truncated) (payload_fault version index (take len bytes))) ≡ Some code.Truncated
        → offset + 5 + length bytes ≤ MOST_FEED
    by_limits true t g = absurd cc
    by_limits false t g = let le = ltb-false _ _ (both_false (ltb MOST_PAYLOAD len) (ltb MOST_FEED (offset + 5 + len)) t).1 in by_rest (ltb (length bytes) len) refl le g

frame_short : (version : Version) (index offset : ℕ) (bytes : List ℕ) → offset ≤ MOST_FEED → 0 < length bytes → frame_fault version index offset bytes ≡ Some code.Truncated → offset + length bytes ≤ MOST_FEED + 4
frame_short version index offset [] le some h = absurd (omega arith)
frame_short version index offset (n ∷ rest) le some h = by_kind (kind_fault index n) refl h
  where
    by_rest : (b : Bool) → ltb (length rest) 4 ≡ b → or_else (fault_if b code.Truncated) (content_fault version index offset (from_be_bytes w32 (take 4 rest)) (drop 4 rest)) ≡ Some code.Truncated → offset + length (n ∷ rest) ≤ MOST_FEED + 4
    by_rest true t g = let lt = ltb-true _ _ t in omega (arith, lt, le)
    by_rest false t g = omega (arith, content_short version index offset (from_be_bytes w32 (take 4 rest)) (drop 4 rest) g, length-drop 4 rest, ltb-false _ _ t)

    by_kind : (o : Option FaultCode) → kind_fault index n ≡ o → or_else o (or_else (fault_if (ltb (length rest) 4) code.Truncated) (content_fault version index offset (from_be_bytes w32 (take 4 rest)) (drop 4 rest))) ≡ Some code.Truncated
        → offset + length (n ∷ rest) ≤ MOST_FEED + 4
    by_kind (Some e) t g = absurd (kind_never index n (t ∙ g))
    by_kind None t g = by_rest (ltb (length rest) 4) refl g

-- so bytes that show no fault are not more than this
pub open_short : (bytes : List ℕ) (frames : List Frame) (c : Cut) → Cuts fresh bytes frames c → IsOpen c → c.offset + length c.kept ≤ MOST_FEED + 4
open_short bytes frames c cuts is_open = by_kept c.kept refl
  where
    le : c.offset ≤ MOST_FEED
    le = offset_inside bytes frames c cuts

    by_version : (o : Option Version) → o ≡ c.version → 0 < length c.kept → c.offset + length c.kept ≤ MOST_FEED + 4
    by_version None e some =
        let first = none_before_magic bytes frames c cuts (sym e) in
        let lt = start_short c.kept (ap (λ (o : Option Version). fault_at o c.index c.offset c.kept) e ∙ is_open some) in
        omega (arith, lt, first.3)
    by_version (Some v) e some = frame_short v c.index c.offset c.kept le some (ap (λ (o : Option Version). fault_at o c.index c.offset c.kept) e ∙ is_open some)

    by_kept : (k : List ℕ) → k ≡ c.kept → c.offset + length c.kept ≤ MOST_FEED + 4
    by_kept [] e = omega (arith, ap length e, le)
    by_kept (b ∷ bs) e = by_version c.version refl (omega (arith, ap length e))
