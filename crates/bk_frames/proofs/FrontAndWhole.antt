-- What the front of bytes shows, the whole shows.
use Rattle.std.proofs.Common.{◌≡◌, ◌≢◌, ℕ, zero, suc, ◌≤◌, Bool, true, false, ltb, List, [], ◌∷◌, ◌++◌, length, take, drop, Option, Some, None, refl, sym, ap, ◌∙◌, append_assoc, length-append, arith}
use Rattle.std.specs.Prelude.{not, ◌&&◌, ◌||◌, nat_eq}
use Rattle.std.specs.List.{starts_with}
use Rattle.std.specs.Int.{w32, from_be_bytes}
use Rattle.std.proofs.lemmas.Bool.{le-ltb, ltb-false}
use Rattle.bk_frames.specs.declared.fault.FaultCode.{FaultCode}
use Rattle.bk_frames.specs.declared.fault.FaultCode.TheVariants as code
use Rattle.bk_base.specs.declared.version.Version.{Version}
use Rattle.bk_base.specs.declared.version.Version.TheVariants.{One, Two}
use Rattle.bk_base.specs.Feed.{FeedValue, magic, spelling}
use Rattle.bk_frames.specs.FirstFault.{begins_magic, start_fault, kind_fault, length_fault, payload_fault, content_fault, frame_fault, fault_if, or_else, Begins, HasFault, at_start, in_frame}
use Rattle.bk_frames.specs.declared.fault.FeedFault.{FeedFault}
use Rattle.bk_frames.specs.Cutting.{fault_at}

some_is : (a b : FaultCode) → Some a ≡ Some b → a ≡ b
some_is a b e = cc

-- a longer text begins as the shorter one
take_more_text : (n : ℕ) (xs ys : List ℕ) → n ≤ length xs → take n (xs ++ ys) ≡ take n xs
take_more_text zero xs ys h = refl
take_more_text (suc n) [] ys h = absurd (omega arith)
take_more_text (suc n) (x ∷ xs) ys h = ap (λ (t : List ℕ). x ∷ t) (take_more_text n xs ys (omega arith))

drop_more_text : (n : ℕ) (xs ys : List ℕ) → n ≤ length xs → drop n (xs ++ ys) ≡ drop n xs ++ ys
drop_more_text zero xs ys h = refl
drop_more_text (suc n) [] ys h = absurd (omega arith)
drop_more_text (suc n) (x ∷ xs) ys h = drop_more_text n xs ys (omega arith)

content_grows : (version : Version) (index offset len : ℕ) (xs ys : List ℕ) (e : FaultCode) → e ≢ code.Truncated → content_fault version index offset len xs ≡ Some e → content_fault version index offset len (xs ++ ys) ≡ Some e
content_grows version index offset len xs ys e other h = first (length_fault offset len) h
  where
    second : (b : Bool) → ltb (length xs) len ≡ b → or_else (fault_if b code.Truncated) (payload_fault version index (take len xs)) ≡ Some e
        → or_else (fault_if (ltb (length (xs ++ ys)) len) code.Truncated) (payload_fault version index (take len (xs ++ ys))) ≡ Some e
    second true t g = absurd (other (sym (some_is code.Truncated e g)))
    second false t g =
        let le : len ≤ length xs = ltb-false _ _ t in
        let long : ltb (length (xs ++ ys)) len ≡ false = le-ltb _ _ (omega (arith, length-append xs ys)) in
        let same : take len (xs ++ ys) ≡ take len xs = take_more_text len xs ys le in
        rw (long, same) g

    first : (found : Option FaultCode) → or_else found (or_else (fault_if (ltb (length xs) len) code.Truncated) (payload_fault version index (take len xs))) ≡ Some e
        → or_else found (or_else (fault_if (ltb (length (xs ++ ys)) len) code.Truncated) (payload_fault version index (take len (xs ++ ys)))) ≡ Some e
    first (Some c) g = g
    first None g = second (ltb (length xs) len) refl g

pub frame_grows : (version : Version) (index offset : ℕ) (xs ys : List ℕ) (e : FaultCode) → e ≢ code.Truncated → frame_fault version index offset xs ≡ Some e → frame_fault version index offset (xs ++ ys) ≡ Some e
frame_grows version index offset [] ys e other h = none (ltb index 2) h
  where
    none : (b : Bool) → fault_if b code.Truncated ≡ Some e → frame_fault version index offset ys ≡ Some e
    none true g = absurd (other (sym (some_is code.Truncated e g)))
    none false g = absurd cc
frame_grows version index offset (number ∷ rest) ys e other h = first (kind_fault index number) h
  where
    second : (b : Bool) → ltb (length rest) 4 ≡ b → or_else (fault_if b code.Truncated) (content_fault version index offset (from_be_bytes w32 (take 4 rest)) (drop 4 rest)) ≡ Some e
        → or_else (fault_if (ltb (length (rest ++ ys)) 4) code.Truncated) (content_fault version index offset (from_be_bytes w32 (take 4 (rest ++ ys))) (drop 4 (rest ++ ys))) ≡ Some e
    second true t g = absurd (other (sym (some_is code.Truncated e g)))
    second false t g =
        let le : 4 ≤ length rest = ltb-false _ _ t in
        let long : ltb (length (rest ++ ys)) 4 ≡ false = le-ltb _ _ (omega (arith, length-append rest ys)) in
        let front : take 4 (rest ++ ys) ≡ take 4 rest = take_more_text 4 rest ys le in
        let back : drop 4 (rest ++ ys) ≡ drop 4 rest ++ ys = drop_more_text 4 rest ys le in
        rw (long, front, back) (content_grows version index offset (from_be_bytes w32 (take 4 rest)) (drop 4 rest) ys e other g)

    first : (found : Option FaultCode) → or_else found (or_else (fault_if (ltb (length rest) 4) code.Truncated) (content_fault version index offset (from_be_bytes w32 (take 4 rest)) (drop 4 rest))) ≡ Some e
        → or_else found (or_else (fault_if (ltb (length (rest ++ ys)) 4) code.Truncated) (content_fault version index offset (from_be_bytes w32 (take 4 (rest ++ ys))) (drop 4 (rest ++ ys)))) ≡ Some e
    first (Some c) g = g
    first None g = second (ltb (length rest) 4) refl g

both_fail : (b p q : Bool) → (p ≡ false → q ≡ false) → (b && p) ≡ false → (b && q) ≡ false
both_fail true p q f g = f g
both_fail false p q f g = refl

-- no longer text passes where a shorter one did not
front_fails : (p xs ys : List ℕ) (n : ℕ) → starts_with nat_eq p (take n xs) ≡ false → starts_with nat_eq p (take n (xs ++ ys)) ≡ false
front_fails p xs ys zero h = h
front_fails p [] ys (suc n) h = absurd cc
front_fails [] (x ∷ xs) ys (suc n) h = refl
front_fails (c ∷ p) (x ∷ xs) ys (suc n) h = both_fail (nat_eq x c) _ _ (front_fails p xs ys n) h

both_false : (p q : Bool) → (p || q) ≡ false → (p ≡ false) × (q ≡ false)
both_false true q h = absurd cc
both_false false q h = (refl, h)

neither : (p q : Bool) → p ≡ false → q ≡ false → (p || q) ≡ false
neither p q e f = rw (e, f) refl

pub start_grows : (xs ys : List ℕ) (e : FaultCode) → e ≢ code.Truncated → start_fault xs ≡ Some e → start_fault (xs ++ ys) ≡ Some e
start_grows xs ys e other h = first (begins_magic (take 4 xs)) refl h
  where
    second : (b : Bool) → fault_if b code.Truncated ≡ Some e → start_fault (xs ++ ys) ≡ Some e
    second true g = absurd (other (sym (some_is code.Truncated e g)))
    second false g = absurd cc

    first : (b : Bool) → begins_magic (take 4 xs) ≡ b → or_else (fault_if (not b) code.Magic) (fault_if (ltb (length xs) 4) code.Truncated) ≡ Some e → start_fault (xs ++ ys) ≡ Some e
    first true t g = second (ltb (length xs) 4) g
    first false t g =
        let p = both_false (starts_with nat_eq (magic One) (take 4 xs)) (starts_with nat_eq (magic Two) (take 4 xs)) t in
        let k : begins_magic (take 4 (xs ++ ys)) ≡ false = neither _ _ (front_fails (magic One) xs ys 4 p.0) (front_fails (magic Two) xs ys 4 p.1) in
        rw k g

pub fault_grows : (version : Option Version) (index offset : ℕ) (xs ys : List ℕ) (e : FaultCode) → e ≢ code.Truncated → fault_at version index offset xs ≡ Some e → fault_at version index offset (xs ++ ys) ≡ Some e
fault_grows None index offset xs ys e other h = start_grows xs ys e other h
fault_grows (Some v) index offset xs ys e other h = frame_grows v index offset xs ys e other h

pub frames_stay : (bytes rest more : List ℕ) (front : FeedValue) → Begins bytes front rest → Begins (bytes ++ more) front (rest ++ more)
frames_stay bytes rest more front begins = record { spelled = ap (λ (t : List ℕ). t ++ more) begins.spelled ∙ append_assoc (spelling front) rest more; good = begins.good }

pub fault_stays : (bytes more : List ℕ) (fault : FeedFault) → HasFault bytes fault → fault.code ≢ code.Truncated → HasFault (bytes ++ more) fault
fault_stays bytes more fault (at_start found place) other = at_start (start_grows bytes more fault.code other found) place
fault_stays bytes more fault (in_frame front rest begins found place) other =
    in_frame front (rest ++ more) (frames_stay bytes rest more front begins) (frame_grows front.version (length front.frames) fault.offset rest more fault.code other found) place
