-- What a source gave, one part after another.
use Rattle.std.proofs.Common.{◌≡◌, ℕ, zero, suc, ◌+◌, ◌-◌, ◌<◌, ◌==◌, length-drop, Bool, true, ◌&&◌, if◌then◌else◌, List, [], ◌∷◌, ◌++◌, length, take, drop, Option, Some, None, refl, sym, ap, subst, ◌∙◌, append_assoc, arith}
use Rattle.std.proofs.lemmas.Bool.{eq-eqb, lt-ltb, ne_eqb}
use Rattle.std.proofs.lemmas.List.{append-nil, take_at, drop_at, take_all}
use Rattle.std.specs.Prelude.{IfSome}
use Rattle.std.specs.Io.KnownBytes.{Consumes, Appends}
use Rattle.std.proofs.KnownBytes.{Consumes-nil, Consumes-trans}
use Rattle.bk_frames.specs.Device.{Device, Ends, ends_of, Gives, GaveAll, IfKnown}

-- a source that is not called gives nothing
pub gives_none : (d : Device) → Gives d d []
gives_none d = record {
  known = Consumes-nil d.bytes;
  given = λ before h. subst (λ (t : List ℕ). d.may_have_given t ≡ true) (sym (append-nil before)) h;
}

-- two parts that were given in turn are one
pub gives_then : (a b c : Device) (xs ys : List ℕ) → Gives a b xs → Gives b c ys → Gives a c (xs ++ ys)
gives_then a b c xs ys p q = record {
  known = Consumes-trans a.bytes b.bytes c.bytes xs ys p.known q.known;
  given = λ before h. subst (λ (t : List ℕ). c.may_have_given t ≡ true) (append_assoc before xs ys) (q.given (before ++ xs) (p.given before h));
}

-- where nothing is given any more, what was given is all
pub gives_kept : (a b c : Device) (xs : List ℕ) → Gives a b xs → Gives b c [] → Gives a c xs
gives_kept a b c xs p q = subst (λ (t : List ℕ). Gives a c t) (append-nil xs) (gives_then a b c xs [] p q)

none_more : (n : ℕ) → n + 0 ≡ n
none_more n = omega arith

-- a source that is not called does not end
pub ends_not_yet : (d : Device) → Ends 0 d d
ends_not_yet d = λ before h. subst (λ (n : ℕ). d.may_have_ended n ≡ true) (sym (none_more before)) h

-- it did not end, and does not
pub ends_not_then : (a b c : Device) → Ends 0 a b → Ends 0 b c → Ends 0 a c
ends_not_then a b c p q = λ before h. q before (subst (λ (n : ℕ). b.may_have_ended n ≡ true) (none_more before) (p before h))

-- it did not end, and ends
pub ends_then : (a b c : Device) → Ends 0 a b → Ends 1 b c → Ends 1 a c
ends_then a b c p q = λ before h. q before (subst (λ (n : ℕ). b.may_have_ended n ≡ true) (none_more before) (p before h))

-- the call ended the source, if it gave nothing
pub ends_at : (n : ℕ) (a b : Device) → Ends (ends_of n 1) a b → n ≡ 0 → Ends 1 a b
ends_at n a b e is = subst (λ (k : ℕ). Ends k a b) (ap (λ (z : Bool). if z then 1 else 0) (eq-eqb n 0 is)) e

-- and if it gave something it did not
pub ends_not_at : (n : ℕ) (a b : Device) → Ends (ends_of n 1) a b → 0 < n → Ends 0 a b
ends_not_at n a b e some = subst (λ (k : ℕ). Ends k a b) (ap (λ (z : Bool). if z then 1 else 0) (ne_eqb n 0 (λ is. absurd (omega (arith, is, some))))) e

-- there was room for a byte
pub ends_by_room : (room n : ℕ) (a b : Device) → Ends (ends_of n room) a b → 0 < room → Ends (ends_of n 1) a b
ends_by_room room n a b e some = subst (λ (k : ℕ). Ends k a b) (ap (λ (z : Bool). if z && n == 0 then 1 else 0) (lt-ltb 0 room some)) e

-- what holds of the bytes that are left holds of all of them after what was given
pub known_before : (a b : Option (List ℕ)) (xs : List ℕ) (P Q : List ℕ → Type 0) → Consumes a b xs → IfSome b P → ((rest : List ℕ) → P rest → Q (xs ++ rest)) → IfSome a Q
known_before None b xs P Q p h f = tt
known_before (Some bs) None xs P Q p h f = absurd p
known_before (Some bs) (Some cs) xs P Q p h f = subst Q (sym p) (f cs h)

-- two parts that were taken in turn are one
pub appends_then : (a b c : Option (List ℕ)) (xs ys : List ℕ) → Appends a b xs → Appends b c ys → Appends a c (xs ++ ys)
appends_then None b c xs ys p q = tt
appends_then (Some bs) None c xs ys p q = absurd p
appends_then (Some bs) (Some cs) None xs ys p q = absurd q
appends_then (Some bs) (Some cs) (Some ds) xs ys p q = q ∙ ap (λ (t : List ℕ). t ++ ys) p ∙ append_assoc bs xs ys

-- nothing has no front
abbrev no_bytes : List ℕ
no_bytes = []

nil_take : (n : ℕ) → take n no_bytes ≡ no_bytes
nil_take zero = refl
nil_take (suc n) = refl

-- the front of a text, in two parts
pub take_parts : (i n : ℕ) (xs : List ℕ) → take (i + n) xs ≡ take i xs ++ take n (drop i xs)
take_parts zero n xs = let e : zero + n ≡ n = omega arith in rw e refl
take_parts (suc i) n [] = nil_take (suc i + n) ∙ sym (nil_take n)
take_parts (suc i) n (x ∷ xs) = let e : suc i + n ≡ suc (i + n) = omega arith in rw e (ap (λ (t : List ℕ). x ∷ t) (take_parts i n xs))

-- the front of two texts that goes past the first
pub take_past : (xs ys : List ℕ) (n k : ℕ) → k ≡ length xs + n → take k (xs ++ ys) ≡ xs ++ take n ys
take_past xs ys n k e =
    ap (λ (j : ℕ). take j (xs ++ ys)) e ∙ take_parts (length xs) n (xs ++ ys) ∙ rw (take_at xs ys (length xs) refl, drop_at xs ys (length xs) refl) refl

-- one push more of a text that is pushed from its front
pub took_more : (a b c : Option (List ℕ)) (done n : ℕ) (bytes : List ℕ) → Appends a b (take done bytes) → Appends b c (take n (take (length bytes - done) (drop done bytes))) → Appends a c (take (done + n) bytes)
took_more a b c done n bytes before last =
    let all : take (length bytes - done) (drop done bytes) ≡ drop done bytes = take_all (length bytes - done) (drop done bytes) (omega (arith, length-drop done bytes)) in
    rw (take_parts done n bytes) (appends_then a b c (take done bytes) (take n (drop done bytes)) before (subst (λ (t : List ℕ). Appends b c (take n t)) all last))

-- the front of a frame that goes past its kind and length
pub took_header : (a b c : Option (List ℕ)) (header payload : List ℕ) (written : ℕ) → length header ≡ 5 → Appends a b header → Appends b c (take written payload) → Appends a c (take (written + 5) (header ++ payload))
took_header a b c header payload written five first second =
    rw (take_past header payload written (written + 5) (omega (arith, five))) (appends_then a b c header (take written payload) first second)

-- what follows from what holds of the bytes that a source gave holds of them
pub gave_all : (old new : Device) (P Q : List ℕ → Type 0) → GaveAll old new P → ((bytes : List ℕ) → P bytes → Q bytes) → GaveAll old new Q
gave_all old new P Q (given, gives, whole, holds) f = (given, gives, whole, f given holds)

-- and of the bytes that are known
pub known_of : (old new : Device) (P : List ℕ → Type 0) → GaveAll old new P → IfKnown old P
known_of old new P (given, gives, whole, holds) = by_known old.bytes whole.0
  where
    by_known : (o : Option (List ℕ)) → IfSome o (λ w. w ≡ given) → IfSome o P
    by_known None h = tt
    by_known (Some bytes) h = subst P (sym h) holds
