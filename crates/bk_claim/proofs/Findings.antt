-- What comparing a claim with a report finds.
use Rattle.std.proofs.Common.{◌≡◌, ◌≢◌, ◌∙◌, ◌⊎◌, inl, inr, ℕ, zero, suc, ◌+◌, ◌-◌, ◌<◌, ◌≤◌, Bool, true, false, cond, List, [], ◌∷◌, ◌++◌, length, take, drop, map, ltb, Option, Some, None, refl, sym, ap, subst, arith, append_assoc, append-nil, take-append-drop, length-take, length-drop, length-append}
use Rattle.std.specs.Prelude.{IfSome, MatchOption, slice_get, slice_range, codes}
use Rattle.std.specs.Global.{Vec}
use Rattle.std.specs.Io.KnownBytes.{Consumes, IsAtEnd}
use Rattle.std.specs.List.{after_last, before_first}
use Rattle.std.proofs.Math.Seq.{take-add}
use Rattle.std.proofs.KnownBytes.{Consumes-whole}
use Rattle.std.proofs.lemmas.Bool.{cond-false, cond-true, le-ltb, lt-ltb}
use Rattle.std.proofs.lemmas.List.{drop-take, drop_at, take_all, take_at}
use Rattle.bk_claim.specs.Claims.{GaveEnough, difference, ends_line, line_at, line_number, shown, shown_byte, words_or_end}
use Rattle.bk_claim.specs.declared.comparing.Found.{Found}
use Rattle.bk_claim.specs.private.Finding.{IsFound, found_text, found_words, line_between, line_from}
use Rattle.bk_frames.specs.Device.{Device, Ends, ends_of, Gives, IfKnown, IsWhole}
use Rattle.bk_frames.specs.Pulling.{Gave}
use Rattle.bk_frames.proofs.Devices.{ends_at, ends_by_room, ends_not_at, ends_not_then, ends_not_yet, ends_then, gives_kept, gives_none, gives_then, known_before}
use Rattle.bk_results.specs.Lines.{spaced}

-- ---- what a source gave

-- what a call did that gave so many bytes, where it had room for a piece
abbrev pub Pulled : Device → Device → ℕ → List ℕ → Type 0
Pulled old new count piece =
    Gives old new (take count piece) × (count ≡ 0 → 0 < length piece → IsAtEnd new.bytes) × Ends (ends_of count (length piece)) old new

-- a source that gave something did not end
pub pulled_on : (a b c : Device) (count : ℕ) (piece : List ℕ) → Ends 0 a b → Pulled b c count piece → 0 < length piece → 0 < count → Ends 0 a c
pulled_on a b c count piece before came room some =
    ends_not_then a b c before (ends_not_at count b c (ends_by_room (length piece) count b c came.2 room) some)

-- and where it gives nothing any more, what it gave is all
pub pulled_all : (a b c : Device) (given piece : List ℕ) (count : ℕ) → Gives a b given → Ends 0 a b → Pulled b c count piece → 0 < length piece → count ≡ 0
    → Gives a c given × IsWhole a c given
pulled_all a b c given piece count gave before came room none = (all, (known, ends_then a b c before last))
  where
    all : Gives a c given
    all = gives_kept a b c given gave (subst (Gives b c) (ap (λ (k : ℕ). take k piece) none) came.0)

    known : IfKnown a (λ whole. whole ≡ given)
    known = Consumes-whole a.bytes c.bytes given (λ whole. whole ≡ given) all.known (came.1 none room) refl

    last : Ends 1 b c
    last = ends_at count b c (ends_by_room (length piece) count b c came.2 room) none

-- what a source had is what it gave first and what was left then
pub whole_behind : (a b c : Device) (front given : List ℕ) → Gives a b front → Ends 0 a b → IsWhole b c given → IsWhole a c (front ++ given)
whole_behind a b c front given gave before (known, ends) = (
  known_before a.bytes b.bytes front (λ whole. whole ≡ given) (λ whole. whole ≡ front ++ given) gave.known known (λ rest is. ap (λ (t : List ℕ). front ++ t) is),
  ends_then a b c before ends,
)

-- what follows from it is shown as well
pub enough_then : (a b : Device) (P Q : List ℕ → Type 0) → GaveEnough a b P → ((bytes : List ℕ) → P bytes → Q bytes) → GaveEnough a b Q
enough_then a b P Q (given, gave, shown) f = (given, gave, either shown)
  where
    either : ((IsWhole a b given × P given) ⊎ (Ends 0 a b × ((more : List ℕ) → P (given ++ more)))) → (IsWhole a b given × Q given) ⊎ (Ends 0 a b × ((more : List ℕ) → Q (given ++ more)))
    either (inl (whole, holds)) = inl (whole, f given holds)
    either (inr (on, holds)) = inr (on, λ more. f (given ++ more) (holds more))

-- what is shown holds of the bytes that are known
pub enough_known : (a b : Device) (P : List ℕ → Type 0) → GaveEnough a b P → IfKnown a P
enough_known a b P (given, gave, shown) = either shown
  where
    however : (x y : Option (List ℕ)) → Consumes x y given → ((more : List ℕ) → P (given ++ more)) → IfSome x P
    however None y gives holds = tt
    however (Some bytes) None gives holds = absurd gives
    however (Some bytes) (Some rest) gives holds = subst P (sym gives) (holds rest)

    whole_is : (x : Option (List ℕ)) → IfSome x (λ whole. whole ≡ given) → P given → IfSome x P
    whole_is None is holds = tt
    whole_is (Some bytes) is holds = subst P (sym is) holds

    either : ((IsWhole a b given × P given) ⊎ (Ends 0 a b × ((more : List ℕ) → P (given ++ more)))) → IfKnown a P
    either (inl (whole, holds)) = whole_is a.bytes whole.0 holds
    either (inr (on, holds)) = however a.bytes b.bytes gave.known holds

-- ---- a line that is read on

-- the first bytes of a line are those of its first bytes and the rest
pub take_front : (n : ℕ) (xs ys : List ℕ) → take n (take n xs ++ ys) ≡ take n (xs ++ ys)
take_front zero xs ys = refl
take_front (suc n) [] ys = refl
take_front (suc n) (x ∷ xs) ys = ap (λ (t : List ℕ). x ∷ t) (take_front n xs ys)

-- behind the bytes that were given the line goes on as behind those that were put
abbrev pub Led : List ℕ → List ℕ → List ℕ → Type 0
Led first line given = (more : List ℕ) → line_from first (given ++ more) ≡ line_from line more

pub led_first : (d : Device) (line : List ℕ) → Gave d d (Led line line)
led_first d line = ([], gives_none d, λ more. refl)

-- a piece came, and the line goes on
pub led_on : (a b c : Device) (first line new came : List ℕ) (done : Bool) → Gave a b (Led first line) → Gives b c came
    → ((more : List ℕ) → line_from line (came ++ more) ≡ cond done new (line_from new more)) → done ≡ false → Gave a c (Led first new)
led_on a b c first line new came done (given, gave, leads) next goes on = (
  given ++ came,
  gives_then a b c given came gave next,
  λ more. ap (line_from first) (append_assoc given came more) ∙ leads (came ++ more) ∙ goes more ∙ cond-false done new (line_from new more) on,
)

-- a piece came, and the line is whole: what follows in the claim is no part of it
pub led_whole : (a b c : Device) (first line new came : List ℕ) (done : Bool) → Gave a b (Led first line) → Ends 0 a c → Gives b c came
    → ((more : List ℕ) → line_from line (came ++ more) ≡ cond done new (line_from new more)) → done ≡ true → GaveEnough a c (λ given. new ≡ line_from first given)
led_whole a b c first line new came done (given, gave, leads) on next goes whole = (
  given ++ came,
  gives_then a b c given came gave next,
  inr (on, λ more. sym (ap (line_from first) (append_assoc given came more) ∙ leads (came ++ more) ∙ goes more ∙ cond-true done new (line_from new more) whole)),
)

-- the claim ends, and the line with it
pub led_end : (a b c : Device) (first line piece : List ℕ) (count : ℕ) → Gave a b (Led first line) → Ends 0 a b → Pulled b c count piece → 0 < length piece → count ≡ 0
    → length line ≤ 200 → GaveEnough a c (λ given. line ≡ line_from first given)
led_end a b c first line piece count (given, gave, leads) before came room none short = (given, all.0, inl (all.1, is))
  where
    all : Gives a c given × IsWhole a c given
    all = pulled_all a b c given piece count gave before came room none

    is : line ≡ line_from first given
    is = sym (ap (line_from first) (sym (append-nil given)) ∙ leads [] ∙ ap (take 200) (append-nil line) ∙ take_all 200 line short)

-- ---- a claim's line, of which these bytes came

starts_between : (before begun more : List ℕ) → begun ≡ take 200 (after_last ends_line before) → line_from begun more ≡ line_between before more
starts_between before begun more e =
    ap (λ (t : List ℕ). line_from t more) e ∙ take_front 200 (after_last ends_line before) (before_first ends_line more)

-- the line goes on behind them
pub given_on : (a b : Device) (before came begun put new : List ℕ) (done : Bool) → begun ≡ take 200 (after_last ends_line before)
    → ((more : List ℕ) → line_from begun (came ++ more) ≡ cond done put (line_from put more)) → done ≡ false
    → GaveEnough a b (λ given. new ≡ line_from put given) → GaveEnough a b (λ given. new ≡ line_between before (came ++ given))
given_on a b before came begun put new done e goes on enough =
    enough_then a b (λ given. new ≡ line_from put given) (λ given. new ≡ line_between before (came ++ given)) enough
    (λ given is. is ∙ sym (cond-false done put (line_from put given) on) ∙ sym (goes given) ∙ starts_between before begun (came ++ given) e)

-- or is whole with them
pub given_whole : (d : Device) (before came begun put : List ℕ) (done : Bool) → begun ≡ take 200 (after_last ends_line before)
    → ((more : List ℕ) → line_from begun (came ++ more) ≡ cond done put (line_from put more)) → done ≡ true
    → GaveEnough d d (λ given. put ≡ line_between before (came ++ given))
given_whole d before came begun put done e goes whole =
    ([], gives_none d, inr (ends_not_yet d, λ more. sym (cond-true done put (line_from put more) whole) ∙ sym (goes more) ∙ starts_between before begun (came ++ more) e))

-- ---- the byte where they differ

get_behind : (front back : List ℕ) (n k : ℕ) → length front ≡ n → slice_get (front ++ back) (n + k) ≡ slice_get back k
get_behind [] back n k e = let z : n + k ≡ k = omega (arith, e) in ap (slice_get back) z
get_behind (x ∷ front) back zero k e = absurd (omega (arith, e))
get_behind (x ∷ front) back (suc n) k e =
    let less : length front ≡ n = omega (arith, e) in
    let one : suc n + k ≡ suc (n + k) = omega arith in
    ap (slice_get (x ∷ (front ++ back))) one ∙ get_behind front back n k less

get_within : (xs ys : List ℕ) (k : ℕ) → k < length xs → slice_get (xs ++ ys) k ≡ slice_get xs k
get_within [] ys k low = absurd (omega (arith, low))
get_within (x ∷ xs) ys zero low = refl
get_within (x ∷ xs) ys (suc k) low = let less : k < length xs = omega (arith, low) in get_within xs ys k less

get_dropped : (xs : List ℕ) (n k : ℕ) → slice_get xs (n + k) ≡ slice_get (drop n xs) k
get_dropped xs zero k = let z : 0 + k ≡ k = omega arith in ap (slice_get xs) z
get_dropped [] (suc n) k = refl
get_dropped (x ∷ xs) (suc n) k =
    let one : suc n + k ≡ suc (n + k) = omega arith in ap (slice_get (x ∷ xs)) one ∙ get_dropped xs n k

-- ---- what is found

-- they differ behind the first i bytes of both
found_split : (right claim front tail : List ℕ) (i : ℕ) (line : Vec ℕ) → front ≡ take i right → length front ≡ i → claim ≡ front ++ tail → 0 < length tail
    → slice_get right i ≢ slice_get tail 0 → line.items ≡ line_between front tail → IsFound right claim (record { at = i; line = Some line })
found_split right claim front tail i line alike long split some apart line_is =
    let front_is : take i claim ≡ front = ap (take i) split ∙ take_at front tail i long in
    let back_is : drop i claim ≡ tail = ap (drop i) split ∙ drop_at front tail i long in
    let same : i + 0 ≡ i = omega arith in
    let next : slice_get claim i ≡ slice_get tail 0 =
    ap (λ (c : List ℕ). slice_get c i) split ∙ ap (slice_get (front ++ tail)) (sym same) ∙ get_behind front tail i 0 long in
    let there : i < length claim = omega (arith, ap length split, length-append front tail, long, some) in
    let shows : line_between front tail ≡ take 200 (line_at claim i) =
    ap (λ (t : List ℕ). take 200 (after_last ends_line t ++ before_first ends_line tail)) (sym front_is)
    ∙ ap (λ (t : List ℕ). take 200 (after_last ends_line (take i claim) ++ before_first ends_line t)) (sym back_is) in
    record { differ = (sym alike ∙ sym front_is, λ e. apart (e ∙ next)); line = (there, line_is ∙ shows) }

-- they differ inside of bytes that came, behind bytes that are the same
found_here : (right back came rest claim : List ℕ) (at same : ℕ) (line : Vec ℕ) → at ≤ length right → back ≡ drop at right → claim ≡ take at right ++ (came ++ rest)
    → same ≤ length back → same < length came → take same back ≡ take same came → slice_get back same ≢ slice_get came same
    → line.items ≡ line_between (take (at + same) right) (drop same came ++ rest) → IsFound right claim (record { at = at + same; line = Some line })
found_here right back came rest claim at same line inside is split within low alike apart line_is =
    let fits : length back ≡ length right - at = ap length is ∙ length-drop at right in
    let long : length (take (at + same) right) ≡ at + same = omega (arith, length-take (at + same) right, fits, within, inside) in
    let joined : take (at + same) right ≡ take at right ++ take same came =
    take-add at same right ∙ ap (λ (t : List ℕ). take at right ++ take same t) (sym is) ∙ ap (λ (t : List ℕ). take at right ++ t) alike in
    let whole : came ++ rest ≡ take same came ++ (drop same came ++ rest) =
    ap (λ (t : List ℕ). t ++ rest) (sym (take-append-drop same came)) ∙ append_assoc (take same came) (drop same came) rest in
    let cut : claim ≡ take (at + same) right ++ (drop same came ++ rest) =
    split ∙ ap (λ (t : List ℕ). take at right ++ t) whole ∙ sym (append_assoc (take at right) (take same came) (drop same came ++ rest))
    ∙ ap (λ (t : List ℕ). t ++ (drop same came ++ rest)) (sym joined) in
    let some : 0 < length (drop same came ++ rest) = omega (arith, length-append (drop same came) rest, length-drop same came, low) in
    let first : 0 < length (drop same came) = omega (arith, length-drop same came, low) in
    let none : same + 0 ≡ same = omega arith in
    let theirs : slice_get came same ≡ slice_get (drop same came ++ rest) 0 =
    ap (slice_get came) (sym none) ∙ get_dropped came same 0 ∙ sym (get_within (drop same came) rest 0 first) in
    let ours : slice_get right (at + same) ≡ slice_get back same = get_dropped right at same ∙ ap (λ (t : List ℕ). slice_get t same) (sym is) in
    found_split right claim (take (at + same) right) (drop same came ++ rest) (at + same) line refl long cut some
    (λ e. apart (sym ours ∙ e ∙ sym theirs)) line_is

-- what was given shows this, to its end or however it goes on
pub found_given : (a b c d : Device) (right back piece : List ℕ) (at same count : ℕ) (line : Vec ℕ) → at ≤ length right → back ≡ drop at right
    → Gives a b (take at right) → Ends 0 a b → Pulled b c count piece → 0 < length piece → count ≤ length piece → same ≤ length back → same < count
    → take same back ≡ take same (take count piece) → slice_get back same ≢ slice_get (take count piece) same
    → GaveEnough c d (λ given. line.items ≡ line_between (take (at + same) right) (slice_range piece same count ++ given))
    → GaveEnough a d (λ claim. IsFound right claim (record { at = at + same; line = Some line }))
found_given a b c d right back piece at same count line inside is gave before came room fits within low alike apart (given, rest, shown) =
    (front ++ given, gives_then a c d front given so_far rest, either shown)
  where
    front : List ℕ
    front = take at right ++ take count piece

    so_far : Gives a c front
    so_far = gives_then a b c (take at right) (take count piece) gave came.0

    some : 0 < count
    some = omega (arith, low)

    below : same < length (take count piece)
    below = omega (arith, length-take count piece, fits, low)

    whole_count : count ≡ same + (count - same)
    whole_count = omega (arith, low)

    part : slice_range piece same count ≡ drop same (take count piece)
    part = sym (drop-take same (count - same) piece) ∙ ap (λ (k : ℕ). drop same (take k piece)) (sym whole_count)

    found_with : (claim more : List ℕ) → claim ≡ take at right ++ (take count piece ++ more) → line.items ≡ line_between (take (at + same) right) (slice_range piece same count ++ more)
        → IsFound right claim (record { at = at + same; line = Some line })
    found_with claim more split line_is =
        found_here right back (take count piece) more claim at same line inside is split within below alike apart
        (line_is ∙ ap (λ (t : List ℕ). line_between (take (at + same) right) (t ++ more)) part)

    either : ((IsWhole c d given × (line.items ≡ line_between (take (at + same) right) (slice_range piece same count ++ given)))
        ⊎ (Ends 0 c d × ((more : List ℕ) → line.items ≡ line_between (take (at + same) right) (slice_range piece same count ++ (given ++ more)))))
        → (IsWhole a d (front ++ given) × IsFound right (front ++ given) (record { at = at + same; line = Some line }))
        ⊎ (Ends 0 a d × ((more : List ℕ) → IsFound right ((front ++ given) ++ more) (record { at = at + same; line = Some line })))
    either (inl (whole, line_is)) = inl (
      whole_behind a c d front given so_far (pulled_on a b c count piece before came room some) whole,
      found_with (front ++ given) given (append_assoc (take at right) (take count piece) given) line_is,
    )
    either (inr (on, line_is)) = inr (
      ends_not_then a c d (pulled_on a b c count piece before came room some) on,
      λ more. found_with ((front ++ given) ++ more) (given ++ more)
          (append_assoc front given more ∙ append_assoc (take at right) (take count piece) (given ++ more)) (line_is more),
    )

-- a whole piece came, and all of it is the same
pub piece_is_same : (a b c : Device) (right back piece : List ℕ) (at same count : ℕ) → at ≤ length right → back ≡ drop at right
    → Gives a b (take at right) → Gives b c (take count piece) → count ≤ length piece → same ≤ length back → same ≤ length (take count piece) → count ≤ same
    → take same back ≡ take same (take count piece)
    → (at + same ≤ length right) × Gives a c (take (at + same) right)
piece_is_same a b c right back piece at same count inside is gave came fits within other high alike =
    let behind : length back ≡ length right - at = ap length is ∙ length-drop at right in
    let more : length (take count piece) ≡ count = omega (arith, length-take count piece, fits) in
    let short : length (take count piece) ≤ same = omega (arith, more, high) in
    let next : take (at + same) right ≡ take at right ++ take count piece =
    take-add at same right ∙ ap (λ (t : List ℕ). take at right ++ take same t) (sym is) ∙ ap (λ (t : List ℕ). take at right ++ t) alike
    ∙ ap (λ (t : List ℕ). take at right ++ t) (take_all same (take count piece) short) in
    (omega (arith, within, behind, inside), subst (λ (t : List ℕ). Gives a c t) (sym next) (gives_then a b c (take at right) (take count piece) gave came))

-- the claim ends behind bytes that are the same
pub ends_given : (a b c : Device) (right piece : List ℕ) (at count : ℕ) (found : Option Found) → Gives a b (take at right) → Ends 0 a b → Pulled b c count piece → 0 < length piece → count ≡ 0
    → MatchOption found (take at right ≡ right) (λ f. IsFound right (take at right) f)
    → GaveEnough a c (λ claim. MatchOption found (claim ≡ right) (λ f. IsFound right claim f))
ends_given a b c right piece at count found gave before came room none is =
    let all = pulled_all a b c (take at right) piece count gave before came room none in
    (take at right, all.0, inl (all.1, is))

-- ---- what is shown of it

words_are : (claim : List ℕ) (at : ℕ) (line : Option (Vec ℕ)) → MatchOption line (length claim ≤ at) (λ l. (at < length claim) × (l.items ≡ take 200 (line_at claim at)))
    → found_words line ≡ words_or_end claim at (shown (line_at claim at))
words_are claim at None high = sym (cond-false (ltb at (length claim)) (shown (line_at claim at)) (codes "end") (le-ltb at (length claim) high))
words_are claim at (Some l) (low, is) =
    ap (map shown_byte) is ∙ sym (cond-true (ltb at (length claim)) (shown (line_at claim at)) (codes "end") (lt-ltb at (length claim) low))

pub text_is : (right claim : List ℕ) (found : Found) → IsFound right claim found → found_text right found ≡ difference right claim found.at
text_is right claim found is =
    ap (λ (t : List ℕ). codes "report differs at line" ++ spaced (line_number right found.at) ++ codes "\n"
    ++ codes "feed " ++ words_or_end right found.at (line_at right found.at) ++ codes "\n" ++ codes "claimed " ++ t ++ codes "\n")
    (words_are claim found.at found.line is.line)
