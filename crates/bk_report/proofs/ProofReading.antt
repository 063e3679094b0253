-- Words cut from the text of a proof.
use Rattle.std.proofs.Common.{◌≡◌, ℕ, zero, suc, ◌-◌, ◌<◌, ◌==◌, Bool, true, false, ◌||◌, ltb, List, [], ◌∷◌, ◌++◌, length, get_or, take, drop, Some, None, refl, sym, ap, ◌∙◌, length-drop, subst, arith}
use Rattle.std.specs.Prelude.{is_some, decimal, ◌^◌}
use Rattle.std.specs.List.{list_any, position, AllPass}
use Rattle.std.proofs.lemmas.Bool.{eq-eqb, ne_eqb, ltb-true, ltb-false}
use Rattle.std.proofs.lemmas.List.Quantifiers.{position-Some}
use Rattle.std.proofs.lemmas.List.{take_at, drop_at, take_all}
use Rattle.std.proofs.lemmas.List.Elements.{All-head, All-tail}
use Rattle.std.proofs.lemmas.Fmt.{decimal_is_IsNumeral}
use Rattle.std.specs.Str.Parse.{AllDigits}
use Rattle.std.specs.Char.{digit_value}
use Rattle.hex.specs.Hex.{is_hex_digit, encode_lower}
use Rattle.hex.proofs.HexLemmas.{decode_of-ok, decode_of-encode_lower}
use Rattle.bk_report.specs.Proofs.{IsDigest}
use Rattle.bk_rules.proofs.Places.{position_is}

pub or_none : (a b : Bool) → (a || b) ≡ false → (a ≡ false) × (b ≡ false)
or_none true b e = absurd cc
or_none false b e = (refl, e)

-- before a word's end none of its bytes is the end
none_in : (end : ℕ) (word rest : List ℕ) (k d : ℕ) → list_any (λ (b : ℕ). b == end) word ≡ false → k < length word → (get_or (word ++ rest) k d == end) ≡ false
none_in end [] rest k d e lt = absurd (omega arith)
none_in end (b ∷ word) rest zero d e lt = (or_none (b == end) (list_any (λ (x : ℕ). x == end) word) e).0
none_in end (b ∷ word) rest (suc k) d e lt = none_in end word rest k d (or_none (b == end) (list_any (λ (x : ℕ). x == end) word) e).1 (omega arith)

end_at : (end : ℕ) (word rest : List ℕ) (d : ℕ) → get_or (word ++ end ∷ rest) (length word) d ≡ end
end_at end [] rest d = refl
end_at end (b ∷ word) rest d = end_at end word rest d

has_end : (end : ℕ) (word rest : List ℕ) → list_any (λ (b : ℕ). b == end) (word ++ end ∷ rest) ≡ true
has_end end [] rest = ap (λ (b : Bool). b || list_any (λ (x : ℕ). x == end) rest) (eq-eqb end end refl)
has_end end (b ∷ word) rest = or_true (b == end) (list_any (λ (x : ℕ). x == end) (word ++ end ∷ rest)) (has_end end word rest)
  where
    or_true : (a b : Bool) → b ≡ true → (a || b) ≡ true
    or_true true b e = refl
    or_true false b e = e

-- a text with an end has a first one
pub some_end : (end : ℕ) (word rest text : List ℕ) → text ≡ word ++ end ∷ rest → position (λ (b : ℕ). b == end) text ≡ None → ⊥
some_end end word rest text e none = absurd (cc (sym (has_end end word rest) ∙ ap (list_any (λ (b : ℕ). b == end)) (sym e) ∙ sym (position_is (λ (b : ℕ). b == end) text) ∙ ap is_some none))

-- the first end in a text is the one after the word
pub first_end : (end : ℕ) (word rest text : List ℕ) (place : ℕ) → text ≡ word ++ end ∷ rest → list_any (λ (b : ℕ). b == end) word ≡ false → position (λ (b : ℕ). b == end) text ≡ Some place → place ≡ length word
first_end end word rest text place e none found =
    let at = position-Some (λ (b : ℕ). b == end) (word ++ end ∷ rest) place 0 (ap (position (λ (b : ℕ). b == end)) (sym e) ∙ found) in
    by_order (ltb place (length word)) (ltb (length word) place) refl refl at.1 at.2
  where
    by_order : (b c : Bool) → ltb place (length word) ≡ b → ltb (length word) place ≡ c → (get_or (word ++ end ∷ rest) place 0 == end) ≡ true → ((k : ℕ) → k < place → (get_or (word ++ end ∷ rest) k 0 == end) ≡ false) → place ≡ length word
    by_order true c low high here before = absurd (cc (sym here ∙ none_in end word (end ∷ rest) place 0 none (ltb-true _ _ low)))
    by_order false true low high here before = absurd (cc (sym (before (length word) (ltb-true _ _ high)) ∙ eq-eqb _ _ (end_at end word rest 0)))
    by_order false false low high here before = omega (arith, ltb-false _ _ low, ltb-false _ _ high)

-- the word and what is after its end
pub cut_there : (end : ℕ) (word rest text : List ℕ) (place : ℕ) → text ≡ word ++ end ∷ rest → place ≡ length word → (take place text ≡ word) × (drop 1 (drop place text) ≡ rest)
cut_there end word rest text place e at =
    (ap (take place) e ∙ take_at word (end ∷ rest) place (sym at), ap (λ (t : List ℕ). drop 1 (drop place t)) e ∙ ap (drop 1) (drop_at word (end ∷ rest) place (sym at)))

-- a slice to the end of a text
pub rest_of : (t : List ℕ) (n : ℕ) → take (length t - n) (drop n t) ≡ drop n t
rest_of t n = take_all (length t - n) (drop n t) (omega (arith, length-drop n t))

pub after_word : (text word rest : List ℕ) → text ≡ word ++ rest → take (length text - length word) (drop (length word) text) ≡ rest
after_word text word rest e = rest_of text (length word) ∙ ap (drop (length word)) e ∙ drop_at word rest (length word) refl

-- ---- what the words of a proof do not contain

digits_free : (end : ℕ) → (digit_value end < 10 → ⊥) → (ds : List ℕ) → AllDigits 10 ds → list_any (λ (b : ℕ). b == end) ds ≡ false
digits_free end none [] all = refl
digits_free end none (c ∷ ds) all =
    let apart : (c == end) ≡ false = ne_eqb c end (λ e. none (subst (λ (x : ℕ). digit_value x < 10) e all.0)) in
    rw apart (digits_free end none ds all.1)

no_digit-10 : digit_value 10 < 10 → ⊥
no_digit-10 h = omega arith

no_digit-32 : digit_value 32 < 10 → ⊥
no_digit-32 h = omega arith

pub decimal_free-10 : (n : ℕ) → n < 2 ^ 64 → list_any (λ (b : ℕ). b == 10) (decimal n) ≡ false
decimal_free-10 n fits = digits_free 10 no_digit-10 (decimal n) (decimal_is_IsNumeral n fits).0.1

pub decimal_free-32 : (n : ℕ) → n < 2 ^ 64 → list_any (λ (b : ℕ). b == 32) (decimal n) ≡ false
decimal_free-32 n fits = digits_free 32 no_digit-32 (decimal n) (decimal_is_IsNumeral n fits).0.1

hex_free : (ds : List ℕ) → AllPass is_hex_digit ds → list_any (λ (b : ℕ). b == 10) ds ≡ false
hex_free [] all = refl
hex_free (c ∷ ds) all =
    let apart : (c == 10) ≡ false = ne_eqb c 10 (λ e. absurd (cc (sym (All-head (λ (x : ℕ). is_hex_digit x ≡ true) c ds all) ∙ ap is_hex_digit e))) in
    rw apart (hex_free ds (All-tail (λ (x : ℕ). is_hex_digit x ≡ true) c ds all))

pub digest_free : (d : List ℕ) → IsDigest d → list_any (λ (b : ℕ). b == 10) (encode_lower d) ≡ false
digest_free d good = hex_free (encode_lower d) (decode_of-ok (encode_lower d) d (decode_of-encode_lower d good.bytes)).1
