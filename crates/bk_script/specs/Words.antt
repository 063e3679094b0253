-- The words of a script: how a line is cut into them, and which words are numbers, names, digests, lists and bytes.
use Rattle.std.specs.Prelude.{ℕ, Bool, List, [], ◌∷◌, ◌++◌, ◌^◌, length, slice_index, nat_le, nat_lt, ◌==◌, ◌&&◌, ◌||◌, not, if◌then◌else◌, Result, Ok, Err, Option, None, codes}
use Rattle.std.specs.List.{list_all}
use Rattle.std.specs.Result.{result_ok}
use Rattle.std.specs.Str.{bytes_eq}
use Rattle.std.specs.Str.Parse.{digits_value}
use Rattle.hex.specs.Hex.{decode_of, decode_sized}
use Rattle.bk_digest.specs.Digest.{is_lower_hex}
use Rattle.bk_results.specs.declared.script_fault.ScriptCode.{ScriptCode}
use Rattle.bk_results.specs.declared.script_fault.ScriptCode.TheVariants as code
use Rattle.bk_script.specs.Codes.{◌>>=◌}

-- what was read, or else this fault
abbrev pub unwrap_or_fault : {A E : Type 0} → ScriptCode → Result A E → Result A ScriptCode
unwrap_or_fault found (Ok value) = Ok value
unwrap_or_fault found (Err e) = Err found

-- ---- cutting

-- the pieces of a text between separators, after a front that belongs to the first of them
unfoldable pub pieces_after : ℕ → List ℕ → List ℕ → List (List ℕ)
pieces_after separator front [] = front ∷ []
pieces_after separator front (c ∷ text) =
    if c == separator then front ∷ pieces_after separator [] text else pieces_after separator (front ++ c ∷ []) text

-- the pieces of a text between separators: one more than it has separators
abbrev pub pieces : ℕ → List ℕ → List (List ℕ)
pieces separator text = pieces_after separator [] text

-- ---- numbers and names

-- a decimal digit
abbrev pub is_digit : ℕ → Bool
is_digit c = nat_le 48 c && nat_le c 57

-- a lower-case letter
abbrev pub is_letter : ℕ → Bool
is_letter c = nat_le 97 c && nat_le c 122

-- one digit or more, and no leading zero but in `0` itself
abbrev pub is_numeral : List ℕ → Bool
is_numeral word = list_all is_digit word && nat_lt 0 (length word) && (length word == 1 || not (slice_index word 0 == 48))

-- the number that a word writes, below 2^64
unfoldable pub number_of : List ℕ → Result ℕ ScriptCode
number_of word =
    if is_numeral word && nat_lt (digits_value 10 word) (2 ^ 64) then Ok (digits_value 10 word) else Err code.Number

-- a letter, and then at most 31 letters or digits
unfoldable pub is_name : List ℕ → Bool
is_name word =
    nat_lt 0 (length word) && nat_le (length word) 32 && is_letter (slice_index word 0)
    && list_all (λ c. is_letter c || is_digit c) word

-- ---- lists, digests and bytes

-- no piece is empty
abbrev pub are_filled : List (List ℕ) → Bool
are_filled items = list_all (λ item. not (length item == 0)) items

-- the items of a list, joined by commas: none where the word is `-`; an empty item makes it no list
unfoldable pub list_of : List ℕ → Result (List (List ℕ)) ScriptCode
list_of word =
    if bytes_eq word (codes "-") then Ok []
    else (let items = pieces 44 word in if are_filled items then Ok items else Err code.Number)

-- what each word says, where each says something; else the first fault
unfoldable pub each_of : {A : Type 0} → (List ℕ → Result A ScriptCode) → List (List ℕ) → Result (List A) ScriptCode
each_of read [] = Ok []
each_of read (word ∷ words) = do
  first ← read word
  others ← each_of read words
  Ok (first ∷ others)

-- the numbers that words write
abbrev pub numbers_of : List (List ℕ) → Result (List ℕ) ScriptCode
numbers_of words = each_of number_of words

-- the bytes that pairs of hexadecimal digits write, `-` being none
unfoldable pub hex_of : List ℕ → Result (List ℕ) ScriptCode
hex_of word =
    if bytes_eq word (codes "-") then Ok []
    else (if list_all is_lower_hex word then unwrap_or_fault code.Number (decode_of word) else Err code.Number)

-- 64 hexadecimal digits
abbrev pub is_digest : List ℕ → Bool
is_digest word = length word == 64 && list_all is_lower_hex word

-- the digest that a word writes
unfoldable pub digest_of : List ℕ → Option (List ℕ)
digest_of word = if is_digest word then result_ok (decode_sized word 32) else None
