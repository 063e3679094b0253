-- Numbers, runs of bytes and lists at the front of bytes.
use Rattle.std.specs.Prelude.{ℕ, zero, suc, ◌<◌, slice_index, Bool, true, List, [], ◌∷◌, length, take, drop, Option, Some, None, option_and_then, nat_lt, ◌&&◌, if◌then◌else◌}
use Rattle.std.specs.Int.{Width, byte_len, from_be_bytes}

-- bytes, as a program has them
abbrev pub IsBytes : List ℕ → Type 0
IsBytes bytes = (i : ℕ) → slice_index bytes i < 256

-- one step of reading after another: nothing where a step finds nothing
infixl 10 ◌>>=◌
abbrev pub ◌>>=◌ : {A B : Type 0} → Option A → (A → Option B) → Option B
o >>= f = option_and_then f o

-- this many bytes at the front, and the bytes after them
abbrev pub bytes_at : ℕ → List ℕ → Option (List ℕ × List ℕ)
bytes_at n bytes = if nat_lt (length bytes) n then None else Some (take n bytes, drop n bytes)

-- a big-endian number of this width at the front, and the bytes after it
abbrev pub number_at : Width → List ℕ → Option (ℕ × List ℕ)
number_at w bytes = if nat_lt (length bytes) (byte_len w) then None else Some (from_be_bytes w (take (byte_len w) bytes), drop (byte_len w) bytes)

-- n items at the front, each as `item` finds it, and the bytes after them
unfoldable pub list_at : {A : Type 0} → (List ℕ → Option (A × List ℕ)) → ℕ → List ℕ → Option (List A × List ℕ)
list_at item zero bytes = Some ([], bytes)
list_at item (suc n) bytes = do
  first ← item bytes
  others ← list_at item n first.1
  Some (first.0 ∷ others.0, others.1)

-- each number is below the one after it
abbrev pub is_ascending : List ℕ → Bool
is_ascending [] = true
is_ascending (x ∷ []) = true
is_ascending (x ∷ y ∷ more) = nat_lt x y && is_ascending (y ∷ more)
