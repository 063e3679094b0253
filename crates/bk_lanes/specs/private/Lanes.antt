-- Eight messages side by side: a vector has one word of each, and lane i belongs to message i.
use Rattle.std.specs.Prelude.{◌≡◌, ◌≢◌, ℕ, ◌+◌, ◌-◌, ◌*◌, ◌/◌, ◌<◌, ◌≤◌, List, [], ◌∷◌, ◌++◌, length, take, drop, slice_index, slice_index_or, map}
use Rattle.std.specs.Option.{option_to_list}
use Rattle.sha2.specs.Sha256.{digest_bytes, hash_after, initial_hash_256, padded_message}
use Rattle.bk_lanes.specs.declared.message.Message.{Message}
use Rattle.bk_lanes.specs.declared.message.Messages.{Messages}
use Rattle.bk_lanes.specs.declared.work.Work.{Work}
use Rattle.bk_lanes.specs.declared.wide.Words.{Words}

-- the vector v has eight lanes, and lane i is f i
abbrev pub IsVector : List ℕ → (ℕ → ℕ) → Type 0
IsVector v f = (length v ≡ 8) × ((i : ℕ) → i < 8 → slice_index v i ≡ f i)

-- lane i of a row of vectors
abbrev pub column : ℕ → List (List ℕ) → List ℕ
column i vs = map (λ v. slice_index v i) vs

-- the eight words of message i
abbrev pub words_of : ℕ → Words → List ℕ
words_of i s =
    slice_index s.a i ∷ slice_index s.b i ∷ slice_index s.c i ∷ slice_index s.d i
    ∷ slice_index s.e i ∷ slice_index s.f i ∷ slice_index s.g i ∷ slice_index s.h i ∷ []

-- the first eight words of a list, which is a hash value
abbrev pub eight_of : List ℕ → List ℕ
eight_of l =
    slice_index l 0 ∷ slice_index l 1 ∷ slice_index l 2 ∷ slice_index l 3
    ∷ slice_index l 4 ∷ slice_index l 5 ∷ slice_index l 6 ∷ slice_index l 7 ∷ []

-- the block of message i
abbrev pub block_of : ℕ → List (List ℕ) → List ℕ
block_of i blocks = slice_index_or blocks i []

-- the blocks of a message of n bytes with its padding
abbrev pub block_count : ℕ → ℕ
block_count n = (n + 72) / 64

-- block k of the bytes m with their padding
abbrev pub padded_block : List ℕ → ℕ → List ℕ
padded_block m k = take 64 (drop (k * 64) (padded_message m))

-- the hash value after n blocks of the bytes m with their padding
abbrev pub hash_at : List ℕ → ℕ → List ℕ
hash_at m n = hash_after initial_hash_256 (padded_message m) n

-- the digest that the hash value after the last block gives
abbrev pub digest_at : List ℕ → List ℕ
digest_at m = digest_bytes (hash_at m (block_count (length m))) 8

-- the bytes of a message: its first byte, where it has one, and the others
abbrev pub bytes_of : Message → List ℕ
bytes_of m = option_to_list m.first ++ m.bytes.now

-- the bytes of message k
abbrev pub message_of : ℕ → Messages → List ℕ
message_of k ms = option_to_list ms.first ++ slice_index_or (map (λ m. m.now) ms.bytes.now) k []

-- the blocks of message k with its padding
abbrev pub blocks_of : ℕ → Messages → ℕ
blocks_of k ms = block_count (length (message_of k ms))

-- the hash value h has taken in all blocks of message k but the last n, and `more`, unless n is 0
abbrev pub IsTaken : Messages → ℕ → ℕ → List ℕ → ℕ → Type 0
IsTaken ms n k h more = 0 < n → (k < length ms.bytes.now)
    × (n ≤ blocks_of k ms)
    × (h ≡ hash_at (message_of k ms) (blocks_of k ms - n + more))

-- lane i, if it is not free, has taken in all blocks of its message but those left, and `more`
abbrev pub HasTaken : Messages → Work → ℕ → ℕ → Type 0
HasTaken ms w i more = IsTaken ms (slice_index w.left i) (slice_index w.index i)
    (words_of i w.state) more

-- lane i, if it is not free, has taken in all blocks of its message but those left
abbrev pub IsWorking : Messages → Work → ℕ → Type 0
IsWorking ms w i = HasTaken ms w i 0

-- of the first n messages, each that no lane works on has its digest in its place
abbrev pub Done : Messages → Work → List (List ℕ) → ℕ → Type 0
Done ms w out n = (k : ℕ) → k < n
    → ((i : ℕ) → i < 8 → 0 < slice_index w.left i → slice_index w.index i ≢ k)
    → slice_index_or out k [] ≡ digest_at (message_of k ms)

-- the block that lane i, which is not free, takes in next
abbrev pub next_block : Messages → Work → ℕ → List ℕ
next_block ms w i =
    let k = slice_index w.index i in padded_block (message_of k ms)
    (blocks_of k ms - slice_index w.left i)
