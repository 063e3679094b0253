-- The members that a mask marks as signers.
use Rattle.std.specs.Prelude.{ℕ, ◌/◌, ◌%◌, ◌==◌, Bool, List, length, filter, slice_index}
use Rattle.std.specs.List.{range_with_len}
use Rattle.std.specs.Int.{bit_at}

-- the mask marks the member: the bit of value 2 ^ (member mod 8) is set in its byte member / 8
abbrev pub is_signer : List ℕ → ℕ → Bool
is_signer mask member = bit_at (slice_index mask (member / 8)) (member % 8) == 1

-- the members 0 to 127 that the mask marks, ascending
unfoldable pub signers_of : List ℕ → List ℕ
signers_of mask = filter (λ member. bit_at (slice_index mask (member / 8)) (member % 8) == 1) (range_with_len 0 128)

-- how many members the mask marks
abbrev pub signer_count : List ℕ → ℕ
signer_count mask = length (signers_of mask)
