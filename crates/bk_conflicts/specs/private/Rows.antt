-- Rows that lie in one list, one after the other, and rows turned round.
use Rattle.std.specs.Prelude.{◌≡◌, ℕ, zero, suc, ◌+◌, ◌-◌, ◌<◌, ◌≤◌, List, [], ◌++◌, length, replicate, slice_range, slice_index_or}
use Rattle.bk_conflicts.specs.Scene.{times}

-- the first n rows, one after the other
unfoldable pub laid : {A : Type 0} → (ℕ → List A) → ℕ → List A
laid f zero = []
laid f (suc n) = laid f n ++ f n

-- `items` is n rows, one after the other; row q goes from `start` at q to `start` at q + 1
pub record IsRows {A : Type 0} (f : ℕ → List A) (n : ℕ) (start : List ℕ) (items : List A) : Type 0 where
  pub long : length start ≡ suc n
  pub starts : (q : ℕ) → q ≤ n → slice_index_or start q 0 ≡ length (laid f q)
  pub all : items ≡ laid f n

-- row q
abbrev pub row_at : {A : Type 0} → List ℕ → List A → ℕ → List A
row_at start items q = slice_range items (slice_index_or start q 0) (slice_index_or start (q + 1) 0)

-- the rows turned round: q is in row p as often as p was in row q
unfoldable pub turned : (ℕ → List ℕ) → ℕ → ℕ → List ℕ
turned f zero p = []
turned f (suc q) p = turned f q p ++ replicate (times p (f q)) q

-- the same of all rows that lie in these lists
abbrev pub turned_rows : List ℕ → List ℕ → ℕ → List ℕ
turned_rows start items = turned (row_at start items) (length start - 1)

-- how often each number is in the list, below their number
abbrev pub AreCounts : List ℕ → List ℕ → Type 0
AreCounts counts items = (p : ℕ) → p < length counts → slice_index_or counts p 0 ≡ times p items
