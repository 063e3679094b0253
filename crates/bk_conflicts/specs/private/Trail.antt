-- What is known of each account after some places: its last writer, and its readers since.
use Rattle.std.specs.Prelude.{◌≡◌, ◌≢◌, ℕ, zero, suc, ◌-◌, ◌<◌, ◌≤◌, ◌==◌, List, [], ◌∷◌, ◌++◌, length, slice_index_or, Bool, true, false, cond, flat_map}
use Rattle.std.specs.List.{list_any}
use Rattle.bk_conflicts.specs.declared.words.Access.{Access}
use Rattle.bk_conflicts.specs.declared.trail.Reader.{Reader}
use Rattle.bk_conflicts.specs.declared.trail.Trail.{Trail}
use Rattle.bk_conflicts.specs.private.Accesses.{Places, uses, writes, uses_in, writes_in}

-- the mark of a slot that nobody has written
abbrev pub none : ℕ
none = 4294967295

-- whether p is in the list
unfoldable pub has : ℕ → List ℕ → Bool
has p xs = list_any (λ x. x == p) xs

-- the last place below k that writes a, as a list of at most one
unfoldable pub last_writer : Places → ℕ → ℕ → List ℕ
last_writer t a zero = []
last_writer t a (suc k) = cond (writes t a k) (k ∷ []) (last_writer t a k)

-- the places below k that have read a since it was last written, newest first
unfoldable pub readers : Places → ℕ → ℕ → List ℕ
readers t a zero = []
readers t a (suc k) = cond (writes t a k) [] (cond (uses t a k) (k ∷ readers t a k) (readers t a k))

-- a writer waits for the readers since the last writer; where there are none, and where it reads, for the last writer
abbrev pub sources_of : Bool → List ℕ → List ℕ → List ℕ
sources_of false rs ws = ws
sources_of true [] ws = ws
sources_of true (r ∷ rs) ws = r ∷ rs

-- what place q waits for on the slots of xs, a place once for each slot
unfoldable pub gathered : Places → ℕ → List Access → List ℕ
gathered t q xs = flat_map (λ x. sources_of x.writable (readers t x.slot q) (last_writer t x.slot q)) xs

-- x at the end, where it is not there
abbrev pub with_once : List ℕ → ℕ → List ℕ
with_once xs x = cond (has x xs) xs (xs ++ x ∷ [])

-- each of ys once
unfoldable pub all_once : List ℕ → List ℕ → List ℕ
all_once xs [] = xs
all_once xs (y ∷ ys) = all_once (with_once xs y) ys

-- the direct predecessors of place q
abbrev pub direct : Places → ℕ → List ℕ
direct t q = all_once [] (gathered t q (t q))

-- no reader
abbrev pub no_reader : Reader
no_reader = record { place = 0; writer = 0; prev = 0 }

-- the entry of the newest reader of a slot since its last writer, or 0
abbrev pub newest_by : ℕ → ℕ
newest_by last = last - none

-- the last writer of a slot, or none
unfoldable pub writer_by : List Reader → ℕ → ℕ
writer_by readers last = cond (newest_by last == 0) last (slice_index_or readers (newest_by last) no_reader).writer

-- the list of places that begins at entry h, where entry 0 is nobody
unfoldable pub Linked : List Reader → ℕ → List ℕ → Type 0
Linked readers h [] = h ≡ 0
Linked readers h (p ∷ ps) = (0 < h) × (h < length readers) × ((slice_index_or readers h no_reader).place ≡ p) × Linked readers (slice_index_or readers h no_reader).prev ps

-- each entry leads to an earlier one
pub record IsLinks (places : ℕ) (readers : List Reader) : Type 0 where
  pub some : 0 < length readers
  pub back : (i : ℕ) → 0 < i → i < length readers → (slice_index_or readers i no_reader).prev < i
  pub low : (i : ℕ) → 0 < i → i < length readers → (slice_index_or readers i no_reader).place < places

-- what the lists of a trail may hold
pub record AreTraces (slots places : ℕ) (last : List ℕ) (readers : List Reader) : Type 0 where
  pub many : length last ≡ slots
  pub links : IsLinks places readers
  pub heads : (a : ℕ) → a < slots → newest_by (slice_index_or last a 0) < length readers
  pub wrote : (a : ℕ) → a < slots → writer_by readers (slice_index_or last a 0) ≢ none → writer_by readers (slice_index_or last a 0) < places

-- the same of a trail
abbrev pub IsTrail : ℕ → ℕ → Trail → Type 0
IsTrail slots places r = AreTraces slots places r.last.items r.readers.items

-- this writer, of which there is at most one, is kept as w
abbrev pub WriterIs : ℕ → List ℕ → Type 0
WriterIs w [] = w ≡ none
WriterIs w (x ∷ xs) = (w ≡ x) × (w ≢ none) × (xs ≡ [])

-- what is kept of a slot says that it had these readers and this writer
pub record IsTrace (readers : List Reader) (last : ℕ) (rs ws : List ℕ) : Type 0 where
  pub within : newest_by last < length readers
  pub linked : Linked readers (newest_by last) rs
  pub writer : WriterIs (writer_by readers last) ws

-- the trail shows, of account a, these readers and this writer
abbrev pub Shows : Trail → ℕ → List ℕ → List ℕ → Type 0
Shows r a rs ws = IsTrace r.readers.items (slice_index_or r.last.items a 0) rs ws

-- the stamps say what was found: whose stamp is the mark
pub record IsMarked (mark : ℕ) (stamp found : List ℕ) : Type 0 where
  pub marks : (p : ℕ) → p < length stamp → (slice_index_or stamp p 0 == mark) ≡ has p found
  pub low : (p : ℕ) → p < length stamp → slice_index_or stamp p 0 ≤ mark

-- what was found is at the end of a list, after what was there before, and the stamps say it
pub record IsRow (mark : ℕ) (before row stamp found : List ℕ) : Type 0 where
  pub lies : found ≡ before ++ row
  pub marked : IsMarked mark stamp row

-- the trail shows what the first k places did to each account
abbrev pub Stands : Places → ℕ → Trail → Type 0
Stands t k r = (a : ℕ) → a < length r.last.items → Shows r a (readers t a k) (last_writer t a k)

-- the same, where of place q the accesses xs are entered
abbrev pub readers_in : Places → ℕ → List Access → ℕ → List ℕ
readers_in t q xs a = cond (writes_in xs a) [] (cond (uses_in xs a) (q ∷ readers t a q) (readers t a q))

-- the same for the last that may write it
abbrev pub writer_in : Places → ℕ → List Access → ℕ → List ℕ
writer_in t q xs a = cond (writes_in xs a) (q ∷ []) (last_writer t a q)
