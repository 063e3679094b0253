-- What holds of every course that allowed events lead to.
use Rattle.std.specs.Prelude.{◌≡◌, ℕ, ◌<◌, ◌≤◌, List, [], ◌∷◌, true}
use Rattle.bk_conflicts.specs.Scene.{Scene, status_at, moved_at}
use Rattle.bk_steps.specs.Course.{Course, Phase, waiting, held, done, Hand, free, busy, Has, IsDone, IsSettled}

-- the hand wrote the word
abbrev pub Wrote : Hand → ℕ → Type 0
Wrote free x = ⊥
Wrote (busy p rs ws) x = Has ws x

-- a place of this phase has written the word
abbrev pub IsWrittenIn : (ℕ → Hand) → ℕ → Phase → Type 0
IsWrittenIn hand x waiting = ⊥
IsWrittenIn hand x (held w) = Wrote (hand w) x
IsWrittenIn hand x (done st mv) = Unit {0}

-- the place q has written the word x
abbrev pub IsWritten : Course → ℕ → ℕ → Type 0
IsWritten d q x = IsWrittenIn d.hand x (d.phase q)

-- the writers of the word x that have written it are those below p
pub record IsBoundary (s : Scene) (d : Course) (p x : ℕ) : Type 0 where
  pub below : (q : ℕ) → q < p → s.writes q x ≡ true → IsWritten d q x
  pub above : (q : ℕ) → p ≤ q → s.writes q x ≡ true → ¬ IsWritten d q x

-- each value that was read is that of the fold before p
abbrev pub AreOfFold : Scene → ℕ → List (ℕ × ℕ) → Type 0
AreOfFold s p [] = Unit {0}
AreOfFold s p (r ∷ rs) = (r.1 ≡ s.fold p r.0) × AreOfFold s p rs

-- receipts are the fold's; a place is held by one worker and a worker holds one place; what waits
-- no more has every earlier place in conflict done; a word is the fold's at each boundary
pub record IsKept (s : Scene) (d : Course) : Type 0 where
  pub receipts : (p st mv : ℕ) → d.phase p ≡ done st mv → (st ≡ status_at s p) × (mv ≡ moved_at s p)
  pub holds : (w p : ℕ) (rs : List (ℕ × ℕ)) (ws : List ℕ) → d.hand w ≡ busy p rs ws
      → (d.phase p ≡ held w) × (p < s.places)
  pub holder : (w p : ℕ) → d.phase p ≡ held w
      → (rs : List (ℕ × ℕ)) × (ws : List ℕ) × (d.hand w ≡ busy p rs ws)
  pub earlier : (p q : ℕ) → q < p → s.clash q p ≡ true → IsSettled (d.phase p) → IsDone (d.phase q)
  pub values : (p x : ℕ) → IsBoundary s d p x → d.value x ≡ s.fold p x
  pub reads : (w p : ℕ) (rs : List (ℕ × ℕ)) (ws : List ℕ) → d.hand w ≡ busy p rs ws
      → AreOfFold s p rs

-- the course has the words and the receipts of the places one at a time
pub record IsFold (s : Scene) (d : Course) : Type 0 where
  pub values : (x : ℕ) → d.value x ≡ s.fold s.places x
  pub receipts : (p : ℕ) → p < s.places → d.phase p ≡ done (status_at s p) (moved_at s p)
