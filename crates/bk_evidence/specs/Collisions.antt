-- Collisions: one name, an id or a digest, under which two different entries are held.
use Rattle.std.specs.Prelude.{◌≡◌, ◌≢◌, ℕ, List, Contains}
use Rattle.std.specs.Ordering.{nat_cmp}
use Rattle.std.specs.Cmp.Lexicographic.{slice_cmp}
use Rattle.std.specs.declared.cmp.Ordering.{Ordering}
use Rattle.std.specs.declared.cmp.Ordering.TheVariants.{Less, Greater}

-- ids and digests are in the order of their bytes
abbrev pub id_cmp : List ℕ → List ℕ → Ordering
id_cmp = slice_cmp nat_cmp

-- the one is before the other
abbrev pub IsBelow : List ℕ → List ℕ → Type 0
IsBelow x y = id_cmp x y ≡ Less

-- the one is before the other, or they are the same
abbrev pub IsAtMost : List ℕ → List ℕ → Type 0
IsAtMost x y = id_cmp x y ≢ Greater

module _ {E : Type 0} (name : E → List ℕ) where
  -- two different entries that are held have this name
  pub record CollidesBy (held : List E) (id : List ℕ) : Type 0 where
    pub one : E
    pub other : E
    pub has_one : Contains held one
    pub has_other : Contains held other
    pub names_one : name one ≡ id
    pub names_other : name other ≡ id
    pub apart : one ≢ other

  -- the least name that two different entries have
  pub record IsCollisionBy (held : List E) (id : List ℕ) : Type 0 where
    pub collides : CollidesBy held id
    pub least : (other : List ℕ) → CollidesBy held other → IsAtMost id other

  -- one name is of one entry
  abbrev pub NoCollisionBy : List E → Type 0
  NoCollisionBy held =
      (c d : E) → Contains held c → Contains held d → name c ≡ name d → c ≡ d
