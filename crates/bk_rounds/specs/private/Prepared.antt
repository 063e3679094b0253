-- What is ready before a certificate is added.
use Rattle.std.specs.Prelude.{◌≡◌, ℕ, ◌<◌, ◌≤◌, false, [], Contains, All, length, map, vec_capacity}
use Rattle.bk_cert.specs.Node.{Node}
use Rattle.bk_rounds.specs.declared.buffers.Buffers.{Buffers}
use Rattle.bk_rounds.specs.declared.names.Names.{Names}
use Rattle.bk_rounds.specs.declared.preparing.Prepared.{Prepared}
use Rattle.bk_rounds.specs.private.Numbered.{id_of, row_of, is_marked}

-- nothing is in the buffers, and this many fit in each
pub record AreClearFor (b : Buffers) (most : ℕ) : Type 0 where
  pub none : b.out.items ≡ []
  pub room : most ≤ vec_capacity b.out
  pub empty : b.places.items ≡ []
  pub wide : most ≤ vec_capacity b.places

-- the numbers are those of the certificate's ids, it waits where it has to, and what becomes admitted has room
pub record IsPrepared (n : Names) (b : Buffers) (c : Node) (p : Prepared) : Type 0 where
  pub inside : p.number < length n.slots
  pub id : id_of n.slots p.number ≡ c.id
  pub parents : map (id_of n.slots) p.parents.items ≡ c.header.parents
  pub low : All (λ q. q < length n.slots) p.parents.items
  pub waits : (q : ℕ) → Contains p.parents.items q → is_marked n.marks.items q ≡ false
      → Contains (row_of n.pending q) p.number
  pub clear : AreClearFor b n.unmarked
