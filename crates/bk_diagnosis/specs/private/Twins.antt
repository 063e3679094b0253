-- Certificates by place and id, and the lines of the places that have several ids.
use Rattle.std.specs.Prelude.{◌==◌, ◌&&◌, ◌↔◌, Bool, cond, List, [], ◌∷◌, Option, Some, None, Contains}
use Rattle.std.specs.List.Sorted.{IsStrictlySortedBy}
use Rattle.std.specs.Ordering.{ordering_then}
use Rattle.std.specs.declared.cmp.Ordering.{Ordering}
use Rattle.bk_cert.specs.Node.{Node}
use Rattle.bk_cert.specs.Place.{place_of, place_cmp}
use Rattle.bk_evidence.specs.Collisions.{id_cmp}
use Rattle.bk_diagnosis.specs.declared.line.Line.{Line}
use Rattle.bk_diagnosis.specs.declared.twins.Named.{Named}
use Rattle.bk_diagnosis.specs.Evidence.{twins_line}

-- the place and the id of a certificate
abbrev pub named_of : Node → Named
named_of c = record { place = place_of c; id = c.id }

-- by place, and then by id
abbrev pub named_cmp : Named → Named → Ordering
named_cmp a b = ordering_then (place_cmp a.place b.place) (id_cmp a.id b.id)

-- both are of one place
abbrev pub is_twin : Named → Named → Bool
is_twin a b = (a.place.round == b.place.round) && (a.place.author == b.place.author)

-- these are in order, each once, and are exactly those
pub record ListsNamed (listed all : List Named) : Type 0 where
  pub ascending : IsStrictlySortedBy named_cmp listed
  pub exact : (n : Named) → Contains listed n ↔ Contains all n

-- the lines of those that follow, where this is the first of its place so far
abbrev pub lines_after : Option Named → List Named → List Line
lines_after first [] = []
lines_after None (n ∷ more) = lines_after (Some n) more
lines_after (Some f) (n ∷ more) =
    cond (is_twin f n) (twins_line f.place f.id n.id ∷ lines_after (Some f) more) (lines_after (Some n) more)
