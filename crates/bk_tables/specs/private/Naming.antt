-- The first of each digest that certificates name.
use Rattle.std.specs.Prelude.{ℕ, List, [], ◌∷◌, ◌++◌, map, if◌then◌else◌}
use Rattle.std.specs.List.{list_any}
use Rattle.std.specs.Str.{bytes_eq}
use Rattle.bk_cert.specs.Node.{Node}
use Rattle.bk_flatten.specs.Batches as flatten
use Rattle.bk_tables.specs.declared.naming.Named.{Named}
use Rattle.bk_tables.specs.declared.placing.Placed.{Placed}

abbrev pub digests_in : List Named → List (List ℕ)
digests_in list = map (λ (n : Named). n.digest) list

-- one more, unless its digest is there
abbrev pub with_named : List Named → Named → List Named
with_named list n = if list_any (bytes_eq n.digest) (digests_in list) then list else list ++ n ∷ []

-- what a certificate names
abbrev pub named_by : Placed → List (List ℕ) → List Named
named_by by digests = map (λ (d : List ℕ). record { digest = d; by = by }) digests

abbrev pub named_at : List Node → Placed → List Named
named_at held by = named_by by (flatten.named_at held by.cert)
