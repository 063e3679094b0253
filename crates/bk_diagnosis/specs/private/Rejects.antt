-- What is rejected, by id.
use Rattle.std.specs.Prelude.{◌≡◌, ℕ, Bool, false, List, Option, Some, None}
use Rattle.std.specs.BTreeMap.{BTreeMap, get}
use Rattle.std.specs.List.{find}
use Rattle.std.specs.Ordering.{is_eq}
use Rattle.bk_evidence.specs.Collisions.{id_cmp}
use Rattle.bk_order.specs.declared.reject.Reject.{Reject}

-- it is this id
abbrev pub is_id : List ℕ → Option (List ℕ) → Bool
is_id id None = false
is_id id (Some own) = is_eq (id_cmp own id)

-- it has this id
abbrev pub has_id : List ℕ → Reject → Bool
has_id id r = is_id id r.id

-- under each id the first of these that has it
abbrev pub AreFirsts : List Reject → BTreeMap (List ℕ) Reject → Type 0
AreFirsts rejects firsts = (id : List ℕ) → get id_cmp firsts id ≡ find (has_id id) rejects
