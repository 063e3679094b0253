-- Slices that one thread hands to another.
use Rattle.std.specs.Prelude.{◌≡◌, ℕ, List, [], ◌∷◌, length, map}
use Rattle.std.specs.List.{sum_by}
use Rattle.bk_ledger.specs.declared.reading.Handed.{Handed}
use Rattle.rtrb.specs.Ring.{received}
use Rattle.bk_base.specs.declared.version.Version.{Version}
use Rattle.bk_rules.specs.Ops.{AreOps}
use Rattle.bk_ledger.specs.declared.looking.Looked.{Looked}
use Rattle.bk_ledger.specs.declared.looking.Turns.{Turns}
use Rattle.bk_ledger.specs.declared.planning.Planned.{Planned}
use Rattle.bk_ledger.specs.private.Slices.{IsNextOf, IsReadOf, counts_of}

-- how many batches were handed on
abbrev pub end_of : List Handed → ℕ
end_of items = sum_by (λ (h : Handed). length h.read.counts.items) items

-- the batches of which a slice is one
abbrev pub batches_of : Handed → List (List ℕ)
batches_of h = map (λ p. p.now) h.payloads.now

-- what may follow: the next slice of the batches that the first one names
abbrev pub follows : List Handed → Handed → Type 0
follows [] h = Unit {0}
follows (first ∷ rest) h = IsReadOf (batches_of first) (end_of (first ∷ rest)) h.read.counts.items h.read.txs.items

-- what was handed on are slices of these batches, up to an index
pub record AreHanded (payloads : List (List ℕ)) (at : ℕ) (items : List Handed) : Type 0 where
  pub first : Handed
  pub rest : List Handed
  pub split : items ≡ first ∷ rest
  pub batches : batches_of first ≡ payloads
  pub ends : end_of items ≡ at

-- ---- slices that are looked up

-- a slice of these batches, which begins where it says, with the ops of its transactions over these slots
pub record IsLooked (payloads : List (List ℕ)) (slots : List ℕ) (l : Looked) : Type 0 where
  pub read : IsReadOf payloads l.from l.read.counts.items l.read.txs.items
  pub ops : AreOps slots l.read.txs.items l.ops.items

-- what may follow: any slice of the batches that the first one names, looked up among its slots
abbrev pub may_be_looked : List Looked → Looked → Type 0
may_be_looked [] l = Unit {0}
may_be_looked (first ∷ rest) l = IsLooked (map (λ p. p.now) first.payloads.now) first.ids.now l

-- what was handed on are slices of these batches, looked up among these slots
pub record AreLooked (payloads : List (List ℕ)) (slots : List ℕ) (items : List Looked) : Type 0 where
  pub first : Looked
  pub rest : List Looked
  pub split : items ≡ first ∷ rest
  pub batches : map (λ p. p.now) first.payloads.now ≡ payloads
  pub slots_are : first.ids.now ≡ slots

-- what was taken from each of three threads are such slices
pub record AreTurns (payloads : List (List ℕ)) (slots : List ℕ) (t : Turns) : Type 0 where
  pub first : AreLooked payloads slots (received t.first.taker)
  pub second : AreLooked payloads slots (received t.second.taker)
  pub third : AreLooked payloads slots (received t.third.taker)

-- ---- slices that are planned

-- how many batches were handed on
abbrev pub planned_end : List Planned → ℕ
planned_end items = sum_by (λ (p : Planned). length (counts_of p.next)) items

-- the batches of which a planned slice is one
abbrev pub planned_of : Planned → List (List ℕ)
planned_of p = map (λ q. q.now) p.payloads.now

-- what may follow: the next slice of the batches that the first one names, planned by its rules and over its slots, or as it was read
abbrev pub follows_planned : List Planned → Planned → Type 0
follows_planned [] p = Unit {0}
follows_planned (first ∷ rest) p =
    IsNextOf (planned_of first) (planned_end (first ∷ rest)) first.version first.ids.now p.next

-- what was handed on are slices of these batches, up to an index, by these rules and over these slots
pub record ArePlanned (payloads : List (List ℕ)) (version : Version) (slots : List ℕ) (at : ℕ) (items : List Planned) : Type 0 where
  pub first : Planned
  pub rest : List Planned
  pub split : items ≡ first ∷ rest
  pub batches : planned_of first ≡ payloads
  pub version_is : first.version ≡ version
  pub slots_are : first.ids.now ≡ slots
  pub ends : planned_end items ≡ at
