-- What is kept beside what is held.
use Rattle.std.specs.Prelude.{◌≡◌, ℕ, ◌+◌, ◌<◌, ◌^◌, length, List, Option, ◌++◌, reverse, take}
use Rattle.bk_committee.specs.Payload.{CommitteeValue, sizes_of}
use Rattle.bk_committee.specs.Sizes.{Sizes}
use Rattle.bk_cert.specs.Node.{Node}
use Rattle.bk_cert.specs.Clear.{IsClear}
use Rattle.bk_cert.specs.declared.place.CertRef.{CertRef}
use Rattle.bk_rounds.specs.Rounds.{RoundsValue}
use Rattle.bk_evidence.specs.Batches.{Batch}
use Rattle.bk_commit.specs.Growth.{IsPartOf, IsPrefix}
use Rattle.bk_commit.specs.Ordering.{IsCommitted}
use Rattle.bk_flatten.specs.Order.{IsOrder}
use Rattle.bk_flatten.specs.Batches.{AreFound, IsFoundWhole, digests_of, payloads_of}
use Rattle.bk_order.specs.declared.table.Table.{Table}
use Rattle.bk_order.specs.declared.settling.Settled.{Settled}
use Rattle.std.specs.List.{AllZip}
use Rattle.bk_base.specs.Feed.{Frame}
use Rattle.bk_certcheck.specs.declared.finding.Found.{Found}
use Rattle.bk_certcheck.specs.Frames.{IsFound}
use Rattle.bk_certcheck.specs.declared.verdict.Verdict.{Verdict}
use Rattle.bk_evidence.specs.Laws.{HaveSame}
use Rattle.bk_order.specs.Frames.{certs_by, rejects_by}
use Rattle.bk_order.specs.Intake.{Kept, IsKeptOf}
use Rattle.bk_order.specs.Orders.{Ordered, ordered_with}
use Rattle.bk_order.specs.private.Tallies.{CountsVerdict}

-- the table of rounds has what is held, all of it where nobody has twins and no id collides
pub record IsJoined (k : CommitteeValue) (held : List Node) (rounds : RoundsValue) : Type 0 where
  pub sizes : rounds.sizes ≡ sizes_of k
  pub inside : IsPartOf rounds.held held
  pub whole : IsClear held → IsPartOf held rounds.held

-- what a table keeps
abbrev pub kept_in : Table → Kept
kept_in t = record {
  next = t.next;
  certs = t.held;
  batches = t.batches;
  rejected = t.rejected.items;
  tally = t.tally;
}

-- the one table goes on to the other
pub record GoesOn (old new : Table) : Type 0 where
  pub rounds : IsPartOf old.rounds.held new.rounds.held
  pub sizes : new.rounds.sizes ≡ old.rounds.sizes
  pub batches : IsPrefix old.batches new.batches

-- the order was settled over a part of these certificates, and its batches are found among these
pub record IsFollowed (z : Sizes) (held : List Node) (batches : List Batch) (s : Settled) : Type 0 where
  pub part : List Node
  pub inside : IsPartOf part held
  pub committed : IsCommitted z part s.walk
  pub ordered : IsOrder z part (reverse s.walk) s.flat
  pub named : s.list.digests ≡ digests_of part s.flat
  pub found : AreFound batches s.list.digests s.list.found

-- the order is that of these certificates, and its batches are found as far as these are held
pub record IsSettled (z : Sizes) (held : List Node) (batches : List Batch) (s : Settled) : Type 0 where
  pub committed : IsCommitted z held s.walk
  pub ordered : IsOrder z held (reverse s.walk) s.flat
  pub named : s.list.digests ≡ digests_of held s.flat
  pub whole : IsFoundWhole batches s.list

-- the order that is settled
abbrev pub order_in : List Batch → Settled → Ordered
order_in batches s = ordered_with s.walk s.flat (payloads_of batches s.list)

-- settling has gone as far as this many of the new anchors, which follow the old ones
pub record IsSettling (z : Sizes) (held : List Node) (batches : List Batch) (old new : List CertRef)
    (count : ℕ) (s : Settled) : Type 0 where
  pub walk : s.walk ≡ old ++ new
  pub committed : IsCommitted z held (old ++ new)
  pub ordered : IsOrder z held (reverse (old ++ take count new)) s.flat
  pub named : s.list.digests ≡ digests_of held s.flat
  pub found : AreFound batches s.list.digests s.list.found

-- these frames are kept, and the one table goes on to the other
pub record KeepsFrames (k : CommitteeValue) (fs : List Frame) (old new : Table) : Type 0 where
  pub joined : IsJoined k new.held new.rounds
  pub goes_on : GoesOn old new
  pub next : new.next ≡ old.next + length fs
  pub kept : (before : List Frame) → IsKeptOf k before (kept_in old) → IsKeptOf k (before ++ fs) (kept_in new)

-- a certificate with this verdict and id is kept as the next frame's, whose number is not counted yet
pub record KeepsVerdict (k : CommitteeValue) (id : Option (List ℕ)) (v : Verdict) (old new : Table) : Type 0 where
  pub joined : IsJoined k new.held new.rounds
  pub next : new.next ≡ old.next
  pub rounds : IsPartOf old.rounds.held new.rounds.held
  pub batches : new.batches ≡ old.batches
  pub certs : HaveSame new.held (old.held ++ certs_by v)
  pub rejected : new.rejected.items ≡ old.rejected.items ++ rejects_by old.next id v
  pub tally : CountsVerdict old.held old.tally new.tally v

-- of all frames these are left, with what was found of them; those before them are kept
pub record IsKeeping (k : CommitteeValue) (start table : Table) (all left : List Frame) (found : List Found) : Type 0 where
  pub room : table.next + length left < 2 ^ 64
  pub is_found : AllZip (IsFound k) left found
  pub done : List Frame
  pub split : all ≡ done ++ left
  pub so_far : KeepsFrames k done start table
