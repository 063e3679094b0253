use Rattle.std.proofs.Common.{drop}
use Rattle.bk_cert.specs.Place.{IsListed}
use Rattle.bk_rounds.specs.private.Tally.{AreKept, IsTally}
use Rattle.bk_rounds.proofs.votes.count.Given as goal

abbrev pub invariant-loop-place : goal.invariant-loop-place
invariant-loop-place l = record {
  listed : IsListed (drop l.place-index l.places);
  tally : IsTally l.table.sizes l.table.held (drop l.place-index l.places) l.votes;
  kept : AreKept l.table.sizes l.table.held l.votes;
}
