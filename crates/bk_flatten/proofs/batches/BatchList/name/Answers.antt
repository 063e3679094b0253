use Rattle.std.proofs.Common.{◌∙◌, ap}
use Rattle.std.specs.List.{flat_map}
use Rattle.bk_flatten.specs.Batches.{Listed, named_at}
use Rattle.bk_flatten.specs.private.Listing.{with_digests}
use Rattle.bk_flatten.proofs.Taken.{once_grows}
use Rattle.bk_flatten.proofs.batches.BatchList.name.Goals as goal

pub returns-clause-named : goal.returns-clause-named
returns-clause-named c = λ all e.
    let keys = ap (λ (l : Listed). l.digests) c.self.view_is ∙ e in
    let names = c.deref.ensures.value ∙ c.in_ok-named.ensures in
    c.in_ok-add_all.ensures.ok ∙ ((λ i. with_digests (keys i) (names i)) ∙ once_grows (flat_map (named_at c.args.rounds.now.held) c.args.part.now) all)
