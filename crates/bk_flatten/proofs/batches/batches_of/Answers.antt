use Rattle.std.proofs.Common.{◌∙◌, sym, ap, []}
use Rattle.bk_flatten.specs.Batches.{Listed, before_missing}
use Rattle.bk_flatten.proofs.Taken.{whole_list}
use Rattle.bk_flatten.proofs.batches.batches_of.Goals as goal

pub returns : goal.returns
returns c = sym (whole_list c.args.batches.now c.find.new.self c.in_ok-find.ensures.whole)
    ∙ ap (before_missing c.args.batches.now) (c.in_ok-find.ensures.digests ∙ c.in_ok-name.ensures.named [] (ap (λ (l : Listed). l.digests) c.new-list.ensures))
