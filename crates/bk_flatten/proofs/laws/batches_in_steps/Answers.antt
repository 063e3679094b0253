use Rattle.std.proofs.Common.{sym, ap, ◌∙◌}
use Rattle.bk_flatten.specs.Batches.{before_missing, once}
use Rattle.bk_flatten.proofs.Growth.{names_same}
use Rattle.bk_flatten.proofs.Taken.{whole_list, found_stays}
use Rattle.bk_flatten.proofs.laws.batches_in_steps.Goals as goal

pub returns-clause-whole : goal.returns-clause-whole
returns-clause-whole c = λ held batches order l named whole. sym (whole_list batches l whole) ∙ ap (before_missing batches) named

pub returns-clause-found : goal.returns-clause-found
returns-clause-found c = found_stays

pub returns-clause-digests : goal.returns-clause-digests
returns-clause-digests c = λ z small large order within clear here. ap once (names_same z small large within clear order here)
