use Rattle.bk_rules.proofs.Putting.{ids_ascend}
use Rattle.bk_rules.proofs.ids.Ids.at.Goals as goal

pub without_hints-requires : goal.without_hints-requires
without_hints-requires c = rw (c.in_ok-ids.ensures, c.as_slice.ensures.all) (ids_ascend c.args.self.now c.args.list.now c.as_slice.ensures.ascending c.requires)
