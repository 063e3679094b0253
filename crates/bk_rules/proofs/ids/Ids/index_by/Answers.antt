use Rattle.bk_rules.proofs.Finding.{stands_at}
use Rattle.bk_rules.proofs.ids.Ids.index_by.Goals as goal

pub returns-then-ids-near : goal.returns-then-ids-near
returns-then-ids-near c = stands_at c.args.self.now c.as_slice-ids.ensures.ascending c.args.id c.args.near (rw c.as_slice-ids.ensures.all at c.if-near-ids.true) (rw c.as_slice-ids.ensures.all at c.if-ids-near.true)
