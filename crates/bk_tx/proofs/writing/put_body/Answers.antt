use Rattle.bk_tx.specs.Spelling.{wide}
use Rattle.bk_tx.proofs.Written.{put_four}
use Rattle.bk_tx.proofs.writing.put_body.Goals as goal

pub returns-in_ok-put_u64-in-PayIf-4 : goal.returns-in_ok-put_u64-in-PayIf-4
returns-in_ok-put_u64-in-PayIf-4 c =
    let four = put_four c.args.out.now.items c.put_u64-in-PayIf.new.out.items c.put_u64-in-PayIf-2.new.out.items c.put_u64-in-PayIf-3.new.out.items c.put_u64-in-PayIf-4.new.out.items (wide c.in-PayIf.to) (wide c.in-PayIf.amount) (wide c.in-PayIf.guard) (wide c.in-PayIf.min) c.in_ok-put_u64-in-PayIf.ensures c.in_ok-put_u64-in-PayIf-2.ensures c.in_ok-put_u64-in-PayIf-3.ensures c.in_ok-put_u64-in-PayIf-4.ensures in
    rw c.in-PayIf.is four
