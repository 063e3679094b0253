use Rattle.std.proofs.Common.{arith, ap, length}
use Rattle.bk_cert.proofs.Texts.{header_long}
use Rattle.bk_listing.proofs.rows.count_batches.Goals as goal

pub overflow_sub-result-2 : goal.overflow_sub-result-2
overflow_sub-result-2 c = omega (arith, header_long c.args.view.now.header c.mask-mask.ensures.certificate.headed, ap length c.header_bytes.ensures, ap length c.parents.ensures)

pub returns : goal.returns
returns c = omega (arith, header_long c.args.view.now.header c.mask-mask.ensures.certificate.headed, ap length c.header_bytes.ensures, ap length c.parents.ensures)
