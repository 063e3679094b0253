use Rattle.std.proofs.Common.{arith}
use Rattle.bk_cert.proofs.Marks.{few_signers}
use Rattle.bk_cert.proofs.cert.Cert.encode.Goals as goal

pub overflow_mul-size : goal.overflow_mul-size
overflow_mul-size c = omega (arith, c.len.ensures, c.self.inside.tags.ok.0, c.self.invariant.tag_each, few_signers c.self.inside.mask)

pub overflow_add-size-2 : goal.overflow_add-size-2
overflow_add-size-2 c = omega (arith, c.header_len.ensures.short, c.len.ensures, c.self.inside.tags.ok.0, c.self.invariant.tag_each, few_signers c.self.inside.mask)
