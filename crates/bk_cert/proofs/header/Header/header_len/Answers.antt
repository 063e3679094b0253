use Rattle.std.proofs.Common.{arith}
use Rattle.bk_cert.specs.Values.{header_with}
use Rattle.bk_cert.proofs.Texts.{header_long}
use Rattle.bk_cert.proofs.header.Header.header_len.Goals as goal

pub returns-clause-len : goal.returns-clause-len
returns-clause-len c =
    let h = c.self.inside in
    rw (← c.self.view_is) (omega (arith, c.len.ensures, c.len-2.ensures, h.batches.ok.0, h.parents.ok.0, header_long (header_with h.author h.round h.batches.items h.parents.items) c.self.invariant))
