use Rattle.bk_cert.proofs.Equality.{header_decided}
use Rattle.bk_cert.proofs.laws.equal_headers.Goals as goal

pub returns : goal.returns
returns c = header_decided
