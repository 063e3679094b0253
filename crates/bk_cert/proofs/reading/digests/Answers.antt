use Rattle.bk_cert.proofs.Texts.{digests_missing, digests_cut}
use Rattle.bk_cert.proofs.reading.digests.Goals as goal

pub returns-in_err-run : goal.returns-in_err-run
returns-in_err-run c = rw c.from_residual.ensures (digests_missing c.args.count c.args.fields.now c.in_err-run.ensures.found)

pub returns : goal.returns
returns c = digests_cut c.args.count c.args.fields.now c.in_ok-run.run'.now c.take.new.self c.as_chunks.result.0.now c.in_ok-run.ensures.found c.as_chunks.ensures.front
