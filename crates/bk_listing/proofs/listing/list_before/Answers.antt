use Rattle.std.proofs.Common.{refl}
use Rattle.bk_listing.proofs.ShownSoFar.{leaves_fault}
use Rattle.bk_listing.proofs.listing.list_before.Goals as goal

pub returns-in-Ok : goal.returns-in-Ok
returns-in-Ok g c = λ taken text h. (refl, c.in-Ok.ensures.listed taken text h)

pub returns-in-Err : goal.returns-in-Err
returns-in-Err g c = λ taken text h. leaves_fault c.args.found taken text c.args.reader.now _ (g.K.Sink.state c.args.sink.now) (g.K.Sink.state c.list_waiting.new.sink) c.in-Err.fault (c.in-Err.ensures.fault taken text h)
