use Rattle.std.proofs.Common.{sym}
use Rattle.bk_evidence.proofs.Placing.{least_kept}
use Rattle.bk_evidence.proofs.places.Places.ids_at.Goals as goal

pub id_of-requires : goal.id_of-requires
id_of-requires c = (least_kept c.args.certs.now c.args.self.now c.args.place c.requires c.in_ok-index.index (sym c.in_ok-index.ensures)).0
