-- Ids of a place, in two lists of the same certificates.
use Rattle.std.proofs.Common.{ℕ, List}
use Rattle.bk_cert.specs.Node.{Node}
use Rattle.bk_cert.specs.declared.place.CertRef.{CertRef}
use Rattle.bk_evidence.specs.Twins.{IsIdAt}
use Rattle.bk_picture.specs.Picture.{HoldSame}

pub id_there : (one other : List Node) → HoldSame one other → (a : CertRef) (id : List ℕ) → IsIdAt one a id → IsIdAt other a id
id_there one other same a id h = record { cert = h.cert; is_held = (same h.cert).0 h.is_held; place_is = h.place_is; id_is = h.id_is }

pub id_here : (one other : List Node) → HoldSame one other → (a : CertRef) (id : List ℕ) → IsIdAt other a id → IsIdAt one a id
id_here one other same a id h = record { cert = h.cert; is_held = (same h.cert).1 h.is_held; place_is = h.place_is; id_is = h.id_is }
