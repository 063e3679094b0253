use Rattle.bk_listing.proofs.Forgeries.{AreRight}
use Rattle.bk_listing.proofs.forged.signer_of.Given as goal

abbrev pub invariant-loop-member : goal.invariant-loop-member
invariant-loop-member l = AreRight l.committee l.view l.member l.place
