use Rattle.std.proofs.Common.{codes}
use Rattle.bk_listing.proofs.Puts.{puts_word}
use Rattle.bk_listing.proofs.lines.put_genesis.Goals as goal

pub returns : goal.returns
returns c = puts_word _ _ (codes " money") _ _ _ (puts_word _ _ (codes " accounts") _ _ _ c.in_ok-put_digest.ensures c.in_ok-put_number.ensures) c.in_ok-put_number-2.ensures
