use Rattle.std.proofs.Common.{codes}
use Rattle.bk_listing.proofs.Puts.{puts_word}
use Rattle.bk_listing.proofs.lines.put_cert.Goals as goal

pub returns : goal.returns
returns c =
    puts_word _ _ (codes " signers") _ _ _
    (puts_word _ _ (codes " parents") _ _ _
    (puts_word _ _ (codes " batches") _ _ _
    (puts_word _ _ (codes " author") _ _ _
    (puts_word _ _ (codes " round") _ _ _ c.in_ok-put_digest.ensures c.in_ok-put_number.ensures)
    c.in_ok-put_number-2.ensures)
    c.in_ok-put_number-3.ensures)
    c.in_ok-put_number-4.ensures)
    c.in_ok-put_number-5.ensures
