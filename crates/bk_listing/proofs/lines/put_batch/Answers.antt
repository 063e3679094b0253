use Rattle.std.proofs.Common.{ℕ, List, ◌++◌, codes, ap, ◌∙◌, append_assoc}
use Rattle.hex.specs.Hex.{encode_lower}
use Rattle.bk_results.specs.Lines.{spaced}
use Rattle.bk_listing.proofs.lines.put_batch.Goals as goal

pub returns : goal.returns
returns c =
    c.in_ok-put_number.ensures ∙ ap (λ (t : List ℕ). t ++ (codes " transactions" ++ spaced c.args.count)) c.in_ok-put_digest.ensures
    ∙ append_assoc c.args.text.now.items (codes "batch " ++ encode_lower c.args.digest) (codes " transactions" ++ spaced c.args.count)
