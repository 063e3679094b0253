use Rattle.std.proofs.Common.{◌≡◌, ◌++◌, ◌∷◌, [], List, ℕ, Option, Some, set, length, ap, ap₂, ◌∙◌, arith}
use Rattle.std.proofs.Math.Seq.{set-append_seam}
use Rattle.bk_tx.specs.Transaction.{Transaction}
use Rattle.bk_tx.proofs.pushing.push_transaction.Goals as goal

pub returns : goal.returns
returns c =
    let at : c.len-at.result ≡ length c.args.txs.now.items = omega arith in
    ap₂ (λ (xs : List (Option Transaction)) (i : ℕ). set xs i c.read_into.new.place) c.in_ok-push.ensures.items at
    ∙ set-append_seam c.args.txs.now.items (Some c.blank.result) [] c.read_into.new.place
    ∙ ap (λ (t : Option Transaction). c.args.txs.now.items ++ t ∷ []) c.read_into.ensures
