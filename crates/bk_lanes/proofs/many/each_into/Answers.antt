use Rattle.std.proofs.Common.{◌++◌, ◌∙◌, List, ℕ}
use Rattle.std.specs.Option.{option_to_list}
use Rattle.sha2.specs.Sha256.{sha256}
use Rattle.bk_lanes.proofs.Progress.{digest_is, listed}
use Rattle.bk_lanes.proofs.many.each_into.Goals as goal

pub returns-else-messages-lt-FEW : goal.returns-else-messages-lt-FEW
returns-else-messages-lt-FEW c =
    listed (λ (m : List ℕ). sha256 (option_to_list c.args.messages.now.first ++ m)) c.args.messages.now.bytes.now _ c.side_by_side.ensures.room
    (λ k lt. c.side_by_side.ensures.digests k lt ∙ digest_is (option_to_list c.args.messages.now.first ++ _))
