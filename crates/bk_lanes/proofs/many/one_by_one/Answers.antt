use Rattle.std.proofs.Common.{◌++◌, arith, ap, List, ℕ, ◌∙◌}
use Rattle.std.proofs.lemmas.List.{length-set}
use Rattle.std.specs.Option.{option_to_list}
use Rattle.sha2.specs.Sha256.{sha256}
use Rattle.bk_lanes.proofs.Progress.{listed, one_more}
use Rattle.bk_lanes.proofs.many.one_by_one.Goals as goal

pub each-preserved : goal.each-preserved
each-preserved c = (
  length-set c.each.out c.each.k _ ∙ c.each.invariant.0,
  one_more (λ (m : List ℕ). sha256 (option_to_list c.args.messages.now.first ++ m)) c.args.messages.now.bytes.now c.each.out _ c.each.k (omega arith)
      (c.digest_of.ensures ∙ ap sha256 c.message_at.ensures) c.each.invariant.1,
)

pub returns : goal.returns
returns c =
    listed (λ (m : List ℕ). sha256 (option_to_list c.args.messages.now.first ++ m)) c.args.messages.now.bytes.now c.each.out c.each.invariant.0
    (λ k lt. c.each.invariant.1 k (omega arith))
