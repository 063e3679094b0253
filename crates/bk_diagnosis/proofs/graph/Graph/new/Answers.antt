use Rattle.std.proofs.Common.{sym, ap, subst, ◌∙◌, List, arith}
use Rattle.std.specs.Prelude.{◌↔◌}
use Rattle.std.specs.List.{Contains}
use Rattle.bk_cert.specs.Node.{Node}
use Rattle.bk_committee.specs.Payload.{CommitteeValue, sizes_of}
use Rattle.bk_committee.specs.Sizes.{quorum}
use Rattle.bk_diagnosis.proofs.graph.Graph.new.Goals as goal

pub invariant_of-result : goal.invariant_of-result
invariant_of-result c = (
  subst (λ (certs : List Node). (d : Node) → Contains certs d ↔ Contains c.args.rounds.now.held d) (sym c.held.ensures) c.requires.same,
  c.sound.ensures.clear,
  c.sound.ensures.good,
  (let is = c.members.ensures.is in let few = c.members.ensures.few in omega (arith, is, few)),
  c.in_ok-first_rejects.ensures,
  c.quorum.ensures.quorum ∙ ap (λ (k : CommitteeValue). quorum (sizes_of k)) c.committee.ensures ∙ ap quorum (sym c.requires.sizes),
)
