use Rattle.std.proofs.Common.{refl, sym, ap, ◌∙◌}
use Rattle.bk_committee.specs.Payload.{CommitteeValue}
use Rattle.std.proofs.lemmas.Bool.{false≢true}
use Rattle.bk_follow.proofs.ComparedBooks.{committee_same}
use Rattle.bk_follow.proofs.comparing.same_committee.Goals as goal

pub returns-then-not-same_version : goal.returns-then-not-same_version
returns-then-not-same_version c = (λ t. absurd (false≢true t), λ e. c.if-not-same_version.ensures.1 (c.version.ensures ∙ ap (λ (k : CommitteeValue). k.version) e ∙ sym c.version-2.ensures))

pub returns-then-not-same_weights : goal.returns-then-not-same_weights
returns-then-not-same_weights c = (λ t. absurd (false≢true t), λ e. c.if-not-same_weights.ensures.1 (c.weights.ensures.all ∙ ap (λ (k : CommitteeValue). k.weights) e ∙ sym c.weights-2.ensures.all))

pub returns : goal.returns
returns c = (
  λ t. committee_same c.args.one.now c.args.other.now
      (sym c.version.ensures ∙ c.if-not-same_version.ensures.0 refl ∙ c.version-2.ensures)
      (sym c.weights.ensures.all ∙ c.if-not-same_weights.ensures.0 refl ∙ c.weights-2.ensures.all)
      (c.same_keys.ensures.0 t),
  λ e. c.same_keys.ensures.1 (ap (λ (k : CommitteeValue). k.keys) e),
)
