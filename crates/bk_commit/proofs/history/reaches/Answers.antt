use Rattle.std.proofs.Common.{◌∙◌, sym}
use Rattle.std.proofs.lemmas.Bool.{false≢true, both_ways}
use Rattle.bk_commit.proofs.Last.{history_ends, not_same}
use Rattle.bk_commit.proofs.history.reaches.Goals as goal
use Rattle.bk_commit.proofs.history.reaches.Goals.{then-not-is_present-via-then-not-is_present, then-not-is_present-via-else-not-is_present+then-not-is_present-2}

pub returns-then-not-is_present : goal.returns-then-not-is_present
returns-then-not-is_present c = (
  (λ f. absurd (false≢true f)),
  (λ h. absurd (
      let ends = history_ends c.args.rounds.now.sizes c.args.rounds.now.held c.args.a c.args.b h (not_same c.args.a c.args.b (sym c.eq.ensures ∙ c.if-eq.false)) in
      elim c.then-not-is_present.branch [
        | then-not-is_present-via-then-not-is_present w ↦ both_ways _ w.if-not-is_present.true (c.is_present.ensures.1 ends.0)
        | then-not-is_present-via-else-not-is_present+then-not-is_present-2 w ↦ both_ways _ w.if-not-is_present-2.true (w.is_present-else-not-is_present.ensures.1 ends.1)
      ])),
)
