use Rattle.std.proofs.Common.{◌≡◌, Option, List, sym, ap, subst, ◌∙◌, arith}
use Rattle.std.specs.Prelude.{Contains, MatchOption}
use Rattle.bk_base.specs.declared.genesis.Row.{Row}
use Rattle.bk_rules.specs.Ledger as rules
use Rattle.bk_answer.specs.Closed.{Executed}
use Rattle.bk_follow.specs.Queries.{rows_of_executed, rows_in}
use Rattle.bk_report.specs.Proofs.{IsAbsent, IsProofOf}
use Rattle.bk_follow.proofs.follower.Follower.find_proof.Goals as goal

pub returns-in_default : goal.returns-in_default
returns-in_default g c = λ r h same.
    let k = subst (λ (o : Option Executed). Contains (rows_of_executed o) r) c.in_default.ensures h in
    absurd (let lt = k.1 in omega (arith, lt))

pub returns : goal.returns
returns g c =
    let rows : c.deref.result.now ≡ rows_in c.args.self.now.book = c.deref.ensures.value ∙ c.in_ok-rows.ensures ∙ ap (λ (l : rules.Ledger). l.rows) c.state.ensures ∙ ap rows_of_executed (sym c.in-Some.ensures) in
    subst (λ (rs : List Row). MatchOption c.in_ok-proof.proof (IsAbsent rs c.args.id) (IsProofOf rs c.args.id)) rows c.in_ok-proof.ensures
