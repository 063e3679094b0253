-- The line of the fault, and then the reason.
use Rattle.std.proofs.Common.{◌∙◌, ◌++◌, List, ℕ, Bool, codes, ap, subst, sym}
use Rattle.bk_results.specs.declared.script_fault.ScriptFault.TheVariants as text
use Rattle.bk_cli.specs.FaultLines.{Reports, line_of}
use Rattle.bk_cli.specs.Files.{shown}
use Rattle.bk_cli.specs.Unopened.{told_unopened}
use Rattle.bk_cli.specs.declared.job_fault.JobFault.TheVariants as fault
use Rattle.bk_cli.proofs.telling.tell_unopened.Goals as goal

pub returns-then-verbose : goal.returns-then-verbose
returns-then-verbose g c = subst (λ (t : List ℕ). Reports t (g.E.Sink.state c.args.err.now) (g.E.Sink.state c.tell_both.new.err))
    (ap (λ (t : List ℕ). t ++ (codes "bkreplay: " ++ (shown c.args.name.now ++ c.why.result.now))) (c.as_slice.ensures.value ∙ c.fault_line.ensures)
    ∙ (ap (λ (t : List ℕ). line_of (fault.Text text.Read) ++ (codes "bkreplay: " ++ (shown c.args.name.now ++ t))) c.why.ensures
    ∙ ap (λ (b : Bool). told_unopened b c.args.name.now c.args.reason) (sym c.if-verbose.true)))
    c.tell_both.ensures
