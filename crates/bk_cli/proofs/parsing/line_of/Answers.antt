-- What the command asks for, or that it asks for no job.
use Rattle.std.proofs.Common.{inl, inr, ap, refl, sym, ◌∙◌, Some}
use Rattle.std.specs.Prelude.{option_map}
use Rattle.clap.specs.Words.{found_of}
use Rattle.bk_cli.specs.CommandLine.{line_with}
use Rattle.bk_cli.specs.declared.job.Job.{Job}
use Rattle.bk_cli.proofs.WordLemmas.{args_in_rows, is_sole, is_twice}
use Rattle.bk_cli.proofs.parsing.line_of.Goals as goal

pub returns-in_default-clause-error : goal.returns-in_default-clause-error
returns-in_default-clause-error c =
    let a = c.in_ok-args.args in
    let made = ap (option_map (line_with a)) (sym c.in_default.is ∙ c.job_of.ensures) in
    inr (c.in_ok-no_job.ensures, inl (c.args.verb, a, refl, args_in_rows (found_of c.args.found.now) a c.in_ok-args.ensures, made))

pub returns-in_default-sole-clause-error : goal.returns-in_default-sole-clause-error
returns-in_default-sole-clause-error c =
    let a = c.in_ok-args.args in
    let made = ap (option_map (line_with a)) (sym c.in-Some.is ∙ c.job_of.ensures) in
    inr (
      c.in_ok-input_twice.ensures,
      inr (
        line_with a c.in-Some.job,
        (c.args.verb, a, refl, args_in_rows (found_of c.args.found.now) a c.in_ok-args.ensures, made),
        is_twice c.in-Some.job (sym c.sole.ensures ∙ c.in_default-sole.is),
      ),
    )

pub returns-clause-line : goal.returns-clause-line
returns-clause-line c =
    let a = c.in_ok-args.args in
    let one = is_sole c.in-Some.job c.in-Some-sole.job (sym c.sole.ensures ∙ c.in-Some-sole.is) in
    let made = ap (λ (j : Job). Some (line_with a j)) (sym one.0) ∙ ap (option_map (line_with a)) (sym c.in-Some.is ∙ c.job_of.ensures) in
    ((c.args.verb, a, refl, args_in_rows (found_of c.args.found.now) a c.in_ok-args.ensures, made), one.1)
