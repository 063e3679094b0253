-- The command that was found is the one that the words name.
use Rattle.std.proofs.Common.{map, inl, subst, sym}
use Rattle.std.proofs.lemmas.Result.{IfErr-weaker, IfOk-weaker, err_from_is_err_and}
use Rattle.clap.specs.Words.{rows_of, found_of, subcommand_of}
use Rattle.bk_cli.specs.CommandLine.{IsLineFor}
use Rattle.bk_cli.specs.Commands.{command_line, word_of}
use Rattle.bk_cli.proofs.WordLemmas.{are_text, found_by_word, one_of_all, refused_at, what_is_found}
use Rattle.bk_cli.proofs.parsing.parse_settled.Goals as goal

pub of-requires-text-word : goal.of-requires-text-word
of-requires-text-word g c κs =
    are_text c.in-Some.name.now (one_of_all (map g.S.AsStr.text c.args.words.now) c.in-Some.name.now (rows_of (found_of c.in-Some.found.now))
    (what_is_found c.in_ok-matches.matches (map g.S.AsStr.text c.args.words.now) _ _ c.in_ok-matches.ensures.found c.in-Some.ensures.name c.in-Some.ensures.rows))

pub returns-clause-line : goal.returns-clause-line
returns-clause-line g c =
    let words = map g.S.AsStr.text c.args.words.now in
    let found = found_by_word (subcommand_of command_line words) c.in-Some.name.now (word_of c.of.result) (rows_of (found_of c.in-Some.found.now))
    (what_is_found c.in_ok-matches.matches words _ _ c.in_ok-matches.ensures.found c.in-Some.ensures.name c.in-Some.ensures.rows) c.of.ensures in
    IfOk-weaker c.line_of.result _ _ (λ l h. record { whole = c.in_ok-matches.ensures.kinds; asked = subst (λ f. IsLineFor f l) (sym found) h }) c.line_of.ensures.line

pub returns-clause-error : goal.returns-clause-error
returns-clause-error g c =
    let words = map g.S.AsStr.text c.args.words.now in
    let found = found_by_word (subcommand_of command_line words) c.in-Some.name.now (word_of c.of.result) (rows_of (found_of c.in-Some.found.now))
    (what_is_found c.in_ok-matches.matches words _ _ c.in_ok-matches.ensures.found c.in-Some.ensures.name c.in-Some.ensures.rows) c.of.ensures in
    IfErr-weaker c.line_of.result _ _ (λ e h. refused_at words e _ found h) c.line_of.ensures.error

pub returns-in_err-matches-clause-error : goal.returns-in_err-matches-clause-error
returns-in_err-matches-clause-error g c =
    let p = err_from_is_err_and c.from_residual.result c.from_residual.ensures.1 in
    rw (p.1, p.2) (record { named = inl c.in_err-matches.ensures.kinds; taken = λ t. inl (c.in_err-matches.ensures.error t) })
