use Rattle.std.proofs.Common.{arith, sym, ◌∙◌}
use Rattle.bk_chain.proofs.LineWords.{line_is, line_is_none}
use Rattle.bk_chain.proofs.reading.take_line.Goals as goal

pub returns-in-None : goal.returns-in-None
returns-in-None c = (omega (arith, c.len.ensures, c.args.links.now.ok.0), line_is_none c.args.line.now (sym c.in_ok-link.ensures ∙ c.in-None.is))

pub returns : goal.returns
returns c = (c.in-Some.link, line_is c.in-Some.link c.args.line.now (sym c.in_ok-link.ensures ∙ c.in-Some.is), c.in_ok-push-in-Some.ensures.items)
