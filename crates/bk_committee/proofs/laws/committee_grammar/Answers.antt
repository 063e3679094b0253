use Rattle.bk_committee.proofs.Grammar.{encoded, read, good_is}
use Rattle.bk_committee.proofs.laws.committee_grammar.Goals as goal

pub returns-clause-encoded : goal.returns-clause-encoded
returns-clause-encoded c = encoded

pub returns-clause-read : goal.returns-clause-read
returns-clause-read c = read

pub returns-clause-good : goal.returns-clause-good
returns-clause-good c = good_is
