use Rattle.bk_base.proofs.GenesisGrammar.{genesis_spelled, genesis_read}
use Rattle.bk_base.proofs.laws.genesis_grammar.Goals as goal

pub returns-clause-spelled : goal.returns-clause-spelled
returns-clause-spelled c = genesis_spelled

pub returns-clause-read : goal.returns-clause-read
returns-clause-read c = genesis_read
