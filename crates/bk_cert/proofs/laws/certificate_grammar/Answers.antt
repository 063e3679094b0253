use Rattle.bk_cert.proofs.Grammar.{certificate_takes, certificate_again, header_then_seal, one_header}
use Rattle.bk_cert.proofs.laws.certificate_grammar.Goals as goal

pub returns-clause-spelled : goal.returns-clause-spelled
returns-clause-spelled c = certificate_takes

pub returns-clause-read : goal.returns-clause-read
returns-clause-read c = certificate_again

pub returns-clause-header_first : goal.returns-clause-header_first
returns-clause-header_first c = header_then_seal

pub returns-clause-one_header : goal.returns-clause-one_header
returns-clause-one_header c = one_header
