use Rattle.std.proofs.Common.{rules}
use Rattle.bk_report.specs.RunLines.{rows_lines}
use Rattle.bk_report.proofs.Pieces.{four_pieces}
use Rattle.bk_report.proofs.sheets.Four.fill.Goals as goal

pub returns : goal.returns
returns g c = four_pieces (rows_lines c.args.receipts.now c.args.rows.now) c.args.start c.join_mut.new.f.1.now c.join_mut.new.f.2.now c.join_mut.new.g.1.now c.join_mut.new.g.2.now (search rules) (search rules) (search rules) (search rules)
