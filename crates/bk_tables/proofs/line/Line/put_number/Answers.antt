use Rattle.std.proofs.Common.{arith}
use Rattle.bk_tables.proofs.RowTexts.{number_short}
use Rattle.bk_tables.proofs.line.Line.put_number.Goals as goal

pub write_digits-start-requires : goal.write_digits-start-requires
write_digits-start-requires c = (number_short c.args.number c.ranges.number.fits, omega arith)
