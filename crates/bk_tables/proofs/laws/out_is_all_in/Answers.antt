use Rattle.bk_tables.proofs.PlaceSums.{out_is_in}
use Rattle.bk_tables.proofs.laws.out_is_all_in.Goals as goal

pub returns : goal.returns
returns c = out_is_in
