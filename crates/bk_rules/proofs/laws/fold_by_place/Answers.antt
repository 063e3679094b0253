use Rattle.bk_rules.proofs.Folding.{length-receipts, receipt_of_place, rows_of_place}
use Rattle.bk_rules.proofs.laws.fold_by_place.Goals as goal

pub returns-clause-count : goal.returns-clause-count
returns-clause-count c = length-receipts

pub returns-clause-receipt : goal.returns-clause-receipt
returns-clause-receipt c = receipt_of_place

pub returns-clause-rows : goal.returns-clause-rows
returns-clause-rows c = rows_of_place
