use Rattle.bk_laws.proofs.Growing.{report_ignores_frame_order}
use Rattle.bk_laws.proofs.laws.report_ignores_frame_order.Goals as goal

pub returns : goal.returns
returns c = report_ignores_frame_order
