-- How much the report of a run may show.
use Rattle.std.specs.Prelude.{◌^◌, ◌<◌, length}
use Rattle.bk_report.specs.declared.report.Parts.{Parts}

-- the items of each list can be counted with 32 bits
pub record AreFew (p : Parts) : Type 0 where
  pub rejected : length p.rejected.now < 2 ^ 32
  pub waiting : length p.waiting.now < 2 ^ 32
  pub anchors : length p.anchors.now < 2 ^ 32
  pub order : length p.order.now < 2 ^ 32
  pub counts : length p.counts.now < 2 ^ 32
  pub receipts : length p.receipts.now < 2 ^ 32
  pub rows : length p.rows.now < 2 ^ 32
