-- A plan in flat lists, and what contracts see of it.
use Rattle.std.specs.Prelude.{◌≡◌, ℕ, List, length, map, Option}
use Rattle.std.specs.List.{range_with_len}
use Rattle.bk_base.specs.declared.version.Version.{Version}
use Rattle.bk_tx.specs.Transaction.{Transaction}
use Rattle.bk_conflicts.specs.declared.words.WordRef.{WordRef}
use Rattle.bk_conflicts.specs.Words.{words_at}
use Rattle.bk_conflicts.specs.Plan.{PlanValue, IsPlan}
use Rattle.bk_conflicts.specs.private.Rows.{row_at, IsRows}

-- the plan that flat lists hold
abbrev pub seen : Version → List ℕ → List (Option Transaction) → List ℕ → List ℕ → List ℕ → PlanValue
seen version ids txs before start items = record {
  version = version;
  ids = ids;
  txs = txs;
  before = before;
  after = map (row_at start items) (range_with_len 0 (length txs));
}

-- the lists hold a plan
pub record AreFlat (version : Version) (ids : List ℕ) (txs : List (Option Transaction)) (word_start : List ℕ) (words : List WordRef) (before start items : List ℕ) : Type 0 where
  pub words_lie : IsRows (words_at ids txs) (length txs) word_start words
  pub rows : IsRows (row_at start items) (length txs) start items
  pub long : length before ≡ length txs
  pub plan : IsPlan (seen version ids txs before start items)
