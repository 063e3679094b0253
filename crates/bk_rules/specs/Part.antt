-- A part of a ledger: the accounts of some of its slots, executed by themselves and put back.
use Rattle.std.specs.Prelude.{◌≡◌, ℕ, ◌<◌, Bool, true, false, IsTrue, ◌||◌, not, List, length, map, filter, slice_index, Option, Some, None, if◌then◌else◌}
use Rattle.std.specs.List.{list_all}
use Rattle.bk_base.specs.declared.genesis.Row.{Row}
use Rattle.bk_base.specs.declared.version.Version.{Version}
use Rattle.bk_base.specs.declared.version.Version.TheVariants.{One, Two}
use Rattle.bk_base.specs.Numbers.{is_ascending}
use Rattle.bk_base.specs.Genesis.{ids_of}
use Rattle.bk_tx.specs.declared.declared.Declared.{Declared}
use Rattle.bk_tx.specs.Transaction.{Transaction}
use Rattle.bk_rules.specs.Rows.{IsLedger, account_at}
use Rattle.bk_rules.specs.Fold.{state_after, receipts_of}
use Rattle.bk_rules.specs.Ledger.{Ledger, ledger_of, has_slot}

-- indexes of a list of n, each once, in ascending order
pub record AreIndexes (n : ℕ) (list : List ℕ) : Type 0 where
  pub ascending : IsTrue (is_ascending list)
  pub within : (k : ℕ) → k < length list → slice_index list k < n

-- the ids at these indexes
abbrev pub ids_at : List ℕ → List ℕ → List ℕ
ids_at slots list = map (slice_index slots) list

-- the rows of these ids
abbrev pub rows_among : List ℕ → List Row → List Row
rows_among ids rows = filter (λ (r : Row). has_slot ids r.id) rows

-- the ledger of these ids alone
abbrev pub part_of : List ℕ → Ledger → Ledger
part_of ids l = ledger_of l.version ids (rows_among ids l.rows)

-- rows where the accounts of these ids are those of the part, and all others are as they were
pub record ArePutBack (ids : List ℕ) (part rows after : List Row) : Type 0 where
  pub ascending : IsTrue (is_ascending (ids_of after))
  pub accounts : (id : ℕ) → account_at after id ≡ (if has_slot ids id then account_at part id else account_at rows id)

-- ---- what a part needs, so that transactions see no difference

-- the id is among those of the part; in version One it may lack a slot in the whole
abbrev pub is_held_id : Version → List ℕ → List ℕ → ℕ → Bool
is_held_id One slots ids id = has_slot ids id || not (has_slot slots id)
is_held_id Two slots ids id = has_slot ids id

-- so are all ids that the transaction declares
abbrev pub is_held : Version → List ℕ → List ℕ → Option Transaction → Bool
is_held version slots ids None = true
is_held version slots ids (Some t) = list_all (λ (d : Declared). is_held_id version slots ids d.id) t.declared

-- and those of all of them
abbrev pub are_held : Version → List ℕ → List ℕ → List (Option Transaction) → Bool
are_held version slots ids txs = list_all (is_held version slots ids) txs

-- an account that is there has a slot
abbrev pub HaveSlots : List ℕ → List Row → Type 0
HaveSlots slots rows = (id : ℕ) → has_slot slots id ≡ false → account_at rows id ≡ None

-- transactions whose accounts the part holds give the same receipts there
abbrev pub PartGivesReceipts : Type 0
PartGivesReceipts = (v : Version) (slots ids : List ℕ) (txs : List (Option Transaction)) (rows : List Row) → IsLedger rows → HaveSlots slots rows → are_held v slots ids txs ≡ true → receipts_of v txs (rows_among ids rows) ≡ receipts_of v txs rows

-- and what they leave there, put back, is what they leave of the whole
abbrev pub PartGivesState : Type 0
PartGivesState = (v : Version) (slots ids : List ℕ) (txs : List (Option Transaction)) (rows after : List Row) → IsLedger rows → HaveSlots slots rows → are_held v slots ids txs ≡ true → ArePutBack ids (state_after v txs (rows_among ids rows)) rows after → after ≡ state_after v txs rows
