use Rattle.std.proofs.Common.{◌≡◌, ℕ, ◌+◌, ◌<◌, List, [], ◌∷◌, ◌++◌, length, get_or, take, sym, ap, ◌∙◌}
use Rattle.std.proofs.lemmas.List.{map-append}
use Rattle.std.proofs.lemmas.Option.{slice_get-get_or}
use Rattle.bk_base.specs.declared.genesis.Row.{Row}
use Rattle.bk_base.specs.Genesis.{row_text}
use Rattle.bk_report.specs.Leaves.{leaves_of}
use Rattle.bk_report.proofs.Putting.{take_next}
use Rattle.bk_report.proofs.leaves.leaves_of.Goals as goal

-- the leaf of one account more
leaves_next : (rows : List Row) (i : ℕ) (d : Row) → i < length rows → leaves_of (take (i + 1) rows) ≡ leaves_of (take i rows) ++ row_text (get_or rows i d) ∷ []
leaves_next rows i d lt = ap leaves_of (take_next rows i (get_or rows i d) (slice_get-get_or rows i d lt)) ∙ map-append row_text (take i rows) (get_or rows i d ∷ [])

pub loop-row-preserved : goal.loop-row-preserved
loop-row-preserved c =
    c.in_ok-push.ensures.items ∙ (λ j. c.loop-row.invariant j ++ c.account_leaf.ensures j ∷ []) ∙ sym (leaves_next c.args.rows.now c.loop-row.row-index _ c.loop-row-test.true)
