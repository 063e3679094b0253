use Rattle.std.proofs.Common.{◌≡◌, ◌∷◌, ◌++◌, ◌∙◌, ap, sym, map}
use Rattle.std.specs.List.{flat_map}
use Rattle.std.specs.Map.Iter.{deref_pair}
use Rattle.std.proofs.lemmas.Map.Iter.{rest_more}
use Rattle.bk_base.specs.Genesis.{row_text}
use Rattle.bk_script.specs.private.Held.{row_with}
use Rattle.bk_script.proofs.Held.{row_more}
use Rattle.bk_script.proofs.accounts.Accounts.put_rows.Goals as goal

pub loop-id-preserved : goal.loop-id-preserved
loop-id-preserved c =
    let step : c.loop-id.id-iterator ≡ (c.in-Some.id.now, c.in-Some.held.now) ∷ c.next.new.self =
    rest_more deref_pair c.loop-id.id-iterator c.next.new.self c.next.result (c.in-Some.id, c.in-Some.held) c.in-Some.is c.next.ensures.steps in
    row_more (row_with (c.in-Some.id.now, c.in-Some.held.now)) (map row_with c.next.new.self) c.loop-id.out.items c.put_row.new.out.items (c.args.out.now.items ++ flat_map row_text c.args.self.now) c.in_ok-put_row.ensures
    (ap (λ es. c.loop-id.out.items ++ flat_map row_text (map row_with es)) (sym step) ∙ c.loop-id.invariant)
