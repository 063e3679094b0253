use Rattle.std.proofs.Common.{◌≡◌, ◌<◌, ◌&&◌, ℕ, List, length, get_or, Option, None, Some, IfSome, true, eqb, is_some, sym, ap, ◌∙◌}
use Rattle.bk_tx.specs.Access.{writes}
use Rattle.bk_tx.specs.declared.declared.Declared.{Declared}
use Rattle.bk_rules.proofs.Places.{position_is}
use Rattle.bk_rules.proofs.ops.index_at.Goals as goal

and_writes : (ids : List ℕ) (ds : List Declared) (id : ℕ) (o : Option ℕ) → writes ds id ≡ true → IfSome o (λ k. (k < length ids) × (id ≡ get_or ids k 0)) → IfSome o (λ k. (k < length ids) × (id ≡ get_or ids k 0) × (writes ds id ≡ true))
and_writes ids ds id None w there = tt
and_writes ids ds id (Some k) w there = (there.0, there.1, w)

pub returns : goal.returns
returns c = and_writes c.args.ids.now c.args.declared.now c.args.id c.right_at.result (sym (position_is (λ (d : Declared). d.writable && eqb d.id c.args.id) c.args.declared.now) ∙ ap (λ (o : Option ℕ). is_some o) (sym c.in_ok-k.ensures.first)) c.right_at.ensures
