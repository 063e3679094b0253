use Rattle.std.proofs.Common.{◌≡◌, ◌∙◌, Some, sym, ap}
use Rattle.std.specs.Prelude.{is_some}
use Rattle.std.specs.List.{position}
use Rattle.bk_index.specs.Finding.{has_key}
use Rattle.bk_index.proofs.Found.{first_repeated}
use Rattle.bk_index.proofs.keyed_list.KeyedList.push.Goals as goal

pub invariant_of-self : goal.invariant_of-self
invariant_of-self g c =
    let there : position (has_key g.T.Keyed.key_of c.key.result.now) c.self.inside.entries.items ≡ Some c.in-Some.field-0 = rw c.self.view_is (sym c.in-Some.ensures) in
    rw c.in_ok-push-in-Some.ensures.items
    (λ q. c.self.invariant q ∙ sym (first_repeated g.T.Keyed.key_of c.self.inside.entries.items c.args.entry
    (ap is_some (ap (λ k. position (has_key g.T.Keyed.key_of k) c.self.inside.entries.items) (sym c.key.ensures) ∙ there)) q))
