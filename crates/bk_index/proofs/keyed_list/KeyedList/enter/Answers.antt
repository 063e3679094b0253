use Rattle.std.proofs.Common.{◌≡◌, ◌∙◌, ap, length, cond, Some, arith}
use Rattle.std.specs.Str.{bytes_eq}
use Rattle.indexmap.specs.IndexMap.{get}
use Rattle.bk_index.proofs.Found.{firsts_pushed}
use Rattle.bk_index.proofs.keyed_list.KeyedList.enter.Goals as goal

pub invariant_of-self-2 : goal.invariant_of-self-2
invariant_of-self-2 g c =
    let count : c.in-Ok.index ≡ length c.self.inside.entries.items = omega (arith, c.in-Ok.ensures, c.len.ensures) in
    rw (c.push_reserved.ensures.items, c.in_ok-reserve.ensures.items)
    (firsts_pushed g.T.Keyed.key_of c.self.inside.firsts c.insert.new.self c.self.inside.entries.items c.args.entry c.in-Ok.index c.self.invariant count (rw (c.self.view_is) c.requires)
    (λ q. c.in_ok-insert.ensures.updates.0 q ∙ ap (λ k. cond (bytes_eq k q) (Some c.in-Ok.index) (get bytes_eq c.self.inside.firsts q)) c.key.ensures))
