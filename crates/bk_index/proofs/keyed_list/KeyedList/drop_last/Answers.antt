use Rattle.std.proofs.Common.{◌≡◌, ◌∙◌, List, None, Some, cond, length, sym, ap, subst, arith}
use Rattle.std.proofs.lemmas.Bool.{false≢true}
use Rattle.std.specs.Str.{bytes_eq}
use Rattle.indexmap.specs.IndexMap.{get}
use Rattle.bk_index.specs.private.Firsts.{AreFirsts}
use Rattle.bk_index.proofs.Found.{firsts_dropped, firsts_stay}
use Rattle.bk_index.proofs.keyed_list.KeyedList.drop_last.Goals as goal

pub invariant_of-self-then-is_first : goal.invariant_of-self-then-is_first
invariant_of-self-then-is_first g c =
    let count : c.len.result ≡ length c.pop.new.self.items = omega (arith, c.len.ensures) in
    firsts_dropped g.T.Keyed.key_of c.self.inside.firsts c.swap_remove.new.self c.pop.new.self.items c.in-Some.entry
    (subst (λ (es : List g.row.T.Denot). AreFirsts g.T.Keyed.key_of es c.self.inside.firsts) c.in-Some.ensures.items c.self.invariant)
    (ap (get bytes_eq c.self.inside.firsts) (sym c.key.ensures) ∙ (c.is_first.ensures.0 c.if-is_first.true ∙ ap Some count))
    (λ q. c.swap_remove.ensures.updates.0 q ∙ ap (λ k. cond (bytes_eq k q) None (get bytes_eq c.self.inside.firsts q)) c.key-then-is_first.ensures)

pub invariant_of-self-else-is_first : goal.invariant_of-self-else-is_first
invariant_of-self-else-is_first g c =
    let count : length c.pop.new.self.items ≡ c.len.result = omega (arith, c.len.ensures) in
    firsts_stay g.T.Keyed.key_of c.self.inside.firsts c.pop.new.self.items c.in-Some.entry
    (subst (λ (es : List g.row.T.Denot). AreFirsts g.T.Keyed.key_of es c.self.inside.firsts) c.in-Some.ensures.items c.self.invariant)
    (λ is. false≢true (sym c.if-is_first.false ∙ c.is_first.ensures.1 (ap (get bytes_eq c.self.inside.firsts) c.key.ensures ∙ (is ∙ ap Some count))))
