use Rattle.std.proofs.Common.{◌≡◌, true, sym, ap, ◌∙◌}
use Rattle.bk_flatten.proofs.Listing.{added_by}
use Rattle.bk_diagnosis.specs.Missing.{is_lacking, is_none}
use Rattle.bk_diagnosis.specs.private.Lacking.{naming_of}
use Rattle.bk_diagnosis.specs.declared.lacking.Lack.{Lack}
use Rattle.bk_diagnosis.proofs.Lacks.{lack_added, none_found}
use Rattle.bk_diagnosis.proofs.lacking.Lacks.add.Goals as goal

pub returns : goal.returns
returns c =
    let lacking : is_lacking c.args.stored.now (naming_of c.args.lack) ≡ true =
    ap is_none (sym c.get.ensures) ∙ none_found (λ p. p.now) c.get.result (sym c.is_some.ensures ∙ c.if-is_some.false) in
    rw (← c.self.view_is) (lack_added c.args.stored.now c.self.inside.list c.first_of.new.self c.args.lack lacking
    (added_by (λ (l : Lack). l.digest) c.self.inside.list c.first_of.new.self c.args.lack c.in_ok-first_of.field-0 c.in_ok-first_of.ensures.found c.in_ok-first_of.ensures.known c.in_ok-first_of.ensures.new))
