use Rattle.std.proofs.Common.{sym, ◌∙◌}
use Rattle.std.proofs.lemmas.Slice.Eq.{bytes_eq-Decides}
use Rattle.bk_cert.specs.Equality.{header_eq}
use Rattle.bk_evidence.proofs.Judging.{same_tested}
use Rattle.bk_evidence.proofs.held.is_same.Goals as goal

pub returns-then-eq : goal.returns-then-eq
returns-then-eq c = same_tested c.args.one.now c.args.other.now c.eq-then-eq.result
    (sym c.id.ensures ∙ ((bytes_eq-Decides c.id.result.now c.id-2.result.now).0 (sym c.if-eq.ensures) ∙ c.id-2.ensures))
    (c.eq-then-eq.ensures ∙ (λ i. header_eq (c.header.ensures i) (c.header-then-eq.ensures i)))
