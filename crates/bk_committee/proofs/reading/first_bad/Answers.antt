use Rattle.std.proofs.Common.{ℕ, ◌*◌, sym, ap, ◌∙◌}
use Rattle.bk_committee.proofs.Grammar.{one_good}
use Rattle.bk_committee.proofs.reading.first_bad.Goals as goal

pub returns-in-One : goal.returns-in-One
returns-in-One c = sym (one_good c.args.version c.args.count c.args.bytes.now c.in-One.is c.if-count-eq0.false c.if-count-gt128.false (c.if-bytes-size_of_member.false ∙ ap (λ (s : ℕ). s * c.args.count) c.size_of_member.ensures))
