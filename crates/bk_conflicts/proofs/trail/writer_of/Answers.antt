use Rattle.std.proofs.Common.{ℕ, get_or, sym, ap, ◌∙◌}
use Rattle.bk_conflicts.specs.private.Trail.{no_reader}
use Rattle.bk_conflicts.proofs.Traces.{writer_low, writer_read}
use Rattle.bk_conflicts.proofs.trail.writer_of.Goals as goal

pub returns-then-newest-eq0 : goal.returns-then-newest-eq0
returns-then-newest-eq0 c = sym (writer_low c.args.readers.now c.args.last (sym c.newest_of-newest.ensures ∙ c.if-newest-eq0.true))

pub returns-else-newest-eq0 : goal.returns-else-newest-eq0
returns-else-newest-eq0 c = ap (λ (k : ℕ). (get_or c.args.readers.now k no_reader).writer) c.newest_of-newest.ensures ∙ sym (writer_read c.args.readers.now c.args.last (λ z. c.if-newest-eq0.false (c.newest_of-newest.ensures ∙ z)))
