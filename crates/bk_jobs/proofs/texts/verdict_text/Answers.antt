use Rattle.std.proofs.Common.{refl}
use Rattle.bk_jobs.proofs.texts.verdict_text.Goals as goal

pub returns-then-good : goal.returns-then-good
returns-then-good c = rw c.if-good.true refl

pub returns-else-good : goal.returns-else-good
returns-else-good c = rw c.if-good.false refl
