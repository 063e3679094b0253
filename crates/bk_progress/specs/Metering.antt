-- A source whose bytes are counted.
use Rattle.bk_progress.specs.declared.metered.Metered.{Metered}

-- the source in it
abbrev pub source_of : {S R : Type 0} → Metered S R → S
source_of m = m.source
