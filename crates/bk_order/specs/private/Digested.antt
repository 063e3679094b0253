-- The batch of a payload.
use Rattle.std.specs.Prelude.{ℕ, List}
use Rattle.sha2.specs.Sha256.{sha256}
use Rattle.bk_evidence.specs.Batches.{Batch, batch_with}

-- its digest is the payload's SHA-256
abbrev pub batch_of : List ℕ → Batch
batch_of payload = batch_with (sha256 payload) payload
