use Rattle.std.proofs.Common.{◌≡◌, ℕ, List, arith, refl}
use Rattle.sha2.specs.Sha256.{compress, initial_hash_256}
use Rattle.bk_digest.proofs.mac.states_of.Goals as goal

-- a block into the initial hash value
begun : (s i b p : List ℕ) → s ≡ compress i b → i ≡ initial_hash_256 → b ≡ p → s ≡ compress initial_hash_256 p
begun s i b p es ei eb = rw (es, ei, eb) refl

pub returns-clause-inner : goal.returns-clause-inner
returns-clause-inner c = begun _ _ _ _ (c.compress_each.ensures.taken 0 (omega arith)) c.initial-states.ensures c.padded.ensures

pub returns-clause-outer : goal.returns-clause-outer
returns-clause-outer c = begun _ _ _ _ (c.compress_each.ensures.taken 1 (omega arith)) c.initial-states.ensures c.padded-2.ensures
