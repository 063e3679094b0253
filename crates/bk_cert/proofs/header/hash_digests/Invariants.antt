use Rattle.std.proofs.Common.{ℕ, List, ◌++◌, take}
use Rattle.std.specs.List.{concat}
use Rattle.sha2.specs.Hashers.{Holds256}
use Rattle.bk_cert.proofs.header.hash_digests.Given as goal

abbrev pub invariant-loop-digest : goal.invariant-loop-digest
invariant-loop-digest l = (m : List ℕ) → Holds256 l.fn.hasher m → Holds256 l.hasher (m ++ concat (take l.digest-index l.digests))
