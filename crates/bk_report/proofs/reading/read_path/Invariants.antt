use Rattle.std.proofs.Common.{◌≡◌, List, ℕ, length}
use Rattle.std.specs.Prelude.{All}
use Rattle.bk_report.specs.Lines.{text_of}
use Rattle.bk_report.specs.Proofs.{IsDigest, path_lines}
use Rattle.bk_report.proofs.ProofPaths.{IsLeft}
use Rattle.bk_report.proofs.reading.read_path.Given as goal

abbrev pub invariant-loop-rest : goal.invariant-loop-rest
invariant-loop-rest l = record {
  left : (path : List (List ℕ)) → All IsDigest path → l.fn.text ≡ text_of (path_lines path) → IsLeft path l.path.items l.rest;
  digests : All IsDigest l.path.items;
}

abbrev pub decreases-loop-rest : goal.decreases-loop-rest
decreases-loop-rest l = length l.rest
