use Rattle.bk_digest.proofs.Paths.{path_one, path_left, path_right}
use Rattle.bk_digest.proofs.laws.path_is_merkle_audit_path.Goals as goal

pub returns : goal.returns
returns c = record {
  one = path_one;
  left = λ leaves k i _ h side. path_left leaves k i h side;
  right = λ leaves k i _ h side _. path_right leaves k i h side;
}
