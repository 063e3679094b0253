use Rattle.bk_digest.specs.Digest.{tagged_of}
use Rattle.bk_digest.proofs.Roots.{root_none, root_one, root_split}
use Rattle.bk_digest.proofs.Splits.{split_exists}
use Rattle.bk_digest.proofs.laws.root_is_merkle_tree_hash.Goals as goal

pub returns : goal.returns
unfolding tagged_of
returns c = record {
  empty = root_none;
  one = root_one;
  more = λ leaves k _ h. root_split leaves k h;
  splits = split_exists;
}
