use Rattle.bk_digest.specs.Digest.{tagged_of}
use Rattle.bk_digest.proofs.Climbs.{climb_one, climb_one_long, climb_short, climb_left, climb_right}
use Rattle.bk_digest.proofs.Splits.{split_exists}
use Rattle.bk_digest.proofs.laws.climb_goes_up.Goals as goal

pub returns : goal.returns
unfolding tagged_of
returns c = record {
  one = climb_one;
  too_many = climb_one_long;
  too_few = λ hash i size more. let k = split_exists size more in climb_short hash i size k.0 k.1;
  left = λ hash i size k rest last _ h side. climb_left hash i size k rest last h side;
  right = λ hash i size k rest last _ h side _. climb_right hash i size k rest last h side;
}
