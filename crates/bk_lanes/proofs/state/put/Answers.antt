use Rattle.bk_lanes.proofs.Vectors.{chosen_other, chosen_this}
use Rattle.bk_lanes.proofs.state.put.Goals as goal

pub returns-clause-this : goal.returns-clause-this
returns-clause-this c = chosen_this c.args.v c.args.lane c.args.word c.fits-v.0 c.requires

pub returns-clause-others : goal.returns-clause-others
returns-clause-others c = λ i lt ne. chosen_other c.args.v c.args.lane c.args.word i c.fits-v.0 lt ne
