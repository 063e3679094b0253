use Rattle.bk_bundles.proofs.Sound.{is_sound}
use Rattle.bk_bundles.proofs.laws.bundles_are_sound.Goals as goal

pub returns : goal.returns
returns c = is_sound
