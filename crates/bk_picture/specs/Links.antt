-- Which links between certificates are drawn.
use Rattle.std.specs.Prelude.{ℕ, nat_le, Option, Some, None, if◌then◌else◌}
use Rattle.bk_picture.specs.declared.links.Links.{Links}
use Rattle.bk_picture.specs.declared.links.Links.TheVariants as links
use Rattle.bk_picture.specs.declared.links.TheConstants.{MOST_LINKED}

-- those that are asked for; where none are named, all of up to 16 members, and of more the votes alone
abbrev pub links_for : Option Links → ℕ → Links
links_for (Some asked) members = asked
links_for None members = if nat_le members MOST_LINKED then links.All else links.Votes
