-- Which links a picture shows, as `--links` names them.
use Rattle.std.specs.Prelude.{◌≡◌, Option, codes, option_map}
use Rattle.clap.specs.Words.{Text}
use Rattle.bk_cli.specs.declared.links.Links.{Links}
use Rattle.bk_cli.specs.declared.links.Links.TheVariants as links

-- the word for each
abbrev pub links_word : Links → Text
links_word links.All = codes "all"
links_word links.Votes = codes "votes"
links_word links.Hidden = codes "none"

-- the value of `--links` is the word for the links; there is none where no links are named
abbrev pub AreLinksIn : Option Text → Option Links → Type 0
AreLinksIn value named = value ≡ option_map links_word named

-- the value of `--links` is the word for no links
abbrev pub LacksLinks : Option Text → Type 0
LacksLinks value = (named : Option Links) → AreLinksIn value named → ⊥
