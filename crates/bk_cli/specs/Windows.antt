-- What of a feed a picture shows.
use Rattle.std.specs.Prelude.{ℕ, Option}
use Rattle.bk_cli.specs.declared.links.Links.{Links}

-- the first round, how many rounds they are, and which links, if they are named
pub record WindowValue : Type 0 where
  pub from : ℕ
  pub rounds : ℕ
  pub links : Option Links

-- these
abbrev pub window : ℕ → ℕ → Option Links → WindowValue
window from rounds links = record { from = from; rounds = rounds; links = links }
