use Rattle.std.proofs.Common.{sym, subst, ◌∙◌, List, length, ◌≤◌}
use Rattle.bk_base.specs.declared.limits.TheConstants.{MOST_ACCOUNTS}
use Rattle.bk_base.specs.declared.genesis.Row.{Row}
use Rattle.bk_frames.specs.Cutting.{frames_in}
use Rattle.bk_base.specs.Genesis.{AreAccounts}
use Rattle.bk_base.proofs.Accounts.{genesis_accounts, genesis_few}
use Rattle.bk_frames.proofs.feed.Feed.genesis.Goals as goal

pub returns-clause-accounts : goal.returns-clause-accounts
returns-clause-accounts c =
    subst AreAccounts (sym (c.deref.ensures.value ∙ c.self.invariant.1)) (genesis_accounts c.self.inside.version (frames_in c.self.inside.frames.items) c.self.invariant.0)

pub returns-clause-few : goal.returns-clause-few
returns-clause-few c =
    subst (λ (rows : List Row). length rows ≤ MOST_ACCOUNTS) (sym (c.deref.ensures.value ∙ c.self.invariant.1)) (genesis_few (frames_in c.self.inside.frames.items))
