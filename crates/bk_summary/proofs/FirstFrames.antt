-- The payloads of the first two frames are the encodings of what is read of them.
use Rattle.std.proofs.Common.{◌≡◌, List, [], ◌∷◌, Option, Some, None, refl, sym, ap, ◌∙◌, arith}
use Rattle.std.specs.Prelude.{IsTrue, is_some, unwrap_or}
use Rattle.sha2.specs.Sha256.{sha256}
use Rattle.bk_base.specs.declared.version.Version.{Version}
use Rattle.bk_base.specs.declared.genesis.Row.{Row}
use Rattle.bk_base.specs.Feed.{Frame, IsFeed, feed_of, genesis_of}
use Rattle.bk_base.specs.Genesis.{genesis_text, rows_of}
use Rattle.bk_base.specs.Numbers.{IsBytes}
use Rattle.bk_base.proofs.GenesisGrammar.{genesis_spelled}
use Rattle.bk_committee.specs.Payload.{committee_bytes}
use Rattle.bk_committee.proofs.Grammar.{encoded}
use Rattle.bk_answer.specs.RunReport.{committee_in}
use Rattle.bk_summary.specs.Laws.{payload_in, DigestsAreOfPayloads}

committee_spelled : (version : Version) (frames : List Frame) → IsFeed (feed_of version frames) → IsBytes (payload_in (feed_of version frames) 0)
    → payload_in (feed_of version frames) 0 ≡ committee_bytes (committee_in (feed_of version frames))
committee_spelled version [] feed fits = absurd (omega (arith, feed.opened))
committee_spelled version (f ∷ more) feed fits = (encoded version f.payload fits (feed.good.0.committee refl)).1

accounts_spelled : (version : Version) (frames : List Frame) → IsFeed (feed_of version frames) → IsBytes (payload_in (feed_of version frames) 1)
    → payload_in (feed_of version frames) 1 ≡ genesis_text (genesis_of frames)
accounts_spelled version [] feed fits = absurd (omega (arith, feed.opened))
accounts_spelled version (f ∷ []) feed fits = absurd (omega (arith, feed.opened))
accounts_spelled version (f ∷ g ∷ more) feed fits = found (rows_of g.payload) refl (feed.good.1.0.genesis refl)
  where
    found : (r : Option (List Row)) → rows_of g.payload ≡ r → IsTrue (is_some r) → g.payload ≡ genesis_text (unwrap_or r [])
    found (Some rows) e h = (genesis_spelled g.payload rows fits e).1
    found None e h = absurd cc

pub of_payloads : DigestsAreOfPayloads
of_payloads = λ feed s good first second is. (
  is.committee ∙ ap sha256 (sym (committee_spelled feed.version feed.frames good first)),
  is.genesis ∙ ap sha256 (sym (accounts_spelled feed.version feed.frames good second)),
)
