-- The bytes of the feed that a script makes.
use Rattle.std.specs.Prelude.{ℕ, List, ◌++◌}
use Rattle.bk_base.specs.declared.version.Version.{Version}
use Rattle.bk_base.specs.declared.kind.Kind.TheVariants as kind
use Rattle.bk_base.specs.declared.genesis.Row.{Row}
use Rattle.bk_base.specs.Genesis.{genesis_text}
use Rattle.bk_base.specs.Feed.{frame_of, frame_text, magic}
use Rattle.bk_script.specs.Sealing.{members_text}

-- the magic, the committee, the genesis, and the bytes of the frames after them
abbrev pub feed_text : Version → List ℕ → List Row → List ℕ → List ℕ
feed_text version weights rows body =
    magic version ++ frame_text (frame_of kind.Committee (members_text version weights)) ++ frame_text (frame_of kind.Genesis (genesis_text rows)) ++ body
