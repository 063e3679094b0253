-- The version of a feed, once it is known, stays.
use Rattle.std.proofs.Common.{◌≡◌, ◌∙◌, ℕ, ◌≤◌, List, ◌++◌, length, sym, ap, refl, Option, Some, None, arith, append_assoc}
use Rattle.bk_base.specs.declared.version.Version.{Version}
use Rattle.bk_base.specs.Feed.{Frame, feed_of, magic}
use Rattle.bk_commit.specs.Growth.{IsPrefix}
use Rattle.bk_frames.specs.Cutting.{Cut, Cuts, fresh}
use Rattle.bk_frames.proofs.CutJoining.{bytes_so_far, none_before_magic}
use Rattle.bk_frames.proofs.OneReading.{magic_and, magic_injective}

-- the magic stands first
front : (bytes : List ℕ) (frames : List Frame) (c : Cut) (version : Version) → Cuts fresh bytes frames c → c.version ≡ Some version
    → (rest : List ℕ) × (bytes ≡ magic version ++ rest)
front bytes frames c version cuts is =
    let b = (bytes_so_far bytes frames c version cuts is).0 in
    (_, b.spelled ∙ magic_and (feed_of version frames) c.kept)

one_version : (bytes all : List ℕ) (frames whole : List Frame) (c d : Cut) (v w : Version) → IsPrefix bytes all → Cuts fresh bytes frames c → Cuts fresh all whole d
    → c.version ≡ Some v → d.version ≡ Some w → v ≡ w
one_version bytes all frames whole c d v w longer cuts then is also =
    let first = front bytes frames c v cuts is in
    let second = front all whole d w then also in
    (magic_injective v w (first.0 ++ longer.0) second.0 (sym (append_assoc (magic v) first.0 longer.0) ∙ (sym (ap (λ (t : List ℕ). t ++ longer.0) first.1) ∙ (sym longer.1 ∙ second.1)))).0

-- where a frame is whole, the version was known before
pub known_before : (bytes all : List ℕ) (frames whole : List Frame) (c d : Cut) (version : Version) → IsPrefix bytes all → Cuts fresh bytes frames c → Cuts fresh all whole d
    → 2 ≤ length frames → d.version ≡ Some version → c.version ≡ Some version
known_before bytes all frames whole c d version longer cuts then two is = by_version c.version refl
  where
    by_version : (o : Option Version) → c.version ≡ o → c.version ≡ Some version
    by_version None e = let at = none_before_magic bytes frames c cuts e in absurd (omega (arith, two, ap length at.0))
    by_version (Some v) e = e ∙ ap (λ (x : Version). Some x) (one_version bytes all frames whole c d v version longer cuts then e is)
