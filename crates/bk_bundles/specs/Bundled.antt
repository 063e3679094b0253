-- Bundles: so many consecutive places of a scene as one place of another scene, with its receipts in words of its own.
use Rattle.std.specs.Prelude.{◌≡◌, ◌≢◌, ℕ, zero, suc, ◌+◌, ◌-◌, ◌*◌, ◌/◌, ◌^◌, ◌<◌, ◌==◌, ◌&&◌, ◌||◌, List, Bool, true, false, nat_lt, nat_le, if◌then◌else◌}
use Rattle.bk_conflicts.specs.Scene.{Scene, AreEdges, IsSound, status_at, moved_at}

-- one of the n places from the first on passes the test
unfoldable pub any_of : (ℕ → Bool) → ℕ → ℕ → Bool
any_of test first zero = false
any_of test first (suc n) = test (first + n) || any_of test first n

-- how many bundles of w there are
abbrev pub bundles : ℕ → ℕ → ℕ
bundles places w = (places + (w - 1)) / w

-- ---- receipts as numbers

-- the moved amount where the status is 0, else the status past all amounts
abbrev pub receipt_number : ℕ → ℕ → ℕ → ℕ
receipt_number top status moved = if status == 0 then moved else top + status

abbrev pub status_from : ℕ → ℕ → ℕ
status_from top number = if nat_lt number top then 0 else number - top

abbrev pub moved_from : ℕ → ℕ → ℕ
moved_from top number = if nat_lt number top then number else 0

-- amounts are below it
abbrev pub top : ℕ
top = 2 ^ 63

-- the receipt of a place by what it reads
abbrev pub receipt_by : Scene → ℕ → (ℕ → ℕ) → ℕ
receipt_by s p f = receipt_number top (s.status p f) (s.moved p f)

-- each receipt of the fold can be told from its number
abbrev pub ReceiptsFit : Scene → Type 0
ReceiptsFit s = (p : ℕ) → (moved_at s p < top) × (status_at s p ≢ 0 → moved_at s p ≡ 0)

-- ---- the words of receipts

-- the word is the receipt of one of the w places from lo on
abbrev pub owns : ℕ → ℕ → ℕ → ℕ → ℕ → Bool
owns words places lo w x = nat_le (words + lo) x && (nat_lt x (words + lo + w) && nat_lt x (words + places))

-- the word is the receipt of a place below lo
abbrev pub is_past : ℕ → ℕ → ℕ → ℕ → Bool
is_past words places lo x = nat_lt x (words + lo) && nat_lt x (words + places)

-- ---- a bundle over local values

-- the words after n places from the first on, each over what those before it left
unfoldable pub locally : Scene → ℕ → (ℕ → ℕ) → ℕ → ℕ → ℕ
locally s first f zero x = f x
locally s first f (suc n) x = if s.writes (first + n) x then s.effect (first + n) (locally s first f n) x else locally s first f n x

-- what the w places from lo on leave in a word
abbrev pub leaves : Scene → ℕ → ℕ → (ℕ → ℕ) → ℕ → ℕ
leaves s lo w f x =
    if nat_lt x s.words then locally s lo f w x
    else receipt_by s (lo + (x - (s.words + lo))) (locally s lo f (x - (s.words + lo)))

-- the word after the first so many places, with the receipts of those
abbrev pub word_after : Scene → ℕ → ℕ → ℕ
word_after s lo x =
    if nat_lt x s.words then s.fold lo x
    else (if is_past s.words s.places lo x then receipt_by s (x - s.words) (s.fold (x - s.words)) else 0)

-- ---- the scene

-- the scene of the bundles of w places
abbrev pub bundled : Scene → ℕ → (ℕ → ℕ) → (ℕ → List ℕ) → Scene
bundled s w before next = record {
  places = bundles s.places w;
  words = s.words + s.places;
  declares = λ b x. any_of (λ p. s.declares p x) (w * b) w || owns s.words s.places (w * b) w x;
  writes = λ b x. any_of (λ p. s.writes p x) (w * b) w || owns s.words s.places (w * b) w x;
  clash = λ a b. any_of (λ p. any_of (λ q. s.clash p q) (w * b) w) (w * a) w;
  before = before;
  next = next;
  fold = λ b. word_after s (w * b);
  effect = λ b. leaves s (w * b) w;
  status = λ b f. 0;
  moved = λ b f. 0;
}

-- ---- laws

-- bundles of a sound scene are one, over sound edges and with room for the receipts
abbrev pub BundlesAreSound : Type 0
BundlesAreSound = (s : Scene) (w : ℕ) (before : ℕ → ℕ) (next : ℕ → List ℕ) → IsSound s → 0 < w
    → AreEdges (bundled s w before next) → s.words + s.places < 2 ^ 32 → IsSound (bundled s w before next)

-- the words after the last bundle: those after the last place, and each place's receipt
pub record LastWords (s : Scene) (f : ℕ → ℕ) : Type 0 where
  pub accounts : (x : ℕ) → x < s.words → f x ≡ s.fold s.places x
  pub statuses : (p : ℕ) → p < s.places → status_from top (f (s.words + p)) ≡ status_at s p
  pub moves : (p : ℕ) → p < s.places → moved_from top (f (s.words + p)) ≡ moved_at s p

abbrev pub LastFoldIsFold : Type 0
LastFoldIsFold = (s : Scene) (w : ℕ) (before : ℕ → ℕ) (next : ℕ → List ℕ) → IsSound s → 0 < w → ReceiptsFit s
    → LastWords s ((bundled s w before next).fold (bundled s w before next).places)
