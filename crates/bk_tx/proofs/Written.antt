-- Lists that were written one after another.
use Rattle.std.proofs.Common.{◌≡◌, List, ℕ, ◌++◌, append_assoc}

pub put_four : (old a b c d w x y z : List ℕ) → a ≡ old ++ w → b ≡ a ++ x → c ≡ b ++ y → d ≡ c ++ z → d ≡ old ++ (w ++ x ++ y ++ z)
put_four old a b c d w x y z e0 e1 e2 e3 = rw (e3, e2, e1, e0) (simp append_assoc)
