-- The edges of bundles, from the unions of what their places access.
use Rattle.std.proofs.Common.{◌≡◌, ◌⊎◌, ⊎_elim, ℕ, suc, ◌+◌, ◌*◌, ◌^◌, ◌<◌, ◌≤◌, ◌&&◌, ◌||◌, List, [], length, Bool, true, refl, sym, ap, ◌∙◌, subst, arith}
use Rattle.std.proofs.lemmas.Bool.{and_from, or_left, or_right}
use Rattle.bk_conflicts.specs.Scene.{Scene, AreEdges}
use Rattle.bk_conflicts.specs.private.Accesses.{Places, IsAscending, uses, writes, clash_at}
use Rattle.bk_conflicts.specs.private.Rows.{turned}
use Rattle.bk_conflicts.specs.private.Trail.{direct}
use Rattle.bk_conflicts.proofs.Sources.{clash_parts, clash_left, clash_right}
use Rattle.bk_conflicts.proofs.Whole.{AreSound}
use Rattle.bk_bundles.specs.Bundled.{any_of, bundles, bundled}
use Rattle.bk_bundles.specs.Planned.{AreUnions, BundlesArePlanned}
use Rattle.bk_bundles.proofs.Local.{any_some, any_from, bundles_few}
use Rattle.bk_bundles.proofs.Edges.{ArePlanned, edges_of_places}

-- bundles with places that share a slot share it
share : (t u : Places) (w a p q : ℕ) → AreUnions t w u → (i j : ℕ) → i < w → j < w
    → clash_at t a (w * p + i) (w * q + j) ≡ true → clash_at u a p q ≡ true
share t u w a p q h i j l m e =
    let c = clash_parts t a (w * p + i) (w * q + j) e in ⊎_elim
    (λ f. clash_left u a p q (h.written a p (any_from (λ k. writes t a k) (w * p) w i l f)) (h.used a q (any_from (λ k. uses t a k) (w * q) w j m c.1)))
    (λ f. clash_right u a p q (h.used a p (any_from (λ k. uses t a k) (w * p) w i l c.0)) (h.written a q (any_from (λ k. writes t a k) (w * q) w j m f)))
    c.2

shares : (s : Scene) (w : ℕ) (t u : Places) → AreUnions t w u → ((p q : ℕ) → s.clash p q ≡ true → (a : ℕ) × (clash_at t a p q ≡ true))
    → (p q : ℕ) → any_of (λ i. any_of (λ j. s.clash i j) (w * q) w) (w * p) w ≡ true → (a : ℕ) × (clash_at u a p q ≡ true)
shares s w t u h each p q e =
    let i = any_some (λ i. any_of (λ j. s.clash i j) (w * q) w) (w * p) w e in
    let j = any_some (λ j. s.clash (w * p + i.0) j) (w * q) w i.2 in
    let c = each (w * p + i.0) (w * q + j.0) j.2 in
    (c.0, share t u w c.0 p q h i.0 j.0 i.1 j.1 c.1)

pub bundle_edges : (s : Scene) (w : ℕ) (t u : Places) (before : ℕ → ℕ) (next : ℕ → List ℕ) → 0 < w → s.places < 2 ^ 31
    → ((p q : ℕ) → s.clash p q ≡ true → (a : ℕ) × (clash_at t a p q ≡ true))
    → BundlesArePlanned s.places w t u before next → AreEdges (bundled s w before next)
bundle_edges s w t u before next some few each h = edges_of_places (bundled s w before next) u (record {
  sound = record { ascend = h.unions.ascend; beyond = h.beyond };
  few = let a = bundles_few s.places w some in omega arith;
  before_is = h.before_is;
  next_is = h.next_is;
  shares = shares s w t u h.unions each;
})
