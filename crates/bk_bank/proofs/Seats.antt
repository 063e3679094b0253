-- One seat becomes two, and two become one.
use Rattle.std.proofs.Common.{◌≡◌, ⊎_elim, ℕ, ◌+◌, ◌≤◌, List, [], ◌∷◌, ◌++◌, length, set, true, sym, refl, ◌∙◌, subst, arith, length-set, length-append}
use mathlib.Core.Option.{some}
use lib.ListN.{get_elem?}
use Rattle.atomic_table.specs.Table.{Splits, Joins}
use Rattle.atomic_table.proofs.Lists.{set_else}
use Rattle.bk_conflicts.specs.Scene.{Scene}
use Rattle.bk_steps.specs.Course.{Course, free}
use Rattle.bk_bank.specs.declared.view.View.{View}
use Rattle.bk_bank.specs.Rule.{view_scene, ViewOk, IsOrdered, Shows}
use Rattle.bk_bank.specs.Plays.{at_rest, rested, pooled, spent}
use Rattle.bk_bank.proofs.Lists.{each_stays, at_end}
use Rattle.bk_bank.proofs.Places.{list_done_both}
use Rattle.bk_bank.proofs.Stages.{rest_unspent, rest_free}
use Rattle.bk_bank.proofs.Stepping.{Table}

-- the same course, with other views
views_ok : (s : Scene) (t : Table) (d : Course) (r : Shows s d t) (vs : List View) → length t.views ≤ length vs
    → ((j : ℕ) (v : View) → get_elem? vs j ≡ some v → ViewOk s d r.paid r.leaver t.words j v)
    → Shows s d record { words = t.words; homes = t.homes; views = vs }
views_ok s t d r vs longer each = record {
  paid = r.paid;
  leaver = r.leaver;
  sound = r.sound;
  kept = r.kept;
  wide = r.wide;
  values = r.values;
  each_place = r.each_place;
  unpaid = r.unpaid;
  each_view = each;
  beyond = λ j l. r.beyond j (omega arith);
}

pub split_shows : (s : Scene) (d : Course) (t : Table) (r : Shows s d t) (id : ℕ) (v : View) → get_elem? t.views id ≡ some v
    → at_rest (view_scene v) v.stage ≡ true
    → Shows s d record { words = t.words; homes = t.homes; views = set t.views id (rested v) ++ rested v ∷ [] }
split_shows s d t r id v at rest =
    let ok = r.each_view id v at in
    let idle = rest_free s d r.paid r.leaver t.words id (view_scene v) v.stage rest ok.stage in
    let same = ok.scene (rest_unspent (view_scene v) v.stage rest) in
    let vs : List View = set t.views id (rested v) in
    let len : length vs ≡ length t.views = length-set t.views id (rested v) in
    let long : length (vs ++ rested v ∷ []) ≡ length vs + 1 = length-append vs (rested v ∷ []) in
    let ok_at : (j : ℕ) → d.hand j ≡ free → ViewOk s d r.paid r.leaver t.words j (rested v) =
    λ j h. record { stage = h; scene = λ _. same; seen = ok.seen } in
    views_ok s t d r (vs ++ rested v ∷ []) (omega arith) (λ j u e. ⊎_elim
    (λ h. each_stays (ViewOk s d r.paid r.leaver t.words) t.views id (rested v) (ok_at id idle) (λ i x _ a. r.each_view i x a) j u h)
    (λ h. subst (ViewOk s d r.paid r.leaver t.words j) h.1 (ok_at j (r.beyond j (let a = h.0 in omega arith))))
    (at_end vs (rested v) u j e))

pub splits : (s : Scene) (id : ℕ) (v : View) → at_rest (view_scene v) v.stage ≡ true → Splits (IsOrdered s) id v (rested v) (rested v)
splits s id v rest t k at = (k.0, k.1, split_shows s k.0 t k.2 id v at rest)

pub join_shows : (s : Scene) (d : Course) (t : Table) (r : Shows s d t) (id other : ℕ) (v o : View) → get_elem? t.views id ≡ some v
    → get_elem? t.views other ≡ some o → at_rest (view_scene v) v.stage ≡ true → at_rest (view_scene o) o.stage ≡ true
    → Shows s d record { words = t.words; homes = t.homes; views = set (set t.views id (pooled v o)) other spent }
join_shows s d t r id other v o at there rest rest' =
    let ok = r.each_view id v at in
    let ok' = r.each_view other o there in
    let idle = rest_free s d r.paid r.leaver t.words id (view_scene v) v.stage rest ok.stage in
    let idle' = rest_free s d r.paid r.leaver t.words other (view_scene o) o.stage rest' ok'.stage in
    let same = ok.scene (rest_unspent (view_scene v) v.stage rest) in
    let vs : List View = set t.views id (pooled v o) in
    let len : length vs ≡ length t.views = length-set t.views id (pooled v o) in
    let len' : length (set vs other spent) ≡ length vs = length-set vs other spent in
    views_ok s t d r (set vs other spent) (omega arith)
    (each_stays (ViewOk s d r.paid r.leaver t.words) vs other spent record { stage = idle'; scene = λ n. absurd (n refl); seen = tt }
    (λ j u _. each_stays (ViewOk s d r.paid r.leaver t.words) t.views id (pooled v o)
    record { stage = idle; scene = λ _. same; seen = list_done_both d v.seen o.seen ok.seen ok'.seen }
    (λ i x _ a. r.each_view i x a) j u))

pub joins : (s : Scene) (id : ℕ) (v : View) (other : ℕ) (o : View) → at_rest (view_scene v) v.stage ≡ true
    → at_rest (view_scene o) o.stage ≡ true → Joins (IsOrdered s) id v other o (pooled v o) spent
joins s id v other o rest rest' t k at apart there =
    (k.0, k.1, join_shows s k.0 t k.2 id other v o at (sym (set_else t.views id other (pooled v o) apart) ∙ there) rest rest')
