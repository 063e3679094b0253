use Rattle.std.proofs.Common.{◌≡◌, ℕ, ◌<◌, zero, suc, ◌==◌, Bool, true, false, ◌||◌, List, [], ◌∷◌, length, get_or, None, refl, sym, ap, ◌∙◌, arith}
use Rattle.std.specs.Prelude.{is_some}
use Rattle.std.specs.List.{position, list_any}
use Rattle.std.proofs.lemmas.Bool.{eqb-true, eqb-false}
use Rattle.bk_rules.proofs.Places.{position_is}
use Rattle.std.proofs.lemmas.List.Quantifiers.{position-Some}
use Rattle.std.proofs.lemmas.Option.{slice_get-get_or}
use Rattle.bk_digest.specs.Tree.{path_of, root_of}
use Rattle.bk_base.specs.declared.genesis.Row.{Row}
use Rattle.bk_report.specs.Proofs.{IsAbsent}
use Rattle.bk_report.proofs.proof.proof_of.Goals as goal

or_none : (a b : Bool) → (a || b) ≡ false → (a ≡ false) × (b ≡ false)
or_none true b e = absurd cc
or_none false b e = (refl, e)

-- where no element passes, none of them does
none_passes : (p : Row → Bool) (rows : List Row) (k : ℕ) (d : Row) → list_any p rows ≡ false → k < length rows → p (get_or rows k d) ≡ false
none_passes p [] k d e lt = absurd (omega arith)
none_passes p (r ∷ rows) zero d e lt = (or_none (p r) (list_any p rows) e).0
none_passes p (r ∷ rows) (suc k) d e lt = none_passes p rows k d (or_none (p r) (list_any p rows) e).1 (omega arith)

absent : (rows : List Row) (id : ℕ) → position (λ (r : Row). r.id == id) rows ≡ None → IsAbsent rows id
absent rows id e r (k, lt, at) same =
    let none : list_any (λ (x : Row). x.id == id) rows ≡ false = sym (position_is (λ (x : Row). x.id == id) rows) ∙ ap is_some e in
    let other = none_passes (λ (x : Row). x.id == id) rows k r none lt in
    eqb-false _ _ other (ap (λ (x : Row). x.id) at ∙ same)

pub returns-in_default : goal.returns-in_default
returns-in_default g c = absent c.args.rows.now c.args.id (sym c.find.ensures ∙ c.in_default.is)

pub returns : goal.returns
returns g c =
    let at = position-Some (λ (r : Row). r.id == c.args.id) c.args.rows.now c.in-Some.index _ (sym c.find.ensures ∙ c.in-Some.is) in
    record {
      found = slice_get-get_or c.args.rows.now c.in-Some.index _ at.0;
      same_id = eqb-true _ _ at.1;
      size = refl;
      path = c.in_ok-path.ensures ∙ ap (λ (t : List (List ℕ)). path_of t c.in-Some.index) (c.deref.ensures.value ∙ c.in_ok-leaves.ensures);
      state = c.tree_root_with.ensures ∙ ap root_of (c.deref-2.ensures.value ∙ c.in_ok-leaves.ensures);
    }
