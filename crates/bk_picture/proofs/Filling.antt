-- Cells and columns, one more at a time.
use Rattle.std.proofs.Common.{◌≡◌, ℕ, ◌+◌, ◌<◌, ⊎_elim, List, [], ◌∷◌, ◌++◌, length, get_or, sym, ◌∙◌, subst, arith, length-append}
use Rattle.std.specs.Prelude.{slice_index_or}
use Rattle.std.proofs.lemmas.List.{get_or_append_left, get_or_default}
use Rattle.std.proofs.Math.Seq.{get_or-append_seam}
use Rattle.std.proofs.lemmas.Bool.{cases_lt}
use Rattle.bk_views.specs.declared.anchors.AnchorRow.{AnchorRow}
use Rattle.bk_picture.specs.declared.picture.Cell.{Cell}
use Rattle.bk_picture.specs.declared.picture.Column.{Column}
use Rattle.bk_committee.specs.Sizes.{members}
use Rattle.bk_cert.specs.declared.place.CertRef.{CertRef}
use Rattle.bk_picture.specs.Picture.{AreCellsOf, AreColumnsOf, Graph, IsCellOf, IsColumnOf, at_place}
use Rattle.bk_picture.specs.private.Marks.{AreMarks, IsMark}
use Rattle.bk_picture.specs.private.Cells.{AreCellsBelow, AreColumnsBelow}

-- what holds of each of the first n, and of the next, holds of each of the first n + 1
each_more : {X : Type 0} (P : ℕ → X → Type 0) (n : ℕ) (xs : List X) (new : X) → length xs ≡ n → ((k : ℕ) (d : X) → k < n → P k (slice_index_or xs k d)) → P n new
    → (k : ℕ) (d : X) → k < n + 1 → P k (slice_index_or (xs ++ new ∷ []) k d)
each_more {X} P n xs new size each is k d low = ⊎_elim
    (λ lt. subst (P k) (sym (get_or_append_left xs (new ∷ []) d k (omega (arith, size, lt)))) (each k d lt))
    (λ ge. let here : k ≡ n = omega (arith, low, ge) in
    subst (λ (i : ℕ). P i (slice_index_or (xs ++ new ∷ []) i d)) (sym here)
    (subst (λ (i : ℕ). P n (slice_index_or (xs ++ new ∷ []) i d)) size
    (subst (P n) (sym (get_or-append_seam xs new [] d)) is)))
    (cases_lt k n)

pub cells_more : (g : Graph) (from round n : ℕ) (cells : List Cell) (new : Cell) → AreCellsBelow g from round n cells → IsCellOf g from (at_place round n) new
    → AreCellsBelow g from round (n + 1) (cells ++ new ∷ [])
cells_more g from round n cells new h is = record {
  sized = let size = h.sized in omega (arith, length-append cells (new ∷ []), size);
  each = each_more (λ (x : ℕ) (cell : Cell). IsCellOf g from (at_place round x) cell) n cells new h.sized h.each is;
}

pub columns_more : (g : Graph) (rows : List AnchorRow) (from n : ℕ) (columns : List Column) (new : Column) → AreColumnsBelow g rows from n columns → IsColumnOf g rows from (from + n) new
    → AreColumnsBelow g rows from (n + 1) (columns ++ new ∷ [])
columns_more g rows from n columns new h is = record {
  sized = let size = h.sized in omega (arith, length-append columns (new ∷ []), size);
  each = each_more (λ (k : ℕ) (column : Column). IsColumnOf g rows from (from + k) column) n columns new h.sized h.each is;
}

-- ---- all of them

pub cells_all : (g : Graph) (from round n : ℕ) (cells : List Cell) → AreCellsBelow g from round n cells → n ≡ members g.sizes → AreCellsOf g from round cells
cells_all g from round n cells h e = record {
  sized = h.sized ∙ e;
  each = λ x d low. h.each x d (let size = h.sized in omega (arith, size, low));
}

pub columns_all : (g : Graph) (rows : List AnchorRow) (from n count : ℕ) (columns : List Column) → AreColumnsBelow g rows from n columns → n ≡ count → AreColumnsOf g rows from count columns
columns_all g rows from n count columns h e = record {
  sized = h.sized ∙ e;
  each = λ k d low. h.each k d (let size = h.sized in omega (arith, size, low));
}

-- the set of a round
pub mark_at : (order : List CertRef) (from count k set : ℕ) (marks : List ℕ) → AreMarks order from count marks → k < count → set ≡ get_or marks k set → IsMark order (from + k) set
mark_at order from count k set marks h low here =
    subst (IsMark order (from + k)) (get_or_default marks k 0 set (let size = h.sized in omega (arith, size, low)) ∙ sym here) (h.marked k low)
