-- A whole run of bundles leaves what a whole run of the places leaves.
use Rattle.std.proofs.Common.{◌≡◌, ℕ, ◌+◌, ◌*◌, ◌^◌, ◌<◌, List, refl, sym, ap, ◌∙◌, arith}
use Rattle.bk_conflicts.specs.Scene.{Scene, AreEdges, IsSound}
use Rattle.bk_steps.specs.Course.{Course, done}
use Rattle.bk_steps.specs.Moves.{IsWholeRun}
use Rattle.bk_steps.specs.declared.event.Event.{Event}
use Rattle.bk_steps.proofs.InOrder.{whole_runs_exist}
use Rattle.bk_steps.proofs.Running.{whole_run_fold}
use Rattle.bk_bundles.specs.Bundled.{bundles, bundled, top, status_from, moved_from, word_after, ReceiptsFit, LastWords}
use Rattle.bk_bundles.specs.Planned.{IsRunOf}
use Rattle.bk_bundles.proofs.Last.{last_fold}
use Rattle.bk_bundles.proofs.Sound.{is_sound}

-- words that agree are last words too
words_as : (s : Scene) (f g : ℕ → ℕ) → ((x : ℕ) → f x ≡ g x) → LastWords s g → LastWords s f
words_as s f g e h = record {
  accounts = λ x l. e x ∙ h.accounts x l;
  statuses = λ p l. ap (status_from top) (e (s.words + p)) ∙ h.statuses p l;
  moves = λ p l. ap (moved_from top) (e (s.words + p)) ∙ h.moves p l;
}

-- what a whole run of bundles leaves
pub run_words : (s : Scene) (w : ℕ) (before : ℕ → ℕ) (next : ℕ → List ℕ) → IsSound s → 0 < w → ReceiptsFit s
    → AreEdges (bundled s w before next) → s.words + s.places < 2 ^ 32
    → (es : List Event) (end : Course) → IsWholeRun (bundled s w before next) es end → LastWords s end.value
run_words s w before next h some fit edges room es end run =
    let z = is_sound s w before next h some edges room in
    words_as s end.value (word_after s (w * bundles s.places w)) (whole_run_fold (bundled s w before next) z es end run).values
    (last_fold s w before next h some fit)

-- there is a whole run of the places, and it leaves the same
run_of : (s : Scene) (f : ℕ → ℕ) → IsSound s → LastWords s f → IsRunOf s f
run_of s f h last =
    let there = whole_runs_exist s h in
    let fold = whole_run_fold s h there.0 there.1 there.2 in record {
      events = there.0;
      end = there.1;
      whole = there.2;
      values = λ x l. fold.values x ∙ sym (last.accounts x l);
      receipts = λ p l. fold.receipts p l ∙ (λ i. done (sym (last.statuses p l) i) (sym (last.moves p l) i));
    }

pub runs_are_runs : (s : Scene) (w : ℕ) (before : ℕ → ℕ) (next : ℕ → List ℕ) → IsSound s → 0 < w → ReceiptsFit s
    → AreEdges (bundled s w before next) → s.words + s.places < 2 ^ 32
    → (es : List Event) (end : Course) → IsWholeRun (bundled s w before next) es end → IsRunOf s end.value
runs_are_runs s w before next h some fit edges room es end run = run_of s end.value h (run_words s w before next h some fit edges room es end run)
