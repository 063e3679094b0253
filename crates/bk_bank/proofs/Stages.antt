-- The stages of seats.
use Rattle.std.proofs.Common.{◌≡◌, ◌≢◌, ℕ, List, get_or, Bool, true, false, sym, ap, ◌∙◌, subst}
use Rattle.bk_conflicts.specs.Scene.{Scene}
use Rattle.bk_steps.specs.Course.{Course, free, busy, IsDone}
use Rattle.bk_bank.specs.declared.view.Stage.{Stage}
use Rattle.bk_bank.specs.declared.view.Stage.TheVariants.{Idle, Holding, Leaving, Spent}
use Rattle.bk_bank.specs.declared.view.View.{View}
use Rattle.bk_bank.specs.Rule.{StageOk, moved_word, view_scene}
use Rattle.bk_bank.specs.Plays.{at_rest, IsAtRest, reads_of, writes_of, found_of, holding}

pub rest_unspent : (s : Scene) (st : Stage) → at_rest s st ≡ true → st ≢ Spent
rest_unspent s Idle e z = cc
rest_unspent s (Holding p rs ws mv) e z = cc
rest_unspent s (Leaving p k f) e z = cc
rest_unspent s Spent e z = cc

-- a seat at rest holds no place
pub rest_free : (s : Scene) (d : Course) (paid leaver : ℕ → ℕ) (words : List ℕ) (id : ℕ) (z : Scene) (st : Stage)
    → at_rest z st ≡ true → StageOk s d paid leaver words id st → d.hand id ≡ free
rest_free s d paid leaver words id z Idle e h = h
rest_free s d paid leaver words id z (Holding p rs ws mv) e h = absurd (let no : false ≡ true = e in cc)
rest_free s d paid leaver words id z (Leaving p k f) e h = h.0
rest_free s d paid leaver words id z Spent e h = h

pub holding_unspent : (st : Stage) (p : ℕ) (rs : List (ℕ × ℕ)) (ws : List ℕ) (mv : Bool) → st ≡ Holding p rs ws mv → st ≢ Spent
holding_unspent st p rs ws mv e z = let no : Holding p rs ws mv ≡ Spent = sym e ∙ z in cc

pub leaving_unspent : (st : Stage) (p k f : ℕ) → st ≡ Leaving p k f → st ≢ Spent
leaving_unspent st p k f e z = let no : Leaving p k f ≡ Spent = sym e ∙ z in cc

-- the stage of another seat, after a step
pub stage_stays : (s : Scene) (d next : Course) (paid paid' leaver leaver' : ℕ → ℕ) (words words' : List ℕ) (j : ℕ) (st : Stage)
    → next.hand j ≡ d.hand j
    → ((q : ℕ) → IsDone (d.phase q) → IsDone (next.phase q))
    → ((q : ℕ) → IsDone (d.phase q) → leaver q ≡ j → (paid' q ≡ paid q) × (leaver' q ≡ j))
    → ((q : ℕ) (rs : List (ℕ × ℕ)) (ws : List ℕ) → d.hand j ≡ busy q rs ws
    → get_or words' (moved_word s q) 0 ≡ get_or words (moved_word s q) 0)
    → StageOk s d paid leaver words j st → StageOk s next paid' leaver' words' j st
stage_stays s d next paid paid' leaver leaver' words words' j Idle hand dones leaves moves h = hand ∙ h
stage_stays s d next paid paid' leaver leaver' words words' j (Holding p rs ws mv) hand dones leaves moves h =
    (hand ∙ h.0, λ e. moves p rs ws h.0 ∙ h.1 e)
stage_stays s d next paid paid' leaver leaver' words words' j (Leaving p k f) hand dones leaves moves h =
    let l = leaves p h.2 h.4 in (hand ∙ h.0, h.1, dones p h.2, l.0 ∙ h.3, l.1)
stage_stays s d next paid paid' leaver leaver' words words' j Spent hand dones leaves moves h = hand ∙ h

-- the view after a step, by its own fields

pub is_holding : (v : View) (p : ℕ) (rs : List (ℕ × ℕ)) (ws : List ℕ) → v.stage ≡ Holding p rs ws false
    → v.stage ≡ holding v p
is_holding v p rs ws e = e ∙ sym (ap (λ (st : Stage). Holding p (reads_of st) (writes_of st) false) e)

pub is_leaving : (v : View) (p k f : ℕ) → v.stage ≡ Leaving p k f → v.stage ≡ Leaving p k (found_of v.stage)
is_leaving v p k f e = e ∙ sym (ap (λ (st : Stage). Leaving p k (found_of st)) e)

pub rests : (v w : View) → view_scene w ≡ view_scene v → w.stage ≡ v.stage → IsAtRest v → IsAtRest w
rests v w a b h = subst (λ (z : Scene × Stage). at_rest z.0 z.1 ≡ true) (λ i. (sym a i, sym b i)) h
