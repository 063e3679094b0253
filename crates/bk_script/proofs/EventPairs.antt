-- Each event has a line.
use Rattle.std.proofs.Common.{◌≡◌, ℕ, ◌+◌, nat_le, Bool, true, false, if◌then◌else◌, List, [], ◌∷◌, ◌++◌, length, take, Option, Some, None, Result, Ok, Err, refl, sym, ap, subst, ◌∙◌, length-append}
use Rattle.bk_steps.specs.declared.event.Event.{Event}
use Rattle.bk_script.specs.Lines.{is_ascii, is_skipped, words_of}
use Rattle.bk_script.specs.Listing.{ended_lines, lines_of, then_more, listed, crossing, taken_within, listed_within}
use Rattle.bk_script.specs.Events.{EventList, no_events, event_of, with_event, with_event_line}

abbrev ArePaired : EventList → Type 0
ArePaired events = length events.lines ≡ length events.list

line_paired : (x y : Bool) (k a : EventList) (n : ℕ) (e : Option Event) → (if x then (if y then Ok k else with_event k n e) else Err n) ≡ Ok a → ArePaired k → ArePaired a
line_paired false y k a n e eq h = absurd cc
line_paired true true k a n e eq h = let s : k ≡ a = cc in subst ArePaired s h
line_paired true false k a n None eq h = absurd cc
line_paired true false k a n (Some e) eq h =
    let more : EventList = record { list = k.list ++ e ∷ []; lines = k.lines ++ n ∷ [] } in
    let s : more ≡ a = cc in
    subst ArePaired s (length-append k.lines (n ∷ []) ∙ ap (λ m. m + 1) h ∙ sym (length-append k.list (e ∷ [])))

then_paired : (r : Result EventList ℕ) (a : EventList) (next : EventList → Result EventList ℕ) → ((b : EventList) → r ≡ Ok b → ArePaired b)
    → ((b : EventList) → ArePaired b → next b ≡ Ok a → ArePaired a) → then_more r next ≡ Ok a → ArePaired a
then_paired (Ok b) a next first more eq = more b (first b refl) eq
then_paired (Err f) a next first more eq = absurd cc

list_paired : (k a : EventList) (n : ℕ) (lines : List (List ℕ)) → ArePaired k → listed with_event_line k n lines ≡ Ok a → ArePaired a
unfolding listed with_event_line
list_paired k a n [] h eq = let s : k ≡ a = cc in subst ArePaired s h
list_paired k a n (line ∷ lines) h eq =
    then_paired (with_event_line k n line) a (λ b. listed with_event_line b (n + 1) lines) (λ b e. line_paired (is_ascii line) (is_skipped line) k b n (event_of (words_of line)) e h)
    (λ b paired e. list_paired b a (n + 1) lines paired e) eq

either_paired : (b : Bool) (lines : List (List ℕ)) (cut : List ℕ) (a : EventList) → (if b then listed with_event_line no_events 1 lines else crossing with_event_line (λ n. n) no_events cut) ≡ Ok a → ArePaired a
either_paired true lines cut a eq = list_paired no_events a 1 lines refl eq
either_paired false lines cut a eq = then_paired (listed with_event_line no_events 1 (ended_lines cut)) a (λ _. Err (length (lines_of cut))) (λ b e. list_paired no_events b 1 (ended_lines cut) refl e) (λ b paired e. absurd cc) eq

pub events_paired : (most : ℕ) (text : List ℕ) (a : EventList) → listed_within with_event_line no_events most text ≡ Ok a → length a.lines ≡ length a.list
unfolding taken_within
events_paired most text a eq = either_paired (nat_le (length text) most) (lines_of text) (take (most + 1) text) a eq
