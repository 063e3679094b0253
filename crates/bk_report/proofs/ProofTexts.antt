-- The text of a proof, a line at a time.
use Rattle.std.proofs.Common.{◌≡◌, ℕ, ◌+◌, ◌<◌, ◌≤◌, List, [], ◌∷◌, ◌++◌, length, get_or, take, Some, sym, ap, ◌∙◌, append_assoc}
use Rattle.std.specs.Prelude.{slice_get}
use Rattle.std.proofs.lemmas.List.{append-nil, take_all}
use Rattle.std.proofs.lemmas.List.Concat.{flat_map-append, flat_map-cons}
use Rattle.bk_report.specs.declared.line.Line.{Line}
use Rattle.bk_report.specs.declared.line.Line.TheVariants as line
use Rattle.bk_report.specs.Lines.{line_text, text_of}
use Rattle.bk_report.specs.Proofs.{ProofValue, path_lines, proof_text}
use Rattle.bk_report.proofs.LineGroups.{line_of_item, all_items}
use Rattle.bk_report.proofs.Putting.{text_next}

-- a line after the text of lines
line_behind : (xs : List Line) (l : Line) (old new : List ℕ) → old ≡ text_of xs → new ≡ old ++ (line_text l ++ 10 ∷ []) → new ≡ text_of (xs ++ l ∷ [])
line_behind xs l old new before grown =
    grown ∙ ap (λ (t : List ℕ). t ++ (line_text l ++ 10 ∷ [])) before
    ∙ sym (flat_map-append (λ (x : Line). line_text x ++ 10 ∷ []) xs (l ∷ []) ∙ ap (λ (t : List ℕ). text_of xs ++ t) (flat_map-cons (λ (x : Line). line_text x ++ 10 ∷ []) l [] ∙ append-nil (line_text l ++ 10 ∷ [])))

-- the lines of a proof, put one after the other
pub proof_text_is : (p : ProofValue) (none state size index account all : List ℕ) → none ≡ [] → state ≡ none ++ (line_text (line.State p.state) ++ 10 ∷ []) → size ≡ state ++ (line_text (line.Size p.size) ++ 10 ∷ [])
    → index ≡ size ++ (line_text (line.Index p.index) ++ 10 ∷ []) → account ≡ index ++ (line_text (line.Account p.account.id p.account.balance p.account.seq) ++ 10 ∷ []) → all ≡ account ++ text_of (path_lines p.path) → all ≡ proof_text p
proof_text_is p none state size index account all empty one two three four five =
    let a = line_behind [] (line.State p.state) none state empty one in
    let b = line_behind (line.State p.state ∷ []) (line.Size p.size) state size a two in
    let c = line_behind (line.State p.state ∷ line.Size p.size ∷ []) (line.Index p.index) size index b three in
    let d = line_behind (line.State p.state ∷ line.Size p.size ∷ line.Index p.index ∷ []) (line.Account p.account.id p.account.balance p.account.seq) index account c four in
    five ∙ ap (λ (t : List ℕ). t ++ text_of (path_lines p.path)) d
    ∙ sym (flat_map-append (λ (x : Line). line_text x ++ 10 ∷ []) (line.State p.state ∷ line.Size p.size ∷ line.Index p.index ∷ line.Account p.account.id p.account.balance p.account.seq ∷ []) (path_lines p.path))

-- one digest more
pub path_pushed : (path : List (List ℕ)) (i : ℕ) (d start old new : List ℕ) → i < length path → d ≡ get_or path i d → old ≡ start ++ text_of (take i (path_lines path)) → new ≡ old ++ (line_text (line.Path d) ++ 10 ∷ [])
    → new ≡ start ++ text_of (take (i + 1) (path_lines path))
path_pushed path i d start old new lt same before grown =
    let found : slice_get (path_lines path) i ≡ Some (line.Path d) = line_of_item (λ (digest : List ℕ). line.Path digest) path i d lt ∙ ap (λ (t : List ℕ). Some (line.Path t)) (sym same) in
    grown ∙ ap (λ (t : List ℕ). t ++ (line_text (line.Path d) ++ 10 ∷ [])) before ∙ append_assoc start (text_of (take i (path_lines path))) (line_text (line.Path d) ++ 10 ∷ [])
    ∙ ap (λ (t : List ℕ). start ++ t) (sym (text_next (path_lines path) i (line.Path d) found))

-- all digests
pub path_done : (path : List (List ℕ)) (i : ℕ) (start new : List ℕ) → length path ≤ i → new ≡ start ++ text_of (take i (path_lines path)) → new ≡ start ++ text_of (path_lines path)
path_done path i start new le before = before ∙ ap (λ (t : List Line). start ++ text_of t) (take_all i (path_lines path) (all_items (λ (digest : List ℕ). line.Path digest) path i le))
