-- Parts that are put one after another.
use Rattle.std.proofs.Common.{◌≡◌, ℕ, List, [], ◌∷◌, ◌++◌, refl, sym, ap, subst, ◌∙◌}
use Rattle.std.specs.Borrow.{Bor}
use Rattle.std.specs.List.{AllZip, flat_map}
use Rattle.std.specs.Global.{Vec}
use Rattle.bk_base.specs.declared.kind.Kind.{Kind}
use Rattle.bk_base.specs.Feed.{Frame, frame_of}
use Rattle.bk_frames.specs.Cutting.{frames_in}
use Rattle.bk_committee.specs.Payload.{CommitteeValue}
use Rattle.bk_certcheck.specs.declared.finding.Found.{Found}
use Rattle.bk_certcheck.specs.Frames.{IsFound}
use Rattle.bk_certcheck.proofs.Zips.{ungrouped}

pub frames_append : (xs ys : List (Kind × Vec ℕ)) → frames_in (xs ++ ys) ≡ frames_in xs ++ frames_in ys
frames_append [] ys = refl
frames_append (x ∷ xs) ys = ap (λ (fs : List Frame). frame_of x.0 x.1.items ∷ fs) (frames_append xs ys)

frames_of_parts : (ps : List (Bor (List (Kind × Vec ℕ)))) → flat_map (λ (p : Bor (List (Kind × Vec ℕ))). frames_in p.now) ps ≡ frames_in (flat_map (λ (p : Bor (List (Kind × Vec ℕ))). p.now) ps)
frames_of_parts [] = refl
frames_of_parts (p ∷ ps) =
    let rest : List (Kind × Vec ℕ) = flat_map (λ (q : Bor (List (Kind × Vec ℕ))). q.now) ps in
    ap (λ (fs : List Frame). frames_in p.now ++ fs) (frames_of_parts ps) ∙ sym (frames_append p.now rest)

-- what is found of each part is found of all
pub all_found : (k : CommitteeValue) (xs : List (Kind × Vec ℕ)) (ps qs : List (Bor (List (Kind × Vec ℕ)))) (founds : List (Vec Found)) (out : List Found)
    → qs ≡ ps → flat_map (λ (p : Bor (List (Kind × Vec ℕ))). p.now) ps ≡ xs
    → AllZip (λ (p : Bor (List (Kind × Vec ℕ))) (found : Vec Found). AllZip (IsFound k) (frames_in p.now) found.items) qs founds
    → out ≡ flat_map (λ (v : Vec Found). v.items) founds → AllZip (IsFound k) (frames_in xs) out
all_found k xs ps qs founds out same whole each joined =
    subst (λ (fs : List Frame). AllZip (IsFound k) fs out)
    (frames_of_parts qs ∙ ap (λ (rs : List (Bor (List (Kind × Vec ℕ)))). frames_in (flat_map (λ (p : Bor (List (Kind × Vec ℕ))). p.now) rs)) same ∙ ap frames_in whole)
    (subst (λ (os : List Found). AllZip (IsFound k) (flat_map (λ (p : Bor (List (Kind × Vec ℕ))). frames_in p.now) qs) os) (sym joined)
    (ungrouped (IsFound k) (λ (p : Bor (List (Kind × Vec ℕ))). frames_in p.now) (λ (v : Vec Found). v.items) qs founds each))
