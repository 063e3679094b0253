use Rattle.std.proofs.Common.{◌≡◌, List, ℕ, ◌++◌, ◌∙◌, take, refl, sym, ap, append_assoc, rules, Ok, Err}
use Rattle.std.specs.Prelude.{OnErr}
use Rattle.std.specs.declared.result.Result.{Result}
use Rattle.bk_frames.proofs.CutParts.{payload_kept, begun}
use Rattle.bk_frames.proofs.part.take_payload.Goals as goal

always : {T E : Type 0} (r : Result T E) (P : Type 0) → P → OnErr r P
always (Ok x) P h = tt
always (Err e) P h = h

pub returns-clause-cuts : goal.returns-clause-cuts
returns-clause-cuts c =
    let p = c.args.part.now in
    let items : c.extend_from_slice.new.self.items ≡ p.payload.items ++ take c.min-count.result c.args.piece.now = search rules in
    payload_kept p (take c.min-count.result c.args.piece.now) _ c.requires.frame refl refl refl
    (ap (λ (t : List ℕ). take p.filled p.head ++ t) items ∙ sym (append_assoc (take p.filled p.head) p.payload.items (take c.min-count.result c.args.piece.now)))

pub returns-in_err-make_room-clause-begun : goal.returns-in_err-make_room-clause-begun
returns-in_err-make_room-clause-begun c = always _ _ (begun c.args.part.now c.requires.part c.requires.frame c.requires.full c.length_in-len.ensures.bytes)

pub returns-in_err-extend_from_slice-clause-begun : goal.returns-in_err-extend_from_slice-clause-begun
returns-in_err-extend_from_slice-clause-begun c = always _ _ (begun c.args.part.now c.requires.part c.requires.frame c.requires.full c.length_in-len.ensures.bytes)
