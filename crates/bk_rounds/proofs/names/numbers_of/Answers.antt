use Rattle.std.proofs.Common.{◌≡◌, ◌+◌, ◌++◌, ◌∷◌, [], ℕ, List, ◌∙◌, ap, sym, refl, arith, length, map, take, get_or}
use Rattle.std.proofs.lemmas.List.{take_more}
use Rattle.bk_rounds.specs.private.Numbered.{id_of}
use Rattle.bk_rounds.proofs.Named.{grows_same, grows_on, map_push, ids_kept, inside_more, inside_push}
use Rattle.bk_rounds.proofs.names.numbers_of.Goals as goal

pub returns-in_err-numbers-clause-grows : goal.returns-in_err-numbers-clause-grows
returns-in_err-numbers-clause-grows c = grows_same _ _ c.requires (record { slots = refl; marks = refl; pending = refl; sets = refl; unmarked = refl })

pub loop-id-init : goal.loop-id-init
loop-id-init c = record {
  grows = grows_same _ _ c.requires (record { slots = refl; marks = refl; pending = refl; sets = refl; unmarked = refl });
  ids = ap (map (id_of c.args.names.now.slots)) c.in_ok-numbers.ensures.items;
  inside = rw c.in_ok-numbers.ensures.items (λ k d low. absurd (omega arith));
}

pub returns-in_err-number-clause-grows : goal.returns-in_err-number-clause-grows
returns-in_err-number-clause-grows c = grows_on c.args.names.now c.loop-id.names c.number_near.new.names c.loop-id.invariant.grows c.in_err-number.ensures.grows

pub returns-in_err-push-clause-grows : goal.returns-in_err-push-clause-grows
returns-in_err-push-clause-grows c = grows_on c.args.names.now c.loop-id.names c.number_near.new.names c.loop-id.invariant.grows c.in_ok-number.ensures.grows

pub loop-id-preserved : goal.loop-id-preserved
loop-id-preserved c =
    let old = c.loop-id.names in
    let new = c.number_near.new.names in
    let ps : List ℕ = c.loop-id.numbers.items in
    let k : ℕ = c.in_ok-number.number in
    let here : id_of new.slots k ≡ get_or c.args.ids.now c.loop-id.id-index c.id-item.result = c.in_ok-number.ensures.id ∙ c.id-item.is in
    let all : map (id_of new.slots) (ps ++ k ∷ []) ≡ take (c.loop-id.id-index + 1) c.args.ids.now =
    map_push (id_of new.slots) ps k
    ∙ ((λ i. (ids_kept old new ps c.in_ok-number.ensures.grows c.loop-id.invariant.inside ∙ c.loop-id.invariant.ids) i ++ here i ∷ [])
    ∙ sym (take_more c.args.ids.now c.loop-id.id-index c.id-item.result c.loop-id-test.true)) in
    record {
      grows = grows_on c.args.names.now old new c.loop-id.invariant.grows c.in_ok-number.ensures.grows;
      ids = ap (map (id_of new.slots)) c.in_ok-push.ensures.items ∙ all;
      inside = rw c.in_ok-push.ensures.items (inside_push (length new.slots) ps k
          (inside_more (length old.slots) (length new.slots) ps c.in_ok-number.ensures.grows.longer c.loop-id.invariant.inside) c.in_ok-number.ensures.inside);
    }
