use Rattle.std.proofs.Common.{◌≡◌, ◌<◌, ◌++◌, ◌∷◌, [], ℕ, List, Option, subst, false, Some, ◌∙◌, ap, sym, refl, arith, length}
use Rattle.std.specs.Prelude.{IsSome, option_map}
use Rattle.std.proofs.lemmas.List.{length-append}
use Rattle.bk_rounds.specs.private.Numbered.{id_of}
use Rattle.bk_rounds.specs.private.Names.{known_in}
use Rattle.bk_rounds.specs.declared.slots.Slot.{Slot}
use Rattle.bk_rounds.proofs.Named.{grows_same, grows_pushed, Pushes, id_pushed}
use Rattle.bk_rounds.proofs.names.own_number.Goals as goal

pub returns-in_err-reserve-clause-grows : goal.returns-in_err-reserve-clause-grows
returns-in_err-reserve-clause-grows c =
    grows_same c.args.names.now _ c.requires (record { slots = refl; marks = c.reserve.ensures.items; pending = refl; sets = refl; unmarked = refl })

pub returns-in_err-reserve-2-clause-grows : goal.returns-in_err-reserve-2-clause-grows
returns-in_err-reserve-2-clause-grows c =
    grows_same c.args.names.now _ c.requires (record { slots = refl; marks = c.reserve.ensures.items; pending = refl; sets = c.reserve-2.ensures.items; unmarked = refl })

pub returns-in_err-known-clause-grows : goal.returns-in_err-known-clause-grows
returns-in_err-known-clause-grows c =
    grows_same c.args.names.now _ c.requires (record { slots = c.in_err-known.ensures.err; marks = c.reserve.ensures.items; pending = refl; sets = c.reserve-2.ensures.items; unmarked = refl })

pub returns-in-Some-clause-grows : goal.returns-in-Some-clause-grows
returns-in-Some-clause-grows c =
    grows_same c.args.names.now _ c.requires (record { slots = c.in_ok-known.ensures.known (subst (λ (o : Option (ℕ × Slot)). IsSome o) (sym c.in-Some.is) refl); marks = c.reserve.ensures.items; pending = refl; sets = c.reserve-2.ensures.items; unmarked = refl })

pub returns-in-Some-clause-inside : goal.returns-in-Some-clause-inside
returns-in-Some-clause-inside c =
    let same = c.in_ok-known.ensures.known (subst (λ (o : Option (ℕ × Slot)). IsSome o) (sym c.in-Some.is) refl) in
    let known : known_in c.args.names.now c.args.id.now ≡ Some c.in-Some.known = sym c.in_ok-known.ensures.found ∙ ap (option_map (λ (f : ℕ × Slot). f.0)) c.in-Some.is in
    subst (λ (ss : List Slot). c.in-Some.known < length ss) (sym same) (c.requires.numbering.sound c.args.id.now c.in-Some.known known).0

pub returns-in-Some-clause-id : goal.returns-in-Some-clause-id
returns-in-Some-clause-id c =
    let same = c.in_ok-known.ensures.known (subst (λ (o : Option (ℕ × Slot)). IsSome o) (sym c.in-Some.is) refl) in
    let known : known_in c.args.names.now c.args.id.now ≡ Some c.in-Some.known = sym c.in_ok-known.ensures.found ∙ ap (option_map (λ (f : ℕ × Slot). f.0)) c.in-Some.is in
    ap (λ (ss : List Slot). id_of ss c.in-Some.known) same ∙ (c.requires.numbering.sound c.args.id.now c.in-Some.known known).1

pub returns-clause-grows : goal.returns-clause-grows
returns-clause-grows c =
    let slot : Slot = record { id = c.args.id.now; round = 0; author = 0; cert = 0; parents = c.new.result } in
    let p : Pushes c.args.names.now _ c.args.id.now slot c.none.result = record {
      id_is = refl;
      round_is = refl;
      author_is = refl;
      cert_is = refl;
      none = c.new.ensures.items;
      slots = c.in_ok-known.ensures.new c.in_default.is;
      marks = c.push_reserved.ensures.items ∙ ap (λ xs. xs ++ false ∷ []) c.reserve.ensures.items;
      pending = refl;
      sets = c.push_reserved-2.ensures.items ∙ ap (λ xs. xs ++ c.none.result ∷ []) c.reserve-2.ensures.items;
      unmarked = refl;
    } in
    grows_pushed c.args.names.now _ c.args.id.now slot c.none.result c.requires (sym c.in_ok-known.ensures.found ∙ ap (option_map (λ (f : ℕ × Slot). f.0)) c.in_default.is) p

pub returns-clause-inside : goal.returns-clause-inside
returns-clause-inside c = rw (c.in_ok-known.ensures.new c.in_default.is) (omega (arith, c.len-number.ensures, length-append c.args.names.now.slots))

pub returns-clause-id : goal.returns-clause-id
returns-clause-id c =
    let slot : Slot = record { id = c.args.id.now; round = 0; author = 0; cert = 0; parents = c.new.result } in
    id_pushed c.args.names.now.slots c.first_of.new.self slot c.len-number.result (c.in_ok-known.ensures.new c.in_default.is) c.len-number.ensures
