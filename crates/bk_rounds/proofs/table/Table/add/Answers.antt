use Rattle.std.proofs.Common.{◌≡◌, ◌-◌, ◌≤◌, ◌++◌, ◌∷◌, [], ◌∙◌, ◌↔◌, ℕ, cond, List, Some, None, refl, sym, ap, subst, arith, length, get_or, map}
use Rattle.std.specs.List.{Contains}
use Rattle.std.specs.Ordering.{is_eq}
use Rattle.std.specs.Vec.{with_items}
use Rattle.std.proofs.lemmas.List.{length-set, with_items_is}
use Rattle.std.proofs.lemmas.List.Elements.{Contains-get_or}
use Rattle.bk_committee.specs.Sizes.{Sizes}
use Rattle.bk_cert.specs.Node.{Node}
use Rattle.bk_cert.specs.Values.{HeaderValue}
use Rattle.bk_cert.specs.declared.place.CertRef.{CertRef}
use Rattle.bk_rounds.specs.declared.slots.Slot.{Slot}
use Rattle.bk_rounds.specs.declared.names.Names.{Names}
use Rattle.bk_cert.specs.Place.{place_of, Lists, place_cmp}
use Rattle.bk_rounds.specs.Admission.{IsPresent}
use Rattle.bk_rounds.specs.Rounds.{RoundsValue, IsAddable, rounds_with}
use Rattle.bk_rounds.specs.private.Numbered.{IsTable, IsInside, author_of, parents_of, is_marked, count_unmarked}
use Rattle.bk_index.specs.Places.{number_of}
use Rattle.bk_rounds.specs.private.Tied.{IsWhole, IsTied, place_at}
use Rattle.bk_cert.proofs.Refs.{same_place}
use Rattle.bk_rounds.proofs.Settling.{marked_low}
use Rattle.bk_rounds.proofs.Found.{place_free}
use Rattle.bk_rounds.proofs.Whole.{whole_grown}
use Rattle.bk_rounds.proofs.Adding.{number_free, IsAdding, IsAdmitting, tied_added, good_added, parent_author, whole_added, answer_added, admitting_from, table_from, place_put}
use Rattle.bk_rounds.proofs.table.Table.add.Goals as goal

pub invariant_of-self : goal.invariant_of-self
invariant_of-self c = rw c.in_err-ready.ensures.certs
    (whole_grown c.self.inside.weights c.self.inside.certs.items c.self.inside.names c.prepare.new.names (number_of c.self.inside.places) (number_of c.self.inside.places) c.self.inside.top c.self.invariant
    c.in_err-ready.ensures.grows (λ q. refl))

pub invariant_of-self-in_err-first_of : goal.invariant_of-self-in_err-first_of
invariant_of-self-in_err-first_of c = rw c.in_ok-ready.ensures.certs
    (whole_grown c.self.inside.weights c.self.inside.certs.items c.self.inside.names c.prepare.new.names (number_of c.self.inside.places) (number_of c.first_of.new.self) c.self.inside.top c.self.invariant
    c.in_ok-ready.ensures.grows c.in_err-first_of.ensures.err)

pub admit-requires-clause-table : goal.admit-requires-clause-table
admit-requires-clause-table c =
    let w = whole_grown c.self.inside.weights c.self.inside.certs.items c.self.inside.names c.prepare.new.names (number_of c.self.inside.places) (number_of c.self.inside.places) c.self.inside.top c.self.invariant c.in_ok-ready.ensures.grows (λ q. refl) in
    rw (c.deref_mut.ensures.value) w.table

pub admit-requires-clause-number : goal.admit-requires-clause-number
admit-requires-clause-number c =
    let w = whole_grown c.self.inside.weights c.self.inside.certs.items c.self.inside.names c.prepare.new.names (number_of c.self.inside.places) (number_of c.self.inside.places) c.self.inside.top c.self.invariant c.in_ok-ready.ensures.grows (λ q. refl) in
    let addable = subst (λ (v : RoundsValue). IsAddable v c.args.cert) (sym c.self.view_is) c.requires in
    (c.in_ok-ready.ensures.prepared.inside, number_free c.self.inside.weights c.self.inside.certs.items c.prepare.new.names (number_of c.self.inside.places) c.self.inside.top w c.in_ok-ready.ready.number c.args.cert c.in_ok-ready.ensures.prepared.id addable.new)

pub admit-requires-clause-id : goal.admit-requires-clause-id
admit-requires-clause-id c = c.in_ok-ready.ensures.prepared.id ∙ sym c.id.ensures

pub tell-self-inside-requires-clause-can : goal.tell-self-inside-requires-clause-can
tell-self-inside-requires-clause-can c =
    let z : Sizes = c.self.inside.weights in
    let held : List Node = c.self.inside.certs.items in
    let n : Names = c.prepare.new.names in
    let cert : Node = c.args.cert in
    let k : ℕ = c.in_ok-ready.ready.number in
    let p = c.in_ok-ready.ensures.prepared in
    let w : IsWhole z held n (number_of c.self.inside.places) c.self.inside.top =
    whole_grown c.self.inside.weights c.self.inside.certs.items c.self.inside.names c.prepare.new.names (number_of c.self.inside.places) (number_of c.self.inside.places) c.self.inside.top c.self.invariant c.in_ok-ready.ensures.grows (λ q. refl) in
    let addable : IsAddable (rounds_with z held) cert = subst (λ (v : RoundsValue). IsAddable v c.args.cert) (sym c.self.view_is) c.requires in
    let e_m : (with_items n.marks c.admit.new.marks).items ≡ c.admit.new.marks = with_items_is n.marks c.admit.new.marks (omega (arith, c.admit.auto.marks, ap length c.deref_mut.ensures.value, n.marks.ok.0)) in
    let table : IsTable z c.admit.new.slots c.admit.new.marks c.admit.new.pending = c.admit.ensures.table in
    let slot : Slot = record { id = c.id.result.now; round = c.round.result; author = c.author.result; cert = c.len.result; parents = c.in_ok-ready.ready.parents } in
    let m : Names = record n { slots = c.admit.new.slots; marks = with_items n.marks c.admit.new.marks; pending = c.admit.new.pending } in
    let added : IsAdding held n m cert k slot = record {
      low = p.inside;
      none = number_free c.self.inside.weights c.self.inside.certs.items c.prepare.new.names (number_of c.self.inside.places) c.self.inside.top w c.in_ok-ready.ready.number c.args.cert c.in_ok-ready.ensures.prepared.id addable.new;
      id_here = p.id;
      id = c.id.ensures;
      round = c.round.ensures ∙ ap (λ (h : HeaderValue). h.round) c.header.ensures;
      author = c.author.ensures ∙ ap (λ (h : HeaderValue). h.author) c.header-2.ensures;
      cert = omega (arith, c.len.ensures, ap length c.in_ok-ready.ensures.certs);
      parents = p.parents;
      slots = c.admit.ensures.slots;
    } in
    let from : (d : Node) → Contains held d → 1 ≤ d.header.round = λ d t. (w.good d t).from_one in
    let tied : IsTied (held ++ cert ∷ []) m.slots = tied_added held n m cert k slot added from w.tied in
    record {
      inside = λ j d low.
          let i : ℕ = get_or c.deref.result.now j d in
          let there = subst (λ (xs : List ℕ). Contains xs i) c.deref.ensures.value (Contains-get_or c.deref.result.now j d low) in
          let inside = marked_low c.admit.new.marks i ((c.admit.ensures.out i).0 there).0 in
          omega (arith, inside, table.same, ap length c.as_slice.ensures);
      parents = subst IsInside (sym c.as_slice.ensures) table.inside;
      authors = λ i q there among.
          let mark = ((c.admit.ensures.out i).0 (subst (λ (xs : List ℕ). Contains xs i) c.deref.ensures.value there)).0 in
          let low = parent_author z (held ++ cert ∷ []) m (good_added z held cert w.good addable.good) tied (table_from z m c.admit.new.slots c.admit.new.marks c.admit.new.pending refl e_m refl table) i q
          (ap (λ ms. is_marked ms i) e_m ∙ mark) (subst (λ (ss : List Slot). Contains (parents_of ss i) q) c.as_slice.ensures among) in
          let is : author_of c.as_slice.result.now q ≡ author_of m.slots q = ap (λ (ss : List Slot). author_of ss q) c.as_slice.ensures in
          omega (arith, low, is, w.few);
      same = omega (arith, ap length c.deref_mut-2.ensures.value, w.names.sets, ap length c.as_slice.ensures, ap length c.admit.ensures.slots, length-set {A = Slot});
    }

-- the slot and the names afterwards
abbrev slot_here : goal.After-hand_over → Slot
slot_here c = record { id = c.id.result.now; round = c.round.result; author = c.author.result; cert = c.len.result; parents = c.in_ok-ready.ready.parents }

abbrev names_here : goal.After-hand_over → Names
names_here c = record { slots = c.admit.new.slots; marks = with_items c.prepare.new.names.marks c.admit.new.marks; pending = c.admit.new.pending; sets = with_items c.prepare.new.names.sets c.tell-self-inside.new.sets; unmarked = c.prepare.new.names.unmarked - c.len-2.result }

before : (c : goal.After-hand_over) → IsWhole c.self.inside.weights c.self.inside.certs.items c.prepare.new.names (number_of c.self.inside.places) c.self.inside.top
before c = whole_grown c.self.inside.weights c.self.inside.certs.items c.self.inside.names c.prepare.new.names (number_of c.self.inside.places) (number_of c.self.inside.places) c.self.inside.top c.self.invariant c.in_ok-ready.ensures.grows (λ q. refl)

can : (c : goal.After-hand_over) → IsAddable (rounds_with c.self.inside.weights c.self.inside.certs.items) c.args.cert
can c = subst (λ (v : RoundsValue). IsAddable v c.args.cert) (sym c.self.view_is) c.requires

added : (c : goal.After-hand_over) → IsAdding c.self.inside.certs.items c.prepare.new.names (names_here c) c.args.cert c.in_ok-ready.ready.number (slot_here c)
added c = let w = before c in let addable = can c in record {
  low = c.in_ok-ready.ensures.prepared.inside;
  none = number_free c.self.inside.weights c.self.inside.certs.items c.prepare.new.names (number_of c.self.inside.places) c.self.inside.top w c.in_ok-ready.ready.number c.args.cert c.in_ok-ready.ensures.prepared.id addable.new;
  id_here = c.in_ok-ready.ensures.prepared.id;
  id = c.id.ensures;
  round = c.round.ensures ∙ ap (λ (h : HeaderValue). h.round) c.header.ensures;
  author = c.author.ensures ∙ ap (λ (h : HeaderValue). h.author) c.header-2.ensures;
  cert = omega (arith, c.len.ensures, ap length c.in_ok-ready.ensures.certs);
  parents = c.in_ok-ready.ensures.prepared.parents;
  slots = c.admit.ensures.slots;
}

marks_here : (c : goal.After-hand_over) → (with_items c.prepare.new.names.marks c.admit.new.marks).items ≡ c.admit.new.marks
marks_here c = with_items_is c.prepare.new.names.marks c.admit.new.marks (omega (arith, c.admit.auto.marks, ap length c.deref_mut.ensures.value, c.prepare.new.names.marks.ok.0))

admitted : (c : goal.After-hand_over) → IsAdmitting c.prepare.new.names (names_here c) c.admit.new.out.items c.self.inside.top c.tell-self-inside.result
admitted c =
    let n : Names = c.prepare.new.names in
    let w = before c in
    let e_t : (with_items n.sets c.tell-self-inside.new.sets).items ≡ c.tell-self-inside.new.sets = with_items_is n.sets c.tell-self-inside.new.sets (omega (arith, c.tell-self-inside.auto.sets, ap length c.deref_mut-2.ensures.value, n.sets.ok.0)) in
    let waits : n.unmarked - c.len-2.result ≡ count_unmarked (with_items n.marks c.admit.new.marks).items =
    omega (arith, c.admit.ensures.steps, c.len-2.ensures, w.names.waiting, ap count_unmarked (marks_here c), ap count_unmarked c.deref_mut.ensures.value) in
    admitting_from n (names_here c) c.admit.new.out.items c.deref.result.now c.self.inside.top c.tell-self-inside.result c.deref_mut.result.now c.admit.new.marks c.as_slice.result.now c.deref_mut-2.result.now c.tell-self-inside.new.sets
    c.deref_mut.ensures.value (marks_here c) (sym c.as_slice.ensures) c.deref_mut-2.ensures.value e_t c.deref.ensures.value c.tell-self-inside.auto.sets
    waits c.admit.ensures.stay c.admit.ensures.out c.tell-self-inside.ensures.told

whole : (c : goal.After-hand_over) → IsWhole c.self.inside.weights (c.self.inside.certs.items ++ c.args.cert ∷ []) (names_here c) (number_of c.first_of.new.self) c.tell-self-inside.result
whole c =
    let z : Sizes = c.self.inside.weights in
    let held : List Node = c.self.inside.certs.items in
    let n : Names = c.prepare.new.names in
    let cert : Node = c.args.cert in
    let k : ℕ = c.in_ok-ready.ready.number in
    let addable = can c in
    let here : CertRef = record { round = c.round.result; author = c.author.result } in
    let place : here ≡ place_of cert = same_place here (place_of cert) (c.round.ensures ∙ ap (λ (h : HeaderValue). h.round) c.header.ensures) (c.author.ensures ∙ ap (λ (h : HeaderValue). h.author) c.header-2.ensures) in
    let none_there : c.in_ok-first_of.field-0 ≡ None = c.in_ok-first_of.ensures.found ∙ (ap (number_of c.self.inside.places) place ∙ place_free z held n (number_of c.self.inside.places) c.self.inside.top (before c) (place_of cert) addable.free) in
    let up = place_put (number_of c.self.inside.places) (number_of c.first_of.new.self) (place_of cert) k
    (λ q. c.in_ok-first_of.ensures.new none_there q ∙ (λ i. cond (is_eq (place_cmp (place i) q)) (Some k) (number_of c.self.inside.places q))) in
    whole_added z held n (names_here c) cert k (slot_here c) (number_of c.self.inside.places) (number_of c.first_of.new.self) c.self.inside.top c.tell-self-inside.result c.admit.new.out.items (before c) (added c) addable.good addable.new addable.free up
    (table_from z (names_here c) c.admit.new.slots c.admit.new.marks c.admit.new.pending refl (marks_here c) refl c.admit.ensures.table) (admitted c)

certs : (c : goal.After-hand_over) → c.push_reserved.new.self.items ≡ c.self.inside.certs.items ++ c.args.cert ∷ []
certs c = c.push_reserved.ensures.items ∙ ap (λ (xs : List Node). xs ++ c.args.cert ∷ []) c.in_ok-ready.ensures.certs

pub invariant_of-self-2 : goal.invariant_of-self-2
invariant_of-self-2 c = rw (certs c) (whole c)

pub returns-clause-answer : goal.returns-clause-answer
returns-clause-answer c =
    let z : Sizes = c.self.inside.weights in
    let held : List Node = c.self.inside.certs.items in
    let out : List ℕ = c.admit.new.out.items in
    let told : List CertRef = c.hand_over.result.items in
    let answer : c.tell-self-inside.new.answer.items ≡ map (place_at c.admit.new.slots) out = c.tell-self-inside.ensures.answer ∙ (λ i. map (place_at (c.as_slice.ensures i)) (c.deref.ensures.value i)) in
    let lists : Lists told (λ a. IsPresent z (held ++ c.args.cert ∷ []) a × (IsPresent z held a → ⊥)) =
    answer_added z held c.prepare.new.names (names_here c) c.args.cert c.in_ok-ready.ready.number (slot_here c) (number_of c.self.inside.places) (number_of c.first_of.new.self) c.self.inside.top c.tell-self-inside.result out told (before c) (whole c) (added c) (admitted c)
    c.hand_over.ensures.listed (λ a. subst (λ (xs : List CertRef). Contains told a ↔ Contains xs a) answer (c.hand_over.ensures.same a)) in
    subst (λ (xs : List Node). Lists told (λ a. IsPresent z xs a × (IsPresent c.args.self.now.sizes c.args.self.now.held a → ⊥))) (sym (certs c))
    (subst (λ (v : RoundsValue). Lists told (λ a. IsPresent z (held ++ c.args.cert ∷ []) a × (IsPresent v.sizes v.held a → ⊥))) c.self.view_is lists)
