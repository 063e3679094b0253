use Rattle.std.proofs.Common.{◌≡◌, ◌∙◌, ◌++◌, ◌∷◌, ℕ, List, sym, ap, subst, arith, length}
use Rattle.std.specs.List.{Contains}
use Rattle.std.proofs.lemmas.List.{with_items_is}
use Rattle.bk_cert.specs.Place.{Lists}
use Rattle.bk_cert.specs.declared.place.CertRef.{CertRef}
use Rattle.bk_commit.specs.Ordering.{InHistory}
use Rattle.bk_commit.proofs.Grown.{walk_present}
use Rattle.bk_commit.proofs.Last.{present_member}
use Rattle.bk_commit.proofs.Levels.{reached_round}
use Rattle.bk_flatten.specs.Order.{IsOrder, IsKept}
use Rattle.bk_flatten.specs.private.Part.{AreMarks, IsNew}
use Rattle.bk_flatten.proofs.Extended.{extended, kept_closed}
use Rattle.bk_flatten.proofs.Parts.{IsMarked, marks_added}
use Rattle.bk_flatten.proofs.flat.Flat.extend.Goals as goal

pub part_of-requires-clause-closed : goal.part_of-requires-clause-closed
part_of-requires-clause-closed c = kept_closed c.args.rounds.now.sizes c.args.rounds.now.held c.args.anchor c.args.self.now c.requires.kept

pub mark-requires-clause-rounds : goal.mark-requires-clause-rounds
mark-requires-clause-rounds c = λ b t.
    let h = (c.in_ok-part.ensures.sound b (subst (λ (xs : List CertRef). Contains xs b) c.deref-2.ensures.value t)).0 in
    let low = reached_round c.args.rounds.now.sizes c.args.rounds.now.held c.args.anchor b h in
    omega (arith, low, c.in_ok-make_rows.ensures.long, ap length c.deref_mut.ensures.value)

pub mark-requires-clause-authors : goal.mark-requires-clause-authors
mark-requires-clause-authors c = λ b t.
    let z = c.args.rounds.now.sizes in
    let held = c.args.rounds.now.held in
    let h = (c.in_ok-part.ensures.sound b (subst (λ (xs : List CertRef). Contains xs b) c.deref-2.ensures.value t)).0 in
    let low = present_member z held b c.sound.ensures.good (walk_present z held h.0 c.args.anchor b c.requires.present h.1) in
    omega (arith, low, c.members.ensures.is, c.members.ensures.few)

pub invariant_of-self-2 : goal.invariant_of-self-2
invariant_of-self-2 c =
    let part : List CertRef = c.in_ok-part.part.items in
    let e = with_items_is c.make_rows.new.marks c.mark.new.marks (omega (arith, c.mark.auto.marks, ap length c.deref_mut.ensures.value, c.make_rows.new.marks.ok.0)) in
    let marked : IsMarked c.make_rows.new.marks.items c.mark.new.marks part =
    subst (λ (ms : List ℕ). IsMarked ms c.mark.new.marks part) c.deref_mut.ensures.value
    (subst (λ (cs : List CertRef). IsMarked c.deref_mut.result.now c.mark.new.marks cs) c.deref-2.ensures.value c.mark.ensures) in
    let items : c.extend_from_slice.new.self.items ≡ c.self.inside.ordered.items ++ part =
    c.in_ok-extend_from_slice.ensures.items ∙ ap (λ (zs : List CertRef). c.self.inside.ordered.items ++ zs) c.deref.ensures.value in
    subst (λ (ms : List ℕ). AreMarks ms c.extend_from_slice.new.self.items) (sym e)
    (subst (λ (os : List CertRef). AreMarks c.mark.new.marks os) (sym items)
    (marks_added c.self.inside.marks.items c.make_rows.new.marks.items c.mark.new.marks c.self.inside.ordered.items part c.self.invariant c.in_ok-make_rows.ensures.same marked))

pub returns-clause-order : goal.returns-clause-order
returns-clause-order c = λ ps way.
    let z = c.args.rounds.now.sizes in
    let held = c.args.rounds.now.held in
    let a : CertRef = c.args.anchor in
    let kept : List CertRef = c.self.inside.ordered.items in
    let part : List CertRef = c.in_ok-part.part.items in
    let e : c.extend_from_slice.new.self.items ≡ kept ++ part =
    c.in_ok-extend_from_slice.ensures.items ∙ ap (λ (zs : List CertRef). kept ++ zs) c.deref.ensures.value in
    let is_kept : IsKept z held a kept = subst (IsKept z held a) (sym c.self.view_is) c.requires.kept in
    let lists : Lists part (λ b. InHistory z held a b × (Contains kept b → ⊥)) = subst (λ (os : List CertRef). Lists part (IsNew z held a os)) (sym c.self.view_is) c.in_ok-part.ensures in
    subst (IsOrder z held (a ∷ ps)) (sym e) (extended z held a kept part is_kept lists ps way)
