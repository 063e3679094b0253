use Rattle.std.proofs.Common.{◌<◌, ◌≤◌, ◌-◌, ◌↔◌, ℕ, List, subst, arith}
use Rattle.bk_cert.specs.declared.place.CertRef.{CertRef}
use Rattle.bk_rounds.specs.Admission.{IsPresent}
use Rattle.bk_rounds.specs.Members.{Has}
use Rattle.bk_commit.proofs.Grown.{walk_present}
use Rattle.bk_commit.proofs.Last.{present_member}
use Rattle.bk_flatten.specs.private.Part.{AreMarks, marks_of}
use Rattle.bk_flatten.proofs.Parts.{fresh_first, fresh_next, has_none, has_more, has_all, listed_part}
use Rattle.bk_flatten.proofs.flat.Flat.part_of.Goals as goal
use Rattle.bk_flatten.proofs.flat.Flat.part_of.Goals.{then-loop-round-test+else-not-is_empty, else-loop-round-test}

pub first_level-requires : goal.first_level-requires
first_level-requires c = let low = present_member c.args.rounds.now.sizes c.args.rounds.now.held c.args.a c.sound.ensures.good c.requires.present in omega (arith, low, c.members.ensures.is, c.members.ensures.few)

pub loop-round-init : goal.loop-round-init
loop-round-init c =
    let z = c.args.rounds.now.sizes in
    let held = c.args.rounds.now.held in
    let ordered : List CertRef = c.args.self.now in
    let marks : AreMarks c.self.inside.marks.items ordered = subst (λ (os : List CertRef). AreMarks c.self.inside.marks.items os) c.self.view_is c.self.invariant in
    record {
      fresh = fresh_first z held c.args.a ordered c.first_level.result (marks_of c.self.inside.marks.items c.args.a.round) c.marks_at.result c.without-fresh.result c.first_level.ensures
          (marks c.args.a.round)
          (subst (λ (ms : List ℕ). (x : ℕ) → Has c.marks_at.result x ↔ Has (marks_of ms c.args.a.round) x) c.deref.ensures.value c.marks_at.ensures)
          c.without-fresh.ensures;
      high = omega arith;
      listed = rw c.new-out.ensures.items tt;
      has = rw c.new-out.ensures.items (has_none z held c.args.a ordered);
    }

pub push_level-requires-clause-few : goal.push_level-requires-clause-few
push_level-requires-clause-few c = λ x h.
    let z = c.args.rounds.now.sizes in
    let held = c.args.rounds.now.held in
    let place : CertRef = record { round = c.loop-round.round; author = x } in
    let n = (c.loop-round.invariant.fresh x).0 h in
    let here : IsPresent z held place = walk_present z held n.0.0 c.args.a place c.requires.present n.0.1 in
    let low = present_member z held place c.sound.ensures.good here in
    omega (arith, low, c.members.ensures.is, c.members.ensures.few)

pub push_level-requires-clause-above : goal.push_level-requires-clause-above
push_level-requires-clause-above c = λ b h. ((c.loop-round.invariant.has b).0 h).0

pub loop-round-preserved : goal.loop-round-preserved
loop-round-preserved c =
    let z = c.args.rounds.now.sizes in
    let held = c.args.rounds.now.held in
    let ordered : List CertRef = c.args.self.now in
    let marks : AreMarks c.self.inside.marks.items ordered = subst (λ (os : List CertRef). AreMarks c.self.inside.marks.items os) c.self.view_is c.self.invariant in
    let low : 1 ≤ c.loop-round.round = c.loop-round-test.true in
    record {
      fresh = fresh_next z held c.args.a ordered c.loop-round.round c.loop-round.fresh c.next_level-next.result (marks_of c.self.inside.marks.items (c.loop-round.round - 1)) c.marks_at-in-loop-round.result
          c.without-fresh-in-loop-round.result low c.loop-round.invariant.high c.requires.closed c.loop-round.invariant.fresh c.next_level-next.ensures
          (marks (c.loop-round.round - 1))
          (subst (λ (ms : List ℕ). (x : ℕ) → Has c.marks_at-in-loop-round.result x ↔ Has (marks_of ms (c.loop-round.round - 1)) x) c.deref-in-loop-round.ensures.value c.marks_at-in-loop-round.ensures)
          c.without-fresh-in-loop-round.ensures;
      high = omega (arith, c.loop-round.invariant.high);
      listed = c.in_ok-push_level.ensures.listed;
      has = has_more z held c.args.a ordered c.loop-round.out.items c.push_level.new.out.items c.loop-round.fresh c.loop-round.round low c.loop-round.invariant.fresh c.loop-round.invariant.has c.in_ok-push_level.ensures.gains;
    }

pub returns : goal.returns
returns c =
    let z = c.args.rounds.now.sizes in
    let held = c.args.rounds.now.held in
    let ordered : List CertRef = c.args.self.now in
    let none : 0 < c.loop-round.round → (x : ℕ) → Has c.loop-round.fresh x → ⊥ = λ some x h.
    elim c.loop-round-test.branch [
      | then-loop-round-test+else-not-is_empty w ↦ w.is_empty.ensures.0 w.if-not-is_empty.false x h
      | else-loop-round-test w ↦ absurd (omega (arith, some, w.loop-round-test.false))
    ] in
    rw c.reverse.ensures.items (listed_part z held c.args.a ordered c.loop-round.out.items c.requires.present c.loop-round.invariant.listed
    (has_all z held c.args.a ordered c.loop-round.out.items c.loop-round.round c.loop-round.fresh c.loop-round.invariant.high c.requires.closed c.requires.present c.loop-round.invariant.fresh none c.loop-round.invariant.has))
