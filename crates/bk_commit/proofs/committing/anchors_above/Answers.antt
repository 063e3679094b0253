use Rattle.std.proofs.Common.{◌≤◌, ℕ, sym, subst}
use Rattle.bk_cert.specs.declared.place.CertRef.{CertRef}
use Rattle.bk_rounds.specs.Votes.{IsVoted}
use Rattle.bk_commit.specs.private.Way.{IsWayTo}
use Rattle.bk_commit.proofs.Onward.{goes_on, stays}
use Rattle.bk_commit.proofs.committing.anchors_above.Goals as goal

pub returns-in_ok-push-in-Some : goal.returns-in_ok-push-in-Some
returns-in_ok-push-in-Some c =
    let z = c.args.rounds.now.sizes in
    let held = c.args.rounds.now.held in
    let back = c.in_ok-anchors-in-Some.anchors.items in
    rw (c.in_ok-push-in-Some.ensures.items, c.reverse.ensures.items) (λ old were e.
    goes_on z held old c.sound.ensures.clear were c.in-Some.last back c.in-Some.ensures.0
    (subst (λ (floor : ℕ). IsWayTo z held c.in-Some.last floor back) (sym e) c.in_ok-anchors-in-Some.ensures))

pub returns-in-None : goal.returns-in-None
returns-in-None c =
    let z = c.args.rounds.now.sizes in
    let held = c.args.rounds.now.held in
    rw c.new.ensures.items (λ old were e. stays z held old c.sound.ensures.clear were
    (subst (λ (floor : ℕ). (a : CertRef) → IsVoted z held a → a.round ≤ floor) (sym e) c.in-None.ensures))
