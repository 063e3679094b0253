use Rattle.std.proofs.Common.{◌≡◌, ◌+◌, ◌-◌, subst, arith, ℕ}
use Rattle.std.proofs.lemmas.Bool.{both_ways}
use Rattle.bk_cert.specs.declared.place.CertRef.{CertRef}
use Rattle.bk_flatten.specs.private.Part.{Gains, IsNewAt}
use Rattle.bk_flatten.proofs.Parts.{gains_none, gains_push, gains_skip, listed_push, here_first}
use Rattle.bk_flatten.proofs.part.push_level.Goals as goal

pub loop-author-init : goal.loop-author-init
loop-author-init c = record { low = omega arith; listed = c.requires.listed; gains = gains_none c.args.out.now.items c.args.fresh c.args.round c.end_of-author.result c.end_of-author.ensures.above }

pub loop-author-preserved-in-Continue-1 : goal.loop-author-preserved-in-Continue-1
loop-author-preserved-in-Continue-1 c =
    let k : ℕ = c.loop-author.author - 1 in
    let up : c.loop-author.author ≡ k + 1 = omega arith in
    let here : CertRef = record { round = c.args.round; author = k } in
    let before = subst (λ i. Gains c.args.out.now.items c.loop-author.out.items (IsNewAt c.args.fresh c.args.round i)) up c.loop-author.invariant.gains in
    rw c.in_ok-push.ensures.items (record {
      low = omega arith;
      listed = listed_push c.loop-author.out.items here c.loop-author.invariant.listed
          (here_first c.args.out.now.items c.loop-author.out.items c.args.fresh c.args.round k before c.requires.above);
      gains = gains_push c.args.out.now.items c.loop-author.out.items c.args.fresh c.args.round k before (c.has.ensures.0 c.if-has.true);
    })

pub loop-author-preserved : goal.loop-author-preserved
loop-author-preserved c =
    let k : ℕ = c.loop-author.author - 1 in
    let up : c.loop-author.author ≡ k + 1 = omega arith in
    let before = subst (λ i. Gains c.args.out.now.items c.loop-author.out.items (IsNewAt c.args.fresh c.args.round i)) up c.loop-author.invariant.gains in
    record {
      low = omega arith;
      listed = c.loop-author.invariant.listed;
      gains = gains_skip c.args.out.now.items c.loop-author.out.items c.args.fresh c.args.round k before (λ h. both_ways _ c.if-has.false (c.has.ensures.1 h));
    }
