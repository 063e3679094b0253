use Rattle.std.proofs.Common.{[], refl, subst, sym, ◌∙◌}
use Rattle.std.specs.List.{AllZip}
use Rattle.std.specs.Vec.Iter.{into_iter_items}
use Rattle.bk_frames.specs.Cutting.{frames_in}
use Rattle.bk_certcheck.specs.Frames.{IsFound, batches_in, certificates_in}
use Rattle.bk_certcheck.specs.Verdicts.{IsVerdict}
use Rattle.bk_certcheck.proofs.FoundOf.{can_take_at, part_digests, part_verdicts, putting_at}
use Rattle.bk_certcheck.proofs.finding.find_each.Goals as goal

pub loop-frame-init : goal.loop-frame-init
loop-frame-init c =
    let k = c.args.committee.now in
    let frames = frames_in c.args.frames.now in
    record {
      judged = subst (AllZip (IsVerdict k) (certificates_in frames)) (sym c.into_iter-verdicts.ensures.rest)
          (part_verdicts k (λ p. p.now) c.in_ok-payloads.payloads.certificates.items c.deref.result.now c.in_ok-check_each.field-0.items (certificates_in frames) c.deref.ensures.value c.in_ok-payloads.ensures.certificates c.in_ok-check_each.ensures);
      hashed = c.into_iter-digests.ensures.rest
          ∙ part_digests (λ p. p.now) c.in_ok-payloads.payloads.batches.items c.deref-2.result.now c.in_ok-digests_of.field-0.items (batches_in frames) c.deref-2.ensures.value c.in_ok-payloads.ensures.batches c.in_ok-digests_of.ensures;
      done = [];
      split = refl;
      is_found = subst (AllZip (IsFound k) []) (sym c.in_ok-out.ensures.items) tt;
    }

pub next_found-requires : goal.next_found-requires
next_found-requires c =
    can_take_at c.args.committee.now c.args.frames.now c.loop-frame.frame-index c.frame-item.result (into_iter_items c.loop-frame.verdicts) (into_iter_items c.loop-frame.digests) c.loop-frame.out.items
    c.loop-frame-test.true c.frame-item.is c.loop-frame.invariant

pub loop-frame-preserved : goal.loop-frame-preserved
loop-frame-preserved c =
    putting_at c.args.committee.now c.args.frames.now c.loop-frame.frame-index c.frame-item.result (into_iter_items c.loop-frame.verdicts) (into_iter_items c.next_found.new.verdicts)
    (into_iter_items c.loop-frame.digests) (into_iter_items c.next_found.new.digests) c.loop-frame.out.items c.push.new.self.items c.next_found.result
    c.loop-frame-test.true c.frame-item.is c.loop-frame.invariant c.next_found.ensures c.in_ok-push.ensures.items
