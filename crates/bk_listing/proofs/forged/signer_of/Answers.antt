use Rattle.std.proofs.Common.{◌≡◌, ℕ, List, [], length, Some, refl, sym, ap, ◌∙◌, arith}
use Rattle.bk_cert.specs.Mask.{is_signer}
use Rattle.bk_cert.specs.Identity.{tag_of}
use Rattle.std.specs.Prelude.{slice_index_or}
use Rattle.bk_cert.proofs.Marks.{marked, marked_below, count_short}
use Rattle.std.proofs.lemmas.Bool.{false≢true}
use Rattle.bk_listing.proofs.Forgeries.{all_right, none_here, place_within, right_here, wrong_here}
use Rattle.bk_listing.proofs.forged.signer_of.Goals as goal
use Rattle.bk_listing.proofs.forged.signer_of.Goals.{then-has+else-not-is_own, else-has}

pub is_own-requires-clause-place : goal.is_own-requires-clause-place
is_own-requires-clause-place c =
    let marks = ap (λ (m : List ℕ). is_signer m c.loop-member.member) (sym c.mask-mask.ensures.same) ∙ sym c.if-has.ensures in
    let within = place_within c.args.committee.now c.args.view.now c.loop-member.member c.loop-member.place (omega (arith, c.n-member-end.ensures.few, c.loop-member-test.true)) marks c.mask-mask.ensures.certificate.tag_each c.loop-member.invariant in
    omega (arith, within, ap length c.tags-tags.ensures.all)

pub returns-then-not-is_own : goal.returns-then-not-is_own
returns-then-not-is_own c =
    let marks = ap (λ (m : List ℕ). is_signer m c.loop-member.member) (sym c.mask-mask.ensures.same) ∙ sym c.if-has.ensures in
    let own = ap (λ (i : List ℕ). Some (tag_of (slice_index_or c.args.committee.now.keys c.loop-member.member []) i)) c.requires.id in
    wrong_here c.args.committee.now c.args.view.now c.loop-member.member c.loop-member.place (omega (arith, c.n-member-end.ensures.few, c.loop-member-test.true)) marks c.loop-member.invariant
    (λ e. false≢true (c.if-not-is_own.ensures.1 (rw c.tags-tags.ensures.all (e ∙ sym own))))

pub overflow_add-place : goal.overflow_add-place
overflow_add-place c = let short = count_short c.args.view.now.mask c.loop-member.member in omega (arith, c.loop-member.invariant.place_is, short, c.n-member-end.ensures.few, c.loop-member-test.true)

pub loop-member-preserved : goal.loop-member-preserved
loop-member-preserved c =
    let own = ap (λ (i : List ℕ). Some (tag_of (slice_index_or c.args.committee.now.keys c.loop-member.member []) i)) c.requires.id in
    let at = ap (λ (m : List ℕ). is_signer m c.loop-member.member) (sym c.mask-mask.ensures.same) in
    elim c.if-has.branch [
      | then-has+else-not-is_own w ↦ rw w.place-is (right_here c.args.committee.now c.args.view.now c.loop-member.member c.loop-member.place (at ∙ sym w.if-has.ensures) c.loop-member.invariant (rw (← c.tags-tags.ensures.all) (w.if-not-is_own.ensures.0 refl ∙ own)))
      | else-has w ↦ rw w.place-is (none_here c.args.committee.now c.args.view.now c.loop-member.member c.loop-member.place (at ∙ sym w.if-has.ensures) c.loop-member.invariant)
    ]

pub unreachable-requires : goal.unreachable-requires
unreachable-requires c =
    let all = marked_below c.args.view.now.mask (length c.args.committee.now.keys) (omega (arith, c.n-member-end.ensures.few, c.n-member-end.ensures.members)) c.requires.members in
    let end : length c.args.committee.now.keys ≡ c.loop-member.member = omega (arith, c.loop-member-test.false, c.loop-member.auto.member-end, c.n-member-end.ensures.members) in
    c.requires.wrong (all_right c.args.committee.now c.args.view.now c.loop-member.member c.loop-member.place (all ∙ ap (marked c.args.view.now.mask) end) c.mask-mask.ensures.certificate.tag_each c.loop-member.invariant)
