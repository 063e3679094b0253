use Rattle.std.proofs.Common.{◌≡◌, ℕ, ◌≤◌, List, length, refl, sym, ap, ◌∙◌, arith}
use Rattle.bk_cert.proofs.Marks.{marked, marked_below}
use Rattle.bk_cert.proofs.Wanted.{pushed, want_with, want_without, want_all}
use Rattle.bk_cert.proofs.tagging.want_tags.Goals as goal
use Rattle.bk_cert.proofs.tagging.want_tags.Goals.{then-has+else-is_err, else-has}

pub loop-member-preserved : goal.loop-member-preserved
loop-member-preserved c = λ tags h.
    elim c.if-has.branch [
      | then-has+else-is_err w ↦
          rw w.wanted-is
          (want_with c.args.committee.now.keys c.args.mask.now c.args.id c.loop-member.member c.loop-member.wanted.items w.push.new.self.items (record { key = w.mac-key.result; id = c.args.id }) tags (sym w.if-has.ensures) w.mac-key.ensures refl
          (pushed w.push.result w.is_err.result w.push.new.self.items _ c.loop-member.wanted.items w.push.ensures.items w.is_err.ensures.value w.if-is_err.false) (c.loop-member.invariant tags h))
      | else-has w ↦ want_without c.args.committee.now.keys c.args.mask.now c.args.id c.loop-member.member c.loop-member.wanted.items c.if-has.wanted.items tags (sym w.if-has.ensures) (rw w.wanted-is refl) (c.loop-member.invariant tags h)
    ]

pub returns : goal.returns
returns c = λ tags h.
    let mask : List ℕ = c.args.mask.now in
    let n : ℕ = length c.args.committee.now.keys in
    let few : n ≤ 128 = omega (arith, c.n-member-end.ensures.few, c.n-member-end.ensures.members) in
    let end : n ≡ c.loop-member.member = omega (arith, c.loop-member-test.false, c.loop-member.auto.member-end, c.n-member-end.ensures.members) in
    want_all c.args.committee.now.keys mask c.args.id c.loop-member.member c.loop-member.wanted.items tags (marked_below mask n few c.requires ∙ ap (marked mask) end) (c.loop-member.invariant tags h)
