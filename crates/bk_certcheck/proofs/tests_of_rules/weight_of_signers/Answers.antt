use Rattle.std.proofs.Common.{◌≡◌, ℕ, List, length, ap, ◌+◌, ◌*◌, ◌<◌, ◌≤◌, sym, ◌∙◌, arith}
use Rattle.bk_committee.specs.Payload.{sizes_of}
use Rattle.bk_cert.proofs.Marks.{marked, marked_below}
use Rattle.bk_certcheck.proofs.Signers.{weighed_with, weighed_without, weighed_all}
use Rattle.bk_certcheck.proofs.tests_of_rules.weight_of_signers.Goals as goal
use Rattle.bk_certcheck.proofs.tests_of_rules.weight_of_signers.Goals.{then-has, else-has}

pub loop-member-preserved : goal.loop-member-preserved
loop-member-preserved c =
    elim c.if-has.branch [
      | then-has w ↦
          let short : c.loop-member.weight ≤ c.loop-member.member * 4294967295 = c.loop-member.invariant.short in
          let is : c.if-has.weight ≡ c.loop-member.weight + w.from-weight.result = w.weight-is in
          let from : w.from-weight.result ≡ w.weight.result = w.from-weight.ensures in
          let fits : w.weight.result < 4294967296 = w.weight.type_inv in
          record {
            added = w.weight-is ∙ weighed_with (sizes_of c.args.committee.now) c.args.mask.now c.loop-member.member c.loop-member.weight w.from-weight.result (sym c.has.ensures ∙ w.if-has.true) c.loop-member.invariant.added (w.from-weight.ensures ∙ w.weight.ensures);
            short = omega arith;
          }
      | else-has w ↦
          let short : c.loop-member.weight ≤ c.loop-member.member * 4294967295 = c.loop-member.invariant.short in
          let is : c.if-has.weight ≡ c.loop-member.weight = w.weight-is in
          record {
            added = w.weight-is ∙ weighed_without (sizes_of c.args.committee.now) c.args.mask.now c.loop-member.member c.loop-member.weight (sym c.has.ensures ∙ w.if-has.false) c.loop-member.invariant.added;
            short = omega arith;
          }
    ]

pub returns : goal.returns
returns c =
    let mask : List ℕ = c.args.mask.now in
    let n : ℕ = length c.args.committee.now.keys in
    let few : n ≤ 128 = omega (arith, c.n-member-end.ensures.few, c.n-member-end.ensures.members) in
    let end : n ≡ c.loop-member.member = omega (arith, c.loop-member-test.false, c.loop-member.auto.member-end, c.n-member-end.ensures.members) in
    weighed_all _ mask c.loop-member.member c.loop-member.weight (marked_below mask n few c.requires ∙ ap (marked mask) end) c.loop-member.invariant.added
