use Rattle.std.proofs.Common.{◌≡◌, ℕ, ◌+◌, ◌-◌, ◌%◌, ◌≤◌, ◌∙◌, List, inl, refl, subst, ap, arith}
use Rattle.bk_committee.specs.Sizes.{Sizes}
use Rattle.bk_cert.specs.Node.{Node}
use Rattle.bk_cert.specs.declared.place.CertRef.{CertRef}
use Rattle.bk_cert.proofs.Refs.{same_place}
use Rattle.bk_rounds.specs.Links.{Links}
use Rattle.bk_rounds.specs.private.Tally.{kept_at}
use Rattle.bk_rounds.proofs.Tallied.{next_of, led_in, present_from, present_entry, link_vote, even_from, odd_before}
use Rattle.bk_rounds.proofs.votes.count_one.Goals as goal

pub overflow_sub-round : goal.overflow_sub-round
overflow_sub-round c = present_from c.args.table.now.sizes c.args.table.now.held c.args.place c.requires.present

pub leader-requires : goal.leader-requires
leader-requires c =
    let low : 1 ≤ c.args.place.round = present_from c.args.table.now.sizes c.args.table.now.held c.args.place c.requires.present in
    let even : c.args.place.round % 2 ≡ 0 = even_from c.args.place.round c.if-place-eq1.false in
    omega (arith, low, even)

pub cast-requires-clause-can : goal.cast-requires-clause-can
cast-requires-clause-can c =
    let low : 1 ≤ c.args.place.round = present_from c.args.table.now.sizes c.args.table.now.held c.args.place c.requires.present in
    let even = even_from c.args.place.round c.if-place-eq1.false in
    record {
      odd = odd_before c.args.place.round low even;
      entry = present_entry c.args.table.now.sizes c.args.table.now.held c.args.votes.now c.args.place c.weight.ensures.some c.requires.kept.entries c.requires.present even;
      small = omega (arith, c.requires.light, c.weight.ensures.light, c.weight.ensures.small);
    }

pub returns-clause-cast : goal.returns-clause-cast
returns-clause-cast c =
    let z : Sizes = c.args.table.now.sizes in
    let held : List Node = c.args.table.now.held in
    let p : CertRef = c.args.place in
    let low : 1 ≤ p.round = present_from z held p c.requires.present in
    let even : p.round % 2 ≡ 0 = even_from p.round c.if-place-eq1.false in
    let named : Links z held p (record { round = p.round - 1; author = c.leader.result }) = (c.parents_of.ensures c.leader.result).0 (c.has.ensures.0 c.if-not-has.false) in
    let led : Links z held p (led_in z (p.round - 1)) = subst (λ (x : ℕ). Links z held p (record { round = p.round - 1; author = x })) c.leader.ensures.is named in
    let here : p ≡ next_of (p.round - 1) p.author = same_place p (next_of (p.round - 1) p.author) (omega (arith, low)) refl in
    record {
      here = inl (
        link_vote z held (p.round - 1) p.author (odd_before p.round low even) (subst (λ (q : CertRef). Links z held q (led_in z (p.round - 1))) here led),
        c.cast.ensures.raised.here ∙ ap (λ (w : ℕ). kept_at c.args.votes.now (p.round - 1) + w) c.weight.ensures.is,
      );
      other = c.cast.ensures.raised.other;
    }
