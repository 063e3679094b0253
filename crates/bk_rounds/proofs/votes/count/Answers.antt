use Rattle.std.proofs.Common.{◌≡◌, ℕ, ◌+◌, ◌≤◌, List, ◌∷◌, subst, drop, get_or, arith}
use Rattle.std.proofs.lemmas.List.{drop_more, drop_all}
use Rattle.std.proofs.lemmas.List.Elements.{Contains-get_or}
use Rattle.bk_committee.specs.Sizes.{Sizes}
use Rattle.bk_cert.specs.Node.{Node}
use Rattle.bk_cert.specs.Place.{IsListed}
use Rattle.bk_cert.specs.declared.place.CertRef.{CertRef}
use Rattle.bk_rounds.specs.private.Tally.{IsTally}
use Rattle.bk_rounds.proofs.Tallied.{exactly_light, present_from, tally_more, tally_all}
use Rattle.bk_rounds.proofs.votes.count.Goals as goal

pub count_one-requires-clause-light : goal.count_one-requires-clause-light
count_one-requires-clause-light c = exactly_light c.args.table.now.sizes _ _ (c.loop-place.invariant.tally _)

pub loop-place-preserved : goal.loop-place-preserved
loop-place-preserved c =
    let z : Sizes = c.args.table.now.sizes in
    let held : List Node = c.args.table.now.held in
    let all : List CertRef = c.args.places.now in
    let i : ℕ = c.loop-place.place-index in
    let p : CertRef = get_or all i (record { round = 0; author = 0 }) in
    let rest : List CertRef = drop (i + 1) all in
    let cut : drop i all ≡ p ∷ rest = drop_more all i (record { round = 0; author = 0 }) c.loop-place-test.true in
    let listed : IsListed (p ∷ rest) = subst IsListed cut c.loop-place.invariant.listed in
    let tally : IsTally z held (p ∷ rest) c.loop-place.votes = subst (λ (xs : List CertRef). IsTally z held xs c.loop-place.votes) cut c.loop-place.invariant.tally in
    let from : 1 ≤ p.round = present_from z held p (c.requires.present p (Contains-get_or all i (record { round = 0; author = 0 }) c.loop-place-test.true)) in
    record {
      listed = listed.1;
      tally = tally_more z held rest p c.loop-place.votes c.count_one.new.votes from listed tally c.count_one.ensures.cast;
      kept = c.count_one.ensures.kept;
    }

pub returns : goal.returns
returns c =
    let none = drop_all c.loop-place.place-index c.args.places.now (omega arith) in
    tally_all c.args.table.now.sizes c.args.table.now.held c.loop-place.votes
    (subst (λ (xs : List CertRef). IsTally c.args.table.now.sizes c.args.table.now.held xs c.loop-place.votes) none c.loop-place.invariant.tally)
    c.loop-place.invariant.kept
