use Rattle.std.proofs.Common.{ap, sym, ◌∙◌}
use Rattle.bk_cert.specs.Values.{HeaderValue}
use Rattle.bk_picture.proofs.Named.{author_low, none_added, one_added, other_added}
use Rattle.bk_picture.proofs.cells.with_named.Goals as goal

pub returns-in_default : goal.returns-in_default
returns-in_default c = none_added c.args.rounds.now.held c.sound.ensures.clear c.args.held.now c.requires.same c.args.round c.args.set c.args.id.now c.in_default.ensures.none

pub returns-then-round : goal.returns-then-round
returns-then-round c =
    other_added c.args.rounds.now.held c.sound.ensures.clear c.args.held.now c.requires.same c.args.round c.args.set c.args.id.now c.in-Some.cert.now c.in-Some.ensures.found
    (λ e. c.if-round.true (c.round.ensures ∙ ap (λ (h : HeaderValue). h.round) c.header-header.ensures ∙ e))

pub with-requires : goal.with-requires
with-requires c =
    let cert = c.in-Some.cert.now in
    author_low c.args.rounds.now.sizes cert c.author.result c.members.result (c.sound.ensures.good cert ((c.requires.same cert).0 c.in-Some.ensures.found.0)).member c.members.ensures.is c.members.ensures.few
    (c.author.ensures ∙ ap (λ (h : HeaderValue). h.author) c.header-header.ensures)

pub returns : goal.returns
returns c =
    one_added c.args.rounds.now.held c.sound.ensures.clear c.args.held.now c.requires.same c.args.round c.args.set c.with.result c.author.result c.args.id.now c.in-Some.cert.now c.in-Some.ensures.found
    (sym (c.round.ensures ∙ ap (λ (h : HeaderValue). h.round) c.header-header.ensures) ∙ c.if-round.false)
    (c.author.ensures ∙ ap (λ (h : HeaderValue). h.author) c.header-header.ensures)
    c.with.ensures
