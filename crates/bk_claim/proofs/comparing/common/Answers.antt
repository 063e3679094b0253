use Rattle.std.proofs.Common.{◌∙◌, ap, arith, drop, length, refl, sym, take}
use Rattle.std.proofs.lemmas.Bool.Decides.{Decides-eqb}
use Rattle.std.proofs.lemmas.List.{take_all, take_at}
use Rattle.std.proofs.lemmas.Slice.Eq.{starts_is}
use Rattle.bk_claim.proofs.comparing.common.Goals as goal

pub returns-then-starts_with-clause-same : goal.returns-then-starts_with-clause-same
returns-then-starts_with-clause-same c =
    let other = c.args.other.now in
    let one = c.args.one.now in
    let split = (starts_is Decides-eqb one other c.starts_with.result c.starts_with.ensures.value).0 c.if-starts_with.true in
    ap (take (length other)) split ∙ take_at other (drop (length other) one) (length other) refl ∙ sym (take_all (length other) other (omega arith))
