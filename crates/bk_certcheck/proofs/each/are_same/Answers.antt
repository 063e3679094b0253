use Rattle.std.proofs.Common.{◌≡◌, ◌<◌, [], length, get_or, sym, ◌∙◌, arith}
use Rattle.std.specs.Str.{bytes_eq}
use Rattle.std.proofs.lemmas.Bool.{not-false}
use Rattle.std.proofs.lemmas.List.{take_more_same, get_or_read}
use Rattle.std.proofs.lemmas.Slice.Eq.{bytes_eq-Decides}
use Rattle.bk_certcheck.proofs.each.are_same.Goals as goal

pub loop-k-preserved : goal.loop-k-preserved
loop-k-preserved c =
    let k = c.loop-k.k in
    let tag = get_or c.args.tags.now k [] in
    let within : k < length c.args.own.now = omega arith in
    let same : tag ≡ c.as_bytes.result.now = (bytes_eq-Decides tag c.as_bytes.result.now).0 (not-false (bytes_eq tag c.as_bytes.result.now) (sym c.ne.ensures ∙ c.if-ne.false)) in
    take_more_same c.args.tags.now c.args.own.now k [] c.loop-k-test.true within c.loop-k.invariant (same ∙ c.as_bytes.ensures.value ∙ get_or_read c.args.own.now k c.index-own-k.result within c.index-own-k.is [])
