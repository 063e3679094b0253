use Rattle.bk_certcheck.proofs.PartsOf.{all_found}
use Rattle.bk_certcheck.proofs.frames.find_all.Goals as goal

pub returns : goal.returns
returns g c =
    all_found c.args.committee.now c.args.frames.now c.in_ok-parts.parts.items c.deref.result.now c.in_ok-found.found.items c.in_ok-out.out.items c.deref.ensures.value c.in_ok-parts.ensures c.in_ok-found.ensures c.in_ok-out.ensures
