use Rattle.std.proofs.Common.{refl, arith}
use Rattle.std.proofs.lemmas.Result.{err_from_is_err_and}
use Rattle.bk_follow.proofs.answering.read.Goals as goal

pub returns-in_err-piece-clause-fault : goal.returns-in_err-piece-clause-fault
returns-in_err-piece-clause-fault g c =
    let p = err_from_is_err_and c.from_residual.result c.from_residual.ensures.1 in
    rw (p.1, p.2) refl

pub follow-requires-clause-some : goal.follow-requires-clause-some
follow-requires-clause-some g c = λ lives within. rw c.as_mut_slice.ensures.value (omega (arith, c.in_ok-piece.ensures.len, c.in_ok-piece.piece.ok.0))
