use Rattle.std.proofs.Common.{◌++◌, ℕ, Option, sym, ap, ◌∙◌, append-nil, arith, Vec, Global}
use Rattle.bk_conflicts.specs.declared.words.Access.{Access}
use Rattle.bk_conflicts.specs.private.Accesses.{access_in}
use Rattle.bk_conflicts.proofs.Accessed.{access_next}
use Rattle.bk_conflicts.proofs.words.push_accesses.Goals.{in-Some+in_ok-push, in_default}
use Rattle.bk_conflicts.proofs.words.push_accesses.Goals as goal

pub loop-k-preserved : goal.loop-k-preserved
loop-k-preserved c = record {
  so_far = access_next c.args.ids.now c.args.declared.now c.loop-k.k c.get-account.result c.index_by.result c.args.xs.now.items c.loop-k.xs.items c.match-index_by.xs.items
      (let a = c.loop-k-test.true in let b = c.len-k-end.ensures.len in omega arith) c.get-account.ensures c.index_by.ensures c.loop-k.invariant.so_far
      (elim c.match-index_by.branch [
        | in-Some+in_ok-push w ↦ ap (λ (v : Vec Access Global). v.items) w.xs-is ∙ (w.in_ok-push.ensures.items ∙ ap (λ (o : Option ℕ). c.loop-k.xs.items ++ access_in c.get-account.result.writable o) (sym w.in-Some.is))
        | in_default w ↦ ap (λ (v : Vec Access Global). v.items) w.xs-is ∙ (sym (append-nil c.loop-k.xs.items) ∙ ap (λ (o : Option ℕ). c.loop-k.xs.items ++ access_in c.get-account.result.writable o) (sym w.in_default.is))
      ]);
}
