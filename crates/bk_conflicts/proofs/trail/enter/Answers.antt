use Rattle.std.proofs.Common.{ℕ, [], ◌∷◌, cond, Bool, sym, subst, arith, get_or-set_other}
use Rattle.bk_conflicts.specs.private.Trail.{Shows, IsTrace}
use Rattle.bk_conflicts.proofs.Traces.{trace_write, traces_write}
use Rattle.bk_conflicts.proofs.trail.enter.Goals as goal

pub returns-then-access : goal.returns-then-access
returns-then-access c = record {
  trail = λ n p t. traces_write _ n c.args.trail.now.last.items c.args.trail.now.readers.items c.args.access.slot c.args.q c.requires.slot p (let a = c.requires.small in omega arith) t;
  kept = λ n b rs ws t other h. subst (λ (k : ℕ). IsTrace c.args.trail.now.readers.items k rs ws) (sym (get_or-set_other c.args.trail.now.last.items c.args.access.slot b c.args.q 0 other)) h;
  changed = λ n rs ws t h. trace_write c.args.trail.now.readers.items c.args.trail.now.last.items c.args.access.slot c.args.q c.args.access.writable rs ws c.if-access.true t.links.some c.requires.slot (let a = c.requires.small in omega arith);
}

pub returns-in_ok-push_reader-clause-changed : goal.returns-in_ok-push_reader-clause-changed
returns-in_ok-push_reader-clause-changed c = λ n rs ws t h.
    subst (λ (w : Bool). Shows c.push_reader.new.trail c.args.access.slot (cond w [] (c.args.q ∷ rs)) (cond w (c.args.q ∷ []) ws)) (sym c.if-access.false) (c.in_ok-push_reader.ensures.changed n rs ws t h)
