use Rattle.std.proofs.Common.{◌≡◌, List, ℕ, Some, sym, ap, ◌∙◌}
use Rattle.std.specs.List.{position}
use Rattle.bk_evidence.specs.Batches.{has_digest}
use Rattle.bk_evidence.proofs.Across.{digest_of, other_found, other_same, other_none, not_both, from_not}
use Rattle.bk_evidence.proofs.Naming.{named_at}
use Rattle.bk_evidence.proofs.batches.has_other.Goals as goal

pub batch_at-first-requires : goal.batch_at-first-requires
batch_at-first-requires c =
    let found : position (has_digest c.args.batch.now.digest) c.args.stored.now ≡ Some c.in-Some.index =
    ap (λ (d : List ℕ). position (has_digest d) c.args.stored.now) (sym (ap digest_of c.batch.view_is)) ∙ sym c.in-Some.ensures in
    rw c.as_slice.ensures (named_at digest_of c.args.stored.now c.args.batch.now.digest c.in-Some.index found).0

pub returns-in-None-clause-no : goal.returns-in-None-clause-no
returns-in-None-clause-no c = λ e. other_none c.args.stored.now c.args.batch.now
    (ap (λ (d : List ℕ). position (has_digest d) c.args.stored.now) (sym (ap digest_of c.batch.view_is)) ∙ sym c.in-None.ensures)

pub returns-in-Some-clause-yes : goal.returns-in-Some-clause-yes
returns-in-Some-clause-yes c = λ t. other_found c.args.stored.now c.args.batch.now c.in-Some.index c.batch_at-first.result.now
    (ap (λ (d : List ℕ). position (has_digest d) c.args.stored.now) (sym (ap digest_of c.batch.view_is)) ∙ sym c.in-Some.ensures)
    (rw c.as_slice.ensures at (c.batch_at-first.ensures c.batch_at-first.result.now)) (λ e. not_both c.is_same.result t (c.is_same.ensures.1 e))

pub returns-in-Some-clause-no : goal.returns-in-Some-clause-no
returns-in-Some-clause-no c = λ t other. other_same c.args.stored.now c.args.batch.now c.in-Some.index c.batch_at-first.result.now
    (ap (λ (d : List ℕ). position (has_digest d) c.args.stored.now) (sym (ap digest_of c.batch.view_is)) ∙ sym c.in-Some.ensures)
    (rw c.as_slice.ensures at (c.batch_at-first.ensures c.batch_at-first.result.now)) (c.is_same.ensures.0 (from_not c.is_same.result t))
