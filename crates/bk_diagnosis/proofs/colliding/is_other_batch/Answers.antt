use Rattle.std.proofs.Common.{◌≡◌, List, ℕ, Some, None, sym, ap, ◌∙◌, get_or}
use Rattle.std.specs.Prelude.{not}
use Rattle.std.specs.Str.{bytes_eq}
use Rattle.std.proofs.lemmas.List.Elements.{Contains-get_or}
use Rattle.bk_evidence.specs.Batches.{payload_of}
use Rattle.bk_diagnosis.proofs.OtherEntries.{batch_tested, batch_untested, shown}
use Rattle.bk_diagnosis.proofs.colliding.is_other_batch.Goals as goal

pub returns-in-None : goal.returns-in-None
returns-in-None c = λ d.
    let under : payload_of c.args.stored.now c.digest.result ≡ None = shown _ c.get.result _ _ c.get.ensures c.in-None.is in
    batch_untested c.args.stored.now (get_or c.args.stored.now c.args.batch.index d) (Contains-get_or c.args.stored.now c.args.batch.index d c.requires)
    (ap (payload_of c.args.stored.now) (sym (c.digest.ensures d)) ∙ under)

pub returns-in-Some : goal.returns-in-Some
returns-in-Some c = λ d.
    let under : payload_of c.args.stored.now c.digest.result ≡ Some c.in-Some.first.now = shown _ c.get.result _ _ c.get.ensures c.in-Some.is in
    batch_tested c.args.stored.now (get_or c.args.stored.now c.args.batch.index d) c.in-Some.first.now c.ne.result
    (ap (payload_of c.args.stored.now) (sym (c.digest.ensures d)) ∙ under)
    (c.ne.ensures ∙ ap (λ (p : List ℕ). not (bytes_eq c.in-Some.first.now p)) (c.payload.ensures d))
