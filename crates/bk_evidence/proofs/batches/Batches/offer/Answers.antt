use Rattle.std.proofs.Common.{◌≡◌, ◌++◌, ◌∷◌, [], List, ℕ, Some, None, sym, ap, subst, ◌∙◌, is_some}
use Rattle.std.proofs.lemmas.Bool.{false≢true}
use Rattle.std.specs.List.{Contains, position}
use Rattle.std.specs.Prelude.{option_map}
use Rattle.bk_evidence.specs.Batches.{Batch, batch_with, has_digest}
use Rattle.bk_evidence.specs.Collisions.{id_cmp, CollidesBy}
use Rattle.bk_evidence.specs.private.Least.{IsLeastBy}
use Rattle.bk_evidence.proofs.Across.{digest_of}
use Rattle.bk_evidence.proofs.Naming.{named_none}
use Rattle.bk_evidence.proofs.Storing.{keeps_new, keeps_more, held_at, given_back}
use Rattle.bk_evidence.proofs.batches.Batches.offer.Goals as goal

pub invariant_of-self-in_default : goal.invariant_of-self-in_default
invariant_of-self-in_default c =
    let stored : List Batch = c.self.inside.stored in
    let none : position (has_digest c.args.digest) stored ≡ None =
    sym c.in_ok-first.ensures.found ∙ ap (option_map (λ (f : ℕ × Batch). f.0)) c.in_default.is in
    keeps_new digest_of stored c.self.inside.collision c.first_of.new.self (batch_with c.args.digest c.args.payload.items) c.self.invariant none (c.in_ok-first.ensures.new c.in_default.is)

pub returns-in_default-clause-answer : goal.returns-in_default-clause-answer
returns-in_default-clause-answer c = rw (← c.self.view_is)
    (named_none digest_of c.self.inside.stored c.args.digest
    (sym c.in_ok-first.ensures.found ∙ ap (option_map (λ (f : ℕ × Batch). f.0)) c.in_default.is))

pub invariant_of-self-2 : goal.invariant_of-self-2
invariant_of-self-2 c =
    let stored : List Batch = c.self.inside.stored in
    let batch : Batch = batch_with c.args.digest c.args.payload.items in
    let there : position (has_digest c.args.digest) stored ≡ Some c.in-Some.first =
    sym c.in_ok-first.ensures.found ∙ ap (option_map (λ (f : ℕ × Batch). f.0)) c.in-Some.is in
    let same : c.first_of.new.self ≡ stored = c.in_ok-first.ensures.known (ap is_some c.in-Some.is) in
    let back : c.in-Some.batch ≡ batch = given_back c.in_ok-first.field-0 c.in-Some.first c.in-Some.batch batch c.in-Some.is c.in_ok-first.ensures.back in
    subst (λ (id : List ℕ). IsLeastBy id_cmp (CollidesBy digest_of c.push.new.self) (Some id)) (sym c.least_id.ensures)
    (keeps_more digest_of stored c.self.inside.collision c.push.new.self batch c.in-Some.first c.self.invariant there
    (λ h. false≢true (c.if-is_stored.ensures.1 (subst (λ (b : Batch). Contains c.as_slice.result.now b) (sym back) (rw (c.as_slice.ensures, same) h))))
    (c.in_ok-push.ensures.ok ∙ (λ i. same i ++ back i ∷ [])))

pub returns-clause-answer : goal.returns-clause-answer
returns-clause-answer c =
    let stored : List Batch = c.self.inside.stored in
    let batch : Batch = batch_with c.args.digest c.args.payload.items in
    let there : position (has_digest c.args.digest) stored ≡ Some c.in-Some.first =
    sym c.in_ok-first.ensures.found ∙ ap (option_map (λ (f : ℕ × Batch). f.0)) c.in-Some.is in
    let same : c.first_of.new.self ≡ stored = c.in_ok-first.ensures.known (ap is_some c.in-Some.is) in
    let back : c.in-Some.batch ≡ batch = given_back c.in_ok-first.field-0 c.in-Some.first c.in-Some.batch batch c.in-Some.is c.in_ok-first.ensures.back in
    rw (← c.self.view_is) (
      λ h. false≢true (c.if-is_stored.ensures.1 (subst (λ (b : Batch). Contains c.as_slice.result.now b) (sym back) (rw (c.as_slice.ensures, same) h))),
      held_at digest_of stored c.self.inside.collision c.args.digest c.in-Some.first batch there,
    )
