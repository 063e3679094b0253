use Rattle.std.proofs.Common.{ℕ, List, get_or, refl, sym, ap, ◌∙◌}
use Rattle.std.specs.List.{fold}
use Rattle.std.proofs.lemmas.List.Elements.{Contains-get_or}
use Rattle.bk_cert.specs.Values.{HeaderValue}
use Rattle.bk_flatten.proofs.Taken.{named_here}
use Rattle.bk_tables.specs.private.Naming.{named_by, with_named}
use Rattle.bk_tables.specs.declared.placing.Placed.{Placed}
use Rattle.bk_tables.proofs.Names.{certs_one_more}
use Rattle.bk_tables.proofs.naming.firsts_of.Goals.{in-Some+in_ok-add_all, in_default}
use Rattle.bk_tables.proofs.naming.firsts_of.Goals as goal

pub loop-by-preserved : goal.loop-by-preserved
loop-by-preserved c =
    let held = c.args.rounds.now.held in
    let nothing : Placed = record { cert = record { round = 0; author = 0 }; anchor = 0 } in
    let by : Placed = get_or c.args.placed.now c.loop-by.by-index nothing in
    elim c.match-at.branch [
      | in-Some+in_ok-add_all w ↦ rw w.firsts-is
          (certs_one_more held c.args.placed.now c.loop-by.by-index by nothing _ c.loop-by.firsts w.add_all.new.firsts c.loop-by-test.true refl c.loop-by.invariant
          (w.in_ok-add_all.ensures ∙ ap (λ (ds : List (List ℕ)). fold with_named c.loop-by.firsts (named_by by ds))
          (sym (named_here c.args.rounds.now.sizes held c.sound.ensures.clear by.cert w.in-Some.cert.now w.in-Some.ensures.found
          ∙ (ap (λ (h : HeaderValue). h.batches) (sym w.header.ensures) ∙ sym w.batches.ensures.all)))))
      | in_default w ↦ absurd (w.in_default.ensures.none (c.requires by (Contains-get_or c.args.placed.now c.loop-by.by-index nothing c.loop-by-test.true)))
    ]
