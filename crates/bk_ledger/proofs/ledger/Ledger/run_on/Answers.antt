use Rattle.std.proofs.Common.{refl, sym, subst}
use Rattle.bk_ledger.specs.Ledger.{LedgerValue}
use Rattle.bk_ledger.specs.private.Slices.{CanRunPart}
use Rattle.bk_ledger.proofs.PartRuns.{back_within, part_ran}
use Rattle.bk_ledger.proofs.ledger.Ledger.run_on.Goals as goal

pub put_back-requires-clause-within : goal.put_back-requires-clause-within
put_back-requires-clause-within g c = back_within c.args.ready.now c.self.inside.state (subst (λ (l : LedgerValue). CanRunPart c.args.ready.now l.state) (sym c.self.view_is) c.requires.runs) _ refl
    c.self.inside.receipts.items c.run_part.new.receipts.items c.in-Ok.part c.in-Ok.ensures.fold

pub returns-in_ok-extend_from_slice-in-Ok-clause-ran : goal.returns-in_ok-extend_from_slice-in-Ok-clause-ran
returns-in_ok-extend_from_slice-in-Ok-clause-ran g c = rw (← c.self.view_is) (part_ran c.args.ready.now c.self.inside.state (subst (λ (l : LedgerValue). CanRunPart c.args.ready.now l.state) (sym c.self.view_is) c.requires.runs) _ refl
    c.self.inside.receipts.items c.run_part.new.receipts.items c.in-Ok.part c.in-Ok.ensures.fold c.args.ready.now.counts.items _ _ refl refl
    (rw c.deref.ensures.value at c.in_ok-extend_from_slice-in-Ok.ensures.items) refl c.put_back.ensures.version c.put_back.ensures.rows c.put_back.ensures.slots c.in-Ok.ensures.ran)
