use Rattle.std.proofs.Common.{sym, ap, ◌∙◌}
use Rattle.std.proofs.lemmas.Result.{IfOk-weaker}
use Rattle.bk_script.specs.Events.{event_list, with_event_line}
use Rattle.bk_script.specs.Listing.{listed_within}
use Rattle.bk_script.specs.declared.making.TheConstants.{MOST_SCRIPT}
use Rattle.bk_script.proofs.EventPairs.{events_paired}
use Rattle.bk_script.proofs.events.read_events.Goals as goal

pub returns-clause-lines : goal.returns-clause-lines
returns-clause-lines g c =
    IfOk-weaker c.read_list.result _ _
    (λ events has. events_paired MOST_SCRIPT has.1.0.0 (event_list events) (ap (λ k. listed_within with_event_line k MOST_SCRIPT has.1.0.0) (sym c.new.ensures) ∙ has.1.0.2.1))
    c.read_list.ensures.list
