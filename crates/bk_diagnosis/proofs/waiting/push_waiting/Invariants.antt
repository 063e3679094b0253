use Rattle.std.proofs.Common.{take}
use Rattle.std.specs.Prelude.{string_bytes}
use Rattle.bk_diagnosis.specs.private.Graph.{AddsWaiting}
use Rattle.bk_diagnosis.proofs.waiting.push_waiting.Given as goal

abbrev pub invariant-loop-place : goal.invariant-loop-place
invariant-loop-place l = AddsWaiting l.graph (take l.place-index l.places) (string_bytes l.initial.text) (string_bytes l.text)
