use Rattle.std.proofs.Common.{◌≡◌, ℕ, map, take}
use Rattle.std.specs.List.{flat_map}
use Rattle.std.specs.Global.{Vec}
use Rattle.bk_base.specs.declared.kind.Kind.{Kind}
use Rattle.bk_certcheck.specs.Frames.{certificate_in, batch_in}
use Rattle.bk_certcheck.proofs.finding.payloads_of.Given as goal

abbrev pub invariant-loop-frame : goal.invariant-loop-frame
invariant-loop-frame l =
    (map (λ p. p.now) l.payloads.certificates.items ≡ flat_map (λ (x : Kind × Vec ℕ). certificate_in x.0 x.1.items) (take l.frame-index l.frames)) ×
    (map (λ p. p.now) l.payloads.batches.items ≡ flat_map (λ (x : Kind × Vec ℕ). batch_in x.0 x.1.items) (take l.frame-index l.frames))
