use Rattle.std.proofs.Common.{arith, length, refl, List, ℕ, subst, ap, ◌∙◌, ◌+◌, ◌∷◌}
use Rattle.std.specs.Int.{w32, to_be_bytes}
use Rattle.bk_frames.specs.Device.{Receives}
use Rattle.bk_base.specs.Feed.{kind_number}
use Rattle.bk_frames.proofs.Devices.{took_header}
use Rattle.bk_frames.proofs.writing.write_frame.Goals as goal

pub returns-in-Err-clause-fault : goal.returns-in-Err-clause-fault
returns-in-Err-clause-fault g c =
    let text = kind_number c.args.kind ∷ to_be_bytes w32 (length c.args.payload.now) in
    let start = g.K.Sink.state c.args.sink.now in
    let mid = g.K.Sink.state c.push_all.new.sink in
    let later = g.K.Sink.state c.push_all-2.new.sink in
    let first = subst (λ (t : List ℕ). Receives start mid t) c.header-header.ensures c.in_ok-push_all.ensures.ok.1 in
    let second = c.in-Err.ensures.fault in
    record {
      fails = second.fails ∙ ap (λ (n : ℕ). n + 1) c.in_ok-push_all.ensures.ok.0;
      short = omega (arith, second.short);
      out = took_header start.bytes mid.bytes later.bytes text c.args.payload.now c.in-Err.fault.written refl first second.out;
    }
