use Rattle.std.proofs.Common.{◌≡◌, ◌∙◌, ◌+◌, ℕ, [], None, Some, length, refl, sym, ap}
use Rattle.std.proofs.lemmas.Result.{err_from_is_err_and}
use Rattle.std.specs.Global.{Vec}
use Rattle.bk_frames.specs.FirstFault.{payload_fault}
use Rattle.bk_frames.specs.Cutting.{IsBegun, fault_at}
use Rattle.bk_frames.specs.private.Parts.{kept_of, cut_of}
use Rattle.bk_frames.proofs.FrameFaults.{by_code}
use Rattle.bk_frames.proofs.CutParts.{IsWhole, whole_shows, handed_out}
use Rattle.bk_frames.proofs.part.take_frame.Goals as goal

pub returns-in_err-judge-clause-err : goal.returns-in_err-judge-clause-err
returns-in_err-judge-clause-err c =
    let p = err_from_is_err_and c.from_residual-in_err-judge.result c.from_residual-in_err-judge.ensures.1 in
    let e = c.in_err-judge.field-0.0 in
    let part = c.args.part.now in
    let v = c.args.version in
    let whole : IsWhole part v c.in_ok-kind.kind = record {
      version = c.requires.frame;
      part = c.requires.part;
      full = c.requires.whole.0;
      sized = c.requires.whole.1;
      bytes = c.length_in.ensures.bytes;
      kind = c.in_ok-kind.ensures.ok.1;
      in_place = c.in_ok-kind.ensures.ok.2;
    } in
    let shows = whole_shows part v c.in_ok-kind.kind whole in
    rw (p.1, p.2) (
      c.in_err-judge.ensures.no_cut,
      by_code e ⊥ (Unit {0}) (payload_fault v part.index c.deref.result.now ≡ Some e) ⊥ (IsBegun (cut_of part)) (fault_at part.version part.index part.offset (kept_of part) ≡ Some e) (λ h. h) (λ h. c.requires.begun)
          (λ h. shows ∙ ap (payload_fault v part.index) (sym c.deref.ensures.value) ∙ h) c.in_err-judge.ensures.err,
    )

pub returns-clause-cuts : goal.returns-clause-cuts
returns-clause-cuts c =
    let part = c.args.part.now in
    let v = c.args.version in
    let whole : IsWhole part v c.in_ok-kind.kind = record {
      version = c.requires.frame;
      part = c.requires.part;
      full = c.requires.whole.0;
      sized = c.requires.whole.1;
      bytes = c.length_in.ensures.bytes;
      kind = c.in_ok-kind.ensures.ok.1;
      in_place = c.in_ok-kind.ensures.ok.2;
    } in
    let none : payload_fault v part.index part.payload.items ≡ None = ap (payload_fault v part.index) (sym c.deref.ensures.value) ∙ c.in_ok-judge.ensures.good in
    let empty : c.replace-payload.new.dest.items ≡ [] = ap (λ (v : Vec ℕ). v.items) c.replace-payload.ensures.after ∙ c.new.ensures.items in
    let size : c.from-len.result ≡ length part.payload.items = c.from-len.ensures ∙ c.length_in.ensures.number ∙ sym c.requires.whole.1 in
    rw c.replace-payload.ensures.value (handed_out part v c.in_ok-kind.kind _ whole none c.requires.frame empty refl (ap (λ (n : ℕ). part.offset + (5 + n)) size))
