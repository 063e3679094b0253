-- The line is out, or its first bytes are.
use Rattle.std.proofs.Common.{◌∙◌, ℕ, List, Ok, Err, inl, inr, refl, sym}
use Rattle.std.specs.Prelude.{IfErr, OnOk}
use Rattle.std.specs.declared.result.Result.{Result}
use Rattle.bk_frames.specs.Device.{Device}
use Rattle.bk_frames.specs.Writing.{Writes, StopsWriting}
use Rattle.bk_frames.specs.declared.writing.WriteFault.{WriteFault}
use Rattle.bk_cli.specs.FaultLines.{Reports}
use Rattle.bkreplay.specs.Endings.{unread_words}
use Rattle.bkreplay.proofs.program.refuse_words.Goals as goal

reports : {T : Type 0} (r : Result T WriteFault) (text : List ℕ) (old new : Device) → OnOk r (Writes text old new) → IfErr r (λ e. StopsWriting e text old new) → Reports text old new
reports (Ok x) text old new ok err = inl ok
reports (Err e) text old new ok err = inr (err.fails, (e.written, err.short, err.out))

pub returns-in-OutOfMemory : goal.returns-in-OutOfMemory
returns-in-OutOfMemory g c = record {
  memory = λ _. (refl, c.report.ensures);
  word = λ other. absurd (other (sym c.kind.ensures ∙ c.in-OutOfMemory.is));
}

pub returns-in_default : goal.returns-in_default
returns-in_default g c = record {
  memory = λ is. absurd (c.in_default.not-OutOfMemory (c.kind.ensures ∙ is));
  word = λ _. (refl, reports c.push_all.result unread_words (g.E.Sink.state c.args.err.now) (g.E.Sink.state c.push_all.new.sink) c.push_all.ensures.ok c.push_all.ensures.fault);
}
