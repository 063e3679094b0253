-- The sources are those that were opened, and what they were left as stays.
use Rattle.std.proofs.Common.{rules, Some, ap, sym, refl, ◌∙◌, inl, inr}
use Rattle.std.specs.Prelude.{option_map}
use Rattle.bk_frames.specs.Device.{plain}
use Rattle.bk_jobs.specs.Reads.{device_of}
use Rattle.bk_jobs.specs.Sources.{job_devices}
use Rattle.bk_jobs.proofs.over.run_ready.Goals as goal

pub returns-in-Some-clause-ran : goal.returns-in-Some-clause-ran
returns-in-Some-clause-ran g c =
    let see = device_of g.N.File.Source.state g.I.Source.state in
    record {
      old = job_devices (see c.taken-first.result) (see c.in-Some.second) (g.O.Sink.state c.args.out.now);
      new = job_devices (see c.run_over-over.result.first) (see c.run_over-over.result.second) (g.O.Sink.state c.run_over-over.new.out);
      first_old = ap (option_map see) c.taken-first.ensures.gives;
      first_new = refl;
      second_read = inl (ap (option_map see) (sym c.take.ensures.value ∙ c.in-Some.is), refl);
      begins = refl;
      ends = refl;
      ran = c.run_over-over.ensures.ran;
    }

pub returns-clause-ran : goal.returns-clause-ran
returns-clause-ran g c =
    let see = device_of g.N.File.Source.state g.I.Source.state in
    record {
      old = job_devices (see c.taken-first.result) (plain (Some c.new.result.inner.now) c.new.result.failures) (g.O.Sink.state c.args.out.now);
      new = job_devices (see c.run_over-over-2.result.first) (plain (Some c.run_over-over-2.result.second.inner.now) c.run_over-over-2.result.second.failures) (g.O.Sink.state c.run_over-over-2.new.out);
      first_old = ap (option_map see) c.taken-first.ensures.gives;
      first_new = refl;
      second_read = inr (ap (option_map see) (sym c.take.ensures.value ∙ c.in_default.is), ap (option_map see) c.take.ensures.after, search rules);
      begins = refl;
      ends = refl;
      ran = c.run_over-over-2.ensures.ran;
    }
