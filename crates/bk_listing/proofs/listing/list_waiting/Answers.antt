use Rattle.std.proofs.Common.{ℕ, List, length, Option, refl, sym, ap, subst, ◌∙◌, arith}
use Rattle.std.specs.List.{flat_map}
use Rattle.std.specs.Global.{Vec}
use Rattle.std.proofs.lemmas.Result.{err_from_is_err_and}
use Rattle.bk_base.specs.declared.version.Version.{Version}
use Rattle.bk_base.specs.declared.kind.Kind.{Kind}
use Rattle.bk_base.specs.Feed.{frame_text}
use Rattle.bk_frames.specs.Cutting.{frames_in}
use Rattle.bk_listing.specs.private.FrameRow.{ListsMore, MoreFails}
use Rattle.bk_listing.specs.private.Listed.{CanBe, waiting}
use Rattle.bk_listing.proofs.LineTexts.{long_frames}
use Rattle.bk_listing.proofs.ShownSoFar.{all_listed, more_fails, none_listed, waiting_fits}
use Rattle.bk_listing.proofs.listing.list_waiting.Goals as goal

pub returns-in_default-clause-listed : goal.returns-in_default-clause-listed
returns-in_default-clause-listed g c = λ taken text h. none_listed taken text c.args.reader.now c.args.lister.now c.args.lister.now (g.K.Sink.state c.args.sink.now) (g.K.Sink.state c.args.sink.now) h (sym c.version.ensures ∙ c.in_default.is) refl refl

pub returns-in_default-clause-emptied : goal.returns-in_default-clause-emptied
returns-in_default-clause-emptied g c = record { cutter = refl; none_waits = ap (λ v. v.items) c.replace-frames.ensures.after ∙ c.new.ensures.items }

pub list-requires-clause-few : goal.list-requires-clause-few
list-requires-clause-few g c κs within =
    let h = c.requires.ready.2 in
    (waiting_fits c.in-Some.version c.requires.ready.0 (waiting c.args.reader.now) c.requires.ready.1 c.args.lister.now (h.listed c.in-Some.version (subst (λ (o : Option Version). CanBe o c.in-Some.version) (sym (sym c.version.ensures ∙ c.in-Some.is)) refl)) (h.good c.in-Some.version (sym c.version.ensures ∙ c.in-Some.is))).2

pub list-requires-clause-index : goal.list-requires-clause-index
list-requires-clause-index g c κs within =
    let h = c.requires.ready.2 in
    let fits = waiting_fits c.in-Some.version c.requires.ready.0 (waiting c.args.reader.now) c.requires.ready.1 c.args.lister.now (h.listed c.in-Some.version (subst (λ (o : Option Version). CanBe o c.in-Some.version) (sym (sym c.version.ensures ∙ c.in-Some.is)) refl)) (h.good c.in-Some.version (sym c.version.ensures ∙ c.in-Some.is)) in
    let same = c.deref.ensures.value ∙ ap (λ (v : Vec (Kind × Vec ℕ)). v.items) c.replace-frames.ensures.value in
    omega (arith, fits.0, long_frames c.args.reader.now.frames.items, ap length same)

pub list-requires-clause-offset : goal.list-requires-clause-offset
list-requires-clause-offset g c κs within =
    let h = c.requires.ready.2 in
    let fits = waiting_fits c.in-Some.version c.requires.ready.0 (waiting c.args.reader.now) c.requires.ready.1 c.args.lister.now (h.listed c.in-Some.version (subst (λ (o : Option Version). CanBe o c.in-Some.version) (sym (sym c.version.ensures ∙ c.in-Some.is)) refl)) (h.good c.in-Some.version (sym c.version.ensures ∙ c.in-Some.is)) in
    let same = c.deref.ensures.value ∙ ap (λ (v : Vec (Kind × Vec ℕ)). v.items) c.replace-frames.ensures.value in
    omega (arith, fits.1, ap (λ (t : List (Kind × Vec ℕ)). length (flat_map frame_text (frames_in t))) same)

pub returns-clause-listed : goal.returns-clause-listed
returns-clause-listed g c = λ taken text h.
    let same = c.deref.ensures.value ∙ ap (λ (v : Vec (Kind × Vec ℕ)). v.items) c.replace-frames.ensures.value in
    all_listed taken text c.args.reader.now c.args.lister.now c.list.new.self c.in-Some.version (g.K.Sink.state c.args.sink.now) (g.K.Sink.state c.list.new.sink) h (sym c.version.ensures ∙ c.in-Some.is)
    (subst (λ (t : List (Kind × Vec ℕ)). ListsMore c.in-Some.version (frames_in t) c.args.lister.now c.list.new.self (g.K.Sink.state c.args.sink.now) (g.K.Sink.state c.list.new.sink)) same c.in_ok-list.ensures.listed)

pub returns-clause-emptied : goal.returns-clause-emptied
returns-clause-emptied g c = record { cutter = refl; none_waits = ap (λ v. v.items) c.replace-frames.ensures.after ∙ c.new.ensures.items }

pub returns-in_err-list-clause-emptied : goal.returns-in_err-list-clause-emptied
returns-in_err-list-clause-emptied g c = record { cutter = refl; none_waits = ap (λ v. v.items) c.replace-frames.ensures.after ∙ c.new.ensures.items }

pub returns-in_err-list-clause-fault : goal.returns-in_err-list-clause-fault
returns-in_err-list-clause-fault g c =
    let p = err_from_is_err_and c.from_residual.result c.from_residual.ensures.1 in
    let same = c.deref.ensures.value ∙ ap (λ (v : Vec (Kind × Vec ℕ)). v.items) c.replace-frames.ensures.value in
    rw (p.1, p.2) (λ taken text h.
    more_fails c.in_err-list.field-0.0 taken text c.args.reader.now c.args.lister.now c.in-Some.version (g.K.Sink.state c.args.sink.now) (g.K.Sink.state c.list.new.sink) h (sym c.version.ensures ∙ c.in-Some.is)
    (subst (λ (t : List (Kind × Vec ℕ)). MoreFails c.in_err-list.field-0.0 c.in-Some.version (frames_in t) c.args.lister.now (g.K.Sink.state c.args.sink.now) (g.K.Sink.state c.list.new.sink)) same c.in_err-list.ensures.fault))
