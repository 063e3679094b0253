use Rattle.std.proofs.Common.{◌≡◌, ℕ, zero, suc, refl, ◌++◌, ◌∙◌, arith}
use Rattle.std.proofs.lemmas.Result.{err_from_is_err_and}
use Rattle.bk_frames.specs.Device.{Device, Ends, ends_of}
use Rattle.bk_frames.proofs.Devices.{ends_not_at, ends_not_then}
use Rattle.bk_frames.proofs.Pulls.{at_end}
use Rattle.bk_results.specs.Devices.{devices}
use Rattle.bk_listing.specs.declared.listing.FrameReader.{FrameReader}
use Rattle.bk_listing.specs.private.Listed.{waiting}
use Rattle.bk_listing.proofs.ShownSoFar.{all_shown, before_fault, can_list, can_list_front, can_stay, end_fault, err_on, list_on, midst_fault, ok_two, read_on}
use Rattle.bk_listing.proofs.listing.list_all.Goals as goal

-- a pull that gave something did not end the source
still_goes_on : (start now later : Device) (n : ℕ) → Ends 0 start now → Ends (ends_of n 1) now later → ¬ (n ≡ 0) → Ends 0 start later
still_goes_on start now later zero before last some = absurd (some refl)
still_goes_on start now later (suc n) before last some = ends_not_then start now later before (ends_not_at (suc n) now later last (omega arith))

pub pull_frames-requires-clause-pulled : goal.pull_frames-requires-clause-pulled
pull_frames-requires-clause-pulled g c =
    let h = c.pieces.invariant.shown in
    (g.S.Source.state c.args.source.now, h.bytes, h.taken ++ waiting c.pieces.reader, h.pulled)

pub list_before-requires-clause-ready : goal.list_before-requires-clause-ready
list_before-requires-clause-ready g c κs within =
    let start = g.S.Source.state c.args.source.now in
    let h = c.pieces.invariant.shown in
    let reader : FrameReader = record { cutter = c.pull_frames.new.cutter; frames = c.pull_frames.new.frames } in
    let front = c.in-Err.ensures.before start h.bytes h.taken h.pulled in
    (h.taken, h.text, can_list_front front.0 c.in-Err.found.offset h.taken h.text reader c.pieces.lister front.2 (λ v can. h.listed v (can_stay c.pieces.reader.cutter.version reader.cutter.version c.pull_frames.ensures.version v can)) h.written)

pub returns-in-Err-clause-fault : goal.returns-in-Err-clause-fault
returns-in-Err-clause-fault g c =
    let start = g.S.Source.state c.args.source.now in
    let h = c.pieces.invariant.shown in
    let reader : FrameReader = record { cutter = c.pull_frames.new.cutter; frames = c.pull_frames.new.frames } in
    let old = devices start (g.K.Sink.state c.args.sink.now) in
    let now = devices (g.S.Source.state c.pieces.source) (g.K.Sink.state c.pieces.sink) in
    let later = devices (g.S.Source.state c.pull_frames.new.source) (g.K.Sink.state c.list_before.new.sink) in
    let front = c.in-Err.ensures.before start h.bytes h.taken h.pulled in
    let can = can_list_front front.0 c.in-Err.found.offset h.taken h.text reader c.pieces.lister front.2 (λ v can. h.listed v (can_stay c.pieces.reader.cutter.version reader.cutter.version c.pull_frames.ensures.version v can)) h.written in
    before_fault old now later c.pieces.reader reader c.pieces.lister c.list_before.new.lister c.in-Err.found c.list_before.result h (c.in-Err.ensures.refused start h.bytes _ h.pulled, front) c.pull_frames.ensures.version (c.list_before.ensures h.taken h.text can)

pub list_last-requires-clause-ready : goal.list_last-requires-clause-ready
list_last-requires-clause-ready g c κs within =
    let start = g.S.Source.state c.args.source.now in
    let h = c.pieces.invariant.shown in
    let reader : FrameReader = record { cutter = c.pull_frames.new.cutter; frames = c.pull_frames.new.frames } in
    let old = devices start (g.K.Sink.state c.args.sink.now) in
    let now = devices (g.S.Source.state c.pieces.source) (g.K.Sink.state c.pieces.sink) in
    let read = devices (g.S.Source.state c.pull_frames.new.source) (g.K.Sink.state c.pieces.sink) in
    let more = c.in-Ok.ensures.pulls start h.bytes h.taken h.pulled in
    let shown = read_on old now read c.pieces.reader reader c.pieces.lister c.in-Ok.count h more c.pull_frames.ensures.version refl in
    (h.taken, h.text, can_list old read reader c.pieces.lister shown)

pub list_last-requires-clause-reads : goal.list_last-requires-clause-reads
list_last-requires-clause-reads g c κs within = (c.in-Ok.ensures.pulls (g.S.Source.state c.args.source.now) c.pieces.invariant.shown.bytes c.pieces.invariant.shown.taken c.pieces.invariant.shown.pulled).pulled.reads

pub returns-then-count-eq0-clause-listed : goal.returns-then-count-eq0-clause-listed
returns-then-count-eq0-clause-listed g c =
    let start = g.S.Source.state c.args.source.now in
    let h = c.pieces.invariant.shown in
    let reader : FrameReader = record { cutter = c.pull_frames.new.cutter; frames = c.pull_frames.new.frames } in
    let old = devices start (g.K.Sink.state c.args.sink.now) in
    let now = devices (g.S.Source.state c.pieces.source) (g.K.Sink.state c.pieces.sink) in
    let read = devices (g.S.Source.state c.pull_frames.new.source) (g.K.Sink.state c.pieces.sink) in
    let more = c.in-Ok.ensures.pulls start h.bytes h.taken h.pulled in
    let shown = read_on old now read c.pieces.reader reader c.pieces.lister c.in-Ok.count h more c.pull_frames.ensures.version refl in
    let later = devices (g.S.Source.state c.pull_frames.new.source) (g.K.Sink.state c.list_last.new.sink) in
    let zero = c.if-count-eq0.true in
    let all = at_end start (g.S.Source.state c.pull_frames.new.source) h.bytes more.came (more.counted ∙ zero) (c.in-Ok.ensures.all zero start h.bytes _ h.pulled c.pieces.invariant.goes_on) in
    ok_two c.list_last.result _ _ _ c.list_last.ensures.listed c.list_last.ensures.whole
    (λ listed whole. (all_shown old read later reader c.pieces.lister c.list_last.new.lister shown (listed h.taken h.text (can_list old read reader c.pieces.lister shown)) whole refl all).0)

pub returns-then-count-eq0-clause-rejected : goal.returns-then-count-eq0-clause-rejected
returns-then-count-eq0-clause-rejected g c =
    let start = g.S.Source.state c.args.source.now in
    let h = c.pieces.invariant.shown in
    let reader : FrameReader = record { cutter = c.pull_frames.new.cutter; frames = c.pull_frames.new.frames } in
    let old = devices start (g.K.Sink.state c.args.sink.now) in
    let now = devices (g.S.Source.state c.pieces.source) (g.K.Sink.state c.pieces.sink) in
    let read = devices (g.S.Source.state c.pull_frames.new.source) (g.K.Sink.state c.pieces.sink) in
    let more = c.in-Ok.ensures.pulls start h.bytes h.taken h.pulled in
    let shown = read_on old now read c.pieces.reader reader c.pieces.lister c.in-Ok.count h more c.pull_frames.ensures.version refl in
    let later = devices (g.S.Source.state c.pull_frames.new.source) (g.K.Sink.state c.list_last.new.sink) in
    let zero = c.if-count-eq0.true in
    let all = at_end start (g.S.Source.state c.pull_frames.new.source) h.bytes more.came (more.counted ∙ zero) (c.in-Ok.ensures.all zero start h.bytes _ h.pulled c.pieces.invariant.goes_on) in
    ok_two c.list_last.result _ _ _ c.list_last.ensures.listed c.list_last.ensures.whole
    (λ listed whole. (all_shown old read later reader c.pieces.lister c.list_last.new.lister shown (listed h.taken h.text (can_list old read reader c.pieces.lister shown)) whole refl all).1)

pub returns-then-count-eq0-clause-forged : goal.returns-then-count-eq0-clause-forged
returns-then-count-eq0-clause-forged g c =
    let start = g.S.Source.state c.args.source.now in
    let h = c.pieces.invariant.shown in
    let reader : FrameReader = record { cutter = c.pull_frames.new.cutter; frames = c.pull_frames.new.frames } in
    let old = devices start (g.K.Sink.state c.args.sink.now) in
    let now = devices (g.S.Source.state c.pieces.source) (g.K.Sink.state c.pieces.sink) in
    let read = devices (g.S.Source.state c.pull_frames.new.source) (g.K.Sink.state c.pieces.sink) in
    let more = c.in-Ok.ensures.pulls start h.bytes h.taken h.pulled in
    let shown = read_on old now read c.pieces.reader reader c.pieces.lister c.in-Ok.count h more c.pull_frames.ensures.version refl in
    let later = devices (g.S.Source.state c.pull_frames.new.source) (g.K.Sink.state c.list_last.new.sink) in
    let zero = c.if-count-eq0.true in
    let all = at_end start (g.S.Source.state c.pull_frames.new.source) h.bytes more.came (more.counted ∙ zero) (c.in-Ok.ensures.all zero start h.bytes _ h.pulled c.pieces.invariant.goes_on) in
    ok_two c.list_last.result _ _ _ c.list_last.ensures.listed c.list_last.ensures.whole
    (λ listed whole. (all_shown old read later reader c.pieces.lister c.list_last.new.lister shown (listed h.taken h.text (can_list old read reader c.pieces.lister shown)) whole refl all).2)

pub returns-then-count-eq0-clause-sound : goal.returns-then-count-eq0-clause-sound
returns-then-count-eq0-clause-sound g c =
    let start = g.S.Source.state c.args.source.now in
    let h = c.pieces.invariant.shown in
    let reader : FrameReader = record { cutter = c.pull_frames.new.cutter; frames = c.pull_frames.new.frames } in
    let old = devices start (g.K.Sink.state c.args.sink.now) in
    let now = devices (g.S.Source.state c.pieces.source) (g.K.Sink.state c.pieces.sink) in
    let read = devices (g.S.Source.state c.pull_frames.new.source) (g.K.Sink.state c.pieces.sink) in
    let more = c.in-Ok.ensures.pulls start h.bytes h.taken h.pulled in
    let shown = read_on old now read c.pieces.reader reader c.pieces.lister c.in-Ok.count h more c.pull_frames.ensures.version refl in
    ok_two c.list_last.result _ _ _ c.list_last.ensures.listed c.list_last.ensures.whole
    (λ listed whole. (more.pulled.works, (listed h.taken h.text (can_list old read reader c.pieces.lister shown)).out.0 ∙ h.works))

pub returns-then-count-eq0-clause-fault : goal.returns-then-count-eq0-clause-fault
returns-then-count-eq0-clause-fault g c =
    let start = g.S.Source.state c.args.source.now in
    let h = c.pieces.invariant.shown in
    let reader : FrameReader = record { cutter = c.pull_frames.new.cutter; frames = c.pull_frames.new.frames } in
    let old = devices start (g.K.Sink.state c.args.sink.now) in
    let now = devices (g.S.Source.state c.pieces.source) (g.K.Sink.state c.pieces.sink) in
    let read = devices (g.S.Source.state c.pull_frames.new.source) (g.K.Sink.state c.pieces.sink) in
    let more = c.in-Ok.ensures.pulls start h.bytes h.taken h.pulled in
    let shown = read_on old now read c.pieces.reader reader c.pieces.lister c.in-Ok.count h more c.pull_frames.ensures.version refl in
    let later = devices (g.S.Source.state c.pull_frames.new.source) (g.K.Sink.state c.list_last.new.sink) in
    let zero = c.if-count-eq0.true in
    let all = at_end start (g.S.Source.state c.pull_frames.new.source) h.bytes more.came (more.counted ∙ zero) (c.in-Ok.ensures.all zero start h.bytes _ h.pulled c.pieces.invariant.goes_on) in
    err_on c.list_last.result _ _ c.list_last.ensures.fault
    (λ f ends. end_fault old read later reader c.pieces.lister c.list_last.new.lister f shown refl all (ends h.taken h.text (can_list old read reader c.pieces.lister shown)))

pub list_waiting-requires-clause-ready : goal.list_waiting-requires-clause-ready
list_waiting-requires-clause-ready g c κs within =
    let start = g.S.Source.state c.args.source.now in
    let h = c.pieces.invariant.shown in
    let reader : FrameReader = record { cutter = c.pull_frames.new.cutter; frames = c.pull_frames.new.frames } in
    let old = devices start (g.K.Sink.state c.args.sink.now) in
    let now = devices (g.S.Source.state c.pieces.source) (g.K.Sink.state c.pieces.sink) in
    let read = devices (g.S.Source.state c.pull_frames.new.source) (g.K.Sink.state c.pieces.sink) in
    let more = c.in-Ok.ensures.pulls start h.bytes h.taken h.pulled in
    let shown = read_on old now read c.pieces.reader reader c.pieces.lister c.in-Ok.count h more c.pull_frames.ensures.version refl in
    (h.taken, h.text, can_list old read reader c.pieces.lister shown)

pub pieces-preserved : goal.pieces-preserved
pieces-preserved g c =
    let start = g.S.Source.state c.args.source.now in
    let h = c.pieces.invariant.shown in
    let reader : FrameReader = record { cutter = c.pull_frames.new.cutter; frames = c.pull_frames.new.frames } in
    let old = devices start (g.K.Sink.state c.args.sink.now) in
    let now = devices (g.S.Source.state c.pieces.source) (g.K.Sink.state c.pieces.sink) in
    let read = devices (g.S.Source.state c.pull_frames.new.source) (g.K.Sink.state c.pieces.sink) in
    let more = c.in-Ok.ensures.pulls start h.bytes h.taken h.pulled in
    let shown = read_on old now read c.pieces.reader reader c.pieces.lister c.in-Ok.count h more c.pull_frames.ensures.version refl in
    let later = devices (g.S.Source.state c.pull_frames.new.source) (g.K.Sink.state c.list_waiting.new.sink) in
    record {
      shown = list_on old read later reader c.list_waiting.new.reader c.pieces.lister c.list_waiting.new.lister shown (c.in_ok-list_waiting.ensures.listed h.taken h.text (can_list old read reader c.pieces.lister shown)) c.in_ok-list_waiting.ensures.emptied refl;
      goes_on = still_goes_on start (g.S.Source.state c.pieces.source) (g.S.Source.state c.pull_frames.new.source) c.in-Ok.count c.pieces.invariant.goes_on c.in-Ok.ensures.ends c.if-count-eq0.false;
      some = omega (arith, c.pieces.invariant.some, c.pull_frames.auto.piece);
      few = omega (arith, c.pieces.invariant.few, c.pull_frames.auto.piece);
    }

pub returns-in_err-list_waiting-clause-fault : goal.returns-in_err-list_waiting-clause-fault
returns-in_err-list_waiting-clause-fault g c =
    let p = err_from_is_err_and c.from_residual.result c.from_residual.ensures.1 in
    let start = g.S.Source.state c.args.source.now in
    let h = c.pieces.invariant.shown in
    let reader : FrameReader = record { cutter = c.pull_frames.new.cutter; frames = c.pull_frames.new.frames } in
    let old = devices start (g.K.Sink.state c.args.sink.now) in
    let now = devices (g.S.Source.state c.pieces.source) (g.K.Sink.state c.pieces.sink) in
    let read = devices (g.S.Source.state c.pull_frames.new.source) (g.K.Sink.state c.pieces.sink) in
    let more = c.in-Ok.ensures.pulls start h.bytes h.taken h.pulled in
    let shown = read_on old now read c.pieces.reader reader c.pieces.lister c.in-Ok.count h more c.pull_frames.ensures.version refl in
    let later = devices (g.S.Source.state c.pull_frames.new.source) (g.K.Sink.state c.list_waiting.new.sink) in
    rw (p.1, p.2) (midst_fault old read later reader c.pieces.lister c.in_err-list_waiting.field-0.0 shown refl (c.in_err-list_waiting.ensures.fault h.taken h.text (can_list old read reader c.pieces.lister shown)))
