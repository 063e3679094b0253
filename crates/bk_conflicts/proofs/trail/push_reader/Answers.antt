use Rattle.std.proofs.Common.{◌≡◌, ℕ, ◌+◌, length, get_or, ap, ◌∙◌, arith}
use Rattle.std.proofs.lemmas.Grind.{get_or_default_zero}
use Rattle.bk_conflicts.specs.declared.trail.Reader.{Reader}
use Rattle.bk_conflicts.specs.private.Trail.{none, newest_by, writer_by}
use Rattle.bk_conflicts.proofs.Traces.{trace_kept, trace_read, traces_read}
use Rattle.bk_conflicts.proofs.trail.push_reader.Goals as goal

pub returns : goal.returns
returns c =
    let at = c.index-last.ensures ∙ get_or_default_zero c.args.trail.now.last.items c.args.a _ c.requires.slot in
    let x : Reader = record { place = c.args.q; writer = c.writer_of.result; prev = c.newest_of.result } in
    let v : none + c.len-entry.result ≡ none + length c.args.trail.now.readers.items = ap (λ (k : ℕ). none + k) (let e = c.len-entry.ensures in let z : c.len-entry.result ≡ length c.args.trail.now.readers.items = omega arith in z) in
    let w : x.writer ≡ writer_by c.args.trail.now.readers.items (get_or c.args.trail.now.last.items c.args.a 0) = c.writer_of.ensures ∙ (λ i. writer_by (c.deref.ensures.value i) (at i)) in
    let p : x.prev ≡ newest_by (get_or c.args.trail.now.last.items c.args.a 0) = c.newest_of.ensures ∙ (λ i. newest_by (at i)) in
    rw c.in_ok-push.ensures.items (record {
      trail = λ n l t. traces_read (length c.args.trail.now.last.items) n c.args.trail.now.last.items c.args.trail.now.readers.items x c.args.a _ c.requires.slot l v w p t;
      kept = λ n b rs ws t other h. trace_kept c.args.trail.now.readers.items x c.args.trail.now.last.items c.args.a b _ rs ws other h;
      changed = λ n rs ws t h. trace_read c.args.trail.now.readers.items x c.args.trail.now.last.items c.args.a _ rs ws t.links.some c.requires.slot v w p h;
    })
