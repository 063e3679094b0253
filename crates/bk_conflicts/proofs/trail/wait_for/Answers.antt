use Rattle.std.proofs.Common.{◌≡◌, ◌≢◌, ◌⊎◌, inl, inr, ℕ, ◌+◌, ◌<◌, List, length, get_or, Bool, false, sym, ap, ◌∙◌, subst, arith}
use Rattle.std.proofs.lemmas.Grind.{get_or_default_zero}
use Rattle.bk_conflicts.specs.private.Trail.{none, newest_by, writer_by, Linked, sources_of, all_once, WriterIs, IsRow}
use Rattle.bk_conflicts.proofs.Traces.{linked_some, linked_none}
use Rattle.bk_conflicts.proofs.trail.wait_for.Goals.{else-access-via-then-access+else-newest-ne0, else-access-via-else-access}
use Rattle.bk_conflicts.proofs.trail.wait_for.Goals as goal

pub add_readers-requires : goal.add_readers-requires
add_readers-requires c =
    let at = c.index-last.ensures ∙ get_or_default_zero c.args.trail.now.last.items c.args.access.slot _ c.requires.slot in
    rw c.deref.ensures.value (record {
      links = c.requires.trail.links;
      head = let h = c.requires.trail.heads c.args.access.slot c.requires.slot in let e = c.newest_of-newest.ensures in let a = at in omega arith;
      wide = c.requires.wide;
      counted = c.requires.counted;
    })

pub writer_of-writer-requires : goal.writer_of-writer-requires
writer_of-writer-requires c =
    let at = c.index-last.ensures ∙ get_or_default_zero c.args.trail.now.last.items c.args.access.slot _ c.requires.slot in
    rw c.deref-else-access.ensures.value (let h = c.requires.trail.heads c.args.access.slot c.requires.slot in let a = at in omega arith)

pub add_writer-requires : goal.add_writer-requires
add_writer-requires c =
    let at = c.index-last.ensures ∙ get_or_default_zero c.args.trail.now.last.items c.args.access.slot _ c.requires.slot in
    let is : c.writer_of-writer.result ≡ writer_by c.args.trail.now.readers.items (get_or c.args.trail.now.last.items c.args.access.slot 0) =
    c.writer_of-writer.ensures ∙ (λ i. writer_by (c.deref-else-access.ensures.value i) (at i)) in
    record {
      inside = subst (λ (w : ℕ). w ≢ none → w < length c.args.stamp.now) (sym is) (c.requires.trail.wrote c.args.access.slot c.requires.slot);
      wide = c.requires.wide;
      counted = c.requires.counted;
    }

pub returns-in_ok-add_readers-clause-row : goal.returns-in_ok-add_readers-clause-row
returns-in_ok-add_readers-clause-row c = λ before row rs ws h m.
    let at = c.index-last.ensures ∙ get_or_default_zero c.args.trail.now.last.items c.args.access.slot _ c.requires.slot in
    let l : Linked c.args.trail.now.readers.items c.newest_of-newest.result rs = subst (λ (k : ℕ). Linked c.args.trail.now.readers.items k rs) (sym (c.newest_of-newest.ensures ∙ ap (λ (k : ℕ). newest_by k) at)) h.linked in
    let f = (rw c.deref.ensures.value at c.in_ok-add_readers.ensures.row) before row rs l m in
    subst (λ (xs : List ℕ). IsRow (c.args.q + 1) before (all_once row xs) c.add_readers.new.stamp c.add_readers.new.found.items) (sym (ap (λ (w : Bool). sources_of w rs ws) c.if-access.true ∙ linked_some c.args.trail.now.readers.items ws c.newest_of-newest.result rs c.if-newest-ne0.true l)) f

pub returns-in_ok-add_writer-clause-row : goal.returns-in_ok-add_writer-clause-row
returns-in_ok-add_writer-clause-row c = λ before row rs ws h m.
    let at = c.index-last.ensures ∙ get_or_default_zero c.args.trail.now.last.items c.args.access.slot _ c.requires.slot in
    let l : Linked c.args.trail.now.readers.items c.newest_of-newest.result rs = subst (λ (k : ℕ). Linked c.args.trail.now.readers.items k rs) (sym (c.newest_of-newest.ensures ∙ ap (λ (k : ℕ). newest_by k) at)) h.linked in
    let is : c.writer_of-writer.result ≡ writer_by c.args.trail.now.readers.items (get_or c.args.trail.now.last.items c.args.access.slot 0) =
    c.writer_of-writer.ensures ∙ (λ i. writer_by (c.deref-else-access.ensures.value i) (at i)) in
    let why : (c.args.access.writable ≡ false) ⊎ (c.newest_of-newest.result ≡ 0) = elim c.else-access.branch [ else-access-via-then-access+else-newest-ne0 w ↦ inr w.if-newest-ne0.false | else-access-via-else-access w ↦ inl w.if-access.false ] in
    let f = c.in_ok-add_writer.ensures.row before row ws (subst (λ (k : ℕ). WriterIs k ws) (sym is) h.writer) m in
    subst (λ (xs : List ℕ). IsRow (c.args.q + 1) before (all_once row xs) c.add_writer.new.stamp c.add_writer.new.found.items) (sym (linked_none c.args.trail.now.readers.items ws c.newest_of-newest.result c.args.access.writable rs why l)) f
