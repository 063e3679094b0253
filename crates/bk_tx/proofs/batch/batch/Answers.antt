use Rattle.std.proofs.Common.{◌≡◌, ◌+◌, ◌++◌, ◌∷◌, [], drop, sym, arith}
use Rattle.std.proofs.lemmas.List.{map_push}
use Rattle.std.proofs.lemmas.List.Elements.{All-push}
use Rattle.bk_tx.specs.Batch.{IsWithin, cut, cuts}
use Rattle.bk_base.specs.Numbers.{list_at}
use Rattle.bk_tx.specs.Reading.{text_at}
use Rattle.bk_tx.proofs.Batches.{end-push, FollowFrom-push, count_missing, no_room, text_void, bytes_left, all_read}
use Rattle.bk_base.proofs.Lists.{list_goes_on, list_ends, list_done}
use Rattle.bk_tx.proofs.batch.batch.Goals as goal

pub returns-in_default-clause-exact : goal.returns-in_default-clause-exact
returns-in_default-clause-exact c = count_missing c.args.bytes.now (rw c.new-fields.ensures at c.in_default.ensures.found)

pub returns-then-rest-count-clause-exact : goal.returns-then-rest-count-clause-exact
returns-then-rest-count-clause-exact c =
    let read = rw c.new-fields.ensures at c.in-Some.ensures.found in
    no_room c.args.bytes.now c.u16.new.self c.in-Some.count (sym read) (rw c.rest.ensures at c.if-rest-count.true)

pub returns-in_default-slice_at-clause-exact : goal.returns-in_default-slice_at-clause-exact
returns-in_default-slice_at-clause-exact c =
    let bytes = c.args.bytes.now in
    let read = rw c.new-fields.ensures at c.in-Some.ensures.found in
    text_void bytes c.u16.new.self c.in-Some.count (sym read) (list_ends text_at (cuts bytes c.loop.slices.items) c.in-Some.count c.loop.counter (drop c.loop.at bytes) (list_at text_at c.in-Some.count (drop 2 bytes)) c.loop-test.true c.in_default-slice_at.ensures.found c.loop.invariant.read)

pub slice_at-requires-clause-low : goal.slice_at-requires-clause-low
slice_at-requires-clause-low c = omega (arith, c.loop.invariant.low, c.loop-test.true)

pub loop-preserved : goal.loop-preserved
loop-preserved c =
    let bytes = c.args.bytes.now in
    let slice = c.in-Some-slice_at.slice in
    let longer : cuts bytes c.push.new.self.items ≡ cuts bytes c.loop.slices.items ++ cut bytes slice ∷ [] = rw c.in_ok-push.ensures.items (map_push _ c.loop.slices.items slice) in
    record {
      low = omega (arith, c.loop.invariant.low, c.in-Some-slice_at.ensures.place.0, c.in-Some-slice_at.ensures.place.1);
      end = rw c.in_ok-push.ensures.items (end-push 2 c.loop.slices.items slice);
      places = rw c.in_ok-push.ensures.items (FollowFrom-push 2 c.loop.slices.items slice c.loop.invariant.places (rw c.loop.invariant.end c.in-Some-slice_at.ensures.place.0));
      inside = c.in-Some-slice_at.ensures.inside;
      within = rw c.in_ok-push.ensures.items (All-push (IsWithin bytes) c.loop.slices.items slice c.loop.invariant.within c.in-Some-slice_at.ensures.inside);
      read = rw longer (list_goes_on text_at (cuts bytes c.loop.slices.items) c.in-Some.count c.loop.counter (drop c.loop.at bytes) (cut bytes slice) (drop (slice.start + slice.len) bytes) (list_at text_at c.in-Some.count (drop 2 bytes)) c.loop-test.true c.in-Some-slice_at.ensures.found c.loop.invariant.read);
    }

pub returns-then-at-bytes-clause-exact : goal.returns-then-at-bytes-clause-exact
returns-then-at-bytes-clause-exact c =
    let bytes = c.args.bytes.now in
    let read = rw c.new-fields.ensures at c.in-Some.ensures.found in
    bytes_left bytes c.u16.new.self c.in-Some.count c.loop.at (cuts bytes c.loop.slices.items) (sym read) (list_done text_at (cuts bytes c.loop.slices.items) c.in-Some.count c.loop.counter (drop c.loop.at bytes) (list_at text_at c.in-Some.count (drop 2 bytes)) c.loop-test.false c.loop.invariant.read) (omega (arith, c.if-at-bytes.true))

pub returns-clause-exact : goal.returns-clause-exact
returns-clause-exact c =
    let bytes = c.args.bytes.now in
    let read = rw c.new-fields.ensures at c.in-Some.ensures.found in
    all_read bytes c.u16.new.self c.in-Some.count c.loop.at (cuts bytes c.loop.slices.items) (sym read) (list_done text_at (cuts bytes c.loop.slices.items) c.in-Some.count c.loop.counter (drop c.loop.at bytes) (list_at text_at c.in-Some.count (drop 2 bytes)) c.loop-test.false c.loop.invariant.read) (omega (arith, c.if-at-bytes.false))
