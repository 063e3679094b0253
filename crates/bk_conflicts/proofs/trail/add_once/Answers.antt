use Rattle.std.proofs.Common.{◌≡◌, ◌<◌, ℕ, List, length, refl, arith}
use Rattle.bk_conflicts.proofs.Counting.{count_push, count_room}
use Rattle.bk_conflicts.proofs.Marks.{row_known, row_new}
use Rattle.bk_conflicts.proofs.trail.add_once.Goals as goal

low : (x : ℕ) (stamp counts : List ℕ) → x < length stamp → length counts ≡ length stamp → x < length counts
low x stamp counts l e = omega arith

pub overflow_add-counts : goal.overflow_add-counts
overflow_add-counts c =
    let room = count_room c.args.counts.now c.args.found.now.items c.args.source (low c.args.source c.args.stamp.now c.args.counts.now c.requires.inside c.requires.wide) c.requires.counted in
    let is = c.args.found.now.ok.0 in
    let within = c.args.found.now.ok.1 in
    let small = c.args.found.now.small in omega arith

pub returns-in_ok-push : goal.returns-in_ok-push
returns-in_ok-push c = rw c.in_ok-push.ensures.items (record {
  row = λ before row h. row_new c.args.mark c.args.source before row c.args.stamp.now c.args.found.now.items c.requires.inside h c.if-stamp-source.true;
  counted = count_push c.args.counts.now c.args.found.now.items c.args.source _ (low c.args.source c.args.stamp.now c.args.counts.now c.requires.inside c.requires.wide) refl c.requires.counted;
})

pub returns-else-stamp-source : goal.returns-else-stamp-source
returns-else-stamp-source c = record {
  row = λ before row h. row_known c.args.mark c.args.source before row c.args.stamp.now c.args.found.now.items c.requires.inside h c.if-stamp-source.false;
  counted = c.requires.counted;
}
