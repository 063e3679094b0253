use Rattle.std.proofs.Common.{◌<◌, ℕ, subst}
use Rattle.bk_follow.proofs.Openings.{empty_items, some_items, first_taken}
use Rattle.bk_follow.proofs.opening.take_first.Goals as goal

pub returns-then-is_empty : goal.returns-then-is_empty
returns-then-is_empty c = let e = empty_items c.args.frames.now.len c.args.frames.now.items c.args.frames.now.ok.0 c.if-is_empty.ensures in (e, e)

pub remove-frame-requires : goal.remove-frame-requires
remove-frame-requires c = some_items c.args.frames.now.len c.if-is_empty.ensures

pub returns : goal.returns
returns c = first_taken c.args.frames.now.items c.remove-frame.new.self.items c.remove-frame.result (subst (λ (n : ℕ). 0 < n) c.args.frames.now.ok.0 (some_items c.args.frames.now.len c.if-is_empty.ensures)) c.remove-frame.ensures.value c.remove-frame.ensures.by_index.2
