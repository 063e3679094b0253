use Rattle.std.proofs.Common.{◌≡◌, None, rules}
use Rattle.bk_frames.specs.Cutting.{frames_in}
use Rattle.bk_frames.proofs.CutParts.{open_part, cuts_seen, refuses_piece, refuses_seen}
use Rattle.bk_frames.proofs.cutter.Cutter.feed_into.Goals as goal

pub returns-in-Ok-clause-cuts : goal.returns-in-Ok-clause-cuts
returns-in-Ok-clause-cuts c =
    let none : c.self.inside.fault ≡ None = search rules in
    let cuts = c.in-Ok.ensures.cuts in
    (cuts.0, cuts.1, cuts_seen c.self.inside.part c.cut.new.part c.self.inside.fault c.args.self.now c.args.piece.now (frames_in cuts.0) none c.self.view_is cuts.2)

pub returns-in-Ok-clause-open : goal.returns-in-Ok-clause-open
returns-in-Ok-clause-open c = (search rules, search rules, open_part c.cut.new.part c.in-Ok.ensures.part.0 c.in-Ok.ensures.part.1)

pub returns-in-Err-clause-refused : goal.returns-in-Err-clause-refused
returns-in-Err-clause-refused c = λ none.
    refuses_piece c.args.self.now c.args.piece.now c.args.frames.now.items c.cut.new.out.items c.cut.new.part.version _ (refuses_seen c.self.inside.part c.self.inside.fault c.args.self.now c.args.piece.now c.args.frames.now.items c.cut.new.out.items c.cut.new.part.version _ c.self.view_is c.in-Err.ensures.refused none)

pub returns-in-Err-clause-before : goal.returns-in-Err-clause-before
returns-in-Err-clause-before c = λ none. refuses_seen c.self.inside.part c.self.inside.fault c.args.self.now c.args.piece.now c.args.frames.now.items c.cut.new.out.items c.cut.new.part.version _ c.self.view_is c.in-Err.ensures.refused none
