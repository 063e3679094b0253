use Rattle.std.proofs.Common.{ap, ◌∙◌}
use Rattle.std.specs.Prelude.{slice_index}
use Rattle.std.specs.Mem.Slots.{slots_items}
use Rattle.bk_bank.specs.Words.{WordsData}
use Rattle.bk_bank.proofs.Lists.{elem_get}
use Rattle.bk_bank.proofs.words.Words.word.Goals as goal

pub returns : goal.returns
returns c = elem_get (slots_items c.self.inside.closed.words) c.args.x c.word.result c.word.ensures ∙ ap (λ (d : WordsData). slice_index d.items c.args.x) c.self.view_is
