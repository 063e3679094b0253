use Rattle.std.proofs.Common.{◌+◌, ◌*◌, ap, ◌∙◌}
use Rattle.std.specs.Mem.Slots.{slots_items}
use Rattle.bk_bank.specs.Words.{WordsData, state_at}
use Rattle.bk_bank.proofs.Lists.{elem_get}
use Rattle.bk_bank.proofs.words.Words.state_of.Goals as goal

pub returns : goal.returns
returns c = elem_get (slots_items c.self.inside.closed.words) (c.self.inside.words + 2 * c.args.place) c.word.result c.word.ensures ∙ ap (λ (d : WordsData). state_at d c.args.place) c.self.view_is
