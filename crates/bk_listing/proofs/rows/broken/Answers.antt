use Rattle.std.proofs.Common.{[], ◌∷◌, ap, sym, ◌∙◌}
use Rattle.bk_listing.proofs.Words.{none_shape, none_words}
use Rattle.bk_listing.proofs.rows.broken.Goals as goal

pub returns-in_default-clause-words : goal.returns-in_default-clause-words
returns-in_default-clause-words c =
    let none = sym c.of.ensures.exact ∙ c.in_default.is in
    λ k. none_words c.args.payload.now c.args.rule none (none_shape c.requires.0 c.args.payload.now c.args.rule c.requires.1 none)

pub returns-in_default-clause-rules : goal.returns-in_default-clause-rules
returns-in_default-clause-rules c = ap (λ r. r ∷ []) (sym (none_shape c.requires.0 c.args.payload.now c.args.rule c.requires.1 (sym c.of.ensures.exact ∙ c.in_default.is)))
