use Rattle.std.proofs.Common.{◌≡◌, ℕ, List, Some, None, sym, ap, ◌∙◌, length, subst, arith}
use Rattle.std.specs.List.{Contains}
use Rattle.std.specs.List.{position}
use Rattle.bk_cert.proofs.Lists.{none_in_nil}
use Rattle.bk_rounds.specs.private.Numbered.{count_unmarked}
use Rattle.bk_rounds.specs.private.Names.{has_id}
use Rattle.bk_rounds.proofs.names.Names.new.Goals as goal

none_some : (k : ℕ) → None ≡ Some k → ⊥
none_some k e = cc

pub returns-clause-names : goal.returns-clause-names
returns-clause-names c = record {
  marks = ap length c.new-2.ensures.items ∙ sym (ap length c.new.ensures);
  sets = ap length c.new-4.ensures.items ∙ sym (ap length c.new.ensures);
  rows = λ m i h. absurd (none_in_nil i (subst (λ (xs : List ℕ). Contains xs i) (c.new-3.ensures m) h));
  waiting = sym (ap count_unmarked c.new-2.ensures.items);
  numbering = record {
    sound = λ q k e. absurd (none_some k (sym (ap (position (has_id q)) c.new.ensures) ∙ e));
    complete = λ k low. absurd (omega (arith, low, ap length c.new.ensures));
  };
}
