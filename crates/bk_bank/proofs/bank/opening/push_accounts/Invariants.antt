use Rattle.std.proofs.Common.{◌≡◌, ◌++◌, ◌+◌, ◌*◌, vec_len, vec_capacity}
use Rattle.std.specs.Prelude.{take}
use Rattle.bk_conflicts.specs.SceneOf.{in_words}
use Rattle.bk_bank.proofs.bank.opening.push_accounts.Given as goal

abbrev pub invariant-loop-account : goal.invariant-loop-account
invariant-loop-account l = record {
  items : l.words.items ≡ l.initial.words.items ++ in_words (take l.account-index l.numbers);
  len : vec_len l.words ≡ vec_len l.initial.words + 2 * l.account-index;
  room : vec_capacity l.words ≡ vec_capacity l.initial.words;
}
