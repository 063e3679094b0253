use Rattle.std.proofs.Common.{◌≡◌, ◌<◌, drop, take, nat_lt, All}
use Rattle.std.specs.List.{list_all}
use Rattle.bk_script.proofs.parts.signers_in.Given as goal

abbrev pub invariant-loop-number : goal.invariant-loop-number
invariant-loop-number l = record {
  same : l.signers.items ≡ take l.number-index l.numbers;
  low : All (λ n. n < 128) l.signers.items;
  test : list_all (λ n. nat_lt n 128) (drop l.number-index l.numbers) ≡ list_all (λ n. nat_lt n 128) l.numbers;
}
