use Rattle.std.proofs.Common.{◌≡◌, ◌+◌, ◌-◌, ℕ, List, length, refl, sym, subst, arith}
use Rattle.bk_conflicts.specs.private.Rows.{laid, turned, row_at}
use Rattle.bk_conflicts.proofs.Counting.{room_at, whole_length, counts_sum}
use Rattle.bk_conflicts.proofs.rows.turned_round.Goals as goal

pub sums-requires : goal.sums-requires
sums-requires c = rw c.deref.ensures.value (let e = counts_sum c.args.items.now c.args.counts.now.items (length c.args.counts.now.items) c.requires.low refl c.requires.counted in let few = c.requires.few in omega arith)

-- `first` is one longer than the rows are many
one_longer : (first counts : List ℕ) → length first ≡ length counts + 1 → length counts ≡ length first - 1
one_longer first counts a = omega arith

pub spread-requires : goal.spread-requires
spread-requires c =
    let counts : List ℕ = c.args.counts.now.items in
    let first : List ℕ = c.in_ok-first.first.items in
    let long : length first ≡ length counts + 1 = rw c.deref.ensures.value at c.in_ok-first.ensures.long in
    let w : length counts ≡ length first - 1 = one_longer first counts long in
    rw (c.deref_mut.ensures.value, c.in_ok-copy_to.ensures, c.deref-2.ensures.value) (record {
      some = c.requires.some;
      width = omega arith;
      small = c.requires.small;
      low = λ k d l. let h = c.requires.low k d l in omega arith;
      few = c.requires.few;
      rows = c.requires.rows;
      room = λ p l. room_at c.args.start.now c.args.items.now counts first (length c.args.start.now - 1) (length counts) c.requires.low c.requires.rows
          refl c.requires.counted (rw c.deref.ensures.value at c.in_ok-first.ensures.each) p (omega arith);
      whole = subst (λ (k : ℕ). length (laid (turned (row_at c.args.start.now c.args.items.now) (length c.args.start.now - 1)) k) ≡ length c.args.items.now) w (whole_length c.args.start.now c.args.items.now (length c.args.start.now - 1) (length counts) c.requires.low c.requires.rows);
    })

pub returns : goal.returns
returns c =
    let counts : List ℕ = c.args.counts.now.items in
    let first : List ℕ = c.in_ok-first.first.items in
    let long : length first ≡ length counts + 1 = rw c.deref.ensures.value at c.in_ok-first.ensures.long in
    record {
      long = omega arith;
      starts = λ p l. room_at c.args.start.now c.args.items.now counts first (length c.args.start.now - 1) (length counts) c.requires.low c.requires.rows
          refl c.requires.counted (rw c.deref.ensures.value at c.in_ok-first.ensures.each) p l;
      all = subst (λ (k : ℕ). c.in_ok-after.after.items ≡ laid (turned (row_at c.args.start.now c.args.items.now) (length c.args.start.now - 1)) k) (sym (one_longer first counts long))
          (rw (c.deref_mut.ensures.value, c.in_ok-copy_to.ensures, c.deref-2.ensures.value) at c.in_ok-after.ensures);
    }
