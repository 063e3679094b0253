-- Each slice that is taken is the next, or the next is looked up.
use Rattle.std.proofs.Common.{◌≡◌, ◌+◌, ℕ, length, map, refl, sym, subst, ◌∙◌, arith}
use Rattle.bk_ledger.specs.private.Slices.{IsOnTheWay, IsReadOf}
use Rattle.bk_ledger.proofs.SliceLemmas.{lent_count, room_for_slice, way_begins, way_ends, way_goes_on}
use Rattle.bk_ledger.proofs.ledger.Ledger.execute_looked.Goals as goal

pub loop-from-init : goal.loop-from-init
loop-from-init g c = record { within = omega arith; way = way_begins _ _; slots = refl; turns = c.requires.turns }

pub returns : goal.returns
returns g c = way_ends _ c.loop-from.from c.args.self c.loop-from.ledger c.loop-from.invariant.way (omega (arith, c.loop-from-test.false, lent_count c.args.payloads.now))

pub begin_at-requires-clause-taken : goal.begin_at-requires-clause-taken
begin_at-requires-clause-taken g c =
    let taken = c.in-Some.ensures (map (λ p. p.now) c.args.payloads.now) c.args.ids.now c.loop-from.invariant.turns in
    taken.0

pub run_looked-requires-clause-room : goal.run_looked-requires-clause-room
run_looked-requires-clause-room g c =
    let looked = c.in_ok-looked.ensures.looked in
    let next : IsReadOf (map (λ p. p.now) c.args.payloads.now) c.loop-from.from c.in_ok-looked.looked.read.counts.items c.in_ok-looked.looked.read.txs.items =
    subst (λ (n : ℕ). IsReadOf (map (λ p. p.now) c.args.payloads.now) n c.in_ok-looked.looked.read.counts.items c.in_ok-looked.looked.read.txs.items) c.in_ok-looked.ensures.place looked.read in
    room_for_slice _ _ _ _ c.args.self c.loop-from.ledger c.loop-from.invariant.way next.slice c.requires.room

pub loop-from-preserved : goal.loop-from-preserved
loop-from-preserved g c =
    let taken = c.in-Some.ensures (map (λ p. p.now) c.args.payloads.now) c.args.ids.now c.loop-from.invariant.turns in
    let looked = c.in_ok-looked.ensures.looked in
    let next : IsReadOf (map (λ p. p.now) c.args.payloads.now) c.loop-from.from c.in_ok-looked.looked.read.counts.items c.in_ok-looked.looked.read.txs.items =
    subst (λ (n : ℕ). IsReadOf (map (λ p. p.now) c.args.payloads.now) n c.in_ok-looked.looked.read.counts.items c.in_ok-looked.looked.read.txs.items) c.in_ok-looked.ensures.place looked.read in
    let len : c.len.result ≡ length c.in_ok-looked.looked.read.counts.items = c.len.ensures ∙ c.in_ok-looked.looked.read.counts.ok.0 in
    record {
      within = omega (arith, next.within, len, lent_count c.args.payloads.now);
      way = subst (λ (n : ℕ). IsOnTheWay (map (λ p. p.now) c.args.payloads.now) (c.loop-from.from + n) c.args.self c.in_ok-ledger.ledger) (sym len)
          (way_goes_on _ _ _ _ c.args.self c.loop-from.ledger c.in_ok-ledger.ledger c.loop-from.invariant.way next.slice c.in_ok-ledger.ensures.ran);
      slots = c.in_ok-ledger.ensures.slots ∙ c.loop-from.invariant.slots;
      turns = taken.1;
    }
