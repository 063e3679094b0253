use Rattle.std.proofs.Common.{◌+◌, [], ◌∷◌, ◌++◌, drop, get_or, map, refl, sym, ap, ◌∙◌, arith}
use Rattle.bk_tx.specs.declared.payments.Payment.{Payment}
use Rattle.bk_tables.specs.Postings.{postings_text}
use Rattle.bk_tables.specs.private.Walking.{played_split, row_by}
use Rattle.bk_tables.specs.declared.parts.Played.{Played}
use Rattle.bk_tables.proofs.Done.{all_done, begun, next_done}
use Rattle.bk_tables.proofs.PostingTexts.{parts_next}
use Rattle.bk_tables.proofs.TableTexts.{drop_past}
use Rattle.bk_tables.proofs.parts.put_split.Goals as goal

pub loop-payment-init : goal.loop-payment-init
loop-payment-init g c = begun _ _ _ c.requires.ready refl

pub put_part-requires : goal.put_part-requires
put_part-requires g c = c.loop-payment.invariant.puts.ready

pub loop-payment-preserved : goal.loop-payment-preserved
loop-payment-preserved g c =
    let none : Payment = record { to = 0; amount = 0 } in
    let more = postings_text c.args.accounts.now (map (row_by c.args.spot c.args.state.now.rows) (map (played_split c.args.spot.receipt) (drop (c.loop-payment.payment-index + 1) c.args.payments.now))) in
    next_done _ (postings_text c.args.accounts.now (row_by c.args.spot c.args.state.now.rows c.played_in-played.result ∷ [])) more
    (parts_next c.args.accounts.now (row_by c.args.spot c.args.state.now.rows) (played_split c.args.spot.receipt) c.args.payments.now c.loop-payment.payment-index none c.loop-payment-test.true
    ∙ ap (λ (x : Played). postings_text c.args.accounts.now (row_by c.args.spot c.args.state.now.rows x ∷ []) ++ more) {x = played_split c.args.spot.receipt (get_or c.args.payments.now c.loop-payment.payment-index none)} (sym c.played_in-played.ensures))
    c.loop-payment.invariant c.put_part.ensures (omega arith)

pub returns : goal.returns
returns g c =
    let f = row_by c.args.spot c.args.state.now.rows in
    all_done 900 (ap (λ (ps : _). postings_text c.args.accounts.now (map f (map (played_split c.args.spot.receipt) ps))) (drop_past c.args.payments.now c.loop-payment.payment-index c.loop-payment-test.false)) c.loop-payment.invariant (omega (arith, c.requires.few, c.loop-payment.auto.payment-index-end))
