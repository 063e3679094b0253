use Rattle.std.proofs.Common.{◌∙◌}
use Rattle.bk_script.proofs.Written.{members_short, rows_short}
use Rattle.bk_script.proofs.frames.feed_bytes.Goals as goal

pub put_frame-requires : goal.put_frame-requires
put_frame-requires c = members_short c.args.version c.args.weights.now c.deref.result.now c.requires (c.deref.ensures.value ∙ c.in_ok-members_payload.ensures)

pub put_frame-requires-2 : goal.put_frame-requires-2
put_frame-requires-2 c = rows_short c.args.accounts.now c.deref-2.result.now c.in_ok-genesis_payload.ensures.few (c.deref-2.ensures.value ∙ c.in_ok-genesis_payload.ensures.text)
