use Rattle.std.proofs.Common.{◌≡◌, false, ℕ, ◌<◌, ◌≤◌, List, length}
use Rattle.bk_base.specs.Feed.{Frame}
use Rattle.bk_frames.specs.Device.{CanBeUsed, Ends}
use Rattle.bk_frames.specs.Reading.{room_of}
use Rattle.bk_frames.specs.declared.pulling.TheConstants.{PIECE}
use Rattle.bk_order.specs.Orders.{Ordered}
use Rattle.bk_tx.specs.Batches.{transactions_of}
use Rattle.bk_follow.specs.Follower.{receipts_in}
use Rattle.bk_tail.specs.private.Putting.{IsPutOn}
use Rattle.bk_tail.specs.private.Steps.{HasFollowed}
use Rattle.bk_tail.proofs.tail.tail_rows.Given as goal

abbrev pub invariant-pieces : goal.invariant-pieces
invariant-pieces g l = record {
  bytes : List ℕ;
  frames : List Frame;
  done : Ordered;
  followed : HasFollowed (g.S.Source.state l.initial.source) (g.S.Source.state l.source) bytes frames l.follower;
  put : IsPutOn (g.T.TableRows.kind l.accounts) bytes frames l.follower (g.K.Sink.state l.initial.sink) (g.K.Sink.state l.sink) (g.T.TableRows.shown l.rows) (g.T.TableRows.holds l.rows) done;
  shown : length (transactions_of done.payloads.list) ≤ length (receipts_in l.follower.book);
  goes_on : l.waits ≡ false → Ends 0 (g.S.Source.state l.initial.source) (g.S.Source.state l.source);
  source : CanBeUsed (g.S.Source.state l.source);
  sink : CanBeUsed (g.K.Sink.state l.sink);
  some : 0 < length l.piece;
  few : length l.piece ≤ PIECE;
}

abbrev pub decreases-pieces : goal.decreases-pieces
decreases-pieces g l = room_of l.follower.cut
