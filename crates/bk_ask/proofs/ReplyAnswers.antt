-- What was made of a feed replies what the feed does.
use Rattle.std.proofs.Common.{◌≡◌, ℕ, List, [], Option, true, refl, sym, subst, ◌∙◌, arith}
use Rattle.bk_base.specs.Feed.{FeedValue, IsFeed, genesis_of}
use Rattle.bk_base.specs.Genesis.{AreAccounts}
use Rattle.bk_base.proofs.Accounts.{genesis_accounts}
use Rattle.bk_committee.specs.Payload.{CommitteeValue}
use Rattle.bk_committee.specs.Sizes.{Sizes}
use Rattle.bk_order.specs.Frames.{AreCerts}
use Rattle.bk_order.specs.Orders.{AreRoundsOf}
use Rattle.bk_rounds.specs.Rounds.{RoundsValue}
use Rattle.bk_tx.specs.Batches.{transactions_of}
use Rattle.bk_rules.specs.Fold.{receipts_of, state_after}
use Rattle.bk_views.specs.Anchors.{AreRows}
use Rattle.bk_views.specs.Told.{IsRun}
use Rattle.bk_results.specs.declared.query.Query.{Query}
use Rattle.bk_results.specs.declared.query.Query.TheVariants as query
use Rattle.bk_results.specs.declared.query.Reply.{Reply}
use Rattle.bk_results.specs.declared.query.Reply.TheVariants as reply
use Rattle.bk_answer.specs.Answers.{IsMadeOf}
use Rattle.bk_answer.specs.Closed.{ClosedValue, OrderValue, IsClosedFor, IsOrderedFor}
use Rattle.bk_answer.specs.Gaps.{IsGapIn}
use Rattle.bk_answer.specs.RunReport.{committee_in, later_frames}
use Rattle.bk_answer.proofs.Counting.{few_places}
use Rattle.bk_answer.proofs.Reports.{later_part}
use Rattle.bk_ask.specs.Asking.{Ending, IsEndingOf, IsRepliedOf, Replies, ShowsFound, can_reply}
use Rattle.bk_ask.specs.declared.ordered.View.{View}
use Rattle.bk_ask.specs.declared.ordered.View.TheVariants as view
use Rattle.bk_ask.specs.declared.replied.Replied.{Replied}
use Rattle.bk_ask.specs.private.Replies.{asked_by, course_in, ending_of, ShowsView}

-- ---- where a feed ends

module _ (feed : FeedValue) (c : ClosedValue) (closed : IsClosedFor feed c) where
  -- what was made of a feed is where it ends
  pub ending_is : IsEndingOf feed (ending_of c.order.taken c.order.opening c.ledger)
  ending_is = record {
    version = closed.executed.version;
    committee = closed.order.committee;
    opening = closed.order.opening;
    certs = subst (λ (k : CommitteeValue). AreCerts k (later_frames feed) c.order.taken.kept.certs) closed.order.committee closed.order.taken.certs;
    outcome = record { clear = closed.order.clear; ordered = closed.order.ordered; receipts = closed.executed.receipts; rows = closed.executed.rows };
  }

  -- and executing its order gave its receipts
  pub run_is : IsFeed feed → IsRun (course_in c.order.taken c.order.opening c.ledger) c.ledger.receipts
  run_is good = record {
    accounts = subst AreAccounts (sym closed.order.opening) (genesis_accounts feed.version feed.frames good);
    receipts_are = closed.executed.receipts ∙ (λ i. receipts_of (sym closed.executed.version i) (transactions_of c.order.taken.ordered.payloads.list) (sym closed.order.opening i));
    few = let few = few_places feed.version (committee_in feed) feed.frames (later_frames feed) c.order.taken.ordered good.good (later_part feed.frames) closed.order.ordered in omega (arith, few);
  }

pub gap_is : (feed : FeedValue) (o : OrderValue) (missing : Option (List ℕ)) → IsOrderedFor feed o → missing ≡ o.taken.ordered.payloads.missing → IsGapIn feed missing
gap_is feed o missing ordered same = record { clear = ordered.clear; ordered = o.taken.ordered; order = ordered.ordered; missing_is = same }

-- ---- with the batches executed

module _ (asked : Query) (c : ClosedValue) where
  abbrev ended : Ending
  ended = ending_of c.order.taken c.order.opening c.ledger

  -- the reply of what was made of it is that of each feed
  pub replies : (answer : Replied) (text : List ℕ) → Replies asked ended answer.reply text → answer.missing ≡ c.order.taken.ordered.payloads.missing
      → (feed : FeedValue) → IsMadeOf c feed → IsRepliedOf asked feed answer text
  replies answer text r missing feed made = record {
    reply = record { end = ended; ending = ending_is feed c made.1; replies = r };
    gap = gap_is feed c.order answer.missing made.1.order missing;
  }

-- ---- by the order alone

module _ (feed : FeedValue) (o : OrderValue) (rounds : RoundsValue) (ordered : IsOrderedFor feed o) (rounds_here : AreRoundsOf (committee_in feed) (later_frames feed) rounds) where
  -- where the feed ends: what executing gives is that of the definitions
  abbrev order_end : Ending
  order_end = record {
    version = feed.version;
    committee = committee_in feed;
    opening = genesis_of feed.frames;
    certs = rounds.held;
    outcome = record {
      ordered = o.taken.ordered;
      receipts = receipts_of feed.version (transactions_of o.taken.ordered.payloads.list) (genesis_of feed.frames);
      rows = state_after feed.version (transactions_of o.taken.ordered.payloads.list) (genesis_of feed.frames);
    };
  }

  order_end_is : IsEndingOf feed order_end
  order_end_is = record {
    version = refl;
    committee = refl;
    opening = refl;
    certs = rounds_here.certs;
    outcome = record { clear = ordered.clear; ordered = ordered.ordered; receipts = refl; rows = refl };
  }

  shown : (v : View) (text : List ℕ) → ShowsView v rounds o.taken text → ShowsFound (asked_by v) order_end text
  shown view.Order text h = h
  shown view.Anchors text h = (h.0, subst (λ (z : Sizes). AreRows z rounds.held o.taken.ordered.anchors h.0) rounds_here.sizes h.1, h.2)

  pub view_replied : (v : View) (missing : Option (List ℕ)) (text : List ℕ) → missing ≡ o.taken.ordered.payloads.missing → ShowsView v rounds o.taken text → IsRepliedOf (asked_by v) feed (record { reply = reply.Found; missing = missing }) text
  view_replied view.Order missing text same h =
      record { reply = record { end = order_end; ending = order_end_is; replies = shown view.Order text h }; gap = gap_is feed o missing ordered same }
  view_replied view.Anchors missing text same h =
      record { reply = record { end = order_end; ending = order_end_is; replies = shown view.Anchors text h }; gap = gap_is feed o missing ordered same }

-- ---- what a reply says whatever the bytes are

-- a reply is one that its query can have
pub can : (asked : Query) (end : Ending) (answer : Reply) (text : List ℕ) → Replies asked end answer text → can_reply asked answer ≡ true
can asked end reply.Found text h = refl
can query.Order end reply.Short text h = absurd h
can (query.Account id) end reply.Short text h = absurd h
can (query.Receipt place) end reply.Short text h = absurd h
can (query.Proof id) end reply.Short text h = absurd h
can (query.State root) end reply.Short text h = refl
can query.Anchors end reply.Short text h = absurd h
can (query.Statement id) end reply.Short text h = refl
can query.Order end reply.Wrong text h = absurd h
can (query.Account id) end reply.Wrong text h = absurd h
can (query.Receipt place) end reply.Wrong text h = absurd h
can (query.Proof id) end reply.Wrong text h = absurd h
can (query.State root) end reply.Wrong text h = refl
can query.Anchors end reply.Wrong text h = absurd h
can (query.Statement id) end reply.Wrong text h = absurd h
can query.Order end reply.Absent text h = absurd h.0
can (query.Account id) end reply.Absent text h = refl
can (query.Receipt place) end reply.Absent text h = refl
can (query.Proof id) end reply.Absent text h = refl
can (query.State root) end reply.Absent text h = absurd h.0
can query.Anchors end reply.Absent text h = absurd h.0
can (query.Statement id) end reply.Absent text h = refl
