-- What a feed replies to a query, read off its frames alone.
use Rattle.std.specs.Prelude.{◌≡◌, ◌≢◌, ℕ, List, [], ◌∷◌, ◌++◌, slice_get, Bool, true, false, Some, None}
use Rattle.bk_base.specs.declared.genesis.Row.{Row}
use Rattle.bk_base.specs.declared.version.Version.{Version}
use Rattle.bk_base.specs.Feed.{FeedValue, genesis_of}
use Rattle.bk_committee.specs.Payload.{CommitteeValue, sizes_of}
use Rattle.bk_cert.specs.Node.{Node}
use Rattle.bk_order.specs.Frames.{AreCerts}
use Rattle.bk_order.specs.Orders.{Ordered}
use Rattle.bk_rules.specs.declared.account.Account.{Account}
use Rattle.bk_rules.specs.declared.receipt.Receipt.{Receipt}
use Rattle.bk_rules.specs.Rows.{account_at}
use Rattle.bk_report.specs.declared.line.Line.TheVariants as line
use Rattle.bk_results.specs.declared.query.Query.{Query}
use Rattle.bk_results.specs.declared.query.Query.TheVariants as query
use Rattle.bk_results.specs.declared.query.Reply.{Reply}
use Rattle.bk_results.specs.declared.query.Reply.TheVariants as reply
use Rattle.bk_results.specs.Devices.{AreFeedWith}
use Rattle.bk_report.specs.Leaves.{state_of}
use Rattle.bk_report.specs.Lines.{text_of}
use Rattle.bk_report.specs.Proofs.{ProofValue, proof_text, IsProofOf, IsAbsent}
use Rattle.bk_report.specs.RunLines.{anchor_lines, cert_lines}
use Rattle.bk_tx.specs.Batches.{transactions_of}
use Rattle.bk_answer.specs.Gaps.{IsGapIn}
use Rattle.bk_answer.specs.RunReport.{committee_in, later_frames}
use Rattle.bk_ask.specs.declared.replied.Replied.{Replied}
use Rattle.bk_answer.specs.Outcomes.{Outcome, IsOutcomeOf}
use Rattle.bk_views.specs.Anchors.{AreRows, rows_text}
use Rattle.bk_views.specs.declared.anchors.AnchorRow.{AnchorRow}
use Rattle.bk_views.specs.Statement.{Course, IsNowhere, IsStatement}

-- ---- what a reply is read off

-- the version, the committee and the opening accounts; the certificates that break no rule; and where the feed ends
pub record Ending : Type 0 where
  pub version : Version
  pub committee : CommitteeValue
  pub opening : List Row
  pub certs : List Node
  pub outcome : Outcome

-- these are those of a feed that nothing stops. Its certificates are known but for their order and repeats
pub record IsEndingOf (feed : FeedValue) (end : Ending) : Type 0 where
  pub version : end.version ≡ feed.version
  pub committee : end.committee ≡ committee_in feed
  pub opening : end.opening ≡ genesis_of feed.frames
  pub certs : AreCerts (committee_in feed) (later_frames feed) end.certs
  pub outcome : IsOutcomeOf feed end.outcome

-- the transactions of its order, on the opening accounts
abbrev pub course_of : Ending → Course
course_of end = record {
  version = end.version;
  opening = end.opening;
  txs = transactions_of end.outcome.ordered.payloads.list;
}

-- ---- the text of a reply

-- the lines of the anchors and of the certificates in order
abbrev pub order_text : Ordered → List ℕ
order_text o = text_of (anchor_lines o.anchors ++ cert_lines o.order)

-- there is an account with this id, and the text is its line
abbrev pub ShowsAccount : List Row → ℕ → List ℕ → Type 0
ShowsAccount rows id text =
    (a : Account) × (account_at rows id ≡ Some a) × (text ≡ text_of (line.Account id a.balance a.seq ∷ []))

-- there is a transaction at this place, and the text is its line
abbrev pub ShowsReceipt : List Receipt → ℕ → List ℕ → Type 0
ShowsReceipt receipts place text =
    (r : Receipt) × (slice_get receipts place ≡ Some r) × (text ≡ text_of (line.Tx place r.status r.moved ∷ []))

-- there is a proof of the account with this id, and the text is that of the proof
abbrev pub ShowsProof : List Row → ℕ → List ℕ → Type 0
ShowsProof rows id text = (p : ProofValue) × IsProofOf rows id p × (text ≡ proof_text p)

-- the digest is that of the accounts, and the text says so
abbrev pub ShowsGood : List Row → List ℕ → List ℕ → Type 0
ShowsGood rows root text = (root ≡ state_of rows) × (text ≡ text_of (line.StateGood ∷ []))

-- it is not, and the text says so and shows the one that is
abbrev pub ShowsBad : List Row → List ℕ → List ℕ → Type 0
ShowsBad rows root text =
    (root ≢ state_of rows) × (text ≡ text_of (line.StateBad ∷ line.State (state_of rows) ∷ []))

-- the text is that of the rows of the anchors
abbrev pub ShowsAnchors : Ending → List ℕ → Type 0
ShowsAnchors end text =
    (rows : List AnchorRow) × AreRows (sizes_of end.committee) end.certs end.outcome.ordered.anchors rows
    × (text ≡ rows_text rows)

-- the order stops at a missing batch, or at none
abbrev pub IsShort : Ending → Type 0
IsShort end = (digest : List ℕ) × (end.outcome.ordered.payloads.missing ≡ Some digest)

abbrev pub IsWhole : Ending → Type 0
IsWhole end = end.outcome.ordered.payloads.missing ≡ None

-- what was asked for is there, and this is its text. Of a digest of the state, which is right, and of a statement no batch
-- is missing
abbrev pub ShowsFound : Query → Ending → List ℕ → Type 0
ShowsFound query.Order end text = text ≡ order_text end.outcome.ordered
ShowsFound (query.Account id) end text = ShowsAccount end.outcome.rows id text
ShowsFound (query.Receipt place) end text = ShowsReceipt end.outcome.receipts place text
ShowsFound (query.Proof id) end text = ShowsProof end.outcome.rows id text
ShowsFound (query.State root) end text = ShowsGood end.outcome.rows root text × IsWhole end
ShowsFound query.Anchors end text = ShowsAnchors end text
ShowsFound (query.Statement id) end text = IsStatement (course_of end) id text × IsWhole end

-- the digest of the state that was asked for is right, or there is a statement, of an order that stops at a missing batch
abbrev pub ShowsShort : Query → Ending → List ℕ → Type 0
ShowsShort (query.State root) end text = ShowsGood end.outcome.rows root text × IsShort end
ShowsShort (query.Statement id) end text = IsStatement (course_of end) id text × IsShort end
ShowsShort other end text = ⊥

-- the digest is wrong
abbrev pub ShowsWrong : Query → Ending → List ℕ → Type 0
ShowsWrong (query.State root) end text = ShowsBad end.outcome.rows root text
ShowsWrong other end text = ⊥

-- what was asked for is not there; an order and anchors always are, and a digest is right or wrong
abbrev pub Lacks : Query → Ending → Type 0
Lacks (query.Account id) end = account_at end.outcome.rows id ≡ None
Lacks (query.Receipt place) end = slice_get end.outcome.receipts place ≡ None
Lacks (query.Proof id) end = IsAbsent end.outcome.rows id
Lacks (query.Statement id) end = IsNowhere (course_of end) id
Lacks other end = ⊥

-- a reply and its text, which is empty where nothing is found
abbrev pub Replies : Query → Ending → Reply → List ℕ → Type 0
Replies asked end reply.Found text = ShowsFound asked end text
Replies asked end reply.Short text = ShowsShort asked end text
Replies asked end reply.Wrong text = ShowsWrong asked end text
Replies asked end reply.Absent text = Lacks asked end × (text ≡ [])

-- the text of some reply
abbrev pub HasText : Query → Ending → List ℕ → Type 0
HasText asked end text = (answer : Reply) × Replies asked end answer text

-- the replies that a query can have, whatever the feed
abbrev pub can_reply : Query → Reply → Bool
can_reply asked reply.Found = true
can_reply (query.State root) reply.Short = true
can_reply (query.Statement id) reply.Short = true
can_reply (query.State root) reply.Wrong = true
can_reply (query.Account id) reply.Absent = true
can_reply (query.Receipt place) reply.Absent = true
can_reply (query.Proof id) reply.Absent = true
can_reply (query.Statement id) reply.Absent = true
can_reply asked other = false

-- a feed that nothing stops replies so
pub record IsReplyOf (feed : FeedValue) (asked : Query) (answer : Reply) (text : List ℕ) : Type 0 where
  pub end : Ending
  pub ending : IsEndingOf feed end
  pub replies : Replies asked end answer text

-- and so do bytes, where they are the encoding of that feed
abbrev pub IsReply : List ℕ → Query → Reply → List ℕ → Type 0
IsReply bytes asked answer text = AreFeedWith bytes (λ feed. IsReplyOf feed asked answer text)

-- a query for which the transactions of the order are executed
abbrev pub executes : Query → Bool
executes (query.Account id) = true
executes (query.Receipt place) = true
executes (query.Proof id) = true
executes (query.State root) = true
executes (query.Statement id) = true
executes other = false

-- a feed replies so, and at this missing batch its order stops
pub record IsRepliedOf (asked : Query) (feed : FeedValue) (end : Replied) (text : List ℕ) : Type 0 where
  pub reply : IsReplyOf feed asked end.reply text
  pub gap : IsGapIn feed end.missing
