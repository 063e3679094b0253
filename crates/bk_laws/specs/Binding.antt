-- What a digest binds: what it is the digest of, but for a collision of SHA-256. Nothing is
-- supposed of SHA-256.
use Rattle.std.specs.Prelude.{◌≡◌, ◌≢◌, ◌⊎◌, ℕ, List, [], ◌∷◌, ◌++◌, All, Contains, Some}
use Rattle.hex.specs.Hex.{IsBytes, encode_lower}
use Rattle.sha2.specs.Sha256.{sha256}
use Rattle.bk_digest.specs.Digest.{tagged_of}
use Rattle.bk_digest.specs.Tree.{climb, root_of}
use Rattle.bk_base.specs.declared.genesis.Row.{Row}
use Rattle.bk_report.specs.declared.line.Line.{Line}
use Rattle.bk_report.specs.declared.line.Line.TheVariants as line
use Rattle.bk_report.specs.Leaves.{state_of}
use Rattle.bk_report.specs.Lines.{text_of}
use Rattle.bk_report.specs.Proofs.{IsDigest, IsRow, IsGoodProof}
use Rattle.bk_results.specs.declared.query.Query.TheVariants as query
use Rattle.bk_results.specs.declared.query.Reply.{Reply}
use Rattle.bk_results.specs.declared.query.Reply.TheVariants as reply
use Rattle.bk_results.specs.declared.status.Status.{Status}
use Rattle.bk_ask.specs.Asking.{IsReply}
use Rattle.bk_answer.specs.RunReport.{IsReport}
use Rattle.bk_laws.specs.Hashed.{hashed_for, hashed_for_state, hashed_on_climb, hashed_for_proof}

-- two different byte strings with one SHA-256, both in the list of those that are hashed. Without
-- the list this would always hold, since there are more byte strings than digests
pub record HashCollision (hashed : List (List ℕ)) : Type 0 where
  pub one : List ℕ
  pub other : List ℕ
  pub among : Contains hashed one × Contains hashed other
  pub are_bytes : IsBytes one × IsBytes other
  pub apart : one ≢ other
  pub same_hash : sha256 one ≡ sha256 other

-- ---- trees

-- where the climb from the hash of a leaf, with any index, size and path, gives the root of a list
-- of leaves, the leaf is in the list, or there is a hash collision
abbrev pub GoodPathsHold : Type 0
GoodPathsHold = (leaves : List (List ℕ)) (leaf : List ℕ) (index size : ℕ) (path : List (List ℕ))
    → All IsBytes leaves → IsBytes leaf → All IsBytes path
    → climb (tagged_of 0x00 leaf) index size path ≡ Some (root_of leaves)
    → Contains leaves leaf
    ⊎ HashCollision (hashed_for leaves ++ hashed_on_climb leaf index size path)

-- two lists of leaves with one root are the same, lengths too, or there is a hash collision
abbrev pub RootsBind : Type 0
RootsBind = (leaves others : List (List ℕ)) → All IsBytes leaves → All IsBytes others
    → root_of leaves ≡ root_of others
    → (leaves ≡ others) ⊎ HashCollision (hashed_for leaves ++ hashed_for others)

-- ---- accounts

-- two lists of accounts with one digest are the same, or there is a hash collision
abbrev pub AccountsBind : Type 0
AccountsBind = (rows others : List Row) → All IsRow rows → All IsRow others
    → state_of rows ≡ state_of others
    → (rows ≡ others) ⊎ HashCollision (hashed_for_state rows ++ hashed_for_state others)

-- the last line of a report is `state` and this digest
pub record EndsInState (report digest : List ℕ) : Type 0 where
  pub front : List Line
  pub is_digest : IsDigest digest
  pub text_is : report ≡ text_of (front ++ line.State digest ∷ [])

-- bytes have a report, these are the accounts at the end of their feed, and this is the digest in
-- the report's last line
pub record ReportsState (bytes : List ℕ) (rows : List Row) (digest : List ℕ) : Type 0 where
  pub report : List ℕ
  pub status : Status
  pub reported : IsReport bytes report status
  pub rows_are : rows ≡ reported.holds.reading.rows
  pub ends : EndsInState report digest

-- every report ends in the digest of the accounts at the end of its feed
abbrev pub ReportsEndInState : Type 0
ReportsEndInState = (bytes report : List ℕ) (status : Status) → IsReport bytes report status
    → (rows : List Row) × ReportsState bytes rows (state_of rows)

-- two feeds whose reports end in one `state` line have the same accounts at the end, or there is a
-- hash collision
abbrev pub StatesBind : Type 0
StatesBind = (bytes other_bytes digest : List ℕ) (rows others : List Row)
    → IsBytes bytes → IsBytes other_bytes
    → ReportsState bytes rows digest → ReportsState other_bytes others digest
    → (rows ≡ others) ⊎ HashCollision (hashed_for_state rows ++ hashed_for_state others)

-- where a feed does not reply `state bad` to the digest of claimed accounts, these are the accounts
-- at its end, or there is a hash collision
abbrev pub GoodStatesHold : Type 0
GoodStatesHold = (bytes digest text : List ℕ) (rows claimed : List Row) (answer : Reply)
    → IsBytes bytes → All IsRow claimed → ReportsState bytes rows digest
    → IsReply bytes (query.State (state_of claimed)) answer text → answer ≢ reply.Wrong
    → (rows ≡ claimed) ⊎ HashCollision (hashed_for_state rows ++ hashed_for_state claimed)

-- ---- proofs of accounts

-- a text that is a good proof for the digest in the last line of a feed's report shows one of the
-- accounts at the end of that feed, with balance and sequence number, or there is a hash collision
abbrev pub GoodProofsHold : Type 0
GoodProofsHold = (bytes digest text : List ℕ) (rows : List Row) → IsBytes bytes
    → ReportsState bytes rows digest → (good : IsGoodProof (encode_lower digest) text)
    → Contains rows good.proof.account
    ⊎ HashCollision (hashed_for_state rows ++ hashed_for_proof good.proof)

-- two texts that are good proofs for one such digest and show one id show the same balance and
-- sequence number, or there is a hash collision
abbrev pub OneProof : Type 0
OneProof = (bytes digest text other_text : List ℕ) (rows : List Row) → IsBytes bytes
    → ReportsState bytes rows digest → (one : IsGoodProof (encode_lower digest) text)
    → (other : IsGoodProof (encode_lower digest) other_text)
    → one.proof.account.id ≡ other.proof.account.id
    → (one.proof.account ≡ other.proof.account)
    ⊎ HashCollision (hashed_for_state rows ++ hashed_for_proof one.proof
    ++ hashed_for_proof other.proof)
