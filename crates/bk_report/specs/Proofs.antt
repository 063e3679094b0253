-- Proofs of accounts, and their text.
use Rattle.std.specs.Prelude.{◌≡◌, ℕ, ◌^◌, ◌<◌, ◌≤◌, List, ◌∷◌, All, Contains, length, map, slice_get, Some}
use Rattle.hex.specs.Hex.{IsBytes, encode_lower}
use Rattle.bk_digest.specs.Digest.{tagged_of}
use Rattle.bk_digest.specs.Tree.{path_of, climb}
use Rattle.bk_base.specs.declared.genesis.Row.{Row}
use Rattle.bk_base.specs.Genesis.{row_text}
use Rattle.bk_report.specs.declared.line.Line.{Line}
use Rattle.bk_report.specs.declared.line.Line.TheVariants as line
use Rattle.bk_report.specs.Leaves.{leaves_of, state_of}
use Rattle.bk_report.specs.Lines.{text_of}

-- a proof that an account is in a state: the digest of the state, how many accounts it has, where
-- the account is among them, the account, and the digests beside its way up to the root
pub record ProofValue : Type 0 where
  pub state : List ℕ
  pub size : ℕ
  pub index : ℕ
  pub account : Row
  pub path : List (List ℕ)

-- a line for each digest of the path, from the leaf up
abbrev pub path_lines : List (List ℕ) → List Line
path_lines path = map (λ (digest : List ℕ). line.Path digest) path

-- the lines of a proof
abbrev pub proof_lines : ProofValue → List Line
proof_lines p =
    line.State p.state ∷ line.Size p.size ∷ line.Index p.index
    ∷ line.Account p.account.id p.account.balance p.account.seq ∷ path_lines p.path

-- the text of a proof
abbrev pub proof_text : ProofValue → List ℕ
proof_text p = text_of (proof_lines p)

-- the proof of the account with this id among these accounts
pub record IsProofOf (rows : List Row) (id : ℕ) (p : ProofValue) : Type 0 where
  pub found : slice_get rows p.index ≡ Some p.account
  pub same_id : p.account.id ≡ id
  pub size : p.size ≡ length rows
  pub path : p.path ≡ path_of (leaves_of rows) p.index
  pub state : p.state ≡ state_of rows

-- none of these accounts has the id
abbrev pub IsAbsent : List Row → ℕ → Type 0
IsAbsent rows id = (r : Row) → Contains rows r → r.id ≡ id → ⊥

-- 32 bytes
pub record IsDigest (d : List ℕ) : Type 0 where
  pub sized : length d ≡ 32
  pub bytes : IsBytes d

-- the numbers of an account fit 64 bits
pub record IsRow (r : Row) : Type 0 where
  pub id : r.id < 2 ^ 64
  pub balance : r.balance < 2 ^ 64
  pub seq : r.seq < 2 ^ 64

-- the values that a proof can have
pub record IsProofValue (p : ProofValue) : Type 0 where
  pub state : IsDigest p.state
  pub size : p.size < 2 ^ 64
  pub index : p.index < 2 ^ 64
  pub account : IsRow p.account
  pub path : All IsDigest p.path

-- no text of a proof is longer
abbrev pub most_proof : ℕ
most_proof = 65536

-- a text is that of a proof of a state: its digest is written as the root is, and the path leads
-- from the account's leaf up to it
pub record IsGoodProof (root text : List ℕ) : Type 0 where
  pub proof : ProofValue
  pub valid : IsProofValue proof
  pub spelled : text ≡ proof_text proof
  pub short : length text ≤ most_proof
  pub root_is : root ≡ encode_lower proof.state
  pub inside : proof.index < proof.size
  pub leads : climb (tagged_of 0x00 (row_text proof.account)) proof.index proof.size proof.path ≡ Some proof.state

-- each proof of the state that the text is has this account, and the text is one
abbrev pub ShowsAccount : List ℕ → List ℕ → Row → Type 0
ShowsAccount root text row = IsGoodProof root text × ((g : IsGoodProof root text) → g.proof.account ≡ row)

-- a text is that of a proof of a state, and the proof is of the account with this id
abbrev pub IsGoodProofOf : List ℕ → ℕ → List ℕ → Type 0
IsGoodProofOf root id text = (g : IsGoodProof root text) × (g.proof.account.id ≡ id)
