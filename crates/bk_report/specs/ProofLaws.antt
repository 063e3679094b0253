-- What the definition of proofs says as a whole.
use Rattle.std.specs.Prelude.{ℕ, ◌^◌, ◌<◌, List, All, length}
use Rattle.hex.specs.Hex.{encode_lower}
use Rattle.bk_base.specs.declared.genesis.Row.{Row}
use Rattle.bk_report.specs.Leaves.{state_of}
use Rattle.bk_report.specs.Proofs.{ProofValue, IsRow, IsProofOf, IsGoodProof, proof_text}

-- the proof of an account among these accounts, whose numbers and whose count fit 64 bits, is a
-- good one of their state
abbrev pub MadeProofsAreGood : Type 0
MadeProofsAreGood = (rows : List Row) (id : ℕ) (p : ProofValue) → length rows < 2 ^ 64
    → All IsRow rows → IsProofOf rows id p
    → IsGoodProof (encode_lower (state_of rows)) (proof_text p)
