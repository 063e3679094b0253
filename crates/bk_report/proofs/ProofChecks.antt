-- What a check of a proof's text comes to.
use Rattle.std.proofs.Common.{◌≡◌, ℕ, ◌<◌, ◌≤◌, List, length, Bool, true, false, Some, sym, ap, subst, ◌∙◌}
use Rattle.std.specs.Prelude.{IsTrue, ◌↔◌}
use Rattle.hex.specs.Hex.{encode_lower}
use Rattle.bk_digest.specs.Digest.{tagged_of}
use Rattle.bk_digest.specs.Tree.{climb}
use Rattle.bk_base.specs.Genesis.{row_text}
use Rattle.bk_report.specs.Proofs.{ProofValue, IsProofValue, IsGoodProof, proof_text, most_proof}

-- a path leads from a proof's account to its digest
abbrev pub Leads : ProofValue → Type 0
Leads p = (p.index < p.size) × (climb (tagged_of 0x00 (row_text p.account)) p.index p.size p.path ≡ Some p.state)

pub leads_is : (good : Bool) (p q : ProofValue) (leaf : List ℕ) (path : List (List ℕ)) → leaf ≡ row_text p.account → path ≡ p.path → p ≡ q → IsTrue good ↔ ((p.index < p.size) × (climb (tagged_of 0x00 leaf) p.index p.size path ≡ Some p.state)) → IsTrue good ↔ Leads q
leads_is good p q leaf path same one view h =
    subst (λ (v : ProofValue). IsTrue good ↔ Leads v) view
    (subst (λ (t : List (List ℕ)). IsTrue good ↔ ((p.index < p.size) × (climb (tagged_of 0x00 (row_text p.account)) p.index p.size t ≡ Some p.state))) one
    (subst (λ (l : List ℕ). IsTrue good ↔ ((p.index < p.size) × (climb (tagged_of 0x00 l) p.index p.size path ≡ Some p.state))) same h))

-- a good proof's text is that of the proof that was read, and its root is that digest
pub spelled_root : (root text : List ℕ) (q : ProofValue) → ((p : ProofValue) → IsProofValue p → text ≡ proof_text p → q ≡ p) → IsGoodProof root text → (text ≡ proof_text q) × (root ≡ encode_lower q.state) × Leads q
spelled_root root text q found good =
    let same = found good.proof good.valid good.spelled in
    subst (λ (p : ProofValue). (text ≡ proof_text p) × (root ≡ encode_lower p.state) × Leads p) (sym same) (good.spelled, good.root_is, (good.inside, good.leads))

-- the proof that was read shows it
pub shows_good : (root text : List ℕ) (q : ProofValue) → IsProofValue q → text ≡ proof_text q → length text ≤ most_proof → root ≡ encode_lower q.state → Leads q → IsGoodProof root text
shows_good root text q valid spelled short root_is leads = record { proof = q; valid = valid; spelled = spelled; short = short; root_is = root_is; inside = leads.0; leads = leads.1 }

pub not_led : (b : Bool) → b ≡ false → IsTrue b → ⊥
not_led b is_no is = absurd (let e : true ≡ false = sym is ∙ is_no in cc)

-- a proof that the text is has the account of the one that was read
pub account_of_text : (root text : List ℕ) (q : ProofValue) → ((p : ProofValue) → IsProofValue p → text ≡ proof_text p → q ≡ p) → (g : IsGoodProof root text) → g.proof.account ≡ q.account
account_of_text root text q found g = ap (λ (p : ProofValue). p.account) (sym (found g.proof g.valid g.spelled))
