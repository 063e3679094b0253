-- Counts of what frames hold, with one more.
use Rattle.std.specs.Prelude.{◌≡◌, ◌≢◌, ℕ, ◌+◌, ◌<◌, ◌^◌, Bool, true, false, List, Contains}
use Rattle.bk_cert.specs.Node.{Node}
use Rattle.bk_certcheck.specs.declared.verdict.Verdict.{Verdict}
use Rattle.bk_certcheck.specs.declared.verdict.Verdict.TheVariants as verdict
use Rattle.bk_evidence.specs.Batches.{Batch}
use Rattle.bk_order.specs.declared.tally.Count.{Count}
use Rattle.bk_order.specs.declared.tally.Tally.{Tally}

-- both numbers have room for one more
pub record HasRoom (c : Count) : Type 0 where
  pub all : c.all + 1 < 2 ^ 64
  pub names : c.names + 1 < 2 ^ 64

-- 1 where something is new
abbrev pub one_if : Bool → ℕ
one_if true = 1
one_if false = 0

-- whether the name of something is new among those of these
abbrev pub IsNewBy : {E : Type 0} → (E → List ℕ) → List E → List ℕ → Bool → Type 0
IsNewBy {E} name xs n true = (e : E) → Contains xs e → name e ≢ n
IsNewBy {E} name xs n false = (e : E) × Contains xs e × (name e ≡ n)

abbrev pub IsNewId : List Node → List ℕ → Bool → Type 0
IsNewId held id new = IsNewBy (λ (c : Node). c.id) held id new

abbrev pub IsNewDigest : List Batch → List ℕ → Bool → Type 0
IsNewDigest batches digest new = IsNewBy (λ (b : Batch). b.digest) batches digest new

-- one more was counted, whose name is new or not
abbrev pub Counts : Bool → Count → Count → Type 0
Counts is_new old new = HasRoom old → new ≡ record { all = old.all + 1; names = old.names + one_if is_new }

-- a good certificate was counted, where these were held
abbrev pub CountsGood : List Node → Count → Count → Verdict → Type 0
CountsGood held old new (verdict.Good c) = (is_new : Bool) × IsNewId held c.id is_new × Counts is_new old new
CountsGood held old new (verdict.Broken r) = new ≡ old

-- a certificate with this verdict was counted, where these were held
pub record CountsVerdict (held : List Node) (old new : Tally) (v : Verdict) : Type 0 where
  pub certs : old.certs + 1 < 2 ^ 64 → new.certs ≡ old.certs + 1
  pub good : CountsGood held old.good new.good v
  pub batches : new.batches ≡ old.batches
