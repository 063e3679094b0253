-- What the definitions of admission say together.
use Rattle.std.specs.Prelude.{ℕ, ◌↔◌, List}
use Rattle.bk_committee.specs.Sizes.{Sizes}
use Rattle.bk_committee.specs.Payload.{CommitteeValue, IsCommittee, sizes_of}
use Rattle.bk_cert.specs.Node.{Node}
use Rattle.bk_certcheck.specs.Verdicts.{IsGood}
use Rattle.bk_cert.specs.Clear.{IsClear}
use Rattle.bk_rounds.specs.Admission.{IsAdmittedIn, IsFit, AreFit}
use Rattle.bk_rounds.specs.Heads.{WeighOne, HaveParents, IsAdmittedByParents}

-- where each member weighs 1, admission asks for the parents alone
abbrev pub AdmittedByParents : Type 0
AdmittedByParents = (z : Sizes) (held : List Node) → WeighOne z → AreFit z held
    → HaveParents z held
    → IsClear held → (r : ℕ) (c : Node) → IsAdmittedIn z held r c ↔ IsAdmittedByParents held r c

-- a certificate that breaks no local rule is fit for the table
abbrev pub GoodIsFit : Type 0
GoodIsFit = (k : CommitteeValue) (bytes : List ℕ) (c : Node) → IsCommittee k → IsGood k bytes c
    → IsFit (sizes_of k) c
