-- What the definitions of verdicts say together.
use Rattle.std.specs.Prelude.{◌≡◌, ℕ, List}
use Rattle.bk_committee.specs.Payload.{CommitteeValue}
use Rattle.bk_certcheck.specs.declared.verdict.Verdict.{Verdict}
use Rattle.bk_certcheck.specs.Verdicts.{IsVerdict}

-- bytes have one verdict
abbrev pub OneVerdict : Type 0
OneVerdict = (k : CommitteeValue) (bytes : List ℕ) (one other : Verdict) → IsVerdict k bytes one → IsVerdict k bytes other → one ≡ other
