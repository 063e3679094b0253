use Rattle.std.proofs.Common.{◌∷◌, ◌++◌}
use Rattle.hex.specs.Hex.{encode_lower}
use Rattle.bk_report.proofs.ProofReading.{digest_free}
use Rattle.bk_report.proofs.reading.digest_line.Goals as goal

pub returns-in_err-word-clause-found : goal.returns-in_err-word-clause-found
returns-in_err-word-clause-found c = λ d rest fits e.
    let behind = c.in_ok-after.ensures.found ((encode_lower d) ++ 10 ∷ rest) e in
    absurd (c.in_err-word.ensures.found (encode_lower d) rest (digest_free d fits) behind)

pub returns-in_err-digest-clause-found : goal.returns-in_err-digest-clause-found
returns-in_err-digest-clause-found c = λ d rest fits e.
    let behind = c.in_ok-after.ensures.found ((encode_lower d) ++ 10 ∷ rest) e in
    let there = c.in_ok-word.ensures.found (encode_lower d) rest (digest_free d fits) behind in
    absurd (cc (c.in_err-digest.ensures.found d fits there.0))

pub returns-clause-found : goal.returns-clause-found
returns-clause-found c = λ d rest fits e.
    let behind = c.in_ok-after.ensures.found ((encode_lower d) ++ 10 ∷ rest) e in
    let there = c.in_ok-word.ensures.found (encode_lower d) rest (digest_free d fits) behind in
    let same = c.in_ok-digest.ensures.found d fits there.0 in
    (cc, there.1)
