use Rattle.std.proofs.Common.{◌≡◌, ◌∷◌, ◌++◌}
use Rattle.std.specs.Prelude.{decimal}
use Rattle.bk_report.proofs.ProofReading.{decimal_free-10, decimal_free-32}
use Rattle.bk_report.proofs.reading.account_line.Goals as goal

pub returns-in_err-id-clause-found : goal.returns-in_err-id-clause-found
returns-in_err-id-clause-found c = λ r rest good e.
    let three = decimal r.seq ++ 10 ∷ rest in
    let two = decimal r.balance ++ 32 ∷ three in
    let one = decimal r.id ++ 32 ∷ two in
    let behind = c.in_ok-after.ensures.found one e in
    absurd (c.in_err-id.ensures.found (decimal r.id) two (decimal_free-32 r.id good.id) behind)

pub returns-in_err-balance-clause-found : goal.returns-in_err-balance-clause-found
returns-in_err-balance-clause-found c = λ r rest good e.
    let three = decimal r.seq ++ 10 ∷ rest in
    let two = decimal r.balance ++ 32 ∷ three in
    let one = decimal r.id ++ 32 ∷ two in
    let behind = c.in_ok-after.ensures.found one e in
    let a = c.in_ok-id.ensures.found (decimal r.id) two (decimal_free-32 r.id good.id) behind in
    absurd (c.in_err-balance.ensures.found (decimal r.balance) three (decimal_free-32 r.balance good.balance) a.1)

pub returns-in_err-seq-clause-found : goal.returns-in_err-seq-clause-found
returns-in_err-seq-clause-found c = λ r rest good e.
    let three = decimal r.seq ++ 10 ∷ rest in
    let two = decimal r.balance ++ 32 ∷ three in
    let one = decimal r.id ++ 32 ∷ two in
    let behind = c.in_ok-after.ensures.found one e in
    let a = c.in_ok-id.ensures.found (decimal r.id) two (decimal_free-32 r.id good.id) behind in
    let b = c.in_ok-balance.ensures.found (decimal r.balance) three (decimal_free-32 r.balance good.balance) a.1 in
    absurd (c.in_err-seq.ensures.found (decimal r.seq) rest (decimal_free-10 r.seq good.seq) b.1)

pub returns-in_err-number-clause-found : goal.returns-in_err-number-clause-found
returns-in_err-number-clause-found c = λ r rest good e.
    let three = decimal r.seq ++ 10 ∷ rest in
    let two = decimal r.balance ++ 32 ∷ three in
    let one = decimal r.id ++ 32 ∷ two in
    let behind = c.in_ok-after.ensures.found one e in
    let a = c.in_ok-id.ensures.found (decimal r.id) two (decimal_free-32 r.id good.id) behind in
    let b = c.in_ok-balance.ensures.found (decimal r.balance) three (decimal_free-32 r.balance good.balance) a.1 in
    let d = c.in_ok-seq.ensures.found (decimal r.seq) rest (decimal_free-10 r.seq good.seq) b.1 in
    absurd (cc (c.in_err-number.ensures.found r.id good.id a.0))

pub returns-in_err-number-2-clause-found : goal.returns-in_err-number-2-clause-found
returns-in_err-number-2-clause-found c = λ r rest good e.
    let three = decimal r.seq ++ 10 ∷ rest in
    let two = decimal r.balance ++ 32 ∷ three in
    let one = decimal r.id ++ 32 ∷ two in
    let behind = c.in_ok-after.ensures.found one e in
    let a = c.in_ok-id.ensures.found (decimal r.id) two (decimal_free-32 r.id good.id) behind in
    let b = c.in_ok-balance.ensures.found (decimal r.balance) three (decimal_free-32 r.balance good.balance) a.1 in
    let d = c.in_ok-seq.ensures.found (decimal r.seq) rest (decimal_free-10 r.seq good.seq) b.1 in
    absurd (cc (c.in_err-number-2.ensures.found r.balance good.balance b.0))

pub returns-in_err-number-3-clause-found : goal.returns-in_err-number-3-clause-found
returns-in_err-number-3-clause-found c = λ r rest good e.
    let three = decimal r.seq ++ 10 ∷ rest in
    let two = decimal r.balance ++ 32 ∷ three in
    let one = decimal r.id ++ 32 ∷ two in
    let behind = c.in_ok-after.ensures.found one e in
    let a = c.in_ok-id.ensures.found (decimal r.id) two (decimal_free-32 r.id good.id) behind in
    let b = c.in_ok-balance.ensures.found (decimal r.balance) three (decimal_free-32 r.balance good.balance) a.1 in
    let d = c.in_ok-seq.ensures.found (decimal r.seq) rest (decimal_free-10 r.seq good.seq) b.1 in
    absurd (cc (c.in_err-number-3.ensures.found r.seq good.seq d.0))

pub returns-clause-found : goal.returns-clause-found
returns-clause-found c = λ r rest good e.
    let three = decimal r.seq ++ 10 ∷ rest in
    let two = decimal r.balance ++ 32 ∷ three in
    let one = decimal r.id ++ 32 ∷ two in
    let behind = c.in_ok-after.ensures.found one e in
    let a = c.in_ok-id.ensures.found (decimal r.id) two (decimal_free-32 r.id good.id) behind in
    let b = c.in_ok-balance.ensures.found (decimal r.balance) three (decimal_free-32 r.balance good.balance) a.1 in
    let d = c.in_ok-seq.ensures.found (decimal r.seq) rest (decimal_free-10 r.seq good.seq) b.1 in
    let x = c.in_ok-number.ensures.found r.id good.id a.0 in
    let y = c.in_ok-number-2.ensures.found r.balance good.balance b.0 in
    let z = c.in_ok-number-3.ensures.found r.seq good.seq d.0 in
    let i : c.in_ok-number.field-0 ≡ r.id = cc in
    let j : c.in_ok-number-2.field-0 ≡ r.balance = cc in
    let k : c.in_ok-number-3.field-0 ≡ r.seq = cc in
    ((λ t. record { id = i t; balance = j t; seq = k t }), d.1)
