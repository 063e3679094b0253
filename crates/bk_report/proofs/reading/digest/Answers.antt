use Rattle.std.proofs.Common.{◌≡◌, List, ℕ, Ok, Some, ap, ◌∙◌}
use Rattle.hex.specs.Hex.{decode_sized, encode_lower}
use Rattle.hex.proofs.HexLemmas.{decode_sized-encode_lower}
use Rattle.bk_report.specs.Proofs.{IsDigest}
use Rattle.bk_report.proofs.reading.digest.Goals as goal

decodes : (word d : List ℕ) → IsDigest d → word ≡ encode_lower d → decode_sized word 32 ≡ Ok d
decodes word d good e = ap (λ (t : List ℕ). decode_sized t 32) e ∙ decode_sized-encode_lower d 32 good.sized good.bytes

pub returns-in-Ok-clause-found : goal.returns-in-Ok-clause-found
returns-in-Ok-clause-found c = λ d good e. let is = decodes c.args.word.now d good e in let h = rw is at c.decode_to_slice.ensures.value in ap (λ (t : List ℕ). Some t) (c.new.ensures ∙ h.1)

pub returns-in-Err-clause-found : goal.returns-in-Err-clause-found
returns-in-Err-clause-found c = λ d good e. let is = decodes c.args.word.now d good e in let h = rw is at c.decode_to_slice.ensures.value in absurd (cc h.0)
