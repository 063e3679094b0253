-- The lines of a path, read back.
use Rattle.std.proofs.Common.{◌≡◌, ℕ, ◌<◌, List, [], ◌∷◌, ◌++◌, length, sym, ap, ◌∙◌, append_assoc, arith}
use Rattle.std.specs.Prelude.{All, decimal, codes}
use Rattle.std.proofs.lemmas.List.{append-nil}
use Rattle.std.proofs.lemmas.List.Elements.{All-head, All-tail}
use Rattle.hex.specs.Hex.{encode_lower}
use Rattle.bk_report.specs.declared.line.Line.TheVariants as line
use Rattle.bk_report.specs.Lines.{text_of}
use Rattle.bk_results.specs.Lines.{spaced}
use Rattle.bk_report.specs.Proofs.{ProofValue, IsDigest, path_lines, proof_text}

-- what is left to read of a path: its digests after those that were read
pub record IsLeft (path items : List (List ℕ)) (rest : List ℕ) : Type 0 where
  pub tail : List (List ℕ)
  pub split : path ≡ items ++ tail
  pub digests : All IsDigest tail
  pub text : rest ≡ text_of (path_lines tail)

pub path_text : (d : List ℕ) (tail : List (List ℕ)) → text_of (path_lines (d ∷ tail)) ≡ codes "path " ++ (encode_lower d ++ 10 ∷ text_of (path_lines tail))
path_text d tail = simp append_assoc

-- at the start all is left
pub left_first : (path : List (List ℕ)) (items : List (List ℕ)) (text : List ℕ) → items ≡ [] → All IsDigest path → text ≡ text_of (path_lines path) → IsLeft path items text
left_first path items text none all e = record { tail = path; split = ap (λ (t : List (List ℕ)). t ++ path) (sym none); digests = all; text = e }

-- the first digest of what is left, where there is some text
pub record HasNext (path items : List (List ℕ)) (rest : List ℕ) : Type 0 where
  pub first : List ℕ
  pub tail : List (List ℕ)
  pub split : path ≡ items ++ first ∷ tail
  pub digest : IsDigest first
  pub digests : All IsDigest tail
  pub text : rest ≡ codes "path " ++ (encode_lower first ++ 10 ∷ text_of (path_lines tail))

pub next_of : (path items : List (List ℕ)) (rest : List ℕ) → 0 < length rest → IsLeft path items rest → HasNext path items rest
next_of path items rest some left = by_tail left.tail left.split left.digests left.text
  where
    by_tail : (tail : List (List ℕ)) → path ≡ items ++ tail → All IsDigest tail → rest ≡ text_of (path_lines tail) → HasNext path items rest
    by_tail [] split all e = absurd (omega (arith, ap length e))
    by_tail (d ∷ tail) split all e = record {
      first = d;
      tail = tail;
      split = split;
      digest = All-head IsDigest d tail all;
      digests = All-tail IsDigest d tail all;
      text = e ∙ path_text d tail;
    }

-- one digest more was read
pub left_next : (path items new : List (List ℕ)) (rest behind digest : List ℕ) (n : HasNext path items rest) → digest ≡ n.first → behind ≡ text_of (path_lines n.tail) → new ≡ items ++ digest ∷ [] → IsLeft path new behind
left_next path items new rest behind digest n same e grown = record {
  tail = n.tail;
  split = n.split ∙ sym (append_assoc items (n.first ∷ []) n.tail) ∙ (λ j. sym (grown ∙ ap (λ (d : List ℕ). items ++ d ∷ []) same) j ++ n.tail);
  digests = n.digests;
  text = e;
}

-- no text is left
pub left_none : (path items : List (List ℕ)) (rest : List ℕ) → length rest ≡ 0 → IsLeft path items rest → items ≡ path
left_none path items rest none left = by_tail left.tail left.split left.text
  where
    by_tail : (tail : List (List ℕ)) → path ≡ items ++ tail → rest ≡ text_of (path_lines tail) → items ≡ path
    by_tail [] split e = sym (split ∙ append-nil items)
    by_tail (d ∷ tail) split e = absurd (omega (arith, none, ap length (e ∙ path_text d tail)))

-- ---- the parts of a proof's text

abbrev pub account_part : ProofValue → List ℕ
account_part p = codes "account " ++ (decimal p.account.id ++ 32 ∷ (decimal p.account.balance ++ 32 ∷ (decimal p.account.seq ++ 10 ∷ text_of (path_lines p.path))))

abbrev pub index_part : ProofValue → List ℕ
index_part p = codes "index " ++ (decimal p.index ++ 10 ∷ account_part p)

abbrev pub size_part : ProofValue → List ℕ
size_part p = codes "size " ++ (decimal p.size ++ 10 ∷ index_part p)

nest : (word value rest : List ℕ) → ((word ++ value) ++ 10 ∷ []) ++ rest ≡ word ++ (value ++ 10 ∷ rest)
nest word value rest = append_assoc (word ++ value) (10 ∷ []) rest ∙ append_assoc word value (10 ∷ rest)

five : (a b c d e rest : List ℕ) → ((((a ++ b) ++ c) ++ d) ++ e) ++ rest ≡ a ++ (b ++ (c ++ (d ++ (e ++ rest))))
five a b c d e rest = simp append_assoc

pub text_parts : (p : ProofValue) → proof_text p ≡ codes "state " ++ (encode_lower p.state ++ 10 ∷ size_part p)
text_parts p =
    let path = path_lines p.path in
    let account = line.Account p.account.id p.account.balance p.account.seq ∷ path in
    let index = line.Index p.index ∷ account in
    let size = line.Size p.size ∷ index in
    nest (codes "state ") (encode_lower p.state) (text_of size) ∙ ap (λ (t : List ℕ). codes "state " ++ (encode_lower p.state ++ 10 ∷ t))
    (nest (codes "size ") (decimal p.size) (text_of index) ∙ ap (λ (t : List ℕ). codes "size " ++ (decimal p.size ++ 10 ∷ t))
    (nest (codes "index ") (decimal p.index) (text_of account) ∙ ap (λ (t : List ℕ). codes "index " ++ (decimal p.index ++ 10 ∷ t))
    (five (codes "account") (spaced p.account.id) (spaced p.account.balance) (spaced p.account.seq) (10 ∷ []) (text_of path))))
