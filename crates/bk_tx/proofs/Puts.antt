-- Transactions put at the end of a list, text by text.
use Rattle.std.proofs.Common.{◌≡◌, ℕ, zero, suc, ◌+◌, ◌-◌, ◌^◌, ◌<◌, ◌≤◌, Bool, true, false, cond, eqb, List, [], ◌∷◌, ◌++◌, length, map, take, Option, Some, None, option_map, unwrap_or, refl, sym, ap, subst, ◌∙◌, append-nil, append_assoc, length-append, arith}
use Rattle.std.specs.Int.{w16}
use Rattle.std.proofs.lemmas.List.{map_push, length-map}
use Rattle.std.proofs.Math.Seq.{take-append_seam}
use Rattle.bk_base.specs.Numbers.{◌>>=◌, number_at, list_at}
use Rattle.bk_base.proofs.FieldLemmas.{bind_some, some_is}
use Rattle.bk_base.proofs.Lists.{with_front, list_goes_on, list_ends, list_done}
use Rattle.bk_tx.specs.Transaction.{Transaction}
use Rattle.bk_tx.specs.Batches.{count_in, transactions_in}
use Rattle.bk_tx.specs.Reading.{text_at, texts_of, transaction_of}
use Rattle.bk_tx.specs.private.Put.{IsPut}

-- the transactions of some texts were put, and what is left gives the others
abbrev pub IsPutSoFar : List (Option Transaction) → List (Option Transaction) → ℕ → ℕ → List ℕ → List ℕ → Type 0
IsPutSoFar old new count i start rest = (texts : List (List ℕ)) × (new ≡ old ++ map transaction_of texts) × (with_front texts (list_at text_at (count - i) rest) ≡ list_at text_at count start)

with_nothing : (read : Option (List (List ℕ) × List ℕ)) → with_front [] read ≡ read
with_nothing (Some x) = refl
with_nothing None = refl

pub put_none : (old new : List (Option Transaction)) (count i : ℕ) (start rest : List ℕ) → new ≡ old → i ≡ 0 → rest ≡ start → IsPutSoFar old new count i start rest
put_none old new count i start rest is none whole =
    let all : count - i ≡ count = omega arith in
    ([], is ∙ sym (append-nil old), with_nothing (list_at text_at (count - i) rest) ∙ ap (λ (n : ℕ). list_at text_at n rest) all ∙ ap (λ (r : List ℕ). list_at text_at count r) whole)

pub put_more : (old mid new : List (Option Transaction)) (count i : ℕ) (start rest text after : List ℕ) → i < count → Some (text, after) ≡ text_at rest → new ≡ mid ++ transaction_of text ∷ [] → IsPutSoFar old mid count i start rest → IsPutSoFar old new count (i + 1) start after
put_more old mid new count i start rest text after lt e is (texts, grown, read) = (
  texts ++ text ∷ [],
  is ∙ ap (λ (t : List (Option Transaction)). t ++ transaction_of text ∷ []) grown ∙ append_assoc old (map transaction_of texts) (transaction_of text ∷ []) ∙ ap (λ (t : List (Option Transaction)). old ++ t) (sym (map_push transaction_of texts text)),
  list_goes_on text_at texts count i rest text after (list_at text_at count start) lt e read,
)

pub put_kept : (old new : List (Option Transaction)) (count i : ℕ) (start rest : List ℕ) → IsPutSoFar old new count i start rest → take (length old) new ≡ old
put_kept old new count i start rest (texts, grown, read) = ap (take (length old)) grown ∙ take-append_seam old (map transaction_of texts)

-- a text is missing
pub put_short : (old new : List (Option Transaction)) (count i : ℕ) (start rest : List ℕ) → i < count → None ≡ text_at rest → IsPutSoFar old new count i start rest → IsPut old new (list_at text_at count start) false
put_short old new count i start rest lt e (texts, grown, read) =
    subst (λ (o : Option (List (List ℕ) × List ℕ)). IsPut old new o false) (list_ends text_at texts count i rest (list_at text_at count start) lt e read) refl

-- all are there
pub put_all : (old new : List (Option Transaction)) (count i : ℕ) (start rest : List ℕ) (whole : Bool) → count ≤ i → whole ≡ eqb (length rest) 0 → IsPutSoFar old new count i start rest → IsPut old new (list_at text_at count start) whole
put_all old new count i start rest whole le is (texts, grown, read) =
    subst (λ (o : Option (List (List ℕ) × List ℕ)). IsPut old new o whole) (list_done text_at texts count i rest (list_at text_at count start) le read) (is, grown)

-- ---- the whole batch

-- a void batch counts nothing, and puts nothing there
pub count_void : (bytes : List ℕ) → None ≡ texts_of bytes → None ≡ count_in bytes
count_void bytes e = ap (λ (o : Option (List (List ℕ))). option_map length o) e

pub nothing_put : (bytes : List ℕ) (old : List (Option Transaction)) → None ≡ texts_of bytes → old ≡ old ++ transactions_in bytes
nothing_put bytes old e = sym (append-nil old) ∙ ap (λ (o : Option (List (List ℕ))). old ++ map transaction_of (unwrap_or o [])) e

-- as many items as were asked for
list_len : {A : Type 0} (item : List ℕ → Option (A × List ℕ)) (n : ℕ) (bytes : List ℕ) (x : List A × List ℕ) → list_at item n bytes ≡ Some x → length x.0 ≡ n
unfolding list_at
list_len {A = A} item zero bytes x e = ap (λ (y : List A × List ℕ). length y.0) (sym (some_is ([], bytes) x e))
list_len {A = A} item (suc n) bytes x e =
    let a = bind_some (item bytes) (λ first. list_at item n first.1 >>= λ others. Some (first.0 ∷ others.0, others.1)) x e in
    let b = bind_some (list_at item n a.0.1) (λ others. Some (a.0.0 ∷ others.0, others.1)) x a.2 in
    ap (λ (y : List A × List ℕ). length y.0) (sym (some_is (a.0.0 ∷ b.0.0, b.0.1) x b.2)) ∙ ap suc (list_len item n a.0.1 b.0 b.1)

module _ (bytes start : List ℕ) (count : ℕ) (e : number_at w16 bytes ≡ Some (count, start)) (old new : List (Option Transaction)) where
  texts_by : (o : Option (List (List ℕ) × List ℕ)) → list_at text_at count start ≡ o → texts_of bytes ≡ (o >>= λ x. cond (eqb (length x.1) 0) (Some x.0) None)
  unfolding texts_of
  texts_by o read = rw (e, read) refl

  -- texts are missing, or bytes are left
  pub put_void : IsPut old new (list_at text_at count start) false → None ≡ texts_of bytes
  put_void = by_read (list_at text_at count start) refl
    where
      by_read : (o : Option (List (List ℕ) × List ℕ)) → list_at text_at count start ≡ o → IsPut old new o false → None ≡ texts_of bytes
      by_read None read is = sym (texts_by None read)
      by_read (Some x) read is = sym (texts_by (Some x) read ∙ ap (λ (b : Bool). cond b (Some x.0) None) (sym is.0))

  -- nothing is missing, and nothing is left
  pub put_batch : IsPut old new (list_at text_at count start) true → count < 2 ^ 16 → (Some count ≡ count_in bytes) × (new ≡ old ++ transactions_in bytes) × (length new < length old + 2 ^ 16)
  put_batch = by_read (list_at text_at count start) refl
    where
      by_read : (o : Option (List (List ℕ) × List ℕ)) → list_at text_at count start ≡ o → IsPut old new o true → count < 2 ^ 16 → (Some count ≡ count_in bytes) × (new ≡ old ++ transactions_in bytes) × (length new < length old + 2 ^ 16)
      by_read None read is few = absurd (clash is)
        where
          clash : true ≡ false → ⊥
          clash e = cc
      by_read (Some x) read is few =
          let found : texts_of bytes ≡ Some x.0 = texts_by (Some x) read ∙ ap (λ (b : Bool). cond b (Some x.0) None) (sym is.0) in
          let many : length x.0 ≡ count = list_len text_at count start x read in
          let long : length new ≡ length old + count = ap length is.1 ∙ length-append old (map transaction_of x.0) ∙ ap (λ (n : ℕ). length old + n) (length-map x.0 transaction_of ∙ many) in
          (rw found (ap Some (sym many)), rw found is.1, omega arith)
