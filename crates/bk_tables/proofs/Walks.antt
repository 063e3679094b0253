-- Batches and their texts, one after another.
use Rattle.std.proofs.Common.{◌≡◌, ℕ, zero, suc, ◌+◌, ◌<◌, ◌≤◌, Bool, true, false, cond, eqb, List, [], ◌∷◌, ◌++◌, length, get_or, map, Option, Some, None, refl, sym, ap, subst, ◌∙◌, arith}
use Rattle.std.specs.Prelude.{IsSome, option_and_then, option_map, unwrap_or}
use Rattle.std.specs.Int.{w16}
use Rattle.std.proofs.lemmas.List.{get_or_default, length-map}
use Rattle.bk_rules.specs.declared.receipt.Status.TheVariants as status
use Rattle.std.proofs.lemmas.Bool.{eqb-true}
use Rattle.bk_base.specs.Numbers.{list_at, number_at}
use Rattle.bk_tx.specs.Batches.{count_in, transactions_in}
use Rattle.bk_tx.specs.Reading.{text_at, texts_of, transaction_of}
use Rattle.bk_report.specs.Pages.{Desk, IsReady, Puts}
use Rattle.bk_rules.specs.declared.receipt.Receipt.{Receipt}
use Rattle.bk_tables.specs.Payments.{payments_text, receipt_at, rows_at, rows_in}
use Rattle.bk_tx.specs.Transaction.{Transaction}
use Rattle.bk_tables.proofs.Done.{IsDone, all_done, begun, next_done}
use Rattle.bk_tables.proofs.TableTexts.{payments_two}

-- ---- the texts of a batch

-- the next of some texts, and those after it
pub record IsNextText (n : ℕ) (bytes : List ℕ) (left : List (List ℕ)) : Type 0 where
  pub text : List ℕ
  pub rest : List ℕ
  pub more : List (List ℕ)
  pub first : text_at bytes ≡ Some (text, rest)
  pub left_is : left ≡ text ∷ more
  pub others : list_at text_at n rest ≡ Some (more, [])

pub next_text_is : (n : ℕ) (bytes : List ℕ) (left : List (List ℕ)) → list_at text_at (suc n) bytes ≡ Some (left, []) → IsNextText n bytes left
unfolding list_at
next_text_is n bytes left e = by_first (text_at bytes) refl e
  where
    by_others : (text rest : List ℕ) → text_at bytes ≡ Some (text, rest) → (o : Option (List (List ℕ) × List ℕ)) → list_at text_at n rest ≡ o
        → option_and_then {U = List (List ℕ) × List ℕ} (λ (others : List (List ℕ) × List ℕ). Some (text ∷ others.0, others.1)) o ≡ Some (left, []) → IsNextText n bytes left
    by_others text rest f None g k = absurd cc
    by_others text rest f (Some (more, end)) g k =
        let here : text ∷ more ≡ left = ap (λ (o : Option (List (List ℕ) × List ℕ)). (unwrap_or o ([], [])).0) k in
        let none : end ≡ [] = ap (λ (o : Option (List (List ℕ) × List ℕ)). (unwrap_or o ([], [])).1) k in
        record { text = text; rest = rest; more = more; first = f; left_is = sym here; others = g ∙ ap (λ (x : List ℕ). Some (more, x)) none }

    by_first : (o : Option (List ℕ × List ℕ)) → text_at bytes ≡ o → option_and_then (λ (first : List ℕ × List ℕ). option_and_then {U = List (List ℕ) × List ℕ} (λ (others : List (List ℕ) × List ℕ). Some (first.0 ∷ others.0, others.1)) (list_at text_at n first.1)) o ≡ Some (left, []) → IsNextText n bytes left
    by_first None f k = absurd cc
    by_first (Some (text, rest)) f k = by_others text rest f (list_at text_at n rest) refl k

pub no_texts : (bytes : List ℕ) (left : List (List ℕ)) → list_at text_at 0 bytes ≡ Some (left, []) → left ≡ []
unfolding list_at
no_texts bytes left e = sym (ap (λ (o : Option (List (List ℕ) × List ℕ)). (unwrap_or o ([], [])).0) e)

texts_count : (n : ℕ) (bytes : List ℕ) (left : List (List ℕ)) → list_at text_at n bytes ≡ Some (left, []) → length left ≡ n
texts_count zero bytes left e = ap length (no_texts bytes left e)
texts_count (suc n) bytes left e =
    let next = next_text_is n bytes left e in
    let rest = texts_count n next.rest next.more next.others in
    let whole = ap length next.left_is in
    omega (arith, rest, whole)

-- the texts of a batch of the grammar
pub record AreTextsOf (count : ℕ) (rest payload : List ℕ) : Type 0 where
  pub texts : List (List ℕ)
  pub are : texts_of payload ≡ Some texts
  pub reads : list_at text_at count rest ≡ Some (texts, [])

no_some : {X : Type 0} (o : Option X) → o ≡ None → IsSome o → ⊥
no_some o e h = absurd (let n = subst IsSome e h in cc)

none_some : {X : Type 0} (x : X) → None ≡ Some x → ⊥
none_some x e = cc

nil_of : (xs : List ℕ) → eqb (length xs) 0 ≡ true → xs ≡ []
nil_of [] e = refl
nil_of (x ∷ xs) e = absurd (let n = eqb-true _ _ e in omega (arith, n))

pub texts_are : (count : ℕ) (rest payload : List ℕ) → IsSome (count_in payload) → Some (count, rest) ≡ number_at w16 payload → AreTextsOf count rest payload
unfolding texts_of
texts_are count rest payload some e = by_read (list_at text_at count rest) refl (subst (λ (o : Option (ℕ × List ℕ)). IsSome (option_map length (option_and_then (λ (c : ℕ × List ℕ). option_and_then (λ (texts : List (List ℕ) × List ℕ). cond (eqb (length texts.1) 0) (Some texts.0) None) (list_at text_at c.0 c.1)) o))) (sym e) some)
  where
    by_end : (texts : List (List ℕ)) (end : List ℕ) → list_at text_at count rest ≡ Some (texts, end) → (b : Bool) → eqb (length end) 0 ≡ b → IsSome (option_map length (cond {A = Option (List (List ℕ))} b (Some texts) None)) → AreTextsOf count rest payload
    by_end texts end f true t h = record {
      texts = texts;
      are = ap (λ (o : Option (ℕ × List ℕ)). option_and_then (λ (c : ℕ × List ℕ). option_and_then (λ (xs : List (List ℕ) × List ℕ). cond (eqb (length xs.1) 0) (Some xs.0) None) (list_at text_at c.0 c.1)) o) (sym e)
          ∙ ap (λ (o : Option (List (List ℕ) × List ℕ)). option_and_then (λ (xs : List (List ℕ) × List ℕ). cond (eqb (length xs.1) 0) (Some xs.0) None) o) f
          ∙ ap (λ (b : Bool). cond b (Some texts) None) t;
      reads = f ∙ ap (λ (x : List ℕ). Some (texts, x)) (nil_of end t);
    }
    by_end texts end f false t h = absurd (no_some {X = ℕ} None refl h)

    by_read : (o : Option (List (List ℕ) × List ℕ)) → list_at text_at count rest ≡ o → IsSome (option_map length (option_and_then (λ (texts : List (List ℕ) × List ℕ). cond (eqb (length texts.1) 0) (Some texts.0) None) o)) → AreTextsOf count rest payload
    by_read None f h = absurd (no_some {X = ℕ} None refl h)
    by_read (Some (texts, end)) f h = by_end texts end f (eqb (length end) 0) refl h

pub transactions_are : (count : ℕ) (rest payload : List ℕ) (t : AreTextsOf count rest payload) → transactions_in payload ≡ map transaction_of t.texts
transactions_are count rest payload t = ap (λ (o : Option (List (List ℕ))). map transaction_of (unwrap_or o [])) t.are

pub texts_counted : (count : ℕ) (rest payload : List ℕ) → AreTextsOf count rest payload → length (transactions_in payload) ≡ count
texts_counted count rest payload t = ap length (transactions_are count rest payload t) ∙ length-map t.texts transaction_of ∙ texts_count count rest t.texts t.reads

pub texts_there : (payload : List ℕ) → IsSome (count_in payload) → None ≡ number_at w16 payload → ⊥
unfolding texts_of
texts_there payload some e = no_some _ (ap (λ (o : Option (ℕ × List ℕ)). option_map length (option_and_then (λ (c : ℕ × List ℕ). option_and_then (λ (xs : List (List ℕ) × List ℕ). cond (eqb (length xs.1) 0) (Some xs.0) None) (list_at text_at c.0 c.1)) o)) (sym e)) some

-- ---- the rows of a batch

-- of a batch the rows of these texts, of which there are n, are left, the first at this place
pub record InBatch (ids : Option (List ℕ)) (receipts : List Receipt) (batch place n : ℕ) (texts : List ℕ) (a b : Desk) (most : ℕ) (whole : List ℕ) : Type 0 where
  pub left : List (List ℕ)
  pub reads : list_at text_at n texts ≡ Some (left, [])
  pub put : IsDone a b most whole (payments_text ids (rows_in receipts batch place (map transaction_of left)))

-- before the first
pub batch_begun : (ids : Option (List ℕ)) (receipts : List Receipt) (batch place count : ℕ) (rest payload : List ℕ) {a : Desk} (most : ℕ) → IsReady a → AreTextsOf count rest payload
    → InBatch ids receipts batch place count rest a a most (payments_text ids (rows_in receipts batch place (transactions_in payload)))
batch_begun ids receipts batch place count rest payload {a} most ready t = record {
  left = t.texts;
  reads = t.reads;
  put = begun most _ _ ready (ap (λ (ts : List (Option Transaction)). payments_text ids (rows_in receipts batch place ts)) (sym (transactions_are count rest payload t)));
}

-- the rows of the next text and those after it
pub text_rows : (ids : Option (List ℕ)) (receipts : List Receipt) (batch place : ℕ) (left : List (List ℕ)) (text : List ℕ) (more : List (List ℕ)) → left ≡ text ∷ more
    → payments_text ids (rows_in receipts batch place (map transaction_of left))
    ≡ payments_text ids (rows_at (record { place = place; batch = batch; receipt = receipt_at receipts place }) (transaction_of text)) ++ payments_text ids (rows_in receipts batch (place + 1) (map transaction_of more))
text_rows ids receipts batch place left text more e =
    ap (λ (ts : List (List ℕ)). payments_text ids (rows_in receipts batch place (map transaction_of ts))) e
    ∙ payments_two ids (rows_at (record { place = place; batch = batch; receipt = receipt_at receipts place }) (transaction_of text)) (rows_in receipts batch (place + 1) (map transaction_of more))

module _ (ids : Option (List ℕ)) (receipts : List Receipt) (batch place n : ℕ) (texts new text : List ℕ) {a b : Desk} {m : ℕ} {whole : List ℕ}
    (h : InBatch ids receipts batch place (suc n) texts a b m whole) (first : Some (text, new) ≡ text_at texts) where
  next : IsNextText n texts h.left
  next = next_text_is n texts h.left h.reads

  text_is : next.text ≡ text
  text_is = ap (λ (o : Option (List ℕ × List ℕ)). (unwrap_or o ([], [])).0) (sym next.first ∙ sym first)

  rest_is : next.rest ≡ new
  rest_is = ap (λ (o : Option (List ℕ × List ℕ)). (unwrap_or o ([], [])).1) (sym next.first ∙ sym first)

  splits : payments_text ids (rows_in receipts batch place (map transaction_of h.left))
      ≡ payments_text ids (rows_at (record { place = place; batch = batch; receipt = receipt_at receipts place }) (transaction_of text)) ++ payments_text ids (rows_in receipts batch (place + 1) (map transaction_of next.more))
  splits = text_rows ids receipts batch place h.left text next.more (next.left_is ∙ ap (λ (t : List ℕ). t ∷ next.more) text_is)

  pub text_put : {c : Desk} {k : ℕ} {shown : List ℕ} (most : ℕ) → shown ≡ payments_text ids (rows_at (record { place = place; batch = batch; receipt = receipt_at receipts place }) (transaction_of text)) → Puts b c k shown → m + k ≤ most → InBatch ids receipts batch (place + 1) n new a c most whole
  text_put {c} {k} {shown} most e put few = record {
    left = next.more;
    reads = ap (list_at text_at n) (sym rest_is) ∙ next.others;
    put = next_done most shown _ (splits ∙ ap (λ (t : List ℕ). t ++ payments_text ids (rows_in receipts batch (place + 1) (map transaction_of next.more))) (sym e)) h.put put few;
  }

pub text_missing : (ids : Option (List ℕ)) (receipts : List Receipt) (batch place m n : ℕ) (texts : List ℕ) {a b : Desk} {most : ℕ} {whole : List ℕ}
    → m ≡ suc n → InBatch ids receipts batch place m texts a b most whole → None ≡ text_at texts → ⊥
text_missing ids receipts batch place m n texts some h e = let next = next_text_is n texts h.left (ap (λ (k : ℕ). list_at text_at k texts) (sym some) ∙ h.reads) in none_some (next.text, next.rest) (e ∙ next.first)

-- none is left
pub batch_done : (ids : Option (List ℕ)) (receipts : List Receipt) (batch place n : ℕ) (texts : List ℕ) {a b : Desk} {m : ℕ} {whole : List ℕ} (most : ℕ)
    → n ≡ 0 → InBatch ids receipts batch place n texts a b m whole → m ≤ most → Puts a b most whole
batch_done ids receipts batch place n texts most none h few =
    all_done most (ap (λ (ts : List (List ℕ)). payments_text ids (rows_in receipts batch place (map transaction_of ts))) (no_texts texts h.left (ap (λ (k : ℕ). list_at text_at k texts) (sym none) ∙ h.reads))) h.put few

-- the same at a place by another name
pub moved_on : (ids : Option (List ℕ)) (receipts : List Receipt) (batch place place' m n : ℕ) (texts : List ℕ) {a b : Desk} {most : ℕ} {whole : List ℕ}
    → place ≡ place' → m ≡ n → InBatch ids receipts batch place m texts a b most whole → InBatch ids receipts batch place' n texts a b most whole
moved_on ids receipts batch place place' m n texts {a} {b} {most} {whole} e f h = subst (λ (x : ℕ × ℕ). InBatch ids receipts batch x.0 x.1 texts a b most whole) (λ i. (e i, f i)) h

-- what is put for a text is its rows
pub place_shown : (ids : Option (List ℕ)) (receipts : List Receipt) (batch place : ℕ) (d r : Receipt) (t t' : Option Transaction) → place < length receipts → r ≡ get_or receipts place d → t ≡ t'
    → payments_text ids (rows_at (record { place = place; batch = batch; receipt = r }) t) ≡ payments_text ids (rows_at (record { place = place; batch = batch; receipt = receipt_at receipts place }) t')
place_shown ids receipts batch place d r t t' low is f =
    (λ i. payments_text ids (rows_at (record { place = place; batch = batch; receipt = (is ∙ get_or_default receipts place d (record { status = status.Malformed; moved = 0 }) low) i }) (f i)))
