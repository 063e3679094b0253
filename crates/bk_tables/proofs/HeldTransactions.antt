-- What the bytes of payloads hold are transactions.
use Rattle.std.proofs.Common.{◌≡◌, ℕ, List, [], ◌∷◌, ◌++◌, length, map, Option, Some, None, refl, sym, subst}
use Rattle.std.specs.Prelude.{IfSome, unwrap_or}
use Rattle.std.specs.Int.{w16, to_be_bytes}
use Rattle.std.specs.List.{flat_map}
use Rattle.std.proofs.Math.Seq.{take-append_seam, drop-append_seam}
use Rattle.std.proofs.lemmas.List.Concat.{flat_map-cons}
use Rattle.bk_base.specs.Numbers.{IsBytes}
use Rattle.bk_base.proofs.FieldLemmas.{IsBytes-drop, IsBytes-take}
use Rattle.bk_tx.specs.Batches.{transactions_in, transactions_of}
use Rattle.bk_tx.specs.Reading.{texts_of, transaction_of}
use Rattle.bk_tx.specs.Spelling.{IsTransaction, batch_text, text_in_batch}
use Rattle.bk_tx.specs.Transaction.{Transaction}
use Rattle.bk_tx.proofs.Batches.{batch_takes}
use Rattle.bk_tx.proofs.Transactions.{transaction_takes}
use Rattle.bk_tables.specs.Laws.{AreTransactions, PayloadsHoldTransactions}

-- ---- parts of bytes

bytes_before : (xs ys : List ℕ) → IsBytes (xs ++ ys) → IsBytes xs
bytes_before xs ys are = subst IsBytes (take-append_seam xs ys) (IsBytes-take (length xs) (xs ++ ys) are)

bytes_after : (xs ys : List ℕ) → IsBytes (xs ++ ys) → IsBytes ys
bytes_after xs ys are = subst IsBytes (drop-append_seam xs ys) (IsBytes-drop (length xs) (xs ++ ys) are)

-- ---- the texts of a batch

text_holds : (text : List ℕ) → IsBytes text → IfSome (transaction_of text) IsTransaction
text_holds text are = by_read (transaction_of text) refl
  where
    by_read : (o : Option Transaction) → transaction_of text ≡ o → IfSome o IsTransaction
    by_read None e = tt
    by_read (Some t) e = (transaction_takes text t are e).0

texts_hold : (texts : List (List ℕ)) → IsBytes (flat_map text_in_batch texts) → AreTransactions (map transaction_of texts)
texts_hold [] are = tt
texts_hold (text ∷ texts) are =
    let parts : IsBytes (text_in_batch text ++ flat_map text_in_batch texts) = subst IsBytes (flat_map-cons text_in_batch text texts) are in
    (text_holds text (bytes_after (to_be_bytes w16 (length text)) text (bytes_before (text_in_batch text) (flat_map text_in_batch texts) parts)), texts_hold texts (bytes_after (text_in_batch text) (flat_map text_in_batch texts) parts))

payload_holds : (payload : List ℕ) → IsBytes payload → AreTransactions (transactions_in payload)
payload_holds payload are = by_texts (texts_of payload) refl
  where
    by_texts : (o : Option (List (List ℕ))) → texts_of payload ≡ o → AreTransactions (map transaction_of (unwrap_or o []))
    by_texts None e = tt
    by_texts (Some texts) e =
        let whole : IsBytes (batch_text texts) = subst IsBytes (batch_takes payload texts are e).1 are in
        texts_hold texts (bytes_after (to_be_bytes w16 (length texts)) (flat_map text_in_batch texts) whole)

-- ---- many

both_hold : (xs ys : List (Option Transaction)) → AreTransactions xs → AreTransactions ys → AreTransactions (xs ++ ys)
both_hold [] ys h g = g
both_hold (x ∷ xs) ys h g = (h.0, both_hold xs ys h.1 g)

pub payloads_hold : PayloadsHoldTransactions
payloads_hold [] are = tt
payloads_hold (p ∷ ps) are = subst AreTransactions (sym (flat_map-cons transactions_in p ps)) (both_hold (transactions_in p) (transactions_of ps) (payload_holds p are.0) (payloads_hold ps are.1))
