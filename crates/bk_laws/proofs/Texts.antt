-- The texts of the batches that a feed orders are transactions of 64 bits, where the bytes of the feed are bytes.
use Rattle.std.proofs.Common.{◌≡◌, ℕ, List, [], ◌∷◌, ◌++◌, drop, length, map, Option, Some, None, subst, sym, refl, ap, ◌∙◌, ⊎_elim, cond, Bool, true, false}
use Rattle.std.specs.Prelude.{option_map, unwrap_or}
use Rattle.std.specs.Int.{w16, w32, to_be_bytes}
use Rattle.std.specs.List.{Contains, find, flat_map}
use Rattle.std.proofs.Math.Seq.{take-append_seam, drop-append_seam}
use Rattle.std.proofs.lemmas.List.Concat.{flat_map-cons}
use Rattle.std.proofs.lemmas.List.Elements.{Contains-append_cases}
use Rattle.bk_base.specs.Numbers.{IsBytes}
use Rattle.bk_base.specs.Feed.{Frame, FeedValue, frame_text, kind_number, magic, spelling}
use Rattle.bk_base.proofs.FieldLemmas.{IsBytes-drop, IsBytes-take}
use Rattle.bk_tx.specs.Reading.{texts_of, transaction_of}
use Rattle.bk_tx.specs.Spelling.{IsTransaction, batch_text, text_in_batch}
use Rattle.bk_tx.specs.Transaction.{Transaction}
use Rattle.bk_tx.proofs.Batches.{batch_takes}
use Rattle.bk_tx.proofs.Transactions.{transaction_takes}
use Rattle.bk_cert.proofs.Lists.{none_in_nil, contains_cases, contains_first, contains_later, from_map}
use Rattle.bk_evidence.specs.Batches.{Batch, has_digest, payload_of}
use Rattle.bk_flatten.specs.Batches.{Payloads, before_missing, cons_payload, digests_of}
use Rattle.bk_order.specs.Orders.{Ordered}
use Rattle.bk_tx.specs.Batches.{transactions_in, transactions_of}
use Rattle.bk_answer.specs.RunReport.{IsOrderIn}

-- ---- parts of bytes

bytes_before : (xs ys : List ℕ) → IsBytes (xs ++ ys) → IsBytes xs
bytes_before xs ys are = subst IsBytes (take-append_seam xs ys) (IsBytes-take (length xs) (xs ++ ys) are)

bytes_after : (xs ys : List ℕ) → IsBytes (xs ++ ys) → IsBytes ys
bytes_after xs ys are = subst IsBytes (drop-append_seam xs ys) (IsBytes-drop (length xs) (xs ++ ys) are)

bytes_of_each : {X : Type 0} (f : X → List ℕ) (xs : List X) → IsBytes (flat_map f xs) → (x : X) → Contains xs x → IsBytes (f x)
bytes_of_each f [] are x h = absurd (none_in_nil x h)
bytes_of_each f (y ∷ ys) are x h =
    let parts : IsBytes (f y ++ flat_map f ys) = subst IsBytes (flat_map-cons f y ys) are in
    ⊎_elim
    (λ (e : y ≡ x). subst (λ v. IsBytes (f v)) e (bytes_before (f y) (flat_map f ys) parts))
    (λ (later : Contains ys x). bytes_of_each f ys (bytes_after (f y) (flat_map f ys) parts) x later)
    (contains_cases y ys x h)

-- the payload of each frame is of bytes
pub payload_bytes : (feed : FeedValue) → IsBytes (spelling feed) → (f : Frame) → Contains feed.frames f → IsBytes f.payload
payload_bytes feed are f h =
    let frame : IsBytes (frame_text f) = bytes_of_each frame_text feed.frames (bytes_after (magic feed.version) (flat_map frame_text feed.frames) are) f h in
    bytes_after (to_be_bytes w32 (length f.payload)) f.payload
    (bytes_after (kind_number f.kind ∷ []) (to_be_bytes w32 (length f.payload) ++ f.payload) frame)

text_bytes : (payload : List ℕ) (texts : List (List ℕ)) → IsBytes payload → texts_of payload ≡ Some texts → (text : List ℕ) → Contains texts text → IsBytes text
text_bytes payload texts are e text h =
    let whole : IsBytes (batch_text texts) = subst IsBytes (batch_takes payload texts are e).1 are in
    bytes_after (to_be_bytes w16 (length text)) text
    (bytes_of_each text_in_batch texts (bytes_after (to_be_bytes w16 (length texts)) (flat_map text_in_batch texts) whole) text h)

-- ---- transactions

transaction_in : (payload : List ℕ) → IsBytes payload → (t : Transaction) → Contains (transactions_in payload) (Some t) → IsTransaction t
transaction_in payload are t h = by (texts_of payload) refl h
  where
    by : (o : Option (List (List ℕ))) → texts_of payload ≡ o → Contains (map transaction_of (unwrap_or o [])) (Some t) → IsTransaction t
    by None e g = absurd (none_in_nil (Some t) g)
    by (Some texts) e g =
        let m = from_map transaction_of texts (Some t) g in
        (transaction_takes m.0 t (text_bytes payload texts are e m.0 m.1) m.2).0

each_transaction : (payloads : List (List ℕ)) → ((p : List ℕ) → Contains payloads p → IsBytes p) → (t : Transaction) → Contains (transactions_of payloads) (Some t) → IsTransaction t
each_transaction [] are t h = absurd (none_in_nil (Some t) h)
each_transaction (p ∷ ps) are t h = ⊎_elim
    (λ (here : Contains (transactions_in p) (Some t)). transaction_in p (are p (contains_first p ps)) t here)
    (λ (later : Contains (transactions_of ps) (Some t)). each_transaction ps (λ q k. are q (contains_later p ps q k)) t later)
    (Contains-append_cases (transactions_in p) (transactions_of ps) (Some t) (subst (λ (xs : List (Option Transaction)). Contains xs (Some t)) (flat_map-cons transactions_in p ps) h))

-- ---- the batches of an order

found_payload : (batches : List Batch) (d q : List ℕ) → payload_of batches d ≡ Some q → (b : Batch) × Contains batches b × (b.payload ≡ q)
found_payload [] d q e = absurd cc
found_payload (b ∷ bs) d q e = by_test (has_digest d b) e (λ g. found_payload bs d q g)
  where
    by_test : (t : Bool) → option_map (λ (x : Batch). x.payload) (cond t (Some b) (find (has_digest d) bs)) ≡ Some q
        → (payload_of bs d ≡ Some q → (x : Batch) × Contains bs x × (x.payload ≡ q))
        → (x : Batch) × Contains (b ∷ bs) x × (x.payload ≡ q)
    by_test true g go = let same : b.payload ≡ q = cc in (b, contains_first b bs, same)
    by_test false g go = let r = go g in (r.0, contains_later b bs r.0 r.1, r.2)

held_payload : (batches : List Batch) (ds : List (List ℕ)) (q : List ℕ) → Contains (before_missing batches ds).list q → (b : Batch) × Contains batches b × (b.payload ≡ q)
held_payload batches [] q h = absurd (none_in_nil q h)
held_payload batches (d ∷ ds) q h = by (payload_of batches d) refl h (λ g. held_payload batches ds q g)
  where
    by : (o : Option (List ℕ)) → payload_of batches d ≡ o → Contains (cons_payload o d (before_missing batches ds)).list q
        → (Contains (before_missing batches ds).list q → (b : Batch) × Contains batches b × (b.payload ≡ q))
        → (b : Batch) × Contains batches b × (b.payload ≡ q)
    by None e g go = absurd (none_in_nil q g)
    by (Some p) e g go = ⊎_elim
        (λ (same : p ≡ q). let r = found_payload batches d p e in (r.0, r.1, r.2 ∙ same))
        (λ (more : Contains (before_missing batches ds).list q). go more)
        (contains_cases p (before_missing batches ds).list q g)

pub later_part : (frames : List Frame) (f : Frame) → Contains (drop 2 frames) f → Contains frames f
later_part [] f h = h
later_part (a ∷ []) f h = absurd (none_in_nil f h)
later_part (a ∷ b ∷ more) f h = contains_later a (b ∷ more) f (contains_later b more f h)

ordered_bytes : (feed : FeedValue) (o : Ordered) → IsBytes (spelling feed) → IsOrderIn feed o → (q : List ℕ) → Contains o.payloads.list q → IsBytes q
ordered_bytes feed o are is q h =
    let b = held_payload is.batches (digests_of is.certs o.order) q (subst (λ (p : Payloads). Contains p.list q) is.holds.payloads_are h) in
    let s = is.are_batches.sound b.0 b.1 in
    let payload : s.0 ≡ q = sym (ap (λ (x : Batch). x.payload) s.2) ∙ b.2 in
    subst IsBytes payload (payload_bytes feed are _ (later_part feed.frames _ s.1))

-- what an order executes are transactions, whose numbers fit 64 bits
pub ordered_transactions : (feed : FeedValue) (o : Ordered) → IsBytes (spelling feed) → IsOrderIn feed o → (t : Transaction) → Contains (transactions_of o.payloads.list) (Some t) → IsTransaction t
ordered_transactions feed o are is = each_transaction o.payloads.list (ordered_bytes feed o are is)
