-- How many accounts transactions can make: each takes eight bytes of a feed, or more.
use Rattle.std.proofs.Common.{◌≡◌, ℕ, zero, suc, ◌+◌, ◌*◌, ◌^◌, ◌<◌, ◌≤◌, Bool, true, false, cond, eqb, leb, ltb, ◌&&◌, ◌||◌, not, List, [], ◌∷◌, ◌++◌, length, map, take, drop, Option, Some, None, refl, sym, ap, subst, ◌∙◌, length-append, length-drop, length-take, arith}
use Rattle.std.specs.Prelude.{unwrap_or}
use Rattle.std.specs.List.{flat_map}
use Rattle.std.specs.Int.{Width, w8, w16, w64, byte_len, from_be_bytes}
use Rattle.std.proofs.lemmas.Bool.{eqb-true, ltb-false, ltb-true}
use Rattle.std.proofs.lemmas.Bool.Decides.{nat_tests}
use Rattle.std.proofs.lemmas.List.{length-map}
use Rattle.std.proofs.lemmas.List.Concat.{flat_map-cons}
use Rattle.bk_base.specs.declared.genesis.Row.{Row}
use Rattle.bk_base.specs.declared.version.Version.{Version}
use Rattle.bk_base.specs.Feed.{Frame, FeedValue, IsFeed, frame_text, genesis_of}
use Rattle.bk_base.specs.Numbers.{◌>>=◌, number_at, list_at, bytes_at, is_ascending}
use Rattle.bk_base.proofs.FieldLemmas.{bind_some, guard_some, if_some, enough}
use Rattle.bk_base.proofs.Accounts.{and_true, genesis_few}
use Rattle.bk_base.specs.declared.version.Version.TheVariants.{One, Two}
use Rattle.bk_tx.specs.Access.{declared_ids, declares, receivers_in}
use Rattle.bk_tx.specs.declared.body.Body.{Body}
use Rattle.bk_tx.specs.declared.body.Body.TheVariants.{Pay, PayIf, Sweep, Split}
use Rattle.bk_tx.specs.declared.declared.Declared.{Declared}
use Rattle.bk_tx.specs.declared.payments.Payment.{Payment}
use Rattle.bk_tx.specs.Transaction.{Transaction}
use Rattle.bk_tx.specs.Spelling.{payments_of, receivers_of}
use Rattle.bk_tx.specs.Reading.{declared_at, declarations_at, pay_at, pay_if_at, sweep_at, payment_at, split_at, body_at, pays, transaction_of, text_at, texts_of}
use Rattle.bk_tx.specs.Batches.{is_batch, transactions_in, transactions_of, feed_transactions}
use Rattle.bk_rules.specs.declared.receipt.Status.{Status}
use Rattle.bk_rules.specs.declared.receipt.Status.TheVariants as status
use Rattle.bk_rules.specs.Rule.{Accounts, Change, balance_at, new_account, status_of, payments_on, receive, changes_of}
use Rattle.bk_rules.specs.Rows.{account_of, row_of, account_at, changed, rows_after, outcome_of}
use Rattle.bk_rules.specs.Fold.{state_after}
use Rattle.bk_rules.specs.Ledger.{Ledger, has_slot, has_slot_after, is_declared_by, IsPrepared}
use Rattle.bk_ledger.specs.Naming.{named_in, named_by}
use Rattle.bk_ledger.proofs.Runs.{feed_transactions-append, good_size}
use Rattle.bk_tx.specs.private.Counts.{is_count}

-- ---- rows

pub named-append : (xs ys : List (Option Transaction)) → named_by (xs ++ ys) ≡ named_by xs + named_by ys
named-append [] ys = omega arith
named-append (t ∷ xs) ys = omega (arith, named-append xs ys)

-- a change makes one account at most
changed_long : (c : Change) (rows : List Row) → length (changed c rows) ≤ 1 + length rows
changed_long c [] = omega arith
changed_long c (r ∷ rows) = by_tests (eqb r.id c.id) (ltb c.id r.id) (changed_long c rows)
  where
    by_tests : (e l : Bool) → length (changed c rows) ≤ 1 + length rows → length (cond e (row_of c.id (c.makes (account_of r)) ∷ rows) (cond l (row_of c.id (c.makes new_account) ∷ r ∷ rows) (r ∷ changed c rows))) ≤ 1 + length (r ∷ rows)
    by_tests true l h = omega arith
    by_tests false true h = omega arith
    by_tests false false h = omega (arith, h)

rows_long : (cs : List Change) (rows : List Row) → length (rows_after cs rows) ≤ length cs + length rows
rows_long [] rows = omega arith
rows_long (c ∷ cs) rows = omega (arith, rows_long cs (changed c rows), changed_long c rows)

payments_long : (balance : ℕ) (b : Body) → length (payments_of balance b) ≡ length (receivers_of b)
payments_long balance (Pay to amount) = refl
payments_long balance (PayIf to amount guard min) = refl
payments_long balance (Sweep to keep) = refl
payments_long balance (Split payments) = sym (length-map payments (λ (p : Payment). p.to))

changes_long : (s : Status) (accounts : Accounts) (t : Transaction) → length (changes_of s accounts t) ≤ 1 + length (receivers_of t.body)
changes_long status.Ok accounts t = omega (arith, payments_long (balance_at accounts t.from) t.body, length-map (payments_on accounts t) receive)
changes_long status.Malformed accounts t = omega arith
changes_long status.Undeclared accounts t = omega arith
changes_long status.Unknown accounts t = omega arith
changes_long status.Stale accounts t = omega arith
changes_long status.Guard accounts t = omega arith
changes_long status.Funds accounts t = omega arith

outcome_long : (v : Version) (t : Option Transaction) (rows : List Row) → length (outcome_of v t rows).after ≤ named_in t + length rows
outcome_long v None rows = omega arith
outcome_long v (Some t) rows = by_status (status_of v (account_at rows) t)
  where
    by_status : (s : Status) → length (rows_after (changes_of s (account_at rows) t) rows) ≤ 1 + length (receivers_of t.body) + length t.declared + length rows
    by_status s = omega (arith, rows_long (changes_of s (account_at rows) t) rows, changes_long s (account_at rows) t)

-- transactions make no more accounts than they name
pub state_long : (v : Version) (txs : List (Option Transaction)) (rows : List Row) → length (state_after v txs rows) ≤ named_by txs + length rows
state_long v [] rows = omega arith
state_long v (t ∷ txs) rows = omega (arith, state_long v txs (outcome_of v t rows).after, outcome_long v t rows)

-- ---- bytes

number_size : (w : Width) (bytes : List ℕ) (x : ℕ × List ℕ) → number_at w bytes ≡ Some x → length x.1 + byte_len w ≤ length bytes
number_size w bytes x e =
    let g = enough (ltb (length bytes) (byte_len w)) (from_be_bytes w (take (byte_len w) bytes), drop (byte_len w) bytes) x e in
    omega (arith, ltb-false _ _ g.0, ap (λ (p : ℕ × List ℕ). length p.1) g.1, length-drop (byte_len w) bytes)

-- items of a list take so many bytes each, at least
list_size : {A : Type 0} (item : List ℕ → Option (A × List ℕ)) (k : ℕ) → ((bytes : List ℕ) (x : A × List ℕ) → item bytes ≡ Some x → length x.1 + k ≤ length bytes)
    → (n : ℕ) (bytes : List ℕ) (x : List A × List ℕ) → list_at item n bytes ≡ Some x → k * length x.0 + length x.1 ≤ length bytes
unfolding list_at
list_size {A} item k size zero bytes x e = let same : ([], bytes) ≡ x = cc in subst (λ (y : List A × List ℕ). k * length y.0 + length y.1 ≤ length bytes) same (none_size k (length bytes))
  where
    none_size : (k n : ℕ) → k * 0 + n ≤ n
    none_size k n = omega arith
list_size {A} item k size (suc n) bytes x e =
    let a = bind_some (item bytes) (λ first. list_at item n first.1 >>= λ others. Some (first.0 ∷ others.0, others.1)) x e in
    let b = bind_some (list_at item n a.0.1) (λ others. Some (a.0.0 ∷ others.0, others.1)) x a.2 in
    let same : (a.0.0 ∷ b.0.0, b.0.1) ≡ x = cc in
    subst (λ (y : List A × List ℕ). k * length y.0 + length y.1 ≤ length bytes) same (one_more k (length b.0.0) (length b.0.1) (length a.0.1) (length bytes) (list_size item k size n a.0.1 b.0 b.1) (size bytes a.0 a.1))
  where
    one_more : (k n rest mid all : ℕ) → k * n + rest ≤ mid → mid + k ≤ all → k * suc n + rest ≤ all
    one_more k n rest mid all h l = omega (arith, h, l)

declared_size : (bytes : List ℕ) (x : Declared × List ℕ) → declared_at bytes ≡ Some x → length x.1 + 9 ≤ length bytes
unfolding declared_at
declared_size bytes x e =
    let a = bind_some (number_at w8 bytes) (λ mode. number_at w64 mode.1 >>= λ id. cond (leb mode.0 1) (Some (record { id = id.0; writable = eqb mode.0 1 }, id.1)) None) x e in
    let b = bind_some (number_at w64 a.0.1) (λ id. cond (leb a.0.0 1) (Some (record { id = id.0; writable = eqb a.0.0 1 }, id.1)) None) x a.2 in
    let c = if_some (leb a.0.0 1) (Some (record { id = b.0.0; writable = eqb a.0.0 1 }, b.0.1)) x b.2 in
    let same : (record { id = b.0.0; writable = eqb a.0.0 1 }, b.0.1) ≡ x = let e1 = c.1 in cc in
    omega (arith, number_size w8 bytes a.0 a.1, number_size w64 a.0.1 b.0 b.1, ap (λ (p : Declared × List ℕ). length p.1) same)

declarations_size : (bytes : List ℕ) (x : List Declared × List ℕ) → declarations_at bytes ≡ Some x → 9 * length x.0 + length x.1 + 1 ≤ length bytes
unfolding declarations_at
declarations_size bytes x e =
    let a = bind_some (number_at w8 bytes) (λ count. cond (is_count 8 count.0) (list_at declared_at count.0 count.1) None >>= λ entries. cond (is_ascending (declared_ids entries.0)) (Some entries) None) x e in
    let b = bind_some (cond (is_count 8 a.0.0) (list_at declared_at a.0.0 a.0.1) None) (λ entries. cond (is_ascending (declared_ids entries.0)) (Some entries) None) x a.2 in
    let c = if_some (is_count 8 a.0.0) (list_at declared_at a.0.0 a.0.1) b.0 b.1 in
    let g = guard_some (is_ascending (declared_ids b.0.0)) b.0 x b.2 in
    omega (arith, number_size w8 bytes a.0 a.1, list_size declared_at 9 declared_size a.0.0 a.0.1 b.0 c.1, ap (λ (p : List Declared × List ℕ). 9 * length p.0 + length p.1) g.1)

payment_size : (bytes : List ℕ) (x : Payment × List ℕ) → payment_at bytes ≡ Some x → length x.1 + 16 ≤ length bytes
unfolding payment_at
payment_size bytes x e =
    let a = bind_some (number_at w64 bytes) (λ to. number_at w64 to.1 >>= λ amount. Some (record { to = to.0; amount = amount.0 }, amount.1)) x e in
    let b = bind_some (number_at w64 a.0.1) (λ amount. Some (record { to = a.0.0; amount = amount.0 }, amount.1)) x a.2 in
    let same : (record { to = a.0.0; amount = b.0.0 }, b.0.1) ≡ x = cc in
    omega (arith, number_size w64 bytes a.0 a.1, number_size w64 a.0.1 b.0 b.1, ap (λ (p : Payment × List ℕ). length p.1) same)

pay_size : (bytes : List ℕ) (x : Body × List ℕ) → pay_at bytes ≡ Some x → 16 * length (receivers_of x.0) + length x.1 ≤ length bytes
unfolding pay_at
pay_size bytes x e =
    let a = bind_some (payment_at bytes) (λ payment. Some (Pay payment.0.to payment.0.amount, payment.1)) x e in
    let same : (Pay a.0.0.to a.0.0.amount, a.0.1) ≡ x = cc in
    omega (arith, payment_size bytes a.0 a.1, ap (λ (p : Body × List ℕ). 16 * length (receivers_of p.0) + length p.1) same)

pay_if_size : (bytes : List ℕ) (x : Body × List ℕ) → pay_if_at bytes ≡ Some x → 16 * length (receivers_of x.0) + length x.1 ≤ length bytes
unfolding pay_if_at
pay_if_size bytes x e =
    let a = bind_some (payment_at bytes) (λ payment. number_at w64 payment.1 >>= λ guard. number_at w64 guard.1 >>= λ min. Some (PayIf payment.0.to payment.0.amount guard.0 min.0, min.1)) x e in
    let b = bind_some (number_at w64 a.0.1) (λ guard. number_at w64 guard.1 >>= λ min. Some (PayIf a.0.0.to a.0.0.amount guard.0 min.0, min.1)) x a.2 in
    let c = bind_some (number_at w64 b.0.1) (λ min. Some (PayIf a.0.0.to a.0.0.amount b.0.0 min.0, min.1)) x b.2 in
    let same : (PayIf a.0.0.to a.0.0.amount b.0.0 c.0.0, c.0.1) ≡ x = cc in
    omega (arith, payment_size bytes a.0 a.1, number_size w64 a.0.1 b.0 b.1, number_size w64 b.0.1 c.0 c.1, ap (λ (p : Body × List ℕ). 16 * length (receivers_of p.0) + length p.1) same)

sweep_size : (bytes : List ℕ) (x : Body × List ℕ) → sweep_at bytes ≡ Some x → 16 * length (receivers_of x.0) + length x.1 ≤ length bytes
unfolding sweep_at
sweep_size bytes x e =
    let a = bind_some (number_at w64 bytes) (λ to. number_at w64 to.1 >>= λ keep. Some (Sweep to.0 keep.0, keep.1)) x e in
    let b = bind_some (number_at w64 a.0.1) (λ keep. Some (Sweep a.0.0 keep.0, keep.1)) x a.2 in
    let same : (Sweep a.0.0 b.0.0, b.0.1) ≡ x = cc in
    omega (arith, number_size w64 bytes a.0 a.1, number_size w64 a.0.1 b.0 b.1, ap (λ (p : Body × List ℕ). 16 * length (receivers_of p.0) + length p.1) same)

split_size : (bytes : List ℕ) (x : Body × List ℕ) → split_at bytes ≡ Some x → 16 * length (receivers_of x.0) + length x.1 ≤ length bytes
unfolding split_at
split_size bytes x e =
    let a = bind_some (number_at w8 bytes) (λ count. cond (is_count 6 count.0) (list_at payment_at count.0 count.1) None >>= λ payments. cond (is_ascending (receivers_in payments.0)) (Some (Split payments.0, payments.1)) None) x e in
    let b = bind_some (cond (is_count 6 a.0.0) (list_at payment_at a.0.0 a.0.1) None) (λ payments. cond (is_ascending (receivers_in payments.0)) (Some (Split payments.0, payments.1)) None) x a.2 in
    let c = if_some (is_count 6 a.0.0) (list_at payment_at a.0.0 a.0.1) b.0 b.1 in
    let g = guard_some (is_ascending (receivers_in b.0.0)) (Split b.0.0, b.0.1) x b.2 in
    omega (arith, number_size w8 bytes a.0 a.1, list_size payment_at 16 payment_size a.0.0 a.0.1 b.0 c.1, length-map b.0.0 (λ (p : Payment). p.to), ap (λ (p : Body × List ℕ). 16 * length (receivers_of p.0) + length p.1) g.1)

body_size : (kind : ℕ) (bytes : List ℕ) (x : Body × List ℕ) → body_at kind bytes ≡ Some x → 16 * length (receivers_of x.0) + length x.1 ≤ length bytes
unfolding body_at
body_size kind bytes x e = by_tests (eqb kind 1) (eqb kind 2) (eqb kind 3) (eqb kind 4) e
  where
    by_tests : (a b c d : Bool) → cond a (pay_at bytes) (cond b (pay_if_at bytes) (cond c (sweep_at bytes) (cond d (split_at bytes) None))) ≡ Some x → 16 * length (receivers_of x.0) + length x.1 ≤ length bytes
    by_tests true b c d e = pay_size bytes x e
    by_tests false true c d e = pay_if_size bytes x e
    by_tests false false true d e = sweep_size bytes x e
    by_tests false false false true e = split_size bytes x e
    by_tests false false false false e = absurd cc

-- a transaction takes eight bytes for each account that it names
transaction_size : (bytes : List ℕ) (t : Transaction) → transaction_of bytes ≡ Some t → 8 * named_in (Some t) ≤ length bytes
unfolding transaction_of
transaction_size bytes t e =
    let a = bind_some (number_at w8 bytes) (λ kind. declarations_at kind.1 >>= λ declared. number_at w64 declared.1 >>= λ seq. number_at w64 seq.1 >>= λ from. body_at kind.0 from.1 >>= λ body. cond (eqb (length body.1) 0 && not (pays body.0 from.0)) (Some (record { declared = declared.0; seq = seq.0; from = from.0; body = body.0 })) None) t e in
    let b = bind_some (declarations_at a.0.1) (λ declared. number_at w64 declared.1 >>= λ seq. number_at w64 seq.1 >>= λ from. body_at a.0.0 from.1 >>= λ body. cond (eqb (length body.1) 0 && not (pays body.0 from.0)) (Some (record { declared = declared.0; seq = seq.0; from = from.0; body = body.0 })) None) t a.2 in
    let c = bind_some (number_at w64 b.0.1) (λ seq. number_at w64 seq.1 >>= λ from. body_at a.0.0 from.1 >>= λ body. cond (eqb (length body.1) 0 && not (pays body.0 from.0)) (Some (record { declared = b.0.0; seq = seq.0; from = from.0; body = body.0 })) None) t b.2 in
    let d = bind_some (number_at w64 c.0.1) (λ from. body_at a.0.0 from.1 >>= λ body. cond (eqb (length body.1) 0 && not (pays body.0 from.0)) (Some (record { declared = b.0.0; seq = c.0.0; from = from.0; body = body.0 })) None) t c.2 in
    let f = bind_some (body_at a.0.0 d.0.1) (λ body. cond (eqb (length body.1) 0 && not (pays body.0 d.0.0)) (Some (record { declared = b.0.0; seq = c.0.0; from = d.0.0; body = body.0 })) None) t d.2 in
    let g = guard_some (eqb (length f.0.1) 0 && not (pays f.0.0 d.0.0)) (record { declared = b.0.0; seq = c.0.0; from = d.0.0; body = f.0.0 }) t f.2 in
    omega (arith, number_size w8 bytes a.0 a.1, declarations_size a.0.1 b.0 b.1, number_size w64 b.0.1 c.0 c.1, number_size w64 c.0.1 d.0 d.1, body_size a.0.0 d.0.1 f.0 f.1, ap (λ (u : Transaction). length u.declared) g.1, ap (λ (u : Transaction). length (receivers_of u.body)) g.1)

text_weight : (text : List ℕ) → 8 * named_in (transaction_of text) ≤ length text
text_weight text = found (transaction_of text) refl
  where
    found : (o : Option Transaction) → transaction_of text ≡ o → 8 * named_in o ≤ length text
    found None e = omega arith
    found (Some t) e = transaction_size text t e

text_size : (bytes : List ℕ) (x : List ℕ × List ℕ) → text_at bytes ≡ Some x → length x.0 + length x.1 ≤ length bytes
unfolding text_at
text_size bytes x e =
    let a = bind_some (number_at w16 bytes) (λ len. bytes_at len.0 len.1) x e in
    let g = enough (ltb (length a.0.1) a.0.0) (take a.0.0 a.0.1, drop a.0.0 a.0.1) x a.2 in
    omega (arith, number_size w16 bytes a.0 a.1, ltb-false _ _ g.0, ap (λ (p : List ℕ × List ℕ). length p.0) g.1, ap (λ (p : List ℕ × List ℕ). length p.1) g.1, length-take a.0.0 a.0.1, length-drop a.0.0 a.0.1)

texts_weight : (n : ℕ) (bytes : List ℕ) (x : List (List ℕ) × List ℕ) → list_at text_at n bytes ≡ Some x → 8 * named_by (map transaction_of x.0) + length x.1 ≤ length bytes
unfolding list_at
texts_weight zero bytes x e = let same : ([], bytes) ≡ x = cc in subst (λ (y : List (List ℕ) × List ℕ). 8 * named_by (map transaction_of y.0) + length y.1 ≤ length bytes) same (omega arith)
texts_weight (suc n) bytes x e =
    let a = bind_some (text_at bytes) (λ first. list_at text_at n first.1 >>= λ others. Some (first.0 ∷ others.0, others.1)) x e in
    let b = bind_some (list_at text_at n a.0.1) (λ others. Some (a.0.0 ∷ others.0, others.1)) x a.2 in
    let same : (a.0.0 ∷ b.0.0, b.0.1) ≡ x = cc in
    subst (λ (y : List (List ℕ) × List ℕ). 8 * named_by (map transaction_of y.0) + length y.1 ≤ length bytes) same (omega (arith, texts_weight n a.0.1 b.0 b.1, text_size bytes a.0 a.1, text_weight a.0.0))

-- a batch takes eight bytes for each account that its transactions name
pub batch_weight : (payload : List ℕ) → 8 * named_by (transactions_in payload) ≤ length payload
unfolding texts_of
batch_weight payload = found (texts_of payload) refl
  where
    found : (o : Option (List (List ℕ))) → texts_of payload ≡ o → 8 * named_by (map transaction_of (unwrap_or o [])) ≤ length payload
    found None e = omega arith
    found (Some texts) e =
        let a = bind_some (number_at w16 payload) (λ count. list_at text_at count.0 count.1 >>= λ x. cond (eqb (length x.1) 0) (Some x.0) None) texts e in
        let b = bind_some (list_at text_at a.0.0 a.0.1) (λ x. cond (eqb (length x.1) 0) (Some x.0) None) texts a.2 in
        let g = guard_some (eqb (length b.0.1) 0) b.0.0 texts b.2 in
        omega (arith, texts_weight a.0.0 a.0.1 b.0 b.1, number_size w16 payload a.0 a.1, ap (λ (ts : List (List ℕ)). named_by (map transaction_of ts)) g.1)

-- ---- a feed

feed_weight : (frames : List Frame) → 8 * named_by (feed_transactions frames) ≤ length (flat_map frame_text frames)
feed_weight [] = omega arith
feed_weight (f ∷ frames) =
    let len : length (flat_map frame_text (f ∷ frames)) ≡ length (frame_text f) + length (flat_map frame_text frames) = ap length (flat_map-cons frame_text f frames) ∙ length-append (frame_text f) (flat_map frame_text frames) in
    omega (arith, len, feed_weight frames, one f, ap named_by (feed_transactions-append (f ∷ []) frames), named-append (feed_transactions (f ∷ [])) (feed_transactions frames))
  where
    one : (f : Frame) → 8 * named_by (feed_transactions (f ∷ [])) ≤ length (frame_text f)
    one f = by_kind (is_batch f.kind)
      where
        by_kind : (b : Bool) → 8 * named_by (transactions_of (map (λ (g : Frame). g.payload) (cond b (f ∷ []) []))) ≤ length (frame_text f)
        by_kind true = omega (arith, batch_weight f.payload, ap named_by (flat_map-cons transactions_in f.payload []), named-append (transactions_in f.payload) [])
        by_kind false = omega arith

-- the transactions of a feed name fewer than 2^29 accounts
pub few_named : (feed : FeedValue) → IsFeed feed → named_by (feed_transactions feed.frames) < 2 ^ 29
few_named feed good = omega (arith, feed_weight feed.frames, good_size feed.version 0 4 feed.frames (omega arith) good.good)

-- and after them there are fewer than 2^30 accounts
pub few_rows : (feed : FeedValue) → IsFeed feed → length (state_after feed.version (feed_transactions feed.frames) (genesis_of feed.frames)) < 2 ^ 30
few_rows feed good = omega (arith, few_named feed good, state_long feed.version (feed_transactions feed.frames) (genesis_of feed.frames), genesis_few feed.frames)

-- ---- slots

clash : (x y : ℕ) → x ≡ y → eqb x y ≡ false → ⊥
clash x y same apart = grind (arith, nat_tests)

other : (x y : ℕ) → x < y → eqb x y ≡ false
other x y low = grind (arith, nat_tests)

itself : (x : ℕ) → eqb x x ≡ true
itself x = grind (arith, nat_tests)

-- all of these but the first that is x
abbrev without : ℕ → List ℕ → List ℕ
without x [] = []
without x (y ∷ ys) = cond (eqb y x) ys (y ∷ without x ys)

without_shorter : (x : ℕ) (ys : List ℕ) → has_slot ys x ≡ true → 1 + length (without x ys) ≡ length ys
without_shorter x [] h = absurd cc
without_shorter x (y ∷ ys) h = by_test (eqb y x) h (without_shorter x ys)
  where
    by_test : (b : Bool) → (b || has_slot ys x) ≡ true → (has_slot ys x ≡ true → 1 + length (without x ys) ≡ length ys) → 1 + length (cond b ys (y ∷ without x ys)) ≡ length (y ∷ ys)
    by_test true h go = omega arith
    by_test false h go = omega (arith, go h)

without_keeps : (x z : ℕ) (ys : List ℕ) → eqb x z ≡ false → has_slot ys z ≡ true → has_slot (without x ys) z ≡ true
without_keeps x z [] apart h = h
without_keeps x z (y ∷ ys) apart h = by_tests (eqb y x) (eqb y z) refl refl h (without_keeps x z ys apart)
  where
    by_tests : (a b : Bool) → a ≡ eqb y x → b ≡ eqb y z → (b || has_slot ys z) ≡ true → (has_slot ys z ≡ true → has_slot (without x ys) z ≡ true) → has_slot (cond a ys (y ∷ without x ys)) z ≡ true
    by_tests true true ea eb h go = absurd (clash x z (sym (eqb-true y x (sym ea)) ∙ eqb-true y z (sym eb)) apart)
    by_tests true false ea eb h go = h
    by_tests false true ea eb h go = ap (λ (b : Bool). b || has_slot (without x ys) z) (sym eb)
    by_tests false false ea eb h go = ap (λ (b : Bool). b || has_slot (without x ys) z) (sym eb) ∙ go h

above : (x z : ℕ) (xs : List ℕ) → is_ascending (x ∷ xs) ≡ true → has_slot xs z ≡ true → x < z
above x z [] up h = absurd cc
above x z (y ∷ ys) up h =
    let both = and_true (ltb x y) (is_ascending (y ∷ ys)) up in
    by_test (eqb y z) refl h (ltb-true x y both.0) (above y z ys both.1)
  where
    by_test : (b : Bool) → b ≡ eqb y z → (b || has_slot ys z) ≡ true → x < y → (has_slot ys z ≡ true → y < z) → x < z
    by_test true e h low go = let same : y ≡ z = eqb-true y z (sym e) in omega (arith, same, low)
    by_test false e h low go = omega (arith, low, go h)

tail_ascends : (x : ℕ) (xs : List ℕ) → is_ascending (x ∷ xs) ≡ true → is_ascending xs ≡ true
tail_ascends x [] up = refl
tail_ascends x (y ∷ ys) up = (and_true (ltb x y) (is_ascending (y ∷ ys)) up).1

or_right : (a b : Bool) → b ≡ true → (a || b) ≡ true
or_right true b h = refl
or_right false b h = h

-- ascending numbers that are all among others are no more than these
within_long : (xs ys : List ℕ) → is_ascending xs ≡ true → ((z : ℕ) → has_slot xs z ≡ true → has_slot ys z ≡ true) → length xs ≤ length ys
within_long [] ys up h = omega arith
within_long (x ∷ xs) ys up h =
    let here : has_slot ys x ≡ true = h x (ap (λ (b : Bool). b || has_slot xs x) (itself x)) in
    let rest = within_long xs (without x ys) (tail_ascends x xs up) (λ z g. without_keeps x z ys (other x z (above x z xs up g)) (h z (or_right (eqb x z) (has_slot xs z) g))) in
    omega (arith, rest, without_shorter x ys here)

-- the ids that transactions declare
abbrev declared_by : List (Option Transaction) → List ℕ
declared_by [] = []
declared_by (None ∷ txs) = declared_by txs
declared_by (Some t ∷ txs) = declared_ids t.declared ++ declared_by txs

declared_long : (txs : List (Option Transaction)) → length (declared_by txs) ≤ named_by txs
declared_long [] = omega arith
declared_long (None ∷ txs) = omega (arith, declared_long txs)
declared_long (Some t ∷ txs) = omega (arith, declared_long txs, length-append (declared_ids t.declared) (declared_by txs), length-map t.declared (λ (d : Declared). d.id))

has-append : (xs ys : List ℕ) (z : ℕ) → has_slot (xs ++ ys) z ≡ (has_slot xs z || has_slot ys z)
has-append [] ys z = refl
has-append (x ∷ xs) ys z = by_test (eqb x z) (has-append xs ys z)
  where
    by_test : (b : Bool) → has_slot (xs ++ ys) z ≡ (has_slot xs z || has_slot ys z) → (b || has_slot (xs ++ ys) z) ≡ ((b || has_slot xs z) || has_slot ys z)
    by_test true e = refl
    by_test false e = e

has_declared : (ds : List Declared) (z : ℕ) → declares ds z ≡ has_slot (declared_ids ds) z
has_declared [] z = refl
has_declared (d ∷ ds) z = ap (λ (b : Bool). eqb d.id z || b) (has_declared ds z)

has_declared_by : (txs : List (Option Transaction)) (z : ℕ) → is_declared_by txs z ≡ has_slot (declared_by txs) z
has_declared_by [] z = refl
has_declared_by (None ∷ txs) z = has_declared_by txs z
has_declared_by (Some t ∷ txs) z = (λ i. has_declared t.declared z i || has_declared_by txs z i) ∙ sym (has-append (declared_ids t.declared) (declared_by txs) z)

slot_after : (v : Version) (slots : List ℕ) (txs : List (Option Transaction)) (z : ℕ) → has_slot_after v slots txs z ≡ true → has_slot (slots ++ declared_by txs) z ≡ true
slot_after One slots txs z h = has-append slots (declared_by txs) z ∙ ap (λ (b : Bool). b || has_slot (declared_by txs) z) h
slot_after Two slots txs z h = has-append slots (declared_by txs) z ∙ ap (λ (b : Bool). has_slot slots z || b) (sym (has_declared_by txs z)) ∙ h

-- slots that are made for transactions are no more than the accounts that these name
pub slots_long : (txs : List (Option Transaction)) (old new : Ledger) → IsPrepared txs old new → length new.slots ≤ length old.slots + named_by txs
slots_long txs old new p =
    let long = within_long new.slots (old.slots ++ declared_by txs) p.ascending (λ z h. slot_after old.version old.slots txs z (sym (p.slots z) ∙ h)) in
    omega (arith, long, length-append old.slots (declared_by txs), declared_long txs)
