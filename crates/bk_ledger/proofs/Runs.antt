-- Batches of a feed, one frame after another, and how many transactions they can hold.
use Rattle.std.proofs.Common.{◌≡◌, ℕ, zero, suc, ◌+◌, ◌*◌, ◌^◌, ◌<◌, ◌≤◌, Bool, true, false, cond, ltb, eqb, List, [], ◌∷◌, ◌++◌, length, map, take, drop, Option, Some, None, refl, sym, ap, subst, ◌∙◌, length-append, length-drop, arith}
use Rattle.std.specs.Prelude.{slice_get, filter, unwrap_or}
use Rattle.std.specs.List.{flat_map}
use Rattle.std.specs.Int.{w16, from_be_bytes}
use Rattle.std.proofs.lemmas.Bool.{ltb-false}
use Rattle.std.proofs.lemmas.List.{length-map, map-append}
use Rattle.std.proofs.lemmas.List.Concat.{flat_map-append, flat_map-cons}
use Rattle.bk_base.specs.declared.limits.TheConstants.{MOST_FEED}
use Rattle.bk_base.specs.declared.version.Version.{Version}
use Rattle.bk_base.specs.Feed.{Frame, FeedValue, frame_text, AreGoodFrom, IsFeed}
use Rattle.bk_base.specs.Numbers.{◌>>=◌, number_at, list_at, bytes_at}
use Rattle.bk_base.proofs.FieldLemmas.{bind_some, guard_some}
use Rattle.bk_tx.specs.Reading.{transaction_of, text_at, texts_of}
use Rattle.bk_tx.specs.Batches.{is_batch, payloads_of, transactions_in, transactions_of, feed_transactions, count_in}

-- ---- frames in two parts

pub payloads_of-append : (xs ys : List Frame) → payloads_of (xs ++ ys) ≡ payloads_of xs ++ payloads_of ys
payloads_of-append [] ys = refl
payloads_of-append (f ∷ xs) ys = by_kind (is_batch f.kind) (payloads_of-append xs ys)
  where
    by_kind : (b : Bool) → payloads_of (xs ++ ys) ≡ payloads_of xs ++ payloads_of ys
        → map (λ (g : Frame). g.payload) (cond b (f ∷ filter (λ (g : Frame). is_batch g.kind) (xs ++ ys)) (filter (λ (g : Frame). is_batch g.kind) (xs ++ ys)))
        ≡ map (λ (g : Frame). g.payload) (cond b (f ∷ filter (λ (g : Frame). is_batch g.kind) xs) (filter (λ (g : Frame). is_batch g.kind) xs)) ++ payloads_of ys
    by_kind true others = ap (λ (t : List (List ℕ)). f.payload ∷ t) others
    by_kind false others = others

pub feed_transactions-append : (xs ys : List Frame) → feed_transactions (xs ++ ys) ≡ feed_transactions xs ++ feed_transactions ys
feed_transactions-append xs ys = ap transactions_of (payloads_of-append xs ys) ∙ flat_map-append transactions_in (payloads_of xs) (payloads_of ys)

-- one frame more of a list
pub take_next : {A : Type 0} (xs : List A) (i : ℕ) (a : A) → slice_get xs i ≡ Some a → take (i + 1) xs ≡ take i xs ++ a ∷ []
take_next [] i a e = absurd cc
take_next (x ∷ xs) zero a e = let same : x ≡ a = cc in ap (λ b. b ∷ []) same
take_next (x ∷ xs) (suc i) a e = let k : suc i + 1 ≡ suc (i + 1) = omega arith in rw k (ap (λ t. x ∷ t) (take_next xs i a e))

-- ---- sizes

enough : {A : Type 0} (b : Bool) (x y : A) → cond b None (Some x) ≡ Some y → (b ≡ false) × (x ≡ y)
enough true x y e = absurd cc
enough false x y e = (refl, cc)

-- a number of two bytes and the bytes after it
number_size : (bytes : List ℕ) (x : ℕ × List ℕ) → number_at w16 bytes ≡ Some x → length x.1 + 2 ≤ length bytes
number_size bytes x e =
    let g = enough (ltb (length bytes) 2) (from_be_bytes w16 (take 2 bytes), drop 2 bytes) x e in
    omega (arith, ltb-false _ _ g.0, ap (λ (p : ℕ × List ℕ). length p.1) g.1, length-drop 2 bytes)

rest_size : (n : ℕ) (bytes : List ℕ) (x : List ℕ × List ℕ) → bytes_at n bytes ≡ Some x → length x.1 ≤ length bytes
rest_size n bytes x e =
    let g = enough (ltb (length bytes) n) (take n bytes, drop n bytes) x e in
    omega (arith, ap (λ (p : List ℕ × List ℕ). length p.1) g.1, length-drop n bytes)

text_size : (bytes : List ℕ) (x : List ℕ × List ℕ) → text_at bytes ≡ Some x → length x.1 + 2 ≤ length bytes
unfolding text_at
text_size bytes x e =
    let a = bind_some (number_at w16 bytes) (λ len. bytes_at len.0 len.1) x e in
    omega (arith, number_size bytes a.0 a.1, rest_size a.0.0 a.0.1 x a.2)

-- so many texts take two bytes each at least
texts_size : (n : ℕ) (bytes : List ℕ) (x : List (List ℕ) × List ℕ) → list_at text_at n bytes ≡ Some x → 2 * length x.0 + length x.1 ≤ length bytes
unfolding list_at
texts_size zero bytes x e = let same : ([], bytes) ≡ x = cc in subst (λ (y : List (List ℕ) × List ℕ). 2 * length y.0 + length y.1 ≤ length bytes) same (omega arith)
texts_size (suc n) bytes x e =
    let a = bind_some (text_at bytes) (λ first. list_at text_at n first.1 >>= λ others. Some (first.0 ∷ others.0, others.1)) x e in
    let b = bind_some (list_at text_at n a.0.1) (λ others. Some (a.0.0 ∷ others.0, others.1)) x a.2 in
    let same : (a.0.0 ∷ b.0.0, b.0.1) ≡ x = cc in
    subst (λ (y : List (List ℕ) × List ℕ). 2 * length y.0 + length y.1 ≤ length bytes) same (omega (arith, texts_size n a.0.1 b.0 b.1, text_size bytes a.0 a.1))

batch_size : (payload : List ℕ) (texts : List (List ℕ)) → texts_of payload ≡ Some texts → 2 * length texts ≤ length payload
unfolding texts_of
batch_size payload texts e =
    let a = bind_some (number_at w16 payload) (λ count. list_at text_at count.0 count.1 >>= λ x. cond (eqb (length x.1) 0) (Some x.0) None) texts e in
    let b = bind_some (list_at text_at a.0.0 a.0.1) (λ x. cond (eqb (length x.1) 0) (Some x.0) None) texts a.2 in
    let g = guard_some (eqb (length b.0.1) 0) b.0.0 texts b.2 in
    omega (arith, texts_size a.0.0 a.0.1 b.0 b.1, number_size payload a.0 a.1, ap length g.1)

-- a batch holds at most a transaction for two bytes
pub transactions_size : (payload : List ℕ) → 2 * length (transactions_in payload) ≤ length payload
transactions_size payload = found (texts_of payload) refl
  where
    found : (o : Option (List (List ℕ))) → texts_of payload ≡ o → 2 * length (map transaction_of (unwrap_or o [])) ≤ length payload
    found None e = omega arith
    found (Some texts) e = omega (arith, batch_size payload texts e, length-map texts transaction_of)

-- the frames of a feed hold at most a transaction for two bytes, and a batch for five
pub feed_size : (frames : List Frame) → (2 * length (feed_transactions frames) ≤ length (flat_map frame_text frames)) × (5 * length (payloads_of frames) ≤ length (flat_map frame_text frames))
feed_size [] = (omega arith, omega arith)
feed_size (f ∷ frames) =
    let others = feed_size frames in
    let len : length (flat_map frame_text (f ∷ frames)) ≡ length (frame_text f) + length (flat_map frame_text frames) = ap length (flat_map-cons frame_text f frames) ∙ length-append (frame_text f) (flat_map frame_text frames) in
    let transactions = feed_transactions-append (f ∷ []) frames in
    let payloads = payloads_of-append (f ∷ []) frames in
    (omega (arith, len, others.0, one_transactions f, ap length transactions, length-append (feed_transactions (f ∷ [])) (feed_transactions frames)), omega (arith, len, others.1, one_payload f, ap length payloads, length-append (payloads_of (f ∷ [])) (payloads_of frames)))
  where
    one_transactions : (f : Frame) → 2 * length (feed_transactions (f ∷ [])) ≤ length (frame_text f)
    one_transactions f = by_kind (is_batch f.kind)
      where
        by_kind : (b : Bool) → 2 * length (transactions_of (map (λ (g : Frame). g.payload) (cond b (f ∷ []) []))) ≤ length (frame_text f)
        by_kind true = omega (arith, transactions_size f.payload, ap length (flat_map-cons transactions_in f.payload []), length-append (transactions_in f.payload) [])
        by_kind false = omega arith

    one_payload : (f : Frame) → 5 * length (payloads_of (f ∷ [])) ≤ length (frame_text f)
    one_payload f = by_kind (is_batch f.kind)
      where
        by_kind : (b : Bool) → 5 * length (map (λ (g : Frame). g.payload) (cond b (f ∷ []) [])) ≤ length (frame_text f)
        by_kind true = omega arith
        by_kind false = omega arith

-- good frames end inside the largest feed
pub good_size : (v : Version) (index offset : ℕ) (frames : List Frame) → offset ≤ MOST_FEED → AreGoodFrom v index offset frames → offset + length (flat_map frame_text frames) ≤ MOST_FEED
good_size v index offset [] le good = omega arith
good_size v index offset (f ∷ frames) le good =
    let len : length (flat_map frame_text (f ∷ frames)) ≡ length (frame_text f) + length (flat_map frame_text frames) = ap length (flat_map-cons frame_text f frames) ∙ length-append (frame_text f) (flat_map frame_text frames) in
    omega (arith, len, good_size v (index + 1) (offset + length (frame_text f)) frames good.0.framed.inside good.1)

good_take : (v : Version) (index offset k : ℕ) (frames : List Frame) → AreGoodFrom v index offset frames → AreGoodFrom v index offset (take k frames)
good_take v index offset zero frames good = tt
good_take v index offset (suc k) [] good = tt
good_take v index offset (suc k) (f ∷ frames) good = (good.0, good_take v (index + 1) (offset + length (frame_text f)) k frames good.1)

-- a feed holds fewer than 2^31 transactions, and so does its beginning
pub few_transactions : (feed : FeedValue) (k : ℕ) → IsFeed feed → length (feed_transactions (take k feed.frames)) < 2 ^ 31
few_transactions feed k good =
    let size = feed_size (take k feed.frames) in
    omega (arith, size.0, good_size feed.version 0 4 (take k feed.frames) (omega arith) (good_take feed.version 0 4 k feed.frames good.good))

pub few_feed_transactions : (feed : FeedValue) → IsFeed feed → length (feed_transactions feed.frames) < 2 ^ 31
few_feed_transactions feed good = let size = feed_size feed.frames in omega (arith, size.0, good_size feed.version 0 4 feed.frames (omega arith) good.good)

-- and fewer than 2^30 batches
pub few_batches : (feed : FeedValue) → IsFeed feed → length (payloads_of feed.frames) < 2 ^ 30
few_batches feed good = let size = feed_size feed.frames in omega (arith, size.1, good_size feed.version 0 4 feed.frames (omega arith) good.good)

-- ---- one frame more of a run

pub counts_next : (frames : List Frame) (i : ℕ) (f : Frame) (old new : List (Option ℕ)) → slice_get frames i ≡ Some f → old ≡ map count_in (payloads_of (take i frames)) → new ≡ old ++ map count_in (payloads_of (f ∷ []))
    → new ≡ map count_in (payloads_of (take (i + 1) frames))
counts_next frames i f old new e before grown =
    grown ∙ ap (λ (t : List (Option ℕ)). t ++ map count_in (payloads_of (f ∷ []))) before ∙ sym (map-append count_in (payloads_of (take i frames)) (payloads_of (f ∷ []))) ∙ ap (map count_in) (sym (payloads_of-append (take i frames) (f ∷ [])) ∙ ap payloads_of (sym (take_next frames i f e)))

pub transactions_next : (frames : List Frame) (i : ℕ) (f : Frame) → slice_get frames i ≡ Some f → feed_transactions (take (i + 1) frames) ≡ feed_transactions (take i frames) ++ feed_transactions (f ∷ [])
transactions_next frames i f e = ap feed_transactions (take_next frames i f e) ∙ feed_transactions-append (take i frames) (f ∷ [])

-- the payloads of batches, with one frame more
pub payloads_next : (frames : List Frame) (i : ℕ) (f : Frame) (old new : List (List ℕ)) → slice_get frames i ≡ Some f → old ≡ payloads_of (take i frames) → new ≡ old ++ payloads_of (f ∷ []) → new ≡ payloads_of (take (i + 1) frames)
payloads_next frames i f old new e before grown =
    grown ∙ ap (λ (ps : List (List ℕ)). ps ++ payloads_of (f ∷ [])) before ∙ sym (ap payloads_of (take_next frames i f e) ∙ payloads_of-append (take i frames) (f ∷ []))
