-- The transactions of the batches of a feed.
use Rattle.std.specs.Prelude.{ℕ, Bool, true, false, List, [], length, map, filter, Option, option_map, unwrap_or}
use Rattle.std.specs.List.{flat_map}
use Rattle.bk_base.specs.declared.kind.Kind.{Kind}
use Rattle.bk_base.specs.declared.kind.Kind.TheVariants as kind
use Rattle.bk_base.specs.Feed.{Frame}
use Rattle.bk_tx.specs.Transaction.{Transaction}
use Rattle.bk_tx.specs.Reading.{transaction_of, texts_of}

-- a frame of a batch
abbrev pub is_batch : Kind → Bool
is_batch kind.Batch = true
is_batch other = false

-- the payloads of the batches of a feed, in feed order, repeated ones too
abbrev pub payloads_of : List Frame → List (List ℕ)
payloads_of frames = map (λ (f : Frame). f.payload) (filter (λ (f : Frame). is_batch f.kind) frames)

-- the transactions of a batch, none where it is void; a text that is no transaction is None
abbrev pub transactions_in : List ℕ → List (Option Transaction)
transactions_in payload = map transaction_of (unwrap_or (texts_of payload) [])

-- the transactions of batches, one batch after another; a place is an index in this list
abbrev pub transactions_of : List (List ℕ) → List (Option Transaction)
transactions_of payloads = flat_map (λ payload. map transaction_of (unwrap_or (texts_of payload) [])) payloads

-- how many transactions a batch holds, None where it is void
abbrev pub count_in : List ℕ → Option ℕ
count_in payload = option_map length (texts_of payload)

-- the transactions of a feed, in feed order
abbrev pub feed_transactions : List Frame → List (Option Transaction)
feed_transactions frames = transactions_of (payloads_of frames)
