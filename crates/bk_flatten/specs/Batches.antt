-- The batches of an order of certificates.
use Rattle.std.specs.Prelude.{◌≡◌, ℕ, Bool, List, [], ◌∷◌, length, map, slice_get, slice_index_or, Option, Some, None, IfSome, option_map, unwrap_or, filter, not, ◌==◌, ◌&&◌}
use Rattle.std.specs.List.{flat_map, find, position}
use Rattle.std.specs.Str.{bytes_eq}
use Rattle.bk_cert.specs.Node.{Node}
use Rattle.bk_cert.specs.declared.place.CertRef.{CertRef}
use Rattle.bk_evidence.specs.declared.batches.BatchRef.{BatchRef}
use Rattle.bk_evidence.specs.Batches.{Batch, batch_with, has_digest, payload_of}

-- the certificate is of this place
abbrev pub stands : CertRef → Node → Bool
stands a c = (c.header.round == a.round) && (c.header.author == a.author)

-- the batches that the certificate at a place names, in its order
abbrev pub named_at : List Node → CertRef → List (List ℕ)
named_at held a = unwrap_or (option_map (λ (c : Node). c.header.batches)
    (find (λ (c : Node). (c.header.round == a.round) && (c.header.author == a.author)) held)) []

-- digests in their order, without later repeats
abbrev pub once : List (List ℕ) → List (List ℕ)
once [] = []
once (d ∷ more) = d ∷ filter (λ e. not (bytes_eq d e)) (once more)

-- payloads, and the digest at which they end because nothing is held under it
pub record Payloads : Type 0 where
  pub list : List (List ℕ)
  pub missing : Option (List ℕ)

-- these payloads after the one of a digest; nothing more where none is held under the digest
abbrev pub cons_payload : Option (List ℕ) → List ℕ → Payloads → Payloads
cons_payload None digest rest = record { list = []; missing = Some digest }
cons_payload (Some payload) digest rest = record { list = payload ∷ rest.list; missing = rest.missing }

-- the payloads of these digests, before the first that is missing
abbrev pub before_missing : List Batch → List (List ℕ) → Payloads
before_missing batches [] = record { list = []; missing = None }
before_missing batches (d ∷ more) = cons_payload (payload_of batches d) d (before_missing batches more)

-- the digests that an order of certificates names, each once
abbrev pub digests_of : List Node → List CertRef → List (List ℕ)
digests_of held order = once (flat_map (named_at held) order)

-- the payloads of the batches that an order names, before the first that is missing
abbrev pub batches_of : List Node → List Batch → List CertRef → Payloads
batches_of held batches order = before_missing batches (once (flat_map (named_at held) order))

-- ---- the list that is kept from step to step

-- digests in their order, each once, and where the batches of the first of them are held
pub record Listed : Type 0 where
  pub digests : List (List ℕ)
  pub found : List BatchRef

-- the list of these digests, where the batches of the first are found
abbrev pub listed_with : List (List ℕ) → List BatchRef → Listed
listed_with digests found = record { digests = digests; found = found }

-- each of the first digests has its batch where the list says
abbrev pub AreFound : List Batch → List (List ℕ) → List BatchRef → Type 0
AreFound batches digests [] = Unit {0}
AreFound batches [] (b ∷ found) = ⊥
AreFound batches (d ∷ digests) (b ∷ found) =
    (position (has_digest d) batches ≡ Some b.index) × AreFound batches digests found

-- the batches of the first digests are found, as many as there are before the first that is not held
pub record IsFoundWhole (batches : List Batch) (l : Listed) : Type 0 where
  pub found : AreFound batches l.digests l.found
  pub ends : IfSome (slice_get l.digests (length l.found)) (λ d. payload_of batches d ≡ None)

-- the payload of a batch
abbrev pub payload_at : List Batch → BatchRef → List ℕ
payload_at batches b = (slice_index_or batches b.index (batch_with [] [])).payload

-- the payloads of the batches that are found, and the digest of the first that is not held
abbrev pub payloads_of : List Batch → Listed → Payloads
payloads_of batches l = record {
  list = map (payload_at batches) l.found;
  missing = slice_get l.digests (length l.found);
}
