-- How the bytes of a certificate are read: what they encode, or nothing.
use Rattle.std.specs.Prelude.{ℕ, ◌*◌, List, length, Option, Some, None, nat_le, ◌==◌, if◌then◌else◌}
use Rattle.std.specs.Simd.{first_chunks}
use Rattle.std.specs.Int.{w8, w16, w32}
use Rattle.bk_base.specs.Numbers.{◌>>=◌, number_at, bytes_at}
use Rattle.bk_cert.specs.Values.{HeaderValue, CertValue}
use Rattle.bk_cert.specs.Mask.{signers_of}

-- this many digests at the front, and the bytes after them
unfoldable pub digests_at : ℕ → List ℕ → Option (List (List ℕ) × List ℕ)
digests_at n bytes = do
  run ← bytes_at (32 * n) bytes
  Some (first_chunks 32 n run.0, run.1)

-- a header at the front, and the bytes after it
unfoldable pub header_at : List ℕ → Option (HeaderValue × List ℕ)
header_at bytes = do
  author ← number_at w8 bytes
  round ← number_at w32 author.1
  batch_count ← number_at w16 round.1
  batches ← (if nat_le batch_count.0 1000 then digests_at batch_count.0 batch_count.1 else None)
  parent_count ← number_at w8 batches.1
  parents ← (if nat_le parent_count.0 128 then digests_at parent_count.0 parent_count.1 else None)
  Some (record { author = author.0; round = round.0; batches = batches.0; parents = parents.0 }, parents.1)

-- the certificate that the bytes encode, all of them
unfoldable pub certificate_of : List ℕ → Option CertValue
certificate_of bytes = do
  header ← header_at bytes
  mask ← bytes_at 16 header.1
  tags ← digests_at (length (signers_of mask.0)) mask.1
  if length tags.1 == 0 then Some (record { header = header.0; mask = mask.0; tags = tags.0 }) else None
