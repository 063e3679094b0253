-- A certificate as its graph knows it: a header under its id.
use Rattle.std.specs.Prelude.{ℕ, List}
use Rattle.bk_cert.specs.Values.{HeaderValue}
use Rattle.bk_cert.specs.Identity.{id_of}

-- an id of 32 bytes, and the header that it names
pub record Node : Type 0 where
  pub id : List ℕ
  pub header : HeaderValue

-- the certificate of these parts
abbrev pub node_with : List ℕ → HeaderValue → Node
node_with id header = record { id = id; header = header }

-- a header under its own id
abbrev pub with_id : HeaderValue → Node
with_id header = record { id = id_of header; header = header }
