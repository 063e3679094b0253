-- What the lines before say: all that the meaning of a line can depend on.
use Rattle.std.specs.Prelude.{ℕ, ◌+◌, Bool, false, List, [], ◌∷◌, ◌++◌, nat_le, ◌&&◌, not, if◌then◌else◌, Option, Some, None, Result, Ok, Err, slice_index_or, is_some}
use Rattle.std.specs.List.{position}
use Rattle.std.specs.Str.{bytes_eq}
use Rattle.sha2.specs.Sha256.{sha256}
use Rattle.bk_base.specs.declared.limits.TheConstants.{MOST_FEED}
use Rattle.bk_base.specs.declared.version.Version.{Version}
use Rattle.bk_base.specs.declared.version.Version.TheVariants as version
use Rattle.bk_base.specs.declared.kind.Kind.{Kind}
use Rattle.bk_base.specs.declared.kind.Kind.TheVariants as kind
use Rattle.bk_base.specs.declared.genesis.Row.{Row}
use Rattle.bk_base.specs.Feed.{frame_of, frame_text}
use Rattle.bk_tx.specs.Spelling.{batch_text}
use Rattle.bk_cert.specs.Values.{HeaderValue}
use Rattle.bk_results.specs.declared.script_fault.ScriptCode.{ScriptCode}
use Rattle.bk_results.specs.declared.script_fault.ScriptCode.TheVariants as code
use Rattle.bk_script.specs.Words.{is_name, digest_of}

-- a name, and the digest of the batch or the id of the certificate that it stands for
pub record NamedValue : Type 0 where
  pub name : List ℕ
  pub digest : List ℕ

-- a batch whose lines go on: its name, and the texts of its transactions so far
pub record OpenValue : Type 0 where
  pub name : List ℕ
  pub texts : List (List ℕ)

-- What the lines so far say. `versioned`: there was a `version` line. `weights`: of the members, once there was a
-- `members` line. `late`: there was a `batch` or a `cert` line. `accounts`: by ascending id. `headers`: of the named
-- certificates. `batch`: the one that goes on. `body`: the bytes of the frames after genesis that are complete.
-- `size`: how many bytes the feed has so far, the open batch with it.
pub record Known : Type 0 where
  pub version : Version
  pub versioned : Bool
  pub weights : Option (List ℕ)
  pub late : Bool
  pub accounts : List Row
  pub batches : List NamedValue
  pub certs : List NamedValue
  pub headers : List HeaderValue
  pub batch : Option OpenValue
  pub body : List ℕ
  pub size : ℕ

-- before the first line
abbrev pub nothing_known : Known
nothing_known = record { version = version.One; versioned = false; weights = None; late = false; accounts = []; batches = []; certs = []; headers = []; batch = None; body = []; size = 0 }

-- ---- names

-- where a name is
abbrev pub place_of : List NamedValue → List ℕ → Option ℕ
place_of named name = position (λ (n : NamedValue). bytes_eq n.name name) named

-- stands for nothing
abbrev pub nobody : NamedValue
nobody = record { name = []; digest = [] }

-- what is found at a place, and else a fault of the name
abbrev pub found_at : List NamedValue → Option ℕ → Result (List ℕ) ScriptCode
found_at named None = Err code.Name
found_at named (Some place) = Ok ((slice_index_or named place nobody).digest)

-- a digest as it is written, and else what the name stands for
abbrev pub digest_or_named : List NamedValue → Option (List ℕ) → List ℕ → Result (List ℕ) ScriptCode
digest_or_named named (Some digest) item = Ok digest
digest_or_named named None item = found_at named (place_of named item)

-- what an item of a list of names and digests stands for
unfoldable pub meant_by : List NamedValue → List ℕ → Result (List ℕ) ScriptCode
meant_by named item = digest_or_named named (digest_of item) item

-- a name of a good form that stands for nothing so far
unfoldable pub is_new_name : List NamedValue → List ℕ → Bool
is_new_name named name = is_name name && not (is_some (place_of named name))

-- ---- the size

-- this many bytes more, where the feed can have them
unfoldable pub grown : Known → ℕ → Result Known ScriptCode
grown k bytes = if nat_le (k.size + bytes) MOST_FEED then Ok (record k { size = k.size + bytes }) else Err code.Range

-- ---- batches

-- one frame more, complete
abbrev pub with_frame : Known → Kind → List ℕ → Known
with_frame k kind payload = record k { body = k.body ++ frame_text (frame_of kind payload) }

-- the batch that goes on, ended
abbrev pub ended : Known → Option OpenValue → Known
ended k None = k
ended k (Some one) =
    record k {
      batch = None;
      batches = k.batches ++ record { name = one.name; digest = sha256 (batch_text one.texts) } ∷ [];
      body = k.body ++ frame_text (frame_of kind.Batch (batch_text one.texts));
    }

-- no batch goes on
unfoldable pub closed : Known → Known
closed k = ended k k.batch
