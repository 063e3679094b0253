-- What each line of a script means: what is known after it, or what is wrong with it.
use Rattle.std.specs.Prelude.{ℕ, ◌+◌, ◌*◌, ◌^◌, Bool, true, List, [], ◌∷◌, ◌++◌, length, drop, replicate, nat_le, nat_lt, ◌==◌, ◌&&◌, not, if◌then◌else◌, Option, Some, None, is_some, Result, Ok, Err, slice_index_or, slice_get, unwrap_or}
use Rattle.std.specs.List.{list_all, list_any, insert, position_or_len}
use Rattle.std.specs.Cmp.Lexicographic.{slice_cmp}
use Rattle.std.specs.Ordering.{nat_cmp}
use Rattle.std.specs.declared.cmp.Ordering.{Ordering}
use Rattle.std.specs.declared.cmp.Ordering.TheVariants.{Less, Equal, Greater}
use Rattle.bk_base.specs.declared.limits.TheConstants.{MOST_ACCOUNTS}
use Rattle.bk_base.specs.declared.version.Version.TheVariants as version
use Rattle.bk_base.specs.declared.kind.Kind.TheVariants as kind
use Rattle.bk_base.specs.declared.genesis.Row.{Row}
use Rattle.bk_base.specs.Genesis.{total_of}
use Rattle.bk_committee.specs.Payload.{member_size}
use Rattle.bk_cert.specs.Values.{HeaderValue, header_with}
use Rattle.bk_cert.specs.Identity.{id_of}
use Rattle.bk_results.specs.declared.script_fault.ScriptCode.{ScriptCode}
use Rattle.bk_results.specs.declared.script_fault.ScriptCode.TheVariants as code
use Rattle.bk_script.specs.declared.line.Keyword.{Keyword}
use Rattle.bk_script.specs.declared.line.Keyword.TheVariants as keyword
use Rattle.bk_script.specs.Codes.{◌>>=◌}
use Rattle.bk_script.specs.Words.{number_of, numbers_of, list_of, hex_of, each_of}
use Rattle.bk_script.specs.Lines.{is_skipped, is_ascii, words_of, kind_of}
use Rattle.bk_script.specs.Known.{Known, place_of, meant_by, is_new_name, grown, with_frame, closed}
use Rattle.bk_script.specs.Transactions.{line_text, with_text}
use Rattle.bk_script.specs.Sealing.{sealed}

-- the word at a place of a line, the first being 0
abbrev pub word : List (List ℕ) → ℕ → List ℕ
word words i = slice_index_or words i []

-- good where a test holds, and else a value that the feed cannot hold
abbrev pub in_range : {A : Type 0} → Bool → A → Result A ScriptCode
in_range test value = if test then Ok value else Err code.Range

-- ---- version, members, accounts

-- `version V`: the feed is of this version
unfoldable pub version_line : Known → List (List ℕ) → Result Known ScriptCode
version_line k words = do
  n ← number_of (word words 1)
  (if n == 1 then Ok (record k { version = version.One; versioned = true })
      else (if n == 2 then Ok (record k { version = version.Two; versioned = true }) else Err code.Range))

-- the weights that a `members` line lists, if it lists any
unfoldable pub weights_listed : List (List ℕ) → Result (Option (List ℕ)) ScriptCode
weights_listed words =
    if length words == 3 then (do
      items ← list_of (word words 2)
      weights ← numbers_of items
      Ok (Some weights))
    else Ok None

-- weights of four bytes above 0 for n members
abbrev pub are_weights : ℕ → List ℕ → Bool
are_weights n weights = length weights == n && list_all (λ w. nat_lt 0 w && nat_lt w (2 ^ 32)) weights

-- the committee and an empty genesis, in the feed after its magic
unfoldable pub members_line : Known → List (List ℕ) → Result Known ScriptCode
members_line k words = do
  n ← number_of (word words 1)
  listed ← weights_listed words
  few ← in_range (nat_lt 0 n && nat_le n 128) n
  weights ← in_range (are_weights n (unwrap_or listed (replicate n 1))) (unwrap_or listed (replicate n 1))
  Ok (record k { weights = Some weights; size = 19 + member_size k.version * n })

-- one account more among others by ascending id, where a genesis can hold it
abbrev pub with_account : List Row → Row → Result (List Row) ScriptCode
with_account rows row =
    if nat_lt (length rows) MOST_ACCOUNTS && nat_lt row.seq (2 ^ 63) && nat_lt (total_of rows + row.balance) (2 ^ 63)
    && not (list_any (λ (r : Row). r.id == row.id) rows)
    then Ok (insert rows (position_or_len (λ (r : Row). nat_lt row.id r.id) rows) row)
    else Err code.Range

-- `account ID BALANCE [SEQ]`: one opening account more
unfoldable pub account_line : Known → List (List ℕ) → Result Known ScriptCode
account_line k words = do
  id ← number_of (word words 1)
  balance ← number_of (word words 2)
  seq ← (if length words == 4 then number_of (word words 3) else Ok 0)
  rows ← with_account k.accounts (record { id = id; balance = balance; seq = seq })
  grown (record k { accounts = rows }) 24

-- ---- batches and their transactions

-- `batch NAME`: a batch of this name, without transactions, is the one that lines add to
unfoldable pub batch_line : Known → List (List ℕ) → Result Known ScriptCode
batch_line k words =
    if is_new_name k.batches (word words 1)
    then grown (record k { batch = Some (record { name = word words 1; texts = [] }); late = true }) 7
    else Err code.Name

-- a line of a transaction: its text comes to the batch
unfoldable pub transaction_line : Known → Keyword → List (List ℕ) → Result Known ScriptCode
transaction_line k found words = do
  text ← line_text found (drop 1 words)
  with_text k k.batch text

-- `raw HEX`: these bytes come to the batch
unfoldable pub raw_line : Known → List (List ℕ) → Result Known ScriptCode
raw_line k words = do
  text ← hex_of (word words 1)
  with_text k k.batch text

-- ---- certificates

-- where an id belongs that compares so to the first of others: before it, or after it; it is not to be there already
abbrev pub beside : Ordering → List (List ℕ) → Result (List (List ℕ)) ScriptCode → Result (List (List ℕ)) ScriptCode
beside Less before behind = Ok before
beside Equal before behind = Err code.Range
beside Greater before behind = behind

-- one id more among others in ascending order, unless it is there already
unfoldable pub with_id : List (List ℕ) → List ℕ → Result (List (List ℕ)) ScriptCode
with_id [] id = Ok (id ∷ [])
with_id (other ∷ ids) id = beside (slice_cmp nat_cmp id other) (id ∷ other ∷ ids) (with_id ids id >>= (λ more. Ok (other ∷ more)))

-- these ids one after another among those that are in order
unfoldable pub with_ids : List (List ℕ) → List (List ℕ) → Result (List (List ℕ)) ScriptCode
with_ids sorted [] = Ok sorted
with_ids sorted (id ∷ ids) = with_id sorted id >>= (λ more. with_ids more ids)

-- parent ids in ascending order: at most 128, none twice
unfoldable pub parents_of : List (List ℕ) → Result (List (List ℕ)) ScriptCode
parents_of ids = if nat_le (length ids) 128 then with_ids [] ids else Err code.Range

-- members that a mask has a bit for
unfoldable pub signers_in : List ℕ → Result (List ℕ) ScriptCode
signers_in numbers = in_range (list_all (λ n. nat_lt n 128) numbers) numbers

-- the header of these parts, where its fields can hold them
unfoldable pub header_in : ℕ → ℕ → List (List ℕ) → List (List ℕ) → Result HeaderValue ScriptCode
header_in author round batches parents =
    in_range (nat_lt author 256 && nat_lt round (2 ^ 32) && nat_le (length batches) 1000 && nat_le (length parents) 128) (header_with author round batches parents)

-- the frame of a certificate that these members sign
unfoldable pub with_certificate : Known → HeaderValue → List ℕ → Result Known ScriptCode
with_certificate k header signers =
    grown (with_frame k kind.Certificate (sealed header signers)) (5 + length (sealed header signers))

-- the same, and the certificate is known by this name
unfoldable pub with_named : Known → List ℕ → HeaderValue → List ℕ → Result Known ScriptCode
with_named k name header signers = do
  sealed_one ← with_certificate k header signers
  Ok (record sealed_one {
    certs = sealed_one.certs ++ record { name = name; digest = id_of header } ∷ [];
    headers = sealed_one.headers ++ header ∷ [];
    late = true;
  })

-- `cert NAME ROUND AUTHOR BATCHES PARENTS SIGNERS`: a certificate of this name
unfoldable pub cert_line : Known → List (List ℕ) → Result Known ScriptCode
cert_line k words = do
  round ← number_of (word words 2)
  author ← number_of (word words 3)
  batch_items ← list_of (word words 4)
  parent_items ← list_of (word words 5)
  signer_items ← list_of (word words 6)
  signers ← numbers_of signer_items
  name ← (if is_new_name k.certs (word words 1) then Ok (word words 1) else Err code.Name)
  batches ← each_of (meant_by k.batches) batch_items
  ids ← each_of (meant_by k.certs) parent_items
  parents ← parents_of ids
  members ← signers_in signers
  header ← header_in author round batches parents
  with_named k name header members

-- a header that was found
abbrev pub some_header : Option HeaderValue → Result HeaderValue ScriptCode
some_header None = Err code.Name
some_header (Some header) = Ok header

-- the header at the place of a certificate
abbrev pub header_found : List HeaderValue → Option ℕ → Result HeaderValue ScriptCode
header_found headers None = Err code.Name
header_found headers (Some place) = some_header (slice_get headers place)

-- `again NAME SIGNERS`: the certificate of that name once more, signed by these
unfoldable pub again_line : Known → List (List ℕ) → Result Known ScriptCode
again_line k words = do
  items ← list_of (word words 2)
  numbers ← numbers_of items
  header ← header_found k.headers (place_of k.certs (word words 1))
  signers ← signers_in numbers
  with_certificate k header signers

-- ---- every line

-- the line is in its place: `version` first of all, then `members`, accounts before the first `batch` or `cert`, and
-- a transaction in a batch
abbrev pub is_in_place : Known → Keyword → Bool
is_in_place k keyword.Version = not k.versioned && not (is_some k.weights)
is_in_place k keyword.Members = not (is_some k.weights)
is_in_place k keyword.Account = is_some k.weights && not k.late
is_in_place k keyword.Batch = is_some k.weights
is_in_place k keyword.Cert = is_some k.weights
is_in_place k keyword.Again = is_some k.weights
is_in_place k keyword.Pay = is_some k.batch
is_in_place k keyword.PayIf = is_some k.batch
is_in_place k keyword.Sweep = is_some k.batch
is_in_place k keyword.Split = is_some k.batch
is_in_place k keyword.Raw = is_some k.batch

-- a line of this kind and of these words, in its place
abbrev pub meaning : Known → Keyword → List (List ℕ) → Result Known ScriptCode
meaning k keyword.Version words = version_line k words
meaning k keyword.Members words = members_line k words
meaning k keyword.Account words = account_line k words
meaning k keyword.Batch words = batch_line (closed k) words
meaning k keyword.Pay words = transaction_line k keyword.Pay words
meaning k keyword.PayIf words = transaction_line k keyword.PayIf words
meaning k keyword.Sweep words = transaction_line k keyword.Sweep words
meaning k keyword.Split words = transaction_line k keyword.Split words
meaning k keyword.Raw words = raw_line k words
meaning k keyword.Cert words = cert_line (closed k) words
meaning k keyword.Again words = again_line (closed k) words

-- the same once its place is judged, None being a line of no kind
unfoldable pub placed : Known → Option Keyword → List (List ℕ) → Result Known ScriptCode
placed k None words = Err code.Word
placed k (Some found) words = if is_in_place k found then meaning k found words else Err code.Place

-- what is known after a line, or what is wrong with it
unfoldable pub judged : Known → List ℕ → Result Known ScriptCode
judged k line =
    if is_ascii line then (if is_skipped line then Ok k else placed k (kind_of k.version (words_of line)) (words_of line))
    else Err code.Word
