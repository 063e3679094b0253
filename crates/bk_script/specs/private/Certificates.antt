-- What a `cert` line adds, once some of its words are read.
use Rattle.std.specs.Prelude.{ℕ, List, if◌then◌else◌, Result, Ok, Err}
use Rattle.bk_results.specs.declared.script_fault.ScriptCode.{ScriptCode}
use Rattle.bk_results.specs.declared.script_fault.ScriptCode.TheVariants as code
use Rattle.bk_script.specs.Codes.{◌>>=◌}
use Rattle.bk_script.specs.Words.{numbers_of, list_of, each_of}
use Rattle.bk_script.specs.Known.{Known, meant_by, is_new_name}
use Rattle.bk_script.specs.Judging.{parents_of, signers_in, header_in, with_named}

-- a certificate with these batches, these parents and these signers, of this name
abbrev pub with_ids_named : Known → List ℕ → ℕ → ℕ → List (List ℕ) → List (List ℕ) → List ℕ → Result Known ScriptCode
with_ids_named k name round author batches ids signers = do
  parents ← parents_of ids
  members ← signers_in signers
  header ← header_in author round batches parents
  with_named k name header members

-- the same, where batches and parents are digests or names
abbrev pub with_items_named : Known → List ℕ → ℕ → ℕ → List (List ℕ) → List (List ℕ) → List ℕ → Result Known ScriptCode
with_items_named k name round author batch_items parent_items signers = do
  batches ← each_of (meant_by k.batches) batch_items
  ids ← each_of (meant_by k.certs) parent_items
  with_ids_named k name round author batches ids signers

-- the same, where the name is new, and the word of the signers is as it was read
abbrev pub with_lists_named : Known → List ℕ → ℕ → ℕ → List (List ℕ) → List (List ℕ) → List ℕ → Result Known ScriptCode
with_lists_named k name round author batch_items parent_items word = do
  signer_items ← list_of word
  signers ← numbers_of signer_items
  new ← (if is_new_name k.certs name then Ok name else Err code.Name)
  with_items_named k new round author batch_items parent_items signers
