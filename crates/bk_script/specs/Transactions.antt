-- The transaction lines: what text each adds to the open batch.
use Rattle.std.specs.Prelude.{ℕ, ◌+◌, Bool, true, false, List, [], ◌∷◌, ◌++◌, length, nat_le, nat_lt, ◌==◌, ◌&&◌, not, drop, if◌then◌else◌, Option, Some, None, Result, Ok, Err, slice_index_or}
use Rattle.std.specs.List.{fold}
use Rattle.bk_base.specs.declared.limits.TheConstants.{MOST_PAYLOAD}
use Rattle.bk_base.specs.Numbers.{is_ascending}
use Rattle.bk_tx.specs.declared.declared.Declared.{Declared}
use Rattle.bk_tx.specs.declared.payments.Payment.{Payment}
use Rattle.bk_tx.specs.declared.body.Body.{Body}
use Rattle.bk_tx.specs.declared.body.Body.TheVariants.{Pay, PayIf, Sweep, Split}
use Rattle.bk_tx.specs.Transaction.{transaction}
use Rattle.bk_tx.specs.Reading.{pays}
use Rattle.bk_tx.specs.Spelling.{transaction_text, batch_text, receivers_of}
use Rattle.bk_results.specs.declared.script_fault.ScriptCode.{ScriptCode}
use Rattle.bk_results.specs.declared.script_fault.ScriptCode.TheVariants as code
use Rattle.bk_script.specs.declared.line.Keyword.{Keyword}
use Rattle.bk_script.specs.declared.line.Keyword.TheVariants as keyword
use Rattle.bk_script.specs.Codes.{◌>>=◌}
use Rattle.bk_script.specs.Words.{numbers_of}
use Rattle.bk_script.specs.Known.{Known, OpenValue, grown}

-- an account among declared ones by ascending id; one that is there stays as it is
abbrev pub declare : ℕ → Bool → List Declared → List Declared
declare id writable [] = record { id = id; writable = writable } ∷ []
declare id writable (d ∷ declared) =
    if nat_lt id d.id then record { id = id; writable = writable } ∷ d ∷ declared
    else (if id == d.id then d ∷ declared else d ∷ declare id writable declared)

-- the guard that a body has is declared for reading
abbrev pub guarded : Body → List Declared → List Declared
guarded (Pay to amount) declared = declared
guarded (PayIf to amount guard min) declared = declare guard false declared
guarded (Sweep to keep) declared = declared
guarded (Split payments) declared = declared

-- what a transaction declares: the sender and the receivers for writing, and a guard that is none of them for reading
abbrev pub declared_by : ℕ → Body → List Declared
declared_by from body = guarded body (fold (λ declared to. declare to true declared) (declare from true []) (receivers_of body))

-- nobody is paid by themselves, and the receivers of a split ascend
abbrev pub is_payable : ℕ → Body → Bool
is_payable from body = not (pays body from) && is_ascending (receivers_of body)

-- the text of a transaction
unfoldable pub text_of : ℕ → ℕ → Body → Result (List ℕ) ScriptCode
text_of from seq body =
    if is_payable from body then Ok (transaction_text (transaction (declared_by from body) seq from body)) else Err code.Range

-- ---- what the words say: numbers after the first word

-- the number at a place, 0 past the end
abbrev pub at : List ℕ → ℕ → ℕ
at numbers i = slice_index_or numbers i 0

-- receivers and amounts in turn
abbrev pub payments_in : List ℕ → List Payment
payments_in [] = []
payments_in (to ∷ []) = []
payments_in (to ∷ amount ∷ more) = record { to = to; amount = amount } ∷ payments_in more

-- a transaction as a line says it: its sender, the sequence number and what it does
pub record SaidValue : Type 0 where
  pub from : ℕ
  pub seq : ℕ
  pub body : Body

-- `pay FROM TO AMOUNT SEQ`
abbrev pub paid : List ℕ → SaidValue
paid ns = record { from = at ns 0; seq = at ns 3; body = Pay (at ns 1) (at ns 2) }

-- `payif FROM TO AMOUNT SEQ GUARD MIN`
abbrev pub paid_if : List ℕ → SaidValue
paid_if ns = record { from = at ns 0; seq = at ns 3; body = PayIf (at ns 1) (at ns 2) (at ns 4) (at ns 5) }

-- `sweep FROM TO KEEP SEQ`
abbrev pub swept : List ℕ → SaidValue
swept ns = record { from = at ns 0; seq = at ns 3; body = Sweep (at ns 1) (at ns 2) }

-- `split FROM SEQ TO AMOUNT ..`
abbrev pub split_up : List ℕ → SaidValue
split_up ns = record { from = at ns 0; seq = at ns 1; body = Split (payments_in (drop 2 ns)) }

-- what the numbers after the first word of a transaction line of this kind say
abbrev pub said_by : Keyword → List ℕ → SaidValue
said_by keyword.PayIf ns = paid_if ns
said_by keyword.Sweep ns = swept ns
said_by keyword.Split ns = split_up ns
said_by keyword.Pay ns = paid ns
said_by keyword.Version ns = paid ns
said_by keyword.Members ns = paid ns
said_by keyword.Account ns = paid ns
said_by keyword.Batch ns = paid ns
said_by keyword.Raw ns = paid ns
said_by keyword.Cert ns = paid ns
said_by keyword.Again ns = paid ns

-- the text of a transaction line of this kind, of the words after the first
unfoldable pub line_text : Keyword → List (List ℕ) → Result (List ℕ) ScriptCode
line_text found words = do
  ns ← numbers_of words
  text_of ((said_by found ns).from) ((said_by found ns).seq) ((said_by found ns).body)

-- ---- the open batch

-- a text of this many bytes can come after these: the counts and the payload can hold it
abbrev pub has_room : List (List ℕ) → ℕ → Bool
has_room texts len = nat_lt (length texts) 65535 && nat_lt len 65536 && nat_le (length (batch_text texts) + 2 + len) MOST_PAYLOAD

-- the batch with one text more, where it and the feed can hold it
abbrev pub with_text : Known → Option OpenValue → List ℕ → Result Known ScriptCode
with_text k None text = Err code.Place
with_text k (Some one) text =
    if has_room one.texts (length text)
    then grown (record k { batch = Some (record one { texts = one.texts ++ text ∷ [] }) }) (2 + length text)
    else Err code.Range
