-- The commands of the program, with their arguments, as `clap` has them.
use Rattle.std.specs.Prelude.{◌∷◌, [], List, Some, true, codes, pos}
use Rattle.std.specs.List.{fold}
use Rattle.clap.specs.Words.{App, Rule, Text, new_app, new_rule, with_rule, with_subcommand}
use Rattle.clap.specs.declared.builder.action.ArgAction.TheVariants.{Set, SetTrue}
use Rattle.clap.specs.declared.builder.value_parser.ValueParser.{ValueParser}
use Rattle.clap.specs.declared.builder.value_parser.ValueParser.TheVariants.{Signed, Unsigned}
use Rattle.bk_cli.specs.declared.parts.Part.{Part}
use Rattle.bk_cli.specs.declared.parts.Part.TheVariants as part
use Rattle.bk_cli.specs.declared.verb.TheConstants.{ALL}
use Rattle.bk_cli.specs.declared.verb.Verb.{Verb}
use Rattle.bk_cli.specs.declared.verb.Verb.TheVariants as verb

-- ---- the arguments

-- an argument that takes a value, any text
abbrev pub valued_rule : Text → Rule
valued_rule name = record (new_rule name) { action = Some Set }

-- one that is required
abbrev pub required_rule : Text → Rule
required_rule name = record (new_rule name) { action = Some Set; required = true }

-- an option that takes a value
abbrev pub option_rule : Text → Rule
option_rule name = record (new_rule name) { long = Some name; action = Some Set; value_names = 1 }

-- an option without a value
abbrev pub flag_rule : Text → Rule
flag_rule name = record (new_rule name) { long = Some name; action = Some SetTrue }

-- the same whose value this parser reads
abbrev pub read_by : ValueParser → Rule → Rule
read_by parser r = record r { parser = Some parser }

-- each argument: of the options `--workers` takes a number from 1 to 64, `--from` one to 1,000,000 and `--rounds` one to 1,000; the
-- ids of accounts are below 2^64, and places below 2^32
abbrev pub rule_of : Part → Rule
rule_of part.File = valued_rule (codes "FILE")
rule_of part.Workers = read_by (Signed (pos 1) (pos 64)) (option_rule (codes "workers"))
rule_of part.EventWorkers = read_by (Signed (pos 1) (pos 64)) (option_rule (codes "workers"))
rule_of part.From = read_by (Signed (pos 1) (pos 1000000)) (option_rule (codes "from"))
rule_of part.Rounds = read_by (Signed (pos 1) (pos 1000)) (option_rule (codes "rounds"))
rule_of part.Links = option_rule (codes "links")
rule_of part.Accounts = option_rule (codes "accounts")
rule_of part.Account = read_by (Unsigned 0 18446744073709551615) (option_rule (codes "account"))
rule_of part.Id = read_by (Unsigned 0 18446744073709551615) (required_rule (codes "ID"))
rule_of part.Place = read_by (Signed (pos 0) (pos 4294967295)) (required_rule (codes "PLACE"))
rule_of part.Root = required_rule (codes "ROOT")
rule_of part.Report = required_rule (codes "REPORT")
rule_of part.Feed = required_rule (codes "FEED")
rule_of part.Events = required_rule (codes "EVENTS")
rule_of part.Feed1 = required_rule (codes "FEED1")
rule_of part.Feed2 = required_rule (codes "FEED2")
rule_of part.Follow = flag_rule (codes "follow")
rule_of part.Wait = flag_rule (codes "wait")
rule_of part.Strict = flag_rule (codes "strict")
rule_of part.Progress = flag_rule (codes "progress")
rule_of part.Verbose = flag_rule (codes "verbose")

-- ---- the commands

-- the word of a command
abbrev pub word_of : Verb → Text
word_of verb.Run = codes "run"
word_of verb.Make = codes "make"
word_of verb.Order = codes "order"
word_of verb.Account = codes "account"
word_of verb.Receipt = codes "receipt"
word_of verb.Prove = codes "prove"
word_of verb.Frames = codes "frames"
word_of verb.Summary = codes "summary"
word_of verb.Anchors = codes "anchors"
word_of verb.Dag = codes "dag"
word_of verb.Statement = codes "statement"
word_of verb.Transactions = codes "transactions"
word_of verb.Postings = codes "postings"
word_of verb.Batches = codes "batches"
word_of verb.Waiting = codes "waiting"
word_of verb.Missing = codes "missing"
word_of verb.Evidence = codes "evidence"
word_of verb.CheckProof = codes "check-proof"
word_of verb.CheckState = codes "check-state"
word_of verb.CheckReport = codes "check-report"
word_of verb.Apply = codes "apply"
word_of verb.Schedule = codes "schedule"
word_of verb.Compare = codes "compare"
word_of verb.Link = codes "link"
word_of verb.CheckChain = codes "check-chain"

-- its arguments, before the options that many commands have
abbrev pub parts_of : Verb → List Part
parts_of verb.Run = part.Workers ∷ part.File ∷ []
parts_of verb.Summary = part.Workers ∷ part.File ∷ []
parts_of verb.Link = part.Workers ∷ part.File ∷ []
parts_of verb.Account = part.Id ∷ part.File ∷ []
parts_of verb.Prove = part.Id ∷ part.File ∷ []
parts_of verb.Receipt = part.Place ∷ part.File ∷ []
parts_of verb.Dag = part.From ∷ part.Rounds ∷ part.Links ∷ part.File ∷ []
parts_of verb.Statement = part.Workers ∷ part.Id ∷ part.File ∷ []
parts_of verb.Transactions = part.Workers ∷ part.Accounts ∷ part.Follow ∷ part.Wait ∷ part.File ∷ []
parts_of verb.Postings = part.Workers ∷ part.Accounts ∷ part.Follow ∷ part.Wait ∷ part.File ∷ []
parts_of verb.CheckProof = part.Account ∷ part.Root ∷ part.File ∷ []
parts_of verb.CheckState = part.Workers ∷ part.Root ∷ part.File ∷ []
parts_of verb.CheckReport = part.Workers ∷ part.Report ∷ part.File ∷ []
parts_of verb.Schedule = part.EventWorkers ∷ part.Feed ∷ part.Events ∷ []
parts_of verb.Compare = part.Feed1 ∷ part.Feed2 ∷ []
parts_of other = part.File ∷ []

-- and these options: `--verbose`, which every command has, `--progress`, which one has that reads a feed, and `--strict`, which one
-- has whose feed may fall short
abbrev pub flags_of : Verb → List Part
flags_of verb.Make = part.Verbose ∷ []
flags_of verb.CheckProof = part.Verbose ∷ []
flags_of verb.CheckChain = part.Verbose ∷ []
flags_of verb.Evidence = part.Progress ∷ part.Verbose ∷ []
flags_of verb.Apply = part.Progress ∷ part.Verbose ∷ []
flags_of verb.Schedule = part.Progress ∷ part.Verbose ∷ []
flags_of other = part.Strict ∷ part.Progress ∷ part.Verbose ∷ []

-- an argument more
abbrev pub with_part : App → Part → App
with_part a p = with_rule a (rule_of p)

-- a command by this name, with its arguments
abbrev pub line_named : Text → Verb → App
line_named name v = fold with_part (fold with_part (new_app name) (parts_of v)) (flags_of v)

-- the program's name, with a version
abbrev pub program : App
program = let a = new_app (codes "bkreplay") in record a {
  top = record a.top {
    has_version = true;
    disable_help_subcommand = true;
    subcommand_required = true;
  };
}

-- a command more
abbrev pub with_command : App → Verb → App
with_command a v = with_subcommand a (line_named (word_of v) v).top

-- the whole command line: `bkreplay`, and one of the commands
abbrev pub command_line : App
command_line = fold with_command program ALL
