-- The words of a command line as they are read: an option that every command has may come before the command's name, and
-- `help` asks for help.
use Rattle.std.specs.Prelude.{ℕ, Bool, ◌||◌, List, [], ◌∷◌, ◌++◌, take, drop, codes, if◌then◌else◌}
use Rattle.std.specs.List.{prefix_len}
use Rattle.std.specs.Str.{bytes_eq}
use Rattle.clap.specs.Words.{Text}

-- an option that every command has
abbrev pub is_common : Text → Bool
is_common word = bytes_eq word (codes "--progress") || bytes_eq word (codes "--verbose")

-- how many of these options words begin with
abbrev pub lead : List Text → ℕ
lead words = prefix_len is_common words

-- options, and the words after them: the first of these comes before the options
abbrev pub after_name : List Text → List Text → List Text
after_name options [] = options
after_name options (name ∷ rest) = name ∷ options ++ rest

-- the words with the options that every command has behind its name
abbrev pub named_first : List Text → List Text
named_first words = after_name (take (lead words) words) (drop (lead words) words)

-- `help` alone is `--help`, and before the name of a command it is `--help` after it
abbrev pub helped : List Text → List Text
helped [] = []
helped (word ∷ rest) = if bytes_eq word (codes "help") then take 1 rest ++ codes "--help" ∷ drop 1 rest else word ∷ rest

-- the words as they are read; the first is the program's name
abbrev pub settled : List Text → List Text
settled [] = []
settled (program ∷ words) = program ∷ helped (named_first words)
