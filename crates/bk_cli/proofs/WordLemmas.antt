-- What the words of a command line name.
use Rattle.std.proofs.Common.{ℕ, zero, suc, ◌+◌, ◌<◌, ◌≤◌, ◌≡◌, ◌⊎◌, ◌∙◌, inl, inr, sym, ap, ap₂, refl, List, [], ◌∷◌, Option, Some, None, Bool, true, false, drop, get_or, length, map, codes, option_map, cond, subst, arith}
use Rattle.std.proofs.lemmas.List.{drop_all, length-map}
use Rattle.std.specs.Prelude.{Box, unwrap_or, find, if◌then◌else◌}
use Rattle.std.specs.Str.{IsUtf8, bytes_eq}
use Rattle.std.proofs.lemmas.Slice.Eq.{bytes_eq-Decides}
use Rattle.std.specs.Box.{box_value}
use Rattle.clap.specs.Simple.{Shape, built, entered, label_of, rows_at, argument_words, names_of, subcommand_rows}
use Rattle.clap.specs.Walk.{answers_to, stop_after}
use Rattle.clap.specs.Matches.{subcommand_name_of}
use Rattle.clap.specs.Words.{App, HasMatchesOf, Row, Text, first_value, one_text, rows_of, subcommand_of, subcommand_rows_of}
use Rattle.clap.specs.declared.parser.matches.ArgMatches.{ArgMatches}
use Rattle.clap.specs.declared.parser.matches.SubCommand.{SubCommand}
use Rattle.clap.specs.declared.parser.matches.ArgMatches.TheViews.{out-ArgMatches, out-SubCommand}
use Rattle.clap.specs.Values.{kind_of}
use Rattle.clap.specs.declared.error.Error.{Error}
use Rattle.clap.specs.declared.error.kind.ErrorKind.TheVariants as kind
use Rattle.clap.proofs.WalkLemmas.{first_value-rows, one_text-rows}
use Rattle.clap.specs.declared.parser.matches.Found.{Found}
use Rattle.bk_cli.specs.declared.args.Args.{Args}
use Rattle.bk_cli.specs.CommandLine.{AreArgs, AreArgsIn, IsOfValues, IsOneOf, IsRefusal, all_words}
use Rattle.bk_cli.specs.Commands.{command_line, word_of}
use Rattle.bk_cli.specs.declared.verb.TheConstants.{ALL}
use Rattle.bk_cli.specs.declared.verb.Verb.{Verb}
use Rattle.bk_cli.specs.Files.{reads_input_twice}
use Rattle.bk_cli.specs.declared.job.Job.{Job}

-- ---- a parse and its rows

-- the name that a parse gives is that of its rows
names_same : {Z : Type 0} (o : Option (Box SubCommand Z))
    → option_map (λ (p : Text × List Row). p.0) (subcommand_rows o) ≡ option_map (λ b. (out-SubCommand (box_value b)).name.now) o
names_same None = refl
names_same (Some b) = refl

name_of_rows : (m : ArgMatches) → option_map (λ (p : Text × List Row). p.0) (subcommand_rows_of m) ≡ subcommand_name_of m
name_of_rows m = names_same (out-ArgMatches m).subcommand

both_parts : (name : Text) (rows : List Row) (o : Option (Text × List Row)) → Some name ≡ option_map (λ p. p.0) o → Some rows ≡ option_map (λ p. p.1) o
    → o ≡ Some (name, rows)
both_parts name rows None e e' = absurd (cc)
both_parts name rows (Some p) e e' =
    let n : p.0 ≡ name = ap (λ (t : Option Text). unwrap_or t name) (sym e) in
    let r : p.1 ≡ rows = ap (λ (t : Option (List Row)). unwrap_or t rows) (sym e') in
    ap (λ (q : Text × List Row). Some q) (ap₂ (λ (x : Text) (y : List Row). (x, y)) n r)

-- the subcommand that a parse gives is the one that the words name
pub what_is_found : (m : ArgMatches) (words : List Text) (name : Text) (rows : List Row) → subcommand_rows_of m ≡ subcommand_of command_line words
    → Some name ≡ subcommand_name_of m → Some rows ≡ option_map (λ p. p.1) (subcommand_rows_of m) → subcommand_of command_line words ≡ Some (name, rows)
what_is_found m words name rows found named valued =
    sym found ∙ both_parts name rows (subcommand_rows_of m) (named ∙ sym (name_of_rows m)) valued

-- by the word of its command
pub found_by_word : (o : Option (Text × List Row)) (name word : Text) (rows : List Row) → o ≡ Some (name, rows) → name ≡ word → o ≡ Some (word, rows)
found_by_word o name word rows is same = is ∙ ap (λ (t : Text). Some (t, rows)) same

-- the values that were found are those in the rows
pub args_in_rows : (f : Found) (a : Args) → AreArgs (one_text f) (first_value f) a → AreArgsIn (rows_of f) a
args_in_rows f a = subst (λ (p : (Text → Option Text) × (Text → Option Text)). AreArgs p.0 p.1 a) (λ j. (λ name. one_text-rows f name j, λ name. first_value-rows f name j))

-- an error of these values is a refusal of the words
pub refused_at : (words : List Text) (e : Error) (here : Option (Text × List Row)) → subcommand_of command_line words ≡ here
    → (kind_of e ≡ kind.OutOfMemory) ⊎ IsOfValues e here → IsRefusal words e
refused_at words e here is (inl memory) = record { named = inl (inl memory); taken = λ _. inl memory }
refused_at words e here is (inr values) = let of = subst (IsOfValues e) (sym is) values in record { named = inr of; taken = λ _. inr of }

-- the command line is one of which the matches are defined
pub named_by_words : (a : App) (words : List Text) (m : ArgMatches) → a ≡ command_line → HasMatchesOf a words m
    → subcommand_rows_of m ≡ subcommand_of command_line words
named_by_words a words m is h =
    let here : HasMatchesOf command_line words m = subst (λ (b : App). HasMatchesOf b words m) is h in
    (here refl).1

-- ---- the words of the commands

picked : (p : Shape → Bool) (subs : List Shape) (words : List Text) (name : Text) (rows : List Row)
    → option_map (λ (s : Shape). rows_at s words) (find p subs) ≡ Some (name, rows) → IsOneOf (map (λ (s : Shape). s.name) subs) name
picked p [] words name rows e = absurd (cc)
picked p (s ∷ subs) words name rows e = go (p s) e (picked p subs words name rows)
  where
    go : (b : Bool) → option_map (λ (s : Shape). rows_at s words) (cond b (Some s) (find p subs)) ≡ Some (name, rows)
        → (option_map (λ (s : Shape). rows_at s words) (find p subs) ≡ Some (name, rows) → IsOneOf (map (λ (s : Shape). s.name) subs) name)
        → (name ≡ s.name) ⊎ IsOneOf (map (λ (s : Shape). s.name) subs) name
    go true e rest = inl (sym (ap (λ (o : Option (Text × List Row)). (unwrap_or o (name, rows)).0) e))
    go false e rest = inr (rest e)

entered_one : (stop : Option (Text × List Text)) (name : Text) (rows : List Row) → entered (built command_line) stop ≡ Some (name, rows)
    → IsOneOf all_words name
entered_one None name rows e = absurd (cc)
entered_one (Some q) name rows e = picked (λ s. answers_to q.0 (label_of s)) (built command_line).subs q.1 name rows e

-- what the words name is one of the commands
pub one_of_all : (words : List Text) (name : Text) (rows : List Row) → subcommand_of command_line words ≡ Some (name, rows) → IsOneOf all_words name
one_of_all words name rows e = entered_one (stop_after (built command_line).top.rules (names_of (built command_line)) (argument_words command_line words)) name rows e

-- one of several that is not equal to the first
not_first : (word x : Text) (xs : List Text) → bytes_eq x word ≡ false → IsOneOf (x ∷ xs) word → IsOneOf xs word
not_first word x xs differs (inr h) = h
not_first word x xs differs (inl h) =
    let equal : bytes_eq x word ≡ true = (bytes_eq-Decides x word).1 (sym h) in
    absurd (cc)

-- the words from one command on
words_from : (f : Verb → Text) (vs : List Verb) (i : ℕ) (d : Verb) → i < length vs → drop i (map f vs) ≡ f (get_or vs i d) ∷ drop (i + 1) (map f vs)
words_from f [] i d low = absurd (omega (arith, low))
words_from f (v ∷ vs) zero d low = refl
words_from f (v ∷ vs) (suc i) d low = let k : suc i + 1 ≡ suc (i + 1) = omega arith in rw k (words_from f vs i d (omega (arith, low)))

-- a word that is none of those so far is one of the others
pub next_word : (word here : Text) (i : ℕ) (d : Verb) → i < length ALL → here ≡ word_of (get_or ALL i d) → bytes_eq here word ≡ false → IsOneOf (drop i all_words) word → IsOneOf (drop (i + 1) all_words) word
next_word word here i d low is differs h =
    not_first word here (drop (i + 1) all_words) differs (subst (λ (ws : List Text). IsOneOf ws word) (words_from word_of ALL i d low ∙ ap (λ (w : Text). w ∷ drop (i + 1) all_words) (sym is)) h)

-- and no word is none of all
pub no_word : (word : Text) (i : ℕ) → length ALL ≤ i → IsOneOf (drop i all_words) word → ⊥
no_word word i high h = subst (λ (ws : List Text). IsOneOf ws word) (drop_all i all_words (omega (arith, high, length-map ALL word_of))) h

-- ---- the words are text

pub are_text : (word : Text) → IsOneOf all_words word → IsUtf8 word
unfolding lib.Utf8.encode
are_text word (inl e) = subst IsUtf8 (sym e) (codes "run", (refl, refl))
are_text word (inr (inl e)) = subst IsUtf8 (sym e) (codes "make", (refl, refl))
are_text word (inr (inr (inl e))) = subst IsUtf8 (sym e) (codes "order", (refl, refl))
are_text word (inr (inr (inr (inl e)))) = subst IsUtf8 (sym e) (codes "account", (refl, refl))
are_text word (inr (inr (inr (inr (inl e))))) = subst IsUtf8 (sym e) (codes "receipt", (refl, refl))
are_text word (inr (inr (inr (inr (inr (inl e)))))) = subst IsUtf8 (sym e) (codes "prove", (refl, refl))
are_text word (inr (inr (inr (inr (inr (inr (inl e))))))) = subst IsUtf8 (sym e) (codes "frames", (refl, refl))
are_text word (inr (inr (inr (inr (inr (inr (inr (inl e)))))))) = subst IsUtf8 (sym e) (codes "summary", (refl, refl))
are_text word (inr (inr (inr (inr (inr (inr (inr (inr (inl e))))))))) = subst IsUtf8 (sym e) (codes "anchors", (refl, refl))
are_text word (inr (inr (inr (inr (inr (inr (inr (inr (inr (inl e)))))))))) = subst IsUtf8 (sym e) (codes "dag", (refl, refl))
are_text word (inr (inr (inr (inr (inr (inr (inr (inr (inr (inr (inl e))))))))))) = subst IsUtf8 (sym e) (codes "statement", (refl, refl))
are_text word (inr (inr (inr (inr (inr (inr (inr (inr (inr (inr (inr (inl e)))))))))))) = subst IsUtf8 (sym e) (codes "transactions", (refl, refl))
are_text word (inr (inr (inr (inr (inr (inr (inr (inr (inr (inr (inr (inr (inl e))))))))))))) = subst IsUtf8 (sym e) (codes "postings", (refl, refl))
are_text word (inr (inr (inr (inr (inr (inr (inr (inr (inr (inr (inr (inr (inr (inl e)))))))))))))) = subst IsUtf8 (sym e) (codes "batches", (refl, refl))
are_text word (inr (inr (inr (inr (inr (inr (inr (inr (inr (inr (inr (inr (inr (inr (inl e))))))))))))))) = subst IsUtf8 (sym e) (codes "waiting", (refl, refl))
are_text word (inr (inr (inr (inr (inr (inr (inr (inr (inr (inr (inr (inr (inr (inr (inr (inl e)))))))))))))))) = subst IsUtf8 (sym e) (codes "missing", (refl, refl))
are_text word (inr (inr (inr (inr (inr (inr (inr (inr (inr (inr (inr (inr (inr (inr (inr (inr (inl e))))))))))))))))) = subst IsUtf8 (sym e) (codes "evidence", (refl, refl))
are_text word (inr (inr (inr (inr (inr (inr (inr (inr (inr (inr (inr (inr (inr (inr (inr (inr (inr (inl e)))))))))))))))))) = subst IsUtf8 (sym e) (codes "check-proof", (refl, refl))
are_text word (inr (inr (inr (inr (inr (inr (inr (inr (inr (inr (inr (inr (inr (inr (inr (inr (inr (inr (inl e))))))))))))))))))) = subst IsUtf8 (sym e) (codes "check-state", (refl, refl))
are_text word (inr (inr (inr (inr (inr (inr (inr (inr (inr (inr (inr (inr (inr (inr (inr (inr (inr (inr (inr (inl e)))))))))))))))))))) = subst IsUtf8 (sym e) (codes "check-report", (refl, refl))
are_text word (inr (inr (inr (inr (inr (inr (inr (inr (inr (inr (inr (inr (inr (inr (inr (inr (inr (inr (inr (inr (inl e))))))))))))))))))))) = subst IsUtf8 (sym e) (codes "apply", (refl, refl))
are_text word (inr (inr (inr (inr (inr (inr (inr (inr (inr (inr (inr (inr (inr (inr (inr (inr (inr (inr (inr (inr (inr (inl e)))))))))))))))))))))) = subst IsUtf8 (sym e) (codes "schedule", (refl, refl))
are_text word (inr (inr (inr (inr (inr (inr (inr (inr (inr (inr (inr (inr (inr (inr (inr (inr (inr (inr (inr (inr (inr (inr (inl e))))))))))))))))))))))) = subst IsUtf8 (sym e) (codes "compare", (refl, refl))
are_text word (inr (inr (inr (inr (inr (inr (inr (inr (inr (inr (inr (inr (inr (inr (inr (inr (inr (inr (inr (inr (inr (inr (inr (inl e)))))))))))))))))))))))) = subst IsUtf8 (sym e) (codes "link", (refl, refl))
are_text word (inr (inr (inr (inr (inr (inr (inr (inr (inr (inr (inr (inr (inr (inr (inr (inr (inr (inr (inr (inr (inr (inr (inr (inr (inl e))))))))))))))))))))))))) = subst IsUtf8 (sym e) (codes "check-chain", (refl, refl))
are_text word (inr (inr (inr (inr (inr (inr (inr (inr (inr (inr (inr (inr (inr (inr (inr (inr (inr (inr (inr (inr (inr (inr (inr (inr (inr e))))))))))))))))))))))))) = absurd e

-- ---- standard input

sole_at : (b : Bool) (j k : Job) → reads_input_twice j ≡ b → (if b then None else Some j) ≡ Some k
    → (j ≡ k) × (reads_input_twice k ≡ false)
sole_at false j k is e =
    let same : j ≡ k = ap (λ (o : Option Job). unwrap_or o j) e in
    (same, subst (λ (x : Job). reads_input_twice x ≡ false) same is)
sole_at true j k is e = absurd (cc)

-- a job that is taken is the one that was made, and does not read standard input twice
pub is_sole : (j k : Job) → (if reads_input_twice j then None else Some j) ≡ Some k → (j ≡ k) × (reads_input_twice k ≡ false)
is_sole j k = sole_at (reads_input_twice j) j k refl

twice_at : (b : Bool) (j : Job) → (if b then None else Some j) ≡ None → b ≡ true
twice_at false j e = absurd (cc)
twice_at true j e = refl

-- and one that is not taken reads it twice
pub is_twice : (j : Job) → (if reads_input_twice j then None else Some j) ≡ None → reads_input_twice j ≡ true
is_twice j = twice_at (reads_input_twice j) j
