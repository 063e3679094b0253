-- The line of a link, by its words.
use Rattle.std.proofs.Common.{◌≡◌, ℕ, ◌<◌, ◌^◌, ◌==◌, ◌||◌, Bool, true, false, if◌then◌else◌, List, [], ◌∷◌, ◌++◌, length, Option, Some, None, refl, sym, ap, subst, ◌∙◌, append-nil, append_assoc, arith}
use Rattle.std.specs.Prelude.{codes, decimal}
use Rattle.std.specs.List.{list_any, AllPass}
use Rattle.std.specs.Str.{bytes_eq}
use Rattle.std.specs.Str.Parse.{AllDigits}
use Rattle.std.specs.Char.{digit_value}
use Rattle.std.proofs.lemmas.Bool.{ne_eqb}
use Rattle.std.proofs.lemmas.Fmt.{decimal_is_IsNumeral}
use Rattle.std.proofs.lemmas.List.Elements.{All-head, All-tail}
use Rattle.std.proofs.lemmas.Slice.Eq.{bytes_eq-Decides}
use Rattle.hex.specs.Hex.{is_hex_digit, encode_lower}
use Rattle.hex.proofs.HexLemmas.{decode_of-ok, decode_of-encode_lower}
use Rattle.bk_base.specs.Numbers.{◌>>=◌}
use Rattle.bk_base.specs.declared.version.Version.{Version}
use Rattle.bk_base.specs.declared.version.Version.TheVariants as version
use Rattle.bk_results.specs.declared.status.Status.{Status}
use Rattle.bk_results.specs.declared.status.Status.TheVariants as status
use Rattle.bk_report.specs.Proofs.{IsDigest}
use Rattle.bk_script.specs.Words.{pieces, pieces_after}
use Rattle.bk_chain.specs.declared.link.LinkValue.{LinkValue}
use Rattle.bk_chain.specs.Line.{Fits, IsLineOf, IsNoLine, count_words, digest_words, end_word, link_line, setup_words, version_words, work_words}
use Rattle.bk_chain.specs.private.Reading.{below, checked, count_in, digest_in, end_in, link_in, link_of, link_of_words, version_in, word}
use Rattle.bk_chain.proofs.Numerals.{below_limits, below_read, digest_is, digest_read, end_digits, end_read, version_digit, version_read}

-- ---- words without spaces

-- no byte of a word is a space
abbrev pub IsWord : List ℕ → Type 0
IsWord w = list_any (λ (b : ℕ). b == 32) w ≡ false

or_none : (a b : Bool) → (a || b) ≡ false → (a ≡ false) × (b ≡ false)
or_none true b e = absurd cc
or_none false b e = (refl, e)

no_digit : digit_value 32 < 10 → ⊥
no_digit h = omega arith

digits_word : (ds : List ℕ) → AllDigits 10 ds → IsWord ds
digits_word [] all = refl
digits_word (c ∷ ds) all =
    let apart : (c == 32) ≡ false = ne_eqb c 32 (λ e. no_digit (subst (λ (x : ℕ). digit_value x < 10) e all.0)) in
    rw apart (digits_word ds all.1)

decimal_word : (n : ℕ) → n < 2 ^ 64 → IsWord (decimal n)
decimal_word n fits = digits_word (decimal n) (decimal_is_IsNumeral n fits).0.1

hex_word : (ds : List ℕ) → AllPass is_hex_digit ds → IsWord ds
hex_word [] all = refl
hex_word (c ∷ ds) all =
    let apart : (c == 32) ≡ false = ne_eqb c 32 (λ e. absurd (cc (sym (All-head (λ (x : ℕ). is_hex_digit x ≡ true) c ds all) ∙ ap is_hex_digit e))) in
    rw apart (hex_word ds (All-tail (λ (x : ℕ). is_hex_digit x ≡ true) c ds all))

digest_word : (d : List ℕ) → IsDigest d → IsWord (encode_lower d)
digest_word d good = hex_word (encode_lower d) (decode_of-ok (encode_lower d) d (decode_of-encode_lower d good.bytes)).1

version_word : (v : Version) → IsWord (version_digit v)
version_word version.One = refl
version_word version.Two = refl

end_is_word : (s : Status) → IsWord (end_digits s)
end_is_word status.Whole = refl
end_is_word status.Missing = refl

-- ---- pieces

-- a word goes on the piece before it
goes_on : (front w rest : List ℕ) → IsWord w → pieces_after 32 front (w ++ rest) ≡ pieces_after 32 (front ++ w) rest
unfolding pieces_after
goes_on front [] rest free = ap (λ (f : List ℕ). pieces_after 32 f rest) (sym (append-nil front))
goes_on front (c ∷ w) rest free =
    let both = or_none (c == 32) (list_any (λ (b : ℕ). b == 32) w) free in
    ap (λ (b : Bool). if b then front ∷ pieces_after 32 [] (w ++ rest) else pieces_after 32 (front ++ c ∷ []) (w ++ rest)) both.0
    ∙ (goes_on (front ++ c ∷ []) w rest both.1 ∙ ap (λ (f : List ℕ). pieces_after 32 f rest) (append_assoc front (c ∷ []) w))

-- a word, and a name between spaces
pair : (w name rest : List ℕ) → IsWord w → IsWord name → pieces_after 32 [] (w ++ ((32 ∷ name ++ 32 ∷ []) ++ rest)) ≡ w ∷ name ∷ pieces_after 32 [] rest
unfolding pieces_after
pair w name rest free also =
    goes_on [] w ((32 ∷ name ++ 32 ∷ []) ++ rest) free
    ∙ ap (λ (ps : List (List ℕ)). w ∷ ps) (ap (pieces_after 32 []) (append_assoc name (32 ∷ []) rest) ∙ goes_on [] name (32 ∷ rest) also)

last_one : (w : List ℕ) → IsWord w → pieces_after 32 [] w ≡ w ∷ []
unfolding pieces_after
last_one w free = ap (pieces_after 32 []) (sym (append-nil w)) ∙ goes_on [] w [] free

last_two : (w last : List ℕ) → IsWord w → IsWord last → pieces_after 32 [] (w ++ (codes " " ++ last)) ≡ w ∷ last ∷ []
unfolding pieces_after
last_two w last free also = goes_on [] w (codes " " ++ last) free ∙ ap (λ (ps : List (List ℕ)). w ∷ ps) (last_one last also)

-- ---- the words of a line

abbrev pub link_words : LinkValue → List (List ℕ)
link_words v =
    codes "link" ∷ codes "version" ∷ version_digit v.version ∷ codes "committee" ∷ encode_lower v.committee ∷ codes "opening"
    ∷ encode_lower v.opening ∷ codes "closing" ∷ encode_lower v.closing ∷ codes "accounts" ∷ decimal v.accounts ∷ codes "money"
    ∷ decimal v.money ∷ codes "transactions" ∷ decimal v.transactions ∷ end_digits v.end ∷ []

four : (a b c d rest : List ℕ) → (a ++ b ++ c ++ d) ++ rest ≡ a ++ (b ++ (c ++ (d ++ rest)))
four a b c d rest =
    append_assoc (a ++ b ++ c) d rest ∙ (append_assoc (a ++ b) c (d ++ rest) ∙ append_assoc a b (c ++ (d ++ rest)))

version_is : (v : Version) → version_words v ≡ codes "link version " ++ version_digit v
version_is version.One = refl
version_is version.Two = refl

end_is : (s : Status) → end_word s ≡ codes " " ++ end_digits s
end_is status.Whole = refl
end_is status.Missing = refl

-- what words say, by what each says
abbrev said : Option Version → Option (List ℕ) → Option (List ℕ) → Option (List ℕ) → Option ℕ → Option ℕ → Option ℕ → Option Status → Option LinkValue
said a b c d e f g h = do
  version ← a
  committee ← b
  opening ← c
  closing ← d
  accounts ← e
  money ← f
  transactions ← g
  end ← h
  Some (record {
    version = version;
    committee = committee;
    opening = opening;
    closing = closing;
    accounts = accounts;
    money = money;
    transactions = transactions;
    end = end;
  })

module _ (v : LinkValue) where
  abbrev end_part : List ℕ
  end_part = codes " transactions " ++ (decimal v.transactions ++ (codes " " ++ end_digits v.end))

  abbrev count_part : List ℕ
  count_part = codes " accounts " ++ (decimal v.accounts ++ (codes " money " ++ (decimal v.money ++ end_part)))

  abbrev digest_part : List ℕ
  digest_part = codes " opening " ++ (encode_lower v.opening ++ (codes " closing " ++ (encode_lower v.closing ++ count_part)))

  abbrev whole : List ℕ
  whole = codes "link version " ++ (version_digit v.version ++ (codes " committee " ++ (encode_lower v.committee ++ digest_part)))

  work_is : work_words v ≡ end_part
  work_is = append_assoc (codes " transactions ") (decimal v.transactions) (end_word v.end) ∙ ap (λ (t : List ℕ). codes " transactions " ++ (decimal v.transactions ++ t)) (end_is v.end)

  count_is : count_words v ++ work_words v ≡ count_part
  count_is = ap (λ (t : List ℕ). count_words v ++ t) work_is ∙ four (codes " accounts ") (decimal v.accounts) (codes " money ") (decimal v.money) end_part

  digest_is_part : digest_words v ++ (count_words v ++ work_words v) ≡ digest_part
  digest_is_part = ap (λ (t : List ℕ). digest_words v ++ t) count_is ∙ four (codes " opening ") (encode_lower v.opening) (codes " closing ") (encode_lower v.closing) count_part

  setup_is : (rest : List ℕ) → setup_words v ++ rest ≡ codes "link version " ++ (version_digit v.version ++ (codes " committee " ++ (encode_lower v.committee ++ rest)))
  setup_is rest =
      append_assoc (version_words v.version) (codes " committee " ++ encode_lower v.committee) rest
      ∙ (ap (λ (t : List ℕ). version_words v.version ++ t) (append_assoc (codes " committee ") (encode_lower v.committee) rest)
      ∙ (ap (λ (t : List ℕ). t ++ (codes " committee " ++ (encode_lower v.committee ++ rest))) (version_is v.version)
      ∙ append_assoc (codes "link version ") (version_digit v.version) (codes " committee " ++ (encode_lower v.committee ++ rest))))

  flat : link_line v ≡ whole
  flat =
      append_assoc (setup_words v ++ digest_words v) (count_words v) (work_words v)
      ∙ (append_assoc (setup_words v) (digest_words v) (count_words v ++ work_words v)
      ∙ (ap (λ (t : List ℕ). setup_words v ++ t) digest_is_part ∙ setup_is digest_part))

  wide : (n : ℕ) → n < 2 ^ 63 → n < 2 ^ 64
  wide n h = omega (arith, h)

  wider : (n : ℕ) → n < 2 ^ 32 → n < 2 ^ 64
  wider n h = omega (arith, h)

  pub words_are : Fits v → pieces 32 (link_line v) ≡ link_words v
  unfolding pieces_after
  words_are fits =
      ap (pieces 32) flat
      ∙ ap (λ (ps : List (List ℕ)). codes "link" ∷ codes "version" ∷ ps)
      (pair (version_digit v.version) (codes "committee") _ (version_word v.version) refl
      ∙ ap (λ (ps : List (List ℕ)). version_digit v.version ∷ codes "committee" ∷ ps)
      (pair (encode_lower v.committee) (codes "opening") _ (digest_word v.committee fits.committee) refl
      ∙ ap (λ (ps : List (List ℕ)). encode_lower v.committee ∷ codes "opening" ∷ ps)
      (pair (encode_lower v.opening) (codes "closing") _ (digest_word v.opening fits.opening) refl
      ∙ ap (λ (ps : List (List ℕ)). encode_lower v.opening ∷ codes "closing" ∷ ps)
      (pair (encode_lower v.closing) (codes "accounts") _ (digest_word v.closing fits.closing) refl
      ∙ ap (λ (ps : List (List ℕ)). encode_lower v.closing ∷ codes "accounts" ∷ ps)
      (pair (decimal v.accounts) (codes "money") _ (decimal_word v.accounts (wider v.accounts fits.accounts)) refl
      ∙ ap (λ (ps : List (List ℕ)). decimal v.accounts ∷ codes "money" ∷ ps)
      (pair (decimal v.money) (codes "transactions") _ (decimal_word v.money (wide v.money fits.money)) refl
      ∙ ap (λ (ps : List (List ℕ)). decimal v.money ∷ codes "transactions" ∷ ps)
      (last_two (decimal v.transactions) (end_digits v.end) (decimal_word v.transactions (wider v.transactions fits.transactions)) (end_is_word v.end))))))))

  -- they say the link
  words_say : Fits v → link_in (link_words v) ≡ Some v
  unfolding link_in link_of_words
  words_say fits =
      let a : version_in (version_digit v.version) ≡ Some v.version = version_read v.version in
      let b : digest_in (encode_lower v.committee) ≡ Some v.committee = digest_read v.committee fits.committee in
      let c : digest_in (encode_lower v.opening) ≡ Some v.opening = digest_read v.opening fits.opening in
      let d : digest_in (encode_lower v.closing) ≡ Some v.closing = digest_read v.closing fits.closing in
      let e : below 4294967296 (decimal v.accounts) ≡ Some v.accounts = below_read 4294967296 v.accounts fits.accounts (wider v.accounts fits.accounts) in
      let f : below 9223372036854775808 (decimal v.money) ≡ Some v.money = below_read 9223372036854775808 v.money fits.money (wide v.money fits.money) in
      let g : below 4294967296 (decimal v.transactions) ≡ Some v.transactions = below_read 4294967296 v.transactions fits.transactions (wider v.transactions fits.transactions) in
      let h : end_in (end_digits v.end) ≡ Some v.end = end_read v.end in
      (λ i. said (a i) (b i) (c i) (d i) (e i) (f i) (g i) (h i))

  pub line_read : (line : List ℕ) → IsLineOf v line → link_of line ≡ Some v
  line_read line is =
      ap link_of is.1
      ∙ (ap (checked (link_line v)) (ap link_in (words_are is.0) ∙ words_say is.0)
      ∙ ap (λ (t : Bool). if t then Some v else None) ((bytes_eq-Decides (link_line v) (link_line v)).1 refl))

-- ---- what is read is the link of a line

bind_some : {A B : Type 0} (o : Option A) (f : A → Option B) (y : B) → (o >>= f) ≡ Some y → (x : A) × (o ≡ Some x) × (f x ≡ Some y)
bind_some (Some x) f y h = (x, refl, h)
bind_some None f y h = absurd cc

some_same : {A : Type 0} (x y : A) → Some x ≡ Some y → x ≡ y
some_same x y h = cc

said_fits : (words : List (List ℕ)) (v : LinkValue) → link_of_words words ≡ Some v → Fits v
unfolding link_of_words
said_fits words v h =
    let p0 = bind_some (version_in (word words 2)) _ v h in
    let p1 = bind_some (digest_in (word words 4)) _ v p0.2 in
    let p2 = bind_some (digest_in (word words 6)) _ v p1.2 in
    let p3 = bind_some (digest_in (word words 8)) _ v p2.2 in
    let p4 = bind_some (count_in (word words 10)) _ v p3.2 in
    let p5 = bind_some (below 9223372036854775808 (word words 12)) _ v p4.2 in
    let p6 = bind_some (count_in (word words 14)) _ v p5.2 in
    let p7 = bind_some (end_in (word words 15)) _ v p6.2 in
    subst Fits (some_same _ v p7.2) (record {
      committee = digest_is (word words 4) p1.0 p1.1;
      opening = digest_is (word words 6) p2.0 p2.1;
      closing = digest_is (word words 8) p3.0 p3.1;
      accounts = below_limits 4294967296 p4.0 (word words 10) p4.1;
      money = below_limits 9223372036854775808 p5.0 (word words 12) p5.1;
      transactions = below_limits 4294967296 p6.0 (word words 14) p6.1;
    })

link_fits : (words : List (List ℕ)) (v : LinkValue) → link_in words ≡ Some v → Fits v
unfolding link_in
link_fits words v h = by_count (length words == 16) h
  where
    by_count : (b : Bool) → (if b then link_of_words words else None) ≡ Some v → Fits v
    by_count true k = said_fits words v k
    by_count false k = absurd cc

pub line_is : (v : LinkValue) (line : List ℕ) → link_of line ≡ Some v → IsLineOf v line
line_is v line h = found (link_in (pieces 32 line)) refl h
  where
    found : (o : Option LinkValue) → link_in (pieces 32 line) ≡ o → checked line o ≡ Some v → IsLineOf v line
    found None e k = absurd cc
    found (Some w) e k = by_test (bytes_eq (link_line w) line) refl k
      where
        by_test : (b : Bool) → bytes_eq (link_line w) line ≡ b → (if b then Some w else None) ≡ Some v → IsLineOf v line
        by_test true t r =
            subst (λ (u : LinkValue). IsLineOf u line) (some_same w v r) (link_fits (pieces 32 line) w e, sym ((bytes_eq-Decides (link_line w) line).0 t))
        by_test false t r = absurd cc

pub line_is_none : (line : List ℕ) → link_of line ≡ None → IsNoLine line
line_is_none line h = λ v is. absurd (cc (sym h ∙ line_read v line is))

-- a line is that of one link at most
pub one_link : (v w : LinkValue) (line : List ℕ) → IsLineOf v line → IsLineOf w line → v ≡ w
one_link v w line one other = some_same v w (sym (line_read v line one) ∙ line_read w line other)
