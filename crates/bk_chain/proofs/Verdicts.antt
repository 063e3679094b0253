-- A list of links has exactly one verdict.
use Rattle.std.proofs.Common.{◌≡◌, ℕ, suc, ◌+◌, ◌<◌, List, [], ◌∷◌, ◌++◌, length, Option, Some, None, refl, sym, ap, subst, ◌∙◌, append_assoc, arith}
use Rattle.bk_chain.specs.declared.link.LinkValue.{LinkValue}
use Rattle.bk_chain.specs.declared.verdict.Break.{Break}
use Rattle.bk_chain.specs.declared.verdict.Chain.{Chain}
use Rattle.bk_chain.specs.declared.verdict.Verdict.{Verdict}
use Rattle.bk_chain.specs.declared.verdict.Verdict.TheVariants as verdict
use Rattle.bk_chain.specs.Chain.{AllFollow, IsBrokenAt, IsChainOf, IsVerdict, break_of, transactions_in}
use Rattle.bk_chain.proofs.Following.{follow_more}

-- ---- heads and ends of lists

pub head_same : {A : Type 0} (x y : A) (xs ys : List A) → x ∷ xs ≡ y ∷ ys → x ≡ y
head_same x y xs ys e = cc

pub tail_same : {A : Type 0} (x y : A) (xs ys : List A) → x ∷ xs ≡ y ∷ ys → xs ≡ ys
tail_same x y xs ys e = cc

abbrev last_in : LinkValue → List LinkValue → LinkValue
last_in d [] = d
last_in d (x ∷ xs) = last_in x xs

last_is : (d x : LinkValue) (xs : List LinkValue) → last_in d (xs ++ x ∷ []) ≡ x
last_is d x [] = refl
last_is d x (y ∷ xs) = last_is y x xs

last_same : (x y : LinkValue) (xs ys : List LinkValue) → xs ++ x ∷ [] ≡ ys ++ y ∷ [] → x ≡ y
last_same x y xs ys e = sym (last_is x x xs) ∙ (ap (last_in x) e ∙ last_is x y ys)

-- ---- there is one

first_of : (front : List LinkValue) (last : LinkValue) → (first : LinkValue) × (later : List LinkValue) × (front ++ last ∷ [] ≡ first ∷ later)
first_of [] last = (last, [], refl)
first_of (v ∷ front) last = (v, front ++ last ∷ [], refl)

walk : (front : List LinkValue) (last : LinkValue) (more : List LinkValue) → AllFollow (front ++ last ∷ []) → (v : Verdict) × IsVerdict (front ++ last ∷ more) v
walk front last [] follow =
    let parts = first_of front last in (
      verdict.Good (record {
        feeds = length (front ++ last ∷ []);
        opening = parts.0.opening;
        closing = last.closing;
        transactions = transactions_in (front ++ last ∷ []);
        end = last.end;
      }),
      record {
        first = parts.0;
        later = parts.1;
        from = parts.2;
        front = front;
        last = last;
        to = refl;
        follow = follow;
        feeds = refl;
        opening = refl;
        closing = refl;
        transactions = refl;
        end = refl;
      },
    )
walk front last (w ∷ more) follow =
    by_break (break_of last w) refl (λ e. walk (front ++ last ∷ []) w more (follow_more front last w follow e))
  where
    by_break : (o : Option Break) → break_of last w ≡ o → (break_of last w ≡ None → (v : Verdict) × IsVerdict ((front ++ last ∷ []) ++ w ∷ more) v)
        → (v : Verdict) × IsVerdict (front ++ last ∷ w ∷ more) v
    by_break (Some by_what) e goes = (
      verdict.Broken (length front + 2) by_what,
      record { front = front; before = last; broken = w; more = more; parts = refl; number = refl; follow = follow; breaks = e },
    )
    by_break None e goes =
        let found = goes e in
        (found.0, subst (λ (xs : List LinkValue). IsVerdict xs found.0) (append_assoc front (last ∷ []) (w ∷ more)) found.1)

pub some_verdict : (links : List LinkValue) → 0 < length links → (v : Verdict) × IsVerdict links v
some_verdict [] some = absurd (omega arith)
some_verdict (v ∷ more) some = walk [] v more tt

-- ---- there are no two

follow_later : (v : LinkValue) (links : List LinkValue) → AllFollow (v ∷ links) → AllFollow links
follow_later v [] h = tt
follow_later v (w ∷ more) h = h.1

-- where all follow, no two neighbours break
none_breaks : (front : List LinkValue) (before broken : LinkValue) (more : List LinkValue) → AllFollow (front ++ before ∷ broken ∷ more) → break_of before broken ≡ None
none_breaks [] before broken more h = h.0
none_breaks (v ∷ front) before broken more h = none_breaks front before broken more (follow_later v (front ++ before ∷ broken ∷ more) h)

clash : (o : Option Break) (by_what : Break) → o ≡ None → o ≡ Some by_what → ⊥
clash o by_what e f = absurd (cc (sym e ∙ f))

one_break : (front other : List LinkValue) (a b c d : LinkValue) (more rest : List LinkValue) (by_what by_other : Break)
    → front ++ a ∷ b ∷ more ≡ other ++ c ∷ d ∷ rest → AllFollow (front ++ a ∷ []) → AllFollow (other ++ c ∷ []) → break_of a b ≡ Some by_what → break_of c d ≡ Some by_other
    → (length front ≡ length other) × (by_what ≡ by_other)
one_break [] [] a b c d more rest by_what by_other e f g h k =
    let first = head_same a c (b ∷ more) (d ∷ rest) e in
    let second = head_same b d more rest (tail_same a c (b ∷ more) (d ∷ rest) e) in
    let same : Some by_what ≡ Some by_other = sym h ∙ ((λ i. break_of (first i) (second i)) ∙ k) in
    (refl, cc)
one_break [] (v ∷ []) a b c d more rest by_what by_other e f g h k =
    let first = head_same a v (b ∷ more) (c ∷ d ∷ rest) e in
    let second = head_same b c more (d ∷ rest) (tail_same a v (b ∷ more) (c ∷ d ∷ rest) e) in
    absurd (clash (break_of a b) by_what ((λ i. break_of (first i) (second i)) ∙ g.0) h)
one_break [] (v ∷ w ∷ other) a b c d more rest by_what by_other e f g h k =
    let first = head_same a v (b ∷ more) (w ∷ (other ++ c ∷ d ∷ rest)) e in
    let second = head_same b w more (other ++ c ∷ d ∷ rest) (tail_same a v (b ∷ more) (w ∷ (other ++ c ∷ d ∷ rest)) e) in
    absurd (clash (break_of a b) by_what ((λ i. break_of (first i) (second i)) ∙ g.0) h)
one_break (v ∷ []) [] a b c d more rest by_what by_other e f g h k =
    let first = head_same v c (a ∷ b ∷ more) (d ∷ rest) e in
    let second = head_same a d (b ∷ more) rest (tail_same v c (a ∷ b ∷ more) (d ∷ rest) e) in
    absurd (clash (break_of c d) by_other ((λ i. break_of (sym first i) (sym second i)) ∙ f.0) k)
one_break (v ∷ w ∷ front) [] a b c d more rest by_what by_other e f g h k =
    let first = head_same v c (w ∷ (front ++ a ∷ b ∷ more)) (d ∷ rest) e in
    let second = head_same w d (front ++ a ∷ b ∷ more) rest (tail_same v c (w ∷ (front ++ a ∷ b ∷ more)) (d ∷ rest) e) in
    absurd (clash (break_of c d) by_other ((λ i. break_of (sym first i) (sym second i)) ∙ f.0) k)
one_break (v ∷ front) (w ∷ other) a b c d more rest by_what by_other e f g h k =
    let deeper = one_break front other a b c d more rest by_what by_other (tail_same v w (front ++ a ∷ b ∷ more) (other ++ c ∷ d ∷ rest) e)
    (follow_later v (front ++ a ∷ []) f) (follow_later w (other ++ c ∷ []) g) h k in
    (ap suc deeper.0, deeper.1)

one_chain : (links : List LinkValue) (c d : Chain) → IsChainOf links c → IsChainOf links d → c ≡ d
one_chain links c d one other =
    let first = head_same one.first other.first one.later other.later (sym one.from ∙ other.from) in
    let last = last_same one.last other.last one.front other.front (sym one.to ∙ other.to) in
    let a : c.feeds ≡ d.feeds = one.feeds ∙ sym other.feeds in
    let b : c.opening ≡ d.opening = one.opening ∙ (ap (λ (v : LinkValue). v.opening) first ∙ sym other.opening) in
    let e : c.closing ≡ d.closing = one.closing ∙ (ap (λ (v : LinkValue). v.closing) last ∙ sym other.closing) in
    let f : c.transactions ≡ d.transactions = one.transactions ∙ sym other.transactions in
    let g : c.end ≡ d.end = one.end ∙ (ap (λ (v : LinkValue). v.end) last ∙ sym other.end) in
    (λ i. record { feeds = a i; opening = b i; closing = e i; transactions = f i; end = g i })

not_both : (links : List LinkValue) (c : Chain) (n : ℕ) (by_what : Break) → IsChainOf links c → IsBrokenAt links n by_what → ⊥
not_both links c n by_what good bad =
    clash (break_of bad.before bad.broken) by_what (none_breaks bad.front bad.before bad.broken bad.more (subst AllFollow bad.parts good.follow)) bad.breaks

pub one_verdict : (links : List LinkValue) (v w : Verdict) → IsVerdict links v → IsVerdict links w → v ≡ w
one_verdict links (verdict.Good c) (verdict.Good d) one other = ap verdict.Good (one_chain links c d one other)
one_verdict links (verdict.Good c) (verdict.Broken n by_what) one other = absurd (not_both links c n by_what one other)
one_verdict links (verdict.Broken n by_what) (verdict.Good c) one other = absurd (not_both links c n by_what other one)
one_verdict links (verdict.Broken n by_what) (verdict.Broken m by_other) one other =
    let same = one_break one.front other.front one.before one.broken other.before other.broken one.more other.more by_what by_other (sym one.parts ∙ other.parts) one.follow other.follow one.breaks other.breaks in
    let number : n ≡ m = omega (arith, one.number, other.number, same.0) in
    (λ i. verdict.Broken (number i) (same.1 i))
