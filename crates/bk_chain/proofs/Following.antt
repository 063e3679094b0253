-- Links that follow each other.
use Rattle.std.proofs.Common.{◌≡◌, ℕ, ◌+◌, ◌*◌, ◌<◌, ◌≤◌, ◌^◌, List, [], ◌∷◌, ◌++◌, length, get_or, take, drop, Some, None, refl, sym, ap, subst, ◌∙◌, append_assoc, arith, length-append}
use Rattle.std.proofs.lemmas.List.{at_drop_more, length-take-le, take_more, take_all, take-append-drop}
use Rattle.std.proofs.lemmas.List.Sums.{sum_by_push}
use Rattle.bk_chain.specs.declared.link.LinkValue.{LinkValue}
use Rattle.bk_chain.specs.declared.verdict.Break.{Break}
use Rattle.bk_chain.specs.Chain.{AllFollow, IsBrokenAt, IsChainOf, break_of, transactions_in}

-- one link more follows the last
pub follow_more : (front : List LinkValue) (last v : LinkValue) → AllFollow (front ++ last ∷ []) → break_of last v ≡ None → AllFollow ((front ++ last ∷ []) ++ v ∷ [])
follow_more [] last v h e = (e, tt)
follow_more (a ∷ []) last v h e = (h.0, (e, tt))
follow_more (a ∷ b ∷ front) last v h e = (h.0, follow_more (b ∷ front) last v h.1 e)

-- the first of these links follow each other, and this is the last of them
pub record Walked (links : List LinkValue) (at : ℕ) (last : LinkValue) (total : ℕ) : Type 0 where
  pub front : List LinkValue
  pub taken : take at links ≡ front ++ last ∷ []
  pub follow : AllFollow (front ++ last ∷ [])
  pub sum : total ≡ transactions_in (front ++ last ∷ [])

pub first_walked : (links : List LinkValue) (v : LinkValue) (total : ℕ) → 0 < length links → v ≡ get_or links 0 v → total ≡ v.transactions → Walked links 1 v total
first_walked [] v total some is sum = absurd (omega arith)
first_walked (w ∷ more) v total some is sum = record {
  front = [];
  taken = ap (λ (u : LinkValue). u ∷ []) (sym is);
  follow = tt;
  sum = omega (arith, sum, sum_by_push (λ (u : LinkValue). u.transactions) [] v);
}

pub next_walked : (links : List LinkValue) (v last : LinkValue) (at total more : ℕ) → at < length links → v ≡ get_or links at v → break_of last v ≡ None
    → more ≡ total + v.transactions → Walked links at last total → Walked links (at + 1) v more
next_walked links v last at total more within is follows sum w =
    let all : List LinkValue = w.front ++ last ∷ [] in
    let grown : take (at + 1) links ≡ all ++ v ∷ [] = take_more links at v within ∙ (ap (λ (xs : List LinkValue). xs ++ get_or links at v ∷ []) w.taken ∙ ap (λ (u : LinkValue). all ++ u ∷ []) (sym is)) in
    let pushed = sum_by_push (λ (u : LinkValue). u.transactions) all v in
    record {
      front = all;
      taken = grown;
      follow = follow_more w.front last v w.follow follows;
      sum = omega (arith, sum, w.sum, pushed);
    }

pub stops_there : (links : List LinkValue) (v last : LinkValue) (at total : ℕ) (by_what : Break) → at < length links → v ≡ get_or links at v → break_of last v ≡ Some by_what
    → Walked links at last total → IsBrokenAt links (at + 1) by_what
stops_there links v last at total by_what within is breaks w =
    let long : length (w.front ++ last ∷ []) ≡ at = ap length (sym w.taken) ∙ length-take-le at links (omega (arith, within)) in
    let rest : drop at links ≡ v ∷ drop (at + 1) links = at_drop_more (λ (xs : List LinkValue). xs) links at v within ∙ ap (λ (u : LinkValue). u ∷ drop (at + 1) links) (sym is) in
    record {
      front = w.front;
      before = last;
      broken = v;
      more = drop (at + 1) links;
      parts = sym (take-append-drop at links)
          ∙ (ap (λ (xs : List LinkValue). xs ++ drop at links) w.taken
          ∙ (append_assoc w.front (last ∷ []) (drop at links)
          ∙ ap (λ (xs : List LinkValue). w.front ++ last ∷ xs) rest));
      number = omega (arith, long, length-append w.front (last ∷ []));
      follow = w.follow;
      breaks = breaks;
    }

pub walked_all : (links : List LinkValue) (first last : LinkValue) (at total : ℕ) → 0 < length links → first ≡ get_or links 0 first → length links ≤ at → Walked links at last total
    → IsChainOf links (record { feeds = length links; opening = first.opening; closing = last.closing; transactions = total; end = last.end })
walked_all [] first last at total some is past w = absurd (omega arith)
walked_all (v ∷ more) first last at total some is past w =
    let all : v ∷ more ≡ w.front ++ last ∷ [] = sym (take_all at (v ∷ more) past) ∙ w.taken in
    record {
      first = v;
      later = more;
      from = refl;
      front = w.front;
      last = last;
      to = all;
      follow = subst AllFollow (sym all) w.follow;
      feeds = refl;
      opening = ap (λ (u : LinkValue). u.opening) is;
      closing = refl;
      transactions = w.sum ∙ ap transactions_in (sym all);
      end = refl;
    }

pub room : (at count total more : ℕ) → at < count → count < 2 ^ 32 → total ≤ at * 2 ^ 32 → more < 2 ^ 32 → total + more < 2 ^ 64
room at count total more within few so_far one = omega (arith, within, few, so_far, one)

pub room_next : (at total more : ℕ) → total ≤ at * 2 ^ 32 → more < 2 ^ 32 → total + more ≤ (at + 1) * 2 ^ 32
room_next at total more so_far one = omega (arith, so_far, one)

pub more_is : (total one other : ℕ) → one ≡ other → total + one ≡ total + other
more_is total one other e = ap (λ (n : ℕ). total + n) e
