-- Places that have something, listed by round and author, and one of them of the greatest round.
use Rattle.std.proofs.Common.{◌≡◌, ◌⊎◌, ◌≤◌, List, [], ◌∷◌, sym, subst, inl, inr, ⊎_elim, arith}
use Rattle.std.specs.List.{Contains}
use Rattle.std.proofs.lemmas.Bool.{cases_lt}
use Rattle.bk_cert.proofs.Lists.{none_in_nil, contains_cases, contains_first, contains_later}
use Rattle.bk_cert.proofs.Refs.{same_place}
use Rattle.bk_cert.specs.Place.{IsBefore, IsListed, Lists}
use Rattle.bk_cert.specs.declared.place.CertRef.{CertRef}
use Rattle.bk_laws.proofs.Deciding.{Decided}

before_cases : (a b : CertRef) → IsBefore a b ⊎ ((a ≡ b) ⊎ IsBefore b a)
before_cases a b = ⊎_elim
    (λ l. inl (inl l))
    (λ h. ⊎_elim
    (λ l. inr (inr (inl l)))
    (λ k. let e : a.round ≡ b.round = omega arith in ⊎_elim
    (λ l. inl (inr (e, l)))
    (λ m. ⊎_elim
    (λ l. inr (inr (inr (sym e, l))))
    (λ n. inr (inl (same_place a b e (omega arith))))
    (cases_lt b.author a.author))
    (cases_lt a.author b.author))
    (cases_lt b.round a.round))
    (cases_lt a.round b.round)

before_before : (a b c : CertRef) → IsBefore a b → IsBefore b c → IsBefore a c
before_before a b c (inl h) (inl k) = inl (omega arith)
before_before a b c (inl h) (inr k) = let e = k.0 in inl (omega arith)
before_before a b c (inr h) (inl k) = let e = h.0 in inl (omega arith)
before_before a b c (inr h) (inr k) = let e = h.0 in let f = k.0 in let l = h.1 in let m = k.1 in inr (omega arith, omega arith)

-- a list by round and author of one more place
record OneMore (x : CertRef) (xs : List CertRef) : Type 0 where
  all : List CertRef
  listed : IsListed all
  from : (b : CertRef) → Contains all b → (x ≡ b) ⊎ Contains xs b
  to : (b : CertRef) → (x ≡ b) ⊎ Contains xs b → Contains all b

insert_first : (x : CertRef) (xs : List CertRef) → ((b : CertRef) → Contains xs b → IsBefore x b) → IsListed xs → OneMore x xs
insert_first x xs before listed = record {
  all = x ∷ xs;
  listed = (before, listed);
  from = contains_cases x xs;
  to = λ b. ⊎_elim (λ (e : x ≡ b). subst (Contains (x ∷ xs)) e (contains_first x xs)) (contains_later x xs b);
}

insert_same : (x y : CertRef) (ys : List CertRef) → x ≡ y → IsListed (y ∷ ys) → OneMore x (y ∷ ys)
insert_same x y ys e listed = record {
  all = y ∷ ys;
  listed = listed;
  from = λ b t. inr t;
  to = λ b. ⊎_elim (λ (f : x ≡ b). subst (Contains (y ∷ ys)) f (subst (Contains (y ∷ ys)) (sym e) (contains_first y ys))) (λ t. t);
}

insert_later : (x y : CertRef) (ys : List CertRef) → IsBefore y x → IsListed (y ∷ ys) → OneMore x ys → OneMore x (y ∷ ys)
insert_later x y ys before listed more = record {
  all = y ∷ more.all;
  listed = (λ b t. ⊎_elim (λ (e : x ≡ b). subst (IsBefore y) e before) (λ (u : Contains ys b). listed.0 b u) (more.from b t), more.listed);
  from = λ b t. ⊎_elim
      (λ (e : y ≡ b). inr (subst (Contains (y ∷ ys)) e (contains_first y ys)))
      (λ (u : Contains more.all b). ⊎_elim (λ (e : x ≡ b). inl e) (λ (v : Contains ys b). inr (contains_later y ys b v)) (more.from b u))
      (contains_cases y more.all b t);
  to = λ b. ⊎_elim
      (λ (e : x ≡ b). contains_later y more.all b (more.to b (inl e)))
      (λ (t : Contains (y ∷ ys) b). ⊎_elim
      (λ (e : y ≡ b). subst (Contains (y ∷ more.all)) e (contains_first y more.all))
      (λ (u : Contains ys b). contains_later y more.all b (more.to b (inr u)))
      (contains_cases y ys b t));
}

one_more : (x : CertRef) (xs : List CertRef) → IsListed xs → OneMore x xs
one_more x [] listed = insert_first x [] (λ b t. absurd (none_in_nil b t)) listed
one_more x (y ∷ ys) listed = ⊎_elim
    (λ (l : IsBefore x y). insert_first x (y ∷ ys)
    (λ b t. ⊎_elim (λ (e : y ≡ b). subst (IsBefore x) e l) (λ (u : Contains ys b). before_before x y b l (listed.0 b u)) (contains_cases y ys b t))
    listed)
    (λ (n : (x ≡ y) ⊎ IsBefore y x). ⊎_elim
    (λ (e : x ≡ y). insert_same x y ys e listed)
    (λ (h : IsBefore y x). insert_later x y ys h listed (one_more x ys listed.1))
    n)
    (before_cases x y)

-- those of a list that have it, by round and author
record Found (P : CertRef → Type 0) (all : List CertRef) : Type 0 where
  found : List CertRef
  listed : IsListed found
  each : (b : CertRef) → Contains found b → P b
  every : (b : CertRef) → Contains all b → P b → Contains found b

found_more : (P : CertRef → Type 0) (x : CertRef) (xs : List CertRef) (h : Found P xs) → P x → Found P (x ∷ xs)
found_more P x xs h p =
    let more : OneMore x h.found = one_more x h.found h.listed in
    record {
      found = more.all;
      listed = more.listed;
      each = λ b t. ⊎_elim (λ (e : x ≡ b). subst P e p) (λ (u : Contains h.found b). h.each b u) (more.from b t);
      every = λ b t q. ⊎_elim (λ (e : x ≡ b). more.to b (inl e)) (λ (u : Contains xs b). more.to b (inr (h.every b u q))) (contains_cases x xs b t);
    }

found_same : (P : CertRef → Type 0) (x : CertRef) (xs : List CertRef) → Found P xs → (P x → ⊥) → Found P (x ∷ xs)
found_same P x xs h n = record {
  found = h.found;
  listed = h.listed;
  each = h.each;
  every = λ b t q. ⊎_elim (λ (e : x ≡ b). absurd (n (subst P (sym e) q))) (λ (u : Contains xs b). h.every b u q) (contains_cases x xs b t);
}

module _ (P : CertRef → Type 0) (d : (a : CertRef) → Decided (P a)) where
  find_all : (all : List CertRef) → Found P all
  find_all [] = record { found = []; listed = tt; each = λ b t. absurd (none_in_nil b t); every = λ b t q. absurd (none_in_nil b t) }
  find_all (x ∷ xs) = ⊎_elim (λ (p : P x). found_more P x xs (find_all xs) p) (λ (n : P x → ⊥). found_same P x xs (find_all xs) n) (d x)

  -- whatever has it is in a list, and so it is listed
  pub listing_exists : (all : List CertRef) → ((a : CertRef) → P a → Contains all a) → (xs : List CertRef) × Lists xs P
  listing_exists all in_all =
      let h : Found P all = find_all all in
      (h.found, record { listed = h.listed; sound = h.each; complete = λ b q. h.every b (in_all b q) q })

  -- one that has it, of the greatest round of those in a list
  abbrev pub Greatest : List CertRef → Type 0
  Greatest all = (a : CertRef) × P a × ((b : CertRef) → Contains all b → P b → b.round ≤ a.round)

  -- nothing in a list has it
  abbrev pub NoneHas : List CertRef → Type 0
  NoneHas all = (b : CertRef) → Contains all b → P b → ⊥

  pub greatest_or_none : (all : List CertRef) → Greatest all ⊎ NoneHas all
  greatest_or_none [] = inr (λ b t q. none_in_nil b t)
  greatest_or_none (x ∷ xs) = ⊎_elim
      (λ (p : P x). ⊎_elim (λ (g : Greatest xs). inl (either p g)) (λ (n : NoneHas xs). inl (alone p n)) (greatest_or_none xs))
      (λ (m : P x → ⊥). ⊎_elim (λ (g : Greatest xs). inl (passed m g)) (λ (n : NoneHas xs). inr (none m n)) (greatest_or_none xs))
      (d x)
    where
      alone : P x → NoneHas xs → Greatest (x ∷ xs)
      alone p n = (x, p, λ b t q. ⊎_elim (λ (e : x ≡ b). let f : x.round ≡ b.round = λ i. (e i).round in omega arith) (λ (u : Contains xs b). absurd (n b u q)) (contains_cases x xs b t))

      passed : (P x → ⊥) → Greatest xs → Greatest (x ∷ xs)
      passed m g = (g.0, g.1, λ b t q. ⊎_elim (λ (e : x ≡ b). absurd (m (subst P (sym e) q))) (λ (u : Contains xs b). g.2 b u q) (contains_cases x xs b t))

      either : P x → Greatest xs → Greatest (x ∷ xs)
      either p g = ⊎_elim
          (λ l. (g.0, g.1, λ b t q. ⊎_elim (λ (e : x ≡ b). let f : x.round ≡ b.round = λ i. (e i).round in omega arith) (λ (u : Contains xs b). g.2 b u q) (contains_cases x xs b t)))
          (λ h. (x, p, λ b t q. ⊎_elim (λ (e : x ≡ b). let f : x.round ≡ b.round = λ i. (e i).round in omega arith) (λ (u : Contains xs b). let low = g.2 b u q in omega arith) (contains_cases x xs b t)))
          (cases_lt x.round g.0.round)

      none : (P x → ⊥) → NoneHas xs → NoneHas (x ∷ xs)
      none m n b t q = ⊎_elim (λ (e : x ≡ b). m (subst P (sym e) q)) (λ (u : Contains xs b). n b u q) (contains_cases x xs b t)
