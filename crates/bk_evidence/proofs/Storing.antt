-- What is kept beside the entries, where one more is stored.
use Rattle.std.proofs.Common.{◌≡◌, ◌+◌, ◌<◌, ◌≤◌, ℕ, List, [], ◌∷◌, ◌++◌, length, take, Option, Some, None, sym, ap, subst, ◌∙◌, ⊎_elim, get_or, arith}
use Rattle.std.specs.Prelude.{option_map, slice_index_or, IfSome}
use Rattle.std.specs.List.{Contains}
use Rattle.std.proofs.lemmas.List.{take_more, take_all, length-append, get_or_push}
use Rattle.std.proofs.Math.Seq.{take-append_seam}
use Rattle.std.proofs.lemmas.List.Elements.{Contains-get_or, Contains-push_cases}
use Rattle.std.specs.List.{position}
use Rattle.bk_cert.proofs.Lists.{none_in_nil}
use Rattle.bk_evidence.specs.Collisions.{id_cmp, CollidesBy}
use Rattle.bk_evidence.specs.Batches.{Batch, batch_with, has_digest, payload_of}
use Rattle.bk_cert.specs.Node.{Node}
use Rattle.bk_evidence.specs.Held.{cert_with}
use Rattle.bk_index.specs.Finding.{has_key}
use Rattle.bk_evidence.specs.private.Least.{least_of, IsLeastBy}
use Rattle.bk_evidence.proofs.Colliding.{HasName, least_new, least_colliding}
use Rattle.bk_evidence.proofs.Naming.{named_at, named_none, find_position, find_none}

-- ---- a search through a list

module _ {X : Type 0} where
  pub none_yet : (b : X) → Contains (take 0 []) b → ⊥
  none_yet b h = none_in_nil b h

  pub none_more : (xs : List X) (i : ℕ) (d b : X) → i < length xs → d ≡ get_or xs i d → (d ≡ b → ⊥)
      → (Contains (take i xs) b → ⊥) → Contains (take (i + 1) xs) b → ⊥
  none_more xs i d b low is apart none h =
      let there : Contains (take i xs ++ d ∷ []) b = subst (λ (ys : List X). Contains ys b) (take_more xs i d low ∙ ap (λ y. take i xs ++ y ∷ []) (sym is)) h in
      ⊎_elim none apart (Contains-push_cases (take i xs) d b there)

  pub none_in_all : (xs : List X) (i : ℕ) (b : X) → length xs ≤ i → (Contains (take i xs) b → ⊥) → Contains xs b → ⊥
  none_in_all xs i b high none h = none (subst (λ (ys : List X). Contains ys b) (sym (take_all i xs high)) h)

  pub some_at : (xs : List X) (i : ℕ) (d b : X) → i < length xs → d ≡ get_or xs i d → d ≡ b → Contains xs b
  some_at xs i d b low is same = subst (Contains xs) (sym is ∙ same) (Contains-get_or xs i d low)

-- ---- an entry under a name

module _ {E : Type 0} (name : E → List ℕ) (xs : List E) (o : Option (List ℕ)) where
  -- an entry that is found is held
  pub held_at : (id : List ℕ) (k : ℕ) (d : E) → position (has_key name id) xs ≡ Some k → HasName name xs id
  held_at id k d e = let at = named_at name xs id k e in (slice_index_or xs k d, Contains-get_or xs k d at.0, at.1 d)

  -- a first entry under its name
  pub keeps_new : (ys : List E) (x : E) → IsLeastBy id_cmp (CollidesBy name xs) o → position (has_key name (name x)) xs ≡ None
      → ys ≡ xs ++ x ∷ [] → IsLeastBy id_cmp (CollidesBy name ys) o
  keeps_new ys x least absent e =
      subst (λ (zs : List E). IsLeastBy id_cmp (CollidesBy name zs) o) (sym e) (least_new name xs x o (named_none name xs (name x) absent) least)

  -- a further one
  pub keeps_more : (ys : List E) (x : E) (k : ℕ) → IsLeastBy id_cmp (CollidesBy name xs) o → position (has_key name (name x)) xs ≡ Some k → (Contains xs x → ⊥) → ys ≡ xs ++ x ∷ []
      → IsLeastBy id_cmp (CollidesBy name ys) (Some (least_of id_cmp o (name x)))
  keeps_more ys x k least there absent e =
      subst (λ (zs : List E). IsLeastBy id_cmp (CollidesBy name zs) (Some (least_of id_cmp o (name x)))) (sym e)
      (least_colliding name xs x o (held_at (name x) k x there) absent least)

-- ---- payloads

module _ (xs : List Batch) (digest : List ℕ) where
  pub payload_found : (k : ℕ) (r : List ℕ) → position (has_digest digest) xs ≡ Some k → ((d : Batch) → r ≡ (get_or xs k d).payload) → Some r ≡ payload_of xs digest
  payload_found k r e read =
      let none = batch_with [] [] in
      ap Some (read none) ∙ ap (option_map (λ (b : Batch). b.payload)) (sym (find_position (has_digest digest) xs k none e))

  pub payload_absent : position (has_digest digest) xs ≡ None → None ≡ payload_of xs digest
  payload_absent e = ap (option_map (λ (b : Batch). b.payload)) (sym (find_none (has_digest digest) xs e))

-- ---- certificates

module _ (xs : List Node) (id : List ℕ) where
  pub cert_found : (k : ℕ) (r : Node) → position (has_key (λ (c : Node). c.id) id) xs ≡ Some k → ((d : Node) → r ≡ get_or xs k d) → Some r ≡ cert_with xs id
  cert_found k r e read = ap Some (read r) ∙ sym (find_position (has_key (λ (c : Node). c.id) id) xs k r e)

  pub cert_absent : position (has_key (λ (c : Node). c.id) id) xs ≡ None → None ≡ cert_with xs id
  cert_absent e = sym (find_none (has_key (λ (c : Node). c.id) id) xs e)

-- ---- the last one of a list

module _ {E : Type 0} (xs ys : List E) (x : E) (n : ℕ) (n_is : n ≡ length xs) (e : ys ≡ xs ++ x ∷ []) where
  pub before_last : take n ys ≡ xs
  before_last = (λ i. take (n_is i) (e i)) ∙ take-append_seam xs (x ∷ [])

  pub last_is : (d : E) → get_or ys n d ≡ x
  last_is d = ap (λ (zs : List E). get_or zs n d) e ∙ get_or_push xs x d n (sym n_is)

  pub length_last : length ys ≡ n + 1
  length_last = omega (arith, n_is, ap length e, length-append xs (x ∷ []))

-- what is handed back is what was offered
pub given_back : {E : Type 0} (o : Option (ℕ × E)) (k : ℕ) (e x : E) → o ≡ Some (k, e) → IfSome o (λ f. f.1 ≡ x) → e ≡ x
given_back {E} o k e x is back = subst (λ (p : Option (ℕ × E)). IfSome p (λ f. f.1 ≡ x)) is back
