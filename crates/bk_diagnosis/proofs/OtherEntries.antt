-- What collides is what has another entry than the one that is found under its name.
use Rattle.std.proofs.Common.{◌≡◌, ◌≢◌, ◌⊎◌, ℕ, Bool, true, false, List, [], ◌∷◌, get_or, Option, Some, None, refl, sym, ap, subst, ◌∙◌, inl, inr, ⊎_elim}
use Rattle.std.specs.Prelude.{◌↔◌, IsSome}
use Rattle.std.specs.List.{Contains, find}
use Rattle.std.specs.Str.{bytes_eq}
use Rattle.std.specs.BTreeMap.{BTreeMap, get}
use Rattle.std.proofs.lemmas.List.{get_or_default}
use Rattle.std.proofs.lemmas.List.Elements.{Contains-get_or}
use Rattle.std.proofs.lemmas.Slice.Eq.{bytes_eq-Decides}
use Rattle.std.proofs.lemmas.Bool.{true≢false, false≢true}
use Rattle.std.specs.Prelude.{option_map, cond, not, Decides}
use Rattle.bk_cert.specs.Equality.{header_eq}
use Rattle.bk_cert.proofs.Equality.{header_decided}
use Rattle.bk_cert.specs.Node.{Node}
use Rattle.bk_cert.proofs.Lists.{none_in_nil, contains_cases, contains_first, contains_later}
use Rattle.bk_evidence.specs.Batches.{Batch, payload_of, has_digest}
use Rattle.bk_evidence.specs.Collisions.{id_cmp, CollidesBy}
use Rattle.bk_evidence.specs.Held.{Collides}
use Rattle.bk_evidence.proofs.Judging.{same_cert, same_node}
use Rattle.bk_evidence.proofs.Payloads.{same_parts, decided_same}
use Rattle.bk_order.specs.Stops.{CollidesIn}
use Rattle.bk_diagnosis.specs.Evidence.{ListsIds}
use Rattle.bk_diagnosis.specs.private.Colliding.{HasEach, HasSome, IsOtherBatch, IsOtherCert, ListsSome}

-- where an entry with P differs from one of its name, and of two with one name one has P
module _ {E : Type 0} (name : E → List ℕ) (P : E → Type 0) (xs : List E)
    (yes : (e : E) → Contains xs e → P e → (f : E) × Contains xs f × (name f ≡ name e) × (f ≢ e))
    (one : (e f : E) → Contains xs e → Contains xs f → name e ≡ name f → e ≢ f → P e ⊎ P f) where
  pub some_collides : (id : List ℕ) → HasSome name P xs id → CollidesBy name xs id
  some_collides id (e, there, is, p) =
      let other = yes e there p in
      record { one = other.0; other = e; has_one = other.1; has_other = there; names_one = other.2 ∙ is; names_other = is; apart = other.3 }

  pub collides_some : (id : List ℕ) → CollidesBy name xs id → HasSome name P xs id
  collides_some id h = ⊎_elim
      (λ (p : P h.one). (h.one, h.has_one, h.names_one, p))
      (λ (p : P h.other). (h.other, h.has_other, h.names_other, p))
      (one h.one h.other h.has_one h.has_other (h.names_one ∙ sym h.names_other) h.apart)

-- ---- certificates

module _ (certs : List Node) (firsts : BTreeMap (List ℕ) ℕ) (has : HasEach certs firsts) where
  other_yes : (e : Node) → Contains certs e → IsOtherCert certs firsts e → (f : Node) × Contains certs f × (f.id ≡ e.id) × (f ≢ e)
  other_yes e there p =
      let at = has.inside e.id p.index p.found in
      (get_or certs p.index e, Contains-get_or certs p.index e at.0, at.1 e, p.apart)

  some_at : (o : Option ℕ) → IsSome o → (k : ℕ) × (o ≡ Some k)
  some_at None h = cc
  some_at (Some k) h = (k, refl)

  other_one : (e f : Node) → Contains certs e → Contains certs f → e.id ≡ f.id → e ≢ f → IsOtherCert certs firsts e ⊎ IsOtherCert certs firsts f
  other_one e f there also same apart = by (some_at (get id_cmp firsts e.id) (has.each e there))
    where
      by : (k : ℕ) × (get id_cmp firsts e.id ≡ Some k) → IsOtherCert certs firsts e ⊎ IsOtherCert certs firsts f
      by (k, found) = ⊎_elim
          (λ (is : get_or certs k f ≡ f). inl (record { index = k; found = found; apart = λ (t : get_or certs k e ≡ e). apart (sym t ∙ (get_or_default certs k e f (has.inside e.id k found).0 ∙ is)) }))
          (λ (other : get_or certs k f ≢ f). inr (record { index = k; found = ap (get id_cmp firsts) (sym same) ∙ found; apart = other }))
          (same_cert (get_or certs k f) f ((has.inside e.id k found).1 f ∙ same))

-- ---- batches

module _ {E : Type 0} (p : E → Bool) where
  -- what a search finds is there and passes; where it finds nothing, nothing does
  abbrev IsFinding : List E → Option E → Type 0
  IsFinding xs None = (e : E) → Contains xs e → p e ≡ false
  IsFinding xs (Some f) = Contains xs f × (p f ≡ true)

  finds_later : (x : E) (xs : List E) (o : Option E) → p x ≡ false → IsFinding xs o → IsFinding (x ∷ xs) o
  finds_later x xs None fails h = λ e t. ⊎_elim (λ (same : x ≡ e). ap p (sym same) ∙ fails) (λ (low : Contains xs e). h e low) (contains_cases x xs e t)
  finds_later x xs (Some f) fails h = (contains_later x xs f h.0, h.1)

  finds_by : (x : E) (xs : List E) (b : Bool) → p x ≡ b → IsFinding xs (find p xs) → IsFinding (x ∷ xs) (cond b (Some x) (find p xs))
  finds_by x xs true passes h = (contains_first x xs, passes)
  finds_by x xs false fails h = finds_later x xs (find p xs) fails h

  finds : (xs : List E) → IsFinding xs (find p xs)
  finds [] = λ e t. absurd (none_in_nil e t)
  finds (x ∷ xs) = finds_by x xs (p x) refl (finds xs)

none≢payload : (p : List ℕ) → ◌≡◌ {A = Option (List ℕ)} None (Some p) → ⊥
none≢payload p e = cc

same_payload : (p q : List ℕ) → ◌≡◌ {A = Option (List ℕ)} (Some p) (Some q) → p ≡ q
same_payload p q e = cc

abbrev payload_in : Option Batch → Option (List ℕ)
payload_in o = option_map (λ (b : Batch). b.payload) o

module _ (batches : List Batch) where
  found_under : (d : List ℕ) → IsFinding (has_digest d) batches (find (has_digest d) batches)
  found_under d = finds (has_digest d) batches

  itself : (d : List ℕ) → bytes_eq d d ≡ true
  itself d = (bytes_eq-Decides d d).1 refl

  batch_yes : (e : Batch) → Contains batches e → IsOtherBatch batches e → (f : Batch) × Contains batches f × (f.digest ≡ e.digest) × (f ≢ e)
  batch_yes e there p = by (find (has_digest e.digest) batches) refl (found_under e.digest)
    where
      by : (o : Option Batch) → find (has_digest e.digest) batches ≡ o → IsFinding (has_digest e.digest) batches o
          → (f : Batch) × Contains batches f × (f.digest ≡ e.digest) × (f ≢ e)
      by None is h = absurd (true≢false (sym (itself e.digest) ∙ h e there))
      by (Some f) is h = (
        f,
        h.0,
        (bytes_eq-Decides f.digest e.digest).0 h.1,
        λ (s : f ≡ e). p (ap payload_in is ∙ ap (λ (b : Batch). Some b.payload) s),
      )

  batch_one : (e f : Batch) → Contains batches e → Contains batches f → e.digest ≡ f.digest → e ≢ f → IsOtherBatch batches e ⊎ IsOtherBatch batches f
  batch_one e f there also same apart = by (find (has_digest e.digest) batches) refl (found_under e.digest)
    where
      by : (o : Option Batch) → find (has_digest e.digest) batches ≡ o → IsFinding (has_digest e.digest) batches o
          → IsOtherBatch batches e ⊎ IsOtherBatch batches f
      by None is h = absurd (true≢false (sym (itself e.digest) ∙ h e there))
      by (Some g) is h = ⊎_elim
          (λ (one : g.payload ≡ e.payload). inr (λ (q : payload_of batches f.digest ≡ Some f.payload).
          apart (same_parts e f same (sym one ∙ same_payload g.payload f.payload (sym (ap payload_in is) ∙ (ap (payload_of batches) same ∙ q))))))
          (λ (other : g.payload ≢ e.payload). inl (λ (q : payload_of batches e.digest ≡ Some e.payload). other (same_payload g.payload e.payload (sym (ap payload_in is) ∙ q))))
          (decided_same g.payload e.payload (bytes_eq g.payload e.payload) (bytes_eq-Decides g.payload e.payload))

-- ---- the tests

not_true : (b : Bool) → b ≡ true → not b ≡ true → ⊥
not_true true e h = false≢true h
not_true false e h = false≢true e

module _ {X : Type 0} (a b : X) (t : Bool) (decides : Decides t (a ≡ b)) where
  -- a test that the two differ
  pub differs : not t ≡ true → a ≢ b
  differs h = λ e. not_true t (decides.1 e) h

  pub differ_by : (u : Bool) → t ≡ u → a ≢ b → not u ≡ true
  differ_by true e apart = absurd (apart (decides.0 e))
  differ_by false e apart = refl

pub batch_none : (batches : List Batch) (b : Batch) → Contains batches b → payload_of batches b.digest ≡ None → ⊥
batch_none batches b there none = by (find (has_digest b.digest) batches) refl (found_under batches b.digest)
  where
    by : (o : Option Batch) → find (has_digest b.digest) batches ≡ o → IsFinding (has_digest b.digest) batches o → ⊥
    by None is h = true≢false (sym (itself batches b.digest) ∙ h b there)
    by (Some f) is h = none≢payload f.payload (sym none ∙ ap payload_in is)

pub batch_untested : (batches : List Batch) (b : Batch) → Contains batches b → payload_of batches b.digest ≡ None → (false ≡ true) ↔ IsOtherBatch batches b
batch_untested batches b there none = (λ f. absurd (false≢true f), λ p. absurd (batch_none batches b there none))

pub batch_tested : (batches : List Batch) (b : Batch) (first : List ℕ) (r : Bool) → payload_of batches b.digest ≡ Some first → r ≡ not (bytes_eq first b.payload)
    → (r ≡ true) ↔ IsOtherBatch batches b
batch_tested batches b first r under is = (
  λ t q. differs first b.payload (bytes_eq first b.payload) (bytes_eq-Decides first b.payload) (sym is ∙ t) (same_payload first b.payload (sym under ∙ q)),
  λ p. is ∙ differ_by first b.payload (bytes_eq first b.payload) (bytes_eq-Decides first b.payload) (bytes_eq first b.payload) refl (λ e. p (under ∙ ap (λ (q : List ℕ). Some q) e)),
)

none≢index : (k : ℕ) → ◌≡◌ {A = Option ℕ} None (Some k) → ⊥
none≢index k e = cc

same_index : (j k : ℕ) → ◌≡◌ {A = Option ℕ} (Some j) (Some k) → j ≡ k
same_index j k e = cc

-- what a search gives as it is shown
pub shown : {T : Type 0} (f : T → List ℕ) (o u : Option T) (v : Option (List ℕ)) → option_map f o ≡ v → o ≡ u → v ≡ option_map f u
shown f o u v e is = sym e ∙ ap (option_map f) is

module _ (certs : List Node) (firsts : BTreeMap (List ℕ) ℕ) (has : HasEach certs firsts) (c : Node) where
  pub cert_untested : get id_cmp firsts c.id ≡ None → (false ≡ true) ↔ IsOtherCert certs firsts c
  cert_untested none = (λ f. absurd (false≢true f), λ p. absurd (none≢index p.index (sym none ∙ p.found)))

  pub cert_tested : (k : ℕ) (f : Node) (r : Bool) → get id_cmp firsts c.id ≡ Some k → ((d : Node) → f ≡ get_or certs k d) → r ≡ not (header_eq f.header c.header)
      → (r ≡ true) ↔ IsOtherCert certs firsts c
  cert_tested k f r found at is = (
    λ t. record { index = k; found = found; apart = λ e. differs f.header c.header (header_eq f.header c.header) (header_decided f.header c.header) (sym is ∙ t) (ap (λ (n : Node). n.header) (at c ∙ e)) },
    λ p. is ∙ differ_by f.header c.header (header_eq f.header c.header) (header_decided f.header c.header) (header_eq f.header c.header) refl
        (λ e. p.apart (subst (λ (j : ℕ). get_or certs j c ≡ c) (same_index k p.index (sym found ∙ p.found)) (sym (at c) ∙ same_node f c (ap (λ (n : Node). n.id) (at c) ∙ (has.inside c.id k found).1 c) e))),
  )

-- ---- both

module _ (certs : List Node) (batches : List Batch) (firsts : BTreeMap (List ℕ) ℕ) (has : HasEach certs firsts) where
  abbrev id_of_cert : Node → List ℕ
  id_of_cert c = c.id

  abbrev digest_of : Batch → List ℕ
  digest_of b = b.digest

  -- what is listed of both, each once and in order, is what collides
  pub lists_colliding : (mid all ids : List (List ℕ)) → ListsSome id_of_cert (IsOtherCert certs firsts) certs [] mid
      → ListsSome digest_of (IsOtherBatch batches) batches mid all → ListsIds ids (Contains all) → ListsIds ids (CollidesIn certs batches)
  lists_colliding mid all ids of_certs of_batches listed = record {
    ascending = listed.ascending;
    exact = λ id. (λ t. there id ((listed.exact id).0 t), λ h. (listed.exact id).1 (back id h));
  }
    where
      there : (id : List ℕ) → Contains all id → CollidesIn certs batches id
      there id t = ⊎_elim
          (λ (a : Contains mid id). ⊎_elim
          (λ (none : Contains [] id). absurd (none_in_nil id none))
          (λ (s : HasSome id_of_cert (IsOtherCert certs firsts) certs id). inl (some_collides id_of_cert (IsOtherCert certs firsts) certs (other_yes certs firsts has) (other_one certs firsts has) id s))
          ((of_certs id).0 a))
          (λ (s : HasSome digest_of (IsOtherBatch batches) batches id). inr (some_collides digest_of (IsOtherBatch batches) batches (batch_yes batches) (batch_one batches) id s))
          ((of_batches id).0 t)

      back : (id : List ℕ) → CollidesIn certs batches id → Contains all id
      back id h = ⊎_elim
          (λ (a : Collides certs id). (of_batches id).1 (inl ((of_certs id).1 (inr (collides_some id_of_cert (IsOtherCert certs firsts) certs (other_yes certs firsts has) (other_one certs firsts has) id a)))))
          (λ (b : CollidesBy digest_of batches id). (of_batches id).1 (inr (collides_some digest_of (IsOtherBatch batches) batches (batch_yes batches) (batch_one batches) id b)))
          h
