-- The index of a certificate with each id, where one more certificate comes.
use Rattle.std.proofs.Common.{◌≡◌, ◌<◌, ◌+◌, ℕ, Bool, true, false, cond, List, [], ◌∷◌, ◌++◌, length, take, get_or, Option, Some, None, refl, sym, ap, subst, ◌∙◌, ⊎_elim, arith}
use Rattle.std.specs.Prelude.{IsSome}
use Rattle.std.specs.List.{Contains}
use Rattle.std.specs.Ordering.{is_eq}
use Rattle.std.specs.Map.{lookup}
use Rattle.std.specs.BTreeMap.{BTreeMap, get}
use Rattle.std.specs.Cmp.Lexicographic.{texts_ties}
use Rattle.std.proofs.lemmas.List.{length-append, length-take-le, take_more, get_or_append_left}
use Rattle.std.proofs.Math.Seq.{get_or-append_seam}
use Rattle.std.proofs.lemmas.List.Elements.{Contains-push_cases}
use Rattle.std.proofs.lemmas.Slice.Eq.{bytes_eq-Decides}
use Rattle.bk_cert.specs.Node.{Node}
use Rattle.bk_cert.proofs.Lists.{none_in_nil}
use Rattle.bk_evidence.specs.Collisions.{id_cmp}
use Rattle.bk_diagnosis.specs.private.Colliding.{HasEach}

none≢some : (k : ℕ) → ◌≡◌ {A = Option ℕ} None (Some k) → ⊥
none≢some k e = cc

some_same : (j k : ℕ) → ◌≡◌ {A = Option ℕ} (Some j) (Some k) → j ≡ k
some_same j k e = cc

pub has_none : (m : BTreeMap (List ℕ) ℕ) → m.entries ≡ [] → HasEach [] m
has_none m e = record {
  inside = λ id k h. absurd (none≢some k (sym (ap (λ (es : List (List ℕ × ℕ)). lookup (λ q. is_eq (id_cmp id q)) es) e) ∙ h));
  each = λ c t. absurd (none_in_nil c t);
}

module _ (xs : List Node) (x : Node) (m n : BTreeMap (List ℕ) ℕ) (put : (q : List ℕ) → get id_cmp n q ≡ cond (is_eq (id_cmp x.id q)) (Some (length xs)) (get id_cmp m q)) where
  here : (id : List ℕ) → is_eq (id_cmp x.id id) ≡ true → get id_cmp n id ≡ Some (length xs)
  here id t = put id ∙ ap (λ (b : Bool). cond b (Some (length xs)) (get id_cmp m id)) t

  elsewhere : (id : List ℕ) → is_eq (id_cmp x.id id) ≡ false → get id_cmp n id ≡ get id_cmp m id
  elsewhere id f = put id ∙ ap (λ (b : Bool). cond b (Some (length xs)) (get id_cmp m id)) f

  same_id : (id : List ℕ) → is_eq (id_cmp x.id id) ≡ true → x.id ≡ id
  same_id id t = (bytes_eq-Decides x.id id).0 (texts_ties x.id id ∙ t)

  itself : is_eq (id_cmp x.id x.id) ≡ true
  itself = sym (texts_ties x.id x.id) ∙ (bytes_eq-Decides x.id x.id).1 refl

  below : (k : ℕ) → k < length xs → k < length (xs ++ x ∷ [])
  below k low = let long = length-append xs (x ∷ []) in omega arith

  last : length xs < length (xs ++ x ∷ [])
  last = let long = length-append xs (x ∷ []) in omega arith

  inside_more : HasEach xs m → (id : List ℕ) (k : ℕ) → get id_cmp n id ≡ Some k → (b : Bool) → is_eq (id_cmp x.id id) ≡ b
      → (k < length (xs ++ x ∷ [])) × ((d : Node) → (get_or (xs ++ x ∷ []) k d).id ≡ id)
  inside_more h id k e true t =
      let is : length xs ≡ k = some_same (length xs) k (sym (here id t) ∙ e) in (
        subst (λ (j : ℕ). j < length (xs ++ x ∷ [])) is last,
        λ d. subst (λ (j : ℕ). (get_or (xs ++ x ∷ []) j d).id ≡ id) is (ap (λ (c : Node). c.id) (get_or-append_seam xs x [] d) ∙ same_id id t),
      )
  inside_more h id k e false f =
      let at = h.inside id k (sym (elsewhere id f) ∙ e) in (
        below k at.0,
        λ d. ap (λ (c : Node). c.id) (get_or_append_left xs (x ∷ []) d k at.0) ∙ at.1 d,
      )

  each_by : (id : List ℕ) → IsSome (get id_cmp m id) → (b : Bool) → is_eq (id_cmp x.id id) ≡ b → IsSome (get id_cmp n id)
  each_by id some true t = subst (λ (o : Option ℕ). IsSome o) (sym (here id t)) refl
  each_by id some false f = subst (λ (o : Option ℕ). IsSome o) (sym (elsewhere id f)) some

  pub has_more : HasEach xs m → HasEach (xs ++ x ∷ []) n
  has_more h = record {
    inside = λ id k e. inside_more h id k e (is_eq (id_cmp x.id id)) refl;
    each = λ c t. ⊎_elim
        (λ (low : Contains xs c). each_by c.id (h.each c low) (is_eq (id_cmp x.id c.id)) refl)
        (λ (same : x ≡ c). subst (λ (d : Node). IsSome (get id_cmp n d.id)) same (subst (λ (o : Option ℕ). IsSome o) (sym (here x.id itself)) refl))
        (Contains-push_cases xs x c t);
  }

-- one more of the certificates that are gone through
pub has_next : (certs : List Node) (i : ℕ) (x : Node) (key : List ℕ) (m n : BTreeMap (List ℕ) ℕ) → i < length certs → x ≡ get_or certs i x → key ≡ x.id
    → ((q : List ℕ) → get id_cmp n q ≡ cond (is_eq (id_cmp key q)) (Some i) (get id_cmp m q))
    → HasEach (take i certs) m → HasEach (take (i + 1) certs) n
has_next certs i x key m n low is named put h =
    let long : length (take i certs) ≡ i = length-take-le i certs (omega arith) in
    subst (λ (xs : List Node). HasEach xs n) (ap (λ (y : Node). take i certs ++ y ∷ []) is ∙ sym (take_more certs i x low))
    (has_more (take i certs) x m n (λ q. put q ∙ (λ j. cond (is_eq (id_cmp (named j) q)) (Some (sym long j)) (get id_cmp m q))) h)
