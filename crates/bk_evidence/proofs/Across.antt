-- The collisions of two lists of batches together.
use Rattle.std.proofs.Common.{◌≡◌, ◌≢◌, ◌+◌, ◌<◌, ◌⊎◌, ℕ, Bool, true, false, List, [], ◌∷◌, ◌++◌, length, take, get_or, Option, Some, None, refl, sym, ap, subst, ◌∙◌, inl, inr, ⊎_elim, arith}
use Rattle.std.proofs.lemmas.Bool.{false≢true, true≢false}
use Rattle.std.specs.Prelude.{not, MatchOption}
use Rattle.std.specs.List.{Contains}
use Rattle.std.proofs.lemmas.List.{take_more, take_all}
use Rattle.std.proofs.lemmas.List.Elements.{Contains-get_or, Contains-append_left, Contains-append_right, Contains-append_cases, Contains-push, Contains-push_cases}
use Rattle.std.specs.List.{position}
use Rattle.bk_cert.proofs.Lists.{none_in_nil}
use Rattle.bk_evidence.specs.Batches.{Batch, AreApart, IsBatchCollision, has_digest}
use Rattle.bk_evidence.specs.Collisions.{id_cmp, CollidesBy}
use Rattle.bk_evidence.specs.private.Named.{HasOther, CollidesWith, in_held, in_more, across}
use Rattle.bk_evidence.specs.private.Least.{least_of, lesser_of, IsLeastBy}
use Rattle.bk_evidence.proofs.Lesser.{least_same, least_step, least_both}
use Rattle.bk_evidence.proofs.Colliding.{id_order, collides_more, told}
use Rattle.bk_evidence.proofs.Naming.{named_at, named_none}
use Rattle.bk_evidence.proofs.Payloads.{same_batch}

abbrev pub digest_of : Batch → List ℕ
digest_of b = b.digest

pub not_both : (r : Bool) → not r ≡ true → r ≡ true → ⊥
not_both true h k = false≢true h
not_both false h k = false≢true k

pub from_not : (r : Bool) → not r ≡ false → r ≡ true
from_not true h = refl
from_not false h = absurd (true≢false h)

-- ---- one batch

module _ (xs : List Batch) (b : Batch) where
  pub other_found : (k : ℕ) (r : Batch) → position (has_digest b.digest) xs ≡ Some k → r ≡ get_or xs k r → (r ≡ b → ⊥) → HasOther xs b
  other_found k r e is apart =
      let at = named_at digest_of xs b.digest k e in
      record { other = r; is_held = subst (Contains xs) (sym is) (Contains-get_or xs k r at.0); same_digest = ap digest_of is ∙ at.1 r; apart = apart }

  pub other_same : (k : ℕ) (r : Batch) → position (has_digest b.digest) xs ≡ Some k → r ≡ get_or xs k r → r ≡ b → Contains xs b
  other_same k r e is same =
      let at = named_at digest_of xs b.digest k e in
      subst (Contains xs) (sym is ∙ same) (Contains-get_or xs k r at.0)

  pub other_none : position (has_digest b.digest) xs ≡ None → HasOther xs b → Contains xs b
  other_none e h = absurd (named_none digest_of xs b.digest e h.other h.is_held h.same_digest)

-- ---- the steps

module _ (xs ys : List Batch) where
  none_across : (d : List ℕ) → CollidesWith xs ys 0 d → CollidesBy digest_of xs d ⊎ CollidesBy digest_of ys d
  none_across d (in_held h) = inl h
  none_across d (in_more h) = inr h
  none_across d (across b there is other) = absurd (none_in_nil b there)

  some_before : (d : List ℕ) → CollidesBy digest_of xs d ⊎ CollidesBy digest_of ys d → CollidesWith xs ys 0 d
  some_before d (inl h) = in_held h
  some_before d (inr h) = in_more h

  pub across_first : (o p : Option (List ℕ)) → IsLeastBy id_cmp (CollidesBy digest_of xs) o → IsLeastBy id_cmp (CollidesBy digest_of ys) p
      → IsLeastBy id_cmp (CollidesWith xs ys 0) (lesser_of id_cmp o p)
  across_first o p h k = least_same id_order (λ d. CollidesBy digest_of xs d ⊎ CollidesBy digest_of ys d) (CollidesWith xs ys 0) (lesser_of id_cmp o p)
      some_before none_across (least_both id_order (CollidesBy digest_of xs) (CollidesBy digest_of ys) o p h k)

  module _ (i : ℕ) (b : Batch) (low : i < length ys) (is : b ≡ get_or ys i b) where
    at_end : take i ys ++ b ∷ [] ≡ take (i + 1) ys
    at_end = ap (λ x. take i ys ++ x ∷ []) is ∙ sym (take_more ys i b low)

    one_more : (d : List ℕ) → CollidesWith xs ys i d → CollidesWith xs ys (i + 1) d
    one_more d (in_held h) = in_held h
    one_more d (in_more h) = in_more h
    one_more d (across e there same other) = across e (subst (λ (zs : List Batch). Contains zs e) at_end (Contains-append_left (take i ys) (b ∷ []) e there)) same other

    one_less : (d : List ℕ) → CollidesWith xs ys (i + 1) d → CollidesWith xs ys i d ⊎ ((b.digest ≡ d) × HasOther xs b)
    one_less d (in_held h) = inl (in_held h)
    one_less d (in_more h) = inl (in_more h)
    one_less d (across e there same other) = ⊎_elim (λ (old : Contains (take i ys) e). inl (across e old same other))
        (λ (p : b ≡ e). inr (ap digest_of p ∙ same, subst (HasOther xs) (sym p) other))
        (Contains-push_cases (take i ys) b e (subst (λ (zs : List Batch). Contains zs e) (sym at_end) there))

    pub across_other : (o : Option (List ℕ)) → HasOther xs b → IsLeastBy id_cmp (CollidesWith xs ys i) o → IsLeastBy id_cmp (CollidesWith xs ys (i + 1)) (Some (least_of id_cmp o b.digest))
    across_other o other h = least_step id_order (CollidesWith xs ys i) (CollidesWith xs ys (i + 1)) o b.digest
        (across b (subst (λ (zs : List Batch). Contains zs b) at_end (Contains-push (take i ys) b)) refl other)
        one_more
        (λ d k. ⊎_elim (λ (old : CollidesWith xs ys i d). inl old) (λ (new : (b.digest ≡ d) × HasOther xs b). inr (sym new.0)) (one_less d k))
        h

    pub across_same : (o : Option (List ℕ)) → (HasOther xs b → Contains xs b) → IsLeastBy id_cmp (CollidesWith xs ys i) o → IsLeastBy id_cmp (CollidesWith xs ys (i + 1)) o
    across_same o there h = least_same id_order (CollidesWith xs ys i) (CollidesWith xs ys (i + 1)) o one_more
        (λ d k. ⊎_elim (λ (old : CollidesWith xs ys i d). old)
        (λ (new : (b.digest ≡ d) × HasOther xs b). in_held (record {
          one = new.1.other;
          other = b;
          has_one = new.1.is_held;
          has_other = there new.1;
          names_one = new.1.same_digest ∙ new.0;
          names_other = new.0;
          apart = new.1.apart;
        })) (one_less d k))
        h

  -- ---- all of it

  whole : (d : List ℕ) → CollidesWith xs ys (length ys) d → CollidesBy digest_of (xs ++ ys) d
  whole d (in_held h) = collides_more digest_of xs (xs ++ ys) (Contains-append_left xs ys) d h
  whole d (in_more h) = collides_more digest_of ys (xs ++ ys) (Contains-append_right xs ys) d h
  whole d (across b there is other) =
      let held : Contains ys b = subst (λ (zs : List Batch). Contains zs b) (take_all (length ys) ys (omega arith)) there in
      record {
        one = other.other;
        other = b;
        has_one = Contains-append_left xs ys other.other other.is_held;
        has_other = Contains-append_right xs ys b held;
        names_one = other.same_digest ∙ is;
        names_other = is;
        apart = other.apart;
      }

  apart_across : (d : List ℕ) (b e : Batch) → Contains xs b → Contains ys e → b.digest ≡ d → e.digest ≡ d → b ≢ e → CollidesWith xs ys (length ys) d
  apart_across d b e h k p q apart =
      across e (subst (λ (zs : List Batch). Contains zs e) (sym (take_all (length ys) ys (omega arith))) k) q
      (record { other = b; is_held = h; same_digest = p ∙ sym q; apart = apart })

  split : (d : List ℕ) → CollidesBy digest_of (xs ++ ys) d → CollidesWith xs ys (length ys) d
  split d h = ⊎_elim
      (λ (a : Contains xs h.one). ⊎_elim
      (λ (b : Contains xs h.other). in_held (record { one = h.one; other = h.other; has_one = a; has_other = b; names_one = h.names_one; names_other = h.names_other; apart = h.apart }))
      (λ (b : Contains ys h.other). apart_across d h.one h.other a b h.names_one h.names_other h.apart)
      (Contains-append_cases xs ys h.other h.has_other))
      (λ (a : Contains ys h.one). ⊎_elim
      (λ (b : Contains xs h.other). apart_across d h.other h.one b a h.names_other h.names_one (λ e. h.apart (sym e)))
      (λ (b : Contains ys h.other). in_more (record { one = h.one; other = h.other; has_one = a; has_other = b; names_one = h.names_one; names_other = h.names_other; apart = h.apart }))
      (Contains-append_cases xs ys h.other h.has_other))
      (Contains-append_cases xs ys h.one h.has_one)

  pub across_told : (o : Option (List ℕ)) → IsLeastBy id_cmp (CollidesWith xs ys (length ys)) o → MatchOption o (AreApart (xs ++ ys)) (IsBatchCollision (xs ++ ys))
  across_told o h = told digest_of same_batch (xs ++ ys) o (least_same id_order (CollidesWith xs ys (length ys)) (CollidesBy digest_of (xs ++ ys)) o whole split h)
