-- What is to be tagged for a seal: one member more, and the tags that are made.
use Rattle.std.proofs.Common.{◌≡◌, ℕ, ◌+◌, List, [], ◌∷◌, ◌++◌, map, get_or, Bool, true, false, cond, refl, sym, ap, subst, ◌∙◌, append_assoc}
use Rattle.std.specs.Prelude.{Result, Ok, Err, is_ok, is_err}
use Rattle.std.specs.List.{AllZip}
use Rattle.std.proofs.lemmas.List.{map-append}
use Rattle.bk_digest.specs.Mac.{hmac_of}
use Rattle.bk_digest.specs.Prepared.{IsPrepared}
use Rattle.bk_digest.specs.declared.tags.ToTag.{ToTag}
use Rattle.bk_cert.specs.Mask.{is_signer, signers_of}
use Rattle.bk_cert.specs.Identity.{tag_of}
use Rattle.bk_cert.specs.Tagging.{AreTagsOf}
use Rattle.bk_cert.proofs.Marks.{marked, marked_with, marked_without}

tags_joined : (wanted more : List ToTag) (tags later : List (List ℕ)) → AreTagsOf wanted tags → AreTagsOf more later → AreTagsOf (wanted ++ more) (tags ++ later)
tags_joined [] more [] later h k = k
tags_joined [] more (t ∷ tags) later h k = absurd h
tags_joined (w ∷ wanted) more [] later h k = absurd h
tags_joined (w ∷ wanted) more (t ∷ tags) later h k = (h.0, tags_joined wanted more tags later h.1 k)

-- what is found for each is what is to be found
pub tags_found : (wanted : List ToTag) (tags given : List (List ℕ)) → AreTagsOf wanted tags → AllZip (λ t tag. (key : List ℕ) → IsPrepared key t.key.now → tag ≡ hmac_of key t.id) wanted given → given ≡ tags
tags_found [] [] [] h k = refl
tags_found [] [] (g ∷ given) h k = absurd k
tags_found [] (t ∷ tags) given h k = absurd h
tags_found (w ∷ wanted) [] given h k = absurd h
tags_found (w ∷ wanted) (t ∷ tags) [] h k = absurd k
tags_found (w ∷ wanted) (t ∷ tags) (g ∷ given) h k =
    let first : g ≡ t = k.0 h.0.0 h.0.1 ∙ sym h.0.2 in
    let rest : given ≡ tags = tags_found wanted tags given h.1 k.1 in
    cc

-- the tag of an id by each member
abbrev pub tag_by : List (List ℕ) → List ℕ → ℕ → List ℕ
tag_by keys id member = tag_of (get_or keys member []) id

pub pushed : {X Y Z : Type 0} (r : Result X Y) (t : Bool) (out more old : List Z) → out ≡ cond (is_ok r) more old → t ≡ is_err r → t ≡ false → out ≡ more
pushed (Ok x) t out more old e is off = e
pushed (Err y) t out more old e is off = absurd cc

pub want_with : (keys : List (List ℕ)) (mask id : List ℕ) (n : ℕ) (old new : List ToTag) (t : ToTag) (tags : List (List ℕ)) → is_signer mask n ≡ true → IsPrepared (get_or keys n []) t.key.now → t.id ≡ id → new ≡ old ++ t ∷ []
    → AreTagsOf old (tags ++ map (tag_by keys id) (marked mask n)) → AreTagsOf new (tags ++ map (tag_by keys id) (marked mask (n + 1)))
want_with keys mask id n old new t tags marks prepared same is h =
    let f : ℕ → List ℕ = tag_by keys id in
    let made : f n ≡ hmac_of (get_or keys n []) t.id = ap (hmac_of (get_or keys n [])) (sym same) in
    let joined : AreTagsOf (old ++ t ∷ []) ((tags ++ map f (marked mask n)) ++ f n ∷ []) = tags_joined old (t ∷ []) (tags ++ map f (marked mask n)) (f n ∷ []) h ((get_or keys n [], prepared, made), tt) in
    let all : (tags ++ map f (marked mask n)) ++ f n ∷ [] ≡ tags ++ map f (marked mask (n + 1)) =
    append_assoc tags (map f (marked mask n)) (f n ∷ []) ∙ ap (λ ts. tags ++ ts) (sym (ap (map f) (marked_with mask n marks) ∙ map-append f (marked mask n) (n ∷ []))) in
    rw is (subst (AreTagsOf (old ++ t ∷ [])) all joined)

pub want_without : (keys : List (List ℕ)) (mask id : List ℕ) (n : ℕ) (old new : List ToTag) (tags : List (List ℕ)) → is_signer mask n ≡ false → new ≡ old
    → AreTagsOf old (tags ++ map (tag_by keys id) (marked mask n)) → AreTagsOf new (tags ++ map (tag_by keys id) (marked mask (n + 1)))
want_without keys mask id n old new tags marks is h = rw is (subst (λ ms. AreTagsOf old (tags ++ map (tag_by keys id) ms)) (sym (marked_without mask n marks)) h)

pub want_all : (keys : List (List ℕ)) (mask id : List ℕ) (n : ℕ) (wanted : List ToTag) (tags : List (List ℕ)) → signers_of mask ≡ marked mask n
    → AreTagsOf wanted (tags ++ map (tag_by keys id) (marked mask n)) → AreTagsOf wanted (tags ++ map (tag_by keys id) (signers_of mask))
want_all keys mask id n wanted tags all h = subst (λ ms. AreTagsOf wanted (tags ++ map (tag_by keys id) ms)) (sym all) h
