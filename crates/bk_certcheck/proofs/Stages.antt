-- Payloads from one stage of a check to the next.
use Rattle.std.proofs.Common.{◌≡◌, ℕ, zero, suc, ◌+◌, ◌<◌, List, [], ◌∷◌, ◌++◌, map, length, take, drop, get_or, Option, Some, None, refl, sym, ap, subst, ◌∙◌, arith}
use Rattle.std.specs.List.{AllZip, flat_map}
use Rattle.std.proofs.lemmas.List.{append-nil, length-map, take_at, drop_at, take_more, drop_more, map-append}
use Rattle.std.proofs.lemmas.List.Concat.{flat_map-append}
use Rattle.std.proofs.lemmas.Slice.Zip.{all_zipped_more}
use Rattle.bk_digest.specs.Digest.{tagged_of}
use Rattle.bk_digest.specs.declared.tags.ToTag.{ToTag}
use Rattle.bk_committee.specs.Payload.{CommitteeValue}
use Rattle.bk_cert.specs.Values.{CertValue}
use Rattle.bk_cert.specs.Mask.{signers_of}
use Rattle.bk_cert.specs.Spelling.{IsCertificate, header_text}
use Rattle.bk_cert.specs.Identity.{id_of}
use Rattle.bk_cert.specs.Tagging.{AreTagsOf}
use Rattle.bk_certcheck.specs.declared.rule.Rule.{Rule}
use Rattle.bk_certcheck.specs.declared.rule.Rule.TheVariants as rule
use Rattle.bk_certcheck.specs.declared.verdict.Verdict.{Verdict}
use Rattle.bk_certcheck.specs.declared.verdict.Verdict.TheVariants as verdict
use Rattle.bk_certcheck.specs.Rules.{Breaks, BreaksNoneBelow}
use Rattle.bk_certcheck.specs.Verdicts.{BreaksFirst, IsBroken, IsVerdict}
use Rattle.bk_certcheck.specs.private.Stages.{IsLeft, AreScreened, AreLeft, own_tags, IsByTags, IsLastVerdict, filled}
use Rattle.bk_cert.proofs.Wanted.{tag_by}

-- ---- the first stage

pub screened_broken : (k : CommitteeValue) (ps : List (List ℕ)) (bs : List (Option Rule)) (left : List CertValue) (p : List ℕ) (r : Rule)
    → AreScreened k ps bs left → IsBroken k p r → AreScreened k (ps ++ p ∷ []) (bs ++ Some r ∷ []) left
screened_broken k [] [] [] p r h broken = (broken, tt)
screened_broken k [] [] (c ∷ left) p r h broken = absurd h
screened_broken k [] (b ∷ bs) left p r h broken = absurd h
screened_broken k (q ∷ ps) [] left p r h broken = absurd h
screened_broken k (q ∷ ps) (Some s ∷ bs) left p r h broken = (h.0, screened_broken k ps bs left p r h.1 broken)
screened_broken k (q ∷ ps) (None ∷ bs) [] p r h broken = absurd h
screened_broken k (q ∷ ps) (None ∷ bs) (c ∷ left) p r h broken = (h.0, screened_broken k ps bs left p r h.1 broken)

pub screened_left : (k : CommitteeValue) (ps : List (List ℕ)) (bs : List (Option Rule)) (left : List CertValue) (p : List ℕ) (d : CertValue)
    → AreScreened k ps bs left → IsLeft k p d → AreScreened k (ps ++ p ∷ []) (bs ++ None ∷ []) (left ++ d ∷ [])
screened_left k [] [] [] p d h fine = (fine, tt)
screened_left k [] [] (c ∷ left) p d h fine = absurd h
screened_left k [] (b ∷ bs) left p d h fine = absurd h
screened_left k (q ∷ ps) [] left p d h fine = absurd h
screened_left k (q ∷ ps) (Some s ∷ bs) left p d h fine = (h.0, screened_left k ps bs left p d h.1 fine)
screened_left k (q ∷ ps) (None ∷ bs) [] p d h fine = absurd h
screened_left k (q ∷ ps) (None ∷ bs) (c ∷ left) p d h fine = (h.0, screened_left k ps bs left p d h.1 fine)

map_more : {X Y : Type 0} (f : X → Y) (xs : List X) (i : ℕ) (d : X) → i < length xs → map f (take (i + 1) xs) ≡ map f (take i xs) ++ f (get_or xs i d) ∷ []
map_more f xs i d lt = ap (map f) (take_more xs i d lt) ∙ map-append f (take i xs) (get_or xs i d ∷ [])

pub screen_broken : {X : Type 0} (k : CommitteeValue) (f : X → List ℕ) (xs : List X) (i : ℕ) (d : X) (bs : List (Option Rule)) (left : List CertValue) (r : Rule)
    → i < length xs → AreScreened k (map f (take i xs)) bs left → IsBroken k (f (get_or xs i d)) r → AreScreened k (map f (take (i + 1) xs)) (bs ++ Some r ∷ []) left
screen_broken k f xs i d bs left r lt h broken = rw (map_more f xs i d lt) (screened_broken k (map f (take i xs)) bs left (f (get_or xs i d)) r h broken)

pub screen_left : {X : Type 0} (k : CommitteeValue) (f : X → List ℕ) (xs : List X) (i : ℕ) (d : X) (bs : List (Option Rule)) (left : List CertValue) (c : CertValue)
    → i < length xs → AreScreened k (map f (take i xs)) bs left → IsLeft k (f (get_or xs i d)) c → AreScreened k (map f (take (i + 1) xs)) (bs ++ None ∷ []) (left ++ c ∷ [])
screen_left k f xs i d bs left c lt h fine = rw (map_more f xs i d lt) (screened_left k (map f (take i xs)) bs left (f (get_or xs i d)) c h fine)

pub are_left : (k : CommitteeValue) (ps : List (List ℕ)) (bs : List (Option Rule)) (left : List CertValue) → AreScreened k ps bs left → AreLeft k left
are_left k [] [] [] h = tt
are_left k [] [] (c ∷ left) h = absurd h
are_left k [] (b ∷ bs) left h = absurd h
are_left k (q ∷ ps) [] left h = absurd h
are_left k (q ∷ ps) (Some s ∷ bs) left h = are_left k ps bs left h.1
are_left k (q ∷ ps) (None ∷ bs) [] h = absurd h
are_left k (q ∷ ps) (None ∷ bs) (c ∷ left) h = (h.0.1, are_left k ps bs left h.1)

-- each certificate that is left, by its index
pub left_at : (k : CommitteeValue) (left : List CertValue) (i : ℕ) (c : CertValue) → AreLeft k left → i < length left → c ≡ get_or left i c → BreaksNoneBelow k c 7
left_at k [] i c h lt e = absurd (omega arith)
left_at k (d ∷ left) zero c h lt e = subst (λ (x : CertValue). BreaksNoneBelow k x 7) (sym e) h.0
left_at k (d ∷ left) (suc i) c h lt e = left_at k left i c h.1 (omega arith) e

-- ---- the last rule

breaks_none : (k : CommitteeValue) (c : CertValue) → BreaksNoneBelow k c 7 → c.tags ≡ own_tags k c → (r : Rule) → ¬ Breaks k c r
breaks_none k c below own rule.Shape h = below rule.Shape (omega arith) h
breaks_none k c below own rule.Author h = below rule.Author (omega arith) h
breaks_none k c below own rule.Round h = below rule.Round (omega arith) h
breaks_none k c below own rule.Parents h = below rule.Parents (omega arith) h
breaks_none k c below own rule.ParentOrder h = below rule.ParentOrder (omega arith) h
breaks_none k c below own rule.Signer h = below rule.Signer (omega arith) h
breaks_none k c below own rule.Quorum h = below rule.Quorum (omega arith) h
breaks_none k c below own rule.Tag h = h own

broken_last : (k : CommitteeValue) (bytes : List ℕ) (r : Rule) → r ≡ rule.Tag → BreaksFirst k bytes rule.Tag → IsBroken k bytes r
broken_last k bytes r e first = subst (IsBroken k bytes) (sym e) first

pub last_verdict : (k : CommitteeValue) (bytes : List ℕ) (c : CertValue) (v : Verdict) → IsLeft k bytes c → IsLastVerdict k c v → IsVerdict k bytes v
last_verdict k bytes c (verdict.Good node) fine h = record { cert = c; read = fine.0; breaks_none = breaks_none k c fine.1 h.1; is = h.0 }
last_verdict k bytes c (verdict.Broken r) fine h = broken_last k bytes r h.0 (record { cert = c; read = fine.0; breaks = h.1; none_before = fine.1 })

-- ---- all verdicts

pub filled_all : (k : CommitteeValue) (ps : List (List ℕ)) (bs : List (Option Rule)) (left : List CertValue) (vs : List Verdict)
    → AreScreened k ps bs left → AllZip (IsLastVerdict k) left vs → AllZip (IsVerdict k) ps (filled bs vs)
filled_all k [] [] left vs h last = tt
filled_all k [] (b ∷ bs) left vs h last = absurd h
filled_all k (p ∷ ps) [] left vs h last = absurd h
filled_all k (p ∷ ps) (Some r ∷ bs) left vs h last = (h.0, filled_all k ps bs left vs h.1 last)
filled_all k (p ∷ ps) (None ∷ bs) [] vs h last = absurd h
filled_all k (p ∷ ps) (None ∷ bs) (c ∷ left) [] h last = absurd last
filled_all k (p ∷ ps) (None ∷ bs) (c ∷ left) (v ∷ vs) h last = (last_verdict k p c v h.0 last.0, filled_all k ps bs left vs h.1 last.1)

pub AllZip-from_map : {X Y V : Type 0} (f : X → Y) (R : Y → V → Type 0) (xs : List X) (vs : List V) → AllZip R (map f xs) vs → AllZip (λ x v. R (f x) v) xs vs
AllZip-from_map f R [] [] h = tt
AllZip-from_map f R [] (v ∷ vs) h = absurd h
AllZip-from_map f R (x ∷ xs) [] h = absurd h
AllZip-from_map f R (x ∷ xs) (v ∷ vs) h = (h.0, AllZip-from_map f R xs vs h.1)

-- ---- ids

map_twice : {X Y Z : Type 0} (g : Y → Z) (f : X → Y) (xs : List X) → map (λ x. g (f x)) xs ≡ map g (map f xs)
map_twice g f [] = refl
map_twice g f (x ∷ xs) = ap (λ zs. g (f x) ∷ zs) (map_twice g f xs)

pub ids_found : {X : Type 0} (f : X → List ℕ) (headers : List X) (left : List CertValue) (ids : List (List ℕ))
    → ids ≡ map (λ x. tagged_of 0x10 (f x)) headers → map f headers ≡ map (λ c. header_text c.header) left → ids ≡ map (λ c. id_of c.header) left
ids_found f headers left ids e same =
    e ∙ map_twice (tagged_of 0x10) f headers ∙ ap (map (tagged_of 0x10)) same ∙ sym (map_twice (tagged_of 0x10) (λ c. header_text c.header) left)

-- ---- tags

pub flat_more : {X Y : Type 0} (f : X → List Y) (xs : List X) (i : ℕ) (x : X) → i < length xs → x ≡ get_or xs i x → flat_map f (take (i + 1) xs) ≡ flat_map f (take i xs) ++ f x
flat_more f xs i x lt e =
    ap (flat_map f) (take_more xs i x lt) ∙ flat_map-append f (take i xs) (get_or xs i x ∷ []) ∙ ap (λ t. flat_map f (take i xs) ++ t) (append-nil (f (get_or xs i x)) ∙ sym (ap f e))

pub want_next : (k : CommitteeValue) (left : List CertValue) (i : ℕ) (c : CertValue) (old new : List ToTag) (mask id : List ℕ) → i < length left → c ≡ get_or left i c → mask ≡ c.mask → id ≡ id_of c.header
    → ((tags : List (List ℕ)) → AreTagsOf old tags → AreTagsOf new (tags ++ map (tag_by k.keys id) (signers_of mask)))
    → AreTagsOf old (flat_map (own_tags k) (take i left)) → AreTagsOf new (flat_map (own_tags k) (take (i + 1) left))
want_next k left i c old new mask id lt e same named step h =
    let own : map (tag_by k.keys id) (signers_of mask) ≡ own_tags k c = rw (same, named) refl in
    let all : flat_map (own_tags k) (take i left) ++ map (tag_by k.keys id) (signers_of mask) ≡ flat_map (own_tags k) (take (i + 1) left) =
    ap (λ ts. flat_map (own_tags k) (take i left) ++ ts) own ∙ sym (flat_more (own_tags k) left i c lt e) in
    subst (AreTagsOf new) all (step (flat_map (own_tags k) (take i left)) h)

pub id_at : (left : List CertValue) (ids : List (List ℕ)) (i : ℕ) (c : CertValue) (d : List ℕ) → ids ≡ map (λ o. id_of o.header) left → i < length left → c ≡ get_or left i c → get_or ids i d ≡ id_of c.header
id_at left ids i c d all lt e = ap (λ xs. get_or xs i d) all ∙ in_map left i d c lt ∙ ap (λ o. id_of o.header) (sym e)
  where
    in_map : (left : List CertValue) (i : ℕ) (d : List ℕ) (c : CertValue) → i < length left → get_or (map (λ o. id_of o.header) left) i d ≡ id_of (get_or left i c).header
    in_map [] i d c lt = absurd (omega arith)
    in_map (o ∷ left) zero d c lt = refl
    in_map (o ∷ left) (suc i) d c lt = in_map left i d c (omega arith)

own_long : (k : CommitteeValue) (c : CertValue) (n : ℕ) → IsCertificate c → n ≡ length c.tags → length (own_tags k c) ≡ n
own_long k c n good e = length-map (signers_of c.mask) _ ∙ sym good.tag_each ∙ sym e

rest_next : (k : CommitteeValue) (left : List CertValue) (i : ℕ) (c : CertValue) → i < length left → c ≡ get_or left i c → flat_map (own_tags k) (drop i left) ≡ own_tags k c ++ flat_map (own_tags k) (drop (i + 1) left)
rest_next k left i c lt e = ap (flat_map (own_tags k)) (drop_more left i c lt) ∙ ap (λ o. own_tags k o ++ flat_map (own_tags k) (drop (i + 1) left)) (sym e)

pub cut_own : (k : CommitteeValue) (left : List CertValue) (i : ℕ) (c : CertValue) (rest : List (List ℕ)) (n : ℕ) → i < length left → c ≡ get_or left i c → IsCertificate c → n ≡ length c.tags
    → rest ≡ flat_map (own_tags k) (drop i left) → take n rest ≡ own_tags k c
cut_own k left i c rest n lt e good long is = ap (take n) (is ∙ rest_next k left i c lt e) ∙ take_at (own_tags k c) (flat_map (own_tags k) (drop (i + 1) left)) n (own_long k c n good long)

pub cut_rest : (k : CommitteeValue) (left : List CertValue) (i : ℕ) (c : CertValue) (rest : List (List ℕ)) (n : ℕ) → i < length left → c ≡ get_or left i c → IsCertificate c → n ≡ length c.tags
    → rest ≡ flat_map (own_tags k) (drop i left) → drop n rest ≡ flat_map (own_tags k) (drop (i + 1) left)
cut_rest k left i c rest n lt e good long is = ap (drop n) (is ∙ rest_next k left i c lt e) ∙ drop_at (own_tags k c) (flat_map (own_tags k) (drop (i + 1) left)) n (own_long k c n good long)

pub judged_next : (k : CommitteeValue) (left : List CertValue) (i : ℕ) (c : CertValue) (own : List (List ℕ)) (vs : List Verdict) (v : Verdict) → i < length left → c ≡ get_or left i c → own ≡ own_tags k c → IsByTags c own v
    → AllZip (IsLastVerdict k) (take i left) vs → AllZip (IsLastVerdict k) (take (i + 1) left) (vs ++ v ∷ [])
judged_next k left i c own vs v lt e is by_tags h =
    let last : IsLastVerdict k c v = subst (λ ts. IsByTags c ts v) is by_tags in
    rw (take_more left i c lt) (all_zipped_more (IsLastVerdict k) (take i left) vs (get_or left i c) v h (subst (λ o. IsLastVerdict k o v) e last))
