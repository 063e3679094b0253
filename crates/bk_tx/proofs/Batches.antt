-- The two laws of a batch, and what its texts need.
use Rattle.std.proofs.Common.{◌≡◌, ℕ, zero, suc, ◌+◌, ◌*◌, ◌^◌, ◌<◌, ◌≤◌, ◌≢◌, true, false, cond, eqb, List, [], ◌∷◌, ◌++◌, length, map, get_or, take, drop, Option, Some, None, Result, Ok, Err, option_map, refl, sym, ap, subst, ◌∙◌, arith}
use Rattle.std.specs.Prelude.{IfOk, IfSome, IfNone}
use Rattle.std.specs.Global.{Vec}
use Rattle.std.specs.List.{flat_map, AllByRecursion}
use Rattle.std.specs.Int.{w16, to_be_bytes}
use Rattle.std.proofs.lemmas.Bool.{eqb-true, eq-eqb, ne_eqb}
use Rattle.std.proofs.lemmas.List.{append-nil, nil_from_length, drop-drop, length-drop}
use Rattle.std.proofs.lemmas.Option.{cond_some, none-some}
use Rattle.bk_base.specs.Numbers.{IsBytes, ◌>>=◌, number_at, list_at, bytes_at}
use Rattle.bk_tx.specs.declared.batch.Slice.{Slice}
use Rattle.bk_tx.specs.Batch.{cuts, FollowFrom}
use Rattle.bk_tx.specs.Spelling.{text_in_batch, batch_text, IsBatch}
use Rattle.bk_tx.specs.Reading.{text_at, texts_of}
use Rattle.bk_base.proofs.FieldLemmas.{list_takes, list_again, bind_some, Takes, Takes-then, wide16, number_rest, number_takes, number_again, bytes_rest, bytes_take, bytes_again}

abbrev IsShort : List ℕ → Type 0
IsShort text = length text < 2 ^ 16

text_takes : (bytes : List ℕ) (x : List ℕ × List ℕ) → IsBytes bytes → text_at bytes ≡ Some x → Takes bytes (text_in_batch x.0) x.1 × IsShort x.0
unfolding text_at
text_takes bytes x fits e =
    let a = bind_some (number_at w16 bytes) (λ len. bytes_at len.0 len.1) x e in
    let t0 = number_takes w16 (2 ^ 16) wide16 bytes a.0.0 a.0.1 fits a.1 in
    let t1 = bytes_take a.0.0 a.0.1 x.0 x.1 t0.0.rest_fits a.2 in
    let both = Takes-then bytes (to_be_bytes w16 a.0.0) a.0.1 x.0 x.1 t0.0 t1.0 in
    (subst (λ (k : ℕ). Takes bytes (to_be_bytes w16 k ++ x.0) x.1) (sym t1.1) both, omega (arith, t1.1, t0.1))

text_steps : (bytes r0 r1 text : List ℕ) (len : ℕ) → number_at w16 bytes ≡ Some (len, r0) → bytes_at len r0 ≡ Some (text, r1) → text_at bytes ≡ Some (text, r1)
unfolding text_at
text_steps bytes r0 r1 text len e0 e1 = rw e0 e1

text_again : (text rest : List ℕ) → IsShort text → text_at (text_in_batch text ++ rest) ≡ Some (text, rest)
text_again text rest short = text_steps (text_in_batch text ++ rest) (text ++ rest) rest text (length text) (number_again w16 (2 ^ 16) wide16 (length text) (text ++ rest) short) (bytes_again text rest)

pub batch_takes : (bytes : List ℕ) (texts : List (List ℕ)) → IsBytes bytes → texts_of bytes ≡ Some texts → IsBatch texts × (bytes ≡ batch_text texts)
unfolding texts_of
batch_takes bytes texts fits e =
    let a = bind_some (number_at w16 bytes) (λ count. list_at text_at count.0 count.1 >>= λ x. cond (eqb (length x.1) 0) (Some x.0) None) texts e in
    let b = bind_some (list_at text_at a.0.0 a.0.1) (λ x. cond (eqb (length x.1) 0) (Some x.0) None) texts a.2 in
    let g = cond_some (eqb (length b.0.1) 0) b.0.0 texts b.2 in
    let first = number_takes w16 (2 ^ 16) wide16 bytes a.0.0 a.0.1 fits a.1 in
    let second = list_takes text_at text_in_batch IsShort text_takes a.0.0 a.0.1 b.0 first.0.rest_fits b.1 in
    let nothing : b.0.1 ≡ [] = nil_from_length b.0.1 (eqb-true _ _ g.0) in
    let both = (Takes-then bytes (to_be_bytes w16 a.0.0) a.0.1 (flat_map text_in_batch b.0.0) b.0.1 first.0 second.0).parts in
    let whole : bytes ≡ batch_text b.0.0 = both ∙ ap (λ (r : List ℕ). (to_be_bytes w16 a.0.0 ++ flat_map text_in_batch b.0.0) ++ r) nothing ∙ append-nil (to_be_bytes w16 a.0.0 ++ flat_map text_in_batch b.0.0) ∙ ap (λ (k : ℕ). to_be_bytes w16 k ++ flat_map text_in_batch b.0.0) (sym second.1) in
    subst (λ (v : List (List ℕ)). IsBatch v × (bytes ≡ batch_text v)) g.1 (record { few = omega (arith, second.1, first.1); short = second.2 }, whole)

batch_steps : (bytes r0 : List ℕ) (count : ℕ) (texts : List (List ℕ)) → number_at w16 bytes ≡ Some (count, r0) → list_at text_at count r0 ≡ Some (texts, []) → texts_of bytes ≡ Some texts
unfolding texts_of
batch_steps bytes r0 count texts e0 e1 = rw (e0, e1) refl

pub batch_again : (texts : List (List ℕ)) → IsBatch texts → texts_of (batch_text texts) ≡ Some texts
batch_again texts h =
    let rest : list_at text_at (length texts) (flat_map text_in_batch texts) ≡ Some (texts, []) = ap (list_at text_at (length texts)) (sym (append-nil (flat_map text_in_batch texts))) ∙ list_again text_at text_in_batch IsShort text_again texts [] h.short in
    batch_steps (batch_text texts) (flat_map text_in_batch texts) (length texts) texts (number_again w16 (2 ^ 16) wide16 (length texts) (flat_map text_in_batch texts) h.few) rest

-- ---- where texts lie in a payload

pub text_lies : (bytes rest text after : List ℕ) (at len : ℕ) → number_at w16 (drop at bytes) ≡ Some (len, rest) → bytes_at len rest ≡ Some (text, after) → text_at (drop at bytes) ≡ Some (take len (drop (at + 2) bytes), drop (at + 2 + len) bytes)
text_lies bytes rest text after at len e0 e1 =
    let a = number_rest w16 (drop at bytes) len rest e0 in
    let b = bytes_rest len rest text after e1 in
    let rest-is : rest ≡ drop (at + 2) bytes = sym a.2 ∙ drop-drop 2 at bytes in
    let text-is : text ≡ take len (drop (at + 2) bytes) = sym b.1 ∙ ap (take len) rest-is in
    let after-is : after ≡ drop (at + 2 + len) bytes = sym b.2 ∙ ap (drop len) rest-is ∙ drop-drop len (at + 2) bytes in
    text_steps (drop at bytes) rest after text len e0 e1 ∙ ap (λ (x : List ℕ). Some (x, after)) text-is ∙ ap (λ (x : List ℕ). Some (take len (drop (at + 2) bytes), x)) after-is

pub text_missing : (bytes : List ℕ) → None ≡ number_at w16 bytes → None ≡ text_at bytes
unfolding text_at
text_missing bytes e = rw (← e) refl

pub text_cut_off : (bytes rest : List ℕ) (len : ℕ) → Some (len, rest) ≡ number_at w16 bytes → None ≡ bytes_at len rest → None ≡ text_at bytes
unfolding text_at
text_cut_off bytes rest len e0 e1 = rw (← e0, ← e1) refl

-- each text takes two bytes at least
texts_need : (n : ℕ) (bytes : List ℕ) (x : List (List ℕ) × List ℕ) → list_at text_at n bytes ≡ Some x → 2 * n ≤ length bytes
unfolding list_at text_at
texts_need zero bytes x e = omega arith
texts_need (suc n) bytes x e =
    let a = bind_some (text_at bytes) (λ first. list_at text_at n first.1 >>= λ others. Some (first.0 ∷ others.0, others.1)) x e in
    let b = bind_some (list_at text_at n a.0.1) (λ others. Some (a.0.0 ∷ others.0, others.1)) x a.2 in
    let d = bind_some (number_at w16 bytes) (λ len. bytes_at len.0 len.1) a.0 a.1 in
    let first = number_rest w16 bytes d.0.0 d.0.1 d.1 in
    let second = bytes_rest d.0.0 d.0.1 a.0.0 a.0.1 d.2 in
    let others = texts_need n a.0.1 b.0 b.1 in
    omega (arith, first.0, second.0, others, ap length first.2, ap length second.2, length-drop 2 bytes, length-drop d.0.0 d.0.1)

-- ---- slices that follow each other

-- where the last of these slices ends, if the first starts after this offset
abbrev pub end_of : ℕ → List Slice → ℕ
end_of at [] = at
end_of at (s ∷ slices) = end_of (s.start + s.len) slices

pub end-push : (at : ℕ) (slices : List Slice) (s : Slice) → end_of at (slices ++ s ∷ []) ≡ s.start + s.len
end-push at [] s = refl
end-push at (x ∷ slices) s = end-push (x.start + x.len) slices s

pub FollowFrom-push : (at : ℕ) (slices : List Slice) (s : Slice) → FollowFrom at slices → s.start ≡ end_of at slices + 2 → FollowFrom at (slices ++ s ∷ [])
FollowFrom-push at [] s before e = (e, tt)
FollowFrom-push at (x ∷ slices) s before e = (before.0, FollowFrom-push (x.start + x.len) slices s before.1 e)

-- ---- what is known of a batch, from the function that reads it

is_found : (bytes : List ℕ) (o : Option (Vec Slice)) → IsBytes bytes → option_map (λ slices. cuts bytes slices.items) o ≡ texts_of bytes → IfSome o (λ slices. IsBatch (cuts bytes slices.items) × (bytes ≡ batch_text (cuts bytes slices.items)))
is_found bytes (Some v) fits given = batch_takes bytes (cuts bytes v.items) fits (sym given)
is_found bytes None fits given = tt

is_void : (bytes : List ℕ) (o : Option (Vec Slice)) → option_map (λ slices. cuts bytes slices.items) o ≡ texts_of bytes → IfNone o ((texts : List (List ℕ)) → IsBatch texts → bytes ≢ batch_text texts)
is_void bytes (Some v) given = tt
is_void bytes None given = λ texts h e. none-some texts (given ∙ ap texts_of e ∙ batch_again texts h)

pub read_is_found : {E : Type 0} (bytes : List ℕ) (r : Result (Option (Vec Slice)) E) → IsBytes bytes → IfOk r (λ o. option_map (λ slices. cuts bytes slices.items) o ≡ texts_of bytes) → IfOk r (λ o. IfSome o (λ slices. IsBatch (cuts bytes slices.items) × (bytes ≡ batch_text (cuts bytes slices.items))))
read_is_found bytes (Ok o) fits given = is_found bytes o fits given
read_is_found bytes (Err e) fits given = tt

pub read_is_void : {E : Type 0} (bytes : List ℕ) (r : Result (Option (Vec Slice)) E) → IfOk r (λ o. option_map (λ slices. cuts bytes slices.items) o ≡ texts_of bytes) → IfOk r (λ o. IfNone o ((texts : List (List ℕ)) → IsBatch texts → bytes ≢ batch_text texts))
read_is_void bytes (Ok o) given = is_void bytes o given
read_is_void bytes (Err e) given = tt

-- ---- where reading a batch stops

none_or : {A : Type 0} (o : Option A) → ((x : A) → o ≡ Some x → ⊥) → None ≡ o
none_or None h = refl
none_or (Some x) h = absurd (h x refl)

pub count_missing : (bytes : List ℕ) → None ≡ number_at w16 bytes → None ≡ texts_of bytes
unfolding texts_of
count_missing bytes e = rw (← e) refl

texts_missing : (bytes rest : List ℕ) (count : ℕ) → number_at w16 bytes ≡ Some (count, rest) → None ≡ list_at text_at count rest → None ≡ texts_of bytes
unfolding texts_of
texts_missing bytes rest count e0 e1 = rw (e0, ← e1) refl

pub no_room : (bytes rest : List ℕ) (count : ℕ) → number_at w16 bytes ≡ Some (count, rest) → length rest < 2 * count → None ≡ texts_of bytes
no_room bytes rest count e lt = texts_missing bytes rest count e (none_or (list_at text_at count rest) (λ x r. let need = texts_need count rest x r in omega arith))

pub text_void : (bytes rest : List ℕ) (count : ℕ) → number_at w16 bytes ≡ Some (count, rest) → None ≡ list_at text_at count (drop 2 bytes) → None ≡ texts_of bytes
text_void bytes rest count e none = texts_missing bytes rest count e (rw (number_rest w16 bytes count rest e).2 at none)

pub bytes_left : (bytes rest : List ℕ) (count at : ℕ) (texts : List (List ℕ)) → number_at w16 bytes ≡ Some (count, rest) → Some (texts, drop at bytes) ≡ list_at text_at count (drop 2 bytes) → at < length bytes → None ≡ texts_of bytes
unfolding texts_of
bytes_left bytes rest count at texts e read lt =
    let r = (number_rest w16 bytes count rest e).2 in
    let long : eqb (length (drop at bytes)) 0 ≡ false = ne_eqb _ _ (λ z. omega (arith, length-drop at bytes)) in
    rw (e, ← r, ← read, long) refl

pub all_read : (bytes rest : List ℕ) (count at : ℕ) (texts : List (List ℕ)) → number_at w16 bytes ≡ Some (count, rest) → Some (texts, drop at bytes) ≡ list_at text_at count (drop 2 bytes) → length bytes ≤ at → Some texts ≡ texts_of bytes
unfolding texts_of
all_read bytes rest count at texts e read le =
    let r = (number_rest w16 bytes count rest e).2 in
    let short : eqb (length (drop at bytes)) 0 ≡ true = eq-eqb _ _ (omega (arith, length-drop at bytes)) in
    rw (e, ← r, ← read, short) refl

-- ---- a batch that is written

pub short_at : (texts : List (Vec ℕ)) (k : ℕ) (v : Vec ℕ) → AllByRecursion IsShort (map (λ (text : Vec ℕ). text.items) texts) → k < length texts → v ≡ get_or texts k v → length v.items < 2 ^ 16
short_at [] k v short low e = absurd (omega arith)
short_at (x ∷ texts) zero v short low e = let same : length v.items ≡ length x.items = ap (λ (u : Vec ℕ). length u.items) e in omega (arith, short.0)
short_at (x ∷ texts) (suc k) v short low e = short_at texts k v short.1 (omega arith) e
