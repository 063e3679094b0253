-- The two laws of a transaction: what is read encodes to the same bytes, and what is encoded is read again.
use Rattle.std.proofs.Common.{◌≡◌, ◌≢◌, ℕ, zero, suc, ◌^◌, ◌<◌, ◌≤◌, Bool, true, false, cond, eqb, leb, not, ◌&&◌, IsTrue, List, [], ◌∷◌, ◌++◌, length, Option, Some, None, option_map, is_some, refl, sym, ap, subst, ◌∙◌, append_assoc, ◌⊎◌, inl, inr, arith}
use Rattle.std.specs.Prelude.{IfSome, IfNone}
use Rattle.std.specs.List.{flat_map, AllByRecursion, list_any}
use Rattle.std.specs.Int.{w8, w64}
use Rattle.std.proofs.lemmas.Bool.{eqb-true, eqb-false, ne_eqb, leb-true, le-leb, and_parts, and_from, not-true, or_parts, or_from}
use Rattle.std.proofs.lemmas.List.{append-nil, nil_from_length}
use Rattle.std.proofs.lemmas.Option.{cond_some, none-some}
use Rattle.bk_base.specs.Numbers.{IsBytes, ◌>>=◌, number_at, list_at, is_ascending}
use Rattle.bk_tx.specs.declared.declared.Declared.{Declared}
use Rattle.bk_tx.specs.declared.payments.Payment.{Payment}
use Rattle.bk_tx.specs.Transaction.{Transaction, transaction}
use Rattle.bk_tx.specs.declared.body.Body.{Body}
use Rattle.bk_tx.specs.declared.body.Body.TheVariants.{Pay, PayIf, Sweep, Split}
use Rattle.bk_tx.specs.Access.{declared_ids, IdsFit}
use Rattle.bk_tx.specs.Spelling.{wide, payment_text, declared_text, kind_of, body_text, receivers_of, BodyFits, transaction_text, IsTransaction}
use Rattle.bk_tx.specs.Reading.{declared_at, declarations_at, payment_at, pay_at, pay_if_at, sweep_at, split_at, body_at, pays, transaction_of}
use Rattle.bk_base.proofs.FieldLemmas.{list_takes, list_again, bind_some, if_some, some_is, Takes, Takes-then, byte_takes, byte_again, wide64, number_takes, number_again}
use Rattle.bk_tx.proofs.Bodies.{payment_takes, payment_again, sweep_takes, sweep_steps, split_takes, split_again}
use Rattle.bk_tx.specs.private.Counts.{is_count}

-- ---- one declared account

mode_of : (mode : ℕ) → leb mode 1 ≡ true → mode ≡ cond (eqb mode 1) 1 0
mode_of zero low = refl
mode_of (suc zero) low = refl
mode_of (suc (suc mode)) low = absurd (omega (arith, leb-true (suc (suc mode)) 1 low))

mode_again : (w : Bool) → (leb (cond w 1 0) 1 ≡ true) × (eqb (cond w 1 0) 1 ≡ w)
mode_again true = (refl, refl)
mode_again false = (refl, refl)

declared_takes : (bytes : List ℕ) (x : Declared × List ℕ) → IsBytes bytes → declared_at bytes ≡ Some x → Takes bytes (declared_text x.0) x.1 × (x.0.id < 2 ^ 64)
unfolding declared_at
declared_takes bytes x fits e =
    let a = bind_some (number_at w8 bytes) (λ mode. number_at w64 mode.1 >>= λ id. cond (leb mode.0 1) (Some (record { id = id.0; writable = eqb mode.0 1 }, id.1)) None) x e in
    let d = bind_some (number_at w64 a.0.1) (λ id. cond (leb a.0.0 1) (Some (record { id = id.0; writable = eqb a.0.0 1 }, id.1)) None) x a.2 in
    let made : Declared × List ℕ = (record { id = d.0.0; writable = eqb a.0.0 1 }, d.0.1) in
    let b = if_some (leb a.0.0 1) (Some made) x d.2 in
    let t0 = byte_takes bytes a.0.0 a.0.1 fits a.1 in
    let t1 = number_takes w64 (2 ^ 64) wide64 a.0.1 d.0.0 d.0.1 t0.0.rest_fits d.1 in
    let both = Takes-then bytes (a.0.0 ∷ []) a.0.1 (wide d.0.0) d.0.1 t0.0 t1.0 in
    let spelled : Takes bytes (declared_text made.0) made.1 = subst (λ (m : ℕ). Takes bytes (m ∷ wide d.0.0) d.0.1) (mode_of a.0.0 b.0) both in
    subst (λ (y : Declared × List ℕ). Takes bytes (declared_text y.0) y.1 × (y.0.id < 2 ^ 64)) (some_is made x b.1) (spelled, t1.1)

declared_steps : (bytes r0 r1 : List ℕ) (mode id : ℕ) → number_at w8 bytes ≡ Some (mode, r0) → number_at w64 r0 ≡ Some (id, r1) → leb mode 1 ≡ true → declared_at bytes ≡ Some (record { id = id; writable = eqb mode 1 }, r1)
unfolding declared_at
declared_steps bytes r0 r1 mode id e0 e1 low = rw (e0, e1, low) refl

declared_again : (d : Declared) (rest : List ℕ) → d.id < 2 ^ 64 → declared_at (declared_text d ++ rest) ≡ Some (d, rest)
declared_again d rest lt =
    let steps = declared_steps (declared_text d ++ rest) (wide d.id ++ rest) rest (cond d.writable 1 0) d.id (byte_again (cond d.writable 1 0) (wide d.id ++ rest)) (number_again w64 (2 ^ 64) wide64 d.id rest lt) (mode_again d.writable).0 in
    subst (λ (w : Bool). declared_at (declared_text d ++ rest) ≡ Some (record { id = d.id; writable = w }, rest)) (mode_again d.writable).1 steps

-- ---- all declared accounts

abbrev IdFits : Declared → Type 0
IdFits d = d.id < 2 ^ 64

-- lists of accounts that a transaction can declare
record AreDeclared (ds : List Declared) : Type 0 where
  some : 1 ≤ length ds
  few : length ds ≤ 8
  ascending : IsTrue (is_ascending (declared_ids ds))
  ids_fit : AllByRecursion IdFits ds

count_is : {A : Type 0} (n : ℕ) (o : Option A) (x : A) → cond (is_count 8 n) o None ≡ Some x → (1 ≤ n) × (n ≤ 8) × (o ≡ Some x)
count_is n o x e =
    let t = if_some (is_count 8 n) o x e in
    let p = and_parts (leb 1 n) (leb n 8) t.0 in
    (leb-true 1 n p.0, leb-true n 8 p.1, t.1)

declarations_take : (bytes : List ℕ) (x : List Declared × List ℕ) → IsBytes bytes → declarations_at bytes ≡ Some x → Takes bytes (length x.0 ∷ flat_map declared_text x.0) x.1 × AreDeclared x.0
unfolding declarations_at
declarations_take bytes x fits e =
    let a = bind_some (number_at w8 bytes) (λ count. cond (is_count 8 count.0) (list_at declared_at count.0 count.1) None >>= λ entries. cond (is_ascending (declared_ids entries.0)) (Some entries) None) x e in
    let b = bind_some (cond (is_count 8 a.0.0) (list_at declared_at a.0.0 a.0.1) None) (λ entries. cond (is_ascending (declared_ids entries.0)) (Some entries) None) x a.2 in
    let n = count_is a.0.0 (list_at declared_at a.0.0 a.0.1) b.0 b.1 in
    let g = cond_some (is_ascending (declared_ids b.0.0)) b.0 x b.2 in
    let t0 = byte_takes bytes a.0.0 a.0.1 fits a.1 in
    let t1 = list_takes declared_at declared_text IdFits declared_takes a.0.0 a.0.1 b.0 t0.0.rest_fits n.2 in
    let both = Takes-then bytes (a.0.0 ∷ []) a.0.1 (flat_map declared_text b.0.0) b.0.1 t0.0 t1.0 in
    let spelled : Takes bytes (length b.0.0 ∷ flat_map declared_text b.0.0) b.0.1 = subst (λ (k : ℕ). Takes bytes (k ∷ flat_map declared_text b.0.0) b.0.1) (sym t1.1) both in
    subst (λ (y : List Declared × List ℕ). Takes bytes (length y.0 ∷ flat_map declared_text y.0) y.1 × AreDeclared y.0) g.1 (spelled, record { some = omega (arith, t1.1, n.0); few = omega (arith, t1.1, n.1); ascending = g.0; ids_fit = t1.2 })

declarations_steps : (bytes r0 r1 : List ℕ) (n : ℕ) (ds : List Declared) → number_at w8 bytes ≡ Some (n, r0) → is_count 8 n ≡ true → list_at declared_at n r0 ≡ Some (ds, r1) → is_ascending (declared_ids ds) ≡ true → declarations_at bytes ≡ Some (ds, r1)
unfolding declarations_at
declarations_steps bytes r0 r1 n ds e0 e1 e2 e3 = rw (e0, e1, e2, e3) refl

declarations_again : (ds : List Declared) (rest : List ℕ) → AreDeclared ds → declarations_at (length ds ∷ (flat_map declared_text ds ++ rest)) ≡ Some (ds, rest)
declarations_again ds rest h =
    declarations_steps (length ds ∷ (flat_map declared_text ds ++ rest)) (flat_map declared_text ds ++ rest) rest (length ds) ds (byte_again (length ds) (flat_map declared_text ds ++ rest)) (and_from _ _ (le-leb 1 (length ds) h.some) (le-leb (length ds) 8 h.few)) (list_again declared_at declared_text IdFits declared_again ds rest h.ids_fit) h.ascending

-- ---- the body

pay_takes : (bytes : List ℕ) (x : Body × List ℕ) → IsBytes bytes → pay_at bytes ≡ Some x → Takes bytes (body_text x.0) x.1 × BodyFits x.0 × (kind_of x.0 ≡ 1)
unfolding pay_at
pay_takes bytes x fits e =
    let a = bind_some (payment_at bytes) (λ payment. Some (Pay payment.0.to payment.0.amount, payment.1)) x e in
    let t = payment_takes bytes a.0 fits a.1 in
    let made : Body × List ℕ = (Pay a.0.0.to a.0.0.amount, a.0.1) in
    subst (λ (y : Body × List ℕ). Takes bytes (body_text y.0) y.1 × BodyFits y.0 × (kind_of y.0 ≡ 1)) (some_is made x a.2) (t.0, t.1, refl)

pay_if_takes : (bytes : List ℕ) (x : Body × List ℕ) → IsBytes bytes → pay_if_at bytes ≡ Some x → Takes bytes (body_text x.0) x.1 × BodyFits x.0 × (kind_of x.0 ≡ 2)
unfolding pay_if_at
pay_if_takes bytes x fits e =
    let a = bind_some (payment_at bytes) (λ payment. number_at w64 payment.1 >>= λ guard. number_at w64 guard.1 >>= λ min. Some (PayIf payment.0.to payment.0.amount guard.0 min.0, min.1)) x e in
    let b = bind_some (number_at w64 a.0.1) (λ guard. number_at w64 guard.1 >>= λ min. Some (PayIf a.0.0.to a.0.0.amount guard.0 min.0, min.1)) x a.2 in
    let d = bind_some (number_at w64 b.0.1) (λ min. Some (PayIf a.0.0.to a.0.0.amount b.0.0 min.0, min.1)) x b.2 in
    let t0 = payment_takes bytes a.0 fits a.1 in
    let t1 = number_takes w64 (2 ^ 64) wide64 a.0.1 b.0.0 b.0.1 t0.0.rest_fits b.1 in
    let t2 = number_takes w64 (2 ^ 64) wide64 b.0.1 d.0.0 d.0.1 t1.0.rest_fits d.1 in
    let two = Takes-then bytes (payment_text a.0.0) a.0.1 (wide b.0.0) b.0.1 t0.0 t1.0 in
    let three = Takes-then bytes (payment_text a.0.0 ++ wide b.0.0) b.0.1 (wide d.0.0) d.0.1 two t2.0 in
    let made : Body × List ℕ = (PayIf a.0.0.to a.0.0.amount b.0.0 d.0.0, d.0.1) in
    subst (λ (y : Body × List ℕ). Takes bytes (body_text y.0) y.1 × BodyFits y.0 × (kind_of y.0 ≡ 2)) (some_is made x d.2) (three, (t0.1.0, t0.1.1, t1.1, t2.1), refl)

chosen : {A : Type 0} (b : Bool) (p q : Option A) (x : A) → cond b p q ≡ Some x → ((b ≡ true) × (p ≡ Some x)) ⊎ ((b ≡ false) × (q ≡ Some x))
chosen true p q x e = inl (refl, e)
chosen false p q x e = inr (refl, e)

-- the kinds above 2
last_take : (kind : ℕ) (bytes : List ℕ) (x : Body × List ℕ) → IsBytes bytes → cond (eqb kind 3) (sweep_at bytes) (cond (eqb kind 4) (split_at bytes) None) ≡ Some x → Takes bytes (body_text x.0) x.1 × BodyFits x.0 × (kind_of x.0 ≡ kind)
last_take kind bytes x fits e =
    elim (chosen (eqb kind 3) (sweep_at bytes) (cond (eqb kind 4) (split_at bytes) None) x e) [
      | inl h ↦ let t = sweep_takes bytes x fits h.1 in (t.0, t.1, t.2 ∙ sym (eqb-true kind 3 h.0))
      | inr h ↦ let g = if_some (eqb kind 4) (split_at bytes) x h.1 in let t = split_takes bytes x fits g.1 in (t.0, t.1, t.2 ∙ sym (eqb-true kind 4 g.0))
    ]

-- the kinds above 1
others_take : (kind : ℕ) (bytes : List ℕ) (x : Body × List ℕ) → IsBytes bytes → cond (eqb kind 2) (pay_if_at bytes) (cond (eqb kind 3) (sweep_at bytes) (cond (eqb kind 4) (split_at bytes) None)) ≡ Some x → Takes bytes (body_text x.0) x.1 × BodyFits x.0 × (kind_of x.0 ≡ kind)
others_take kind bytes x fits e =
    elim (chosen (eqb kind 2) (pay_if_at bytes) (cond (eqb kind 3) (sweep_at bytes) (cond (eqb kind 4) (split_at bytes) None)) x e) [
      | inl h ↦ let t = pay_if_takes bytes x fits h.1 in (t.0, t.1, t.2 ∙ sym (eqb-true kind 2 h.0))
      | inr h ↦ last_take kind bytes x fits h.1
    ]

body_takes : (kind : ℕ) (bytes : List ℕ) (x : Body × List ℕ) → IsBytes bytes → body_at kind bytes ≡ Some x → Takes bytes (body_text x.0) x.1 × BodyFits x.0 × (kind_of x.0 ≡ kind)
unfolding body_at
body_takes kind bytes x fits e =
    elim (chosen (eqb kind 1) (pay_at bytes) (cond (eqb kind 2) (pay_if_at bytes) (cond (eqb kind 3) (sweep_at bytes) (cond (eqb kind 4) (split_at bytes) None))) x e) [
      | inl h ↦ let t = pay_takes bytes x fits h.1 in (t.0, t.1, t.2 ∙ sym (eqb-true kind 1 h.0))
      | inr h ↦ others_take kind bytes x fits h.1
    ]

pay_steps : (bytes rest : List ℕ) (p : Payment) → payment_at bytes ≡ Some (p, rest) → pay_at bytes ≡ Some (Pay p.to p.amount, rest)
unfolding pay_at
pay_steps bytes rest p e = rw e refl

pay_if_steps : (bytes r0 r1 r2 : List ℕ) (p : Payment) (guard min : ℕ) → payment_at bytes ≡ Some (p, r0) → number_at w64 r0 ≡ Some (guard, r1) → number_at w64 r1 ≡ Some (min, r2) → pay_if_at bytes ≡ Some (PayIf p.to p.amount guard min, r2)
unfolding pay_if_at
pay_if_steps bytes r0 r1 r2 p guard min e0 e1 e2 = rw (e0, e1, e2) refl

body_again : (body : Body) (rest : List ℕ) → BodyFits body → body_at (kind_of body) (body_text body ++ rest) ≡ Some (body, rest)
unfolding body_at
body_again (Pay to amount) rest fits =
    let p : Payment = record { to = to; amount = amount } in
    pay_steps (payment_text p ++ rest) rest p (payment_again p rest fits)
body_again (PayIf to amount guard min) rest fits =
    let p : Payment = record { to = to; amount = amount } in
    let r1 : List ℕ = wide min ++ rest in
    let r0 : List ℕ = wide guard ++ r1 in
    pay_if_steps (payment_text p ++ r0) r0 r1 rest p guard min (payment_again p r0 (fits.0, fits.1)) (number_again w64 (2 ^ 64) wide64 guard r1 fits.2) (number_again w64 (2 ^ 64) wide64 min rest fits.3)
body_again (Sweep to keep) rest fits =
    let r1 : List ℕ = wide keep ++ rest in
    sweep_steps (wide to ++ r1) r1 rest to keep (number_again w64 (2 ^ 64) wide64 to r1 fits.0) (number_again w64 (2 ^ 64) wide64 keep rest fits.1)
body_again (Split payments) rest fits = split_again payments rest fits

-- ---- the whole transaction

apart_from : (from : ℕ) (ids : List ℕ) → list_any (λ to. eqb to from) ids ≡ false → AllByRecursion (λ to. to ≢ from) ids
apart_from from [] e = tt
apart_from from (id ∷ ids) e = let p = or_parts _ _ e in (eqb-false id from p.0, apart_from from ids p.1)

apart_again : (from : ℕ) (ids : List ℕ) → AllByRecursion (λ to. to ≢ from) ids → list_any (λ to. eqb to from) ids ≡ false
apart_again from [] h = refl
apart_again from (id ∷ ids) h = or_from _ _ (ne_eqb id from h.0) (apart_again from ids h.1)

transaction_parts : (bytes r0 r1 r2 r3 r4 : List ℕ) (kind seq from : ℕ) (ds : List Declared) (body : Body) → Takes bytes (kind ∷ []) r0 → Takes r0 (length ds ∷ flat_map declared_text ds) r1 → Takes r1 (wide seq) r2 → Takes r2 (wide from) r3 → Takes r3 (body_text body) r4 → r4 ≡ [] → kind_of body ≡ kind
    → bytes ≡ transaction_text (record { declared = ds; seq = seq; from = from; body = body })
transaction_parts bytes r0 r1 r2 r3 r4 kind seq from ds body p0 p1 p2 p3 p4 nothing k =
    let head : List ℕ = length ds ∷ flat_map declared_text ds in
    let l1 = Takes-then bytes (kind ∷ []) r0 head r1 p0 p1 in
    let l2 = Takes-then bytes ((kind ∷ []) ++ head) r1 (wide seq) r2 l1 p2 in
    let l3 = Takes-then bytes ((kind ∷ []) ++ head ++ wide seq) r2 (wide from) r3 l2 p3 in
    let l4 = Takes-then bytes ((kind ∷ []) ++ head ++ wide seq ++ wide from) r3 (body_text body) r4 l3 p4 in
    let text : List ℕ = (kind ∷ []) ++ head ++ wide seq ++ wide from ++ body_text body in
    l4.parts ∙ ap (λ (r : List ℕ). text ++ r) nothing ∙ append-nil text ∙ ap (λ (n : ℕ). (n ∷ []) ++ head ++ wide seq ++ wide from ++ body_text body) (sym k)

pub transaction_takes : (bytes : List ℕ) (t : Transaction) → IsBytes bytes → transaction_of bytes ≡ Some t → IsTransaction t × (bytes ≡ transaction_text t)
unfolding transaction_of
transaction_takes bytes t fits e =
    let a = bind_some (number_at w8 bytes) (λ kind. declarations_at kind.1 >>= λ declared. number_at w64 declared.1 >>= λ seq. number_at w64 seq.1 >>= λ from. body_at kind.0 from.1 >>= λ body. cond (eqb (length body.1) 0 && not (pays body.0 from.0)) (Some (record { declared = declared.0; seq = seq.0; from = from.0; body = body.0 })) None) t e in
    let b = bind_some (declarations_at a.0.1) (λ declared. number_at w64 declared.1 >>= λ seq. number_at w64 seq.1 >>= λ from. body_at a.0.0 from.1 >>= λ body. cond (eqb (length body.1) 0 && not (pays body.0 from.0)) (Some (record { declared = declared.0; seq = seq.0; from = from.0; body = body.0 })) None) t a.2 in
    let d = bind_some (number_at w64 b.0.1) (λ seq. number_at w64 seq.1 >>= λ from. body_at a.0.0 from.1 >>= λ body. cond (eqb (length body.1) 0 && not (pays body.0 from.0)) (Some (record { declared = b.0.0; seq = seq.0; from = from.0; body = body.0 })) None) t b.2 in
    let f = bind_some (number_at w64 d.0.1) (λ from. body_at a.0.0 from.1 >>= λ body. cond (eqb (length body.1) 0 && not (pays body.0 from.0)) (Some (record { declared = b.0.0; seq = d.0.0; from = from.0; body = body.0 })) None) t d.2 in
    let g = bind_some (body_at a.0.0 f.0.1) (λ body. cond (eqb (length body.1) 0 && not (pays body.0 f.0.0)) (Some (record { declared = b.0.0; seq = d.0.0; from = f.0.0; body = body.0 })) None) t f.2 in
    let made : Transaction = record { declared = b.0.0; seq = d.0.0; from = f.0.0; body = g.0.0 } in
    let h = cond_some (eqb (length g.0.1) 0 && not (pays g.0.0 f.0.0)) made t g.2 in
    let t0 = byte_takes bytes a.0.0 a.0.1 fits a.1 in
    let t1 = declarations_take a.0.1 b.0 t0.0.rest_fits b.1 in
    let t2 = number_takes w64 (2 ^ 64) wide64 b.0.1 d.0.0 d.0.1 t1.0.rest_fits d.1 in
    let t3 = number_takes w64 (2 ^ 64) wide64 d.0.1 f.0.0 f.0.1 t2.0.rest_fits f.1 in
    let t4 = body_takes a.0.0 f.0.1 g.0 t3.0.rest_fits g.1 in
    let ends = and_parts (eqb (length g.0.1) 0) (not (pays g.0.0 f.0.0)) h.0 in
    let nothing : g.0.1 ≡ [] = nil_from_length g.0.1 (eqb-true _ _ ends.0) in
    let apart = apart_from f.0.0 (receivers_of g.0.0) (not-true _ ends.1) in
    let whole = transaction_parts bytes a.0.1 b.0.1 d.0.1 f.0.1 g.0.1 a.0.0 d.0.0 f.0.0 b.0.0 g.0.0 t0.0 t1.0 t2.0 t3.0 t4.0 nothing t4.2 in
    subst (λ (u : Transaction). IsTransaction u × (bytes ≡ transaction_text u)) h.1 (record { some = t1.1.some; few = t1.1.few; ascending = t1.1.ascending; apart = apart; ids_fit = t1.1.ids_fit; seq_fits = t2.1; from_fits = t3.1; body_fits = t4.1 }, whole)

transaction_steps : (bytes r0 r1 r2 r3 : List ℕ) (kind seq from : ℕ) (ds : List Declared) (body : Body) → number_at w8 bytes ≡ Some (kind, r0) → declarations_at r0 ≡ Some (ds, r1) → number_at w64 r1 ≡ Some (seq, r2) → number_at w64 r2 ≡ Some (from, r3) → body_at kind r3 ≡ Some (body, []) → pays body from ≡ false
    → transaction_of bytes ≡ Some (record { declared = ds; seq = seq; from = from; body = body })
unfolding transaction_of
transaction_steps bytes r0 r1 r2 r3 kind seq from ds body e0 e1 e2 e3 e4 e5 = rw (e0, e1, e2, e3, e4, e5) refl

regroup : (a b c d : List ℕ) → a ++ b ++ c ++ d ≡ a ++ (b ++ (c ++ (d ++ [])))
regroup a b c d = append_assoc (a ++ b) c d ∙ append_assoc a b (c ++ d) ∙ ap (λ (x : List ℕ). a ++ (b ++ (c ++ x))) (sym (append-nil d))

pub transaction_again : (t : Transaction) → IsTransaction t → transaction_of (transaction_text t) ≡ Some t
transaction_again t h =
    let kind = kind_of t.body in
    let r3 : List ℕ = body_text t.body ++ [] in
    let r2 : List ℕ = wide t.from ++ r3 in
    let r1 : List ℕ = wide t.seq ++ r2 in
    let r0 : List ℕ = length t.declared ∷ (flat_map declared_text t.declared ++ r1) in
    let fits : AreDeclared t.declared = record { some = h.some; few = h.few; ascending = h.ascending; ids_fit = h.ids_fit } in
    let spelled : transaction_text t ≡ kind ∷ r0 = ap (λ (x : List ℕ). kind ∷ length t.declared ∷ x) (regroup (flat_map declared_text t.declared) (wide t.seq) (wide t.from) (body_text t.body)) in
    ap transaction_of spelled ∙ transaction_steps (kind ∷ r0) r0 r1 r2 r3 kind t.seq t.from t.declared t.body (byte_again kind r0) (declarations_again t.declared r1 fits) (number_again w64 (2 ^ 64) wide64 t.seq r2 h.seq_fits) (number_again w64 (2 ^ 64) wide64 t.from r3 h.from_fits) (body_again t.body [] h.body_fits) (apart_again t.from (receivers_of t.body) h.apart)

-- ---- what is known of a transaction, from the function that reads it

pub is_found : (bytes : List ℕ) (o : Option Transaction) → IsBytes bytes → o ≡ transaction_of bytes → IfSome o (λ t. IsTransaction t × (bytes ≡ transaction_text t))
is_found bytes (Some t) fits given = transaction_takes bytes t fits (sym given)
is_found bytes None fits given = tt

pub is_none : (bytes : List ℕ) (o : Option Transaction) → o ≡ transaction_of bytes → IfNone o ((t : Transaction) → IsTransaction t → bytes ≢ transaction_text t)
is_none bytes (Some t) given = tt
is_none bytes None given = λ t h e. none-some t (given ∙ ap transaction_of e ∙ transaction_again t h)

-- ---- a transaction of given parts

pub not_made : (t : Transaction) → (IsTransaction t → ⊥) → (false ≡ true → IsTransaction t) × (IsTransaction t → false ≡ true)
not_made t never = ((λ e. absurd (clash e)), λ h. absurd (never h))
  where
    clash : false ≡ true → ⊥
    clash e = cc

pub not_some : (t : Transaction) → eqb (length t.declared) 0 ≡ true → IsTransaction t → ⊥
not_some t none h = let some = h.some in omega (arith, eqb-true (length t.declared) 0 none)

pub not_ascending : (t : Transaction) → is_ascending (declared_ids t.declared) ≡ false → IsTransaction t → ⊥
not_ascending t down h = let up : is_ascending (declared_ids t.declared) ≡ true = h.ascending in cc

pub not_apart : (t : Transaction) → pays t.body t.from ≡ true → IsTransaction t → ⊥
not_apart t paid h = let apart = apart_again t.from (receivers_of t.body) h.apart in cc

pub is_made : (t : Transaction) → eqb (length t.declared) 0 ≡ false → length t.declared ≤ 8 → is_ascending (declared_ids t.declared) ≡ true → IdsFit t.declared → BodyFits t.body → pays t.body t.from ≡ false → t.seq < 2 ^ 64 → t.from < 2 ^ 64 → IsTransaction t
is_made t some few up ids body apart seq from = record {
  some = above_zero (length t.declared) (eqb-false (length t.declared) 0 some);
  few = few;
  ascending = up;
  apart = apart_from t.from (receivers_of t.body) apart;
  ids_fit = ids;
  seq_fits = seq;
  from_fits = from;
  body_fits = body;
}
  where
    above_zero : (n : ℕ) → (n ≡ 0 → ⊥) → 1 ≤ n
    above_zero zero never = absurd (never refl)
    above_zero (suc n) never = omega arith

-- what is made of the parts that were read is what the bytes encode
judged : (bytes r0 r1 r2 r3 r4 : List ℕ) (kind seq from : ℕ) (ds : List Declared) (body : Body) → Some (kind, r0) ≡ number_at w8 bytes → Some (ds, r1) ≡ declarations_at r0 → Some (seq, r2) ≡ number_at w64 r1 → Some (from, r3) ≡ number_at w64 r2 → Some (body, r4) ≡ body_at kind r3 → true ≡ eqb (length r4) 0
    → transaction_of bytes ≡ cond (not (pays body from)) (Some (record { declared = ds; seq = seq; from = from; body = body })) None
unfolding transaction_of
judged bytes r0 r1 r2 r3 r4 kind seq from ds body e0 e1 e2 e3 e4 e5 = rw (← e0, ← e1, ← e2, ← e3, ← e4, ← e5) refl

-- no such transaction where it would pay its sender
pub not_read : (bytes r0 r1 r2 r3 r4 : List ℕ) (kind seq from : ℕ) (ds : List Declared) (body : Body) → Some (kind, r0) ≡ number_at w8 bytes → Some (ds, r1) ≡ declarations_at r0 → Some (seq, r2) ≡ number_at w64 r1 → Some (from, r3) ≡ number_at w64 r2 → Some (body, r4) ≡ body_at kind r3 → true ≡ eqb (length r4) 0
    → pays body from ≡ true → None ≡ transaction_of bytes
not_read bytes r0 r1 r2 r3 r4 kind seq from ds body e0 e1 e2 e3 e4 e5 paid =
    sym (judged bytes r0 r1 r2 r3 r4 kind seq from ds body e0 e1 e2 e3 e4 e5 ∙ ap (λ (b : Bool). cond (not b) (Some (record { declared = ds; seq = seq; from = from; body = body })) None) paid)

-- and else these parts
pub is_read : (bytes r0 r1 r2 r3 r4 : List ℕ) (kind seq from : ℕ) (ds : List Declared) (body : Body) → Some (kind, r0) ≡ number_at w8 bytes → Some (ds, r1) ≡ declarations_at r0 → Some (seq, r2) ≡ number_at w64 r1 → Some (from, r3) ≡ number_at w64 r2 → Some (body, r4) ≡ body_at kind r3 → true ≡ eqb (length r4) 0
    → pays body from ≡ false → Some (transaction ds seq from body) ≡ transaction_of bytes
is_read bytes r0 r1 r2 r3 r4 kind seq from ds body e0 e1 e2 e3 e4 e5 apart =
    sym (judged bytes r0 r1 r2 r3 r4 kind seq from ds body e0 e1 e2 e3 e4 e5 ∙ ap (λ (b : Bool). cond (not b) (Some (record { declared = ds; seq = seq; from = from; body = body })) None) apart)

-- what is read is a transaction
pub read_is_sound : (bytes : List ℕ) (t : Transaction) → IsBytes bytes → Some t ≡ transaction_of bytes → IsTransaction t
read_is_sound bytes t fits e = (transaction_takes bytes t fits (sym e)).0

-- what was filled is a transaction, where all of it was read
pub filled_is_sound : {U : Type 0} (bytes : List ℕ) (t : Transaction) (o : Option U) → IsBytes bytes → option_map (λ (u : U). t) o ≡ transaction_of bytes → is_some o ≡ true → IsTransaction t
filled_is_sound bytes t (Some u) fits e some = read_is_sound bytes t fits e
filled_is_sound bytes t None fits e some = absurd cc
