-- The bodies of a sweep and of a split: what is read encodes to the same bytes, and what is encoded is read again.
use Rattle.std.proofs.Common.{◌≡◌, ℕ, ◌*◌, ◌^◌, ◌<◌, ◌≤◌, Bool, true, cond, leb, eqb, ◌||◌, List, [], ◌∷◌, ◌++◌, length, Option, Some, None, refl, sym, ap, subst, length-append, arith}
use Rattle.std.specs.List.{flat_map, list_any}
use Rattle.std.specs.Int.{w8, w64}
use Rattle.std.proofs.lemmas.Bool.{leb-true, le-leb, and_parts, and_from}
use Rattle.std.proofs.lemmas.List.Concat.{flat_map-cons}
use Rattle.std.proofs.lemmas.Option.{cond_some}
use Rattle.bk_base.specs.Numbers.{IsBytes, ◌>>=◌, number_at, list_at, is_ascending}
use Rattle.bk_tx.specs.declared.payments.Payment.{Payment}
use Rattle.bk_tx.specs.declared.body.Body.{Body}
use Rattle.bk_tx.specs.declared.body.Body.TheVariants.{Sweep, Split}
use Rattle.bk_tx.specs.Access.{receivers_in}
use Rattle.bk_tx.specs.Spelling.{wide, payment_text, kind_of, body_text, ArePayments, BodyFits}
use Rattle.bk_tx.specs.Reading.{sweep_at, payment_at, split_at}
use Rattle.bk_base.proofs.FieldLemmas.{list_takes, list_again, bind_some, if_some, some_is, Takes, Takes-then, byte_takes, byte_again, wide64, number_takes, number_again}
use Rattle.bk_tx.specs.private.Counts.{is_count}

-- ---- a sweep

pub sweep_takes : (bytes : List ℕ) (x : Body × List ℕ) → IsBytes bytes → sweep_at bytes ≡ Some x → Takes bytes (body_text x.0) x.1 × BodyFits x.0 × (kind_of x.0 ≡ 3)
unfolding sweep_at
sweep_takes bytes x fits e =
    let a = bind_some (number_at w64 bytes) (λ to. number_at w64 to.1 >>= λ keep. Some (Sweep to.0 keep.0, keep.1)) x e in
    let b = bind_some (number_at w64 a.0.1) (λ keep. Some (Sweep a.0.0 keep.0, keep.1)) x a.2 in
    let t0 = number_takes w64 (2 ^ 64) wide64 bytes a.0.0 a.0.1 fits a.1 in
    let t1 = number_takes w64 (2 ^ 64) wide64 a.0.1 b.0.0 b.0.1 t0.0.rest_fits b.1 in
    let both = Takes-then bytes (wide a.0.0) a.0.1 (wide b.0.0) b.0.1 t0.0 t1.0 in
    let made : Body × List ℕ = (Sweep a.0.0 b.0.0, b.0.1) in
    subst (λ (y : Body × List ℕ). Takes bytes (body_text y.0) y.1 × BodyFits y.0 × (kind_of y.0 ≡ 3)) (some_is made x b.2) (both, (t0.1, t1.1), refl)

pub sweep_steps : (bytes r0 r1 : List ℕ) (to keep : ℕ) → number_at w64 bytes ≡ Some (to, r0) → number_at w64 r0 ≡ Some (keep, r1) → sweep_at bytes ≡ Some (Sweep to keep, r1)
unfolding sweep_at
sweep_steps bytes r0 r1 to keep e0 e1 = rw (e0, e1) refl

-- ---- one payment

abbrev pub Fits : Payment → Type 0
Fits p = (p.to < 2 ^ 64) × (p.amount < 2 ^ 64)

pub payment_takes : (bytes : List ℕ) (x : Payment × List ℕ) → IsBytes bytes → payment_at bytes ≡ Some x → Takes bytes (payment_text x.0) x.1 × Fits x.0
unfolding payment_at
payment_takes bytes x fits e =
    let a = bind_some (number_at w64 bytes) (λ to. number_at w64 to.1 >>= λ amount. Some (record { to = to.0; amount = amount.0 }, amount.1)) x e in
    let b = bind_some (number_at w64 a.0.1) (λ amount. Some (record { to = a.0.0; amount = amount.0 }, amount.1)) x a.2 in
    let t0 = number_takes w64 (2 ^ 64) wide64 bytes a.0.0 a.0.1 fits a.1 in
    let t1 = number_takes w64 (2 ^ 64) wide64 a.0.1 b.0.0 b.0.1 t0.0.rest_fits b.1 in
    let both = Takes-then bytes (wide a.0.0) a.0.1 (wide b.0.0) b.0.1 t0.0 t1.0 in
    let made : Payment × List ℕ = (record { to = a.0.0; amount = b.0.0 }, b.0.1) in
    subst (λ (y : Payment × List ℕ). Takes bytes (payment_text y.0) y.1 × Fits y.0) (some_is made x b.2) (both, (t0.1, t1.1))

payment_steps : (bytes r0 r1 : List ℕ) (to amount : ℕ) → number_at w64 bytes ≡ Some (to, r0) → number_at w64 r0 ≡ Some (amount, r1) → payment_at bytes ≡ Some (record { to = to; amount = amount }, r1)
unfolding payment_at
payment_steps bytes r0 r1 to amount e0 e1 = rw (e0, e1) refl

pub payment_again : (p : Payment) (rest : List ℕ) → Fits p → payment_at (payment_text p ++ rest) ≡ Some (p, rest)
payment_again p rest fits =
    let after : List ℕ = wide p.amount ++ rest in
    payment_steps (payment_text p ++ rest) after rest p.to p.amount (number_again w64 (2 ^ 64) wide64 p.to after fits.0) (number_again w64 (2 ^ 64) wide64 p.amount rest fits.1)

-- ---- all payments

-- each payment takes sixteen bytes
pub length-payments : (ps : List Payment) → length (flat_map payment_text ps) ≡ 16 * length ps
length-payments [] = refl
length-payments (p ∷ ps) = omega (arith, ap length (flat_map-cons payment_text p ps), length-append (payment_text p) (flat_map payment_text ps), length-payments ps)

-- a payment to an account is a receiver of that id
pub pays_receiver : (ps : List Payment) (id : ℕ) → list_any (λ (p : Payment). eqb p.to id) ps ≡ list_any (λ to. eqb to id) (receivers_in ps)
pays_receiver [] id = refl
pays_receiver (p ∷ ps) id = ap (λ (b : Bool). eqb p.to id || b) (pays_receiver ps id)

-- ---- a split

count_is : {A : Type 0} (n : ℕ) (o : Option A) (x : A) → cond (is_count 6 n) o None ≡ Some x → (1 ≤ n) × (n ≤ 6) × (o ≡ Some x)
count_is n o x e =
    let t = if_some (is_count 6 n) o x e in
    let p = and_parts (leb 1 n) (leb n 6) t.0 in
    (leb-true 1 n p.0, leb-true n 6 p.1, t.1)

pub split_takes : (bytes : List ℕ) (x : Body × List ℕ) → IsBytes bytes → split_at bytes ≡ Some x → Takes bytes (body_text x.0) x.1 × BodyFits x.0 × (kind_of x.0 ≡ 4)
unfolding split_at
split_takes bytes x fits e =
    let a = bind_some (number_at w8 bytes) (λ count. cond (is_count 6 count.0) (list_at payment_at count.0 count.1) None >>= λ payments. cond (is_ascending (receivers_in payments.0)) (Some (Split payments.0, payments.1)) None) x e in
    let b = bind_some (cond (is_count 6 a.0.0) (list_at payment_at a.0.0 a.0.1) None) (λ payments. cond (is_ascending (receivers_in payments.0)) (Some (Split payments.0, payments.1)) None) x a.2 in
    let n = count_is a.0.0 (list_at payment_at a.0.0 a.0.1) b.0 b.1 in
    let made : Body × List ℕ = (Split b.0.0, b.0.1) in
    let g = cond_some (is_ascending (receivers_in b.0.0)) made x b.2 in
    let t0 = byte_takes bytes a.0.0 a.0.1 fits a.1 in
    let t1 = list_takes payment_at payment_text Fits payment_takes a.0.0 a.0.1 b.0 t0.0.rest_fits n.2 in
    let both = Takes-then bytes (a.0.0 ∷ []) a.0.1 (flat_map payment_text b.0.0) b.0.1 t0.0 t1.0 in
    let spelled : Takes bytes (length b.0.0 ∷ flat_map payment_text b.0.0) b.0.1 = subst (λ (k : ℕ). Takes bytes (k ∷ flat_map payment_text b.0.0) b.0.1) (sym t1.1) both in
    let good : ArePayments b.0.0 = record { some = omega (arith, t1.1, n.0); few = omega (arith, t1.1, n.1); ascending = g.0; fit = t1.2 } in
    subst (λ (y : Body × List ℕ). Takes bytes (body_text y.0) y.1 × BodyFits y.0 × (kind_of y.0 ≡ 4)) g.1 (spelled, good, refl)

split_steps : (bytes r0 r1 : List ℕ) (n : ℕ) (ps : List Payment) → number_at w8 bytes ≡ Some (n, r0) → is_count 6 n ≡ true → list_at payment_at n r0 ≡ Some (ps, r1) → is_ascending (receivers_in ps) ≡ true → split_at bytes ≡ Some (Split ps, r1)
unfolding split_at
split_steps bytes r0 r1 n ps e0 e1 e2 e3 = rw (e0, e1, e2, e3) refl

pub split_again : (ps : List Payment) (rest : List ℕ) → ArePayments ps → split_at (length ps ∷ (flat_map payment_text ps ++ rest)) ≡ Some (Split ps, rest)
split_again ps rest h =
    let others : List ℕ = flat_map payment_text ps ++ rest in
    split_steps (length ps ∷ others) others rest (length ps) ps (byte_again (length ps) others) (and_from _ _ (le-leb 1 (length ps) h.some) (le-leb (length ps) 6 h.few)) (list_again payment_at payment_text Fits payment_again ps rest h.fit) h.ascending
