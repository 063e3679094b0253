-- Accounts that are declared one after another.
use Rattle.std.proofs.Common.{suc, ◌≡◌, ◌≢◌, ℕ, ◌+◌, ◌^◌, ◌<◌, ◌≤◌, ◌==◌, ◌&&◌, ◌||◌, Bool, true, false, nat_lt, if◌then◌else◌, List, [], ◌∷◌, ◌++◌, length, get_or, take, drop, refl, sym, ap, ◌∙◌, arith, Ok, Err, append_assoc, fold, not}
use Rattle.std.specs.List.{AllByRecursion, insert, list_any}
use Rattle.std.proofs.lemmas.Bool.{and_parts, and_from, eq-eqb, ne_eqb, lt-ltb, le-ltb}
use Rattle.std.proofs.lemmas.List.{at_drop_more, at_drop_all, take_more, drop_more, take_all, take-append-drop}
use Rattle.std.proofs.lemmas.Bool.Decides.{nat_tests}
use Rattle.bk_base.specs.Numbers.{is_ascending}
use Rattle.bk_tx.specs.declared.declared.Declared.{Declared}
use Rattle.bk_tx.specs.declared.payments.Payment.{Payment}
use Rattle.bk_tx.specs.declared.body.Body.{Body}
use Rattle.bk_tx.specs.declared.body.Body.TheVariants.{Pay, PayIf, Sweep, Split}
use Rattle.bk_tx.specs.Access.{declared_ids, receivers_in, no_declared, IdsFit, PaymentsFit}
use Rattle.bk_tx.specs.Spelling.{receivers_of, BodyFits, IsTransaction}
use Rattle.bk_tx.specs.Transaction.{transaction}
use Rattle.bk_tx.specs.Reading.{pays}
use Rattle.bk_tx.specs.Spelling.{transaction_text}
use Rattle.bk_tx.specs.Transaction.{Transaction}
use Rattle.bk_results.specs.declared.script_fault.ScriptCode.TheVariants as code
use Rattle.bk_script.specs.private.Saying.{IsSayable}
use Rattle.bk_script.specs.Transactions.{declare, declared_by, is_payable, text_of}

-- ---- one account more, found from the front

new_one : ℕ → Bool → Declared
new_one id w = record { id = id; writable = w }

step_of : (id : ℕ) (w : Bool) (ds : List Declared) (i : ℕ) → i < length ds
    → declare id w (drop i ds) ≡ (if nat_lt id ((get_or ds i no_declared).id) then record { id = id; writable = w } ∷ get_or ds i no_declared ∷ drop (i + 1) ds
    else (if id == (get_or ds i no_declared).id then get_or ds i no_declared ∷ drop (i + 1) ds else get_or ds i no_declared ∷ declare id w (drop (i + 1) ds)))
step_of id w ds i l = at_drop_more (declare id w) ds i no_declared l

-- it is above the account here
pub above : (id : ℕ) (w : Bool) (ds : List Declared) (i : ℕ) → i < length ds → ((get_or ds i no_declared).id ≤ id) → (id ≡ (get_or ds i no_declared).id → ⊥)
    → take i ds ++ declare id w (drop i ds) ≡ declare id w ds → take (i + 1) ds ++ declare id w (drop (i + 1) ds) ≡ declare id w ds
above id w ds i l up ne inv =
    let here = get_or ds i no_declared in
    let rest = declare id w (drop (i + 1) ds) in
    let t1 = le-ltb id here.id up in
    let t2 = ne_eqb id here.id ne in
    let step : declare id w (drop i ds) ≡ here ∷ rest =
    step_of id w ds i l
    ∙ ap (λ b. if b then record { id = id; writable = w } ∷ here ∷ drop (i + 1) ds else (if id == here.id then here ∷ drop (i + 1) ds else here ∷ rest)) t1
    ∙ ap (λ b. if b then here ∷ drop (i + 1) ds else here ∷ rest) t2 in
    ap (λ front. front ++ rest) (take_more ds i no_declared l) ∙ append_assoc (take i ds) (here ∷ []) rest ∙ ap (λ r. take i ds ++ r) (sym step) ∙ inv

-- it belongs before the account here
pub before_here : (id : ℕ) (w : Bool) (ds out : List Declared) (i : ℕ) → i < length ds → id < (get_or ds i no_declared).id → out ≡ insert ds i (record { id = id; writable = w })
    → take i ds ++ declare id w (drop i ds) ≡ declare id w ds → out ≡ declare id w ds
before_here id w ds out i l low is inv =
    let here = get_or ds i no_declared in
    let one : Declared = record { id = id; writable = w } in
    let step : declare id w (drop i ds) ≡ one ∷ here ∷ drop (i + 1) ds =
    step_of id w ds i l ∙ ap (λ b. if b then one ∷ here ∷ drop (i + 1) ds else (if id == here.id then here ∷ drop (i + 1) ds else here ∷ declare id w (drop (i + 1) ds))) (lt-ltb id here.id low) in
    is ∙ ap (λ r. take i ds ++ one ∷ r) (drop_more ds i no_declared l) ∙ ap (λ r. take i ds ++ r) (sym step) ∙ inv

-- it is the account here
pub is_here : (id : ℕ) (w : Bool) (ds : List Declared) (i : ℕ) → i < length ds → id ≡ (get_or ds i no_declared).id
    → take i ds ++ declare id w (drop i ds) ≡ declare id w ds → ds ≡ declare id w ds
is_here id w ds i l e inv =
    let here = get_or ds i no_declared in
    let one : Declared = record { id = id; writable = w } in
    let step : declare id w (drop i ds) ≡ here ∷ drop (i + 1) ds =
    step_of id w ds i l
    ∙ ap (λ b. if b then one ∷ here ∷ drop (i + 1) ds else (if id == here.id then here ∷ drop (i + 1) ds else here ∷ declare id w (drop (i + 1) ds))) (le-ltb id here.id (omega (arith, e)))
    ∙ ap (λ b. if b then here ∷ drop (i + 1) ds else here ∷ declare id w (drop (i + 1) ds)) (eq-eqb id here.id e) in
    sym (take-append-drop i ds) ∙ ap (λ r. take i ds ++ r) (sym (step ∙ sym (drop_more ds i no_declared l))) ∙ inv

-- it is above them all
pub at_end : (id : ℕ) (w : Bool) (ds out : List Declared) (i : ℕ) → length ds ≤ i → out ≡ ds ++ record { id = id; writable = w } ∷ []
    → take i ds ++ declare id w (drop i ds) ≡ declare id w ds → out ≡ declare id w ds
at_end id w ds out i l is inv =
    let one : Declared = record { id = id; writable = w } in
    is ∙ ap (λ front. front ++ one ∷ []) (sym (take_all i ds l)) ∙ ap (λ r. take i ds ++ r) (sym (at_drop_all (declare id w) ds i l)) ∙ inv

-- ---- receivers, one after another

-- a receiver more is declared
pub paid_more : (ps : List Payment) (i : ℕ) (ds out all : List Declared) (d : Payment) → i < length ps → out ≡ declare ((get_or ps i d).to) true ds
    → fold (λ declared to. declare to true declared) ds (receivers_in (drop i ps)) ≡ all
    → fold (λ declared to. declare to true declared) out (receivers_in (drop (i + 1) ps)) ≡ all
paid_more ps i ds out all d l e inv =
    let f : List Declared → ℕ → List Declared = λ declared to. declare to true declared in
    ap (λ start. fold f start (receivers_in (drop (i + 1) ps))) e
    ∙ sym (at_drop_more (λ more. fold f ds (receivers_in more)) ps i d l) ∙ inv

pub paid_all : (ps : List Payment) (i : ℕ) (ds all : List Declared) → length ps ≤ i
    → fold (λ declared to. declare to true declared) ds (receivers_in (drop i ps)) ≡ all → ds ≡ all
paid_all ps i ds all l inv = sym (at_drop_all (λ more. fold (λ declared to. declare to true declared) ds (receivers_in more)) ps i l) ∙ inv

-- ---- what is declared is what a transaction may declare

from_step : (lo id : ℕ) (w : Bool) (d : Declared) (ds : List Declared) (a b : Bool) → nat_lt id d.id ≡ a → (id == d.id) ≡ b → lo < id
    → is_ascending (lo ∷ d.id ∷ declared_ids ds) ≡ true → (d.id < id → is_ascending (d.id ∷ declared_ids (declare id w ds)) ≡ true)
    → is_ascending (lo ∷ declared_ids (if a then record { id = id; writable = w } ∷ d ∷ ds else (if b then d ∷ ds else d ∷ declare id w ds))) ≡ true
from_step lo id w d ds true b e f l h rest =
    let parts = and_parts (nat_lt lo d.id) (is_ascending (d.id ∷ declared_ids ds)) h in
    and_from (nat_lt lo id) (nat_lt id d.id && is_ascending (d.id ∷ declared_ids ds)) (lt-ltb lo id l) (and_from (nat_lt id d.id) (is_ascending (d.id ∷ declared_ids ds)) e parts.1)
from_step lo id w d ds false true e f l h rest = h
from_step lo id w d ds false false e f l h rest =
    let parts = and_parts (nat_lt lo d.id) (is_ascending (d.id ∷ declared_ids ds)) h in
    and_from (nat_lt lo d.id) (is_ascending (d.id ∷ declared_ids (declare id w ds))) parts.0 (rest (higher id d.id e f))
  where
    higher : (x y : ℕ) → nat_lt x y ≡ false → (x == y) ≡ false → y < x
    higher x y p q = grind (arith, nat_tests)

ascends_from : (lo id : ℕ) (w : Bool) (ds : List Declared) → lo < id → is_ascending (lo ∷ declared_ids ds) ≡ true → is_ascending (lo ∷ declared_ids (declare id w ds)) ≡ true
ascends_from lo id w [] l h = and_from (nat_lt lo id) true (lt-ltb lo id l) refl
ascends_from lo id w (d ∷ ds) l h =
    from_step lo id w d ds (nat_lt id d.id) (id == d.id) refl refl l h
    (λ up. ascends_from d.id id w ds up ((and_parts (nat_lt lo d.id) (is_ascending (d.id ∷ declared_ids ds)) h).1))

first_step : (id : ℕ) (w : Bool) (d : Declared) (ds : List Declared) (a b : Bool) → nat_lt id d.id ≡ a → (id == d.id) ≡ b
    → is_ascending (d.id ∷ declared_ids ds) ≡ true
    → is_ascending (declared_ids (if a then record { id = id; writable = w } ∷ d ∷ ds else (if b then d ∷ ds else d ∷ declare id w ds))) ≡ true
first_step id w d ds true b e f h = and_from (nat_lt id d.id) (is_ascending (d.id ∷ declared_ids ds)) e h
first_step id w d ds false true e f h = h
first_step id w d ds false false e f h = ascends_from d.id id w ds (higher id d.id e f) h
  where
    higher : (x y : ℕ) → nat_lt x y ≡ false → (x == y) ≡ false → y < x
    higher x y p q = grind (arith, nat_tests)

-- declared accounts ascend
pub ascends : (id : ℕ) (w : Bool) (ds : List Declared) → is_ascending (declared_ids ds) ≡ true → is_ascending (declared_ids (declare id w ds)) ≡ true
ascends id w [] h = refl
ascends id w (d ∷ ds) h = first_step id w d ds (nat_lt id d.id) (id == d.id) refl refl h

-- what holds of declared accounts
pub record Sound (n : ℕ) (ds : List Declared) : Type 0 where
  pub some : 1 ≤ length ds
  pub few : length ds ≤ n
  pub ascending : is_ascending (declared_ids ds) ≡ true
  pub fit : IdsFit ds

sized : (id : ℕ) (w : Bool) (ds : List Declared) → (1 ≤ length (declare id w ds)) × (length (declare id w ds) ≤ length ds + 1)
sized id w [] = (omega arith, omega arith)
sized id w (d ∷ ds) = by_case (nat_lt id d.id) (id == d.id) (sized id w ds)
  where
    by_case : (a b : Bool) → (1 ≤ length (declare id w ds)) × (length (declare id w ds) ≤ length ds + 1)
        → (1 ≤ length (if a then record { id = id; writable = w } ∷ d ∷ ds else (if b then d ∷ ds else d ∷ declare id w ds)))
        × (length (if a then record { id = id; writable = w } ∷ d ∷ ds else (if b then d ∷ ds else d ∷ declare id w ds)) ≤ suc (length ds) + 1)
    by_case true b rest = (omega arith, omega arith)
    by_case false true rest = (omega arith, omega arith)
    by_case false false rest = (omega (arith, rest.0), omega (arith, rest.1))

fitting : (id : ℕ) (w : Bool) (ds : List Declared) → id < 2 ^ 64 → IdsFit ds → IdsFit (declare id w ds)
fitting id w [] l h = (l, tt)
fitting id w (d ∷ ds) l h = by_case (nat_lt id d.id) (id == d.id) (fitting id w ds l h.1)
  where
    by_case : (a b : Bool) → IdsFit (declare id w ds) → IdsFit (if a then record { id = id; writable = w } ∷ d ∷ ds else (if b then d ∷ ds else d ∷ declare id w ds))
    by_case true b rest = (l, h)
    by_case false true rest = h
    by_case false false rest = (h.0, rest)

pub sound_more : (n id : ℕ) (w : Bool) (ds : List Declared) → id < 2 ^ 64 → Sound n ds → Sound (n + 1) (declare id w ds)
sound_more n id w ds l s = record {
  some = (sized id w ds).0;
  few = omega (arith, (sized id w ds).1, s.few);
  ascending = ascends id w ds s.ascending;
  fit = fitting id w ds l s.fit;
}

more_allowed : (n m : ℕ) (ds : List Declared) → n ≤ m → Sound n ds → Sound m ds
more_allowed n m ds l s = record { some = s.some; few = omega (arith, s.few, l); ascending = s.ascending; fit = s.fit }

sound_paid : (n : ℕ) (ps : List Payment) (ds : List Declared) → PaymentsFit ps → Sound n ds → Sound (n + length ps) (fold (λ declared to. declare to true declared) ds (receivers_in ps))
sound_paid n [] ds h s = more_allowed n (n + 0) ds (omega arith) s
sound_paid n (p ∷ ps) ds h s = more_allowed (n + 1 + length ps) (n + suc (length ps)) _ (omega arith) (sound_paid (n + 1) ps (declare p.to true ds) h.1 (sound_more n p.to true ds h.0.0 s))

first : (from : ℕ) → from < 2 ^ 64 → Sound 1 (declare from true [])
first from l = record { some = omega arith; few = omega arith; ascending = refl; fit = (l, tt) }

-- what a transaction declares is sound
pub sound_declared : (from : ℕ) (body : Body) → from < 2 ^ 64 → IsSayable body → Sound 8 (declared_by from body)
sound_declared from (Pay to amount) l h = more_allowed 2 8 _ (omega arith) (sound_more 1 to true (declare from true []) h.0 (first from l))
sound_declared from (PayIf to amount guard min) l h =
    more_allowed 3 8 _ (omega arith) (sound_more 2 guard false _ h.2 (sound_more 1 to true (declare from true []) h.0 (first from l)))
sound_declared from (Sweep to keep) l h = more_allowed 2 8 _ (omega arith) (sound_more 1 to true (declare from true []) h.0 (first from l))
sound_declared from (Split payments) l h = more_allowed (1 + length payments) 8 _ (omega (arith, h.1)) (sound_paid 1 payments (declare from true []) h.2 (first from l))

-- ---- the text of a transaction

true_is_false : true ≡ false → ⊥
true_is_false e = absurd cc

pub impossible : false ≡ true → ⊥
impossible e = absurd cc

or_left : (a b : Bool) → (a || b) ≡ false → a ≡ false
or_left true b h = h
or_left false b h = refl

or_right : (a b : Bool) → (a || b) ≡ false → b ≡ false
or_right true b h = absurd (true_is_false h)
or_right false b h = h

or_none : (a b : Bool) → a ≡ false → b ≡ false → (a || b) ≡ false
or_none true b e f = e
or_none false b e f = f

none_paid : (tos : List ℕ) (from : ℕ) → list_any (λ to. to == from) tos ≡ false → AllByRecursion (λ to. to ≢ from) tos
none_paid [] from h = tt
none_paid (to ∷ tos) from h =
    (λ e. true_is_false (sym (eq-eqb to from e) ∙ or_left (to == from) (list_any (λ x. x == from) tos) h), none_paid tos from (or_right (to == from) (list_any (λ x. x == from) tos) h))

paid_none : (tos : List ℕ) (from : ℕ) → AllByRecursion (λ to. to ≢ from) tos → list_any (λ to. to == from) tos ≡ false
paid_none [] from h = refl
paid_none (to ∷ tos) from h = or_none (to == from) (list_any (λ x. x == from) tos) (ne_eqb to from h.0) (paid_none tos from h.1)

-- what can be said and ascends is a body
fitting_body : (body : Body) → IsSayable body → is_ascending (receivers_of body) ≡ true → BodyFits body
fitting_body (Pay to amount) h a = h
fitting_body (PayIf to amount guard min) h a = h
fitting_body (Sweep to keep) h a = h
fitting_body (Split payments) h a = record { some = h.0; few = h.1; ascending = a; fit = h.2 }

ascending_body : (body : Body) → BodyFits body → is_ascending (receivers_of body) ≡ true
ascending_body (Pay to amount) h = refl
ascending_body (PayIf to amount guard min) h = refl
ascending_body (Sweep to keep) h = refl
ascending_body (Split payments) h = h.ascending

-- a body that is payable makes a transaction
pub is_transaction : (from seq : ℕ) (body : Body) → from < 2 ^ 64 → seq < 2 ^ 64 → IsSayable body → is_payable from body ≡ true
    → IsTransaction (transaction (declared_by from body) seq from body)
is_transaction from seq body f s b h =
    let sound = sound_declared from body f b in
    let parts = and_parts (not (pays body from)) (is_ascending (receivers_of body)) h in
    record {
      some = sound.some;
      few = sound.few;
      ascending = sound.ascending;
      apart = none_paid (receivers_of body) from (not_true (pays body from) parts.0);
      ids_fit = sound.fit;
      seq_fits = s;
      from_fits = f;
      body_fits = fitting_body body b parts.1;
    }
  where
    not_true : (b : Bool) → not b ≡ true → b ≡ false
    not_true true h = sym h
    not_true false h = refl

-- and only such a body does
pub is_payable_one : (from seq : ℕ) (body : Body) (ds : List Declared) → IsTransaction (transaction ds seq from body) → is_payable from body ≡ true
is_payable_one from seq body ds t =
    and_from (not (pays body from)) (is_ascending (receivers_of body)) (ap not (paid_none (receivers_of body) from t.apart)) (ascending_body body t.body_fits)

-- the text of a transaction that was made
pub said : (from seq : ℕ) (body : Body) (ds : List Declared) (t : Transaction) (text : List ℕ) → ds ≡ declared_by from body → IsTransaction (transaction ds seq from body)
    → t ≡ transaction ds seq from body → text ≡ transaction_text t → text_of from seq body ≡ Ok text
unfolding text_of
said from seq body ds t text is ok e w =
    ap (λ b. if b then Ok (transaction_text (transaction (declared_by from body) seq from body)) else Err code.Range) (is_payable_one from seq body ds ok)
    ∙ ap Ok (ap (λ d. transaction_text (transaction d seq from body)) (sym is) ∙ ap transaction_text (sym e) ∙ sym w)

-- there is none
pub unsaid : (from seq : ℕ) (body : Body) → from < 2 ^ 64 → seq < 2 ^ 64 → IsSayable body → (IsTransaction (transaction (declared_by from body) seq from body) → ⊥)
    → text_of from seq body ≡ Err code.Range
unfolding text_of
unsaid from seq body f s b none = by_case (is_payable from body) refl
  where
    by_case : (p : Bool) → is_payable from body ≡ p → (if p then Ok (transaction_text (transaction (declared_by from body) seq from body)) else Err code.Range) ≡ Err code.Range
    by_case true e = absurd (none (is_transaction from seq body f s b e))
    by_case false e = refl

-- few enough are declared
pub few_declared : (from : ℕ) (body : Body) (ds : List Declared) → from < 2 ^ 64 → IsSayable body → ds ≡ declared_by from body → length ds ≤ 8
few_declared from body ds f b is = omega (arith, (sound_declared from body f b).few, ap length is)
