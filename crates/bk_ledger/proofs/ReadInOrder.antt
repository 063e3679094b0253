-- What is read as a transaction declares at most eight accounts, by ascending id.
use Rattle.std.proofs.Common.{◌≡◌, ℕ, ◌≤◌, cond, ◌&&◌, not, eqb, leb, List, [], ◌∷◌, ◌++◌, length, map, Option, None, Some, refl, sym, subst, arith}
use Rattle.std.specs.Prelude.{unwrap_or}
use Rattle.std.specs.Int.{w8, w64}
use Rattle.std.proofs.lemmas.Bool.{and_parts, leb-true}
use Rattle.std.proofs.lemmas.List.Concat.{flat_map-cons}
use Rattle.std.proofs.lemmas.Option.{cond_some}
use Rattle.bk_base.specs.Numbers.{◌>>=◌, number_at, list_at, is_ascending}
use Rattle.bk_base.proofs.FieldLemmas.{bind_some, if_some, length-list_at}
use Rattle.bk_tx.specs.declared.declared.Declared.{Declared}
use Rattle.bk_tx.specs.Access.{declared_ids}
use Rattle.bk_tx.specs.Batches.{transactions_in, transactions_of}
use Rattle.bk_tx.specs.Reading.{declared_at, declarations_at, body_at, pays, transaction_of, texts_of}
use Rattle.bk_tx.specs.Transaction.{Transaction}
use Rattle.bk_conflicts.specs.Conflicts.{declared_by}
use Rattle.bk_conflicts.specs.Plan.{AreDeclared}
use Rattle.bk_ledger.specs.Sliced.{DeclareInOrder}
use Rattle.bk_tx.specs.private.Counts.{is_count}

count_fits : {A : Type 0} (n : ℕ) (o : Option A) (x : A) → cond (is_count 8 n) o None ≡ Some x → (n ≤ 8) × (o ≡ Some x)
count_fits n o x e =
    let t = if_some (is_count 8 n) o x e in
    let p = and_parts (leb 1 n) (leb n 8) t.0 in
    (leb-true n 8 p.1, t.1)

declarations_fit : (bytes : List ℕ) (x : List Declared × List ℕ) → declarations_at bytes ≡ Some x → AreDeclared x.0
unfolding declarations_at
declarations_fit bytes x e =
    let a = bind_some (number_at w8 bytes) (λ count. cond (is_count 8 count.0) (list_at declared_at count.0 count.1) None >>= λ entries. cond (is_ascending (declared_ids entries.0)) (Some entries) None) x e in
    let b = bind_some (cond (is_count 8 a.0.0) (list_at declared_at a.0.0 a.0.1) None) (λ entries. cond (is_ascending (declared_ids entries.0)) (Some entries) None) x a.2 in
    let n = count_fits a.0.0 (list_at declared_at a.0.0 a.0.1) b.0 b.1 in
    let g = cond_some (is_ascending (declared_ids b.0.0)) b.0 x b.2 in
    subst (λ (y : List Declared × List ℕ). AreDeclared y.0) g.1
    (record { few = omega (arith, length-list_at declared_at a.0.0 a.0.1 b.0 n.1, n.0); ascending = g.0 })

transaction_fits : (bytes : List ℕ) (t : Transaction) → transaction_of bytes ≡ Some t → AreDeclared t.declared
unfolding transaction_of
transaction_fits bytes t e =
    let a = bind_some (number_at w8 bytes) (λ kind. declarations_at kind.1 >>= λ declared. number_at w64 declared.1 >>= λ seq. number_at w64 seq.1 >>= λ from. body_at kind.0 from.1 >>= λ body. cond (eqb (length body.1) 0 && not (pays body.0 from.0)) (Some (record { declared = declared.0; seq = seq.0; from = from.0; body = body.0 })) None) t e in
    let b = bind_some (declarations_at a.0.1) (λ declared. number_at w64 declared.1 >>= λ seq. number_at w64 seq.1 >>= λ from. body_at a.0.0 from.1 >>= λ body. cond (eqb (length body.1) 0 && not (pays body.0 from.0)) (Some (record { declared = declared.0; seq = seq.0; from = from.0; body = body.0 })) None) t a.2 in
    let d = bind_some (number_at w64 b.0.1) (λ seq. number_at w64 seq.1 >>= λ from. body_at a.0.0 from.1 >>= λ body. cond (eqb (length body.1) 0 && not (pays body.0 from.0)) (Some (record { declared = b.0.0; seq = seq.0; from = from.0; body = body.0 })) None) t b.2 in
    let f = bind_some (number_at w64 d.0.1) (λ from. body_at a.0.0 from.1 >>= λ body. cond (eqb (length body.1) 0 && not (pays body.0 from.0)) (Some (record { declared = b.0.0; seq = d.0.0; from = from.0; body = body.0 })) None) t d.2 in
    let g = bind_some (body_at a.0.0 f.0.1) (λ body. cond (eqb (length body.1) 0 && not (pays body.0 f.0.0)) (Some (record { declared = b.0.0; seq = d.0.0; from = f.0.0; body = body.0 })) None) t f.2 in
    let made : Transaction = record { declared = b.0.0; seq = d.0.0; from = f.0.0; body = g.0.0 } in
    let h = cond_some (eqb (length g.0.1) 0 && not (pays g.0.0 f.0.0)) made t g.2 in
    subst (λ (u : Transaction). AreDeclared u.declared) h.1 (declarations_fit a.0.1 b.0 b.1)

read_fits : (bytes : List ℕ) (o : Option Transaction) → transaction_of bytes ≡ o → AreDeclared (declared_by o)
read_fits bytes None e = record { few = omega arith; ascending = refl }
read_fits bytes (Some t) e = transaction_fits bytes t e

texts_fit : (texts : List (List ℕ)) → DeclareInOrder (map transaction_of texts)
texts_fit [] = tt
texts_fit (text ∷ texts) = (read_fits text (transaction_of text) refl, texts_fit texts)

both_fit : (xs ys : List (Option Transaction)) → DeclareInOrder xs → DeclareInOrder ys → DeclareInOrder (xs ++ ys)
both_fit [] ys first rest = rest
both_fit (x ∷ xs) ys first rest = (first.0, both_fit xs ys first.1 rest)

pub read_in_order : (payloads : List (List ℕ)) → DeclareInOrder (transactions_of payloads)
read_in_order [] = tt
read_in_order (payload ∷ payloads) = subst DeclareInOrder (sym (flat_map-cons transactions_in payload payloads))
    (both_fit (transactions_in payload) (transactions_of payloads) (texts_fit (unwrap_or (texts_of payload) [])) (read_in_order payloads))
