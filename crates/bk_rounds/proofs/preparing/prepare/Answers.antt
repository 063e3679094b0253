use Rattle.std.proofs.Common.{◌≡◌, ◌∙◌, ℕ, false, List, refl, sym, ap, subst, arith, length}
use Rattle.std.specs.List.{Contains}
use Rattle.bk_cert.specs.Values.{HeaderValue}
use Rattle.bk_rounds.specs.private.Numbered.{is_marked, IsInsideRows}
use Rattle.bk_rounds.proofs.Named.{grows_on, ids_kept, inside_more, grows_rows}
use Rattle.bk_rounds.proofs.preparing.prepare.Goals as goal

pub register-requires-clause-rows : goal.register-requires-clause-rows
register-requires-clause-rows c = λ m i h.
    let n = c.in_ok-number.ensures.grows.names in
    let r = n.rows m i h in
    omega (arith, r, n.marks, ap length c.deref.ensures.value)

pub returns-in_err-number-clause-grows : goal.returns-in_err-number-clause-grows
returns-in_err-number-clause-grows c = grows_on c.args.names.now c.numbers_of.new.names c.own_number.new.names c.in_ok-parents.ensures.grows c.in_err-number.ensures.grows

pub returns-in_err-register-clause-grows : goal.returns-in_err-register-clause-grows
returns-in_err-register-clause-grows c =
    let n = c.in_ok-number.ensures.grows.names in
    grows_on c.args.names.now c.own_number.new.names _
    (grows_on c.args.names.now c.numbers_of.new.names c.own_number.new.names c.in_ok-parents.ensures.grows c.in_ok-number.ensures.grows)
    (grows_rows c.own_number.new.names _ n refl refl refl refl
    (subst (λ (k : ℕ). IsInsideRows k c.register.new.pending) (ap length c.deref.ensures.value ∙ n.marks) c.in_err-register.ensures.keeps.rows) c.in_err-register.ensures.keeps.kept)

pub returns-clause-grows : goal.returns-clause-grows
returns-clause-grows c =
    let n = c.in_ok-number.ensures.grows.names in
    grows_on c.args.names.now c.own_number.new.names _
    (grows_on c.args.names.now c.numbers_of.new.names c.own_number.new.names c.in_ok-parents.ensures.grows c.in_ok-number.ensures.grows)
    (grows_rows c.own_number.new.names _ n refl refl refl refl
    (subst (λ (k : ℕ). IsInsideRows k c.register.new.pending) (ap length c.deref.ensures.value ∙ n.marks) c.in_ok-register.ensures.keeps.rows) c.in_ok-register.ensures.keeps.kept)

pub returns-clause-prepared : goal.returns-clause-prepared
returns-clause-prepared c =
    let ps : List ℕ = c.in_ok-parents.parents.items in
    record {
      inside = c.in_ok-number.ensures.inside;
      clear = c.in_ok-clear_for.ensures;
      id = c.in_ok-number.ensures.id ∙ c.id.ensures;
      parents = ids_kept c.numbers_of.new.names c.own_number.new.names ps c.in_ok-number.ensures.grows c.in_ok-parents.ensures.inside
          ∙ (c.in_ok-parents.ensures.ids ∙ (c.parents.ensures.all ∙ ap (λ (h : HeaderValue). h.parents) c.header.ensures));
      low = inside_more _ _ ps c.in_ok-number.ensures.grows.longer c.in_ok-parents.ensures.inside;
      waits = λ q t f. c.in_ok-register.ensures.all q (subst (λ (xs : List ℕ). Contains xs q) (sym c.deref-2.ensures.value) t) (subst (λ xs. is_marked xs q ≡ false) (sym c.deref.ensures.value) f);
    }

pub returns-in_err-clear_for-clause-grows : goal.returns-in_err-clear_for-clause-grows
returns-in_err-clear_for-clause-grows c = grows_on c.args.names.now c.numbers_of.new.names c.own_number.new.names c.in_ok-parents.ensures.grows c.in_ok-number.ensures.grows

pub returns-in_err-reserve-clause-grows : goal.returns-in_err-reserve-clause-grows
returns-in_err-reserve-clause-grows c = grows_on c.args.names.now c.numbers_of.new.names c.own_number.new.names c.in_ok-parents.ensures.grows c.in_ok-number.ensures.grows

pub returns-in_err-open-clause-grows : goal.returns-in_err-open-clause-grows
returns-in_err-open-clause-grows c = grows_on c.args.names.now c.numbers_of.new.names c.own_number.new.names c.in_ok-parents.ensures.grows c.in_ok-number.ensures.grows
