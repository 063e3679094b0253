-- Accounts by ascending id.
use Rattle.std.proofs.Common.{◌≡◌, ℕ, Bool, IsTrue, eqb, is_some, List, [], Option, refl, sym, ap, ◌∙◌, length}
use Rattle.std.specs.Prelude.{Result, Ok, Err}
use Rattle.std.specs.Result.{is_ok, result_ok}
use Rattle.std.specs.Ordering.{nat_cmp}
use Rattle.std.specs.List.Sorted.{IsSearchInRange, IsBinarySearchResult}
use Rattle.bk_base.specs.Numbers.{is_ascending}
use Rattle.bk_rules.proofs.Finding.{searched}
use Rattle.std.specs.List.{dedup}
use Rattle.std.specs.List.Sorted.{IsPermutation}
use Rattle.std.proofs.lemmas.List.{append-nil}
use Rattle.bk_rules.proofs.Places.{position_is}
use Rattle.bk_rules.proofs.Widening.{wide_has}
use Rattle.bk_tables.specs.Payments.{is_among}

ok_is_some : (r : Result ℕ ℕ) → is_ok r ≡ is_some (result_ok r)
ok_is_some (Ok at) = refl
ok_is_some (Err at) = refl

-- a binary search finds an id where it is one of these
pub found_among : (ids : List ℕ) (id : ℕ) (r : Result ℕ ℕ) (found : Bool) → IsTrue (is_ascending ids) → IsSearchInRange r (length ids) → IsBinarySearchResult (λ (i : ℕ). nat_cmp i id) ids r → found ≡ is_ok r → found ≡ is_among ids id
found_among ids id r found up low is e = e ∙ ok_is_some r ∙ ap (λ (o : Option ℕ). is_some o) (searched ids up id r low is) ∙ position_is (λ (i : ℕ). eqb i id) ids

-- ids that were put in order, each once, are the same
pub among_same : (ids sorted once : List ℕ) (id : ℕ) → IsPermutation ids sorted → once ≡ dedup eqb sorted → is_among once id ≡ is_among ids id
among_same ids sorted once id moved is = wide_has [] ids ids sorted once id (is_among ids id) (sym (append-nil ids)) moved is refl
