-- The first frame that is a certificate rejected for its tags, of frames that come one group after another.
use Rattle.std.proofs.Common.{ℕ, ◌+◌, inl, inr, List, [], ◌∷◌, ◌++◌, length, Option, Some, None, sym, ap, ◌∙◌, arith, append_assoc, length-append}
use Rattle.std.proofs.lemmas.List.Elements.{Contains-append_cases}
use Rattle.bk_base.specs.Feed.{Frame}
use Rattle.bk_committee.specs.Payload.{CommitteeValue}
use Rattle.bk_results.specs.declared.wrong_tag.WrongTag.{WrongTag}
use Rattle.bk_listing.specs.Forged.{IsFirstForged}
use Rattle.bk_listing.specs.private.FrameRow.{else_later}

pub none_of_none : (k : CommitteeValue) → IsFirstForged k [] None
none_of_none k f there = absurd (omega (arith, there.1))

pub first_then : (k : CommitteeValue) (xs ys : List Frame) (a b : Option WrongTag) → IsFirstForged k xs a → IsFirstForged k ys b → IsFirstForged k (xs ++ ys) (else_later a (length xs) b)
first_then k xs ys (Some w) b (before, f, after, all, none, is, at, c, read, wrong) j =
    (before, f, after ++ ys, ap (λ (t : List Frame). t ++ ys) all ∙ append_assoc before (f ∷ after) ys, none, is, at, c, read, wrong)
first_then k xs ys None None h j = λ f t. elim (Contains-append_cases xs ys f t) [ inl here ↦ h f here | inr later ↦ j f later ]
first_then k xs ys None (Some w) h (before, f, after, all, none, is, at, c, read, wrong) = (
  xs ++ before,
  f,
  after,
  ap (λ (t : List Frame). xs ++ t) all ∙ sym (append_assoc xs before (f ∷ after)),
  λ g t. elim (Contains-append_cases xs before g t) [ inl here ↦ h g here | inr later ↦ none g later ],
  is,
  omega (arith, at, length-append xs before),
  c,
  read,
  wrong,
)
