-- Which frames are rejected, and how many.
use Rattle.std.proofs.Common.{◌≡◌, ℕ, ◌≤◌, List, [], ◌∷◌, ◌++◌, length, cond, refl, sym, ap, subst, ◌∙◌, arith, append_assoc, length-append}
use Rattle.std.specs.Prelude.{count_by}
use Rattle.std.specs.List.{AllZip, flat_map, sum_by}
use Rattle.std.proofs.lemmas.List.Concat.{flat_map-cons, length-flat_map}
use Rattle.bk_base.specs.declared.kind.Kind.{Kind}
use Rattle.bk_base.specs.declared.kind.Kind.TheVariants as kind
use Rattle.bk_base.specs.declared.version.Version.{Version}
use Rattle.bk_base.specs.Feed.{Frame}
use Rattle.bk_committee.specs.Payload.{CommitteeValue, committee_of}
use Rattle.bk_certcheck.specs.declared.rule.Rule.{Rule}
use Rattle.bk_certcheck.specs.declared.verdict.Verdict.{Verdict}
use Rattle.bk_certcheck.specs.declared.verdict.Verdict.TheVariants as verdict
use Rattle.bk_listing.specs.Rejects.{rules_by, IsRejectedBy, AreRejectedBy, IsRejectedCount}
use Rattle.bk_listing.specs.declared.rows.FrameRow.{FrameRow}
use Rattle.bk_listing.specs.declared.rows.FrameRow.TheVariants as shown
use Rattle.bk_listing.specs.private.FrameRow.{IsRow, is_rejected, row_rules}

-- the rows of frames have the rules by which these are rejected
pub rows_rejected : (k : CommitteeValue) (frames : List Frame) (rows : List FrameRow) → AllZip (IsRow k) frames rows → AreRejectedBy k frames (flat_map row_rules rows)
rows_rejected k [] [] h = refl
rows_rejected k [] (row ∷ rows) h = absurd h
rows_rejected k (f ∷ more) [] h = absurd h
rows_rejected k (f ∷ more) (row ∷ rows) h = (row_rules row, flat_map row_rules rows, h.0.1, rows_rejected k more rows h.1, flat_map-cons row_rules row rows)

-- frames in turn
pub rejected_then : (k : CommitteeValue) (xs ys : List Frame) (a b : List Rule) → AreRejectedBy k xs a → AreRejectedBy k ys b → AreRejectedBy k (xs ++ ys) (a ++ b)
rejected_then k [] ys a b none more = subst (AreRejectedBy k ys) (ap (λ (t : List Rule). t ++ b) (sym none)) more
rejected_then k (f ∷ xs) ys a b (first, later, is, rest, all) more =
    (first, later ++ b, is, rejected_then k xs ys later b rest more, ap (λ (t : List Rule). t ++ b) all ∙ append_assoc first later b)

-- ---- no more are rejected than there are

rule_at_most : (v : Verdict) → length (rules_by v) ≤ 1
rule_at_most (verdict.Good node) = omega arith
rule_at_most (verdict.Broken r) = omega arith

one_at_most : (k : CommitteeValue) (of : Kind) (payload : List ℕ) (rules : List Rule) → IsRejectedBy k of payload rules → length rules ≤ 1
one_at_most k kind.Committee payload rules e = omega (arith, ap length e)
one_at_most k kind.Genesis payload rules e = omega (arith, ap length e)
one_at_most k kind.Certificate payload rules (v, is, e) = omega (arith, ap length e, rule_at_most v)
one_at_most k kind.Batch payload rules e = omega (arith, ap length e)

few_rules : (k : CommitteeValue) (frames : List Frame) (rules : List Rule) → AreRejectedBy k frames rules → length rules ≤ length frames
few_rules k [] rules e = omega (arith, ap length e)
few_rules k (f ∷ more) rules (first, later, is, rest, all) =
    let one = one_at_most k f.kind f.payload first is in
    let others = few_rules k more later rest in
    omega (arith, one, others, ap length all, length-append first later)

pub few_rejected : (version : Version) (frames : List Frame) (n : ℕ) → IsRejectedCount version frames n → n ≤ length frames
few_rejected version [] n e = omega (arith, e)
few_rejected version (first ∷ more) n (rules, are, e) = let few = few_rules (committee_of version first.payload) (first ∷ more) rules are in omega (arith, few, e)

-- ---- how many rows are of such frames

one_each : (row : FrameRow) → cond (is_rejected row) 1 0 ≡ length (row_rules row)
one_each (shown.Committee digest) = refl
one_each (shown.Genesis digest accounts money) = refl
one_each shown.Malformed = refl
one_each (shown.Good row) = refl
one_each (shown.Broken row r) = refl
one_each (shown.Batch digest count) = refl
one_each (shown.Void digest) = refl

pub rows_counted : (rows : List FrameRow) → count_by is_rejected rows ≡ length (flat_map row_rules rows)
rows_counted rows = ap (λ (f : FrameRow → ℕ). sum_by f rows) (λ j row. one_each row j) ∙ sym (length-flat_map row_rules rows)

pub rules_at_most : (k : CommitteeValue) (frames : List Frame) (rows : List FrameRow) → AllZip (IsRow k) frames rows → count_by is_rejected rows ≤ length frames
rules_at_most k frames rows h = let few = few_rules k frames (flat_map row_rules rows) (rows_rejected k frames rows h) in omega (arith, few, rows_counted rows)
