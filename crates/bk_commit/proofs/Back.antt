-- The way back, round by round.
use Rattle.std.proofs.Common.{◌≡◌, ℕ, zero, suc, ◌-◌, ◌%◌, ◌<◌, ◌≤◌, List, [], ◌∷◌, ◌++◌, refl, sym, ap, ◌∙◌, subst, ⊎_elim, arith}
use Rattle.std.proofs.lemmas.Bool.{cases_lt}
use Rattle.bk_committee.specs.Sizes.{Sizes, leader}
use Rattle.bk_cert.specs.Node.{Node}
use Rattle.bk_cert.specs.declared.place.CertRef.{CertRef}
use Rattle.bk_rounds.specs.Admission.{IsPresent}
use Rattle.bk_rounds.specs.Members.{Has}
use Rattle.bk_cert.proofs.Refs.{same_place}
use Rattle.bk_commit.specs.Ordering.{Leads, InHistory, IsEarlier, IsPrior, IsWayBack}
use Rattle.bk_commit.specs.Level.{IsLevel, IsNextLevel}
use Rattle.bk_commit.specs.private.Way.{IsPath, IsOnTheWay}
use Rattle.bk_rounds.proofs.Grown.{admitted_low}
use Rattle.bk_commit.proofs.Grown.{walk_present}
use Rattle.bk_commit.proofs.Levels.{walk_round, level_next}

-- what is present is of round 1 or later
pub present_low : (z : Sizes) (held : List Node) (a : CertRef) → IsPresent z held a → 0 < a.round
present_low z held a (c, at) = subst (λ m. 0 < m) (ap (λ (q : CertRef). q.round) at.place) (admitted_low z held c.header.round c at.admitted)

-- what is earlier is of an earlier round
pub earlier_round : (z : Sizes) (held : List Node) (a b : CertRef) → IsEarlier z held a b → b.round < a.round
earlier_round z held a b h = strictly h.reached.0 h.reached.1
  where
    strictly : (k : ℕ) → Leads z held k a b → b.round < a.round
    strictly zero w = absurd (h.other (sym w))
    strictly (suc k) w = let e = walk_round z held (suc k) a b w in omega arith

pub path_snoc : (z : Sizes) (held : List Node) (a : CertRef) (ps : List CertRef) (x p : CertRef) → IsPath z held a ps x → IsPrior z held x p → IsPath z held a (ps ++ p ∷ []) p
path_snoc z held a [] x p path prior = (subst (λ (q : CertRef). IsPrior z held q p) (sym path) prior, refl)
path_snoc z held a (q ∷ qs) x p path prior = (path.0, path_snoc z held q qs x p path.1 prior)

pub path_end : (z : Sizes) (held : List Node) (a : CertRef) (ps : List CertRef) (x : CertRef) → IsPath z held a ps x → ((b : CertRef) → IsEarlier z held x b → ⊥) → IsWayBack z held a ps
path_end z held a [] x path none = λ b h. none b (subst (λ (q : CertRef). IsEarlier z held q b) path h)
path_end z held a (q ∷ qs) x path none = (path.0, path_end z held q qs x path.1 none)

pub way_starts : (z : Sizes) (held : List Node) (a : CertRef) (level : ℕ) → IsPresent z held a → IsLevel z held a a.round level → IsOnTheWay z held a [] a.round level
way_starts z held a level present marks = record {
  x = a;
  path = refl;
  present = present;
  below = omega arith;
  marks = marks;
  passed = λ b h. earlier_round z held a b h;
}

pub way_ends : (z : Sizes) (held : List Node) (a : CertRef) (back : List CertRef) (round : ℕ) (level : ℕ) → round ≤ 1 → IsOnTheWay z held a back round level → IsWayBack z held a back
way_ends z held a back round level low way = path_end z held a back way.x way.path
    (λ b h. let p = way.passed b h in let q = present_low z held b h.anchor.present in omega arith)

-- one round down, where its leader is not marked
pub way_passes : (z : Sizes) (held : List Node) (a : CertRef) (back : List CertRef) (round : ℕ) (level next : ℕ) → 1 < round → IsOnTheWay z held a back round level
    → IsNextLevel z held level round next → (((round - 1) % 2 ≡ 1) × Has next (leader z (round - 1)) → ⊥) → IsOnTheWay z held a back (round - 1) next
way_passes z held a back round level next low way below none =
    let marks : IsLevel z held way.x (round - 1) next = level_next z held way.x round level next (omega arith) way.below way.marks below in
    let under : round ≤ way.x.round = way.below in
    record {
      x = way.x;
      path = way.path;
      present = way.present;
      below = omega arith;
      marks = marks;
      passed = λ b h. ⊎_elim (λ lt. lt)
          (λ ge. absurd (let p = way.passed b h in
          let e : b.round ≡ round - 1 = omega arith in
          let here : b ≡ record { round = round - 1; author = leader z (round - 1) } =
          same_place b (record { round = round - 1; author = leader z (round - 1) }) e (h.anchor.led ∙ ap (leader z) e) in
          none (
            ap (λ r. r % 2) (sym e) ∙ h.anchor.odd,
            (marks (leader z (round - 1))).1 (subst (InHistory z held way.x) here h.reached),
          )))
          (cases_lt b.round (round - 1));
    }

-- one round down, where its leader is marked: it is the prior, and comes into hand
pub way_meets : (z : Sizes) (held : List Node) (a : CertRef) (back : List CertRef) (round : ℕ) (level next first : ℕ) → 1 < round → IsOnTheWay z held a back round level
    → IsNextLevel z held level round next → (round - 1) % 2 ≡ 1 → Has next (leader z (round - 1))
    → (let p : CertRef = record { round = round - 1; author = leader z (round - 1) } in
    (IsPresent z held p → IsLevel z held p (round - 1) first) → IsOnTheWay z held a (back ++ p ∷ []) (round - 1) first)
way_meets z held a back round level next first low way below odd mark level_of = record {
  x = p;
  path = path_snoc z held a back way.x p way.path prior;
  present = present;
  below = omega arith;
  marks = level_of present;
  passed = λ b h. earlier_round z held p b h;
}
  where
    p : CertRef
    p = record { round = round - 1; author = leader z (round - 1) }

    under : round ≤ way.x.round
    under = way.below

    reached : InHistory z held way.x p
    reached = (level_next z held way.x round level next (omega arith) way.below way.marks below (leader z (round - 1))).0 mark

    present : IsPresent z held p
    present = walk_present z held reached.0 way.x p way.present reached.1

    prior : IsPrior z held way.x p
    prior = record {
      earlier = record {
        anchor = record { odd = odd; led = refl; present = present };
        reached = reached;
        other = λ e. let same : round - 1 ≡ way.x.round = ap (λ (q : CertRef). q.round) e in let u : round ≤ way.x.round = under in omega arith;
      };
      greatest = λ b h. let lt = way.passed b h in omega arith;
    }
