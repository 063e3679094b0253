-- Levels as sets.
use Rattle.std.proofs.Common.{◌≡◌, ◌≢◌, ℕ, zero, suc, ◌+◌, ◌-◌, ◌<◌, ◌≤◌, ◌↔◌, ◌⊎◌, inl, inr, Bool, IsTrue, List, refl, sym, ap, subst, ⊎_elim, arith}
use Rattle.std.proofs.lemmas.Bool.{cases_eq}
use Rattle.bk_committee.specs.Sizes.{Sizes, members}
use Rattle.bk_cert.specs.Node.{Node}
use Rattle.bk_cert.specs.declared.place.CertRef.{CertRef}
use Rattle.bk_rounds.specs.Admission.{AreFit}
use Rattle.bk_rounds.specs.Links.{Links}
use Rattle.bk_rounds.specs.Members.{Has}
use Rattle.bk_cert.proofs.Refs.{same_place}
use Rattle.bk_rounds.proofs.Admitted.{admitted_held}
use Rattle.bk_rounds.specs.Votes.{VotesFor}
use Rattle.bk_commit.specs.Ordering.{Leads, InHistory}
use Rattle.bk_commit.specs.Level.{IsLinkedFrom, IsNextLevel, IsLevel}

-- each link goes down one round
pub walk_round : (z : Sizes) (held : List Node) (k : ℕ) (a b : CertRef) → Leads z held k a b → b.round + k ≡ a.round
walk_round z held zero a b w = let e : a.round ≡ b.round = ap (λ (p : CertRef). p.round) w in omega arith
walk_round z held (suc k) a b w = let e = walk_round z held k w.0 b w.2 in let f : w.0.round + 1 ≡ a.round = w.1.before in omega arith

pub walk_snoc : (z : Sizes) (held : List Node) (k : ℕ) (a c b : CertRef) → Leads z held k a c → Links z held c b → Leads z held (suc k) a b
walk_snoc z held zero a c b w l = (b, subst (λ (p : CertRef). Links z held p b) (sym w) l, refl)
walk_snoc z held (suc k) a c b w l = (w.0, w.1, walk_snoc z held k w.0 c b w.2 l)

pub walk_unsnoc : (z : Sizes) (held : List Node) (k : ℕ) (a b : CertRef) → Leads z held (suc k) a b → (c : CertRef) × Leads z held k a c × Links z held c b
walk_unsnoc z held zero a b w = (a, refl, subst (λ (p : CertRef). Links z held a p) w.2 w.1)
walk_unsnoc z held (suc k) a b w = let rest = walk_unsnoc z held k w.0 b w.2 in (rest.0, (w.0, w.1, rest.1), rest.2)

pub level_first : (z : Sizes) (held : List Node) (a : CertRef) (level : ℕ) → ((x : ℕ) → Has level x ↔ (x ≡ a.author)) → IsLevel z held a a.round level
level_first z held a level marks x = (
  (λ h. (0, same_place a (record { round = a.round; author = x }) refl (sym ((marks x).0 h)))),
  (λ (k, w). (marks x).1 (only k w)),
)
  where
    only : (k : ℕ) → Leads z held k a (record { round = a.round; author = x }) → x ≡ a.author
    only zero w = sym (ap (λ (p : CertRef). p.author) w)
    only (suc k) w = absurd (let e = walk_round z held (suc k) a (record { round = a.round; author = x }) w in omega arith)

pub level_next : (z : Sizes) (held : List Node) (a : CertRef) (round : ℕ) (level next : ℕ) → 1 ≤ round → round ≤ a.round
    → IsLevel z held a round level → IsNextLevel z held level round next → IsLevel z held a (round - 1) next
level_next z held a round level next low high now below x = (
  (λ h. let l = (below x).0 h in
      let w = (now l.0).0 l.1 in
      (suc w.0, walk_snoc z held w.0 a (record { round = round; author = l.0 }) (record { round = round - 1; author = x }) w.1 l.2)),
  (λ (k, w). up k w),
)
  where
    up : (k : ℕ) → Leads z held k a (record { round = round - 1; author = x }) → Has next x
    up zero w = absurd (let e = walk_round z held 0 a (record { round = round - 1; author = x }) w in omega arith)
    up (suc k) w =
        let u = walk_unsnoc z held k a (record { round = round - 1; author = x }) w in
        let here : u.0 ≡ record { round = round; author = u.0.author } =
        same_place u.0 (record { round = round; author = u.0.author }) (let e : round - 1 + 1 ≡ u.0.round = u.2.before in omega arith) refl in
        (below x).1 (
          u.0.author,
          (now u.0.author).1 (k, subst (Leads z held k a) here u.1),
          subst (λ (p : CertRef). Links z held p (record { round = round - 1; author = x })) here u.2,
        )

pub reached_round : (z : Sizes) (held : List Node) (a b : CertRef) → InHistory z held a b → b.round ≤ a.round
reached_round z held a b (k, w) = let e = walk_round z held k a b w in omega arith

pub level_at : (z : Sizes) (held : List Node) (a b : CertRef) (level round : ℕ) (t : Bool) → IsLevel z held a round level → round ≡ b.round
    → IsTrue t ↔ Has level b.author → IsTrue t ↔ InHistory z held a b
level_at z held a b level round t now e test =
    let place : record { round = round; author = b.author } ≡ b = same_place (record { round = round; author = b.author }) b e refl in (
      (λ yes. subst (InHistory z held a) place ((now b.author).0 (test.0 yes))),
      (λ h. test.1 ((now b.author).1 (subst (InHistory z held a) (sym place) h))),
    )

-- what the sweep over a level has gathered: the parents of those that are no longer left
pub record IsGathered (z : Sizes) (held : List Node) (level round left next : ℕ) : Type 0 where
  pub inside : (y : ℕ) → Has left y → Has level y
  pub sound : (x : ℕ) → Has next x → IsLinkedFrom z held level round x
  pub complete : (x y : ℕ) → Has level y → (Has left y → ⊥) → Links z held (record { round = round; author = y }) (record { round = round - 1; author = x }) → Has next x

pub gathered_none : (z : Sizes) (held : List Node) (level round next : ℕ) → ((x : ℕ) → Has next x → ⊥) → IsGathered z held level round level next
gathered_none z held level round next none = record {
  inside = λ y h. h;
  sound = λ x h. absurd (none x h);
  complete = λ x y h gone l. absurd (gone h);
}

pub gathered_more : (z : Sizes) (held : List Node) (level round left next y rest more all : ℕ) → IsGathered z held level round left next
    → Has left y → ((x : ℕ) → Has rest x ↔ (Has left x × (x ≢ y)))
    → ((x : ℕ) → Has more x ↔ Links z held (record { round = round; author = y }) (record { round = round - 1; author = x }))
    → ((x : ℕ) → Has all x ↔ (Has next x ⊎ Has more x)) → IsGathered z held level round rest all
gathered_more z held level round left next y rest more all g here out parents both = record {
  inside = λ x h. g.inside x ((out x).0 h).0;
  sound = λ x h. ⊎_elim (λ old. g.sound x old) (λ new. (y, g.inside y here, (parents x).0 new)) ((both x).0 h);
  complete = λ x u h gone l. (both x).1 (⊎_elim
      (λ e. inr ((parents x).1 (subst (λ (v : ℕ). Links z held (record { round = round; author = v }) (record { round = round - 1; author = x })) e l)))
      (λ n. inl (g.complete x u h (λ k. gone ((out u).1 (k, n))) l))
      (cases_eq u y));
}

pub gathered_all : (z : Sizes) (held : List Node) (level round left next : ℕ) → IsGathered z held level round left next → ((y : ℕ) → Has left y → ⊥)
    → IsNextLevel z held level round next
gathered_all z held level round left next g none x = (g.sound x, λ (y, h, l). g.complete x y h (none y) l)

pub voter_below : (z : Sizes) (held : List Node) (a : CertRef) (x : ℕ) → AreFit z held → VotesFor z held a x → x < members z
voter_below z held a x good vote =
    let v = vote.child_at in
    subst (λ y. y < members z) (ap (λ (p : CertRef). p.author) v.place) (good vote.child (admitted_held z held vote.child.header.round vote.child v.admitted)).member
