-- What a larger held set keeps of admission and links.
use Rattle.std.proofs.Common.{◌≡◌, ℕ, zero, suc, ◌+◌, ◌<◌, List, refl, sym, ap, ◌∙◌, subst, arith}
use Rattle.std.specs.List.{Contains}
use Rattle.bk_committee.specs.Sizes.{Sizes, quorum}
use Rattle.bk_cert.specs.Node.{Node}
use Rattle.bk_cert.specs.Place.{place_of}
use Rattle.bk_cert.specs.Clear.{IsClear}
use Rattle.bk_cert.specs.declared.place.CertRef.{CertRef}
use Rattle.bk_rounds.specs.Admission.{IsAdmittedIn, StandsAt, IsPresent}
use Rattle.bk_rounds.specs.Links.{Links}
use Rattle.bk_rounds.proofs.Admitted.{admitted_held, admitted_round, admitted_here, parent_named, IsParent}
use Rattle.bk_rounds.proofs.Counting.{weigh_more}

-- whatever a has, b has
abbrev pub IsWithin : List Node → List Node → Type 0
IsWithin a b = (c : Node) → Contains a c → Contains b c

pub link_to : (z : Sizes) (held : List Node) (c : CertRef) (child : Node) → StandsAt z held c child → (r : ℕ) (d : Node) → IsAdmittedIn z held r d
    → Contains child.header.parents d.id → c.round ≡ r + 1 → Links z held c (place_of d)
link_to z held c child at r d h names e = record {
  child = child;
  parent = d;
  child_at = at;
  parent_at = record { admitted = admitted_here z held r d h; place = refl };
  names = names;
  before = omega (arith, admitted_round z held r d h);
}

pub admitted_more : (z : Sizes) (a b : List Node) → IsWithin a b → (r : ℕ) (c : Node) → IsAdmittedIn z a r c → IsAdmittedIn z b r c
unfolding IsAdmittedIn
admitted_more z a b part zero c h = h
admitted_more z a b part (suc r) c h = (
  part c h.0,
  h.1,
  λ low p names. let d = h.2 low p names in (d.0, admitted_more z a b part r d.0 d.1, d.2),
  λ low. weigh_more z (IsParent z a r c) (IsParent z b r c) (quorum z) (λ x d. (d.0, admitted_more z a b part r d.0 d.1, d.2, d.3)) (h.3 low),
)

pub stands_more : (z : Sizes) (a b : List Node) → IsWithin a b → (x : CertRef) (c : Node) → StandsAt z a x c → StandsAt z b x c
stands_more z a b part x c h = record { admitted = admitted_more z a b part c.header.round c h.admitted; place = h.place }

pub present_more : (z : Sizes) (a b : List Node) → IsWithin a b → (x : CertRef) → IsPresent z a x → IsPresent z b x
present_more z a b part x (c, h) = (c, stands_more z a b part x c h)

pub links_more : (z : Sizes) (a b : List Node) → IsWithin a b → (x y : CertRef) → Links z a x y → Links z b x y
links_more z a b part x y h = record {
  child = h.child;
  parent = h.parent;
  child_at = stands_more z a b part x h.child h.child_at;
  parent_at = stands_more z a b part y h.parent h.parent_at;
  names = h.names;
  before = h.before;
}

pub admitted_low : (z : Sizes) (held : List Node) (r : ℕ) (c : Node) → IsAdmittedIn z held r c → 0 < r
unfolding IsAdmittedIn
admitted_low z held zero c h = absurd h
admitted_low z held (suc r) c h = omega arith

-- Where the larger set is clear, a link from what is admitted in the smaller one is a link there.
pub links_back : (z : Sizes) (a b : List Node) → IsWithin a b → IsClear b → (x y : CertRef) → IsPresent z a x → Links z b x y → Links z a x y
links_back z a b part clear x y (child, at) l =
    let held : Contains b child = part child (admitted_held z a child.header.round child at.admitted) in
    let held' : Contains b l.child = admitted_held z b l.child.header.round l.child l.child_at.admitted in
    let same : child ≡ l.child = clear.no_collision child l.child held held' (clear.no_twins child l.child held held' (at.place ∙ sym l.child_at.place)) in
    let names : Contains child.header.parents l.parent.id = subst (λ (c : Node). Contains c.header.parents l.parent.id) (sym same) l.names in
    let y_is : l.parent.header.round ≡ y.round = ap (λ (p : CertRef). p.round) l.parent_at.place in
    let x_is : child.header.round ≡ x.round = ap (λ (p : CertRef). p.round) at.place in
    let low : 0 < l.parent.header.round = admitted_low z b l.parent.header.round l.parent l.parent_at.admitted in
    let before : y.round + 1 ≡ x.round = l.before in
    let d = parent_named z a y.round child (omega arith) (omega arith) at.admitted l.parent.id names in
    let parent : d.0 ≡ l.parent = clear.no_collision d.0 l.parent (part d.0 (admitted_held z a y.round d.0 d.1))
    (admitted_held z b l.parent.header.round l.parent l.parent_at.admitted) d.2 in
    subst (Links z a x) (ap place_of parent ∙ l.parent_at.place)
    (link_to z a x child at y.round d.0 d.1 (subst (Contains child.header.parents) (sym d.2) names) (sym before))
