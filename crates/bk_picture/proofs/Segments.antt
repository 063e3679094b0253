-- The lines to parents, one parent more at a time, and the numbers of members.
use Rattle.std.proofs.Common.{◌≡◌, ℕ, suc, ◌+◌, ◌≤◌, List, ◌++◌, refl, sym, ap, ◌∙◌, arith, add-one, append_assoc}
use Rattle.std.proofs.lemmas.List.{append-nil}
use Rattle.bk_picture.specs.Svg.{height_of, label_text, members_text, segment_if, segments_below}

pub no_segments : (member parents : ℕ) (t : List ℕ) → t ≡ t ++ segments_below member parents 0
unfolding segments_below
no_segments member parents t = sym (append-nil t)

segments_next : (member parents parent : ℕ) → segments_below member parents parent ++ segment_if member parents parent ≡ segments_below member parents (suc parent)
unfolding segments_below
segments_next member parents parent = refl

pub segments_more : (member parents parent : ℕ) (start before after : List ℕ) → before ≡ start ++ segments_below member parents parent → after ≡ before ++ segment_if member parents parent → after ≡ start ++ segments_below member parents (parent + 1)
segments_more member parents parent start before after e f =
    f ∙ ap (λ (t : List ℕ). t ++ segment_if member parents parent) e ∙ append_assoc start (segments_below member parents parent) (segment_if member parents parent)
    ∙ ap (λ (t : List ℕ). start ++ t) (segments_next member parents parent ∙ sym (ap (segments_below member parents) (add-one parent)))

pub no_members : (t : List ℕ) → t ≡ t ++ members_text 0
unfolding members_text
no_members t = sym (append-nil t)

members_next : (member : ℕ) → members_text member ++ label_text (height_of member + 4) member ≡ members_text (suc member)
unfolding members_text
members_next member = refl

pub members_more : (member : ℕ) (start before after : List ℕ) → before ≡ start ++ members_text member → after ≡ before ++ label_text (height_of member + 4) member → after ≡ start ++ members_text (member + 1)
members_more member start before after e f =
    f ∙ ap (λ (t : List ℕ). t ++ label_text (height_of member + 4) member) e ∙ append_assoc start (members_text member) (label_text (height_of member + 4) member)
    ∙ ap (λ (t : List ℕ). start ++ t) (members_next member ∙ sym (ap members_text (add-one member)))

-- all of them
pub all_segments : (member parents parent : ℕ) (start text : List ℕ) → 128 ≤ parent → parent ≤ 128 → text ≡ start ++ segments_below member parents parent → text ≡ start ++ segments_below member parents 128
all_segments member parents parent start text high low e = e ∙ ap (λ (n : ℕ). start ++ segments_below member parents n) (omega (arith, high, low))

pub all_members : (members member : ℕ) (start text : List ℕ) → members ≤ member → member ≤ members → text ≡ start ++ members_text member → text ≡ start ++ members_text members
all_members members member start text high low e = e ∙ ap (λ (n : ℕ). start ++ members_text n) (omega (arith, high, low))
