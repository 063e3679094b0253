use Rattle.std.proofs.Common.{◌≡◌, ◌++◌, List, ap, subst, ◌∙◌}
use Rattle.bk_cert.specs.Node.{Node}
use Rattle.bk_evidence.specs.Laws.{HaveSame}
use Rattle.bk_evidence.proofs.Members.{same_on, same_append}
use Rattle.bk_evidence.proofs.held.Held.joined.Goals as goal

pub returns : goal.returns
returns c =
    let first : c.new-all.result ++ c.as_slice.result.now ≡ c.args.self.now = ap (λ (xs : List Node). xs ++ c.as_slice.result.now) c.new-all.ensures ∙ (c.as_slice.ensures ∙ c.self.view_is) in
    let second : c.as_slice-2.result.now ≡ c.args.other.now = c.as_slice-2.ensures ∙ c.other.view_is in
    same_on c.offer_all-2.new.all (c.offer_all.new.all ++ c.args.other.now) (c.args.self.now ++ c.args.other.now)
    (subst (λ (xs : List Node). HaveSame c.offer_all-2.new.all (c.offer_all.new.all ++ xs)) second c.in_ok-offer_all-2.ensures)
    (same_append c.offer_all.new.all c.args.self.now c.args.other.now (subst (HaveSame c.offer_all.new.all) first c.in_ok-offer_all.ensures))
