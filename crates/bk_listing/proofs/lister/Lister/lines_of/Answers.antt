use Rattle.std.proofs.Common.{ℕ, ◌≡◌, List, ap, subst, ◌∙◌, arith}
use Rattle.std.specs.Prelude.{count_by}
use Rattle.bk_frames.specs.Cutting.{frames_in}
use Rattle.bk_listing.specs.declared.lines.Place.{Place}
use Rattle.bk_listing.specs.declared.rows.FrameRow.{FrameRow}
use Rattle.bk_listing.specs.private.FrameRow.{PutsLines, else_later, is_rejected}
use Rattle.bk_listing.proofs.LineTexts.{goes_on, long_frames}
use Rattle.bk_listing.proofs.Rejected.{rules_at_most}
use Rattle.bk_listing.proofs.lister.Lister.lines_of.Goals as goal

pub overflow_add-self : goal.overflow_add-self
overflow_add-self g c =
    let counted : c.count_rejected.result ≡ count_by is_rejected c.in_ok-rows.rows.items = c.count_rejected.ensures ∙ ap (λ (t : List FrameRow). count_by is_rejected t) c.deref-3.ensures.value in
    let most = rules_at_most c.in-Some.committee (frames_in c.args.frames.now) c.in_ok-rows.rows.items c.in_ok-rows.ensures in
    let long = long_frames c.args.frames.now in
    let few = c.requires.few in
    let index = c.requires.index in
    let same = c.in_ok-open.ensures.rejected in
    omega (arith, counted, most, long, few, index, same)

pub returns-clause-listed : goal.returns-clause-listed
returns-clause-listed g c =
    let counted : c.count_rejected.result ≡ count_by is_rejected c.in_ok-rows.rows.items = c.count_rejected.ensures ∙ ap (λ (t : List FrameRow). count_by is_rejected t) c.deref-3.ensures.value in
    goes_on c.args.version (frames_in c.args.frames.now) c.args.self.now _ c.in-Some.committee c.in_ok-rows.rows.items c.put_lines.new.text.items c.first_forged-found.result c.in_ok-open.ensures.opens c.in-Some.is
    (subst (λ (p : Place × List ℕ). PutsLines c.in-Some.committee p.0 c.put_lines.new.place (frames_in c.args.frames.now) p.1 c.put_lines.new.text.items) (λ j. (c.in_ok-open.ensures.place j, c.new-text.ensures.items j)) c.in_ok-put_lines.ensures)
    c.in_ok-rows.ensures (let same = c.in_ok-open.ensures.rejected in omega (arith, counted, same))
    c.first_forged-found.ensures (c.or_later-self.ensures ∙ (λ j. else_later (c.in_ok-open.ensures.forged j) (c.in_ok-open.ensures.place j).index c.first_forged-found.result))
