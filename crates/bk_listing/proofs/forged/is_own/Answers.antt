use Rattle.std.proofs.Common.{[], get_or, Some, sym, ap, ◌∙◌}
use Rattle.std.proofs.lemmas.Option.{slice_get-get_or, get_or_from_slice_get}
use Rattle.bk_cert.specs.Identity.{tag_of}
use Rattle.bk_listing.proofs.forged.is_own.Goals as goal

pub returns : goal.returns
returns c =
    let own = c.as_bytes-2.ensures.value ∙ c.tag-own.ensures _ c.mac.ensures ∙ ap (tag_of (get_or c.args.committee.now.keys c.args.member [])) c.as_bytes.ensures.value in (
      λ t. slice_get-get_or c.args.tags.now c.args.place [] c.requires.place ∙ ap Some (c.same_tag.ensures.0 t ∙ own),
      λ e. c.same_tag.ensures.1 (get_or_from_slice_get c.args.tags.now c.args.place _ [] e ∙ sym own),
    )
