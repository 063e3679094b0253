use Rattle.std.proofs.Common.{◌≡◌, ◌∙◌, sym, length}
use Rattle.bk_script.specs.private.Places.{IsNoted}
use Rattle.bk_script.proofs.Named.{same_places, one_more}
use Rattle.bk_script.proofs.names.Names.push.Goals as goal

pub invariant_of-self-in_err-note : goal.invariant_of-self-in_err-note
invariant_of-self-in_err-note c =
    rw c.reserve.ensures.items (same_places c.self.inside.named.items c.self.inside.places c.note.new.places c.in_err-note.ensures.err c.self.invariant)

pub invariant_of-self-2 : goal.invariant_of-self-2
invariant_of-self-2 c =
    let name = c.in_ok-key.ensures.items ∙ c.deref.ensures.value in
    let place : c.len.result ≡ length c.self.inside.named.items = c.len.ensures ∙ c.reserve.ensures.len ∙ c.self.inside.named.ok.0 in
    let noted : IsNoted c.self.inside.places c.note.new.places c.args.name.items (length c.self.inside.named.items) = rw (sym name, sym place) c.in_ok-note.ensures.noted in
    rw (c.push_reserved.ensures.items, c.reserve.ensures.items)
    (one_more c.self.inside.named.items (record { name = c.args.name.items; digest = c.args.digest }) c.self.inside.places c.note.new.places c.self.invariant noted)
