-- Both commands are there.
use Rattle.std.proofs.Common.{◌∙◌, sym}
use Rattle.bk_cli.proofs.ZipLemmas.{zip_parts, made_local, made_shape, shape_at, local_at}
use Rattle.bk_cli.proofs.shaped.Shaped.subcommand.Goals as goal

pub invariant_of-t-8 : goal.invariant_of-t-8
invariant_of-t-8 c =
    let parts = zip_parts c.self.inside.command c.added.inside.command c.in-Some.command c.in-Some.added (sym c.zip.ensures ∙ c.in-Some.is) in
    rw c.ok.ensures.value (made_local c.subcommand.result c.in-Some.command c.in-Some.added c.subcommand.ensures
    (local_at _ _ parts.0 c.self.invariant) (local_at _ _ parts.1 c.added.invariant))

pub returns-in-Some : goal.returns-in-Some
returns-in-Some c = λ a b h k.
    let parts = zip_parts c.self.inside.command c.added.inside.command c.in-Some.command c.in-Some.added (sym c.zip.ensures ∙ c.in-Some.is) in
    rw c.ok.ensures.value (made_shape c.subcommand.result c.in-Some.command c.in-Some.added a b c.subcommand.ensures (local_at _ _ parts.1 c.added.invariant)
    (shape_at _ _ a parts.0 (rw (← c.self.view_is) at h)) (shape_at _ _ b parts.1 (rw (← c.added.view_is) at k)))
