use Rattle.std.proofs.Common.{◌∙◌, ap}
use Rattle.bk_script.specs.Known.{place_of}
use Rattle.bk_script.proofs.Named.{place_known}
use Rattle.bk_script.proofs.names.place.Goals as goal

pub returns : goal.returns
returns c =
    c.copied.ensures ∙ c.get.ensures.value ∙ place_known c.names.inside.named.items c.names.inside.places c.args.name.now c.names.invariant
    ∙ ap (λ named. place_of named c.args.name.now) c.names.view_is
