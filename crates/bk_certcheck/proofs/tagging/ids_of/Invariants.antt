use Rattle.std.proofs.Common.{◌≡◌, map, take}
use Rattle.bk_cert.specs.Spelling.{header_text}
use Rattle.bk_certcheck.proofs.tagging.ids_of.Given as goal

abbrev pub invariant-loop-view : goal.invariant-loop-view
invariant-loop-view l = map (λ bytes. bytes.now) l.headers.items ≡ map (λ c. header_text c.header) (take l.view-index l.left)
