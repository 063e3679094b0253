use Rattle.std.proofs.Common.{ℕ, List, [], ◌∷◌, ◌++◌, length, ap, ◌∙◌}
use Rattle.std.specs.List.{concat}
use Rattle.bk_cert.specs.Values.{HeaderValue}
use Rattle.bk_cert.proofs.Texts.{id_parts}
use Rattle.bk_cert.proofs.header.Header.id.Goals as goal

pub returns : goal.returns
returns c =
    let one : List ℕ = [] ++ 0x10 ∷ [] in
    let two : List ℕ = one ++ c.opening.result in
    let three : List ℕ = two ++ concat c.deref.result.now in
    let four : List ℕ = three ++ c.len.result ∷ [] in
    let five : List ℕ = four ++ concat c.deref-2.result.now in
    let held = c.hash_digests-2.ensures four (c.update-3.ensures three (c.hash_digests.ensures two (c.update-2.ensures one (c.update.ensures [] c.new-hasher.ensures)))) in
    let batches = c.deref.ensures.value ∙ ap (λ (v : HeaderValue). v.batches) c.self.view_is in
    let parents = c.deref-2.ensures.value ∙ ap (λ (v : HeaderValue). v.parents) c.self.view_is in
    let count = c.len.ensures ∙ c.self.inside.parents.ok.0 ∙ ap (λ (v : HeaderValue). length v.parents) c.self.view_is in
    c.new.ensures ∙ c.finalize.ensures five held ∙ id_parts c.args.self.now c.opening.result c.deref.result.now c.deref-2.result.now c.len.result c.opening.ensures batches count parents
