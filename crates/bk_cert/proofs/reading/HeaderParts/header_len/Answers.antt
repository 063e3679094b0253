use Rattle.std.proofs.Common.{◌≡◌, ◌+◌, ◌*◌, length, sym, subst}
use Rattle.bk_cert.specs.Values.{HeaderValue}
use Rattle.bk_cert.specs.Spelling.{header_text}
use Rattle.bk_cert.proofs.Texts.{header_long}
use Rattle.bk_cert.proofs.reading.HeaderParts.header_len.Goals as goal

pub returns : goal.returns
returns c =
    let long : length (header_text c.args.self.now) ≡ 8 + 32 * (length c.args.self.now.batches + length c.args.self.now.parents) = header_long c.args.self.now c.requires in
    subst (λ (h : HeaderValue). 8 + 32 * (length h.batches + length h.parents) ≡ length (header_text c.args.self.now)) (sym c.self.view_is) (sym long)
