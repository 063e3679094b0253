-- The test of two headers, part by part, decides whether they are the same.
use Rattle.std.specs.Prelude.{◌≡◌, ℕ, Bool, ◌==◌, ◌&&◌, List, Decides}
use Rattle.std.specs.Str.{bytes_eq}
use Rattle.std.proofs.Common.{refl, ap}
use Rattle.std.proofs.lemmas.Bool.{and_parts, and_from}
use Rattle.std.proofs.lemmas.Bool.Decides.{Decides-eqb}
use Rattle.std.proofs.lemmas.Slice.Eq.{slice_eq-Decides, bytes_eq-Decides}
use Rattle.bk_cert.specs.Values.{HeaderValue}
use Rattle.bk_cert.specs.Equality.{digests_eq, header_eq}

both : {P Q : Type 0} (p q : Bool) → Decides p P → Decides q Q → Decides (p && q) (P × Q)
both p q hp hq = (λ e. let parts = and_parts p q e in (hp.0 parts.0, hq.0 parts.1), λ h. and_from p q (hp.1 h.0) (hq.1 h.1))

digests_decided : (xs ys : List (List ℕ)) → Decides (digests_eq xs ys) (xs ≡ ys)
digests_decided xs ys = slice_eq-Decides {E = bytes_eq} bytes_eq-Decides xs ys (digests_eq xs ys) refl

pub header_decided : (a b : HeaderValue) → Decides (header_eq a b) (a ≡ b)
header_decided a b =
    let numbers = both (a.author == b.author) (a.round == b.round) (Decides-eqb a.author b.author) (Decides-eqb a.round b.round) in
    let most = both (a.author == b.author && a.round == b.round) (digests_eq a.batches b.batches) numbers (digests_decided a.batches b.batches) in
    let all = both (a.author == b.author && a.round == b.round && digests_eq a.batches b.batches) (digests_eq a.parents b.parents) most (digests_decided a.parents b.parents) in (
      λ e. let h = all.0 e in λ i. record { author = h.0.0.0 i; round = h.0.0.1 i; batches = h.0.1 i; parents = h.1 i },
      λ e. all.1 (((ap (λ (v : HeaderValue). v.author) e, ap (λ (v : HeaderValue). v.round) e), ap (λ (v : HeaderValue). v.batches) e), ap (λ (v : HeaderValue). v.parents) e),
    )
