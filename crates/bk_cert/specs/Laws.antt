-- What the definitions of a certificate say together.
use Rattle.std.specs.Prelude.{◌≡◌, ℕ, List, Some, Decides, length, take, drop}
use Rattle.bk_base.specs.Numbers.{IsBytes}
use Rattle.bk_cert.specs.Values.{HeaderValue, CertValue}
use Rattle.bk_cert.specs.Spelling.{IsHeader, IsCertificate, header_text, seal_text, certificate_text}
use Rattle.bk_cert.specs.Reading.{certificate_of}
use Rattle.bk_cert.specs.Equality.{header_eq}

-- what bytes are read as encodes to the same bytes
abbrev pub CertificateIsSpelled : Type 0
CertificateIsSpelled = (bytes : List ℕ) (c : CertValue) → IsBytes bytes → certificate_of bytes ≡ Some c → IsCertificate c × (bytes ≡ certificate_text c)

-- the encoding of a certificate is read as that certificate
abbrev pub CertificateIsRead : Type 0
CertificateIsRead = (c : CertValue) → IsCertificate c → certificate_of (certificate_text c) ≡ Some c

-- the first bytes of a certificate are its header's, and its seal's are all the others
abbrev pub HeaderThenSeal : Type 0
HeaderThenSeal = (c : CertValue) → (take (length (header_text c.header)) (certificate_text c) ≡ header_text c.header) × (drop (length (header_text c.header)) (certificate_text c) ≡ seal_text c.mask c.tags)

-- no two headers have one encoding
abbrev pub OneHeader : Type 0
OneHeader = (h other : HeaderValue) → IsHeader h → IsHeader other → header_text h ≡ header_text other → h ≡ other

-- the test of `==` is true of exactly the headers that are the same
abbrev pub EqualIsSame : Type 0
EqualIsSame = (h other : HeaderValue) → Decides (header_eq h other) (h ≡ other)
