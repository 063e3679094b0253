use Rattle.std.proofs.Common.{◌≡◌, rules}
use Rattle.hex.specs.Hex.{encode_lower}
use Rattle.bk_digest.proofs.HexDigits.{IsUtf8-encode_lower}
use Rattle.bk_digest.proofs.digest.hex_text.Goals as goal

pub from_utf8_unchecked-requires : goal.from_utf8_unchecked-requires
from_utf8_unchecked-requires c =
    let same : c.encode_to_slice.new.output ≡ encode_lower c.args.bytes.now = search rules in
    rw same (IsUtf8-encode_lower c.args.bytes.now)
