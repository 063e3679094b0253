-- What the parser says of a flag, case by case.
use Rattle.std.proofs.Common.{◌≡◌, codes, refl, Bool, Option, Some, None, true, false}
use Rattle.clap.specs.Words.{Text, found_of, one_text}
use Rattle.bk_cli.specs.CommandLine.{IsOn}
use Rattle.bk_cli.proofs.notes.flag_in.Goals as goal

by_case : (o : Option Text) (on : Bool) → (o ≡ None → on ≡ false) → (o ≡ Some (codes "true") → on ≡ true) → (o ≡ Some (codes "false") → on ≡ false)
    → IsOn o on
by_case None on none value other = none refl
by_case (Some text) on none value other = (λ e. value (rw e refl), λ e. other (rw e refl))

pub returns : goal.returns
returns c = by_case (one_text (found_of c.args.found.now) c.args.name.now) c.get_flag.result c.get_flag.ensures.none c.get_flag.ensures.value c.get_flag.ensures.other
