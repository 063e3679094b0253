use Rattle.std.proofs.Common.{◌≡◌, ◌++◌, take}
use Rattle.std.specs.Prelude.{string_bytes}
use Rattle.std.specs.List.{flat_map}
use Rattle.bk_picture.specs.Svg.{links_text}
use Rattle.bk_picture.proofs.lines.push_all_links.Given as goal

abbrev pub invariant-loop-column : goal.invariant-loop-column
invariant-loop-column l = string_bytes l.text ≡ string_bytes l.initial.text ++ flat_map (links_text l.links l.from) (take l.column-index l.columns)
