-- A group of frames that a thread judges.
use Rattle.std.specs.Prelude.{◌≡◌}
use Rattle.bk_order.specs.declared.ahead.FramesOf.{FramesOf}
use Rattle.bk_order.specs.declared.ahead.Work.{Work}
use Rattle.bk_order.specs.declared.ahead.Work.TheVariants as work
use Rattle.bk_order.specs.private.Ahead.{judged_of}

-- it judges these frames, or has
abbrev pub IsWorkOf : FramesOf → Work → Type 0
IsWorkOf of (work.There handle) = judged_of handle.promise ≡ judged_of of
IsWorkOf of (work.Here judged) = judged ≡ judged_of of
