-- What a thread judges.
use Rattle.bk_frames.specs.Cutting.{frames_in}
use Rattle.bk_order.specs.Ahead.{JudgedValue}
use Rattle.bk_order.specs.declared.ahead.FramesOf.{FramesOf}

-- the frames that are judged
abbrev pub judged_of : FramesOf → JudgedValue
judged_of of = record { committee = of.committee.value; frames = frames_in of.frames.value.items }
