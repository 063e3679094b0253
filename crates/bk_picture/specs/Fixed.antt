-- The fixed parts of a picture's text.
use Rattle.std.specs.Prelude.{ℕ, List, ◌++◌, codes}

-- what the signs mean
unfoldable pub desc_text : List ℕ
desc_text =
    codes "<desc>A column for each round, a row for each member.\n"
    ++ codes "A full circle is a certificate of the order, an empty one is admitted and not in the order,\n"
    ++ codes "and one with a broken outline waits. Where there is no circle, it is absent or rejected:\n"
    ++ codes "how many frames are rejected in the feed is said last, and `frames` says which.\n"
    ++ codes "A ring is round the place of the leader of an odd round: thick if the anchor is voted,\n"
    ++ codes "in long dashes if it is linked, in dots if it is skipped, thin if it is open.\n"
    ++ codes "A line leads to a parent of the round before; a thick one is a vote for an anchor.\n"
    ++ codes "Where the title says `votes alone`, each line is a vote, and thin.</desc>\n"

-- the style sheet, for light and dark backgrounds, and the background
unfoldable pub style_text : List ℕ
style_text =
    codes "<style>\n"
    ++ codes ".b{fill:#fff}text{font:12px sans-serif;fill:#222;text-anchor:middle}.k text,.h{text-anchor:start}\n"
    ++ codes ".a{font-style:italic}.l{fill:none;stroke:#888;stroke-width:.8;stroke-opacity:.6}"
    ++ codes ".v{fill:none;stroke:#a50;stroke-width:2.6}.t{stroke-width:.8}\n"
    ++ codes ".ordered{fill:#124;stroke:#124;stroke-width:2}.admitted{fill:#fff;stroke:#124;stroke-width:2}\n"
    ++ codes ".waiting{fill:#fff;stroke:#a50;stroke-width:1.6;stroke-dasharray:2.4 2.4}\n"
    ++ codes ".voted,.linked,.skipped,.open{fill:none;stroke:#222}.voted{stroke-width:2.4}\n"
    ++ codes ".linked{stroke-width:2.4;stroke-dasharray:8 4}.skipped{stroke-width:2.4;stroke-dasharray:1.5 4}"
    ++ codes ".open{stroke-width:.9}\n"
    ++ codes "@media(prefers-color-scheme:dark){.b{fill:#15181c}text{fill:#ddd}.l{stroke:#889}.v{stroke:#e94}\n"
    ++ codes ".ordered{fill:#9cf;stroke:#9cf}.admitted{fill:#15181c;stroke:#9cf}.waiting{fill:#15181c;stroke:#e94}\n"
    ++ codes ".voted,.linked,.skipped,.open{stroke:#ddd}}\n"
    ++ codes "</style>\n"
    ++ codes "<rect class='b' width='100%' height='100%'/>\n"

-- the signs of the key, each with its name: what became of a certificate, and what became of an anchor
unfoldable pub signs_text : List ℕ
signs_text =
    codes "<circle class='ordered' r='6'/><text x='18' y='4'>ordered</text>\n"
    ++ codes "<circle class='admitted' cy='24' r='6'/><text x='18' y='28'>admitted</text>\n"
    ++ codes "<circle class='waiting' cy='48' r='6'/><text x='18' y='52'>waiting</text>\n"
    ++ codes "<circle class='voted' cx='120' r='10'/><text x='138' y='4'>voted</text>\n"
    ++ codes "<circle class='linked' cx='120' cy='24' r='10'/><text x='138' y='28'>linked</text>\n"
    ++ codes "<circle class='skipped' cx='120' cy='48' r='10'/><text x='138' y='52'>skipped</text>\n"
    ++ codes "<circle class='open' cx='120' cy='72' r='10'/><text x='138' y='76'>open</text>\n"

-- and those of the lines
unfoldable pub vote_sign : List ℕ
vote_sign = codes "<path class='v' d='M230 0h24'/><text x='262' y='4'>vote</text>\n"

unfoldable pub thin_vote_sign : List ℕ
thin_vote_sign = codes "<path class='v t' d='M230 0h24'/><text x='262' y='4'>vote</text>\n"

unfoldable pub parent_sign : List ℕ
parent_sign = codes "<path class='l' d='M230 24h24'/><text x='262' y='28'>parent</text>\n"

-- the names of the axes: over the numbers of the rounds, and beside those of the members
unfoldable pub axes_text : List ℕ
axes_text =
    codes "<text class='a' x='60' y='40'>round</text>\n"
    ++ codes "<text class='a' transform='translate(12 82) rotate(-90)'>member</text>\n"
