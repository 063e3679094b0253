-- The law of the steps, from what each of them owes.
use Rattle.std.proofs.Common.{suc, [], true, false, sym, refl, ap, ◌∙◌}
use Rattle.bk_conflicts.specs.Scene.{Scene, moved_at, status_at}
use Rattle.bk_bank.specs.Rule.{state_word, view_scene}
use Rattle.bk_bank.specs.Laws.{ClaimIsEvent, LookIsNone, ReadIsEvent, WriteIsEvent, MoveIsNone, FinishIsEvent, ReleaseIsNone, SplitIsNone, JoinIsNone}
use Rattle.bk_bank.proofs.Stages.{rest_unspent, holding_unspent, leaving_unspent}
use Rattle.bk_bank.proofs.Looking.{look_turn}
use Rattle.bk_bank.proofs.Claiming.{claim_turn}
use Rattle.bk_bank.proofs.Holdings.{reads_turn, writes_turn, moves_turn}
use Rattle.bk_bank.proofs.Finishing.{finishes_turn}
use Rattle.bk_bank.proofs.Releasing.{releases_turn}
use Rattle.bk_bank.proofs.Seats.{split_shows, join_shows}

pub claim_is_event : ClaimIsEvent
claim_is_event s d t id v p (r, at) rest l hit =
    let same = (r.each_view id v at).scene (rest_unspent (view_scene v) v.stage rest) in
    let u = claim_turn s d t r 0 id (v, []) p at rest l hit in
    (u.0, u.1, u.2, u.3, (u.4.1 p (ap (λ (z : Scene). state_word z p) (sym same))).1 hit)

pub look_is_none : LookIsNone
look_is_none s d t id v p (r, at) rest l =
    let same = (r.each_view id v at).scene (rest_unspent (view_scene v) v.stage rest) in
    let u = look_turn s d t r 0 id (v, []) p at rest l in
    (u.0, u.1, u.2, u.3, u.4.1 p (ap (λ (z : Scene). state_word z p) (sym same)))

pub read_is_event : ReadIsEvent
read_is_event s d t id v p x rs (r, at) holds decl =
    let same = (r.each_view id v at).scene (holding_unspent v.stage p rs [] false holds) in
    let u = reads_turn s d t r 0 id (v, []) p x rs holds same decl at in
    let told = u.4.1 p rs holds in
    (told.1 ∙ ap (λ (z : Scene). z.fold p x) same, (u.0, u.1, u.2, u.3, told.0))

pub write_is_event : WriteIsEvent
write_is_event s d t id v p x rs ws mv (r, at) holds all wr fresh =
    let same = (r.each_view id v at).scene (holding_unspent v.stage p rs ws mv holds) in
    let u = writes_turn s d t r 0 id (v, []) p x (s.fold (suc p) x) rs ws mv holds same wr refl all fresh at in
    (u.0, u.1, u.2, u.3, u.4.1 p rs ws mv holds)

pub move_is_none : MoveIsNone
move_is_none s d t id v p rs ws mv (r, at) holds =
    let same = (r.each_view id v at).scene (holding_unspent v.stage p rs ws mv holds) in
    let u = moves_turn s d t r 0 id (v, []) p _ (moved_at s p) rs ws mv refl holds same refl at in
    (u.0, u.1, u.2, u.3, u.4.1 p rs ws mv holds)

pub finish_is_event : FinishIsEvent
finish_is_event s d t id v p rs ws (r, at) holds all wrote =
    let same = (r.each_view id v at).scene (holding_unspent v.stage p rs ws true holds) in
    let u = finishes_turn s d t r 0 id (v, []) p _ (status_at s p) rs ws refl holds same all wrote refl at in
    (u.0, u.1, u.2, u.3, u.4.1 p rs ws holds)

pub release_is_none : ReleaseIsNone
release_is_none s d t id v p k f (r, at) leaves room small =
    let same = (r.each_view id v at).scene (leaving_unspent v.stage p k f leaves) in
    let u = releases_turn s d t r 0 id (v, []) p k f _ refl leaves same room at small in
    let told = u.4.1 p k f leaves in
    (told.1, (u.0, u.1, u.2, u.3, told.0))

pub split_is_none : SplitIsNone
split_is_none s d t id v (r, at) rest = split_shows s d t r id v at rest

pub join_is_none : JoinIsNone
join_is_none s d t id other v o (r, at) there rest rest' = join_shows s d t r id other v o at there rest rest'
