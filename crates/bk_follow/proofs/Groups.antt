-- Pulling a group of frames: its pieces one after another.
use Rattle.std.proofs.Common.{◌≡◌, ℕ, ◌+◌, ◌<◌, ◌≤◌, List, [], ◌++◌, Bool, true, false, refl, sym, ap, subst, ◌∙◌, arith, append_assoc, length-append}
use Rattle.std.specs.Prelude.{Result, Ok, Err, OnOk}
use Rattle.std.specs.Global.{Vec}
use Rattle.std.proofs.lemmas.List.{append-nil, map-append}
use Rattle.bk_base.specs.declared.kind.Kind.{Kind}
use Rattle.bk_frames.specs.declared.fault.FeedFault.{FeedFault}
use Rattle.bk_frames.specs.Device.{Device, CanBeUsed, Ends, IsWhole}
use Rattle.bk_base.specs.Feed.{Frame}
use Rattle.bk_frames.specs.Cutting.{Cut, Cuts, in_magic, past_magic, in_frames, CutsInto, fresh, frames_in}
use Rattle.bk_frames.specs.Pulling.{Refuses}
use Rattle.bk_frames.specs.Reading.{IsPulled, Pulls, room_of}
use Rattle.bk_frames.proofs.CutJoining.{cuts_then}
use Rattle.bk_frames.proofs.Devices.{ends_not_then, ends_not_yet}
use Rattle.bk_frames.proofs.Pulls.{at_end}
use Rattle.bk_follow.specs.private.Gathering.{CanPull, OfPulled, PullsGroup, HasPulledGroup}

-- ---- one piece after another

-- what is known of the pieces of a group so far
pub record PullsSoFar (old new : Device) (before after : List (Kind × Vec ℕ)) (c d : Cut) : Type 0 where
  pub cuts : (came : List ℕ) × CutsInto c came before after d
  pub pulls : OfPulled old before c (λ start bytes taken. (count : ℕ) × Pulls start new bytes (taken ++ frames_in after) d count)
  pub goes_on : Ends 0 old new
  pub nearer : room_of d ≤ room_of c
  pub sound : CanBeUsed new
  pub known : CanPull old before c

-- nothing came: nothing is cut
nothing_cut : (bytes : List ℕ) (frames : List Frame) (c : Cut) → Cuts fresh bytes frames c → Cuts c [] [] c
nothing_cut bytes frames c (in_magic _ cv ci co none text) = in_magic cv cv ci co refl (append-nil c.kept)
nothing_cut bytes frames c (past_magic v _ cv text good index offset) = in_frames v cv cv (append-nil c.kept) tt (omega arith) (omega arith)
nothing_cut bytes frames c (in_frames v fv cv text good index offset) = in_frames v cv cv (append-nil c.kept) tt (omega arith) (omega arith)

pub none_so_far : (now : Device) (before : List (Kind × Vec ℕ)) (c : Cut) → CanBeUsed now → CanPull now before c → PullsSoFar now now before before c c
none_so_far now before c sound known = record {
  cuts = ([], ([], sym (append-nil before), nothing_cut known.1 (known.2 ++ frames_in before) c known.3.cuts));
  pulls = λ start bytes taken p. (0, record { came = []; counted = refl; pulled = subst (λ (t : List ℕ). IsPulled start now t (taken ++ frames_in before) c) (sym (append-nil bytes)) p });
  goes_on = ends_not_yet now;
  nearer = omega arith;
  sound = sound;
  known = known;
}

module _ (a b d : Device) (before mid after : List (Kind × Vec ℕ)) (c0 c1 c2 : Cut) (n : ℕ) (s : PullsSoFar a b before mid c0 c1)
    (cuts : (came : List ℕ) × CutsInto c1 came mid after c2)
    (pulls : (start : Device) (bytes : List ℕ) (taken : List Frame) → IsPulled start b bytes (taken ++ frames_in mid) c1 → Pulls start d bytes (taken ++ frames_in after) c2 n) where
  both_cut : (came : List ℕ) × CutsInto c0 came before after c2
  both_cut =
      let first = s.cuts.1 in
      let next = cuts.1 in
      let joined : after ≡ before ++ (first.0 ++ next.0) = next.1 ∙ ap (λ (t : List (Kind × Vec ℕ)). t ++ next.0) first.1 ∙ append_assoc before first.0 next.0 in
      (s.cuts.0 ++ cuts.0, (first.0 ++ next.0, joined, subst (λ (fs : List Frame). Cuts c0 (s.cuts.0 ++ cuts.0) fs c2) (sym (map-append _ first.0 next.0)) (cuts_then c0 c1 c2 s.cuts.0 cuts.0 (frames_in first.0) (frames_in next.0) first.2 next.2)))

  pub both_pulled : OfPulled a before c0 (λ start bytes taken. (count : ℕ) × Pulls start d bytes (taken ++ frames_in after) c2 count)
  both_pulled start bytes taken p =
      let q = s.pulls start bytes taken p in
      let r = pulls start (bytes ++ q.1.came) taken q.1.pulled in (
        q.0 + n,
        record {
          came = q.1.came ++ r.came;
          counted = omega (arith, length-append q.1.came r.came, q.1.counted, r.counted);
          pulled = subst (λ (t : List ℕ). IsPulled start d t (taken ++ frames_in after) c2) (append_assoc bytes q.1.came r.came) r.pulled;
        },
      )

  still_sound : CanBeUsed d
  still_sound =
      let k = s.known in
      let q = both_pulled k.0 k.1 k.2 k.3 in
      let same = q.1.pulled.works in
      let was = k.3.works in
      let first = s.pulls k.0 k.1 k.2 k.3 in
      let mid = first.1.pulled.works in
      let sound = s.sound in
      omega (arith, same, mid, sound)

  -- one piece more
  pub piece_more : room_of c2 < room_of c1 → Ends 0 b d → PullsSoFar a d before after c0 c2
  piece_more less goes_on = record {
    cuts = both_cut;
    pulls = both_pulled;
    goes_on = ends_not_then a b d s.goes_on goes_on;
    nearer = omega (arith, less, s.nearer);
    sound = still_sound;
    known = s.known;
  }

  -- a group ends with a piece
  pub group_ends : room_of c2 < room_of c1 → Ends 0 b d → PullsGroup a d before after c0 c2 false
  group_ends less goes_on = record {
    cuts = both_cut;
    pulls = both_pulled;
    all = λ ended. absurd cc;
    goes_on = λ _. ends_not_then a b d s.goes_on goes_on;
    nearer = λ _. omega (arith, less, s.nearer);
  }

  -- the source is at its end
  pub source_ends : n ≡ 0 → ((start : Device) (bytes : List ℕ) (frames : List Frame) → IsPulled start b bytes frames c1 → Ends 0 start b → IsWhole start d bytes) → PullsGroup a d before after c0 c2 true
  source_ends none all = record {
    cuts = both_cut;
    pulls = both_pulled;
    goes_on = λ going. absurd cc;
    all = λ _ start bytes taken p before_it.
        let q = s.pulls start bytes taken p in
        let r = pulls start (bytes ++ q.1.came) taken q.1.pulled in
        ((bytes ++ q.1.came) ++ r.came, at_end start d (bytes ++ q.1.came) r.came (r.counted ∙ none) (all start (bytes ++ q.1.came) (taken ++ frames_in mid) q.1.pulled (ends_not_then start a b before_it s.goes_on)), r.pulled);
    nearer = λ going. absurd cc;
  }

-- a refused piece refuses the group
pub group_refused : (a b d : Device) (before mid : List (Kind × Vec ℕ)) (c0 c1 : Cut) (fault : FeedFault) → PullsSoFar a b before mid c0 c1
    → ((start : Device) (bytes : List ℕ) (frames : List Frame) → IsPulled start b bytes frames c1 → Refuses fault start d) → OfPulled a before c0 (λ start bytes taken. Refuses fault start d)
group_refused a b d before mid c0 c1 fault s refused start bytes taken p =
    let q = s.pulls start bytes taken p in
    refused start (bytes ++ q.1.came) (taken ++ frames_in mid) q.1.pulled

-- what the next pull is told
pub can_pull_next : (a b : Device) (before mid : List (Kind × Vec ℕ)) (c0 c1 : Cut) → PullsSoFar a b before mid c0 c1 → (start : Device) × (bytes : List ℕ) × (frames : List Frame) × IsPulled start b bytes frames c1
can_pull_next a b before mid c0 c1 s =
    let k = s.known in
    let q = s.pulls k.0 k.1 k.2 k.3 in
    (k.0, k.1 ++ q.1.came, k.2 ++ frames_in mid, q.1.pulled)

-- ---- what a call gave whose result is known

pub pulled_ok : (result : Result Bool FeedFault) (old new : Device) (before after : List (Kind × Vec ℕ)) (c d : Cut) (end : Bool) → result ≡ Ok end → HasPulledGroup result old new before after c d → PullsGroup old new before after c d end
pulled_ok result old new before after c d end is h = subst (λ (r : Result Bool FeedFault). HasPulledGroup r old new before after c d) is h

pub pulled_err : (result : Result Bool FeedFault) (old new : Device) (before after : List (Kind × Vec ℕ)) (c d : Cut) (fault : FeedFault) → result ≡ Err fault → HasPulledGroup result old new before after c d → OfPulled old before c (λ start bytes taken. Refuses fault start new)
pulled_err result old new before after c d fault is h = subst (λ (r : Result Bool FeedFault). HasPulledGroup r old new before after c d) is h

pub got_ok : {X E : Type 0} (result : Result X E) (x : X) (P : Type 0) → result ≡ Ok x → OnOk result P → P
got_ok {X} {E} result x P is h = subst (λ (r : Result X E). OnOk r P) is h
