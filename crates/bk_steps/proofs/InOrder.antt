-- A whole run of one worker, which takes the places in their order.
use Rattle.std.proofs.Common.{◌≡◌, ◌≢◌, inl, inr, ⊎_elim, ℕ, zero, suc, ◌<◌, ◌≤◌, List, [], ◌∷◌, true, false, sym, refl, ap, ◌∙◌, subst, arith}
use Rattle.std.proofs.lemmas.Bool.{cases_eq, cases_Bool, both_ways}
use Rattle.bk_conflicts.specs.Scene.{Scene, IsSound}
use Rattle.bk_steps.specs.Course.{Course, Phase, waiting, held, done, free, busy, put, Has, HasRead, found, opened, IsDone}
use Rattle.bk_steps.specs.Moves.{after_claim, after_read, after_write, after_finish, HasReadAll, HasWrittenAll, claims, reads_one, writes_one, finishes, IsReached, IsWholeRun}
use Rattle.bk_steps.specs.declared.event.Event.{Event}
use Rattle.bk_steps.proofs.Tables.{put_here, put_else}
use Rattle.bk_steps.proofs.Running.{reached_then}

-- worker 0 holds the place, of which it has read and written this, and the phases are these
record Holds (s : Scene) (p : ℕ) (phases : ℕ → Phase) (d : Course) (rs : List (ℕ × ℕ)) (ws : List ℕ) : Type 0 where
  reached : IsReached s d
  phase : (q : ℕ) → d.phase q ≡ phases q
  hand : d.hand 0 ≡ busy p rs ws

-- ---- reads

-- what was read of the words below n
abbrev ReadBelow : Scene → ℕ → List (ℕ × ℕ) → ℕ → Type 0
ReadBelow s p rs n = (x : ℕ) → x < n → s.declares p x ≡ true → HasRead rs x

abbrev HasReadSome : Scene → ℕ → (ℕ → Phase) → ℕ → Type 0
HasReadSome s p phases n = (d : Course) × (rs : List (ℕ × ℕ)) × Holds s p phases d rs [] × ReadBelow s p rs n

reads_next : (s : Scene) (p n : ℕ) (phases : ℕ → Phase) → s.declares p n ≡ true → HasReadSome s p phases n → HasReadSome s p phases (suc n)
reads_next s p n phases decl (d, rs, h, all) = (
  after_read d 0 p rs n,
  (n, d.value n) ∷ rs,
  record {
    reached = reached_then s d _ _ h.reached (reads_one 0 p n rs h.hand decl);
    phase = h.phase;
    hand = put_here d.hand 0 (busy p ((n, d.value n) ∷ rs) []);
  },
  λ x l decl. ⊎_elim (λ (e : x ≡ n). inl (sym e)) (λ (other : x ≢ n). inr (all x (omega arith) decl)) (cases_eq x n),
)

reads_not : (s : Scene) (p n : ℕ) (phases : ℕ → Phase) → s.declares p n ≡ false → HasReadSome s p phases n → HasReadSome s p phases (suc n)
reads_not s p n phases not_here (d, rs, h, all) = (
  d,
  rs,
  h,
  λ x l decl. ⊎_elim
      (λ (e : x ≡ n). absurd (both_ways (s.declares p n) not_here (subst (λ (y : ℕ). s.declares p y ≡ true) e decl)))
      (λ (other : x ≢ n). all x (omega arith) decl)
      (cases_eq x n),
)

reads_some : (s : Scene) (p n : ℕ) (phases : ℕ → Phase) (d : Course) → Holds s p phases d [] [] → HasReadSome s p phases n
reads_some s p zero phases d h = (d, [], h, λ x l. absurd (omega arith))
reads_some s p (suc n) phases d h = ⊎_elim
    (λ (yes : s.declares p n ≡ true). reads_next s p n phases yes (reads_some s p n phases d h))
    (λ (no : s.declares p n ≡ false). reads_not s p n phases no (reads_some s p n phases d h))
    (cases_Bool (s.declares p n))

-- ---- writes

-- what was written are the words below n that may be
record WroteBelow (s : Scene) (p : ℕ) (ws : List ℕ) (n : ℕ) : Type 0 where
  all : (x : ℕ) → x < n → s.writes p x ≡ true → Has ws x
  only : (x : ℕ) → Has ws x → x < n

abbrev HasWrittenSome : Scene → ℕ → (ℕ → Phase) → List (ℕ × ℕ) → ℕ → Type 0
HasWrittenSome s p phases rs n = (d : Course) × (ws : List ℕ) × Holds s p phases d rs ws × WroteBelow s p ws n

writes_next : (s : Scene) (p n : ℕ) (phases : ℕ → Phase) (rs : List (ℕ × ℕ)) → HasReadAll s p rs → s.writes p n ≡ true
    → HasWrittenSome s p phases rs n → HasWrittenSome s p phases rs (suc n)
writes_next s p n phases rs read wr (d, ws, h, b) = (
  after_write d 0 p rs ws n (s.effect p (found rs) n),
  n ∷ ws,
  record {
    reached = reached_then s d _ _ h.reached
        (writes_one 0 p n (s.effect p (found rs) n) rs ws h.hand read wr (λ a. let low = b.only n a in absurd (omega arith)) refl);
    phase = h.phase;
    hand = put_here d.hand 0 (busy p rs (n ∷ ws));
  },
  record {
    all = λ x l e. ⊎_elim (λ (is : x ≡ n). inl (sym is)) (λ (other : x ≢ n). inr (b.all x (omega arith) e)) (cases_eq x n);
    only = λ x a. ⊎_elim (λ (is : n ≡ x). omega arith) (λ r. let low = b.only x r in omega arith) a;
  },
)

writes_not : (s : Scene) (p n : ℕ) (phases : ℕ → Phase) (rs : List (ℕ × ℕ)) → s.writes p n ≡ false
    → HasWrittenSome s p phases rs n → HasWrittenSome s p phases rs (suc n)
writes_not s p n phases rs not_here (d, ws, h, b) = (
  d,
  ws,
  h,
  record {
    all = λ x l e. ⊎_elim
        (λ (is : x ≡ n). absurd (both_ways (s.writes p n) not_here (subst (λ (y : ℕ). s.writes p y ≡ true) is e)))
        (λ (other : x ≢ n). b.all x (omega arith) e)
        (cases_eq x n);
    only = λ x a. let low = b.only x a in omega arith;
  },
)

writes_some : (s : Scene) (p n : ℕ) (phases : ℕ → Phase) (rs : List (ℕ × ℕ)) (d : Course) → HasReadAll s p rs → Holds s p phases d rs []
    → HasWrittenSome s p phases rs n
writes_some s p zero phases rs d read h = (d, [], h, record { all = λ x l. absurd (omega arith); only = λ x a. absurd a })
writes_some s p (suc n) phases rs d read h = ⊎_elim
    (λ (yes : s.writes p n ≡ true). writes_next s p n phases rs read yes (writes_some s p n phases rs d read h))
    (λ (no : s.writes p n ≡ false). writes_not s p n phases rs no (writes_some s p n phases rs d read h))
    (cases_Bool (s.writes p n))

-- ---- one place after another

-- the first n places are done, the others wait, and worker 0 holds nothing
record IsInTurn (s : Scene) (n : ℕ) (d : Course) : Type 0 where
  reached : IsReached s d
  idle : d.hand 0 ≡ free
  first : (q : ℕ) → q < n → IsDone (d.phase q)
  later : (q : ℕ) → n ≤ q → d.phase q ≡ waiting

takes : (s : Scene) (n : ℕ) (d : Course) → n < s.places → IsInTurn s n d → Holds s n (put d.phase n (held 0)) (after_claim d 0 n) [] []
takes s n d low t = record {
  reached = reached_then s d _ _ t.reached (claims 0 n t.idle (t.later n (omega arith)) low (λ q l _. t.first q l));
  phase = λ q. refl;
  hand = put_here d.hand 0 (busy n [] []);
}

leaves : (s : Scene) (n : ℕ) (d : Course) (rs : List (ℕ × ℕ)) → IsInTurn s n d → HasReadAll s n rs
    → (c : Course) (ws : List ℕ) → Holds s n (put d.phase n (held 0)) c rs ws → HasWrittenAll s n ws
    → IsInTurn s (suc n) (after_finish c 0 n (s.status n (found rs)) (s.moved n (found rs)))
leaves s n d rs t read c ws h wrote = record {
  reached = reached_then s c _ _ h.reached (finishes 0 n st mv rs ws h.hand read wrote refl refl);
  idle = put_here c.hand 0 free;
  first = λ q l. ⊎_elim
      (λ (is : q ≡ n). subst IsDone (sym (ap (put c.phase n (done st mv)) is ∙ put_here c.phase n (done st mv))) tt)
      (λ (other : q ≢ n). subst IsDone (sym (elsewhere q other)) (t.first q (omega arith)))
      (cases_eq q n);
  later = λ q l. elsewhere q (λ e. omega arith) ∙ t.later q (omega arith);
}
  where
    st : ℕ
    st = s.status n (found rs)

    mv : ℕ
    mv = s.moved n (found rs)

    elsewhere : (q : ℕ) → q ≢ n → put c.phase n (done st mv) q ≡ d.phase q
    elsewhere q other = put_else c.phase n (done st mv) q other ∙ (h.phase q ∙ put_else d.phase n (held 0) q other)

writes_on : (s : Scene) → IsSound s → (n : ℕ) (d : Course) → IsInTurn s n d → HasReadSome s n (put d.phase n (held 0)) s.words
    → (next : Course) × IsInTurn s (suc n) next
writes_on s z n d t (c, rs, h, below) = finished (writes_some s n s.words (put d.phase n (held 0)) rs c read h)
  where
    read : HasReadAll s n rs
    read x decl = below x (z.are_words.words_inside n x decl) decl

    finished : HasWrittenSome s n (put d.phase n (held 0)) rs s.words → (next : Course) × IsInTurn s (suc n) next
    finished (e, ws, g, b) = (
      _,
      leaves s n d rs t read e ws g
          (λ x wr. b.all x (z.are_words.words_inside n x (z.are_words.written_declared n x wr)) wr),
    )

one_more : (s : Scene) → IsSound s → (n : ℕ) → n < s.places → (d : Course) × IsInTurn s n d → (d : Course) × IsInTurn s (suc n) d
one_more s z n low (d, t) = writes_on s z n d t (reads_some s n s.words (put d.phase n (held 0)) _ (takes s n d low t))

in_turn : (s : Scene) → IsSound s → (n : ℕ) → n ≤ s.places → (d : Course) × IsInTurn s n d
in_turn s z zero low = (opened s, record { reached = ([], refl); idle = refl; first = λ q l. absurd (omega arith); later = λ q l. refl })
in_turn s z (suc n) low = one_more s z n (omega arith) (in_turn s z n (omega arith))

pub whole_runs_exist : (s : Scene) → IsSound s → (es : List Event) × (end : Course) × IsWholeRun s es end
whole_runs_exist s z = all_done (in_turn s z s.places (omega arith))
  where
    all_done : (d : Course) × IsInTurn s s.places d → (es : List Event) × (end : Course) × IsWholeRun s es end
    all_done (d, t) = (t.reached.0, d, (t.reached.1, t.first))
