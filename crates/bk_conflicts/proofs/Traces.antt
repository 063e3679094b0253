-- What is kept of each slot: its last writer, and the list of its readers since.
use Rattle.std.proofs.Common.{◌≡◌, ◌≢◌, ◌⊎◌, ⊎_elim, ℕ, suc, ◌+◌, ◌-◌, ◌<◌, List, [], ◌∷◌, ◌++◌, length, get_or, set, Bool, true, false, cond, refl, sym, ap, ◌∙◌, subst, arith, length-append, length-set, get_or-set_same, get_or-set_other, eq-eqb, ne_eqb}
use mathlib.Core.Logic.{dite}
use native.Mathlib.Decide.{ℕ_discrete, dec_le}
use Rattle.std.proofs.lemmas.Bool.{both_ways}
use Rattle.std.proofs.lemmas.List.{get_or_append_left, get_or-append-add}
use Rattle.bk_conflicts.specs.declared.trail.Reader.{Reader}
use Rattle.bk_conflicts.specs.private.Trail.{none, no_reader, newest_by, writer_by, WriterIs, sources_of, with_once, all_once, Linked, IsLinks, AreTraces, IsTrace}

-- ---- a list of readers

-- at an entry, the list begins with its place
pub walk_step : (readers : List Reader) (found : List ℕ) (at : ℕ) (ps : List ℕ) → (at ≡ 0 → ⊥) → Linked readers at ps
    → (qs : List ℕ) × Linked readers (get_or readers at no_reader).prev qs × (all_once found ps ≡ all_once (with_once found (get_or readers at no_reader).place) qs)
unfolding Linked all_once
walk_step readers found at [] n h = absurd (n h)
walk_step readers found at (p ∷ ps) n h = (ps, h.3, ap (λ (x : ℕ). all_once (with_once found x) ps) (sym h.2))

pub walk_end : (readers : List Reader) (found : List ℕ) (at : ℕ) (ps : List ℕ) → at ≡ 0 → Linked readers at ps → all_once found ps ≡ found
unfolding Linked all_once
walk_end readers found at [] e h = refl
walk_end readers found at (p ∷ ps) e h = absurd (let l = h.0 in omega arith)

-- the entry after all others
at_end : (readers : List Reader) (x : Reader) → get_or (readers ++ x ∷ []) (length readers) no_reader ≡ x
at_end readers x = ap (λ (k : ℕ). get_or (readers ++ x ∷ []) k no_reader) (let z : length readers ≡ length readers + 0 = omega arith in z) ∙ get_or-append-add readers (x ∷ []) 0 no_reader

-- it stays where one more entry is pushed
linked_push : (readers : List Reader) (x : Reader) (h : ℕ) (rs : List ℕ) → Linked readers h rs → Linked (readers ++ x ∷ []) h rs
unfolding Linked
linked_push readers x h [] l = l
linked_push readers x h (r ∷ rs) l = let e = get_or_append_left readers (x ∷ []) no_reader h l.1 in (
  l.0,
  (let n = length-append readers (x ∷ []) in let m = l.1 in omega arith),
  ap (λ (y : Reader). y.place) e ∙ l.2,
  subst (λ (k : ℕ). Linked (readers ++ x ∷ []) k rs) (sym (ap (λ (y : Reader). y.prev) e)) (linked_push readers x (get_or readers h no_reader).prev rs l.3),
)

linked_next : (readers : List Reader) (x : Reader) (rs : List ℕ) → 0 < length readers → Linked readers x.prev rs → Linked (readers ++ x ∷ []) (length readers) (x.place ∷ rs)
unfolding Linked
linked_next readers x rs some l = let e = at_end readers x in (
  some,
  (let n = length-append readers (x ∷ []) in omega arith),
  ap (λ (y : Reader). y.place) e,
  subst (λ (k : ℕ). Linked (readers ++ x ∷ []) k rs) (sym (ap (λ (y : Reader). y.prev) e)) (linked_push readers x x.prev rs l),
)

linked_none_yet : (readers : List Reader) (h : ℕ) → h ≡ 0 → Linked readers h []
unfolding Linked
linked_none_yet readers h e = e

pub linked_some : (readers : List Reader) (ws : List ℕ) (h : ℕ) (rs : List ℕ) → (h ≡ 0 → ⊥) → Linked readers h rs → sources_of true rs ws ≡ rs
unfolding Linked
linked_some readers ws h [] n l = absurd (n l)
linked_some readers ws h (r ∷ rs) n l = refl

pub linked_none : (readers : List Reader) (ws : List ℕ) (h : ℕ) (w : Bool) (rs : List ℕ) → (w ≡ false) ⊎ (h ≡ 0) → Linked readers h rs → sources_of w rs ws ≡ ws
unfolding Linked
linked_none readers ws h false rs n l = refl
linked_none readers ws h true [] n l = refl
linked_none readers ws h true (r ∷ rs) n l = absurd (⊎_elim (λ e. both_ways true e refl) (λ e. let m = l.0 in omega arith) n)

-- ---- the last writer

pub writer_low : (readers : List Reader) (last : ℕ) → newest_by last ≡ 0 → writer_by readers last ≡ last
unfolding writer_by
writer_low readers last e = ap (λ (b : Bool). cond b last (get_or readers (newest_by last) no_reader).writer) (eq-eqb (newest_by last) 0 e)

pub writer_read : (readers : List Reader) (last : ℕ) → newest_by last ≢ 0 → writer_by readers last ≡ (get_or readers (newest_by last) no_reader).writer
unfolding writer_by
writer_read readers last n = ap (λ (b : Bool). cond b last (get_or readers (newest_by last) no_reader).writer) (ne_eqb (newest_by last) 0 n)

writer_push : (readers : List Reader) (x : Reader) (last : ℕ) → newest_by last < length readers → writer_by (readers ++ x ∷ []) last ≡ writer_by readers last
writer_push readers x last l = dite (ℕ_discrete (newest_by last) 0)
    (λ e. writer_low (readers ++ x ∷ []) last e ∙ sym (writer_low readers last e))
    (λ n. writer_read (readers ++ x ∷ []) last n ∙ (ap (λ (y : Reader). y.writer) (get_or_append_left readers (x ∷ []) no_reader (newest_by last) l) ∙ sym (writer_read readers last n)))

-- what is kept of a slot after a reader
abbrev after_read : List Reader → ℕ
after_read readers = none + length readers

newest_next : (readers : List Reader) → newest_by (after_read readers) ≡ length readers
newest_next readers = let n : ℕ = length readers in let e : none + n - none ≡ n = omega arith in e

writer_next : (readers : List Reader) (x : Reader) → 0 < length readers → writer_by (readers ++ x ∷ []) (after_read readers) ≡ x.writer
writer_next readers x some = let e = newest_next readers in
    writer_read (readers ++ x ∷ []) (after_read readers) (λ z. let n : length readers ≡ 0 = sym e ∙ z in absurd (omega arith))
    ∙ (ap (λ (k : ℕ). (get_or (readers ++ x ∷ []) k no_reader).writer) e ∙ ap (λ (y : Reader). y.writer) (at_end readers x))

-- ---- one slot

trace_push : (readers : List Reader) (x : Reader) (last : ℕ) (rs ws : List ℕ) → IsTrace readers last rs ws → IsTrace (readers ++ x ∷ []) last rs ws
trace_push readers x last rs ws h = record {
  within = let a = h.within in let n = length-append readers (x ∷ []) in omega arith;
  linked = linked_push readers x (newest_by last) rs h.linked;
  writer = subst (λ (w : ℕ). WriterIs w ws) (sym (writer_push readers x last h.within)) h.writer;
}

pub trace_kept : (readers : List Reader) (x : Reader) (last : List ℕ) (a b v : ℕ) (rs ws : List ℕ) → b ≢ a → IsTrace readers (get_or last b 0) rs ws → IsTrace (readers ++ x ∷ []) (get_or (set last a v) b 0) rs ws
trace_kept readers x last a b v rs ws other h = subst (λ (k : ℕ). IsTrace (readers ++ x ∷ []) k rs ws) (sym (get_or-set_other last a b v 0 other)) (trace_push readers x (get_or last b 0) rs ws h)

pub trace_read : (readers : List Reader) (x : Reader) (last : List ℕ) (a v : ℕ) (rs ws : List ℕ) → 0 < length readers → a < length last → v ≡ none + length readers
    → x.writer ≡ writer_by readers (get_or last a 0) → x.prev ≡ newest_by (get_or last a 0) → IsTrace readers (get_or last a 0) rs ws → IsTrace (readers ++ x ∷ []) (get_or (set last a v) a 0) (x.place ∷ rs) ws
trace_read readers x last a v rs ws some l v_is w p h = subst (λ (k : ℕ). IsTrace (readers ++ x ∷ []) k (x.place ∷ rs) ws) (sym (get_or-set_same last a v 0 l ∙ v_is)) (record {
  within = let e = newest_next readers in let n = length-append readers (x ∷ []) in omega arith;
  linked = subst (λ (k : ℕ). Linked (readers ++ x ∷ []) k (x.place ∷ rs)) (sym (newest_next readers)) (linked_next readers x rs some (subst (λ (k : ℕ). Linked readers k rs) (sym p) h.linked));
  writer = subst (λ (k : ℕ). WriterIs k ws) (sym (writer_next readers x some ∙ w)) h.writer;
})

pub trace_write : (readers : List Reader) (last : List ℕ) (a q : ℕ) (w : Bool) (rs ws : List ℕ) → w ≡ true → 0 < length readers → a < length last → q < none
    → IsTrace readers (get_or (set last a q) a 0) (cond w [] (q ∷ rs)) (cond w (q ∷ []) ws)
trace_write readers last a q false rs ws e some l m = absurd (both_ways false refl e)
trace_write readers last a q true rs ws e some l m = subst (λ (k : ℕ). IsTrace readers k [] (q ∷ [])) (sym (get_or-set_same last a q 0 l))
    (let low : newest_by q ≡ 0 = omega arith in record {
      within = let z = low in omega arith;
      linked = linked_none_yet readers (newest_by q) low;
      writer = (writer_low readers q low, (λ z. let s = writer_low readers q low in absurd (omega arith)), refl);
    })

-- ---- all slots

links_push : (places : ℕ) (readers : List Reader) (x : Reader) → x.place < places → x.prev < length readers → IsLinks places readers → IsLinks places (readers ++ x ∷ [])
links_push places readers x p v h = record {
  some = let a = h.some in let n = length-append readers (x ∷ []) in omega arith;
  back = λ i l m. at i l m (λ (y : Reader). y.prev < i) (λ k. h.back i l k) (λ e. let z = e in omega arith);
  low = λ i l m. at i l m (λ (y : Reader). y.place < places) (λ k. h.low i l k) (λ e. p);
}
  where
    at : (i : ℕ) → 0 < i → i < length (readers ++ x ∷ []) → (P : Reader → Type 0) → (i < length readers → P (get_or readers i no_reader)) → (i ≡ length readers → P x) → P (get_or (readers ++ x ∷ []) i no_reader)
    at i l m P old new = let n = length-append readers (x ∷ []) in dite (dec_le (suc i) (length readers))
        (λ k. subst P (sym (get_or_append_left readers (x ∷ []) no_reader i k)) (old k))
        (λ k. let e : i ≡ length readers = omega arith in subst P (sym (ap (λ (j : ℕ). get_or (readers ++ x ∷ []) j no_reader) e ∙ at_end readers x)) (new e))

-- of the slots, a alone is changed
by_slot : (last : List ℕ) (a v b : ℕ) (P : ℕ → Type 0) → a < length last → P v → P (get_or last b 0) → P (get_or (set last a v) b 0)
by_slot last a v b P l new old = dite (ℕ_discrete b a)
    (λ e. subst P (sym (ap (λ (k : ℕ). get_or (set last a v) k 0) e ∙ get_or-set_same last a v 0 l)) new)
    (λ n. subst P (sym (get_or-set_other last a b v 0 n)) old)

-- the writer that x has is an earlier place, if there is one
abbrev IsLow : ℕ → ℕ → Type 0
IsLow places w = w ≢ none → w < places

pub traces_read : (slots places : ℕ) (last : List ℕ) (readers : List Reader) (x : Reader) (a v : ℕ) → a < slots → x.place < places → v ≡ none + length readers
    → x.writer ≡ writer_by readers (get_or last a 0) → x.prev ≡ newest_by (get_or last a 0) → AreTraces slots places last readers → AreTraces slots places (set last a v) (readers ++ x ∷ [])
traces_read slots places last readers x a v l p v_is w r h = record {
  many = length-set last a v ∙ h.many;
  links = links_push places readers x p (let c = h.heads a l in omega arith) h.links;
  heads = λ b m. by_slot last a v b (λ (k : ℕ). newest_by k < length (readers ++ x ∷ [])) (let c = h.many in omega arith)
      (let e = newest_next readers in let n = length-append readers (x ∷ []) in let i = v_is in omega arith)
      (let c = h.heads b m in let n = length-append readers (x ∷ []) in omega arith);
  wrote = λ b m. by_slot last a v b (λ (k : ℕ). IsLow places (writer_by (readers ++ x ∷ []) k)) (let c = h.many in omega arith)
      (subst (IsLow places) (sym (ap (writer_by (readers ++ x ∷ [])) v_is ∙ (writer_next readers x h.links.some ∙ w))) (h.wrote a l))
      (subst (IsLow places) (sym (writer_push readers x (get_or last b 0) (h.heads b m))) (h.wrote b m));
}

pub traces_write : (slots places : ℕ) (last : List ℕ) (readers : List Reader) (a q : ℕ) → a < slots → q < places → q < none → AreTraces slots places last readers → AreTraces slots places (set last a q) readers
traces_write slots places last readers a q l p low h = let z : newest_by q ≡ 0 = omega arith in record {
  many = length-set last a q ∙ h.many;
  links = h.links;
  heads = λ b m. by_slot last a q b (λ (k : ℕ). newest_by k < length readers) (let c = h.many in omega arith) (let y = z in let some = h.links.some in omega arith) (h.heads b m);
  wrote = λ b m. by_slot last a q b (λ (k : ℕ). IsLow places (writer_by readers k)) (let c = h.many in omega arith) (λ n. let y = writer_low readers q z in omega arith) (h.wrote b m);
}
