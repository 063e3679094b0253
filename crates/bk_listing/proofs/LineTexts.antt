-- The text of the lines of frames.
use Rattle.std.proofs.Common.{◌≡◌, ℕ, zero, suc, ◌+◌, ◌^◌, ◌<◌, ◌≤◌, List, [], ◌∷◌, ◌++◌, length, take, drop, get_or, Option, Some, None, refl, sym, ap, subst, ◌∙◌, arith, append_assoc, length-append}
use Rattle.std.specs.Prelude.{count_by}
use Rattle.std.specs.List.{AllZip, flat_map}
use Rattle.std.specs.Global.{Vec}
use Rattle.std.proofs.lemmas.List.{take_more, take_all, take-append-drop}
use Rattle.std.proofs.lemmas.List.Concat.{flat_map-append, flat_map-cons}
use Rattle.std.proofs.lemmas.Slice.Zip.{all_zipped_more}
use Rattle.bk_base.specs.declared.kind.Kind.{Kind}
use Rattle.bk_base.specs.declared.version.Version.{Version}
use Rattle.bk_base.specs.Feed.{Frame, frame_of, frame_text}
use Rattle.bk_frames.specs.Cutting.{frames_in}
use Rattle.bk_committee.specs.Payload.{CommitteeValue, committee_of}
use Rattle.bk_listing.specs.Listing.{AreWords, AreLinesFrom, IsListing, line_with}
use Rattle.bk_listing.specs.declared.rows.FrameRow.{FrameRow}
use Rattle.bk_listing.specs.declared.lines.Place.{Place}
use Rattle.bk_listing.specs.declared.lister.Lister.{Lister}
use Rattle.bk_listing.specs.Rejects.{AreRejectedBy, IsRejectedCount}
use Rattle.bk_certcheck.specs.declared.rule.Rule.{Rule}
use Rattle.bk_listing.specs.private.FrameRow.{IsRow, PutsLines, IsCommitteeOf, HasListed, OpensBy, GoesOn, else_later, is_rejected, row_rules, row_words}
use Rattle.bk_results.specs.declared.wrong_tag.WrongTag.{WrongTag}
use Rattle.bk_listing.specs.Forged.{IsFirstForged, IsFirstForgedOf}
use Rattle.bk_listing.proofs.FirstForged.{first_then, none_of_none}
use Rattle.bk_certcheck.proofs.PartsOf.{frames_append}
use Rattle.bk_listing.proofs.Rejected.{rejected_then, rows_counted, rows_rejected}

-- ---- lines in turn

pub lines_then : (k : CommitteeValue) (i o j p : ℕ) (xs ys : List Frame) (a b : List ℕ) → j ≡ i + length xs → p ≡ o + length (flat_map frame_text xs) → AreLinesFrom k i o xs a → AreLinesFrom k j p ys b → AreLinesFrom k i o (xs ++ ys) (a ++ b)
lines_then k i o j p [] ys a b ej ep none more =
    let same_j : j ≡ i = omega (arith, ej) in
    let same_p : p ≡ o = omega (arith, ep) in
    let same : b ≡ a ++ b = sym (ap (λ (t : List ℕ). t ++ b) none) in
    subst (λ (q : ℕ × ℕ × List ℕ). AreLinesFrom k q.0 q.1 ys q.2) (λ t. (same_j t, same_p t, same t)) more
lines_then k i o j p (f ∷ xs) ys a b ej ep (words, rest, is, text, lines) more =
    let len : length (flat_map frame_text (f ∷ xs)) ≡ length (frame_text f) + length (flat_map frame_text xs) = ap length (flat_map-cons frame_text f xs) ∙ length-append (frame_text f) (flat_map frame_text xs) in (
      words,
      rest ++ b,
      is,
      ap (λ (t : List ℕ). t ++ b) text ∙ append_assoc (line_with i o words) (10 ∷ rest) b,
      lines_then k (i + 1) (o + length (frame_text f)) j p xs ys rest b (omega (arith, ej)) (omega (arith, ep, len)) lines more,
    )

one_line : (k : CommitteeValue) (i o : ℕ) (f : Frame) (words : List ℕ) → AreWords k f.kind f.payload words → AreLinesFrom k i o (f ∷ []) (line_with i o words ++ 10 ∷ [])
one_line k i o f words is = (words, [], is, refl, refl)

-- ---- frames in a list, and their rows

long_frame : (f : Frame) → length (frame_text f) ≡ 5 + length f.payload
long_frame f = omega arith

pub frames_more : (xs : List (Kind × Vec ℕ)) (i : ℕ) (x : Kind × Vec ℕ) → i < length xs → x ≡ get_or xs i x → frames_in (take (i + 1) xs) ≡ frames_in (take i xs) ++ frame_of x.0 x.1.items ∷ []
frames_more xs i x low is =
    ap frames_in (take_more xs i x low) ∙ frames_append (take i xs) (get_or xs i x ∷ []) ∙ ap (λ (y : Kind × Vec ℕ). frames_in (take i xs) ++ frame_of y.0 y.1.items ∷ []) (sym is)

counted : (xs : List (Kind × Vec ℕ)) (i : ℕ) → i ≤ length xs → length (frames_in (take i xs)) ≡ i
counted [] zero le = refl
counted [] (suc i) le = absurd (omega (arith, le))
counted (x ∷ xs) zero le = refl
counted (x ∷ xs) (suc i) le = ap suc (counted xs i (omega (arith, le)))

-- the bytes of the first frames are no more than those of all
pub first_bytes : (xs : List (Kind × Vec ℕ)) (i : ℕ) → length (flat_map frame_text (frames_in (take i xs))) ≤ length (flat_map frame_text (frames_in xs))
first_bytes xs i =
    let split : frames_in xs ≡ frames_in (take i xs) ++ frames_in (drop i xs) = ap frames_in (sym (take-append-drop i xs)) ∙ frames_append (take i xs) (drop i xs) in
    omega (arith, ap (λ (t : List Frame). length (flat_map frame_text t)) split, ap length (flat_map-append frame_text (frames_in (take i xs)) (frames_in (drop i xs))), length-append (flat_map frame_text (frames_in (take i xs))) (flat_map frame_text (frames_in (drop i xs))))

more_bytes : (xs : List Frame) (f : Frame) → length (flat_map frame_text (xs ++ f ∷ [])) ≡ length (flat_map frame_text xs) + (5 + length f.payload)
more_bytes xs f =
    omega (arith, ap length (flat_map-append frame_text xs (f ∷ [])), length-append (flat_map frame_text xs) (flat_map frame_text (f ∷ [])), ap length (flat_map-cons frame_text f []), length-append (frame_text f) [], long_frame f)

pub zip_at : {X Y : Type 0} (R : X → Y → Type 0) (xs : List X) (ys : List Y) (i : ℕ) (x : X) (y : Y) → AllZip R xs ys → i < length xs → R (get_or xs i x) (get_or ys i y)
zip_at R [] [] i x y h low = absurd (omega (arith, low))
zip_at R [] (w ∷ ys) i x y h low = absurd h
zip_at R (z ∷ xs) [] i x y h low = absurd h
zip_at R (z ∷ xs) (w ∷ ys) zero x y h low = h.0
zip_at R (z ∷ xs) (w ∷ ys) (suc i) x y h low = zip_at R xs ys i x y h.1 (omega (arith, low))

frame_there : (xs : List (Kind × Vec ℕ)) (i : ℕ) (x : Kind × Vec ℕ) → i < length xs → get_or (frames_in xs) i (frame_of x.0 x.1.items) ≡ frame_of (get_or xs i x).0 (get_or xs i x).1.items
frame_there [] i x low = absurd (omega (arith, low))
frame_there (y ∷ xs) zero x low = refl
frame_there (y ∷ xs) (suc i) x low = frame_there xs i x (omega (arith, low))

pub long_frames : (xs : List (Kind × Vec ℕ)) → length (frames_in xs) ≡ length xs
long_frames [] = refl
long_frames (x ∷ xs) = ap suc (long_frames xs)

-- what stands beside a frame
pub zip_frame : {Y : Type 0} (R : Frame → Y → Type 0) (xs : List (Kind × Vec ℕ)) (ys : List Y) (i : ℕ) (x : Kind × Vec ℕ) (y : Y) → AllZip R (frames_in xs) ys → i < length xs → x ≡ get_or xs i x → y ≡ get_or ys i y → R (frame_of x.0 x.1.items) y
zip_frame {Y = Y} R xs ys i x y h low there beside =
    let here : R (get_or (frames_in xs) i (frame_of x.0 x.1.items)) (get_or ys i y) = zip_at R (frames_in xs) ys i (frame_of x.0 x.1.items) y h (let l = long_frames xs in omega (arith, l, low)) in
    let same : get_or (frames_in xs) i (frame_of x.0 x.1.items) ≡ frame_of x.0 x.1.items = frame_there xs i x low ∙ ap (λ (z : Kind × Vec ℕ). frame_of z.0 z.1.items) (sym there) in
    subst (λ (p : Frame × Y). R p.0 p.1) (λ j. (same j, sym beside j)) here

-- a row more, and all rows
pub rows_on : (k : CommitteeValue) (xs : List (Kind × Vec ℕ)) (i : ℕ) (x : Kind × Vec ℕ) (rows new : List FrameRow) (row : FrameRow) → i < length xs → x ≡ get_or xs i x → AllZip (IsRow k) (frames_in (take i xs)) rows → IsRow k (frame_of x.0 x.1.items) row → new ≡ rows ++ row ∷ [] → AllZip (IsRow k) (frames_in (take (i + 1) xs)) new
rows_on k xs i x rows new row low there h is pushed =
    subst (λ (p : List Frame × List FrameRow). AllZip (IsRow k) p.0 p.1) (λ j. (sym (frames_more xs i x low there) j, sym pushed j)) (all_zipped_more (IsRow k) (frames_in (take i xs)) rows (frame_of x.0 x.1.items) row h is)

pub rows_all : (k : CommitteeValue) (xs : List (Kind × Vec ℕ)) (i : ℕ) (rows : List FrameRow) → length xs ≤ i → AllZip (IsRow k) (frames_in (take i xs)) rows → AllZip (IsRow k) (frames_in xs) rows
rows_all k xs i rows low h = subst (λ (ys : List (Kind × Vec ℕ)). AllZip (IsRow k) (frames_in ys) rows) (take_all i xs low) h

-- ---- lines that are put

pub puts_on : (k : CommitteeValue) (start place next : Place) (xs : List (Kind × Vec ℕ)) (i : ℕ) (x : Kind × Vec ℕ) (row : FrameRow) (old now new : List ℕ) → i < length xs → x ≡ get_or xs i x → IsRow k (frame_of x.0 x.1.items) row → PutsLines k start place (frames_in (take i xs)) old now
    → new ≡ now ++ (line_with place.index place.offset (row_words k row) ++ 10 ∷ []) → next.index ≡ place.index + 1 → next.offset ≡ place.offset + (length x.1.items + 5) → PutsLines k start next (frames_in (take (i + 1) xs)) old new
puts_on k start place next xs i x row old now new low there is h pushed index offset =
    subst (λ (fs : List Frame). PutsLines k start next fs old new) (sym (frames_more xs i x low there)) (record {
      text = h.text ++ (line_with place.index place.offset (row_words k row) ++ 10 ∷ []);
      put = pushed ∙ ap (λ (t : List ℕ). t ++ (line_with place.index place.offset (row_words k row) ++ 10 ∷ [])) h.put ∙ append_assoc old h.text (line_with place.index place.offset (row_words k row) ++ 10 ∷ []);
      lines = lines_then k start.index start.offset place.index place.offset before (f ∷ []) h.text (line_with place.index place.offset (row_words k row) ++ 10 ∷ []) h.after.index h.after.offset h.lines (one_line k place.index place.offset f (row_words k row) is.0);
      after = record {
        index = omega (arith, index, h.after.index, length-append before (f ∷ []));
        offset = omega (arith, offset, h.after.offset, more_bytes before f);
      };
    })
  where
    f : Frame
    f = frame_of x.0 x.1.items

    before : List Frame
    before = frames_in (take i xs)

-- the place stays small enough
pub place_fits : (k : CommitteeValue) (start place : Place) (xs : List (Kind × Vec ℕ)) (i : ℕ) (x : Kind × Vec ℕ) (old now : List ℕ) → i < length xs → x ≡ get_or xs i x → PutsLines k start place (frames_in (take i xs)) old now → start.index + length xs < 2 ^ 64
    → start.offset + length (flat_map frame_text (frames_in xs)) < 2 ^ 64 → (place.index + 1 < 2 ^ 64) × (place.offset + (length x.1.items + 5) < 2 ^ 64)
place_fits k start place xs i x old now low there h index offset =
    let all = first_bytes xs (i + 1) in
    let more = ap (λ (t : List Frame). length (flat_map frame_text t)) (frames_more xs i x low there) in
    (omega (arith, h.after.index, counted xs i (omega (arith, low)), index, low), omega (arith, h.after.offset, all, more, more_bytes (frames_in (take i xs)) (frame_of x.0 x.1.items), offset))

-- ---- groups in turn

known_one : (k m : CommitteeValue) → Some k ≡ Some m → k ≡ m
known_one k m e = cc

-- and else with the lines of the frames
pub goes_on : (version : Version) (frames : List Frame) (old new : Lister) (k : CommitteeValue) (rows : List FrameRow) (lines : List ℕ) (found : Option WrongTag) → OpensBy version frames old.committee new.committee → new.committee ≡ Some k → PutsLines k old.place new.place frames [] lines → AllZip (IsRow k) frames rows → new.rejected ≡ old.rejected + count_by is_rejected rows
    → IsFirstForged k frames found → new.forged ≡ else_later old.forged old.place.index found → GoesOn version frames old new lines
goes_on version frames old new k rows lines found opens known puts zipped counted first_is forged_is before text h = by_old old.committee refl before h.listing h.committee h.index h.offset h.rejected h.forged
  where
    added : (p : ℕ) (o : ℕ) → old.place.index ≡ p → old.place.offset ≡ o → AreLinesFrom k p o frames lines
    added p o i j = subst (λ (q : ℕ × ℕ × List ℕ). AreLinesFrom k q.0 q.1 frames q.2) (λ t. (i t, j t, sym puts.put t)) puts.lines

    index_then : (bs : List Frame) → old.place.index ≡ length bs → new.place.index ≡ length (bs ++ frames)
    index_then bs e = omega (arith, e, puts.after.index, length-append bs frames)

    offset_then : (bs : List Frame) → old.place.offset ≡ 4 + length (flat_map frame_text bs) → new.place.offset ≡ 4 + length (flat_map frame_text (bs ++ frames))
    offset_then bs e = omega (arith, e, puts.after.offset, ap length (flat_map-append frame_text bs frames), length-append (flat_map frame_text bs) (flat_map frame_text frames))

    more_rules : List Rule
    more_rules = flat_map row_rules rows

    more_rejected : AreRejectedBy k frames more_rules
    more_rejected = rows_rejected k frames rows zipped

    first_rejected : (fs : List Frame) → IsCommitteeOf version fs (Some k) → AreRejectedBy k fs more_rules → old.rejected ≡ 0 → IsRejectedCount version fs new.rejected
    first_rejected [] e are none = absurd cc
    first_rejected (f ∷ fs) e are none = (
      more_rules,
      subst (λ (m : CommitteeValue). AreRejectedBy m (f ∷ fs) more_rules) (known_one k (committee_of version f.payload) e) are,
      omega (arith, counted, rows_counted rows, none),
    )

    later_rejected : (b : Frame) (bs : List Frame) → k ≡ committee_of version b.payload → IsRejectedCount version (b ∷ bs) old.rejected → IsRejectedCount version ((b ∷ bs) ++ frames) new.rejected
    later_rejected b bs same (rules, are, e) = (
      rules ++ more_rules,
      rejected_then (committee_of version b.payload) (b ∷ bs) frames rules more_rules are (subst (λ (m : CommitteeValue). AreRejectedBy m frames more_rules) same more_rejected),
      omega (arith, counted, rows_counted rows, e, length-append rules more_rules),
    )

    first_forged : (fs : List Frame) → IsCommitteeOf version fs (Some k) → IsFirstForged k fs found → old.forged ≡ None → old.place.index ≡ 0 → IsFirstForgedOf version fs new.forged
    first_forged [] e first none index = absurd cc
    first_forged (f ∷ fs) e first none index =
        subst (λ (m : CommitteeValue). IsFirstForged m (f ∷ fs) new.forged) (known_one k (committee_of version f.payload) e)
        (subst (IsFirstForged k (f ∷ fs)) (sym (forged_is ∙ (λ j. else_later (none j) (index j) found))) (first_then k [] (f ∷ fs) None found (none_of_none k) first))

    later_forged : (b : Frame) (bs : List Frame) → k ≡ committee_of version b.payload → old.place.index ≡ length (b ∷ bs) → IsFirstForgedOf version (b ∷ bs) old.forged → IsFirstForgedOf version ((b ∷ bs) ++ frames) new.forged
    later_forged b bs same index first =
        subst (IsFirstForged (committee_of version b.payload) ((b ∷ bs) ++ frames)) (sym (forged_is ∙ ap (λ (n : ℕ). else_later old.forged n found) index))
        (first_then (committee_of version b.payload) (b ∷ bs) frames old.forged found first (subst (λ (m : CommitteeValue). IsFirstForged m frames found) same first_is))

    -- the frames that follow none
    first_frames : (fs : List Frame) → IsCommitteeOf version fs (Some k) → AreLinesFrom k 0 4 fs lines → IsListing version fs lines
    first_frames [] e l = absurd cc
    first_frames (f ∷ fs) e l = subst (λ (m : CommitteeValue). AreLinesFrom m 0 4 (f ∷ fs) lines) (known_one k (committee_of version f.payload) e) l

    by_old : (o : Option CommitteeValue) → o ≡ old.committee → (bs : List Frame) → IsListing version bs text → IsCommitteeOf version bs old.committee → old.place.index ≡ length bs → old.place.offset ≡ 4 + length (flat_map frame_text bs) → IsRejectedCount version bs old.rejected → IsFirstForgedOf version bs old.forged → HasListed version (bs ++ frames) (text ++ lines) new
    by_old None e [] listing committee index offset rejected forged =
        let is : IsCommitteeOf version frames (Some k) = subst (IsCommitteeOf version frames) known (subst (λ (w : Option CommitteeValue). OpensBy version frames w new.committee) (sym e) opens) in
        record {
          listing = subst (IsListing version frames) (ap (λ (t : List ℕ). t ++ lines) (sym listing)) (first_frames frames is (added 0 4 index offset));
          committee = subst (IsCommitteeOf version frames) (sym known) is;
          index = index_then [] index;
          offset = offset_then [] offset;
          rejected = first_rejected frames is more_rejected rejected;
          forged = first_forged frames is first_is forged index;
        }
    by_old None e (b ∷ bs) listing committee index offset rejected forged = absurd (let clash = e ∙ committee in cc)
    by_old (Some m) e [] listing committee index offset rejected forged = absurd (let clash = e ∙ committee in cc)
    by_old (Some m) e (b ∷ bs) listing committee index offset rejected forged =
        let stays : new.committee ≡ Some m = subst (λ (w : Option CommitteeValue). OpensBy version frames w new.committee) (sym e) opens in
        let same : k ≡ committee_of version b.payload = known_one k (committee_of version b.payload) (sym known ∙ stays ∙ e ∙ committee) in
        record {
          listing = lines_then (committee_of version b.payload) 0 4 (length (b ∷ bs)) (4 + length (flat_map frame_text (b ∷ bs))) (b ∷ bs) frames text lines (omega arith) refl listing
              (subst (λ (c : CommitteeValue). AreLinesFrom c (length (b ∷ bs)) (4 + length (flat_map frame_text (b ∷ bs))) frames lines) same (added (length (b ∷ bs)) (4 + length (flat_map frame_text (b ∷ bs))) index offset));
          committee = stays ∙ e ∙ committee;
          index = index_then (b ∷ bs) index;
          offset = offset_then (b ∷ bs) offset;
          rejected = later_rejected b bs same rejected;
          forged = later_forged b bs same index forged;
        }
