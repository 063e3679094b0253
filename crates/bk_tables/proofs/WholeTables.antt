-- A table that is written all at once.
use Rattle.std.proofs.Common.{◌≡◌, ◌∙◌, ℕ, ◌+◌, ◌-◌, ◌*◌, ◌^◌, ◌<◌, ◌≤◌, List, [], ◌++◌, length, refl, sym, ap, subst, length-append, arith}
use Rattle.std.specs.Prelude.{Result, Err}
use Rattle.std.proofs.KnownBytes.{Appends-nil, Keeps-refl}
use Rattle.bk_base.specs.declared.genesis.Row.{Row}
use Rattle.bk_base.specs.declared.version.Version.{Version}
use Rattle.bk_base.specs.Feed.{FeedValue}
use Rattle.bk_frames.specs.Device.{Device}
use Rattle.bk_frames.specs.Writing.{StopsWriting}
use Rattle.bk_frames.specs.declared.writing.WriteFault.{WriteFault}
use Rattle.bk_report.specs.Pages.{Desk, HasPut, Puts, desk}
use Rattle.bk_answer.specs.Answers.{IsMadeOf, WritesNot}
use Rattle.bk_answer.specs.Closed.{ClosedValue}
use Rattle.bk_answer.specs.RunReport.{reach_of}
use Rattle.bk_answer.proofs.Reports.{IsMade}
use Rattle.bk_answer.proofs.Texts.{text_stops}
use Rattle.bk_results.specs.Devices.{IsUntouched}
use Rattle.bk_results.specs.declared.fault.Fault.{Fault}
use Rattle.bk_results.specs.declared.fault.Fault.TheVariants as fault
use Rattle.bk_tables.specs.Growing.{Shown, ShowsAll, ShowsFirst, none_shown}
use Rattle.bk_tables.specs.Kinds.{IsMore, IsTextOf, MoreIsPut, OfAllPut, PutsMore, TableKind, WrittenOrWaits, payloads_in}
use Rattle.bk_tx.specs.Batches.{transactions_of}
use Rattle.bk_tables.proofs.BatchWalks.{taken_within}
use Rattle.bk_tables.proofs.Done.{still_put}
use Rattle.bk_tables.proofs.PostingTables.{few_transactions}

-- rows are put, and go out
pub more_put : {X : Type 0} {d : Desk} {m : ℕ} (result : Result X WriteFault) (k : TableKind) (c : ClosedValue) (before after : Shown) (more : List ℕ) (old new : Device) → IsMade c → ShowsFirst (payloads_in c) before → length more ≤ 1800 * (length (transactions_of (payloads_in c)) - before.place)
    → IsMore k c before.batch more → Puts (desk before.page old) d m more → Puts d (desk after.page new) 0 [] → OfAllPut d (λ start text. WrittenOrWaits result start new text) → ShowsAll (payloads_in c) after → PutsMore result k c before after old new
more_put result k c before after more old new made first few is put then out all =
    let within = taken_within (payloads_in c) before.batch in
    let total = few_transactions c made in
    record {
      more = more;
      is_more = is;
      puts = record { ready = then.ready; short = omega arith; put = λ start text h. still_put start (text ++ more) then (put.put start text h) };
      size = omega (arith, few, within, first.places, all.places);
      out = λ start text h short. out start (text ++ more) (put.put start text h) (omega (arith, short, few, within, total, first.places, length-append text more));
      all = all;
    }

-- ---- the whole table

-- before the first row the header was put
pub header_put : (start : Device) (header : List ℕ) (rows : Shown) → rows ≡ none_shown header → HasPut start (desk rows.page start) header
header_put start header rows is = subst (λ (s : Shown). HasPut start (desk s.page start) header) (sym is) (λ _. record { works = refl; pushed = []; gave = Appends-nil start.bytes; whole = refl; count = refl })

module _ (k : TableKind) (c : ClosedValue) where
  -- the whole table of what was made of a feed
  abbrev pub whole : List ℕ
  whole = k.header ++ k.rows c.ledger.state.version c.order.opening (payloads_in c)

  pub is_whole : IsTextOf k → (feed : FeedValue) → IsMadeOf c feed → k.text feed (reach_of c.order.taken.ordered.payloads.missing) whole
  is_whole is_text feed (good, closed) =
      subst (λ (x : Version × List Row). k.text feed (reach_of c.order.taken.ordered.payloads.missing) (k.header ++ k.rows x.0 x.1 (payloads_in c)))
      (λ i. (sym closed.executed.version i, sym closed.order.opening i))
      (is_text feed c.order.taken.ordered closed.order.clear closed.order.ordered)

  -- before the first row nothing is shown
  pub first_shown : (rows : Shown) → rows ≡ none_shown k.header → ShowsFirst (payloads_in c) rows
  first_shown rows is = subst (ShowsFirst (payloads_in c)) (sym is) (record { within = omega arith; places = omega arith })

  pub all_rows : ((version : Version) (genesis : List Row) → k.rows version genesis [] ≡ []) → (rows : Shown) → rows ≡ none_shown k.header → (more : List ℕ) → IsMore k c rows.batch more → k.header ++ more ≡ whole
  all_rows none_rows rows fresh more is =
      let from : IsMore k c 0 more = subst (λ (s : Shown). IsMore k c s.batch more) fresh is in
      ap (λ (t : List ℕ). k.header ++ t) (sym (from ∙ ap (λ (t : List ℕ). t ++ more) (none_rows c.ledger.state.version c.order.opening)))

  pub all_short : {X : Type 0} {result : Result X WriteFault} {rows after : Shown} {old new : Device} → IsMade c → length k.header ≤ 100 → (put : PutsMore result k c rows after old new) → length (k.header ++ put.more) < 2 ^ 62
  all_short made short put = omega (arith, short, put.size, put.all.places, few_transactions c made, length-append k.header put.more)

  -- they were not put
  module _ (none_rows : (version : Version) (genesis : List Row) → k.rows version genesis [] ≡ []) (is_text : IsTextOf k) (made : IsMade c) (short : length k.header ≤ 100) (rows after : Shown) (fresh : rows ≡ none_shown k.header) (old new : Device) (X : Type 0) where
    pub none_written : (f : Fault) → MoreIsPut {X = X} (Err f) k c rows after old new → WritesNot (IsMadeOf c) k.text f old new
    none_written (fault.Feed found) n = n
    none_written (fault.Collision id) n = n
    none_written (fault.Equivocation round author one other) n = n
    none_written (fault.Unfinished place) n = n
    none_written (fault.Write written) m = text_stops (IsMadeOf c) k.text _ whole (is_whole is_text) old new (record { written = written })
        (subst (λ (t : List ℕ). StopsWriting (record { written = written }) t old new) (all_rows none_rows rows fresh m.more m.is_more)
        (m.out old k.header (header_put old k.header rows fresh) (omega (arith, short))))
    none_written fault.Memory n = subst (IsUntouched old) n (refl, Keeps-refl old.bytes)
