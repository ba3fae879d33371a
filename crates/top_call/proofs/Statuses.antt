-- What each status of a run says.
use Rattle.std.proofs.Common.{Contains, List, None, Option, Some, [], ap, append-nil, arith, inl, inr, lit<, refl, subst, sym, true, unwrap_or, ℕ, ◌++◌, ◌≡◌, ◌∙◌, ◌∷◌, ◌≤◌}
use Rattle.std.proofs.lemmas.Option.{none-some}
use Rattle.std.specs.Io.KnownBytes.{Appends, Consumes, IsAtEnd}
use Rattle.links.specs.Causes.{Rose}
use Rattle.links.specs.Views.{SinkView, SourceView}
use Rattle.schedule_model.specs.Programs.{program_craft, program_legend}
use Rattle.schedule_model.specs.Reports.{report_text}
use Rattle.history_records.specs.Records.{record_text}
use Rattle.place_model.specs.Histories.{History}
use Rattle.place_model.specs.declared.heard.Heard.{Heard}
use Rattle.schedule_model.specs.Schedules.{Bad_line, Determined, Whole}
use Rattle.schedule_model.specs.Schedules as schedules
use Rattle.top_call.proofs.Fronts.{schedule_run-front}
use Rattle.top_call.specs.Endings.{HasAnswered, IsToldFor, MayEnd, ended_of, text_of}
use Rattle.top_call.specs.Replays.{HasInput, IsHistoryText, calm_statuses, replay_run}
use Rattle.top_call.specs.Statuses.{IsAnswerTo, IsBadLine, IsBadWord, IsHistoryFull, IsOutOfMemory, IsReadFault, IsReported, IsWriteFault, WritesAsked, WritesBadLine, WritesFull}
use Rattle.top_call.specs.Words.{bad_place, reads_schedule}
use Rattle.top_call.proofs.Asked.{lawful_good, recording_lawful, replay_lawful}
use Rattle.top_call.proofs.Endings.{full_of}
use Rattle.top_call.specs.declared.ending.End.TheVariants.{BadByte, BadLine, BadWord, Full, LongStream, Made, Memory, ReadFault, Recorded, Reported, Shown as ShownEnd, Unfinished}
use Rattle.top_call.specs.declared.ending.End.{End}
use Rattle.top_call.specs.declared.ending.Ended.{Ended}

-- a run that ends so for another cause has a source that didn't fail
calm_source_of : (words : List (List ℕ)) (b n : SourceView) (end : End) → MayEnd words b n end → (end ≡ ReadFault → ⊥) → n.faults ≡ b.faults
calm_source_of words b n (Reported report) (lawful, (bytes, whole, is)) other = whole.kept
calm_source_of words b n (Recorded text) (lawful, (bytes, whole, is)) other = whole.kept
calm_source_of words b n (Made text) shown other = absurd shown
calm_source_of words b n ShownEnd shown other = absurd shown
calm_source_of words b n (BadByte kind place) shown other = absurd shown
calm_source_of words b n (Unfinished place) shown other = absurd shown
calm_source_of words b n LongStream shown other = absurd shown
calm_source_of words b n (BadWord place) (bad, same) other = ap (λ v. v.faults) same
calm_source_of words b n (BadLine bad) (lawful, (bytes, inl whole, is)) other = whole.kept
calm_source_of words b n (BadLine bad) (lawful, (bytes, inr past, is)) other = past.kept
calm_source_of words b n ReadFault shown other = absurd (other refl)
calm_source_of words b n (Full entries cost) (lawful, (bytes, inl whole, is)) other = whole.kept
calm_source_of words b n (Full entries cost) (lawful, (bytes, inr past, is)) other = past.kept
calm_source_of words b n Memory shown other = shown

-- so it may also end for want of memory
pub shown_memory : (words : List (List ℕ)) (b n : SourceView) (end told : End) → MayEnd words b n end → IsToldFor end told → MayEnd words b n told
shown_memory words b n end told shown (inl same) = subst (MayEnd words b n) (sym same) shown
shown_memory words b n end told shown (inr (memory, other)) = subst (MayEnd words b n) (sym memory) (calm_source_of words b n end shown other)

module _ (words : List (List ℕ)) (b n : SourceView) (o x : SinkView) (r : Ended) where
  pub status_reported : HasAnswered words b n o x r → r.status ≡ 0 → IsReported words b n o x
  status_reported (e, shown, inl (is, text, kept)) zero = by e shown text (sym (ap (λ v. v.status) is) ∙ zero)
    where
      by : (e : End) → MayEnd words b n e → Appends o.taken x.taken (text_of e) → (ended_of e).status ≡ 0 → IsReported words b n o x
      by ShownEnd shown text zero = absurd shown
      by (Made lines) shown text zero = absurd shown
      by (Reported report) (lawful, (bytes, whole, is)) text zero = (bytes, whole, inl (lawful, (report, is, text)))
      by (Recorded whole_text) (lawful, (bytes, whole, is)) text zero = (bytes, whole, inr (lawful, (whole_text, is, text)))
      by _ shown text zero = absurd (omega (arith, zero))
  status_reported (e, shown, inr (is, front, later, rose)) zero = let five = sym (ap (λ v. v.status) is) ∙ zero in absurd (omega (arith, five))

  pub status_bad_word : HasAnswered words b n o x r → r.status ≡ 2 → IsBadWord words b n o x r.place
  status_bad_word (e, shown, inl (is, text, kept)) two = by e shown text (sym (ap (λ v. v.status) is) ∙ two) (ap (λ v. v.place) is)
    where
      by : (e : End) → MayEnd words b n e → Appends o.taken x.taken (text_of e) → (ended_of e).status ≡ 2 → r.place ≡ (ended_of e).place → IsBadWord words b n o x r.place
      by (BadWord place) shown text two at = rw at (shown.0, shown.1, text)
      by _ shown text two at = absurd (omega (arith, two))
  status_bad_word (e, shown, inr (is, front, later, rose)) two = let five = sym (ap (λ v. v.status) is) ∙ two in absurd (omega (arith, five))

  pub status_bad_line : HasAnswered words b n o x r → r.status ≡ 3 → IsBadLine words b n o x r.place
  status_bad_line (e, shown, inl (is, text, kept)) three = by e shown text (sym (ap (λ v. v.status) is) ∙ three) (ap (λ v. v.place) is)
    where
      by : (e : End) → MayEnd words b n e → Appends o.taken x.taken (text_of e) → (ended_of e).status ≡ 3 → r.place ≡ (ended_of e).place → IsBadLine words b n o x r.place
      by (BadByte kind place) shown text three at = absurd shown
      by (Unfinished place) shown text three at = absurd shown
      by LongStream shown text three at = absurd shown
      by (BadLine bad) (lawful, (bytes, input, run)) text three at = rw at (lawful, (bytes, input, (bad.reason, run, text)))
      by _ shown text three at = absurd (omega (arith, three))
  status_bad_line (e, shown, inr (is, front, later, rose)) three = let five = sym (ap (λ v. v.status) is) ∙ three in absurd (omega (arith, five))

  pub status_read_fault : HasAnswered words b n o x r → r.status ≡ 4 → IsReadFault b n o x
  status_read_fault (e, shown, inl (is, text, kept)) four = by e shown text (sym (ap (λ v. v.status) is) ∙ four)
    where
      by : (e : End) → MayEnd words b n e → Appends o.taken x.taken (text_of e) → (ended_of e).status ≡ 4 → IsReadFault b n o x
      by ReadFault shown text four = (shown.1, shown.2, text)
      by _ shown text four = absurd (omega (arith, four))
  status_read_fault (e, shown, inr (is, front, later, rose)) four = let five = sym (ap (λ v. v.status) is) ∙ four in absurd (omega (arith, five))

  pub status_write_fault : HasAnswered words b n o x r → r.status ≡ 5 → IsWriteFault words b n o x
  status_write_fault (e, shown, inl (is, text, kept)) five = by e (sym (ap (λ v. v.status) is) ∙ five)
    where
      by : (e : End) → (ended_of e).status ≡ 5 → IsWriteFault words b n o x
      by (Reported report) five = absurd (omega (arith, five))
      by (Recorded text) five = absurd (omega (arith, five))
      by (Made text) five = absurd (omega (arith, five))
      by ShownEnd five = absurd (omega (arith, five))
      by (BadByte kind place) five = absurd (omega (arith, five))
      by (Unfinished place) five = absurd (omega (arith, five))
      by LongStream five = absurd (omega (arith, five))
      by (BadWord place) five = absurd (omega (arith, five))
      by (BadLine bad) five = absurd (omega (arith, five))
      by ReadFault five = absurd (omega (arith, five))
      by (Full entries cost) five = absurd (omega (arith, five))
      by Memory five = absurd (omega (arith, five))
  status_write_fault (e, shown, inr (is, front, later, rose)) five = (later, rose, (e, shown, front))

  pub status_history_full : HasAnswered words b n o x r → r.status ≡ 9 → IsHistoryFull words b n o x
  status_history_full (e, shown, inl (is, text, kept)) nine = by e shown text (sym (ap (λ v. v.status) is) ∙ nine)
    where
      by : (e : End) → MayEnd words b n e → Appends o.taken x.taken (text_of e) → (ended_of e).status ≡ 9 → IsHistoryFull words b n o x
      by (Full entries cost) (lawful, (bytes, input, run)) text nine = (lawful, (bytes, input, (entries, cost, run, text)))
      by _ shown text nine = absurd (omega (arith, nine))
  status_history_full (e, shown, inr (is, front, later, rose)) nine = let five = sym (ap (λ v. v.status) is) ∙ nine in absurd (omega (arith, five))

  pub status_out_of_memory : HasAnswered words b n o x r → r.status ≡ 11 → IsOutOfMemory b n o x
  status_out_of_memory (e, shown, inl (is, text, kept)) eleven = by e shown text (sym (ap (λ v. v.status) is) ∙ eleven)
    where
      by : (e : End) → MayEnd words b n e → Appends o.taken x.taken (text_of e) → (ended_of e).status ≡ 11 → IsOutOfMemory b n o x
      by Memory shown text eleven = (shown, text)
      by _ shown text eleven = absurd (omega (arith, eleven))
  status_out_of_memory (e, shown, inr (is, front, later, rose)) eleven = let five = sym (ap (λ v. v.status) is) ∙ eleven in absurd (omega (arith, five))

  pub sink_later : HasAnswered words b n o x r → o.faults ≤ x.faults
  sink_later (e, shown, inl (is, text, kept)) = omega (arith, kept)
  sink_later (e, shown, inr (is, front, later, rose)) = later

  pub statuses : HasAnswered words b n o x r → Contains (0 ∷ 2 ∷ 3 ∷ 4 ∷ 5 ∷ 9 ∷ 11 ∷ []) r.status
  statuses (e, shown, inl (is, text, kept)) = by e (ap (λ v. v.status) is)
    where
      by : (e : End) → r.status ≡ (ended_of e).status → Contains (0 ∷ 2 ∷ 3 ∷ 4 ∷ 5 ∷ 9 ∷ 11 ∷ []) r.status
      by (Reported report) is = rw is (0, lit< tt, refl)
      by (Recorded text) is = rw is (0, lit< tt, refl)
      by (Made text) is = rw is (0, lit< tt, refl)
      by ShownEnd is = rw is (0, lit< tt, refl)
      by (BadByte kind place) is = rw is (2, lit< tt, refl)
      by (Unfinished place) is = rw is (2, lit< tt, refl)
      by LongStream is = rw is (2, lit< tt, refl)
      by (BadWord place) is = rw is (1, lit< tt, refl)
      by (BadLine bad) is = rw is (2, lit< tt, refl)
      by ReadFault is = rw is (3, lit< tt, refl)
      by (Full entries cost) is = rw is (5, lit< tt, refl)
      by Memory is = rw is (6, lit< tt, refl)
  statuses (e, shown, inr (is, front, later, rose)) = let five = ap (λ v. v.status) is in rw five (4, lit< tt, refl)

  pub status_unlawful : HasAnswered words b n o x r → (place : ℕ) → bad_place words ≡ Some place → Contains (2 ∷ 5 ∷ 11 ∷ []) r.status
  status_unlawful (e, shown, inl (is, text, kept)) place unlawful = by e shown (ap (λ v. v.status) is)
    where
      by : (e : End) → MayEnd words b n e → r.status ≡ (ended_of e).status → Contains (2 ∷ 5 ∷ 11 ∷ []) r.status
      by (Reported report) shown is = absurd (replay_lawful words place shown.0 unlawful)
      by (Recorded text) shown is = absurd (recording_lawful words place shown.0 unlawful)
      by (Made text) shown is = absurd shown
      by ShownEnd shown is = absurd shown
      by (BadByte kind at) shown is = absurd shown
      by (Unfinished at) shown is = absurd shown
      by LongStream shown is = absurd shown
      by (BadWord at) shown is = rw is (0, lit< tt, refl)
      by (BadLine bad) shown is = absurd (lawful_good words place shown.0 unlawful)
      by ReadFault shown is = absurd (lawful_good words place shown.0 unlawful)
      by (Full entries cost) shown is = absurd (lawful_good words place shown.0 unlawful)
      by Memory shown is = rw is (2, lit< tt, refl)
  status_unlawful (e, shown, inr (is, front, later, rose)) place unlawful = let five = ap (λ v. v.status) is in rw five (1, lit< tt, refl)

-- what was consumed to the end is all that there was
pub consumed_all : (left now : Option (List ℕ)) (schedule bytes : List ℕ) → left ≡ Some schedule → Consumes left now bytes → IsAtEnd now → bytes ≡ schedule
consumed_all None now schedule bytes is taken end = absurd (none-some schedule is)
consumed_all (Some all) None schedule bytes is taken end = absurd taken
consumed_all (Some all) (Some rest) schedule bytes is taken end = let told : schedule ≡ all = sym (ap (λ v. unwrap_or v []) is) in sym (told ∙ taken ∙ ap (λ l. bytes ++ l) end ∙ append-nil bytes)

-- what was consumed is a front of what there was
pub consumed_front : (left now : Option (List ℕ)) (schedule bytes : List ℕ) → left ≡ Some schedule → Consumes left now bytes → (more : List ℕ) × (schedule ≡ bytes ++ more)
consumed_front None now schedule bytes is taken = absurd (none-some schedule is)
consumed_front (Some all) None schedule bytes is taken = absurd taken
consumed_front (Some all) (Some rest) schedule bytes is taken = let told : schedule ≡ all = sym (ap (λ v. unwrap_or v []) is) in (rest, told ∙ taken)

-- what the bytes that were read determine, the whole input determines
run_of_input : (b n : SourceView) (schedule bytes : List ℕ) → b.left ≡ Some schedule → HasInput b n bytes → replay_run schedule ≡ replay_run bytes
run_of_input b n schedule bytes told (inl whole) = ap replay_run (sym (consumed_all b.left n.left schedule bytes told whole.consumed whole.end))
run_of_input b n schedule bytes told (inr past) =
    let (more, split) = consumed_front b.left n.left schedule bytes told past.read.consumed in
    ap replay_run split ∙ schedule_run-front program_craft bytes more past.over

-- the text of what was read is that of the whole input
text_of_input : (form : History Heard → List ℕ) (schedule bytes text : List ℕ) → replay_run schedule ≡ replay_run bytes → IsHistoryText form bytes text → IsHistoryText form schedule text
text_of_input form schedule bytes text same is = record {
  desk = is.desk;
  determined = same ∙ is.determined;
  written = is.written;
  sound = is.sound;
  placed = is.placed;
  stops = is.stops;
  returns = is.returns;
  passes = is.passes;
  published = is.published;
  once = is.once;
  trees = is.trees;
}

-- the statuses of a run by what its schedule determines
pub calm : (schedule : List ℕ) (d : Determined) (status : ℕ) → replay_run schedule ≡ d → Contains (calm_statuses d) status → Contains (calm_statuses (replay_run schedule)) status
calm schedule d status is among = subst (λ v. Contains (calm_statuses v) status) (sym is) among

-- want of memory is among them
pub calm_memory : (d : Determined) → Contains (calm_statuses d) 11
calm_memory (Whole desk) = (1, lit< tt, refl)
calm_memory (schedules.Full entries cost) = (1, lit< tt, refl)
calm_memory (Bad_line line reason) = (1, lit< tt, refl)

module _ (words : List (List ℕ)) (b n : SourceView) (o x : SinkView) (r : Ended) (schedule : List ℕ) (told : b.left ≡ Some schedule) where
  pub answer_of_input : HasAnswered words b n o x r → IsAnswerTo words schedule o x r
  answer_of_input ended = record {
    reported = λ zero. first (status_reported words b n o x r ended zero);
    bad_line = λ three. second (status_bad_line words b n o x r ended three);
    history_full = λ nine. third (status_history_full words b n o x r ended nine);
  }
    where
      first : IsReported words b n o x → WritesAsked words o x schedule
      first (bytes, whole, inl (lawful, (report, is, text))) = inl (lawful, (report, text_of_input (report_text program_legend) schedule bytes report (run_of_input b n schedule bytes told (inl whole)) is, text))
      first (bytes, whole, inr (lawful, (t, is, text))) = inr (lawful, (t, text_of_input record_text schedule bytes t (run_of_input b n schedule bytes told (inl whole)) is, text))

      second : IsBadLine words b n o x r.place → WritesBadLine o x schedule r.place
      second (lawful, (bytes, input, (why, run, text))) = (why, run_of_input b n schedule bytes told input ∙ run, text)

      third : IsHistoryFull words b n o x → WritesFull o x schedule
      third (lawful, (bytes, input, (entries, cost, run, text))) = (entries, cost, full_of schedule entries cost (run_of_input b n schedule bytes told input ∙ run.determined), text)

  pub status_complete : HasAnswered words b n o x r → reads_schedule words ≡ true → ¬ (Rose b.faults n.faults) → ¬ (Rose o.faults x.faults) → Contains (calm_statuses (replay_run schedule)) r.status
  status_complete (e, shown, inl (is, written, kept)) lawful calm_source calm_sink = by e shown (ap (λ v. v.status) is)
    where
      by : (e : End) → MayEnd words b n e → r.status ≡ (ended_of e).status → Contains (calm_statuses (replay_run schedule)) r.status
      by (Reported report) (good, (bytes, whole, is)) at = rw at (calm schedule _ 0 (run_of_input b n schedule bytes told (inl whole) ∙ is.determined) (0, lit< tt, refl))
      by (Recorded text) (good, (bytes, whole, is)) at = rw at (calm schedule _ 0 (run_of_input b n schedule bytes told (inl whole) ∙ is.determined) (0, lit< tt, refl))
      by (BadWord place) shown at = absurd (lawful_good words place lawful shown.0)
      by (Made text) shown at = absurd shown
      by ShownEnd shown at = absurd shown
      by (BadByte kind place) shown at = absurd shown
      by (Unfinished place) shown at = absurd shown
      by LongStream shown at = absurd shown
      by (BadLine bad) (good, (bytes, input, run)) at = rw at (calm schedule _ 3 (run_of_input b n schedule bytes told input ∙ run) (0, lit< tt, refl))
      by ReadFault shown at = absurd (calm_source shown.2)
      by (Full entries cost) (good, (bytes, input, run)) at = rw at (calm schedule _ 9 (run_of_input b n schedule bytes told input ∙ run.determined) (0, lit< tt, refl))
      by Memory shown at = rw at (calm_memory (replay_run schedule))
  status_complete (e, shown, inr (is, front, later, rose)) lawful calm_source calm_sink = absurd (calm_sink rose)
