-- What each status of a run of `replay --make` says.
use Rattle.std.proofs.Common.{Contains, Err, List, [], ap, arith, inl, inr, lit<, lit≤, refl, subst, sym, ℕ, ◌≡◌, ◌∙◌, ◌∷◌, ◌≤◌}
use Rattle.std.proofs.KnownBytes.{Consumes-nil}
use Rattle.std.specs.Io.KnownBytes.{Appends}
use Rattle.links.specs.Causes.{AppendsFront, Rose}
use Rattle.links.specs.Views.{SinkView, SourceView}
use Rattle.schedule_maker.specs.Made.{made_text}
use Rattle.schedule_model.specs.Schedules.{Whole}
use Rattle.schedule_world.specs.Runs.{HasRun}
use Rattle.schedule_world.specs.declared.run.RunFault.{RunFault}
use Rattle.schedule_world.specs.declared.run.RunFault.TheVariants as run
use Rattle.top_call.proofs.Endings.{full_of}
use Rattle.top_call.proofs.Statuses.{calm, calm_memory}
use Rattle.top_call.specs.Mappings.{end_given}
use Rattle.top_call.specs.Endings.{IsMadeTold, IsToldFor, MadeEnds, Took, Written, ended_of, text_of}
use Rattle.top_call.specs.Makings.{IsMaking, IsMakingCut, WritesMade}
use Rattle.top_call.specs.Replays.{calm_statuses, replay_run}
use Rattle.top_call.specs.Statuses.{WritesBadLine, WritesFull}
use Rattle.top_call.specs.declared.ending.End.TheVariants.{BadByte, BadLine, BadWord, Full, LongStream, Made, Memory, ReadFault, Recorded, Reported, Shown as ShownEnd, Unfinished}
use Rattle.top_call.specs.declared.ending.End.{End}
use Rattle.top_call.specs.declared.ending.Ended.{Ended}

-- the ending that is told is one to which the made schedule may lead
ends_told : (n : ℕ) (end told : End) → MadeEnds n end → IsToldFor end told → MadeEnds n told
ends_told n end told ends (inl same) = subst (MadeEnds n) (sym same) ends
ends_told n end told ends (inr (memory, other)) = subst (MadeEnds n) (sym memory) tt

-- a made schedule without a whole history
pub made_of_fault : (n : ℕ) (schedule : List ℕ) → schedule ≡ made_text n → (fault : RunFault) → HasRun (replay_run schedule) (Err fault) → MadeEnds n (end_given fault)
made_of_fault n schedule same fault is = by fault (subst (λ (s : List ℕ). HasRun (replay_run s) (Err fault)) same is)
  where
    by : (fault : RunFault) → HasRun (replay_run (made_text n)) (Err fault) → MadeEnds n (end_given fault)
    by (run.Bad bad) is = is
    by (run.Full entries cost) is = full_of (made_text n) entries cost is
    by run.Memory is = tt

module _ (n : ℕ) (o x : SinkView) (r : Ended) where
  made : (e : End) → MadeEnds n e → Written o x e r → r.status ≡ 0 → WritesMade o x n
  made e ends (inl (is, text, kept)) nought = by e ends text (sym (ap (λ v. v.status) is) ∙ nought)
    where
      by : (e : End) → MadeEnds n e → Appends o.taken x.taken (text_of e) → (ended_of e).status ≡ 0 → WritesMade o x n
      by (Made lines) ends text nought = (lines, ends, text)
      by (Reported report) ends text nought = absurd ends
      by (Recorded whole) ends text nought = absurd ends
      by ShownEnd ends text nought = absurd ends
      by _ ends text nought = absurd (omega (arith, nought))
  made e ends (inr (is, front, later, rose)) nought = let five = sym (ap (λ v. v.status) is) ∙ nought in absurd (omega (arith, five))

  bad_line : (e : End) → MadeEnds n e → Written o x e r → r.status ≡ 3 → WritesBadLine o x (made_text n) r.place
  bad_line e ends (inl (is, text, kept)) three = by e ends text (sym (ap (λ v. v.status) is) ∙ three) (ap (λ v. v.place) is)
    where
      by : (e : End) → MadeEnds n e → Appends o.taken x.taken (text_of e) → (ended_of e).status ≡ 3 → r.place ≡ (ended_of e).place → WritesBadLine o x (made_text n) r.place
      by (BadByte kind place) ends text three at = absurd ends
      by (Unfinished place) ends text three at = absurd ends
      by LongStream ends text three at = absurd ends
      by (BadLine bad) ends text three at = rw at (bad.reason, ends, text)
      by _ ends text three at = absurd (omega (arith, three))
  bad_line e ends (inr (is, front, later, rose)) three = let five = sym (ap (λ v. v.status) is) ∙ three in absurd (omega (arith, five))

  cut : (e : End) → MadeEnds n e → Written o x e r → r.status ≡ 5 → IsMakingCut o x n
  cut e ends (inl (is, text, kept)) five = by e (sym (ap (λ v. v.status) is) ∙ five)
    where
      by : (e : End) → (ended_of e).status ≡ 5 → IsMakingCut o x n
      by (Reported report) five = absurd (omega (arith, five))
      by (Recorded text) five = absurd (omega (arith, five))
      by (Made text) five = absurd (omega (arith, five))
      by ShownEnd five = absurd (omega (arith, five))
      by (BadByte kind place) five = absurd (omega (arith, five))
      by (Unfinished place) five = absurd (omega (arith, five))
      by LongStream five = absurd (omega (arith, five))
      by (BadWord place) five = absurd (omega (arith, five))
      by (BadLine bad) five = absurd (omega (arith, five))
      by ReadFault five = absurd (omega (arith, five))
      by (Full entries cost) five = absurd (omega (arith, five))
      by Memory five = absurd (omega (arith, five))
  cut e ends (inr (is, front, later, rose)) five = (later, rose, (e, ends, front))

  full : (e : End) → MadeEnds n e → Written o x e r → r.status ≡ 9 → WritesFull o x (made_text n)
  full e ends (inl (is, text, kept)) nine = by e ends text (sym (ap (λ v. v.status) is) ∙ nine)
    where
      by : (e : End) → MadeEnds n e → Appends o.taken x.taken (text_of e) → (ended_of e).status ≡ 9 → WritesFull o x (made_text n)
      by (Full entries cost) ends text nine = (entries, cost, ends, text)
      by _ ends text nine = absurd (omega (arith, nine))
  full e ends (inr (is, front, later, rose)) nine = let five = sym (ap (λ v. v.status) is) ∙ nine in absurd (omega (arith, five))

  starved : (e : End) → MadeEnds n e → Written o x e r → r.status ≡ 11 → Appends o.taken x.taken (text_of Memory)
  starved e ends (inl (is, text, kept)) eleven = by e text (sym (ap (λ v. v.status) is) ∙ eleven)
    where
      by : (e : End) → Appends o.taken x.taken (text_of e) → (ended_of e).status ≡ 11 → Appends o.taken x.taken (text_of Memory)
      by Memory text eleven = text
      by _ text eleven = absurd (omega (arith, eleven))
  starved e ends (inr (is, front, later, rose)) eleven = let five = sym (ap (λ v. v.status) is) ∙ eleven in absurd (omega (arith, five))

  among : (e : End) → MadeEnds n e → Written o x e r → Contains (0 ∷ 3 ∷ 5 ∷ 9 ∷ 11 ∷ []) r.status
  among e ends (inl (is, text, kept)) = by e ends (ap (λ v. v.status) is)
    where
      by : (e : End) → MadeEnds n e → r.status ≡ (ended_of e).status → Contains (0 ∷ 3 ∷ 5 ∷ 9 ∷ 11 ∷ []) r.status
      by (Made text) ends is = rw is (0, lit< tt, refl)
      by (BadLine bad) ends is = rw is (1, lit< tt, refl)
      by (Full entries cost) ends is = rw is (3, lit< tt, refl)
      by Memory ends is = rw is (4, lit< tt, refl)
      by _ ends is = absurd ends
  among e ends (inr (is, front, later, rose)) = let five = ap (λ v. v.status) is in rw five (2, lit< tt, refl)

  complete : (e : End) → MadeEnds n e → Written o x e r → ¬ (Rose o.faults x.faults) → Contains (calm_statuses (replay_run (made_text n))) r.status
  complete e ends (inl (is, text, kept)) calm_sink = by e ends (ap (λ v. v.status) is)
    where
      by : (e : End) → MadeEnds n e → r.status ≡ (ended_of e).status → Contains (calm_statuses (replay_run (made_text n))) r.status
      by (Made text) ends at = rw at (calm (made_text n) _ 0 ends.determined (0, lit< tt, refl))
      by (BadLine bad) ends at = rw at (calm (made_text n) _ 3 ends (0, lit< tt, refl))
      by (Full entries cost) ends at = rw at (calm (made_text n) _ 9 ends.determined (0, lit< tt, refl))
      by Memory ends at = rw at (calm_memory (replay_run (made_text n)))
      by _ ends at = absurd ends
  complete e ends (inr (is, front, later, rose)) calm_sink = absurd (calm_sink rose)

  pub making_of : (b m : SourceView) → m ≡ b → IsMadeTold n o x r → IsMaking n b m o x r
  making_of b m unread (end, ends, (told, which, written)) =
      let e = ends_told n end told ends which in record {
        unread = unread;
        made = made told e written;
        bad_line = bad_line told e written;
        write_fault = cut told e written;
        history_full = full told e written;
        out_of_memory = starved told e written;
        statuses = among told e written;
        complete = complete told e written;
      }

  pub made_later : IsMadeTold n o x r → o.faults ≤ x.faults
  made_later (end, ends, (told, which, inl (is, text, kept))) = omega (arith, kept)
  made_later (end, ends, (told, which, inr (is, front, later, rose))) = later

  pub made_among : IsMadeTold n o x r → Contains (0 ∷ 2 ∷ 3 ∷ 4 ∷ 5 ∷ 9 ∷ 11 ∷ []) r.status
  made_among (end, ends, (told, which, inl (is, text, kept))) = by told (ends_told n end told ends which) (ap (λ v. v.status) is)
    where
      by : (e : End) → MadeEnds n e → r.status ≡ (ended_of e).status → Contains (0 ∷ 2 ∷ 3 ∷ 4 ∷ 5 ∷ 9 ∷ 11 ∷ []) r.status
      by (Made text) ends is = rw is (0, lit< tt, refl)
      by (BadLine bad) ends is = rw is (2, lit< tt, refl)
      by (Full entries cost) ends is = rw is (5, lit< tt, refl)
      by Memory ends is = rw is (6, lit< tt, refl)
      by _ ends is = absurd ends
  made_among (end, ends, (told, which, inr (is, front, later, rose))) = let five = ap (λ v. v.status) is in rw five (4, lit< tt, refl)

  pub made_bad_word : IsMadeTold n o x r → r.status ≡ 2 → ⊥
  made_bad_word (end, ends, (told, which, inl (is, text, kept))) two = by told (ends_told n end told ends which) (sym (ap (λ v. v.status) is) ∙ two)
    where
      by : (e : End) → MadeEnds n e → (ended_of e).status ≡ 2 → ⊥
      by (Made text) ends two = omega (arith, two)
      by (BadLine bad) ends two = omega (arith, two)
      by (Full entries cost) ends two = omega (arith, two)
      by Memory ends two = omega (arith, two)
      by _ ends two = absurd ends
  made_bad_word (end, ends, (told, which, inr (is, front, later, rose))) two = let five = sym (ap (λ v. v.status) is) ∙ two in omega (arith, five)

-- nothing was taken from a source that wasn't used
pub took_nothing : (b : SourceView) → Took b b
took_nothing b = record { taken = ([], Consumes-nil b.left, lit≤ tt); faults = omega (arith); ends = omega (arith) }
