-- What each status of a run says.
use Rattle.std.proofs.Common.{List, None, Option, Some, [], ap, append-nil, append_assoc, arith, false, inl, inr, length, length-append, lit<, refl, subst, sym, ℕ, ◌+◌, ◌++◌, ◌≡◌, ◌∙◌, ◌≤◌}
use Rattle.std.proofs.lemmas.Option.{none-some}
use Rattle.std.specs.Io.KnownBytes.{Appends}
use Rattle.links.specs.Causes.{AppendsFront, Rose}
use Rattle.links.specs.Views.{SinkView}
use Rattle.store_model.specs.Store.{StoreView, empty_state}
use Rattle.sessions.specs.declared.conversing.SessionEnd.{SessionEnd}
use Rattle.serve_run.specs.Lines.{session_lines}
use Rattle.serve_run.specs.NetViews.{NetView}
use Rattle.serve_run.specs.ServeRuns.{HasServedOn}
use Rattle.serve_run.specs.declared.ending.ServingEnd.{ServingEnd}
use Rattle.serve_run.specs.declared.ending.ServingEnd.TheVariants.{Net, Served, WriteFault}
use Rattle.serve_run.specs.declared.ending.ServingEnd.TheVariants as serving
use Rattle.top_call.specs.declared.ending.Ended.{Ended}
use Rattle.waiting_call.specs.Endings.{TellsEnd, TellsIf, WritesEnd, wait_text, waited_by}
use Rattle.waiting_call.specs.Servings.{HasWaited}
use Rattle.waiting_call.specs.Statuses.{HasServedAsked, IsBadWaitWord, IsFullHistory, IsLinkFault, IsNextText, IsServed, IsWaitMemory, IsWaitWriteFault, IsWaitingEnd}
use Rattle.wait_words.specs.Words.{bad_wait_place, connections_in, turns_in}
use Rattle.waiting_call.specs.declared.ending.WaitEnd.TheVariants.{BadWord, Done, Full, LinkFault, Memory}
use Rattle.waiting_call.specs.declared.ending.WaitEnd.{WaitEnd}

-- text after text
appends_on : (a b d : Option (List ℕ)) (x y : List ℕ) → Appends a b x → Appends b d y → Appends a d (x ++ y)
appends_on None b d x y p q = tt
appends_on (Some l) None d x y p q = absurd p
appends_on (Some l) (Some m) None x y p q = absurd q
appends_on (Some l) (Some m) (Some n) x y p q = q ∙ ap (λ i. i ++ y) p ∙ append_assoc l x y

-- no text is never cut
never_cut : (a b : Option (List ℕ)) → AppendsFront a b [] → ⊥
never_cut a b (front, rest, cut, some, q) = omega (arith, ap length cut, length-append front rest, some)

module _ (gives : ℕ → Type 0) (words : List (List ℕ)) (a b : NetView) (o x : SinkView) (r : Ended) where
  -- by its status alone
  by_served : r.status ≡ 0 → bad_wait_place words ≡ None → IsServed gives words a b o x → IsWaitingEnd gives words a b o x r
  by_served st lawful it = record {
    served = λ _. it;
    bad_word = λ is. absurd (omega (arith, st, is));
    write_fault = λ is. absurd (omega (arith, st, is));
    link_fault = λ is. absurd (omega (arith, st, is));
    history_full = λ is. absurd (omega (arith, st, is));
    out_of_memory = λ is. absurd (omega (arith, st, is));
    statuses = rw st (0, lit< tt, refl);
    unlawful = λ place bad. absurd (none-some place (sym lawful ∙ bad));
    complete = λ good calm_net calm_sink. rw st (0, lit< tt, refl);
  }

  by_bad_word : r.status ≡ 2 → (place : ℕ) → bad_wait_place words ≡ Some place → IsBadWaitWord words a b o x r.place → IsWaitingEnd gives words a b o x r
  by_bad_word st place bad it = record {
    served = λ is. absurd (omega (arith, st, is));
    bad_word = λ _. it;
    write_fault = λ is. absurd (omega (arith, st, is));
    link_fault = λ is. absurd (omega (arith, st, is));
    history_full = λ is. absurd (omega (arith, st, is));
    out_of_memory = λ is. absurd (omega (arith, st, is));
    statuses = rw st (1, lit< tt, refl);
    unlawful = λ _ _. rw st (0, lit< tt, refl);
    complete = λ good calm_net calm_sink. absurd (none-some place (sym good ∙ bad));
  }

  by_write_fault : r.status ≡ 5 → IsWaitWriteFault gives words a b o x → IsWaitingEnd gives words a b o x r
  by_write_fault st it = record {
    served = λ is. absurd (omega (arith, st, is));
    bad_word = λ is. absurd (omega (arith, st, is));
    write_fault = λ _. it;
    link_fault = λ is. absurd (omega (arith, st, is));
    history_full = λ is. absurd (omega (arith, st, is));
    out_of_memory = λ is. absurd (omega (arith, st, is));
    statuses = rw st (2, lit< tt, refl);
    unlawful = λ _ _. rw st (1, lit< tt, refl);
    complete = λ good calm_net calm_sink. absurd (calm_sink it.1);
  }

  by_link_fault : r.status ≡ 6 → bad_wait_place words ≡ None → IsLinkFault gives words a b o x → IsWaitingEnd gives words a b o x r
  by_link_fault st lawful it = record {
    served = λ is. absurd (omega (arith, st, is));
    bad_word = λ is. absurd (omega (arith, st, is));
    write_fault = λ is. absurd (omega (arith, st, is));
    link_fault = λ _. it;
    history_full = λ is. absurd (omega (arith, st, is));
    out_of_memory = λ is. absurd (omega (arith, st, is));
    statuses = rw st (3, lit< tt, refl);
    unlawful = λ place bad. absurd (none-some place (sym lawful ∙ bad));
    complete = λ good calm_net calm_sink. absurd (calm_net it.1);
  }

  by_full : r.status ≡ 9 → bad_wait_place words ≡ None → IsFullHistory gives words a b o x → IsWaitingEnd gives words a b o x r
  by_full st lawful it = record {
    served = λ is. absurd (omega (arith, st, is));
    bad_word = λ is. absurd (omega (arith, st, is));
    write_fault = λ is. absurd (omega (arith, st, is));
    link_fault = λ is. absurd (omega (arith, st, is));
    history_full = λ _. it;
    out_of_memory = λ is. absurd (omega (arith, st, is));
    statuses = rw st (4, lit< tt, refl);
    unlawful = λ place bad. absurd (none-some place (sym lawful ∙ bad));
    complete = λ good calm_net calm_sink. rw st (1, lit< tt, refl);
  }

  by_memory : r.status ≡ 11 → IsWaitMemory gives words a b o x → IsWaitingEnd gives words a b o x r
  by_memory st it = record {
    served = λ is. absurd (omega (arith, st, is));
    bad_word = λ is. absurd (omega (arith, st, is));
    write_fault = λ is. absurd (omega (arith, st, is));
    link_fault = λ is. absurd (omega (arith, st, is));
    history_full = λ is. absurd (omega (arith, st, is));
    out_of_memory = λ _. it;
    statuses = rw st (5, lit< tt, refl);
    unlawful = λ _ _. rw st (2, lit< tt, refl);
    complete = λ good calm_net calm_sink. rw st (2, lit< tt, refl);
  }

  -- a bad word was told, or want of memory for that
  module _ (place : ℕ) (bad : bad_wait_place words ≡ Some place) (same : b ≡ a) where
    told_bad : WritesEnd o x (BadWord place) r → IsWaitingEnd gives words a b o x r
    told_bad (inl (is, text, kept)) = by_bad_word (ap (λ v. v.status) is) place bad (subst (λ (p : ℕ). IsBadWaitWord words a b o x p) (sym (ap (λ v. v.place) is)) (bad, same, text))
    told_bad (inr (is, front, later, rose)) = by_write_fault (ap (λ v. v.status) is) (later, rose, inl (place, bad, same, (BadWord place, inl refl, front)))

    told_bad_memory : WritesEnd o x Memory r → IsWaitingEnd gives words a b o x r
    told_bad_memory (inl (is, text, kept)) = by_memory (ap (λ v. v.status) is) (ap (λ v. v.faults) same, inl (place, bad, same, text))
    told_bad_memory (inr (is, front, later, rose)) = by_write_fault (ap (λ v. v.status) is) (later, rose, inl (place, bad, same, (Memory, inr (refl, λ e. cc e), front)))

    told_refused : TellsEnd (BadWord place) o x r → IsWaitingEnd gives words a b o x r
    told_refused (told, inl which, w) = told_bad (subst (λ (t : WaitEnd). WritesEnd o x t r) which w)
    told_refused (told, inr (which, other), w) = told_bad_memory (subst (λ (t : WaitEnd). WritesEnd o x t r) which w)

  module _ (lawful : bad_wait_place words ≡ None) (left : StoreView) (m : SinkView) (end : ServingEnd) (run : HasServedOn gives (turns_in words) (connections_in words) (record { state = empty_state; spent = false }) left a b o m end) where
    asked : HasServedAsked gives words a b (run.ends ++ run.untold)
    asked = record { lawful = lawful; left = left; served = run.served; few = run.few }

    asked_told : run.untold ≡ [] → HasServedAsked gives words a b run.ends
    asked_told none = subst (λ l. HasServedAsked gives words a b l) (ap (λ u. run.ends ++ u) none ∙ append-nil run.ends) asked

    -- the sink failed within the text that was to be written next
    cut_in_text : (text : List ℕ) → length run.untold ≤ 1 → IsNextText (connections_in words) a b run.ends run.untold text → Appends o.taken m.taken (session_lines 1 run.ends) → m.faults ≡ o.faults → r.status ≡ 5
        → AppendsFront m.taken x.taken text → m.faults ≤ x.faults → Rose m.faults x.faults → IsWaitingEnd gives words a b o x r
    cut_in_text text few next lines calm st front later rose = by_write_fault st (
      omega (arith, later, calm),
      subst (λ (i : ℕ). Rose i x.faults) calm rose,
      inr (run.ends, run.untold, few, asked, (m.taken, text, lines, next, front)),
    )

  lines_of : (gives2 : ℕ → Type 0) (turns wanted : ℕ) (s t : StoreView) (m : SinkView) (end : ServingEnd) (run : HasServedOn gives2 turns wanted s t a b o m end) → m ≡ run.between → Appends o.taken m.taken (session_lines 1 run.ends) × (m.faults ≡ o.faults)
  lines_of gives2 turns wanted s t m end run same = (subst (λ (v : SinkView). Appends o.taken v.taken (session_lines 1 run.ends)) (sym same) run.told, ap (λ v. v.faults) same ∙ run.calm)

  none_few : (untold : List SessionEnd) → untold ≡ [] → length untold ≤ 1
  none_few untold none = omega (arith, ap length none)

  module _ (lawful : bad_wait_place words ≡ None) (left : StoreView) (m : SinkView) where
    -- the runs of serving by their end
    abbrev Runs : ServingEnd → Type 0
    Runs end = HasServedOn gives (turns_in words) (connections_in words) (record { state = empty_state; spent = false }) left a b o m end

    all_told : (run : Runs Served) → WritesEnd m x Done r → IsWaitingEnd gives words a b o x r
    all_told run (inl (is, text, kept)) =
        let (lines, calm) = lines_of gives _ _ _ left m Served run run.cut in
        by_served (ap (λ v. v.status) is) lawful (
          run.ends,
          asked_told lawful left m Served run run.cause.all_told,
          run.cause.count,
          sym run.cause.ends_so,
          run.cause.no_fault,
          subst (λ l. Appends o.taken x.taken l) (append-nil (session_lines 1 run.ends)) (appends_on o.taken m.taken x.taken (session_lines 1 run.ends) [] lines text),
        )
    all_told run (inr (is, front, later, rose)) = absurd (never_cut m.taken x.taken front)

    full_told : (entries bytes : ℕ) (run : Runs (serving.Full entries bytes)) → WritesEnd m x (Full entries bytes) r → IsWaitingEnd gives words a b o x r
    full_told entries bytes run (inl (is, text, kept)) =
        let (lines, calm) = lines_of gives _ _ _ left m _ run run.cut in
        by_full (ap (λ v. v.status) is) lawful (
          run.ends,
          entries,
          bytes,
          asked_told lawful left m _ run run.cause.all_told,
          run.cause.count,
          sym run.cause.ends_so,
          run.cause.no_fault,
          appends_on o.taken m.taken x.taken (session_lines 1 run.ends) (wait_text (Full entries bytes)) lines text,
        )
    full_told entries bytes run (inr (is, front, later, rose)) =
        let (lines, calm) = lines_of gives _ _ _ left m _ run run.cut in
        cut_in_text lawful left m _ run (wait_text (Full entries bytes)) (none_few run.untold run.cause.all_told)
        (inr (inr (inl (entries, bytes, refl, run.cause.all_told, run.cause.count, sym run.cause.ends_so, run.cause.no_fault)))) lines calm (ap (λ v. v.status) is) front later rose

    -- want of memory was told
    memory_so : (end : ServingEnd) (run : Runs end) → length run.untold ≤ 1 → b.faults ≡ a.faults → m ≡ run.between → WritesEnd m x Memory r → IsWaitingEnd gives words a b o x r
    memory_so end run few no_fault same (inl (is, text, kept)) =
        let (lines, calm) = lines_of gives _ _ _ left m end run same in
        by_memory (ap (λ v. v.status) is) (
          no_fault,
          inr (run.ends, run.untold, few, asked lawful left m end run, appends_on o.taken m.taken x.taken (session_lines 1 run.ends) (wait_text Memory) lines text),
        )
    memory_so end run few no_fault same (inr (is, front, later, rose)) =
        let (lines, calm) = lines_of gives _ _ _ left m end run same in
        cut_in_text lawful left m end run (wait_text Memory) few (inr (inr (inr (refl, no_fault)))) lines calm (ap (λ v. v.status) is) front later rose

    link_told : (run : Runs Net) → WritesEnd m x LinkFault r → IsWaitingEnd gives words a b o x r
    link_told run (inl (is, text, kept)) =
        let (lines, calm) = lines_of gives _ _ _ left m Net run run.cut in
        let ((none, later, rose), more) = run.cause in
        by_link_fault (ap (λ v. v.status) is) lawful (
          later,
          rose,
          (run.ends, asked_told lawful left m Net run none, appends_on o.taken m.taken x.taken (session_lines 1 run.ends) (wait_text LinkFault) lines text),
        )
    link_told run (inr (is, front, later, rose)) =
        let (lines, calm) = lines_of gives _ _ _ left m Net run run.cut in
        let ((none, net_later, net_rose), more) = run.cause in
        cut_in_text lawful left m Net run (wait_text LinkFault) (none_few run.untold none) (inr (inl (refl, none, net_later, net_rose))) lines calm (ap (λ v. v.status) is) front later rose

    -- the sink failed within a session's line
    cut_in_line : (run : Runs WriteFault) → r ≡ record { status = 5; place = 0; left = 0 } → x ≡ m → IsWaitingEnd gives words a b o x r
    cut_in_line run is same =
        let (front, later, rose) = run.cut in
        by_write_fault (ap (λ v. v.status) is) (
          subst (λ (v : SinkView). o.faults ≤ v.faults) (sym same) (omega (arith, later, run.calm)),
          subst (λ (v : SinkView). Rose o.faults v.faults) (sym same) (subst (λ (i : ℕ). Rose i m.faults) run.calm rose),
          inr (
            run.ends,
            run.untold,
            omega (arith, run.cause.0.0),
            asked lawful left m WriteFault run,
            (
              run.between.taken,
              session_lines (length run.ends + 1) run.untold,
              run.told,
              inl (refl, run.cause.0.0, run.cause.0.1),
              subst (λ (v : SinkView). AppendsFront run.between.taken v.taken (session_lines (length run.ends + 1) run.untold)) (sym same) front,
            ),
          ),
        )

    told_run : (end : ServingEnd) → Runs end → TellsIf (waited_by end) m x r → IsWaitingEnd gives words a b o x r
    told_run Served run (told, inl which, w) = all_told run (subst (λ (t : WaitEnd). WritesEnd m x t r) which w)
    told_run Served run (told, inr (which, other), w) = memory_so Served run (none_few run.untold run.cause.all_told) run.cause.no_fault run.cut (subst (λ (t : WaitEnd). WritesEnd m x t r) which w)
    told_run (serving.Full entries bytes) run (told, inl which, w) = full_told entries bytes run (subst (λ (t : WaitEnd). WritesEnd m x t r) which w)
    told_run (serving.Full entries bytes) run (told, inr (which, other), w) =
        memory_so (serving.Full entries bytes) run (none_few run.untold run.cause.all_told) run.cause.no_fault run.cut (subst (λ (t : WaitEnd). WritesEnd m x t r) which w)
    told_run Net run (told, inl which, w) = link_told run (subst (λ (t : WaitEnd). WritesEnd m x t r) which w)
    told_run Net run (told, inr (which, other), w) = absurd (other refl)
    told_run WriteFault run (is, same) = cut_in_line run is same
    told_run serving.Memory run (told, inl which, w) = memory_so serving.Memory run run.cause.0.0 run.cause.0.1 run.cut (subst (λ (t : WaitEnd). WritesEnd m x t r) which w)
    told_run serving.Memory run (told, inr (which, other), w) = memory_so serving.Memory run run.cause.0.0 run.cause.0.1 run.cut (subst (λ (t : WaitEnd). WritesEnd m x t r) which w)

  -- what each status says of a run
  pub waiting_end : HasWaited gives words a b o x r → IsWaitingEnd gives words a b o x r
  waiting_end (inl (place, bad, same, tells)) = told_refused place bad same tells
  waiting_end (inr (lawful, (end, shown, (left, run), tells))) = told_run lawful left shown end run tells

-- what is told of how serving ended
pub told_some : (o x : SinkView) (r : Ended) (w : Option WaitEnd) (end : WaitEnd) → w ≡ Some end → TellsEnd end o x r → TellsIf w o x r
told_some o x r w end is tells = subst (λ (v : Option WaitEnd). TellsIf v o x r) (sym is) tells

pub told_none : (o : SinkView) (w : Option WaitEnd) → w ≡ None → TellsIf w o o (record { status = 5; place = 0; left = 0 })
told_none o w is = subst (λ (v : Option WaitEnd). TellsIf v o o (record { status = 5; place = 0; left = 0 })) (sym is) (refl, refl)
