-- Entries, sent one after the other. Serves the proofs of code.
use Rattle.std.proofs.Common.{◌≡◌, ◌+◌, drop, drop-cons, add-one, ◌⊎◌, ◌<◌, ◌≤◌, ◌++◌, ◌∷◌, [], ◌∙◌, ℕ, Bool, List, length, Option, Some, None, Result, Ok, Err, ap, sym, subst, refl, inl, inr, arith, append_assoc}
use Rattle.std.specs.Prelude.{slice_get, slice_index_or}
use Rattle.links.specs.Causes.{Rose}
use Rattle.serde_json.specs.Data.{Data}
use Rattle.serde_json.specs.Written.{compact_text}
use Rattle.delivery_tags.specs.declared.tag.Tag.{Tag}
use Rattle.envelope_trees.specs.declared.fault.EnvelopeFault.{EnvelopeFault}
use Rattle.queue_keys.specs.declared.queue_name.NameFault.{NameFault}
use Rattle.sealed_drafts.specs.Sealed.{seal_of}
use Rattle.sealed_drafts.specs.declared.sealing.Draft.{Draft}
use Rattle.command_blocks.specs.EnvelopeTexts.{plain_setting}
use Rattle.command_blocks.specs.Scripts.{Publish, Script}
use Rattle.block_laws.proofs.PlanRows.{plan_row}
use Rattle.desks.specs.Deeds.{Deed}
use Rattle.desks.specs.Faults.{IsFaultOf}
use Rattle.desks.specs.declared.desk.DeskFault.{DeskFault}
use Rattle.desks.specs.declared.desk.DeskFault.TheVariants as desk_
use Rattle.steps.specs.Begins.{drafted_errand, if_named, sealed_errand, way_name_fault}
use Rattle.steps.specs.Clients.{next_tag_of}
use Rattle.steps.specs.declared.counts.ClientCounts.{ClientCounts}
use Rattle.steps.specs.Errands.{Errand}
use Rattle.steps.specs.Trips.{trip_calls}
use Rattle.steps.specs.declared.begun.BeginFault.{BeginFault}
use Rattle.steps.specs.declared.begun.BeginFault.TheVariants as begin_
use Rattle.steps.specs.declared.ended.BlockEnd.{BlockEnd}
use Rattle.block_runs.specs.Runs.{HasRunBlock, trip_deeds}
use Rattle.block_runs.specs.declared.fault.BlockFault.{BlockFault}
use Rattle.block_runs.specs.declared.fault.BlockFault.TheVariants as halt
use Rattle.beat_files.specs.Readings.{AreBelow}
use Rattle.beat_files.specs.declared.entry.BeatTask.{BeatTask}
use Rattle.beat_round.specs.Ends.{stop_end}
use Rattle.beat_times.specs.Due.{AreDue}
use Rattle.beat_files.specs.Readings.{tasks_in, times_in}
use Rattle.beat_files.specs.declared.schedule.Schedule.{Schedule}
use Rattle.beat_round.specs.Rounds.{AreSent, HasEnded, HasMadeRound, HasNotSent, IsDeskCause, IsEntryDraft, IsFault, WasSent}
use Rattle.beat_round.specs.declared.ended.BeatEnd.{BeatEnd}
use Rattle.beat_round.specs.declared.ended.BeatEnd.TheVariants as ended_

-- ---- one entry

module _ {D T : Type 0} (goes : D → List Deed → D → Type 0) (fault : D → Option DeskFault) (stopped : D → Bool) (client : T → ClientCounts) (left : T → Script) (gives : ℕ → Type 0)
    (desk desk2 : D) (steps steps2 : T) (t : BeatTask) (n : ℕ) (draft : Draft) (next : next_tag_of (client steps) ≡ Some n) (drafted : IsEntryDraft t n draft) where
  abbrev Ran : Result Errand BeginFault → Result BlockEnd BlockFault → Type 0
  Ran e r = HasRunBlock goes fault stopped client left gives desk desk2 steps steps2 e r

  -- its block was run to its end
  pub sent_whole : (end : BlockEnd) → HasRunBlock goes fault stopped client left gives desk desk2 steps steps2 (drafted_errand draft (next_tag_of (client steps))) (Ok end) → WasSent goes gives (client steps) (client steps2) desk desk2 t n
  sent_whole end h = go (way_name_fault draft.exchange draft.routing_key) (seal_of draft n) refl (subst (λ o. Ran (drafted_errand draft o) (Ok end)) next h) where
    go : (w : Option NameFault) (s : Result Data EnvelopeFault) → seal_of draft n ≡ s → Ran (if_named w (sealed_errand s)) (Ok end) → WasSent goes gives (client steps) (client steps2) desk desk2 t n
    go (Some f) s e r = absurd r
    go None (Err f) e r = absurd r
    go None (Ok d) e r = record {
      next = next;
      draft = draft;
      drafted = drafted;
      tree = d;
      sealed_so = e;
      trips = r.trips;
      went = r.said.went;
      block = (plan_row plain_setting (client steps).seed (client steps).drawn (client steps).passes (Publish (compact_text d)) r.come.0).told (trip_calls r.trips) r.said.trace.timely r.said.trace.said (sym r.said.trace.left ∙ r.come.4);
      given = r.said.given;
      counted = r.come.2;
    }

  -- it wasn't
  pub sent_stops : (f : BlockFault) → HasRunBlock goes fault stopped client left gives desk desk2 steps steps2 (drafted_errand draft (next_tag_of (client steps))) (Err f) → HasNotSent goes fault stopped client left gives desk desk2 steps steps2 t (stop_end f)
  sent_stops f h = go f (way_name_fault draft.exchange draft.routing_key) (seal_of draft n) refl refl (subst (λ o. Ran (drafted_errand draft o) (Err f)) next h) where
    go : (f : BlockFault) (w : Option NameFault) (s : Result Data EnvelopeFault) → way_name_fault draft.exchange draft.routing_key ≡ w → seal_of draft n ≡ s → Ran (if_named w (sealed_errand s)) (Err f) → HasNotSent goes fault stopped client left gives desk desk2 steps steps2 t (stop_end f)
    go (halt.Begin g) (Some x) s ew es r = ((n, next, inr (draft, drafted, begin_.Name x, (λ i. if_named (ew i) (sealed_errand (es i))))), r.1, r.2)
    go (halt.Begin g) None (Err x) ew es r = ((n, next, inr (draft, drafted, begin_.Draft x, (λ i. if_named (ew i) (sealed_errand (es i))))), r.1, r.2)
    go (halt.Begin g) None (Ok d) ew es r = absurd r.come
    go (halt.Desk g) (Some x) s ew es r = absurd r
    go (halt.Desk g) None (Err x) ew es r = absurd r
    go (halt.Desk g) None (Ok d) ew es r = record { n = n; next = next; draft = draft; drafted = drafted; tree = d; sealed_so = es; run = r }
    go (halt.Refused g) (Some x) s ew es r = absurd r
    go (halt.Refused g) None (Err x) ew es r = absurd r
    go (halt.Refused g) None (Ok d) ew es r = record { n = n; next = next; draft = draft; drafted = drafted; tree = d; sealed_so = es; run = r }
    go halt.Memory w s ew es r = tt

-- ---- entries

module _ {D : Type 0} (goes : D → List Deed → D → Type 0) (stays : (s : D) → goes s [] s) (joins : (s t u : D) (l m : List Deed) → goes s l t → goes t m u → goes s (l ++ m) u) (gives : ℕ → Type 0) (tasks : List BeatTask) where
  -- none yet
  pub sent_none : (c : ClientCounts) (d : D) → AreSent goes gives tasks c c d d [] []
  sent_none c d = (refl, refl, stays d)

  -- one more
  pub sent_more : (is : List ℕ) (c c1 c2 : ClientCounts) (d d1 d2 : D) (sent : List (ℕ × Tag)) (i : ℕ) (t : BeatTask) (tag : Tag) → AreSent goes gives tasks c c1 d d1 is sent → slice_get tasks i ≡ Some t → WasSent goes gives c1 c2 d1 d2 t tag.0
      → AreSent goes gives tasks c c2 d d2 (is ++ i ∷ []) (sent ++ (i, tag) ∷ [])
  sent_more [] c c1 c2 d d1 d2 sent i t tag h at w =
      let moved : WasSent goes gives c1 c2 d d2 t tag.0 = record { next = w.next; draft = w.draft; drafted = w.drafted; tree = w.tree; sealed_so = w.sealed_so; trips = w.trips; went = joins d d1 d2 [] (trip_deeds w.trips) h.2 w.went; block = w.block; given = w.given; counted = w.counted } in
      (t, tag, [], d2, c2, at, ap (λ l. l ++ (i, tag) ∷ []) h.0, subst (λ x. WasSent goes gives x c2 d d2 t tag.0) h.1 moved, (refl, refl, stays d2))
  sent_more (j ∷ js) c c1 c2 d d1 d2 sent i t tag h at w =
      (h.0, h.1, h.2 ++ (i, tag) ∷ [], h.3, h.4, h.5, ap (λ l. l ++ (i, tag) ∷ []) h.6, h.7, sent_more js h.4 c1 c2 h.3 d1 d2 h.2 i t tag h.8 at w)

-- the index that comes after these is one of so many
pub below_next : (count : ℕ) (before : List ℕ) (i : ℕ) (after indices : List ℕ) → indices ≡ before ++ i ∷ after → AreBelow count indices → i < count
below_next count before i after indices is h = go before (subst (AreBelow count) is h) where
  go : (b : List ℕ) → AreBelow count (b ++ i ∷ after) → i < count
  go [] k = k.0
  go (x ∷ xs) k = go xs k.1

left_is : (k : ℕ) (xs : List ℕ) → k < length xs → drop k xs ≡ slice_index_or xs k 0 ∷ drop (k + 1) xs
left_is k xs h = rw (add-one, drop-cons xs k 0) refl

-- indices, parted at one of them
pub parted : (indices before : List ℕ) (k : ℕ) → k < length indices → indices ≡ before ++ drop k indices → indices ≡ before ++ slice_index_or indices k 0 ∷ drop (k + 1) indices
parted indices before k h e = e ∙ ap (λ l. before ++ l) (left_is k indices h)

-- and with that one before the others
pub passed : (indices before after : List ℕ) (i : ℕ) → indices ≡ before ++ i ∷ after → indices ≡ (before ++ i ∷ []) ++ after
passed indices before after i e = e ∙ sym (append_assoc before (i ∷ []) after)

-- ---- the ends of calls

module _ {D T : Type 0} (goes : D → List Deed → D → Type 0) (fault : D → Option DeskFault) (stopped : D → Bool) (client : T → ClientCounts) (left : T → Script) (gives : ℕ → Type 0) (desk desk2 : D) (steps steps2 : T) where
  -- an entry wasn't sent
  pub stopped_at : (tasks : List BeatTask) (indices before : List ℕ) (index : ℕ) (after : List ℕ) (sent : List (ℕ × Tag)) (mid : D) (midst : T) (t : BeatTask) (end : BeatEnd) → indices ≡ before ++ index ∷ after → AreSent goes gives tasks (client steps) (client midst) desk mid before sent
      → slice_get tasks index ≡ Some t → HasNotSent goes fault stopped client left gives mid desk2 midst steps2 t end → IsFault end × HasEnded goes fault stopped client left gives tasks desk desk2 steps steps2 indices end
  stopped_at tasks indices before index after sent mid midst t (ended_.Sent l) is were at h = absurd h
  stopped_at tasks indices before index after sent mid midst t (ended_.Desk f) is were at h = (tt, record { before = before; index = index; after = after; indices_are = is; sent = sent; mid = mid; midst = midst; were_sent = were; task = t; task_is = at; not_sent = h })
  stopped_at tasks indices before index after sent mid midst t (ended_.Refused r) is were at h = (tt, record { before = before; index = index; after = after; indices_are = is; sent = sent; mid = mid; midst = midst; were_sent = were; task = t; task_is = at; not_sent = h })
  stopped_at tasks indices before index after sent mid midst t ended_.NoTag is were at h = (tt, record { before = before; index = index; after = after; indices_are = is; sent = sent; mid = mid; midst = midst; were_sent = were; task = t; task_is = at; not_sent = h })
  stopped_at tasks indices before index after sent mid midst t ended_.Unsealed is were at h = (tt, record { before = before; index = index; after = after; indices_are = is; sent = sent; mid = mid; midst = midst; were_sent = were; task = t; task_is = at; not_sent = h })
  stopped_at tasks indices before index after sent mid midst t ended_.Memory is were at h = (tt, tt)

  -- a round stopped
  pub round_stops : (now : ℕ) (schedule : Schedule) (indices : List ℕ) (end : BeatEnd) → AreDue now 0 (times_in schedule) indices → IsFault end × HasEnded goes fault stopped client left gives (tasks_in schedule) desk desk2 steps steps2 indices end
      → HasMadeRound goes fault stopped client left gives desk desk2 steps steps2 now schedule schedule end
  round_stops now schedule indices (ended_.Sent l) d h = absurd h.0
  round_stops now schedule indices (ended_.Desk f) d h = record { indices = indices; due = d; came = h.1; ticked = refl }
  round_stops now schedule indices (ended_.Refused r) d h = record { indices = indices; due = d; came = h.1; ticked = refl }
  round_stops now schedule indices ended_.NoTag d h = record { indices = indices; due = d; came = h.1; ticked = refl }
  round_stops now schedule indices ended_.Unsealed d h = record { indices = indices; due = d; came = h.1; ticked = refl }
  round_stops now schedule indices ended_.Memory d h = refl

-- ---- causes

rose_before : (a b c : ℕ) → a ≤ b → Rose b c → Rose a c
rose_before a b c l r = omega (arith, l, r)

-- counts before are lower
pub earlier_cause : (remote shared : Bool) (a b c d e f : ℕ) (end : BeatEnd) → a ≤ b → d ≤ e → IsDeskCause remote shared b c e f end → IsDeskCause remote shared a c d f end
earlier_cause remote shared a b c d e f (ended_.Sent x) l m k = tt
earlier_cause remote shared a b c d e f (ended_.Refused x) l m k = tt
earlier_cause remote shared a b c d e f ended_.NoTag l m k = tt
earlier_cause remote shared a b c d e f ended_.Unsealed l m k = tt
earlier_cause remote shared a b c d e f ended_.Memory l m k = tt
earlier_cause remote shared a b c d e f (ended_.Desk g) l m k = (by g k.0, k.1) where
  rose : Rose b c ⊎ Rose e f → Rose a c ⊎ Rose d f
  rose (inl x) = inl (rose_before a b c l x)
  rose (inr x) = inr (rose_before d e f m x)

  by : (g : DeskFault) → IsFaultOf remote shared b c e f g → IsFaultOf remote shared a c d f g
  by desk_.Link k = (k.0, rose k.1)
  by (desk_.Wire x y) k = k
  by desk_.Flood k = k
  by (desk_.Full x y) k = k
  by desk_.Closed k = k
  by desk_.Ended k = tt
  by desk_.Memory k = tt
