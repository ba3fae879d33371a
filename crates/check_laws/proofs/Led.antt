-- A record that is judged lawful: its lines are those of its history, which keeps what rows keep.
use Rattle.std.proofs.Common.{◌≡◌, inl, inr, ℕ, ◌+◌, ◌<◌, ◌≤◌, List, [], ◌∷◌, ◌++◌, Bool, true, false, None, Some, Option, refl, sym, ap, subst, ◌∙◌, append_assoc, arith, length, map, take}
use Rattle.std.proofs.lemmas.Bool.Decides.{nat_tests}
use Rattle.std.proofs.lemmas.List.{append-nil}
use Rattle.std.specs.Prelude.{bytes_eq, nat_lt, if◌then◌else◌}
use Rattle.std.specs.FinMap.{entries}
use Rattle.store_model.specs.Limits.{moment_limit}
use Rattle.line_text.specs.Lines.{lines_of, text_fault}
use Rattle.line_text.specs.declared.reason.Reason.{Reason}
use Rattle.line_text.specs.declared.reason.Reason.TheVariants.{Header}
use Rattle.queue_keys.specs.Names.{Bytes}
use Rattle.place_model.specs.Histories.{AnswersRight, History, after, and_then, calls_of}
use Rattle.place_model.specs.Starts.{IsSound}
use Rattle.place_model.specs.declared.heard.Heard.{Heard as Note}
use Rattle.place_model.specs.declared.history.Entry.{Entry}
use Rattle.place_model.specs.declared.history.Entry.TheVariants.{Call as Called, Heard, Stop}
use Rattle.manner_laws.specs.Cursor.{Cursor, Unmannered}
use Rattle.manner_laws.proofs.Judged.{cursor_mannered}
use Rattle.manner_laws.proofs.Tests.{bytes_true}
use Rattle.schedule_laws.proofs.Sounds.{empty_start}
use Rattle.schedule_model.specs.Faults.{first_reason}
use Rattle.schedule_model.specs.Schedules.{max_input}
use Rattle.history_records.specs.Lines.{client_line, entry_line, header}
use Rattle.history_records.specs.Recordable.{Each, IsClient, IsEvent, IsRecordable}
use Rattle.history_records.specs.Records.{ended, record_text, seed_map}
use Rattle.history_records.specs.declared.row.Row.{Row}
use Rattle.history_records.specs.declared.row.Row.TheVariants as rows
use Rattle.record_model.specs.Said.{Says}
use Rattle.record_model.specs.Steps.{Manner, RowStep, Grown, Crowded, Faulted, EventLeads, Fails_test, Lacks_room, Is_illegal, Lacks_manner, Comes_next, RowLeads, client_tests, event_tests, first_history, grown_unless, is_late, is_out_of_manner, is_unmannered}
use Rattle.record_model.specs.Judged.{AfterHeader, CarriesOn, HeaderJudged, IsAllRead, IsJudged, Lawful, LastLeads, LineLeads, By_row, LinesJudged, header_fault, max_row, top_fault}
use Rattle.check_laws.specs.Checked.{LawfulAreRecords, LawfulAreSound, IsRecordOf}
use Rattle.check_laws.proofs.Rows.{IsEarlyRow, line_of_row}
use Rattle.check_laws.proofs.Kept.{Holds, client_holds, event_holds, event_passes, first_holds, hist}
use Rattle.check_laws.proofs.Texts.{IsTextOf, all_taken, risen, text_of_lines}

-- the history to which lines lead, and what its rows kept
pub record Reached (μ : Manner) (told : List Bytes) (g : History Note) : Type 0 where
  pub clients : List (ℕ × ℕ)
  pub events : List (Entry Note)
  pub is : g ≡ hist clients events
  pub holds : Holds μ clients events
  pub lines : told ≡ map client_line clients ++ map entry_line events
  pub typed_clients : Each IsClient clients
  pub typed_events : Each IsEvent events

each_more : {A : Type 0} (P : A → Type 0) (xs : List A) (x : A) → Each P xs → P x → Each P (xs ++ x ∷ [])
each_more P [] x h p = (p, tt)
each_more P (y ∷ ys) x h p = (h.0, each_more P ys x h.1 p)

map_more : {A B : Type 0} (f : A → B) (xs : List A) (x : A) → map f (xs ++ x ∷ []) ≡ map f xs ++ f x ∷ []
map_more f [] x = refl
map_more f (y ∷ ys) x = ap (λ l. f y ∷ l) (map_more f ys x)

grown : (g h : History Note) → Grown g ≡ Grown h → g ≡ h
grown g h e = ap (history_or g) e where
  history_or : History Note → RowStep → History Note
  history_or d (Grown k) = k
  history_or d (Crowded k) = d
  history_or d (Faulted r) = d

no_grown : {A : Type 0} (g : History Note) (r : Reason) → Grown g ≡ Faulted r → A
no_grown g r e = absurd (cc)

-- an entry that comes next
record Came (μ : Manner) (h : History Note) (e : Entry Note) (g : History Note) : Type 0 where
  is : g ≡ and_then h (e ∷ [])
  tested : first_reason (event_tests h e) ≡ None
  right : AnswersRight (after h) e
  manner : is_unmannered μ h e ≡ false

came : (μ : Manner) (h : History Note) (e : Entry Note) (step : RowStep) (g : History Note) → EventLeads μ h e step → Grown g ≡ step → Came μ h e g
came μ h e _ g (Fails_test r f) s = no_grown g r s
came μ h e _ g (Lacks_room f full) s = absurd (cc)
came μ h e _ g (Is_illegal f room wrong) s = no_grown g _ s
came μ h e _ g (Lacks_manner f room right manner) s = no_grown g _ s
came μ h e _ g (Comes_next f room right manner) s = record { is = grown g _ s; tested = f; right = right; manner = manner }

module _ (μ : Manner) (cs : List (ℕ × ℕ)) (es : List (Entry Note)) (h : Holds μ cs es) (told : List Bytes) (lines : told ≡ map client_line cs ++ map entry_line es) (typed_cs : Each IsClient cs) (typed_es : Each IsEvent es) (line : Bytes) (g : History Note) where
  client_reached : (c s : ℕ) → Says line (rows.Client c s) → Grown g ≡ grown_unless (hist (cs ++ (c, s) ∷ []) es) (first_reason (client_tests (hist cs es) c s)) → Reached μ (told ++ line ∷ []) g
  client_reached c s says e = by (first_reason (client_tests (hist cs es) c s)) refl e where
    by : (o : Option Reason) → first_reason (client_tests (hist cs es) c s) ≡ o → Grown g ≡ grown_unless (hist (cs ++ (c, s) ∷ []) es) o → Reached μ (told ++ line ∷ []) g
    by (Some r) f e = no_grown g r e
    by None f e =
        let k = client_holds μ cs es c s h f in
        record {
          clients = cs ++ (c, s) ∷ [];
          events = [];
          is = grown g _ e ∙ ap (hist (cs ++ (c, s) ∷ [])) k.0;
          holds = k.1;
          lines =
              ap (λ t. t ++ line ∷ []) (lines ∙ ap (λ x. map client_line cs ++ map entry_line x) k.0 ∙ append-nil (map client_line cs))
              ∙ ap (λ l. map client_line cs ++ l ∷ []) (line_of_row line (rows.Client c s) says tt)
              ∙ sym (map_more client_line cs (c, s)) ∙ sym (append-nil (map client_line (cs ++ (c, s) ∷ [])));
          typed_clients = each_more IsClient cs (c, s) typed_cs says.typed;
          typed_events = tt;
        }

  is_early : (e : Entry Note) → is_late e ≡ false → IsEarlyRow (rows.Event e)
  is_early (Called c at words reply) f = let early : at < moment_limit = grind (arith, nat_tests, f) in early
  is_early (Heard c note) f = tt
  is_early (Stop c) f = tt

  event_reached : (e : Entry Note) → Says line (rows.Event e) → EventLeads μ (hist cs es) e (Grown g) → Reached μ (told ++ line ∷ []) g
  event_reached e says leads =
      let c = came μ (hist cs es) e (Grown g) g leads refl in
      let early = is_early e (event_passes cs es e c.tested).2 in
      record {
        clients = cs;
        events = es ++ e ∷ [];
        is = c.is;
        holds = event_holds μ cs es e h c.tested c.right c.manner;
        lines =
            ap (λ t. t ++ line ∷ []) lines ∙ append_assoc (map client_line cs) (map entry_line es) (line ∷ [])
            ∙ ap (λ l. map client_line cs ++ (map entry_line es ++ l ∷ [])) (line_of_row line (rows.Event e) says early)
            ∙ ap (λ l. map client_line cs ++ l) (sym (map_more entry_line es e));
        typed_clients = typed_cs;
        typed_events = each_more IsEvent es e typed_es says.typed;
      }

  row_reached : (row : Row) → Says line row → RowLeads μ (hist cs es) row (Grown g) → Reached μ (told ++ line ∷ []) g
  row_reached (rows.Client c s) says leads = client_reached c s says leads
  row_reached (rows.Event e) says leads = event_reached e says leads

  pub reached : LineLeads μ (hist cs es) line (Grown g) → Reached μ (told ++ line ∷ []) g
  reached (By_row row _ f says leads) = row_reached row says leads

-- the input doesn't go on past its limit, where lines are left
abbrev IsUncut : Bool → List Bytes → Type 0
IsUncut cut [] = Unit {0}
IsUncut cut (l ∷ ls) = cut ≡ false

lawful_is : (g h : History Note) → Lawful g ≡ Lawful h → g ≡ h
lawful_is g h e = cc

lines_reached : (μ : Manner) (cut : Bool) (n : ℕ) (told : List Bytes) (h : History Note) (ls : List Bytes) (g : History Note) → Reached μ told h → LinesJudged μ cut n h ls (Lawful g) → Reached μ (told ++ ls) g × IsUncut cut ls
lines_reached μ cut n told h [] g r j = (subst (λ t. Reached μ t g) (sym (append-nil told)) (subst (Reached μ told) (sym (lawful_is g h j)) r), tt)
lines_reached μ cut n told h (l ∷ []) g r j = by cut j.0 j.1 j.2 where
  by : (c : Bool) (step : RowStep) → LastLeads μ c h l step → CarriesOn IsAllRead n step (Lawful g) → Reached μ (told ++ l ∷ []) g × (c ≡ false)
  by true (Grown k) a b = no_grown k _ a
  by true (Crowded k) a b = absurd (cc)
  by true (Faulted s) a b = absurd (cc)
  by false (Grown k) a b =
      let a' = subst (λ x. LineLeads μ x l (Grown k)) r.is a in
      let k' = reached μ r.clients r.events r.holds told r.lines r.typed_clients r.typed_events l k a' in
      (subst (Reached μ (told ++ l ∷ [])) (sym (lawful_is g k b)) k', refl)
  by false (Crowded k) a b = absurd (cc)
  by false (Faulted s) a b = absurd (cc)
lines_reached μ cut n told h (l ∷ m ∷ ls) g r j = by j.0 j.1 j.2 (λ k k' b. lines_reached μ cut (n + 1) (told ++ l ∷ []) k (m ∷ ls) g k' b) where
  by : (step : RowStep) → LineLeads μ h l step → CarriesOn (λ x i. LinesJudged μ cut (n + 1) x (m ∷ ls) i) n step (Lawful g)
      → ((k : History Note) → Reached μ (told ++ l ∷ []) k → LinesJudged μ cut (n + 1) k (m ∷ ls) (Lawful g) → Reached μ ((told ++ l ∷ []) ++ m ∷ ls) g × (cut ≡ false)) → Reached μ (told ++ l ∷ m ∷ ls) g × (cut ≡ false)
  by (Grown k) a b on =
      let a' = subst (λ x. LineLeads μ x l (Grown k)) r.is a in
      let k' = reached μ r.clients r.events r.holds told r.lines r.typed_clients r.typed_events l k a' in
      let later = on k k' b in
      (subst (λ t. Reached μ t g) (append_assoc told (l ∷ []) (m ∷ ls)) later.0, later.1)
  by (Crowded k) a b on = absurd (cc)
  by (Faulted s) a b on = absurd (cc)

-- ---- a record

first_reached : (μ : Manner) → Reached μ [] first_history
first_reached μ = record { clients = []; events = []; is = refl; holds = first_holds μ; lines = refl; typed_clients = tt; typed_events = tt }

-- a header without a fault
header_is : (l : Bytes) (o : Option Reason) → header_fault l o ≡ None → l ≡ header
header_is l (Some r) e = absurd (cc)
header_is l None e = by (bytes_eq l header) refl e where
  by : (b : Bool) → bytes_eq l header ≡ b → (if b then None else Some Header) ≡ None → l ≡ header
  by true f g = bytes_true l header f
  by false f g = absurd (cc)

top_is : (cut : Bool) (l : Bytes) (ls : List Bytes) → top_fault cut l ls ≡ None → (l ≡ header) × (IsUncut cut ls → cut ≡ false)
top_is true l [] e = absurd (cc)
top_is false l [] e = (header_is l (text_fault max_row l) e, λ _. refl)
top_is cut l (m ∷ ls) e = (header_is l (text_fault max_row l) e, λ u. u)

-- the lines are the header and those of a history that keeps what rows keep
record IsLedTo (μ : Manner) (cut : Bool) (ls : List Bytes) (h : History Note) : Type 0 where
  uncut : cut ≡ false
  told : List Bytes
  lines : ls ≡ header ∷ told
  reached : Reached μ told h

header_led : (μ : Manner) (cut : Bool) (ls : List Bytes) (h : History Note) → HeaderJudged μ cut ls (Lawful h) → IsLedTo μ cut ls h
header_led μ cut [] h j = absurd (cc)
header_led μ cut (l ∷ ls) h j = by (top_fault cut l ls) refl j where
  by : (o : Option Reason) → top_fault cut l ls ≡ o → AfterHeader μ cut ls o (Lawful h) → IsLedTo μ cut (l ∷ ls) h
  by (Some r) e a = absurd (cc)
  by None e a =
      let top = top_is cut l ls e in
      let r = lines_reached μ cut 2 [] first_history ls h (first_reached μ) a in
      record { uncut = top.1 r.1; told = ls; lines = ap (λ x. x ∷ ls) top.0; reached = r.0 }

led_to : (μ : Manner) (bytes : Bytes) (h : History Note) → IsJudged μ bytes (Lawful h) → IsLedTo μ (nat_lt max_input (length bytes)) (lines_of (take (max_input + 1) bytes)) h
led_to μ bytes h j = header_led μ (nat_lt max_input (length bytes)) (lines_of (take (max_input + 1) bytes)) h j

pub records : LawfulAreRecords
records μ bytes h j = (text, ok) where
  l : IsLedTo μ (nat_lt max_input (length bytes)) (lines_of (take (max_input + 1) bytes)) h
  l = led_to μ bytes h j

  r : Reached μ l.told h
  r = l.reached

  short : length bytes ≤ max_input
  short = let e = l.uncut in grind (arith, nat_tests, e)

  whole : take (max_input + 1) bytes ≡ bytes
  whole = all_taken bytes max_input short

  clients_are : entries (seed_map r.clients) ≡ r.clients
  clients_are = risen r.clients r.holds.rising

  spelled : record_text h ≡ ended (lines_of bytes)
  spelled =
      ap record_text r.is
      ∙ ap (λ c. ended (header ∷ (map client_line c ++ map entry_line r.events))) clients_are
      ∙ ap (λ t. ended (header ∷ t)) (sym r.lines) ∙ ap ended (sym l.lines) ∙ ap (λ b. ended (lines_of b)) whole

  by : IsTextOf (lines_of bytes) bytes → IsRecordOf bytes h
  by (inl e) = inl (spelled ∙ e)
  by (inr e) = inr (spelled ∙ e)

  text : IsRecordOf bytes h
  text = by (text_of_lines bytes)

  ok : IsRecordable h
  ok = subst IsRecordable (sym r.is) (record { clients = subst (Each IsClient) (sym clients_are) r.typed_clients; events = r.typed_events })

out_is : (c : Cursor) → is_out_of_manner c ≡ false → c ≡ Unmannered → ⊥
out_is c e f = let bad : is_out_of_manner Unmannered ≡ false = ap is_out_of_manner (sym f) ∙ e in absurd (cc)

pub sound : LawfulAreSound
sound μ bytes h lawful readable j = subst (IsSound μ.setting) (sym r.is) (record {
  start = empty_start μ.setting;
  table = r.holds.table;
  legal = r.holds.legal;
  mannered = λ c s among. cursor_mannered μ.setting μ.exchange_at lawful readable s (calls_of c r.events) (r.holds.timely c) (out_is _ (r.holds.mannered c s among));
}) where
  r : Reached μ (led_to μ bytes h j).told h
  r = (led_to μ bytes h j).reached
