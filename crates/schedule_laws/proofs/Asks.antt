-- What each line keeps of a desk: each client's calls are those of the blocks that it was asked for.
use Rattle.std.proofs.Common.{◌≡◌, ◌≢◌, ◌⊎◌, inl, inr, ℕ, ◌<◌, ◌^◌, suc, refl, ap, sym, ◌∙◌, subst, arith, List, [], ◌∷◌, ◌++◌, append_assoc, Bool, true, false, Option, None, Some, if◌then◌else◌}
use Rattle.std.proofs.lemmas.List.{append-nil}
use Rattle.std.proofs.lemmas.Grind.{common_steps}
use Rattle.std.specs.Prelude.{◌==◌, ◌||◌, nat_eq}
use Rattle.std.specs.Ordering.{nat_cmp}
use Rattle.std.specs.FinMap.{get, insert, empty, get-empty}
use Rattle.wire_values.specs.declared.value.Value.{Value}
use Rattle.line_text.specs.Lines.{text_fault}
use Rattle.line_text.specs.Words.{words_of}
use Rattle.line_text.specs.declared.reason.Reason.{Reason}
use Rattle.store_model.specs.Words.{Words}
use Rattle.store_model.specs.Store.{State, apply_of}
use Rattle.store_model.specs.declared.reply.Reply.{Reply}
use Rattle.queue_keys.specs.Names.{Bytes}
use Rattle.command_blocks.specs.Scripts.{Script, Over, Off, Say, Plan}
use Rattle.place_model.specs.Histories.{calls_of}
use Rattle.place_model.specs.declared.history.Entry.TheVariants.{Call as Called, Stop as Gone}
use Rattle.schedule_model.specs.Costs.{is_full}
use Rattle.schedule_model.specs.Desk.{ScheduleReader, ClientBook, Said, first_desk, with_book, with_call, reader_with_client, begun, said_one, said_all, with_stop}
use Rattle.schedule_model.specs.Faults.{Craft, first_reason, tests, is_gone, is_busy, is_script_off, has_number, has_seed, asked_tests, client_seed, counter_of}
use Rattle.schedule_model.specs.Filled.{FilledDesk, IsLedBy, LeadTo, lines_read, lines_until}
use Rattle.schedule_model.specs.Lines.{line_in}
use Rattle.schedule_model.specs.Schedules.{Led, Went, Filled, Bad, plan_of, with_plan, reader_after, stepped, run_through, stopped, led, led_unless, led_by, text_led, line_led, Determined, Whole, Full, Bad_line, max_line, schedule_run}
use Rattle.schedule_model.specs.declared.line.Asked.{Asked}
use Rattle.schedule_model.specs.declared.line.Line.{Line}
use Rattle.schedule_model.specs.declared.line.Line.TheVariants.{Client, At, Begin, Step, Run, Stop}
use Rattle.block_laws.proofs.Values.{some_is}
use Rattle.block_laws.proofs.PlanRows.{plan_row}
use Rattle.schedule_laws.specs.Sound.{IsCraft}
use Rattle.schedule_laws.specs.BegunBlocks.{asked_at, asks_in, AreAskedBlocks, SaysAsked, IsAskedFor, SchedulesSayBlocks}
use Rattle.schedule_laws.proofs.Asking.{AreFaultless, faultless, lawful_plan}
use Rattle.schedule_laws.proofs.Begun.{IsAsked, new_asked, begun_asked, call_asked, gone_asked, asked_said}
use Rattle.schedule_laws.proofs.Desks.{Holds, first_holds}
use Rattle.schedule_laws.proofs.Leads.{schedule_leads}
use Rattle.schedule_laws.proofs.Determined.{LedHolds, filled_holds, line_holds, lines_hold, over_of}
use Rattle.schedule_laws.proofs.Numbered.{same_or, get_same, get_other, insert_twice}
use Rattle.schedule_laws.proofs.Spelled.{IfThere, IsAskedWithin, IsWithin, line_there}
use Rattle.schedule_laws.proofs.Worlds.{neither, own_more, foreign_more}

-- each client was asked what f has
pub record Asks (κ : Craft) (f : ℕ → List Asked) (d : ScheduleReader) : Type 0 where
  pub listed : (c : ℕ) (b : ClientBook) → get d.books c ≡ Some b → has_number c d.clients ≡ true
  pub books : (c : ℕ) (b : ClientBook) → get d.books c ≡ Some b → IsAsked κ (f c) (calls_of c d.entries) b
  pub strangers : (c : ℕ) → get d.books c ≡ None → (f c ≡ []) × (calls_of c d.entries ≡ [])

some_none : {A X : Type 0} (x : X) (o : Option X) → o ≡ Some x → o ≡ None → A
some_none {X = X} x o e f = let no : ◌≡◌ {A = Option X} (Some x) None = sym e ∙ f in absurd (cc no)

same_asks : (κ : Craft) (f g : ℕ → List Asked) (d : ScheduleReader) → ((c : ℕ) → g c ≡ f c) → Asks κ f d → Asks κ g d
same_asks κ f g d e h = record {
  listed = h.listed;
  books = λ c b is. subst (λ z. IsAsked κ z (calls_of c d.entries) b) (sym (e c)) (h.books c b is);
  strangers = λ c none. (e c ∙ (h.strangers c none).0, (h.strangers c none).1);
}

first_asks : (κ : Craft) → Asks κ (λ c. []) first_desk
first_asks κ = record {
  listed = λ c b is. some_none b (get (empty {X = ClientBook} {R = nat_cmp}) c) is (get-empty nat_cmp c);
  books = λ c b is. some_none b (get (empty {X = ClientBook} {R = nat_cmp}) c) is (get-empty nat_cmp c);
  strangers = λ c none. (refl, refl);
}

-- ---- a book that changes

module _ (κ : Craft) (f g : ℕ → List Asked) (d : ScheduleReader) (h : Asks κ f d) (c : ℕ) (b b' : ClientBook) (book : get d.books c ≡ Some b) (asked : IsAsked κ (g c) (calls_of c d.entries) b') (others : (k : ℕ) → k ≢ c → g k ≡ f k) where
  its : (k : ℕ) (x : ClientBook) → (k ≡ c) ⊎ (k ≢ c) → get (insert d.books c b') k ≡ Some x → IsAsked κ (g k) (calls_of k d.entries) x
  its k x (inl e) is =
      let same : b' ≡ x = some_is b' x (sym (get_same d.books c b') ∙ (ap (get (insert d.books c b')) (sym e) ∙ is)) in
      subst (λ q. IsAsked κ (g q) (calls_of q d.entries) x) (sym e) (subst (IsAsked κ (g c) (calls_of c d.entries)) same asked)
  its k x (inr n) is = subst (λ z. IsAsked κ z (calls_of k d.entries) x) (sym (others k n)) (h.books k x (sym (get_other d.books c b' k n) ∙ is))

  known : (k : ℕ) (x : ClientBook) → (k ≡ c) ⊎ (k ≢ c) → get (insert d.books c b') k ≡ Some x → has_number k d.clients ≡ true
  known k x (inl e) is = ap (λ q. has_number q d.clients) e ∙ h.listed c b book
  known k x (inr n) is = h.listed k x (sym (get_other d.books c b' k n) ∙ is)

  unknown : (k : ℕ) → (k ≡ c) ⊎ (k ≢ c) → get (insert d.books c b') k ≡ None → (g k ≡ []) × (calls_of k d.entries ≡ [])
  unknown k (inl e) none = some_none b' (get (insert d.books c b') k) (ap (get (insert d.books c b')) e ∙ get_same d.books c b') none
  unknown k (inr n) none = let o = h.strangers k (sym (get_other d.books c b' k n) ∙ none) in (others k n ∙ o.0, o.1)

  book_asks : Asks κ g (with_book d c b')
  book_asks = record { listed = λ k x is. known k x (same_or k c) is; books = λ k x is. its k x (same_or k c) is; strangers = λ k none. unknown k (same_or k c) none }

-- ---- a call

module _ (κ : Craft) (f : ℕ → List Asked) (d : ScheduleReader) (h : Asks κ f d) (c : ℕ) (b : ClientBook) (w : ℕ → Words) (go : Value → Script) (book : get d.books c ≡ Some b) (says : b.left ≡ Say w go) (soon : d.moment < 2 ^ 40) where
  abbrev r : State × Reply
  r = apply_of d.store d.moment c (w d.moment)

  abbrev b' : ClientBook
  b' = record b { left = go r.1.answer }

  called : ℕ → Type 0
  called k = calls_of k (d.entries ++ Called c d.moment (w d.moment) r.1 ∷ []) ≡ calls_of k d.entries

  spoken : (k : ℕ) (x : ClientBook) → (k ≡ c) ⊎ (k ≢ c) → get (insert d.books c b') k ≡ Some x → IsAsked κ (f k) (calls_of k (d.entries ++ Called c d.moment (w d.moment) r.1 ∷ [])) x
  spoken k x (inl e) is =
      let same : b' ≡ x = some_is b' x (sym (get_same d.books c b') ∙ (ap (get (insert d.books c b')) (sym e) ∙ is)) in
      let new : IsAsked κ (f c) (calls_of c (d.entries ++ Called c d.moment (w d.moment) r.1 ∷ [])) b' =
      subst (λ l. IsAsked κ (f c) l b') (sym (own_more c d.entries (Called c d.moment (w d.moment) r.1) refl)) (call_asked κ (f c) (calls_of c d.entries) b w go d.moment r.1.answer (h.books c b book) says soon) in
      subst (λ q. IsAsked κ (f q) (calls_of q (d.entries ++ Called c d.moment (w d.moment) r.1 ∷ [])) x) (sym e) (subst (IsAsked κ (f c) (calls_of c (d.entries ++ Called c d.moment (w d.moment) r.1 ∷ []))) same new)
  spoken k x (inr n) is = subst (λ l. IsAsked κ (f k) l x) (sym (foreign_more k d.entries (Called c d.moment (w d.moment) r.1) (λ q. n (sym q)))) (h.books k x (sym (get_other d.books c b' k n) ∙ is))

  heard : (k : ℕ) (x : ClientBook) → (k ≡ c) ⊎ (k ≢ c) → get (insert d.books c b') k ≡ Some x → has_number k d.clients ≡ true
  heard k x (inl e) is = ap (λ q. has_number q d.clients) e ∙ h.listed c b book
  heard k x (inr n) is = h.listed k x (sym (get_other d.books c b' k n) ∙ is)

  silent : (k : ℕ) → (k ≡ c) ⊎ (k ≢ c) → get (insert d.books c b') k ≡ None → (f k ≡ []) × (calls_of k (d.entries ++ Called c d.moment (w d.moment) r.1 ∷ []) ≡ [])
  silent k (inl e) none = some_none b' (get (insert d.books c b') k) (ap (get (insert d.books c b')) e ∙ get_same d.books c b') none
  silent k (inr n) none =
      let o = h.strangers k (sym (get_other d.books c b' k n) ∙ none) in
      (o.0, foreign_more k d.entries (Called c d.moment (w d.moment) r.1) (λ q. n (sym q)) ∙ o.1)

  call_asks : Asks κ f (with_book (with_call d c (w d.moment) r) c b')
  call_asks = record { listed = λ k x is. heard k x (same_or k c) is; books = λ k x is. spoken k x (same_or k c) is; strangers = λ k none. silent k (same_or k c) none }

-- ---- what a client says

abbrev HeardAsks : Craft → (ℕ → List Asked) → ℕ → ClientBook → Said → Type 0
HeardAsks κ f c b s = Asks κ f (with_book s.desk c (record b { left = s.left }))

module _ (κ : Craft) (f : ℕ → List Asked) (c : ℕ) (b : ClientBook) where
  one : (d : ScheduleReader) (w : ℕ → Words) (go : Value → Script) → d.moment < 2 ^ 40 → Asks κ f (with_book d c (record b { left = Say w go }))
      → let r = apply_of d.store d.moment c (w d.moment) in Asks κ f (with_book (with_call d c (w d.moment) r) c (record b { left = go r.1.answer }))
  one d w go soon h =
      let r = apply_of d.store d.moment c (w d.moment) in
      let b₁ : ClientBook = record b { left = Say w go } in
      let b₂ : ClientBook = record b { left = go r.1.answer } in
      let d₁ = with_call d c (w d.moment) r in
      let e : Asks κ f (with_book (with_call (with_book d c b₁) c (w d.moment) r) c b₂) = call_asks κ f (with_book d c b₁) h c b₁ w go (get_same d.books c b₁) refl soon in
      subst (λ m. Asks κ f (record d₁ { books = m })) (insert_twice d.books c b₁ b₂) e

  said_one_asks : (p : Script) (d : ScheduleReader) → d.moment < 2 ^ 40 → Asks κ f (with_book d c (record b { left = p })) → HeardAsks κ f c b (said_one d c p)
  said_one_asks Over d soon h = h
  said_one_asks Off d soon h = h
  said_one_asks (Say w go) d soon h = by (is_full d.entries) where
    next_one : Said
    next_one = let r = apply_of d.store d.moment c (w d.moment) in record { desk = with_call d c (w d.moment) r; left = go r.1.answer; room = true }

    by : (x : Bool) → HeardAsks κ f c b (if x then record { desk = d; left = Say w go; room = false } else next_one)
    by true = h
    by false = one d w go soon h

  said_all_asks : (p : Script) (d : ScheduleReader) → d.moment < 2 ^ 40 → Asks κ f (with_book d c (record b { left = p })) → HeardAsks κ f c b (said_all d c p)
  said_all_asks Over d soon h = h
  said_all_asks Off d soon h = h
  said_all_asks (Say w go) d soon h = by (is_full d.entries) (let r = apply_of d.store d.moment c (w d.moment) in said_all_asks (go r.1.answer) (with_call d c (w d.moment) r) soon (one d w go soon h)) where
    later : Said
    later = let r = apply_of d.store d.moment c (w d.moment) in said_all (with_call d c (w d.moment) r) c (go r.1.answer)

    by : (x : Bool) → HeardAsks κ f c b later → HeardAsks κ f c b (if x then record { desk = d; left = Say w go; room = false } else later)
    by true more = h
    by false more = more

-- ---- a moment, a stop, a client more

moment_asks : (κ : Craft) (f : ℕ → List Asked) (d : ScheduleReader) (m : ℕ) → Asks κ f d → Asks κ f (record d { moment = m })
moment_asks κ f d m h = record { listed = h.listed; books = h.books; strangers = h.strangers }

module _ (κ : Craft) (f : ℕ → List Asked) (d : ScheduleReader) (h : Asks κ f d) (c : ℕ) (b : ClientBook) (book : get d.books c ≡ Some b) where
  abbrev gone : ClientBook
  gone = record b { stopped = true }

  same_calls : (k : ℕ) → (k ≡ c) ⊎ (k ≢ c) → calls_of k (d.entries ++ Gone c ∷ []) ≡ calls_of k d.entries
  same_calls k (inl e) = own_more k d.entries (Gone c) (sym e) ∙ append-nil (calls_of k d.entries)
  same_calls k (inr n) = foreign_more k d.entries (Gone c) (λ q. n (sym q))

  stop_asks : Asks κ f (with_stop d c b)
  stop_asks =
      let e = book_asks κ f f d h c b gone book (gone_asked κ (f c) (calls_of c d.entries) b (h.books c b book)) (λ k n. refl) in record {
        listed = e.listed;
        books = λ k x is. subst (λ l. IsAsked κ (f k) l x) (sym (same_calls k (same_or k c))) (e.books k x is);
        strangers = λ k none. ((e.strangers k none).0, same_calls k (same_or k c) ∙ (e.strangers k none).1);
      }

either_or : (a b : Bool) → a ≡ true → (a || b) ≡ true
either_or true b e = refl
either_or false b e = absurd (no_way e) where
  no_way : false ≡ true → ⊥
  no_way e = cc e

or_either : (a b : Bool) → b ≡ true → (a || b) ≡ true
or_either true b e = refl
or_either false b e = e

-- who is in a table is in it with one more
number_more : (k c s : ℕ) (cs : List (ℕ × ℕ)) → has_number k cs ≡ true → has_number k (cs ++ (c, s) ∷ []) ≡ true
number_more k c s [] e = absurd (no_way e) where
  no_way : false ≡ true → ⊥
  no_way e = cc e
number_more k c s (x ∷ cs) e = by (nat_eq x.0 k) e (number_more k c s cs) where
  by : (t : Bool) → (t || has_number k cs) ≡ true → (has_number k cs ≡ true → has_number k (cs ++ (c, s) ∷ []) ≡ true) → (t || has_number k (cs ++ (c, s) ∷ [])) ≡ true
  by true e h = refl
  by false e h = h e

number_last : (c s : ℕ) (cs : List (ℕ × ℕ)) → has_number c (cs ++ (c, s) ∷ []) ≡ true
number_last c s [] = either_or (nat_eq c c) false (grind (arith, common_steps))
number_last c s (x ∷ cs) = or_either (nat_eq x.0 c) (has_number c (cs ++ (c, s) ∷ [])) (number_last c s cs)

module _ (κ : Craft) (f : ℕ → List Asked) (d : ScheduleReader) (h : Asks κ f d) (c s : ℕ) (fresh : has_number c d.clients ≡ false) where
  abbrev blank : ClientBook
  blank = record { seed = s; drawn = 0; passes = 0; left = Over; stopped = false }

  stranger : get d.books c ≡ None
  stranger = by (get d.books c) refl where
    by : (o : Option ClientBook) → get d.books c ≡ o → o ≡ None
    by None e = refl
    by (Some b) e = let no : true ≡ false = sym (h.listed c b e) ∙ fresh in absurd (cc no)

  joined : (k : ℕ) (x : ClientBook) → (k ≡ c) ⊎ (k ≢ c) → get (insert d.books c blank) k ≡ Some x → IsAsked κ (f k) (calls_of k d.entries) x
  joined k x (inl e) is =
      let same : blank ≡ x = some_is blank x (sym (get_same d.books c blank) ∙ (ap (get (insert d.books c blank)) (sym e) ∙ is)) in
      let o = h.strangers c stranger in
      let new : IsAsked κ (f c) (calls_of c d.entries) blank = subst (λ z. IsAsked κ z (calls_of c d.entries) blank) (sym o.0) (subst (λ l. IsAsked κ [] l blank) (sym o.1) (new_asked κ s)) in
      subst (λ q. IsAsked κ (f q) (calls_of q d.entries) x) (sym e) (subst (IsAsked κ (f c) (calls_of c d.entries)) same new)
  joined k x (inr n) is = h.books k x (sym (get_other d.books c blank k n) ∙ is)

  named : (k : ℕ) (x : ClientBook) → (k ≡ c) ⊎ (k ≢ c) → get (insert d.books c blank) k ≡ Some x → has_number k (d.clients ++ (c, s) ∷ []) ≡ true
  named k x (inl e) is = ap (λ q. has_number q (d.clients ++ (c, s) ∷ [])) e ∙ number_last c s d.clients
  named k x (inr n) is = number_more k c s d.clients (h.listed k x (sym (get_other d.books c blank k n) ∙ is))

  away : (k : ℕ) → (k ≡ c) ⊎ (k ≢ c) → get (insert d.books c blank) k ≡ None → (f k ≡ []) × (calls_of k d.entries ≡ [])
  away k (inl e) none = some_none blank (get (insert d.books c blank) k) (ap (get (insert d.books c blank)) e ∙ get_same d.books c blank) none
  away k (inr n) none = h.strangers k (sym (get_other d.books c blank k n) ∙ none)

  client_asks : Asks κ f (reader_with_client d c s)
  client_asks = record { listed = λ k x is. named k x (same_or k c) is; books = λ k x is. joined k x (same_or k c) is; strangers = λ k none. away k (same_or k c) none }

-- ---- lines

-- the desk of what a line led to was asked what f has
abbrev LedAsks : Craft → (ℕ → List Asked) → Led → Type 0
LedAsks κ f (Went d) = Asks κ f d
LedAsks κ f (Filled d) = Asks κ f d
LedAsks κ f (Bad r) = Unit {0}

led_same : (κ : Craft) (f g : ℕ → List Asked) → ((c : ℕ) → g c ≡ f c) → (r : Led) → LedAsks κ f r → LedAsks κ g r
led_same κ f g e (Went d) h = same_asks κ f g d e h
led_same κ f g e (Filled d) h = same_asks κ f g d e h
led_same κ f g e (Bad r) h = tt

heard_asks : (κ : Craft) (f : ℕ → List Asked) (c : ℕ) (b : ClientBook) (s : Said) → HeardAsks κ f c b s → LedAsks κ f (reader_after c b s)
heard_asks κ f c b s h = by s.room where
  by : (room : Bool) → LedAsks κ f (if room then Went (with_book s.desk c (record b { left = s.left })) else Filled (with_book s.desk c (record b { left = s.left })))
  by true = h
  by false = h

-- the book as it is, which is written again
written : (κ : Craft) (f : ℕ → List Asked) (d : ScheduleReader) (c : ℕ) (b : ClientBook) → Asks κ f d → get d.books c ≡ Some b → Asks κ f (with_book d c (record b { left = b.left }))
written κ f d c b h book = book_asks κ f f d h c b b book (h.books c b book) (λ k n. refl)

step_asks : (κ : Craft) (f : ℕ → List Asked) (d : ScheduleReader) (c : ℕ) → d.moment < 2 ^ 40 → Asks κ f d → (o : Option ClientBook) → get d.books c ≡ o → LedAsks κ f (stepped d c o)
step_asks κ f d c soon h None book = tt
step_asks κ f d c soon h (Some b) book = heard_asks κ f c b (said_one d c b.left) (said_one_asks κ f c b b.left d soon (written κ f d c b h book))

run_asks : (κ : Craft) (f : ℕ → List Asked) (d : ScheduleReader) (c : ℕ) → d.moment < 2 ^ 40 → Asks κ f d → (o : Option ClientBook) → get d.books c ≡ o → LedAsks κ f (run_through d c o)
run_asks κ f d c soon h None book = tt
run_asks κ f d c soon h (Some b) book = heard_asks κ f c b (said_all d c b.left) (said_all_asks κ f c b b.left d soon (written κ f d c b h book))

stopped_asks : (κ : Craft) (f : ℕ → List Asked) (d : ScheduleReader) (c : ℕ) → Asks κ f d → (o : Option ClientBook) → get d.books c ≡ o → LedAsks κ f (stopped d c o)
stopped_asks κ f d c h None book = tt
stopped_asks κ f d c h (Some b) book = by (is_full d.entries) where
  by : (x : Bool) → LedAsks κ f (if x then Filled d else Went (with_stop d c b))
  by true = h
  by false = stop_asks κ f d h c b book

-- what f has, and what a line asks for
abbrev and_line : (ℕ → List Asked) → Option Line → ℕ → List Asked
and_line f l c = f c ++ asked_at c l

own_asked : (c : ℕ) (a : Asked) → asked_at c (Some (Begin c a)) ≡ a ∷ []
own_asked c a = let is : (c == c) ≡ true = grind (arith, common_steps) in ap (λ b. if b then a ∷ [] else []) is

other_asked : (c k : ℕ) (a : Asked) → k ≢ c → asked_at k (Some (Begin c a)) ≡ []
other_asked c k a n = let is : (c == k) ≡ false = grind (arith, common_steps, n) in ap (λ b. if b then a ∷ [] else []) is

begin_asks : (κ : Craft) (craft : IsCraft κ) (f : ℕ → List Asked) (d : ScheduleReader) (c : ℕ) (a : Asked) → Asks κ f d → IsAskedWithin a → (o : Option ClientBook) → get d.books c ≡ o → is_gone o ≡ false → is_busy o ≡ false
    → AreFaultless (asked_tests κ (client_seed o) (counter_of o) a) → LedAsks κ (and_line f (Some (Begin c a))) (with_plan κ d c o (plan_of κ (client_seed o) (counter_of o) a))
begin_asks κ craft f d c a h within None book on idle fine = tt
begin_asks κ craft f d c a h within (Some b) book on idle fine = by (plan_of κ b.seed (suc b.drawn) a) refl where
  over : b.left ≡ Over
  over = over_of b.left (neither b.stopped (is_script_off b.left) on).1 idle

  by : (p : Option Plan) → plan_of κ b.seed (suc b.drawn) a ≡ p → LedAsks κ (and_line f (Some (Begin c a))) (with_plan κ d c (Some b) p)
  by None e = tt
  by (Some plan) e = book_asks κ f (and_line f (Some (Begin c a))) d h c b (begun κ.setting b plan) book
      (subst (λ z. IsAsked κ (f c ++ z) (calls_of c d.entries) (begun κ.setting b plan)) (sym (own_asked c a))
      (begun_asked κ (f c) (calls_of c d.entries) b a plan (h.books c b book) over e (plan_row κ.setting b.seed b.drawn b.passes plan (lawful_plan κ craft b.seed b.drawn a plan within fine e))))
      (λ k n. ap (λ z. f k ++ z) (other_asked c k a n) ∙ append-nil (f k))

nothing_more : (f : ℕ → List Asked) (c : ℕ) → f c ++ [] ≡ f c
nothing_more f c = append-nil (f c)

led_asks : (κ : Craft) (craft : IsCraft κ) (f : ℕ → List Asked) (d : ScheduleReader) (l : Line) → d.moment < 2 ^ 40 → Asks κ f d → IsWithin l → AreFaultless (tests κ d l) → LedAsks κ (and_line f (Some l)) (led κ d l)
led_asks κ craft f d (Client c s) soon h within fine = same_asks κ f (λ k. f k ++ []) (reader_with_client d c s) (nothing_more f) (client_asks κ f d h c s (neither (has_number c d.clients) (has_seed s d.clients) fine.1.0).0)
led_asks κ craft f d (At m) soon h within fine = same_asks κ f (λ k. f k ++ []) (record d { moment = m }) (nothing_more f) (moment_asks κ f d m h)
led_asks κ craft f d (Begin c a) soon h within fine = begin_asks κ craft f d c a h within (get d.books c) refl fine.1.0 fine.1.1.0 fine.1.1.1
led_asks κ craft f d (Step c) soon h within fine = led_same κ f (λ k. f k ++ []) (nothing_more f) (stepped d c (get d.books c)) (step_asks κ f d c soon h (get d.books c) refl)
led_asks κ craft f d (Run c) soon h within fine = led_same κ f (λ k. f k ++ []) (nothing_more f) (run_through d c (get d.books c)) (run_asks κ f d c soon h (get d.books c) refl)
led_asks κ craft f d (Stop c) soon h within fine = led_same κ f (λ k. f k ++ []) (nothing_more f) (stopped d c (get d.books c)) (stopped_asks κ f d c h (get d.books c) refl)

unless_asks : (κ : Craft) (craft : IsCraft κ) (f : ℕ → List Asked) (d : ScheduleReader) (l : Line) → d.moment < 2 ^ 40 → Asks κ f d → IsWithin l → (o : Option Reason) → first_reason (tests κ d l) ≡ o → LedAsks κ (and_line f (Some l)) (led_unless κ d l o)
unless_asks κ craft f d l soon h within (Some r) e = tt
unless_asks κ craft f d l soon h within None e = led_asks κ craft f d l soon h within (faultless (tests κ d l) e)

by_asks : (κ : Craft) (craft : IsCraft κ) (f : ℕ → List Asked) (d : ScheduleReader) → d.moment < 2 ^ 40 → Asks κ f d → (o : Option Line) → IfThere IsWithin o → LedAsks κ (and_line f o) (led_by κ d o)
by_asks κ craft f d soon h None within = tt
by_asks κ craft f d soon h (Some l) within = unless_asks κ craft f d l soon h within (first_reason (tests κ d l)) refl

text_asks : (κ : Craft) (craft : IsCraft κ) (f : ℕ → List Asked) (d : ScheduleReader) (line : Bytes) → d.moment < 2 ^ 40 → Asks κ f d → (o : Option Reason) → LedAsks κ (and_line f (line_in (words_of line))) (text_led κ d line o)
text_asks κ craft f d line soon h (Some r) = tt
text_asks κ craft f d line soon h None = by_asks κ craft f d soon h (line_in (words_of line)) (line_there (words_of line))

asked_later : (c : ℕ) (ls : List Bytes) (l : Bytes) → asks_in c (ls ++ l ∷ []) ≡ asks_in c ls ++ asked_at c (line_in (words_of l))
asked_later c [] l = append-nil (asked_at c (line_in (words_of l)))
asked_later c (k ∷ ls) l = ap (λ z. asked_at c (line_in (words_of k)) ++ z) (asked_later c ls l) ∙ sym (append_assoc (asked_at c (line_in (words_of k))) (asks_in c ls) (asked_at c (line_in (words_of l))))

-- what a client was asked by these lines
abbrev of_lines : List Bytes → ℕ → List Asked
of_lines ls c = asks_in c ls

line_asks : (κ : Craft) (craft : IsCraft κ) (ls : List Bytes) (d : ScheduleReader) (line : Bytes) → d.moment < 2 ^ 40 → Asks κ (of_lines ls) d → LedAsks κ (of_lines (ls ++ line ∷ [])) (line_led κ d line)
line_asks κ craft ls d line soon h =
    led_same κ (and_line (of_lines ls) (line_in (words_of line))) (of_lines (ls ++ line ∷ [])) (λ c. asked_later c ls line) (line_led κ d line) (text_asks κ craft (of_lines ls) d line soon h (text_fault max_line line))

-- ---- a schedule

says : (κ : Craft) (craft : IsCraft κ) (ls : List Bytes) (d : ScheduleReader) → Holds κ.setting d → Asks κ (of_lines ls) d → SaysAsked κ ls d
says κ craft ls d h a c s among =
    let b = h.book_of c s among in
    subst (λ q. AreAskedBlocks κ q 0 0 (asks_in c ls) (calls_of c d.entries)) b.2 (asked_said κ craft (asks_in c ls) (calls_of c d.entries) b.0 (a.books c b.0 b.1))

-- lines in a row, each of which leads to a desk
lines_ask : (κ : Craft) (craft : IsCraft κ) (before ls : List Bytes) (d e : ScheduleReader) → Holds κ.setting d → Asks κ (of_lines before) d → LeadTo κ d ls e → Asks κ (of_lines (before ++ ls)) e
lines_ask κ craft before [] d e h a to = subst (Asks κ (of_lines (before ++ []))) to (subst (λ z. Asks κ (of_lines z) d) (sym (append-nil before)) a)
lines_ask κ craft before (l ∷ ls) d e h a to =
    subst (λ z. Asks κ (of_lines z) e) (append_assoc before (l ∷ []) ls)
    (lines_ask κ craft (before ++ l ∷ []) ls to.0 e (subst (LedHolds κ.setting) to.1 (line_holds κ craft d l h)) (subst (LedAsks κ (of_lines (before ++ l ∷ []))) to.1 (line_asks κ craft before d l h.present a)) to.2)

-- the line that had no room
filled_asks : (κ : Craft) (craft : IsCraft κ) (ls : List Bytes) (n cost : ℕ) (f : FilledDesk κ first_desk ls n cost) → Asks κ (of_lines (lines_until f.filled)) f.desk
filled_asks κ craft ls n cost f =
    let h = lines_hold κ craft first_desk f.filled.reached f.filled.before (first_holds κ.setting) f.filled.led in
    subst (LedAsks κ (of_lines (lines_until f.filled))) f.filled.filled
    (line_asks κ craft f.filled.before f.filled.reached f.filled.line h.present (lines_ask κ craft [] f.filled.before first_desk f.filled.reached (first_holds κ.setting) (first_asks κ) f.filled.led))

determined_asked : (κ : Craft) (craft : IsCraft κ) (ls : List Bytes) (r : Determined) → IsLedBy κ first_desk ls r → IsAskedFor κ ls r
determined_asked κ craft ls (Whole d) to =
    says κ craft ls d (lines_hold κ craft first_desk d ls (first_holds κ.setting) to) (lines_ask κ craft [] ls first_desk d (first_holds κ.setting) (first_asks κ) to)
determined_asked κ craft ls (Full n cost) f = (f, says κ craft (lines_until f.filled) f.desk (filled_holds κ craft first_desk ls n cost (first_holds κ.setting) f).0 (filled_asks κ craft ls n cost f))
determined_asked κ craft ls (Bad_line n reason) to = tt

pub said_blocks : SchedulesSayBlocks
said_blocks κ craft bytes = determined_asked κ craft (lines_read bytes) (schedule_run κ bytes) (schedule_leads κ bytes)
