-- What each line keeps of a desk: its history is legal, and each client's calls are as its book says.
use Rattle.std.proofs.Common.{◌≡◌, ◌≢◌, ◌⊎◌, inl, inr, ℕ, ◌<◌, ◌≤◌, ◌^◌, refl, ap, sym, ◌∙◌, subst, lit<, arith, [], ◌∷◌, ◌++◌, Bool, true, false, None, Some, if◌then◌else◌}
use Rattle.std.proofs.lemmas.List.{append-nil}
use Rattle.std.specs.Ordering.{nat_cmp}
use Rattle.std.specs.FinMap.{FinMap, get, insert, empty, get-empty}
use Rattle.wire_values.specs.declared.value.Value.{Value}
use Rattle.store_model.specs.Words.{Words}
use Rattle.store_model.specs.Store.{State, apply_of, gone_of}
use Rattle.store_model.specs.declared.reply.Reply.{Reply}
use Rattle.command_blocks.specs.Setting.{Setting}
use Rattle.command_blocks.specs.Calls.{call}
use Rattle.queue_keys.specs.QueueKeys.{Among}
use Rattle.place_model.specs.Histories.{calls_of, Client, SystemState, after_entries, new_client, start_from, AllMayCome, IsTable, with_client as with_known}
use Rattle.command_blocks.specs.Scripts.{Script, Over, Off, Say}
use Rattle.place_model.specs.declared.history.Entry.TheVariants.{Call as Called, Stop}
use Rattle.schedule_model.specs.Costs.{is_full}
use Rattle.schedule_model.specs.Desk.{ClientBook, ScheduleReader, first_desk, with_book, reader_with_client, Said, with_call, said_one, said_all, with_stop}
use Rattle.schedule_model.specs.Faults.{has_number, has_seed}
use Rattle.schedule_laws.specs.Sound.{RisesTo}
use Rattle.block_laws.proofs.Values.{some_is}
use Rattle.schedule_laws.proofs.Numbered.{same_or, get_same, get_other, insert_twice}
use Rattle.schedule_laws.proofs.Kept.{IsKept, new_kept, call_kept, gone_kept}
use Rattle.schedule_laws.proofs.Worlds.{after-append, legal-append, next_called, next_stopped, own_more, foreign_more, rises_later, rises_call, rises_stop, add, after_add, legal_add, no_calls, table_none, table_more, table_with, among_more}

-- the world at the start of a desk's history, and after it
abbrev pub start : ScheduleReader → SystemState
start d = start_from empty d.clients

abbrev pub now : ScheduleReader → SystemState
now d = after_entries (start d) d.entries

-- a client's book: the client is known by the world, and has called what the book says
pub record IsBookOf (σ : Setting) (d : ScheduleReader) (c : ℕ) (b : ClientBook) : Type 0 where
  pub client : Client
  pub known : get (now d).clients c ≡ Some client
  pub stopped : client.stopped ≡ b.stopped
  pub kept : IsKept σ (calls_of c d.entries) b

-- what each line keeps
pub record Holds (σ : Setting) (d : ScheduleReader) : Type 0 where
  pub table : IsTable d.clients []
  pub present : d.moment < 2 ^ 40
  pub rises : RisesTo 0 d.entries d.moment
  pub store : (now d).store ≡ d.store
  pub legal : AllMayCome (start d) d.entries
  pub book_of : (c s : ℕ) → Among (c, s) d.clients → (b : ClientBook) × (get d.books c ≡ Some b) × (b.seed ≡ s)
  pub books : (c : ℕ) (b : ClientBook) → get d.books c ≡ Some b → IsBookOf σ d c b

pub first_holds : (σ : Setting) → Holds σ first_desk
first_holds σ = record {
  table = record { connections_differ = tt; seeds_differ = tt; unused = tt };
  present = lit< tt;
  rises = omega arith;
  store = refl;
  legal = tt;
  book_of = λ c s h. absurd h;
  books = λ c b is. absurd (nobody c b is);
} where
  nobody : (c : ℕ) (b : ClientBook) → get (empty {X = ClientBook} {R = nat_cmp}) c ≡ Some b → ⊥
  nobody c b is = let e : None ≡ Some b = sym (get-empty nat_cmp c) ∙ is in absurd (cc e)

-- ---- a book that changes

-- where a book is written that keeps its client's seed, each client of the table has a book with its seed
rewritten : (m : FinMap nat_cmp ClientBook) (c : ℕ) (b b' : ClientBook) → get m c ≡ Some b → b'.seed ≡ b.seed → (k s : ℕ) → (x : ClientBook) × (get m k ≡ Some x) × (x.seed ≡ s) → (x : ClientBook) × (get (insert m c b') k ≡ Some x) × (x.seed ≡ s)
rewritten m c b b' book seed k s old = by (same_or k c) where
  by : (k ≡ c) ⊎ (k ≢ c) → (x : ClientBook) × (get (insert m c b') k ≡ Some x) × (x.seed ≡ s)
  by (inl e) = (b', ap (get (insert m c b')) e ∙ get_same m c b', seed ∙ (ap (λ (x : ClientBook). x.seed) (some_is b old.0 (sym book ∙ (ap (get m) (sym e) ∙ old.1))) ∙ old.2))
  by (inr n) = (old.0, get_other m c b' k n ∙ old.1, old.2)

module _ (σ : Setting) (d : ScheduleReader) (h : Holds σ d) (c : ℕ) (b b' : ClientBook) (book : get d.books c ≡ Some b) (seed : b'.seed ≡ b.seed) (stopped : b'.stopped ≡ b.stopped) (kept : IsKept σ (calls_of c d.entries) b') where
  its : (k : ℕ) (x : ClientBook) → (k ≡ c) ⊎ (k ≢ c) → get (insert d.books c b') k ≡ Some x → IsBookOf σ d k x
  its k x (inl e) is =
      let same : b' ≡ x = some_is b' x (sym (get_same d.books c b') ∙ (ap (get (insert d.books c b')) (sym e) ∙ is)) in
      let old = h.books c b book in
      let new : IsBookOf σ d c b' = record { client = old.client; known = old.known; stopped = old.stopped ∙ sym stopped; kept = kept } in
      subst (λ q. IsBookOf σ d q x) (sym e) (subst (IsBookOf σ d c) same new)
  its k x (inr n) is = h.books k x (sym (get_other d.books c b' k n) ∙ is)

  pub book_holds : Holds σ (with_book d c b')
  book_holds = record {
    table = h.table;
    present = h.present;
    rises = h.rises;
    store = h.store;
    legal = h.legal;
    book_of = λ k s among. rewritten d.books c b b' book seed k s (h.book_of k s among);
    books = λ k x is. let o = its k x (same_or k c) is in record { client = o.client; known = o.known; stopped = o.stopped; kept = o.kept };
  }

-- ---- a call

module _ (σ : Setting) (d : ScheduleReader) (h : Holds σ d) (c : ℕ) (b : ClientBook) (w : ℕ → Words) (go : Value → Script) (book : get d.books c ≡ Some b) (on : b.stopped ≡ false) (says : b.left ≡ Say w go) where
  abbrev r : State × Reply
  r = apply_of d.store d.moment c (w d.moment)

  abbrev b' : ClientBook
  b' = record b { left = go r.1.answer }

  abbrev d' : ScheduleReader
  d' = with_book (with_call d c (w d.moment) r) c b'

  mine : IsBookOf σ d c b
  mine = h.books c b book

  abbrev client : Client
  client = record mine.client { calls = mine.client.calls ++ call d.moment (w d.moment) r.1.answer ∷ [] }

  now_is : now d' ≡ with_known r.0 (now d) c client
  now_is =
      after-append (start d) d.entries (Called c d.moment (w d.moment) r.1 ∷ [])
      ∙ (next_called (now d) c d.moment (w d.moment) r.1 mine.client mine.known
      ∙ ap (λ s. with_known (apply_of s d.moment c (w d.moment)).0 (now d) c client) h.store)

  spoken : (k : ℕ) (x : ClientBook) → (k ≡ c) ⊎ (k ≢ c) → get (insert d.books c b') k ≡ Some x → IsBookOf σ d' k x
  spoken k x (inl e) is =
      let same : b' ≡ x = some_is b' x (sym (get_same d.books c b') ∙ (ap (get (insert d.books c b')) (sym e) ∙ is)) in
      let new : IsBookOf σ d' c b' = record {
        client = client;
        known = ap (λ v. get v.clients c) now_is ∙ get_same (now d).clients c client;
        stopped = mine.stopped;
        kept = subst (λ l. IsKept σ l b') (sym (own_more c d.entries (Called c d.moment (w d.moment) r.1) refl)) (call_kept σ (calls_of c d.entries) b w go d.moment r.1.answer mine.kept says h.present);
      } in
      subst (λ q. IsBookOf σ d' q x) (sym e) (subst (IsBookOf σ d' c) same new)
  spoken k x (inr n) is = let old = h.books k x (sym (get_other d.books c b' k n) ∙ is) in record {
    client = old.client;
    known = ap (λ v. get v.clients k) now_is ∙ (get_other (now d).clients c client k n ∙ old.known);
    stopped = old.stopped;
    kept = subst (λ l. IsKept σ l x) (sym (foreign_more k d.entries (Called c d.moment (w d.moment) r.1) (λ q. n (sym q)))) old.kept;
  }

  pub call_holds : Holds σ d'
  call_holds = record {
    table = h.table;
    present = h.present;
    rises = rises_call 0 d.moment d.entries c (w d.moment) r.1 h.rises;
    store = ap (λ v. v.store) now_is;
    legal = legal-append (start d) d.entries (Called c d.moment (w d.moment) r.1 ∷ []) h.legal
        ((mine.client, mine.known, mine.stopped ∙ on, ap (λ s. (apply_of s d.moment c (w d.moment)).1) (sym h.store)), tt);
    book_of = λ k s among. rewritten d.books c b b' book refl k s (h.book_of k s among);
    books = λ k x is. spoken k x (same_or k c) is;
  }

-- ---- what a client says

-- after what a client of this book said the desk holds, and where there was no room it is full
abbrev pub HeardHolds : Setting → ℕ → ClientBook → Said → Type 0
HeardHolds σ c b s = Holds σ (with_book s.desk c (record b { left = s.left })) × (s.room ≡ false → is_full s.desk.entries ≡ true)

no_room : {A : Type 0} → true ≡ false → A
no_room e = absurd (cc e)

module _ (σ : Setting) (c : ℕ) (b : ClientBook) (on : b.stopped ≡ false) where
  -- one call, while the book waits to be written
  one : (d : ScheduleReader) (w : ℕ → Words) (go : Value → Script) → Holds σ (with_book d c (record b { left = Say w go }))
      → let r = apply_of d.store d.moment c (w d.moment) in Holds σ (with_book (with_call d c (w d.moment) r) c (record b { left = go r.1.answer }))
  one d w go h =
      let r = apply_of d.store d.moment c (w d.moment) in
      let b₁ : ClientBook = record b { left = Say w go } in
      let b₂ : ClientBook = record b { left = go r.1.answer } in
      let d₁ = with_call d c (w d.moment) r in
      let e : Holds σ (with_book (with_call (with_book d c b₁) c (w d.moment) r) c b₂) = call_holds σ (with_book d c b₁) h c b₁ w go (get_same d.books c b₁) on refl in
      subst (λ m. Holds σ (record d₁ { books = m })) (insert_twice d.books c b₁ b₂) e

  pub said_one_holds : (p : Script) (d : ScheduleReader) → Holds σ (with_book d c (record b { left = p })) → HeardHolds σ c b (said_one d c p)
  said_one_holds Over d h = (h, no_room)
  said_one_holds Off d h = (h, no_room)
  said_one_holds (Say w go) d h = by (is_full d.entries) refl where
    next_one : Said
    next_one = let r = apply_of d.store d.moment c (w d.moment) in record { desk = with_call d c (w d.moment) r; left = go r.1.answer; room = true }

    by : (f : Bool) → is_full d.entries ≡ f → HeardHolds σ c b (if f then record { desk = d; left = Say w go; room = false } else next_one)
    by true is = (h, λ _. is)
    by false is = (one d w go h, no_room)

  pub said_all_holds : (p : Script) (d : ScheduleReader) → Holds σ (with_book d c (record b { left = p })) → HeardHolds σ c b (said_all d c p)
  said_all_holds Over d h = (h, no_room)
  said_all_holds Off d h = (h, no_room)
  said_all_holds (Say w go) d h = by (is_full d.entries) refl (let r = apply_of d.store d.moment c (w d.moment) in said_all_holds (go r.1.answer) (with_call d c (w d.moment) r) (one d w go h)) where
    others : Said
    others = let r = apply_of d.store d.moment c (w d.moment) in said_all (with_call d c (w d.moment) r) c (go r.1.answer)

    by : (f : Bool) → is_full d.entries ≡ f → HeardHolds σ c b others → HeardHolds σ c b (if f then record { desk = d; left = Say w go; room = false } else others)
    by true is more = (h, λ _. is)
    by false is more = more

-- ---- a moment

pub moment_holds : (σ : Setting) (d : ScheduleReader) (m : ℕ) → Holds σ d → m < 2 ^ 40 → d.moment ≤ m → Holds σ (record d { moment = m })
moment_holds σ d m h less le = record {
  table = h.table;
  present = less;
  rises = rises_later 0 d.moment m d.entries h.rises le;
  store = h.store;
  legal = h.legal;
  book_of = h.book_of;
  books = λ k x is. let o = h.books k x is in record { client = o.client; known = o.known; stopped = o.stopped; kept = o.kept };
}

-- ---- a client that stops

module _ (σ : Setting) (d : ScheduleReader) (h : Holds σ d) (c : ℕ) (b : ClientBook) (book : get d.books c ≡ Some b) (on : b.stopped ≡ false) where
  abbrev gone : ClientBook
  gone = record b { stopped = true }

  theirs : IsBookOf σ d c b
  theirs = h.books c b book

  abbrev leaver : Client
  leaver = record theirs.client { stopped = true }

  left_is : now (with_stop d c b) ≡ with_known (gone_of (now d).store c) (now d) c leaver
  left_is = after-append (start d) d.entries (Stop c ∷ []) ∙ next_stopped (now d) c theirs.client theirs.known

  stayed : (k : ℕ) (x : ClientBook) → (k ≡ c) ⊎ (k ≢ c) → get (insert d.books c gone) k ≡ Some x → IsBookOf σ (with_stop d c b) k x
  stayed k x (inl e) is =
      let same : gone ≡ x = some_is gone x (sym (get_same d.books c gone) ∙ (ap (get (insert d.books c gone)) (sym e) ∙ is)) in
      let k' = theirs.kept in
      let still : IsKept σ (calls_of c d.entries) gone = gone_kept σ (calls_of c d.entries) b k' in
      let new : IsBookOf σ (with_stop d c b) c gone = record {
        client = leaver;
        known = ap (λ v. get v.clients c) left_is ∙ get_same (now d).clients c leaver;
        stopped = refl;
        kept = subst (λ l. IsKept σ l gone) (sym (own_more c d.entries (Stop c) refl ∙ append-nil (calls_of c d.entries))) still;
      } in
      subst (λ q. IsBookOf σ (with_stop d c b) q x) (sym e) (subst (IsBookOf σ (with_stop d c b) c) same new)
  stayed k x (inr n) is = let old = h.books k x (sym (get_other d.books c gone k n) ∙ is) in record {
    client = old.client;
    known = ap (λ v. get v.clients k) left_is ∙ (get_other (now d).clients c leaver k n ∙ old.known);
    stopped = old.stopped;
    kept = subst (λ l. IsKept σ l x) (sym (foreign_more k d.entries (Stop c) (λ q. n (sym q)))) old.kept;
  }

  pub stop_holds : Holds σ (with_stop d c b)
  stop_holds = record {
    table = h.table;
    present = h.present;
    rises = rises_stop 0 d.moment d.entries c h.rises;
    store = ap (λ v. v.store) left_is ∙ ap (λ s. gone_of s c) h.store;
    legal = legal-append (start d) d.entries (Stop c ∷ []) h.legal ((theirs.client, theirs.known, theirs.stopped ∙ on, tt), tt);
    book_of = λ k s among. rewritten d.books c b gone book refl k s (h.book_of k s among);
    books = λ k x is. stayed k x (same_or k c) is;
  }

-- ---- a client more

module _ (σ : Setting) (d : ScheduleReader) (h : Holds σ d) (c s : ℕ) (fresh : has_number c d.clients ≡ false) (seed : has_seed s d.clients ≡ false) where
  abbrev blank : ClientBook
  blank = record { seed = s; drawn = 0; passes = 0; left = Over; stopped = false }

  stranger : get (start d).clients c ≡ None
  stranger = table_none c d.clients fresh

  start_is : start (reader_with_client d c s) ≡ add c (new_client s) (start d)
  start_is = ap (λ m. record { store = (start d).store; clients = m }) (table_more c s d.clients fresh)

  world_is : now (reader_with_client d c s) ≡ add c (new_client s) (now d)
  world_is = ap (λ v. after_entries v d.entries) start_is ∙ after_add c (new_client s) (start d) d.entries h.legal stranger

  joined : (k : ℕ) (x : ClientBook) → (k ≡ c) ⊎ (k ≢ c) → get (insert d.books c blank) k ≡ Some x → IsBookOf σ (reader_with_client d c s) k x
  joined k x (inl e) is =
      let same : blank ≡ x = some_is blank x (sym (get_same d.books c blank) ∙ (ap (get (insert d.books c blank)) (sym e) ∙ is)) in
      let new : IsBookOf σ (reader_with_client d c s) c blank = record {
        client = new_client s;
        known = ap (λ v. get v.clients c) world_is ∙ get_same (now d).clients c (new_client s);
        stopped = refl;
        kept = subst (λ l. IsKept σ l blank) (sym (no_calls c (new_client s) (start d) d.entries h.legal stranger)) (new_kept σ s);
      } in
      subst (λ q. IsBookOf σ (reader_with_client d c s) q x) (sym e) (subst (IsBookOf σ (reader_with_client d c s) c) same new)
  joined k x (inr n) is = let old = h.books k x (sym (get_other d.books c blank k n) ∙ is) in record {
    client = old.client;
    known = ap (λ v. get v.clients k) world_is ∙ (get_other (now d).clients c (new_client s) k n ∙ old.known);
    stopped = old.stopped;
    kept = old.kept;
  }

  listed : (k t : ℕ) → (Among (k, t) d.clients × (k ≢ c)) ⊎ ((k ≡ c) × (t ≡ s)) → (x : ClientBook) × (get (insert d.books c blank) k ≡ Some x) × (x.seed ≡ t)
  listed k t (inl a) = let old = h.book_of k t a.0 in (old.0, get_other d.books c blank k a.1 ∙ old.1, old.2)
  listed k t (inr a) = (blank, ap (get (insert d.books c blank)) a.0 ∙ get_same d.books c blank, sym a.1)

  pub client_holds : Holds σ (reader_with_client d c s)
  client_holds = record {
    table = table_with c s d.clients h.table fresh seed;
    present = h.present;
    rises = h.rises;
    store = ap (λ v. v.store) world_is ∙ h.store;
    legal = subst (λ v. AllMayCome v d.entries) (sym start_is) (legal_add c (new_client s) (start d) d.entries h.legal stranger);
    book_of = λ k t among. listed k t (among_more c s k t d.clients fresh among);
    books = λ k x is. joined k x (same_or k c) is;
  }
