-- The members that a pass reads are tags, and a pass that ended whole accounts for each of them.
use Rattle.std.proofs.Common.{◌+◌, ◌++◌, ◌<◌, ◌==◌, Bool, List, None, Option, Some, [], ◌^◌, ap, append_assoc, arith, false, if◌then◌else◌, inl, inr, is_some, length, pos, refl, subst, suc, sym, true, ℕ, ℤ, ◌∙◌, ◌∷◌, ◌≡◌}
use Rattle.store_model.specs.Connections.{conn}
use Rattle.store_model.specs.Keys.{value_at, value_of}
use Rattle.store_model.specs.Replies.{bulks, done}
use Rattle.store_model.specs.Store.{State, serve, serve_by, settled}
use Rattle.store_model.specs.Words.{Words, command_of, range_of}
use Rattle.store_model.specs.declared.command.Command.TheVariants.{Zrevrangebyscore}
use Rattle.store_model.specs.declared.connection.Conn.{Conn}
use Rattle.store_model.specs.declared.connection.Queue.{Queue}
use Rattle.store_model.specs.declared.reply.Reply.{Reply}
use Rattle.store_laws.proofs.Ranks.{among_ranks, ranks_are}
use Rattle.command_blocks.specs.Calls.{Call, call}
use Rattle.place_model.specs.Counts.{table_entry, has_member, is_member}
use Rattle.place_model.specs.Histories.{History, IsHistoryPrefix, after, and_then, calls_among, calls_of, conn_of, own_entries}
use Rattle.place_model.specs.Identity.{HasOrigin, In_the_table}
use Rattle.queue_keys.specs.Names.{Bytes, same}
use Rattle.command_blocks.specs.PassBlocks.{All_returned, Done, Ended_early, IsPassBlock, IsReturns, Is_held, PassEnd, Ran as Ran_pass, Returned, Returned_until, due_words, lock_words, tags_among}
use Rattle.place_model.specs.Passes.{AccountsForAll, AreEarly, ReadsTags, due_members, gone_count, less, moved_count, ranks_of, stayed_count}
use Rattle.queue_keys.specs.QueueKeys.{Among}
use Rattle.command_blocks.specs.ReturnBlocks.{Contended, Gone, Moved, ReturnEnd, Stayed, goes_on}
use Rattle.place_model.specs.Starts.{IsSound, IsSoundStart}
use Rattle.queue_keys.specs.Texts.{token}
use Rattle.place_model.specs.declared.history.Entry.{Entry}
use Rattle.place_model.specs.declared.history.Entry.TheVariants.{Call as Called, Heard, Stop}
use Rattle.place_theorem.proofs.Draws.{pushed_tag}
use Rattle.place_theorem.proofs.Full.{Full}
use Rattle.place_theorem.proofs.Numerals.{eqb_true, integer_of-difference}
use Rattle.place_theorem.proofs.Once.{start_tag}
use Rattle.place_theorem.proofs.Origins.{identity}
use Rattle.place_theorem.proofs.Settle.{index_kept}
use Rattle.place_theorem.proofs.Sound.{entry_of, inv_of, parted}
use Rattle.place_theorem.proofs.Whole.{call_in, ready, ready_keys, served}

some_is : (o : Option Bytes) → is_some o ≡ true → (u : Bytes) × (o ≡ Some u)
some_is None e = absurd (cc e)
some_is (Some u) e = (u, refl)

-- a tag is all that the table and its index name
pub members_tags : {N : Type 0} (σ : Full) (h p : History N) (t : Bytes) → IsSound σ.names h → IsHistoryPrefix p h → is_member σ.names (after p).store.keys t ≡ true → σ.names.is_tag t ≡ true
members_tags σ h p t sound pre is =
    let inv = inv_of σ h p sound pre in
    let s = parted σ h p sound pre in
    let e = some_is (table_entry σ.names (after p).store.keys t) (inv.alike t ∙ is) in
    go s.start (σ.names.body_in e.0) (identity σ h p t (σ.names.body_in e.0) sound pre (In_the_table e.0 e.1 refl))
  where
    go : IsSoundStart σ.names p.start p.used → (b : Bytes) → HasOrigin σ.names p t b → σ.names.is_tag t ≡ true
    go fit b (inl st) = start_tag σ p.start p.used fit t b st
    go fit b (inr o) = pushed_tag σ t b o.1.calls o.3

all_tags : (σ : Full) (ms : List Bytes) → ((x : Bytes) → Among x ms → σ.names.is_tag x ≡ true) → tags_among σ.names ms ≡ ms
all_tags σ [] all = refl
all_tags σ (x ∷ xs) all = ap (λ b. if b then x ∷ tags_among σ.names xs else tags_among σ.names xs) (all x (inl refl)) ∙ ap (λ l. x ∷ l) (all_tags σ xs (λ y is. all y (inr is)))

-- ---- the answer

-- only a connection outside MULTI and without channels is answered an array of this kind
read_at : (σ : Full) (at : ℕ) (s : State) (c : ℕ) (cn : Conn) (high low : ℤ) (skip most : ℕ) (ms : List Bytes) (q : Option Queue) (ch : List Bytes)
    → bulks ms ≡ (serve_by at s c cn (Zrevrangebyscore σ.names.index high low skip most) q ch).1 → ms ≡ ranks_of high low skip most (value_at s.keys σ.names.index)
read_at σ at s c cn high low skip most ms None [] is = ranks_are high low skip most ms (value_at s.keys σ.names.index) is
read_at σ at s c cn high low skip most ms (Some q) [] is = absurd (cc is)
read_at σ at s c cn high low skip most ms None (x ∷ xs) is = absurd (cc is)
read_at σ at s c cn high low skip most ms (Some q) (x ∷ xs) is = absurd (cc is)

-- what a range of the index gives are tags
pub pass_reads : {N : Type 0} (σ : Full) (h p : History N) (c at : ℕ) (words : Words) (reply : Reply) (high low : ℤ) (skip most : ℕ) (ms : List Bytes) → IsSound σ.names h → IsHistoryPrefix (and_then p (Called c at words reply ∷ [])) h
    → command_of words ≡ Zrevrangebyscore σ.names.index high low skip most → reply.answer ≡ bulks ms → ReadsTags σ.names (after p) at high low skip most ms
pass_reads {N = N} σ h p c at words reply high low skip most ms sound pre spelled answer =
    let e = entry_of σ h p (Called c at words reply) sound pre in
    let w = after p in
    let s : State = (ready w at c).store in
    let told' : bulks ms ≡ (serve at s c (Zrevrangebyscore σ.names.index high low skip most) (conn s.conns c)).1 = sym answer ∙ served w c at words reply e.1.3 ∙ ap (λ k. (serve at s c k (conn s.conns c)).1) spelled in
    let there : ms ≡ ranks_of high low skip most (value_at s.keys σ.names.index) = read_at σ at s c (conn s.conns c) high low skip most ms (conn s.conns c).queue (conn s.conns c).channels told' in
    let is : ms ≡ ranks_of high low skip most (value_at (settled w.store at).keys σ.names.index) = there ∙ ap (λ k. ranks_of high low skip most (value_at k σ.names.index)) (ready_keys w at c) in
    let whole : IsHistoryPrefix p h = ((Called c at words reply ∷ []) ++ pre.0, (λ i. record p { entries = sym (append_assoc p.entries (Called c at words reply ∷ []) pre.0) i }) ∙ pre.1) in
    record {
      members = is;
      tags = all_tags σ ms (λ y among.
          let due : has_member (value_at (settled w.store at).keys σ.names.index) y ≡ true = among_ranks y high low skip most (value_at (settled w.store at).keys σ.names.index) (subst (Among y) is among) in
          let before : is_member σ.names w.store.keys y ≡ true = sym (ap (λ o. has_member (value_of o) y) (index_kept σ w.store.keys at e.0.kinds)) ∙ due in
          members_tags σ h p y sound whole before);
    }

-- ---- each member is accounted for

returns_each : (σ : Full) (ts : List Bytes) (ends : List ReturnEnd) (l : List Call) (end : PassEnd) → end ≡ Done ends → IsReturns σ.names ts end l → length ends ≡ length ts
returns_each σ ts ends l end e All_returned = let z : ends ≡ [] = ends_of e in ap (λ (x : List ReturnEnd). length x) z
  where
    ends_of : Done [] ≡ Done ends → ends ≡ []
    ends_of i = cc i
returns_each σ ts ends l end e (Returned t us f es k k' h on more) =
    let z : ends ≡ f ∷ es = cc e in
    let r = returns_each σ us es k' (Done es) refl more in
    ap (λ (x : List ReturnEnd). length x) z ∙ ap (λ n. suc n) r
returns_each σ ts ends l end e (Returned_until t us f b k k' h on more) = absurd (cc e)
returns_each σ ts ends l end e (Ended_early t us k h) = absurd (cc e)

-- no end but the last is that of a return that was contended
returns_counted : (σ : Full) (ts : List Bytes) (ends : List ReturnEnd) (l : List Call) (end : PassEnd) → end ≡ Done ends → IsReturns σ.names ts end l → moved_count ends + gone_count ends + stayed_count ends ≡ length ends
returns_counted σ ts ends l end e All_returned = let z : ends ≡ [] = ends_of e in ap (λ x. moved_count x + gone_count x + stayed_count x) z ∙ sym (ap (λ (x : List ReturnEnd). length x) z)
  where
    ends_of : Done [] ≡ Done ends → ends ≡ []
    ends_of i = cc i
returns_counted σ ts ends l end e (Returned t us f es k k' h on more) =
    let z : ends ≡ f ∷ es = cc e in
    let r = returns_counted σ us es k' (Done es) refl more in
    subst (λ x. moved_count x + gone_count x + stayed_count x ≡ length x) (sym z) (one_more f es on r)
  where
    one_more : (f : ReturnEnd) (es : List ReturnEnd) → goes_on f ≡ true → moved_count es + gone_count es + stayed_count es ≡ length es → moved_count (f ∷ es) + gone_count (f ∷ es) + stayed_count (f ∷ es) ≡ length (f ∷ es)
    one_more Moved es i r = omega (arith, r)
    one_more Gone es i r = omega (arith, r)
    one_more Stayed es i r = omega (arith, r)
    one_more Contended es i r = absurd (cc i)
returns_counted σ ts ends l end e (Returned_until t us f b k k' h on more) = absurd (cc e)
returns_counted σ ts ends l end e (Ended_early t us k h) = absurd (cc e)

spelled_due : (σ : Full) (at v : ℕ) → at < 2 ^ 63 → v < 2 ^ 63 → command_of (due_words σ.names at v) ≡ Zrevrangebyscore σ.names.index (less at v) (pos 0) 0 10
unfolding command_of
spelled_due σ at v a b = ap (λ o. range_of σ.names.index o (Some (pos 0)) (Some 0) (Some 10)) (integer_of-difference at v a b)

-- a pass that read these accounts for them
pub pass_accounts : {N : Type 0} (σ : Full) (h p : History N) (c at v : ℕ) (reply : Reply) (ms : List Bytes) (ends : List ReturnEnd) (l : List Call) → IsSound σ.names h → IsHistoryPrefix (and_then p (Called c at (due_words σ.names at v) reply ∷ [])) h
    → at < 2 ^ 63 → v < 2 ^ 63 → reply.answer ≡ bulks ms → IsReturns σ.names (tags_among σ.names ms) (Done ends) l
    → (ms ≡ due_members σ.names (after p) at v) × (moved_count ends + gone_count ends + stayed_count ends ≡ length ms)
pass_accounts σ h p c at v reply ms ends l sound pre a b answer returns =
    let r = pass_reads σ h p c at (due_words σ.names at v) reply (less at v) (pos 0) 0 10 ms sound pre (spelled_due σ at v a b) answer in
    (r.members, returns_counted σ (tags_among σ.names ms) ends l (Done ends) refl returns ∙ returns_each σ (tags_among σ.names ms) ends l (Done ends) refl returns ∙ ap (λ (x : List Bytes). length x) r.tags)

-- ---- a whole pass among a client's calls

-- the entry of a call, with what comes before and after it, and the client's calls before it
abbrev pub FoundIn : {N : Type 0} → ℕ → List Call → Call → List (Entry N) → Type 0
FoundIn {N} c earlier x fs = (p : List (Entry N)) × (q : List (Entry N)) × (reply : Reply) × (fs ≡ p ++ Called c x.at x.words reply ∷ q) × (reply.answer ≡ x.answer) × (calls_of c p ≡ earlier)

-- a call of a client is an entry of the history
pub call_entry : {N : Type 0} (c : ℕ) (es : List (Entry N)) (earlier : List Call) (x : Call) (rest : List Call) → calls_of c es ≡ earlier ++ x ∷ rest → FoundIn c earlier x es
call_entry c [] earlier x rest e = absurd (no_calls earlier e)
  where
    no_calls : (l : List Call) → [] ≡ l ++ x ∷ rest → ⊥
    no_calls [] i = cc i
    no_calls (y ∷ ys) i = cc i
call_entry {N = N} c (e ∷ es) earlier x rest is = go e (λ l i. call_entry c es l x rest i) (conn_of e == c) refl is
  where
    later : (e : Entry N) (l l' : List Call) → ((p : List (Entry N)) → calls_of c p ≡ l → calls_of c (e ∷ p) ≡ l') → FoundIn c l x es → FoundIn c l' x (e ∷ es)
    later e l l' with_e f = (e ∷ f.0, f.1, f.2, ap (λ fs. e ∷ fs) f.3, f.4, with_e f.0 f.5)

    first_of_its : (e : Entry N) (b : Bool) (p : List (Entry N)) → (conn_of e == c) ≡ b → calls_of c (e ∷ p) ≡ calls_among (if b then e ∷ own_entries c p else own_entries c p)
    first_of_its e b p i = ap (λ b. calls_among (if b then e ∷ own_entries c p else own_entries c p)) i

    mine : (d at : ℕ) (words : Words) (reply : Reply) → ((l : List Call) → calls_of c es ≡ l ++ x ∷ rest → FoundIn c l x es) → (d == c) ≡ true → d ≡ c → (l : List Call) → call_in at words reply ∷ calls_of c es ≡ l ++ x ∷ rest → FoundIn c l x (Called d at words reply ∷ es)
    mine d at words reply next_one its same [] i =
        let here : call_in at words reply ≡ x = cc i in
        ([], es, reply, (λ j. Called (same j) (here j).at (here j).words reply ∷ es), ap (λ y. y.answer) here, refl)
    mine d at words reply next_one its same (y ∷ ys) i =
        let here : call_in at words reply ≡ y = cc i in
        later (Called d at words reply) ys (y ∷ ys) (λ p k. first_of_its (Called d at words reply) true p its ∙ (λ j. here j ∷ k j)) (next_one ys (cc i))

    go : (e : Entry N) → ((l : List Call) → calls_of c es ≡ l ++ x ∷ rest → FoundIn c l x es) → (b : Bool) → (conn_of e == c) ≡ b → calls_of c (e ∷ es) ≡ earlier ++ x ∷ rest → FoundIn c earlier x (e ∷ es)
    go e next_one false i is' = later e earlier earlier (λ p k. first_of_its e false p i ∙ k) (next_one earlier (sym (first_of_its e false es i) ∙ is'))
    go (Called d at words reply) next_one true i is' = mine d at words reply next_one i (eqb_true d c i) earlier (sym (first_of_its (Called d at words reply) true es i) ∙ is')
    go (Heard d note) next_one true i is' = later (Heard d note) earlier earlier (λ p k. first_of_its (Heard d note) true p i ∙ k) (next_one earlier (sym (first_of_its (Heard d note) true es i) ∙ is'))
    go (Stop d) next_one true i is' = later (Stop d) earlier earlier (λ p k. first_of_its (Stop d) true p i ∙ k) (next_one earlier (sym (first_of_its (Stop d) true es i) ∙ is'))

-- so each whole pass does
pub whole_pass : {N : Type 0} (σ : Full) (h : History N) (c v : ℕ) (token : Bytes) (ends : List ReturnEnd) (earlier l rest : List Call) → IsSound σ.names h → calls_of c h.entries ≡ earlier ++ (l ++ rest)
    → IsPassBlock σ.names token v (Done ends) l → AreEarly l → v < 2 ^ 63 → AccountsForAll σ.names h c v token ends earlier l
whole_pass {N = N} σ h c v token ends earlier l rest sound is block early small = go (Done ends) l refl block early is
  where
    go : (end : PassEnd) (l : List Call) → end ≡ Done ends → IsPassBlock σ.names token v end l → AreEarly l → calls_of c h.entries ≡ earlier ++ (l ++ rest) → AccountsForAll σ.names h c v token ends earlier l
    go end l e (Is_held a) early' is' = absurd (cc e)
    go end l e (Ran_pass a b ms f k k' returns free) early' is' =
        let x : Call = call b (due_words σ.names b v) (bulks ms) in
        let first : Call = call a (lock_words σ.names token) done in
        let part = call_entry c h.entries (earlier ++ first ∷ []) x ((k ++ k') ++ rest) (is' ∙ sym (append_assoc earlier (first ∷ []) (x ∷ (k ++ k') ++ rest))) in
        let p : History N = record h { entries = part.0 } in
        let whole : and_then (and_then p (Called c b (due_words σ.names b v) part.2 ∷ [])) part.1 ≡ h = λ i. record h { entries = (append_assoc part.0 (Called c b (due_words σ.names b v) part.2 ∷ []) part.1 ∙ sym part.3) i } in
        let done_with : IsReturns σ.names (tags_among σ.names ms) (Done ends) k = subst (λ z. IsReturns σ.names (tags_among σ.names ms) z k) e returns in
        let read = pass_reads σ h p c b (due_words σ.names b v) part.2 (less b v) (pos 0) 0 10 ms sound (part.1, whole) (spelled_due σ b v early'.1.0 small) part.4 in
        let r = pass_accounts σ h p c b v part.2 ms ends k sound (part.1, whole) early'.1.0 small part.4 done_with in
        record {
          before = p;
          locked = a;
          at = b;
          reply = part.2;
          is_before = (part.1, whole);
          its_own = part.5;
          members = ms;
          answered = part.4;
          due = r.0;
          returns = k;
          release = k';
          calls = refl;
          in_order = subst (λ ts. IsReturns σ.names ts (Done ends) k) read.tags done_with;
          released = free;
          counted = r.1;
        }
