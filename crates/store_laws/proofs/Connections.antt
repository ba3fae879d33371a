-- What commands leave of connections: each that watches an altered key is marked, and at most messages on its channels come to be pending.
use Rattle.std.proofs.Common.{◌≡◌, ◌≢◌, ◌⊎◌, inl, inr, ◌≤◌, ◌<◌, ◌+◌, ℕ, List, [], ◌∷◌, ◌++◌, length, length-append, Bool, true, false, cond, nat_lt, refl, sym, ap, subst, ◌∙◌, Some, Option, arith}
use Rattle.std.specs.Prelude.{◌||◌, map, if◌then◌else◌}
use Rattle.std.specs.Ordering.{nat_cmp, eq_by_cmp}
use Rattle.std.proofs.lemmas.Bool.{and_parts}
use Rattle.std.proofs.lemmas.Bool.Decides.{nat_tests}
use Rattle.std.proofs.lemmas.Cmp.{nat_cmp_total}
use Rattle.wire_values.specs.declared.value.Value.{Value}
use Rattle.std.specs.FinMap.{insert, remove, entries, from_entries, get-entries, get-from_entries, nat_cmp-IsAntisymmetric}
use Rattle.std.specs.FinMap.Entries.{find}
use Rattle.store_model.specs.Words.{Bytes}
use Rattle.store_model.specs.Replies.{message}
use Rattle.store_model.specs.Keys.{Keys}
use Rattle.store_model.specs.Commands.{run}
use Rattle.store_model.specs.Connections.{Conns, no_conn, or_no_conn, conn, hit, touch, touched, hears, around, reached, delivered, posted}
use Rattle.store_model.specs.Store.{State, run_all, run_one, run_queue, gone_of}
use Rattle.store_model.specs.declared.command.Command.{Command}
use Rattle.store_model.specs.declared.command.Command.TheVariants.{Publish}
use Rattle.store_model.specs.declared.connection.Queue.{Queue}
use Rattle.store_model.specs.declared.connection.Conn.{Conn}
use Rattle.store_laws.specs.Laws.{AreHeard, IsTouched, IsGone}
use Rattle.store_laws.proofs.Maps.{get-insert_same, get-insert_other, get-remove_same, get-remove_other}
use Rattle.store_laws.proofs.Law.{hit-append}

-- ---- one connection

pub hit_none : (ks : List Bytes) → hit ks [] ≡ false
hit_none [] = refl
hit_none (k ∷ ks) = hit_none ks

pub or_false : (b : Bool) → (b || false) ≡ b
or_false true = refl
or_false false = refl

or_assoc : (a b c : Bool) → ((a || b) || c) ≡ (a || (b || c))
or_assoc true b c = refl
or_assoc false b c = refl

pub append_none : {A : Type 0} (xs : List A) → xs ++ [] ≡ xs
append_none [] = refl
append_none (x ∷ xs) = ap (λ ys. x ∷ ys) (append_none xs)

append_assoc : {A : Type 0} (xs ys zs : List A) → (xs ++ ys) ++ zs ≡ xs ++ (ys ++ zs)
append_assoc [] ys zs = refl
append_assoc (x ∷ xs) ys zs = ap (λ ws. x ∷ ws) (append_assoc xs ys zs)

-- a connection by what it has
pub conn_is : (c : Conn) (q : Option Queue) (w : List Bytes) (b : Bool) (ch : List Bytes) → c.queue ≡ q → c.watched ≡ w → c.marked ≡ b → c.channels ≡ ch
    → c ≡ record { queue = q; watched = w; marked = b; channels = ch; pending = c.pending }
conn_is c q w b ch eq ew eb ec = λ i. record { queue = eq i; watched = ew i; marked = eb i; channels = ec i; pending = c.pending }

pub touch_none : (c : Conn) → touch [] c ≡ c
touch_none c = λ i. record c { marked = or_false c.marked i }

-- nothing was altered, and nothing came
pub untouched : (c : Conn) → IsTouched [] c c
untouched c = record { queue = refl; watched = refl; marked = sym (or_false c.marked); channels = refl; pending = ([], sym (append_none c.pending), tt); room = inl refl }

pub touched_by : (ks : List Bytes) (c : Conn) → IsTouched ks c (touch ks c)
touched_by ks c = record { queue = refl; watched = refl; marked = refl; channels = refl; pending = ([], sym (append_none c.pending), tt); room = inl refl }

-- messages after messages
heard-append : (channels : List Bytes) (vs ws : List Value) → AreHeard channels vs → AreHeard channels ws → AreHeard channels (vs ++ ws)
heard-append channels [] ws h i = i
heard-append channels (v ∷ vs) ws h i = (h.0, heard-append channels vs ws h.1 i)

-- what came in two steps, or in one of them
room_then : (xs ys zs : List Value) → (ys ≡ xs) ⊎ (length ys ≤ 1024) → (zs ≡ ys) ⊎ (length zs ≤ 1024) → (zs ≡ xs) ⊎ (length zs ≤ 1024)
room_then xs ys zs h (inr le) = inr le
room_then xs ys zs (inl e) (inl f) = inl (f ∙ e)
room_then xs ys zs (inr le) (inl f) = inr (subst (λ l. length l ≤ 1024) (sym f) le)

pub touched_then : (ks ks' : List Bytes) (c c' c'' : Conn) → IsTouched ks c c' → IsTouched ks' c' c'' → IsTouched (ks ++ ks') c c''
touched_then ks ks' c c' c'' t u = record {
  queue = u.queue ∙ t.queue;
  watched = u.watched ∙ t.watched;
  marked = u.marked ∙ (λ i. t.marked i || hit ks' (t.watched i)) ∙ or_assoc c.marked (hit ks c.watched) (hit ks' c.watched) ∙ ap (λ b. c.marked || b) (sym (hit-append ks ks' c.watched));
  channels = u.channels ∙ t.channels;
  pending = (t.pending.0 ++ u.pending.0, u.pending.1 ∙ ap (λ xs. xs ++ u.pending.0) t.pending.1 ∙ append_assoc c.pending t.pending.0 u.pending.0, heard-append c.channels t.pending.0 u.pending.0 t.pending.2 (subst (λ cs. AreHeard cs u.pending.0) t.channels u.pending.2));
  room = room_then c.pending c'.pending c''.pending t.room u.room;
}

-- ---- maps of connections

find_mapped : (f : Conn → Conn) (c : ℕ) (es : List (ℕ × Conn)) → f no_conn ≡ no_conn → or_no_conn (find nat_cmp c (map (λ e. (e.0, f e.1)) es)) ≡ f (or_no_conn (find nat_cmp c es))
find_mapped f c [] none = sym none
find_mapped f c (e ∷ es) none = elim (eq_by_cmp nat_cmp c e.0) as (λ b. or_no_conn (cond b (Some (f e.1)) (find nat_cmp c (map (λ e. (e.0, f e.1)) es))) ≡ f (or_no_conn (cond b (Some e.1) (find nat_cmp c es)))) [
  | true ↦ refl
  | false ↦ find_mapped f c es none
]

conn-mapped : (f : Conn → Conn) (m : Conns) (c : ℕ) → f no_conn ≡ no_conn → conn (from_entries (map (λ e. (e.0, f e.1)) (entries m))) c ≡ f (conn m c)
conn-mapped f m c none = ap or_no_conn (get-from_entries nat_cmp_total (map (λ e. (e.0, f e.1)) (entries m)) c) ∙ find_mapped f c (entries m) none ∙ ap (λ o. f (or_no_conn o)) (sym (get-entries m c))

pub conn-touched : (ks : List Bytes) (m : Conns) (c : ℕ) → conn (touched ks m) c ≡ touch ks (conn m c)
unfolding touched
conn-touched ks m c = conn-mapped (touch ks) m c (ap (λ b. record no_conn { marked = b }) (hit_none ks))

pub conn-delivered : (channel text : Bytes) (m : Conns) (c : ℕ) → conn (delivered channel text m) c ≡ reached channel text (conn m c)
unfolding delivered
conn-delivered channel text m c = conn-mapped (reached channel text) m c refl

one_more : (vs : List Value) (v : Value) → nat_lt (length vs) 1024 ≡ true → length (vs ++ v ∷ []) ≤ 1024
one_more vs v e =
    let long : length (vs ++ v ∷ []) ≡ length vs + 1 = length-append vs (v ∷ []) in
    let few : length vs < 1024 = grind (arith, nat_tests) in
    omega (arith, long, few)

told_kept : (channel text : Bytes) (c : Conn) → IsTouched [] c (reached channel text c)
told_kept channel text c = go (hears channel c) refl
  where
    go : (b : Bool) → hears channel c ≡ b → IsTouched [] c (if b then record c { pending = c.pending ++ message channel text ∷ [] } else c)
    go true e =
        let s = and_parts _ _ e in
        record { queue = refl; watched = refl; marked = sym (or_false c.marked); channels = refl; pending = (message channel text ∷ [], refl, ((channel, text, s.0, refl), tt)); room = inr (one_more c.pending (message channel text) s.1) }
    go false e = untouched c

-- a command alters no more of a connection than its pending messages by what it posts
pub posted_kept : (command : Command) (m : Conns) (c : ℕ) → IsTouched [] (conn m c) (conn (posted command m) c)
posted_kept (Publish channel text) m c = subst (IsTouched [] (conn m c)) (sym (conn-delivered channel text m c)) (told_kept channel text (conn m c))
posted_kept other m c = untouched (conn m c)

-- each connection after keys were altered
pub marks_kept : (ks : List Bytes) (m m' : Conns) (c : ℕ) → IsTouched [] (conn m c) (conn m' c) → IsTouched ks (conn m c) (conn (touched ks m') c)
marks_kept ks m m' c t = touched_then [] ks (conn m c) (conn m' c) _ t (subst (IsTouched ks (conn m' c)) (sym (conn-touched ks m' c)) (touched_by ks (conn m' c)))

pub run_one_conns : (at : ℕ) (s : State) (command : Command) (c : ℕ) → IsTouched (run (around at s.conns) s.keys command).altered (conn s.conns c) (conn (run_one at s command).0.conns c)
run_one_conns at s command c = marks_kept (run (around at s.conns) s.keys command).altered s.conns (posted command s.conns) c (posted_kept command s.conns c)

pub run_all_conns : (at : ℕ) (m : Keys) (cs : Conns) (commands : List Command) (c : ℕ) → IsTouched [] (conn cs c) (conn (run_all at m cs commands).conns c)
run_all_conns at m cs [] c = untouched (conn cs c)
run_all_conns at m cs (command ∷ later) c =
    touched_then [] [] (conn cs c) (conn (posted command cs) c) _ (posted_kept command cs c) (run_all_conns at (run (around at cs) m command).keys (posted command cs) later c)

pub run_queue_conns : (at : ℕ) (s : State) (commands : List Command) (c : ℕ) → IsTouched (run_all at s.keys s.conns commands).altered (conn s.conns c) (conn (run_queue at s commands).0.conns c)
run_queue_conns at s commands c = marks_kept (run_all at s.keys s.conns commands).altered s.conns (run_all at s.keys s.conns commands).conns c (run_all_conns at s.keys s.conns commands c)

-- ---- one connection is set or goes

pub set_same : (m : Conns) (c : ℕ) (cn : Conn) → conn (insert m c cn) c ≡ cn
set_same m c cn = ap or_no_conn (get-insert_same nat_cmp nat_cmp_total nat_cmp-IsAntisymmetric m c cn)

pub set_other : (m : Conns) (c : ℕ) (cn : Conn) (d : ℕ) → d ≢ c → conn (insert m c cn) d ≡ conn m d
set_other m c cn d n = ap or_no_conn (get-insert_other nat_cmp nat_cmp_total nat_cmp-IsAntisymmetric m c cn d n)

pub gone_same : (m : Conns) (c : ℕ) → conn (remove m c) c ≡ no_conn
gone_same m c = ap or_no_conn (get-remove_same nat_cmp nat_cmp_total nat_cmp-IsAntisymmetric m c)

pub gone_other : (m : Conns) (c d : ℕ) → d ≢ c → conn (remove m c) d ≡ conn m d
gone_other m c d n = ap or_no_conn (get-remove_other nat_cmp nat_cmp_total nat_cmp-IsAntisymmetric m c d n)

pub is_gone : (s : State) (c : ℕ) → IsGone s (gone_of s c) c
is_gone s c = record { keys = refl; unknown = gone_same s.conns c; others = λ d n. gone_other s.conns c d n }

pub set_kept : (m : Conns) (c : ℕ) (cn : Conn) (d : ℕ) → d ≢ c → IsTouched [] (conn m d) (conn (insert m c cn) d)
set_kept m c cn d n = subst (IsTouched [] (conn m d)) (sym (set_other m c cn d n)) (untouched (conn m d))

-- ---- keys don't hang on connections

-- what a command does to the keys doesn't hang on who listens
pub run_same : (at : ℕ) (l l' : Bytes → ℕ) (m : Keys) (c : Command) → (run (record { moment = at; listeners = l }) m c).keys ≡ (run (record { moment = at; listeners = l' }) m c).keys
run_same at l l' m (Publish channel text) = refl
run_same at l l' m other = refl

pub run_same_altered : (at : ℕ) (l l' : Bytes → ℕ) (m : Keys) (c : Command) → (run (record { moment = at; listeners = l }) m c).altered ≡ (run (record { moment = at; listeners = l' }) m c).altered
run_same_altered at l l' m (Publish channel text) = refl
run_same_altered at l l' m other = refl

pub run_all_same : (at : ℕ) (m : Keys) (cs cs' : Conns) (commands : List Command) → (run_all at m cs commands).keys ≡ (run_all at m cs' commands).keys
run_all_same at m cs cs' [] = refl
run_all_same at m cs cs' (c ∷ later) =
    run_all_same at (run (around at cs) m c).keys (posted c cs) (posted c cs') later
    ∙ ap (λ n. (run_all at n (posted c cs') later).keys) (run_same at (around at cs).listeners (around at cs').listeners m c)

pub run_all_same_altered : (at : ℕ) (m : Keys) (cs cs' : Conns) (commands : List Command) → (run_all at m cs commands).altered ≡ (run_all at m cs' commands).altered
run_all_same_altered at m cs cs' [] = refl
run_all_same_altered at m cs cs' (c ∷ later) =
    let here = run_same_altered at (around at cs).listeners (around at cs').listeners m c in
    let there = run_all_same_altered at (run (around at cs) m c).keys (posted c cs) (posted c cs') later
    ∙ ap (λ n. (run_all at n (posted c cs') later).altered) (run_same at (around at cs).listeners (around at cs').listeners m c) in
    λ i. here i ++ there i
