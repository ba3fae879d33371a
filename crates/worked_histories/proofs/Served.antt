-- Clients of a store over lists: what each call leaves and is answered there is what the store leaves and answers.
use Rattle.std.proofs.Common.{◌≡◌, ℕ, List, [], ◌∷◌, ◌++◌, Bool, true, false, refl, ap, ◌∙◌, None, Some, Option, length, nat_lt}
use Rattle.std.specs.Prelude.{map, not, ◌&&◌, option_map}
use Rattle.std.specs.Ordering.{nat_cmp}
use Rattle.std.proofs.lemmas.Cmp.{nat_cmp_total}
use Rattle.std.specs.FinMap.{from_entries, retain_keys, nat_cmp-IsAntisymmetric}
use Rattle.std.specs.FinMap.Entries.{find, where_key}
use Rattle.wire_values.specs.Order.{bytes_cmp}
use Rattle.wire_values.specs.declared.value.Value.{Value}
use Rattle.wire_values.specs.declared.value.Value.TheVariants.{Array, NullArray}
use Rattle.store_tables.proofs.Maps.{bytes_total, bytes_anti}
use Rattle.store_model.specs.Words.{Bytes, Words, command_of}
use Rattle.store_model.specs.Replies.{done, queued}
use Rattle.store_model.specs.Keys.{due_keys, is_expired, live_at}
use Rattle.store_model.specs.Commands.{is_queued}
use Rattle.store_model.specs.Connections.{Conns, or_no_conn, conn, touch, touched, around, posted, with_queue, cleared}
use Rattle.store_model.specs.Store.{State, Outcomes, run_all, run_one, run_queue, execute, executed, to_queue, inside, outside_transaction, serve_by, serve, settled, quiet, answered, answer_to, apply_of}
use Rattle.store_model.specs.declared.command.Command.{Command}
use Rattle.store_model.specs.declared.command.Command.TheVariants.{Watch, Unwatch, Multi, Exec, Discard, Publish, Subscribe, Unsubscribe, Faulty}
use Rattle.store_model.specs.declared.connection.Queue.{Queue}
use Rattle.store_model.specs.declared.connection.Conn.{Conn}
use Rattle.worked_histories.proofs.Listed.{in_order, changed, entries_are, get_is, retained_is, in_order_is, where_changed, order_changed, Shelf, held_of, keys_of, held_is, does, does_is, is_done}

-- the keys and the connections, as lists
pub record Desk : Type 0 where
  pub keys : Shelf
  pub conns : List (ℕ × Conn)

abbrev pub state_of : Desk → State
state_of d = record { keys = keys_of d.keys; conns = from_entries d.conns }

no_way : {A : Type 0} → false ≡ true → A
no_way e = absurd (cc e)

pub both_are : (a b : Bool) → (a && b) ≡ true → (a ≡ true) × (b ≡ true)
both_are true b e = (refl, e)
both_are false b e = no_way e

-- ---- connections

abbrev pub conn_at : Desk → ℕ → Conn
conn_at d c = or_no_conn (find nat_cmp c d.conns)

conn_is : (d : Desk) (c : ℕ) → conn (state_of d).conns c ≡ conn_at d c
conn_is d c = ap or_no_conn (get_is nat_cmp_total nat_cmp-IsAntisymmetric d.conns c)

abbrev pub with_conn : Desk → ℕ → Conn → Desk
with_conn d c cn = record { keys = d.keys; conns = (c, cn) ∷ d.conns }

abbrev pub marked_by : List Bytes → List (ℕ × Conn) → List (ℕ × Conn)
marked_by ks cs = map (λ e. (e.0, touch ks e.1)) (in_order nat_cmp cs)

marked_is : (ks : List Bytes) (cs : List (ℕ × Conn)) → touched ks (from_entries cs) ≡ from_entries (marked_by ks cs)
unfolding touched
marked_is ks cs = ap (λ es. from_entries (map (λ e. (e.0, touch ks e.1)) es)) (entries_are nat_cmp_total nat_cmp-IsAntisymmetric cs)

-- ---- what is due

abbrev pub due_at : ℕ → Shelf → List Bytes
due_at at K = due_keys at (changed held_of (in_order bytes_cmp K))

abbrev pub lasts : ℕ → Shelf → Bytes → Bool
lasts at K k = not (is_expired at (option_map held_of (find bytes_cmp k K)))

abbrev pub settle : ℕ → Desk → Desk
settle at d = record { keys = where_key bytes_cmp (lasts at d.keys) (in_order bytes_cmp d.keys); conns = marked_by (due_at at d.keys) d.conns }

live_is : (at : ℕ) (K : Shelf) → live_at at (keys_of K) ≡ keys_of (where_key bytes_cmp (lasts at K) (in_order bytes_cmp K))
live_is at K =
    (λ i. retain_keys (keys_of K) (λ k. not (is_expired at (held_is K k i))))
    ∙ (ap (λ m. retain_keys m (lasts at K)) (in_order_is bytes_total bytes_anti (changed held_of K) ∙ ap from_entries (order_changed bytes_cmp held_of K))
    ∙ (retained_is bytes_total bytes_anti (changed held_of (in_order bytes_cmp K)) (lasts at K)
    ∙ ap from_entries (where_changed bytes_cmp held_of (lasts at K) (in_order bytes_cmp K))))

settle_is : (at : ℕ) (d : Desk) → settled (state_of d) at ≡ state_of (settle at d)
settle_is at d =
    ap (λ es. record { keys = live_at at (keys_of d.keys); conns = touched (due_keys at es) (from_entries d.conns) }) (entries_are bytes_total bytes_anti (changed held_of d.keys) ∙ order_changed bytes_cmp held_of d.keys)
    ∙ (λ i. record { keys = live_is at d.keys i; conns = marked_is (due_at at d.keys) d.conns i })

-- ---- commands that run

posted_is : (command : Command) (cs : Conns) → is_done command ≡ true → posted command cs ≡ cs
posted_is (Publish c x) cs h = no_way h
posted_is other cs h = refl

abbrev pub run_alone : ℕ → Desk → Command → Desk × Value
run_alone at d command = let r = does at d.keys command in (record { keys = r.keys; conns = marked_by r.altered d.conns }, r.answer)

abbrev pub served : Desk × Value → State × Value
served p = (state_of p.0, p.1)

run_alone_is : (at : ℕ) (d : Desk) (command : Command) → is_done command ≡ true → run_one at (state_of d) command ≡ served (run_alone at d command)
run_alone_is at d command h =
    (λ i. let r = does_is (around at (from_entries d.conns)) d.keys command h i in (record { keys = r.keys; conns = touched r.altered (posted_is command (from_entries d.conns) h i) }, r.answer))
    ∙ ap (λ cs. (record { keys = keys_of (does at d.keys command).keys; conns = cs }, (does at d.keys command).answer)) (marked_is (does at d.keys command).altered d.conns)

-- what commands in a row leave
pub record LeftAll : Type 0 where
  pub keys : Shelf
  pub altered : List Bytes
  pub answers : List Value

abbrev pub run_each : ℕ → Shelf → List Command → LeftAll
run_each at K [] = record { keys = K; altered = []; answers = [] }
run_each at K (command ∷ later) = let r = does at K command in let rs = run_each at r.keys later in record { keys = rs.keys; altered = r.altered ++ rs.altered; answers = r.answer ∷ rs.answers }

abbrev pub all_done : List Command → Bool
all_done [] = true
all_done (command ∷ later) = is_done command && all_done later

abbrev outcomes_of : Conns → LeftAll → Outcomes
outcomes_of cs l = record { keys = keys_of l.keys; conns = cs; altered = l.altered; answers = l.answers }

run_each_is : (at : ℕ) (K : Shelf) (cs : Conns) (commands : List Command) → all_done commands ≡ true → run_all at (keys_of K) cs commands ≡ outcomes_of cs (run_each at K commands)
run_each_is at K cs [] h = refl
run_each_is at K cs (command ∷ later) h =
    let b = both_are (is_done command) (all_done later) h in
    (λ i. let r = does_is (around at cs) K command b.0 i in let rs = run_all at r.keys (posted_is command cs b.0 i) later in record { keys = rs.keys; conns = rs.conns; altered = r.altered ++ rs.altered; answers = r.answer ∷ rs.answers })
    ∙ ap (λ (rs : Outcomes). let r = does at K command in record { keys = rs.keys; conns = rs.conns; altered = r.altered ++ rs.altered; answers = r.answer ∷ rs.answers }) (run_each_is at (does at K command).keys cs later b.1)

abbrev pub run_queued : ℕ → Desk → List Command → Desk × Value
run_queued at d commands = let r = run_each at d.keys commands in (record { keys = r.keys; conns = marked_by r.altered d.conns }, Array r.answers)

run_queued_is : (at : ℕ) (d : Desk) (commands : List Command) → all_done commands ≡ true → run_queue at (state_of d) commands ≡ served (run_queued at d commands)
run_queued_is at d commands h =
    ap (λ (r : Outcomes). (record { keys = r.keys; conns = touched r.altered r.conns }, Array r.answers)) (run_each_is at d.keys (from_entries d.conns) commands h)
    ∙ ap (λ cs. (record { keys = keys_of (run_each at d.keys commands).keys; conns = cs }, Array (run_each at d.keys commands).answers)) (marked_is (run_each at d.keys commands).altered d.conns)

-- ---- a command of a client

abbrev pub executes : ℕ → Desk → ℕ → Conn → List Command → Bool → Desk × Value
executes at d c cn commands true = (with_conn d c (cleared cn), NullArray)
executes at d c cn commands false = run_queued at (with_conn d c (cleared cn)) commands

executes_is : (at : ℕ) (d : Desk) (c : ℕ) (cn : Conn) (commands : List Command) (b : Bool) → all_done commands ≡ true → execute at (state_of d) c cn commands b ≡ served (executes at d c cn commands b)
executes_is at d c cn commands true h = refl
executes_is at d c cn commands false h = run_queued_is at (with_conn d c (cleared cn)) commands h

-- a command may come inside a transaction, or outside one
abbrev pub may_come : Command → Option Queue → Bool
may_come Exec (Some q) = not q.broken && all_done q.commands
may_come Multi None = true
may_come (Watch ks) None = true
may_come Unwatch None = true
may_come command None = is_done command
may_come command (Some q) = is_done command && (is_queued command && nat_lt (length q.commands) 4096)

abbrev pub comes_alone : ℕ → Desk → ℕ → Conn → Command → Desk × Value
comes_alone at d c cn Multi = (with_conn d c (with_queue cn [] false), done)
comes_alone at d c cn (Watch ks) = (with_conn d c (record cn { watched = cn.watched ++ ks }), done)
comes_alone at d c cn Unwatch = (with_conn d c (record cn { watched = []; marked = false }), done)
comes_alone at d c cn command = run_alone at d command

comes_alone_is : (at : ℕ) (d : Desk) (c : ℕ) (cn : Conn) (command : Command) → may_come command None ≡ true → outside_transaction at (state_of d) c cn command ≡ served (comes_alone at d c cn command)
comes_alone_is at d c cn Multi h = refl
comes_alone_is at d c cn (Watch ks) h = refl
comes_alone_is at d c cn Unwatch h = refl
comes_alone_is at d c cn Exec h = no_way h
comes_alone_is at d c cn (Subscribe x) h = no_way h
comes_alone_is at d c cn (Unsubscribe x) h = no_way h
comes_alone_is at d c cn other h = run_alone_is at d other h

abbrev pub comes_inside : ℕ → Desk → ℕ → Conn → Queue → Command → Desk × Value
comes_inside at d c cn q Exec = executes at d c cn q.commands cn.marked
comes_inside at d c cn q command = (with_conn d c (with_queue cn (q.commands ++ command ∷ []) q.broken), queued)

-- what may be queued is
to_queue_is : (d : Desk) (c : ℕ) (cn : Conn) (q : Queue) (command : Command) (a b : Bool) → (a && b) ≡ true → to_queue (state_of d) c cn q command a b ≡ served (with_conn d c (with_queue cn (q.commands ++ command ∷ []) q.broken), queued)
to_queue_is d c cn q command true true h = refl
to_queue_is d c cn q command true false h = no_way h
to_queue_is d c cn q command false b h = no_way h

executed_is : (at : ℕ) (d : Desk) (c : ℕ) (cn : Conn) (commands : List Command) (broken : Bool) → (not broken && all_done commands) ≡ true → executed at (state_of d) c cn commands broken ≡ served (executes at d c cn commands cn.marked)
executed_is at d c cn commands true h = no_way h
executed_is at d c cn commands false h = executes_is at d c cn commands cn.marked h

comes_inside_is : (at : ℕ) (d : Desk) (c : ℕ) (cn : Conn) (q : Queue) (command : Command) → may_come command (Some q) ≡ true → inside at (state_of d) c cn q command ≡ served (comes_inside at d c cn q command)
comes_inside_is at d c cn q Exec h = executed_is at d c cn q.commands q.broken h
comes_inside_is at d c cn q Discard h = no_way h
comes_inside_is at d c cn q (Faulty fault heard) h = no_way h
comes_inside_is at d c cn q Multi h = no_way h
comes_inside_is at d c cn q (Watch ks) h = no_way h
comes_inside_is at d c cn q Unwatch h = no_way h
comes_inside_is at d c cn q other h = to_queue_is d c cn q other (is_queued other) (nat_lt (length q.commands) 4096) (both_are (is_done other) (is_queued other && nat_lt (length q.commands) 4096) h).1

abbrev pub comes_by : ℕ → Desk → ℕ → Conn → Command → Option Queue → Desk × Value
comes_by at d c cn command None = comes_alone at d c cn command
comes_by at d c cn command (Some q) = comes_inside at d c cn q command

abbrev none : {A : Type 0} → List A → Bool
none [] = true
none (x ∷ xs) = false

serve_is : (at : ℕ) (d : Desk) (c : ℕ) (cn : Conn) (command : Command) (o : Option Queue) (channels : List Bytes) → none channels ≡ true → may_come command o ≡ true → serve_by at (state_of d) c cn command o channels ≡ served (comes_by at d c cn command o)
serve_is at d c cn command None [] h k = comes_alone_is at d c cn command k
serve_is at d c cn command (Some q) [] h k = comes_inside_is at d c cn q command k
serve_is at d c cn command None (x ∷ xs) h k = no_way h
serve_is at d c cn command (Some q) (x ∷ xs) h k = no_way h

-- ---- a call

abbrev pub takes_call : ℕ → Desk → ℕ → Words → Desk × Value
takes_call at d c words = let e = settle at d in let cn = conn_at e c in comes_by at e c cn (command_of words) cn.queue

-- the call is one that is done here
abbrev pub may_call : ℕ → Desk → ℕ → Words → Bool
may_call at d c words = let cn = conn_at (settle at d) c in (none cn.channels && none cn.pending) && may_come (command_of words) cn.queue

answered_is : (at : ℕ) (e : Desk) (c : ℕ) (command : Command) (cn : Conn) (pending : List Value) → none pending ≡ true → none cn.channels ≡ true → may_come command cn.queue ≡ true → conn (state_of e).conns c ≡ cn
    → answered at (quiet (state_of e) c cn pending) c command pending ≡ (let p = comes_by at e c cn command cn.queue in (state_of p.0, record { pushed = []; answer = p.1 }))
answered_is at e c command cn [] h k l is =
    ap (λ x. let r = serve at (state_of e) c command x in (r.0, record { pushed = []; answer = r.1 })) is
    ∙ ap (λ (r : State × Value). (r.0, record { pushed = []; answer = r.1 })) (serve_is at e c cn command cn.queue cn.channels k l)
answered_is at e c command cn (x ∷ xs) h k l is = no_way h

pub call_is : (at : ℕ) (d : Desk) (c : ℕ) (words : Words) → may_call at d c words ≡ true → apply_of (state_of d) at c words ≡ (let p = takes_call at d c words in (state_of p.0, record { pushed = []; answer = p.1 }))
unfolding answer_to
call_is at d c words h =
    let e = settle at d in
    let cn = conn_at e c in
    let a = both_are (none cn.channels && none cn.pending) (may_come (command_of words) cn.queue) h in
    let b = both_are (none cn.channels) (none cn.pending) a.0 in
    ap (λ s. answer_to at s c words) (settle_is at d)
    ∙ (ap (λ x. answered at (quiet (state_of e) c x x.pending) c (command_of words) x.pending) (conn_is e c)
    ∙ answered_is at e c (command_of words) cn cn.pending b.1 b.0 a.1 (conn_is e c))
