-- The store: its state, and what a command of a connection does to it.
use Rattle.std.specs.Prelude.{ℕ, Bool, true, false, List, [], ◌∷◌, ◌++◌, length, nat_lt, codes, Option, None, Some, refl, not, is_some, map, bytes_eq, ◌&&◌, if◌then◌else◌}
use Rattle.std.specs.List.{list_any}
use Rattle.std.specs.Coded.{Coded, code_by, coded×, coded_list, coded_ℕ, coded_bool}
use Rattle.std.specs.FinMap.{get, empty, insert, remove, code, entries}
use Rattle.wire_values.specs.declared.value.Value.{Value}
use Rattle.wire_values.specs.declared.value.Value.TheVariants.{Error, Array, NullArray}
use Rattle.store_model.specs.Words.{Bytes, Words, brpop_of, command_of, upper_byte}
use Rattle.store_model.specs.Limits.{queue_limit}
use Rattle.store_model.specs.Replies.{done, queued, fault_text, subscribed, not_inside, full, aborted, pair, channel_answer}
use Rattle.store_model.specs.Keys.{Keys, due_keys, is_expired, live_at}
use Rattle.store_model.specs.Commands.{run, is_queued}
use Rattle.store_model.specs.Connections.{Conns, conn, touched, around, posted, joined, without, with_queue, cleared}
use Rattle.store_model.specs.declared.command.Command.{Command}
use Rattle.store_model.specs.declared.command.Command.TheVariants.{Brpop, Ping, Watch, Unwatch, Multi, Exec, Discard, Subscribe, Unsubscribe, Faulty}
use Rattle.store_model.specs.declared.held.Held.{Held}
use Rattle.store_model.specs.declared.connection.Queue.{Queue}
use Rattle.store_model.specs.declared.connection.Conn.{Conn}
use Rattle.store_model.specs.declared.reply.Reply.{Reply}
use Rattle.store_model.specs.contracts.connection.Conn.{the_row as conn_row}
use Rattle.store_model.specs.contracts.held.Held.{the_row as held_row}

-- the keys, and what is known of each connection
pub record State : Type 0 where
  pub keys : Keys
  pub conns : Conns

-- a store as contracts see it: its state, and whether it is spent since a command wanted memory
pub record StoreView : Type 0 where
  pub state : State
  pub spent : Bool

-- keys can stand in a model
abbrev pub keys_code : Coded Keys
keys_code = code (coded_list coded_ℕ) held_row.coded

-- connections can stand in a model
abbrev pub conns_code : Coded Conns
conns_code = code coded_ℕ conn_row.coded

-- a state can stand in a model
abbrev pub state_code : Coded State
state_code = code_by (Keys × Conns) (coded× keys_code conns_code) (λ s. (s.keys, s.conns)) (λ p. record { keys = p.0; conns = p.1 }) (λ _. refl)

-- a store can stand in a model
abbrev pub view_code : Coded StoreView
view_code = code_by (State × Bool) (coded× state_code coded_bool) (λ s. (s.state, s.spent)) (λ p. record { state = p.0; spent = p.1 }) (λ _. refl)

-- no key, and no connection is known
abbrev pub empty_state : State
empty_state = record { keys = empty; conns = empty }

-- the state with this connection
abbrev pub set_conn : State → ℕ → Conn → State
set_conn s c cn = record s { conns = insert s.conns c cn }

-- what commands in a row leave
pub record Outcomes : Type 0 where
  pub keys : Keys
  pub conns : Conns
  pub altered : List Bytes
  pub answers : List Value

-- commands in a row, at one moment
abbrev pub run_all : ℕ → Keys → Conns → List Command → Outcomes
run_all at m cs [] = record { keys = m; conns = cs; altered = []; answers = [] }
run_all at m cs (command ∷ later) =
    let r = run (around at cs) m command in
    let rs = run_all at r.keys (posted command cs) later in
    record { keys = rs.keys; conns = rs.conns; altered = r.altered ++ rs.altered; answers = r.answer ∷ rs.answers }

-- a command that runs at once
abbrev pub run_one : ℕ → State → Command → State × Value
run_one at s command =
    let r = run (around at s.conns) s.keys command in
    (record { keys = r.keys; conns = touched r.altered (posted command s.conns) }, r.answer)

-- the commands of a queue, run for EXEC, and the array of their answers
abbrev pub run_queue : ℕ → State → List Command → State × Value
run_queue at s commands =
    let r = run_all at s.keys s.conns commands in
    (record { keys = r.keys; conns = touched r.altered r.conns }, Array r.answers)

-- EXEC of a whole queue, by whether a watched key was altered
abbrev pub execute : ℕ → State → ℕ → Conn → List Command → Bool → State × Value
execute at s c cn commands true = (set_conn s c (cleared cn), NullArray)
execute at s c cn commands false = run_queue at (set_conn s c (cleared cn)) commands

-- EXEC, by whether the queue is broken
abbrev pub executed : ℕ → State → ℕ → Conn → List Command → Bool → State × Value
executed at s c cn commands true = (set_conn s c (cleared cn), aborted)
executed at s c cn commands false = execute at s c cn commands cn.marked

-- an error before queueing marks a queue broken
abbrev pub refused : State → ℕ → Conn → Option Queue → Value → State × Value
refused s c cn None answer = (s, answer)
refused s c cn (Some q) answer = (set_conn s c (with_queue cn q.commands true), answer)

-- a command after MULTI, by whether it may be queued and whether the queue has room: a queue has at most 4,096 commands
abbrev pub to_queue : State → ℕ → Conn → Queue → Command → Bool → Bool → State × Value
to_queue s c cn q command true true = (set_conn s c (with_queue cn (q.commands ++ command ∷ []) q.broken), queued)
to_queue s c cn q command true false = refused s c cn (Some q) full
to_queue s c cn q command false room = refused s c cn (Some q) not_inside

-- DISCARD
abbrev pub discard : State → ℕ → Conn → State × Value
discard s c cn = (set_conn s c (cleared cn), done)

-- a command after MULTI
abbrev pub inside : ℕ → State → ℕ → Conn → Queue → Command → State × Value
inside at s c cn q Exec = executed at s c cn q.commands q.broken
inside at s c cn q Discard = discard s c cn
inside at s c cn q (Faulty fault heard) = refused s c cn (Some q) (Error (fault_text fault))
inside at s c cn q command = to_queue s c cn q command (is_queued command) (nat_lt (length q.commands) queue_limit)

-- SUBSCRIBE
abbrev pub subscribe : State → ℕ → Conn → Bytes → State × Value
subscribe s c cn x = let cs = joined x cn.channels in (set_conn s c (record cn { channels = cs }), channel_answer (codes "subscribe") x (length cs))

-- UNSUBSCRIBE
abbrev pub unsubscribe : State → ℕ → Conn → Bytes → State × Value
unsubscribe s c cn x = let cs = without x cn.channels in (set_conn s c (record cn { channels = cs }), channel_answer (codes "unsubscribe") x (length cs))

-- MULTI
abbrev pub multi : State → ℕ → Conn → State × Value
multi s c cn = (set_conn s c (with_queue cn [] false), done)

-- WATCH
abbrev pub watch : State → ℕ → Conn → List Bytes → State × Value
watch s c cn ks = (set_conn s c (record cn { watched = cn.watched ++ ks }), done)

-- UNWATCH
abbrev pub unwatch : State → ℕ → Conn → State × Value
unwatch s c cn = (set_conn s c (record cn { watched = []; marked = false }), done)

-- a command outside MULTI
abbrev pub outside_transaction : ℕ → State → ℕ → Conn → Command → State × Value
outside_transaction at s c cn Multi = multi s c cn
outside_transaction at s c cn (Watch ks) = watch s c cn ks
outside_transaction at s c cn Unwatch = unwatch s c cn
outside_transaction at s c cn (Subscribe x) = subscribe s c cn x
outside_transaction at s c cn (Unsubscribe x) = unsubscribe s c cn x
outside_transaction at s c cn command = run_one at s command

-- the commands that a subscribed connection may use
abbrev pub is_heard : Command → Bool
is_heard Ping = true
is_heard (Subscribe x) = true
is_heard (Unsubscribe x) = true
is_heard (Faulty fault heard) = heard
is_heard other = false

-- PING of a subscribed connection has an answer of its own
abbrev pub heard_plain : ℕ → State → ℕ → Conn → Command → State × Value
heard_plain at s c cn Ping = (s, pair (codes "pong") [])
heard_plain at s c cn command = outside_transaction at s c cn command

-- a command of a subscribed connection, by its queue and whether it may be used
abbrev pub spoken : ℕ → State → ℕ → Conn → Command → Option Queue → Bool → State × Value
spoken at s c cn command queue false = refused s c cn queue subscribed
spoken at s c cn command None true = heard_plain at s c cn command
spoken at s c cn command (Some q) true = inside at s c cn q command

-- a command, by the queue and the channels of its connection
abbrev pub serve_by : ℕ → State → ℕ → Conn → Command → Option Queue → List Bytes → State × Value
serve_by at s c cn command None [] = outside_transaction at s c cn command
serve_by at s c cn command (Some q) [] = inside at s c cn q command
serve_by at s c cn command queue (x ∷ xs) = spoken at s c cn command queue (is_heard command)

-- a command of a connection
abbrev pub serve : ℕ → State → ℕ → Command → Conn → State × Value
serve at s c command cn = serve_by at s c cn command cn.queue cn.channels

-- what is due is dropped first, and who watches it is marked
abbrev pub settled : State → ℕ → State
settled s at = record { keys = live_at at s.keys; conns = touched (due_keys at (entries s.keys)) s.conns }

-- the state after a connection was told these pending messages
abbrev pub quiet : State → ℕ → Conn → List Value → State
quiet s c cn [] = s
quiet s c cn (x ∷ xs) = set_conn s c (record cn { pending = [] })

-- a command of a connection that was told its pending messages
abbrev pub answered : ℕ → State → ℕ → Command → List Value → State × Reply
answered at s c command messages = let r = serve at s c command (conn s.conns c) in (r.0, record { pushed = messages; answer = r.1 })

-- the words are taken at a state in which nothing is due, after the pending messages
unfoldable pub answer_to : ℕ → State → ℕ → Words → State × Reply
answer_to at s c words = let cn = conn s.conns c in answered at (quiet s c cn cn.pending) c (command_of words) cn.pending

-- the state and the reply after a command
abbrev pub apply_of : State → ℕ → ℕ → Words → State × Reply
apply_of s at c words = answer_to at (settled s at) c words

-- the state without all that the connection has
abbrev pub gone_of : State → ℕ → State
gone_of s c = record s { conns = remove s.conns c }

-- the key is there, and its expiry isn't reached
abbrev pub is_live : ℕ → Option Held → Bool
is_live at o = is_some o && not (is_expired at o)

-- whether a command finds what it would wait for: BRPOP by its keys, any other does
abbrev pub finds : ℕ → Keys → Command → Bool
finds at m (Brpop ks) = list_any (λ k. is_live at (get m k)) ks
finds at m other = true

-- false exactly where the words are a lawful BRPOP and every named key is absent or gone at this moment
abbrev pub ready_of : State → ℕ → Words → Bool
ready_of s at [] = true
ready_of s at (name ∷ args) = if bytes_eq (map upper_byte name) (codes "BRPOP") then finds at s.keys (brpop_of args) else true
