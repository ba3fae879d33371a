-- What a command of one connection leaves beside it: a key that isn't told of as altered is as before, and each other connection is at most marked, or has further messages pending.
use Rattle.std.proofs.Common.{◌≡◌, ◌≢◌, ℕ, List, [], ◌∷◌, ◌++◌, Bool, true, false, refl, sym, subst, ◌∙◌, None, Some, Option, inr}
use Rattle.std.specs.Prelude.{length, nat_lt}
use Rattle.std.specs.FinMap.{insert, entries}
use Rattle.wire_values.specs.declared.value.Value.{Value}
use Rattle.store_model.specs.Words.{Bytes, Words, command_of}
use Rattle.store_model.specs.Keys.{due_keys}
use Rattle.store_model.specs.Commands.{run, is_queued}
use Rattle.store_model.specs.Connections.{conn, around, cleared, with_queue}
use Rattle.store_model.specs.Store.{State, set_conn, run_all, run_one, run_queue, execute, executed, to_queue, inside, outside_transaction, is_heard, heard_plain, spoken, serve_by, serve, settled, quiet, answered, answer_to, apply_of, gone_of}
use Rattle.store_model.specs.declared.command.Command.{Command}
use Rattle.store_model.specs.declared.command.Command.TheVariants.{Ping, Watch, Unwatch, Multi, Exec, Discard, Subscribe, Unsubscribe, Faulty}
use Rattle.store_model.specs.declared.connection.Queue.{Queue}
use Rattle.store_model.specs.declared.connection.Conn.{Conn}
use Rattle.store_laws.specs.Laws.{IsTouched, IsElsewhere}
use Rattle.store_laws.proofs.Law.{ToldBy, told_then, told_from, untold, run_one_told, run_queue_told}
use Rattle.store_laws.proofs.Connections.{untouched, touched_then, set_same, set_kept, gone_other, run_one_conns, run_queue_conns, conn_is, hit_none}
use Rattle.store_laws.proofs.Settled.{settled_told, settled_conns}

-- what is told of each key, and what each other connection has
pub made : (s s' : State) (c : ℕ) (ks : List Bytes) → ((k : Bytes) → ToldBy s.keys k ks s'.keys) → ((d : ℕ) → d ≢ c → IsTouched ks (conn s.conns d) (conn s'.conns d)) → IsElsewhere s s' c
made s s' c ks told conns = record { altered = ks; keys = λ k n. untold s.keys s'.keys k ks (told k) n; conns = conns }

pub told_by : (s s' : State) (c : ℕ) (e : IsElsewhere s s' c) (k : Bytes) → ToldBy s.keys k e.altered s'.keys
told_by s s' c e k = told_from s.keys s'.keys k e.altered (e.keys k)

pub elsewhere_same : (s : State) (c : ℕ) → IsElsewhere s s c
elsewhere_same s c = made s s c [] (λ k. inr refl) (λ d n. untouched (conn s.conns d))

pub elsewhere_set : (s : State) (c : ℕ) (cn : Conn) → IsElsewhere s (set_conn s c cn) c
elsewhere_set s c cn = made s (set_conn s c cn) c [] (λ k. inr refl) (λ d n. set_kept s.conns c cn d n)

pub elsewhere_then : (s s' s'' : State) (c : ℕ) → IsElsewhere s s' c → IsElsewhere s' s'' c → IsElsewhere s s'' c
elsewhere_then s s' s'' c e f = made s s'' c (e.altered ++ f.altered)
    (λ k. told_then s.keys s'.keys s''.keys k e.altered f.altered (told_by s s' c e k) (told_by s' s'' c f k))
    (λ d n. touched_then e.altered f.altered (conn s.conns d) (conn s'.conns d) (conn s''.conns d) (e.conns d n) (f.conns d n))

pub elsewhere_run : (at : ℕ) (s : State) (c : ℕ) (command : Command) → IsElsewhere s (run_one at s command).0 c
elsewhere_run at s c command = made s (run_one at s command).0 c (run (around at s.conns) s.keys command).altered (λ k. run_one_told at s command k) (λ d n. run_one_conns at s command d)

pub elsewhere_queue : (at : ℕ) (s : State) (c : ℕ) (commands : List Command) → IsElsewhere s (run_queue at s commands).0 c
elsewhere_queue at s c commands = made s (run_queue at s commands).0 c (run_all at s.keys s.conns commands).altered (λ k. run_queue_told at s commands k) (λ d n. run_queue_conns at s commands d)

elsewhere_execute : (at : ℕ) (s : State) (c : ℕ) (cn : Conn) (commands : List Command) (b : Bool) → IsElsewhere s (execute at s c cn commands b).0 c
elsewhere_execute at s c cn commands true = elsewhere_set s c (cleared cn)
elsewhere_execute at s c cn commands false = elsewhere_then s (set_conn s c (cleared cn)) _ c (elsewhere_set s c (cleared cn)) (elsewhere_queue at (set_conn s c (cleared cn)) c commands)

elsewhere_executed : (at : ℕ) (s : State) (c : ℕ) (cn : Conn) (commands : List Command) (b : Bool) → IsElsewhere s (executed at s c cn commands b).0 c
elsewhere_executed at s c cn commands true = elsewhere_set s c (cleared cn)
elsewhere_executed at s c cn commands false = elsewhere_execute at s c cn commands cn.marked

elsewhere_to_queue : (s : State) (c : ℕ) (cn : Conn) (q : Queue) (command : Command) (a b : Bool) → IsElsewhere s (to_queue s c cn q command a b).0 c
elsewhere_to_queue s c cn q command true true = elsewhere_set s c _
elsewhere_to_queue s c cn q command true false = elsewhere_set s c (with_queue cn q.commands true)
elsewhere_to_queue s c cn q command false b = elsewhere_set s c (with_queue cn q.commands true)

elsewhere_inside : (at : ℕ) (s : State) (c : ℕ) (cn : Conn) (q : Queue) (command : Command) → IsElsewhere s (inside at s c cn q command).0 c
elsewhere_inside at s c cn q Exec = elsewhere_executed at s c cn q.commands q.broken
elsewhere_inside at s c cn q Discard = elsewhere_set s c (cleared cn)
elsewhere_inside at s c cn q (Faulty fault heard) = elsewhere_set s c (with_queue cn q.commands true)
elsewhere_inside at s c cn q other = elsewhere_to_queue s c cn q other (is_queued other) (nat_lt (length q.commands) 4096)

elsewhere_plain : (at : ℕ) (s : State) (c : ℕ) (cn : Conn) (command : Command) → IsElsewhere s (outside_transaction at s c cn command).0 c
elsewhere_plain at s c cn Multi = elsewhere_set s c _
elsewhere_plain at s c cn (Watch ks) = elsewhere_set s c _
elsewhere_plain at s c cn Unwatch = elsewhere_set s c _
elsewhere_plain at s c cn (Subscribe x) = elsewhere_set s c _
elsewhere_plain at s c cn (Unsubscribe x) = elsewhere_set s c _
elsewhere_plain at s c cn other = elsewhere_run at s c other

elsewhere_heard : (at : ℕ) (s : State) (c : ℕ) (cn : Conn) (command : Command) → IsElsewhere s (heard_plain at s c cn command).0 c
elsewhere_heard at s c cn Ping = elsewhere_same s c
elsewhere_heard at s c cn other = elsewhere_plain at s c cn other

elsewhere_spoken : (at : ℕ) (s : State) (c : ℕ) (cn : Conn) (command : Command) (q : Option Queue) (b : Bool) → IsElsewhere s (spoken at s c cn command q b).0 c
elsewhere_spoken at s c cn command None false = elsewhere_same s c
elsewhere_spoken at s c cn command (Some q) false = elsewhere_set s c (with_queue cn q.commands true)
elsewhere_spoken at s c cn command None true = elsewhere_heard at s c cn command
elsewhere_spoken at s c cn command (Some q) true = elsewhere_inside at s c cn q command

elsewhere_serve_by : (at : ℕ) (s : State) (c : ℕ) (cn : Conn) (command : Command) (q : Option Queue) (channels : List Bytes) → IsElsewhere s (serve_by at s c cn command q channels).0 c
elsewhere_serve_by at s c cn command None [] = elsewhere_plain at s c cn command
elsewhere_serve_by at s c cn command (Some q) [] = elsewhere_inside at s c cn q command
elsewhere_serve_by at s c cn command None (x ∷ xs) = elsewhere_spoken at s c cn command None (is_heard command)
elsewhere_serve_by at s c cn command (Some q) (x ∷ xs) = elsewhere_spoken at s c cn command (Some q) (is_heard command)

pub elsewhere_serve : (at : ℕ) (s : State) (c : ℕ) (command : Command) (cn : Conn) → IsElsewhere s (serve at s c command cn).0 c
elsewhere_serve at s c command cn = elsewhere_serve_by at s c cn command cn.queue cn.channels

-- ---- pending messages

-- the state after connection c was told its pending messages
abbrev pub heard_state : State → ℕ → State
heard_state s c = quiet s c (conn s.conns c) (conn s.conns c).pending

elsewhere_quiet : (s : State) (c : ℕ) (cn : Conn) (messages : List Value) → IsElsewhere s (quiet s c cn messages) c
elsewhere_quiet s c cn [] = elsewhere_same s c
elsewhere_quiet s c cn (x ∷ xs) = elsewhere_set s c _

keys_quiet : (s : State) (c : ℕ) (cn : Conn) (messages : List Value) → (quiet s c cn messages).keys ≡ s.keys
keys_quiet s c cn [] = refl
keys_quiet s c cn (x ∷ xs) = refl

pub heard_keys : (s : State) (c : ℕ) → (heard_state s c).keys ≡ s.keys
heard_keys s c = keys_quiet s c (conn s.conns c) (conn s.conns c).pending

pub heard_own : (s : State) (c : ℕ) → conn (heard_state s c).conns c ≡ record (conn s.conns c) { pending = [] }
heard_own s c = go (conn s.conns c).pending refl
  where
    go : (messages : List Value) → (conn s.conns c).pending ≡ messages → conn (quiet s c (conn s.conns c) messages).conns c ≡ record (conn s.conns c) { pending = [] }
    go [] e = λ i. record (conn s.conns c) { pending = e i }
    go (x ∷ xs) e = set_same s.conns c _

-- a command is served at the state after the pending messages were told
pub answer_is : (at : ℕ) (s : State) (c : ℕ) (words : Words) → answer_to at s c words ≡ answered at (heard_state s c) c (command_of words) (conn s.conns c).pending
unfolding answer_to
answer_is at s c words = refl

-- ---- a whole step

pub elsewhere_answer : (at : ℕ) (s : State) (c : ℕ) (words : Words) → IsElsewhere s (answer_to at s c words).0 c
unfolding answer_to
elsewhere_answer at s c words = elsewhere_then s (heard_state s c) _ c (elsewhere_quiet s c (conn s.conns c) (conn s.conns c).pending) (elsewhere_serve at (heard_state s c) c (command_of words) (conn (heard_state s c).conns c))

pub elsewhere_settled : (s : State) (at c : ℕ) → IsElsewhere s (settled s at) c
elsewhere_settled s at c = made s (settled s at) c (due_keys at (entries s.keys)) (λ k. settled_told s at k) (λ d n. settled_conns s at d)

pub elsewhere_apply : (s : State) (at c : ℕ) (words : Words) → IsElsewhere s (apply_of s at c words).0 c
elsewhere_apply s at c words = elsewhere_then s (settled s at) _ c (elsewhere_settled s at c) (elsewhere_answer at (settled s at) c words)

pub elsewhere_gone : (s : State) (c : ℕ) → IsElsewhere s (gone_of s c) c
elsewhere_gone s c = made s (gone_of s c) c [] (λ k. inr refl) (λ d n. subst (IsTouched [] (conn s.conns d)) (sym (gone_other s.conns c d n)) (untouched (conn s.conns d)))

-- ---- one's own connection

-- after EXEC nothing is queued, watched or marked
pub cleared_stays : (ks : List Bytes) (cn now : Conn) → IsTouched ks (cleared cn) now → now ≡ record { queue = None; watched = []; marked = false; channels = cn.channels; pending = now.pending }
cleared_stays ks cn now t = conn_is now None [] false cn.channels t.queue t.watched (t.marked ∙ hit_none ks) t.channels

-- the connection that let a queue run
pub executed_own : (at : ℕ) (s : State) (c : ℕ) (cn : Conn) (commands : List Command) → let r = (run_queue at (set_conn s c (cleared cn)) commands).0 in
    conn r.conns c ≡ record { queue = None; watched = []; marked = false; channels = cn.channels; pending = (conn r.conns c).pending }
executed_own at s c cn commands =
    let t = run_queue_conns at (set_conn s c (cleared cn)) commands c in
    cleared_stays (run_all at s.keys (insert s.conns c (cleared cn)) commands).altered cn _ (subst (λ b. IsTouched (run_all at s.keys (insert s.conns c (cleared cn)) commands).altered b (conn (run_queue at (set_conn s c (cleared cn)) commands).0.conns c)) (set_same s.conns c (cleared cn)) t)

-- and the other ones
pub executed_others : (at : ℕ) (s : State) (c : ℕ) (cn : Conn) (commands : List Command) (d : ℕ) → d ≢ c
    → IsTouched (run_all at s.keys (insert s.conns c (cleared cn)) commands).altered (conn s.conns d) (conn (run_queue at (set_conn s c (cleared cn)) commands).0.conns d)
executed_others at s c cn commands d n = touched_then [] _ (conn s.conns d) (conn (insert s.conns c (cleared cn)) d) _ (set_kept s.conns c (cleared cn) d n) (run_queue_conns at (set_conn s c (cleared cn)) commands d)
