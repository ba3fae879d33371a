-- Each step keeps the limits of a store.
use Rattle.std.proofs.Common.{◌≡◌, ◌≢◌, ◌⊎◌, inl, inr, ℕ, ◌≤◌, ◌<◌, List, [], ◌∷◌, ◌++◌, length, length-append, Bool, true, false, refl, sym, ap, subst, ◌∙◌, arith, None, Some, Option}
use Rattle.std.specs.Prelude.{All, ◌&&◌, not, nat_lt, bytes_eq, if◌then◌else◌}
use Rattle.std.specs.List.{list_any}
use Rattle.std.specs.Ordering.{nat_cmp}
use Rattle.std.proofs.lemmas.Bool.Decides.{nat_tests}
use Rattle.std.proofs.lemmas.List.Elements.{All-nil, All-cons, All-head, All-tail, All-append, All-push}
use Rattle.std.specs.FinMap.{get, insert, remove, entries, get-empty}
use Rattle.wire_values.specs.Order.{bytes_cmp}
use Rattle.wire_values.specs.declared.value.Value.{Value}
use Rattle.wire_grammar.specs.Fits.{IsShort, IsWithinLimits}
use Rattle.wire_grammar.proofs.Fitted.{words_short}
use Rattle.store_model.specs.Limits.{pending_limit, queue_limit}
use Rattle.store_model.specs.Words.{Bytes, Words, command_of}
use Rattle.store_model.specs.Replies.{message}
use Rattle.store_model.specs.Keys.{Keys, due_keys, is_expired, live_at}
use Rattle.store_model.specs.Commands.{run, is_queued}
use Rattle.store_model.specs.Connections.{Conns, no_conn, or_no_conn, conn, touch, touched, hears, around, reached, posted, joined, without, with_queue, cleared}
use Rattle.store_model.specs.Store.{State, empty_state, set_conn, run_all, run_one, run_queue, execute, executed, to_queue, inside, outside_transaction, is_heard, heard_plain, spoken, serve_by, serve, settled, quiet, answer_to, apply_of, gone_of}
use Rattle.store_model.specs.declared.command.Command.{Command}
use Rattle.store_model.specs.declared.command.Command.TheVariants.{Ping, Watch, Unwatch, Multi, Exec, Discard, Subscribe, Unsubscribe, Publish, Faulty}
use Rattle.store_model.specs.declared.held.Held.{Held}
use Rattle.store_model.specs.declared.connection.Queue.{Queue}
use Rattle.store_model.specs.declared.connection.Conn.{Conn}
use Rattle.store_laws.specs.StoreLimits.{IsLimited, AreLimited, IsShortCommand, IsWaiting, IsLimitedQueue, IsMessage, IsLimitedConn, AreLimitedConns, HasLimits}
use Rattle.store_laws.proofs.Maps.{conn_or}
use Rattle.store_laws.proofs.Connections.{conn-touched, conn-delivered, set_same, set_other, gone_same, gone_other}
use Rattle.store_laws.proofs.Settled.{get-live_at}
use Rattle.store_laws.proofs.KeysLimited.{run_limited}
use Rattle.store_laws.proofs.CommandsShort.{command_short}

-- ---- one connection

limited_touch : (ks : List Bytes) (cn : Conn) → IsLimitedConn cn → IsLimitedConn (touch ks cn)
limited_touch ks cn l = record { queue = l.queue; apart = l.apart; watched = l.watched; channels = l.channels; few = l.few; pending = l.pending }

both_hold : (a b : Bool) → (a && b) ≡ true → b ≡ true
both_hold true b e = e
both_hold false b e = absurd (cc e)

limited_reached : (channel text : Bytes) (cn : Conn) → IsShort channel → IsShort text → IsLimitedConn cn → IsLimitedConn (reached channel text cn)
limited_reached channel text cn a b l = go (hears channel cn) refl
  where
    go : (t : Bool) → hears channel cn ≡ t → IsLimitedConn (if t then record cn { pending = cn.pending ++ message channel text ∷ [] } else cn)
    go false e = l
    go true e =
        let room : nat_lt (length cn.pending) pending_limit ≡ true = both_hold (list_any (bytes_eq channel) cn.channels) (nat_lt (length cn.pending) pending_limit) e in
        let less : length cn.pending < pending_limit = grind (arith, nat_tests) in
        record {
          queue = l.queue;
          apart = l.apart;
          watched = l.watched;
          channels = l.channels;
          few = omega (arith, less, length-append cn.pending (message channel text ∷ []));
          pending = All-push IsMessage cn.pending (message channel text) l.pending (channel, text, refl, a, b);
        }

limited_cleared : (cn : Conn) → IsLimitedConn cn → IsLimitedConn (cleared cn)
limited_cleared cn l = record { queue = tt; apart = inl refl; watched = All-nil IsShort; channels = l.channels; few = l.few; pending = l.pending }

limited_queue : (cn : Conn) (commands : List Command) (b : Bool) → cn.channels ≡ [] → length commands ≤ queue_limit → All IsWaiting commands → IsLimitedConn cn → IsLimitedConn (with_queue cn commands b)
limited_queue cn commands b none few all l = record { queue = (few, all); apart = inr none; watched = l.watched; channels = l.channels; few = l.few; pending = l.pending }

-- with a queue there are no channels
no_channels : (cn : Conn) (q : Queue) → cn.queue ≡ Some q → IsLimitedConn cn → cn.channels ≡ []
no_channels cn q e l = go l.apart
  where
    go : (cn.queue ≡ None) ⊎ (cn.channels ≡ []) → cn.channels ≡ []
    go (inl none) = absurd (cc (none, e))
    go (inr none) = none

queue_of : (cn : Conn) (q : Queue) → cn.queue ≡ Some q → IsLimitedConn cn → (length q.commands ≤ queue_limit) × All IsWaiting q.commands
queue_of cn q e l = subst IsLimitedQueue e l.queue

-- ---- all connections

limited_touched : (ks : List Bytes) (cs : Conns) → AreLimitedConns cs → AreLimitedConns (touched ks cs)
limited_touched ks cs all c = subst IsLimitedConn (sym (conn-touched ks cs c)) (limited_touch ks (conn cs c) (all c))

limited_posted : (command : Command) (cs : Conns) → IsShortCommand command → AreLimitedConns cs → AreLimitedConns (posted command cs)
limited_posted (Publish channel text) cs is all = λ c. subst IsLimitedConn (sym (conn-delivered channel text cs c)) (limited_reached channel text (conn cs c) is.0 is.1 (all c))
limited_posted other cs is all = all

limited_set : (cs : Conns) (c : ℕ) (cn : Conn) → IsLimitedConn cn → AreLimitedConns cs → AreLimitedConns (insert cs c cn)
limited_set cs c cn l all d = go (conn_or d c)
  where
    go : (d ≡ c) ⊎ (d ≢ c) → IsLimitedConn (conn (insert cs c cn) d)
    go (inl e) = subst (λ x. IsLimitedConn (conn (insert cs c cn) x)) (sym e) (subst IsLimitedConn (sym (set_same cs c cn)) l)
    go (inr n) = subst IsLimitedConn (sym (set_other cs c cn d n)) (all d)

pub state_set : (s : State) (c : ℕ) (cn : Conn) → IsLimitedConn cn → HasLimits s → HasLimits (set_conn s c cn)
state_set s c cn l h = record { keys = h.keys; conns = limited_set s.conns c cn l h.conns }

-- ---- commands that run

limited_run : (at : ℕ) (s : State) (command : Command) → IsShortCommand command → HasLimits s → HasLimits (run_one at s command).0
limited_run at s command is h = record {
  keys = run_limited (around at s.conns) s.keys command is h.keys;
  conns = limited_touched (run (around at s.conns) s.keys command).altered (posted command s.conns) (limited_posted command s.conns is h.conns);
}

limited_all : (at : ℕ) (m : Keys) (cs : Conns) (commands : List Command) → All IsWaiting commands → AreLimited m → AreLimitedConns cs → AreLimited (run_all at m cs commands).keys × AreLimitedConns (run_all at m cs commands).conns
limited_all at m cs [] all a b = (a, b)
limited_all at m cs (command ∷ later) all a b =
    let is = (All-head IsWaiting command later all).1 in
    limited_all at (run (around at cs) m command).keys (posted command cs) later (All-tail IsWaiting command later all) (run_limited (around at cs) m command is a) (limited_posted command cs is b)

limited_run_queue : (at : ℕ) (s : State) (commands : List Command) → All IsWaiting commands → HasLimits s → HasLimits (run_queue at s commands).0
limited_run_queue at s commands all h =
    let r = limited_all at s.keys s.conns commands all h.keys h.conns in
    record { keys = r.0; conns = limited_touched (run_all at s.keys s.conns commands).altered (run_all at s.keys s.conns commands).conns r.1 }

limited_execute : (at : ℕ) (s : State) (c : ℕ) (cn : Conn) (commands : List Command) (b : Bool) → All IsWaiting commands → IsLimitedConn cn → HasLimits s → HasLimits (execute at s c cn commands b).0
limited_execute at s c cn commands true all l h = state_set s c (cleared cn) (limited_cleared cn l) h
limited_execute at s c cn commands false all l h = limited_run_queue at (set_conn s c (cleared cn)) commands all (state_set s c (cleared cn) (limited_cleared cn l) h)

limited_executed : (at : ℕ) (s : State) (c : ℕ) (cn : Conn) (commands : List Command) (b : Bool) → All IsWaiting commands → IsLimitedConn cn → HasLimits s → HasLimits (executed at s c cn commands b).0
limited_executed at s c cn commands true all l h = state_set s c (cleared cn) (limited_cleared cn l) h
limited_executed at s c cn commands false all l h = limited_execute at s c cn commands cn.marked all l h

broken : (s : State) (c : ℕ) (cn : Conn) (q : Queue) → cn.queue ≡ Some q → IsLimitedConn cn → HasLimits s → HasLimits (set_conn s c (with_queue cn q.commands true))
broken s c cn q e l h = let had = queue_of cn q e l in state_set s c _ (limited_queue cn q.commands true (no_channels cn q e l) had.0 had.1 l) h

limited_to_queue : (s : State) (c : ℕ) (cn : Conn) (q : Queue) (command : Command) (a b : Bool) → is_queued command ≡ a → nat_lt (length q.commands) queue_limit ≡ b → cn.queue ≡ Some q → IsShortCommand command → IsLimitedConn cn → HasLimits s → HasLimits (to_queue s c cn q command a b).0
limited_to_queue s c cn q command true true may room e is l h =
    let had = queue_of cn q e l in
    let less : length q.commands < queue_limit = grind (arith, nat_tests) in
    state_set s c _ (limited_queue cn (q.commands ++ command ∷ []) q.broken (no_channels cn q e l) (omega (arith, less, length-append q.commands (command ∷ []))) (All-push IsWaiting q.commands command had.1 (may, is)) l) h
limited_to_queue s c cn q command true false may room e is l h = broken s c cn q e l h
limited_to_queue s c cn q command false b may room e is l h = broken s c cn q e l h

limited_inside : (at : ℕ) (s : State) (c : ℕ) (cn : Conn) (q : Queue) (command : Command) → cn.queue ≡ Some q → IsShortCommand command → IsLimitedConn cn → HasLimits s → HasLimits (inside at s c cn q command).0
limited_inside at s c cn q Exec e is l h = limited_executed at s c cn q.commands q.broken (queue_of cn q e l).1 l h
limited_inside at s c cn q Discard e is l h = state_set s c (cleared cn) (limited_cleared cn l) h
limited_inside at s c cn q (Faulty fault heard) e is l h = broken s c cn q e l h
limited_inside at s c cn q other e is l h = limited_to_queue s c cn q other (is_queued other) (nat_lt (length q.commands) queue_limit) refl refl e is l h

-- ---- commands on the connection

limited_channels : (cn : Conn) (channels : List Bytes) → cn.queue ≡ None → All IsShort channels → IsLimitedConn cn → IsLimitedConn (record cn { channels = channels })
limited_channels cn channels none all l = record { queue = l.queue; apart = inl none; watched = l.watched; channels = all; few = l.few; pending = l.pending }

limited_joined : (x : Bytes) (channels : List Bytes) → IsShort x → All IsShort channels → All IsShort (joined x channels)
limited_joined x channels is all = go (list_any (bytes_eq x) channels)
  where
    go : (b : Bool) → All IsShort (if b then channels else channels ++ x ∷ [])
    go true = all
    go false = All-push IsShort channels x all is

limited_without : (x : Bytes) (channels : List Bytes) → All IsShort channels → All IsShort (without x channels)
limited_without x [] all = all
limited_without x (y ∷ ys) all = go (not (bytes_eq x y)) (limited_without x ys (All-tail IsShort y ys all))
  where
    go : (b : Bool) → All IsShort (without x ys) → All IsShort (if b then y ∷ without x ys else without x ys)
    go true rest = All-cons IsShort y (without x ys) (All-head IsShort y ys all) rest
    go false rest = rest

limited_plain : (at : ℕ) (s : State) (c : ℕ) (cn : Conn) (command : Command) → cn.queue ≡ None → (command ≡ Multi → cn.channels ≡ []) → IsShortCommand command → IsLimitedConn cn → HasLimits s → HasLimits (outside_transaction at s c cn command).0
limited_plain at s c cn Multi none may is l h = state_set s c _ (limited_queue cn [] false (may refl) (omega arith) (All-nil IsWaiting) l) h
limited_plain at s c cn (Watch ks) none may is l h = state_set s c _ (record { queue = l.queue; apart = l.apart; watched = All-append IsShort cn.watched ks l.watched is; channels = l.channels; few = l.few; pending = l.pending }) h
limited_plain at s c cn Unwatch none may is l h = state_set s c _ (record { queue = l.queue; apart = l.apart; watched = All-nil IsShort; channels = l.channels; few = l.few; pending = l.pending }) h
limited_plain at s c cn (Subscribe x) none may is l h = state_set s c _ (limited_channels cn (joined x cn.channels) none (limited_joined x cn.channels is l.channels) l) h
limited_plain at s c cn (Unsubscribe x) none may is l h = state_set s c _ (limited_channels cn (without x cn.channels) none (limited_without x cn.channels l.channels) l) h
limited_plain at s c cn other none may is l h = limited_run at s other is h

-- MULTI isn't among the commands of a subscribed connection
no_multi : (command : Command) (A : Type 0) → is_heard command ≡ true → command ≡ Multi → A
no_multi command A heard e = let no : is_heard Multi ≡ true = subst (λ x. is_heard x ≡ true) e heard in absurd (cc no)

limited_heard : (at : ℕ) (s : State) (c : ℕ) (cn : Conn) (command : Command) → is_heard command ≡ true → cn.queue ≡ None → IsShortCommand command → IsLimitedConn cn → HasLimits s → HasLimits (heard_plain at s c cn command).0
limited_heard at s c cn Ping heard none is l h = h
limited_heard at s c cn other heard none is l h = limited_plain at s c cn other none (no_multi other (cn.channels ≡ []) heard) is l h

limited_spoken : (at : ℕ) (s : State) (c : ℕ) (cn : Conn) (command : Command) (q : Option Queue) (b : Bool) → is_heard command ≡ b → cn.queue ≡ q → IsShortCommand command → IsLimitedConn cn → HasLimits s → HasLimits (spoken at s c cn command q b).0
limited_spoken at s c cn command None false heard e is l h = h
limited_spoken at s c cn command (Some q) false heard e is l h = broken s c cn q e l h
limited_spoken at s c cn command None true heard e is l h = limited_heard at s c cn command heard e is l h
limited_spoken at s c cn command (Some q) true heard e is l h = limited_inside at s c cn q command e is l h

limited_serve_by : (at : ℕ) (s : State) (c : ℕ) (cn : Conn) (command : Command) (q : Option Queue) (channels : List Bytes) → cn.queue ≡ q → cn.channels ≡ channels → IsShortCommand command → IsLimitedConn cn → HasLimits s → HasLimits (serve_by at s c cn command q channels).0
limited_serve_by at s c cn command None [] e f is l h = limited_plain at s c cn command e (λ m. f) is l h
limited_serve_by at s c cn command (Some q) [] e f is l h = limited_inside at s c cn q command e is l h
limited_serve_by at s c cn command None (x ∷ xs) e f is l h = limited_spoken at s c cn command None (is_heard command) refl e is l h
limited_serve_by at s c cn command (Some q) (x ∷ xs) e f is l h = limited_spoken at s c cn command (Some q) (is_heard command) refl e is l h

pub limited_serve : (at : ℕ) (s : State) (c : ℕ) (command : Command) (cn : Conn) → IsShortCommand command → IsLimitedConn cn → HasLimits s → HasLimits (serve at s c command cn).0
limited_serve at s c command cn is l h = limited_serve_by at s c cn command cn.queue cn.channels refl refl is l h

-- ---- a whole step

limited_quiet : (s : State) (c : ℕ) (cn : Conn) (messages : List Value) → IsLimitedConn cn → HasLimits s → HasLimits (quiet s c cn messages)
limited_quiet s c cn [] l h = h
limited_quiet s c cn (x ∷ xs) l h = state_set s c _ (record { queue = l.queue; apart = l.apart; watched = l.watched; channels = l.channels; few = omega arith; pending = All-nil IsMessage }) h

limited_live : (at : ℕ) (m : Keys) → AreLimited m → AreLimited (live_at at m)
limited_live at m all k h e = go (is_expired at (get m k)) (sym (get-live_at at m k) ∙ e)
  where
    go : (b : Bool) → (if b then None else get m k) ≡ Some h → IsShort k × IsLimited h.value
    go true f = absurd (cc f)
    go false f = all k h f

pub limited_settled : (s : State) (at : ℕ) → HasLimits s → HasLimits (settled s at)
limited_settled s at h = record { keys = limited_live at s.keys h.keys; conns = limited_touched (due_keys at (entries s.keys)) s.conns h.conns }

-- the state at which the words are served
pub limited_told : (s : State) (c : ℕ) → HasLimits s → HasLimits (quiet s c (conn s.conns c) (conn s.conns c).pending)
limited_told s c h = limited_quiet s c (conn s.conns c) (conn s.conns c).pending (h.conns c) h

limited_answer : (at : ℕ) (s : State) (c : ℕ) (words : Words) → IsWithinLimits words → HasLimits s → HasLimits (answer_to at s c words).0
unfolding answer_to
limited_answer at s c words fits h =
    let told = limited_told s c h in
    limited_serve at (quiet s c (conn s.conns c) (conn s.conns c).pending) c (command_of words) _ (command_short words (words_short words fits).1) (told.conns c) told

pub limited_apply : (s : State) (at c : ℕ) (words : Words) → HasLimits s → IsWithinLimits words → HasLimits (apply_of s at c words).0
limited_apply s at c words h fits = limited_answer at (settled s at) c words fits (limited_settled s at h)

unknown_limited : IsLimitedConn no_conn
unknown_limited = record { queue = tt; apart = inl refl; watched = All-nil IsShort; channels = All-nil IsShort; few = omega arith; pending = All-nil IsMessage }

pub limited_gone : (s : State) (c : ℕ) → HasLimits s → HasLimits (gone_of s c)
limited_gone s c h = record { keys = h.keys; conns = λ d. go d (conn_or d c) }
  where
    go : (d : ℕ) → (d ≡ c) ⊎ (d ≢ c) → IsLimitedConn (conn (remove s.conns c) d)
    go d (inl e) = subst (λ x. IsLimitedConn (conn (remove s.conns c) x)) (sym e) (subst IsLimitedConn (sym (gone_same s.conns c)) unknown_limited)
    go d (inr n) = subst IsLimitedConn (sym (gone_other s.conns c d n)) (h.conns d)

pub limited_empty : HasLimits empty_state
limited_empty = record {
  keys = λ k h e. let none = get-empty {X = Held} bytes_cmp k in absurd (cc (e, none));
  conns = λ c. subst IsLimitedConn (sym (ap or_no_conn (get-empty {X = Conn} nat_cmp c))) unknown_limited;
}
