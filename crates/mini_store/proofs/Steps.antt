-- What a command leaves of its connection, from what was taken out and set.
use Rattle.std.proofs.Common.{◌≡◌, ℕ, List, Bool, refl, ap, ◌∙◌, length}
use Rattle.std.specs.Prelude.{codes, nat_lt}
use Rattle.std.specs.FinMap.{insert}
use Rattle.wire_values.specs.declared.value.Value.{Value}
use Rattle.store_model.specs.Words.{Bytes}
use Rattle.store_model.specs.Replies.{channel_answer}
use Rattle.store_model.specs.Keys.{Keys}
use Rattle.store_model.specs.Connections.{Conns, conn, joined, without}
use Rattle.store_model.specs.Commands.{is_queued}
use Rattle.store_model.specs.Store.{State, subscribe, unsubscribe, to_queue, inside}
use Rattle.store_model.specs.declared.command.Command.{Command}
use Rattle.store_model.specs.declared.command.Command.TheVariants.{Exec, Discard, Faulty}
use Rattle.store_model.specs.declared.command.Fault.{Fault}
use Rattle.store_model.specs.declared.connection.Queue.{Queue}
use Rattle.store_model.specs.declared.connection.Conn.{Conn}

module _ (keys : Keys) (conns : Conns) (c : ℕ) (x : Bytes) where
  -- the connection with other channels, and the answer
  changed : Bytes → Conn → List Bytes → ℕ → State × Value
  changed word t cs n = (record { keys = keys; conns = insert conns c (record t { channels = cs }) }, channel_answer word x n)

  pub subscribe_done : (s : State) (m : Conns) (t : Conn) (cs : List Bytes) (n : ℕ) (a : Value) → record { keys = keys; conns = conns } ≡ s → t ≡ conn conns c → cs ≡ joined x t.channels → n ≡ length cs
      → m ≡ insert conns c (record t { channels = cs }) → a ≡ channel_answer (codes "subscribe") x n → ◌≡◌ {A = State × Value} (record { keys = keys; conns = m }, a) (subscribe s c (conn s.conns c) x)
  unfolding changed
  subscribe_done s m t cs n a view taken more count set answer =
      let start : ◌≡◌ {A = State × Value} (record { keys = keys; conns = m }, a) (changed (codes "subscribe") t cs n) = λ i. (record { keys = keys; conns = set i }, answer i) in
      start ∙ ap (changed (codes "subscribe") t cs) count ∙ ap (λ ds. changed (codes "subscribe") t ds (length ds)) more
      ∙ ap (λ u. changed (codes "subscribe") u (joined x u.channels) (length (joined x u.channels))) taken
      ∙ ap (λ q. subscribe q c (conn q.conns c) x) view

  pub unsubscribe_done : (s : State) (m : Conns) (t : Conn) (cs : List Bytes) (n : ℕ) (a : Value) → record { keys = keys; conns = conns } ≡ s → t ≡ conn conns c → cs ≡ without x t.channels → n ≡ length cs
      → m ≡ insert conns c (record t { channels = cs }) → a ≡ channel_answer (codes "unsubscribe") x n → ◌≡◌ {A = State × Value} (record { keys = keys; conns = m }, a) (unsubscribe s c (conn s.conns c) x)
  unfolding changed
  unsubscribe_done s m t cs n a view taken fewer count set answer =
      let start : ◌≡◌ {A = State × Value} (record { keys = keys; conns = m }, a) (changed (codes "unsubscribe") t cs n) = λ i. (record { keys = keys; conns = set i }, answer i) in
      start ∙ ap (changed (codes "unsubscribe") t cs) count ∙ ap (λ ds. changed (codes "unsubscribe") t ds (length ds)) fewer
      ∙ ap (λ u. changed (codes "unsubscribe") u (without x u.channels) (length (without x u.channels))) taken
      ∙ ap (λ q. unsubscribe q c (conn q.conns c) x) view

-- a command that isn't EXEC, DISCARD or faulty is queued
pub inside_other : (at : ℕ) (s : State) (c : ℕ) (cn : Conn) (q : Queue) (command : Command) → (command ≡ Exec → ⊥) → (command ≡ Discard → ⊥) → ((x : Fault) (b : Bool) → command ≡ Faulty x b → ⊥)
    → to_queue s c cn q command (is_queued command) (nat_lt (length q.commands) 4096) ≡ inside at s c cn q command
inside_other at s c cn q Exec e d f = absurd (e refl)
inside_other at s c cn q Discard e d f = absurd (d refl)
inside_other at s c cn q (Faulty x b) e d f = absurd (f x b refl)
inside_other at s c cn q other e d f = refl
