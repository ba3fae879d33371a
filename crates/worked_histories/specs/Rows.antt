-- Whole histories, written out: what three clients of one store call and are answered.
use Rattle.std.specs.Prelude.{ℕ, List, [], ◌∷◌, ◌++◌, codes, decimal, pos}
use Rattle.std.specs.FinMap.{empty}
use Rattle.wire_values.specs.declared.value.Value.{Value}
use Rattle.wire_values.specs.declared.value.Value.TheVariants.{Integer, Bulk, NullBulk, Array, NullArray}
use Rattle.store_model.specs.Words.{Words}
use Rattle.store_model.specs.Replies.{done, queued, pong, bulks, pair}
use Rattle.queue_keys.specs.Names.{Bytes}
use Rattle.queue_keys.specs.Bindings.{member}
use Rattle.queue_keys.specs.Texts.{token}
use Rattle.command_blocks.specs.Answers.{integers}
use Rattle.command_blocks.specs.TakeBlocks.{brpop_words}
use Rattle.place_model.specs.Histories.{History}
use Rattle.place_model.specs.declared.heard.Heard.{Heard}
use Rattle.place_model.specs.declared.history.Entry.{Entry}
use Rattle.place_model.specs.declared.history.Entry.TheVariants.{Call as Called}
use Rattle.worked_blocks.specs.Lists.{q, later_keys}

-- a message: its tag, its envelope, the entry of that, and the same with the marks of redelivery
pub record Message : Type 0 where
  pub tag : Bytes
  pub envelope : Bytes
  pub entry : Bytes
  pub marked : Bytes
  pub marked_entry : Bytes

-- ---- calls

-- a call with its answer
abbrev pub say : ℕ → ℕ → Words → Value → Entry Heard
say c at words answer = Called c at words (record { pushed = []; answer = answer })

-- MULTI, and EXEC with its answer
abbrev pub opens : ℕ → ℕ → Entry Heard
opens c at = say c at (codes "MULTI" ∷ []) done

abbrev pub closes : ℕ → ℕ → Value → Entry Heard
closes c at answer = say c at (codes "EXEC" ∷ []) answer

-- a message of the tag t leaves the table and its index, queued
abbrev pub leaves : ℕ → ℕ → Bytes → List (Entry Heard)
leaves c at t = say c at (codes "ZREM" ∷ codes "unacked_index" ∷ t ∷ []) queued ∷ say c at (codes "HDEL" ∷ codes "unacked" ∷ t ∷ []) queued ∷ []

-- ---- blocks

-- an envelope is pushed to the queue, which then has so many
abbrev pub publishes : ℕ → ℕ → Bytes → ℕ → List (Entry Heard)
publishes c at v n = say c at (codes "LPUSH" ∷ q ∷ v ∷ []) (Integer (pos n)) ∷ []

-- the bindings of ex are read
abbrev pub reads_bindings : ℕ → ℕ → List Bytes → List (Entry Heard)
reads_bindings c at ms = say c at (codes "SMEMBERS" ∷ codes "_kombu.binding.ex" ∷ []) (bulks ms) ∷ []

-- a binding is added or removed
abbrev pub declares : ℕ → ℕ → Bytes → List (Entry Heard)
declares c at word = say c at (word ∷ codes "_kombu.binding.ex" ∷ member (codes "rk") [] (codes "q") ∷ []) (Integer (pos 1)) ∷ []

-- the envelope v of the tag t is popped, and its entry u put into the table
abbrev pub pops : ℕ → ℕ → Bytes → Bytes → Bytes → List (Entry Heard)
pops c at v u t =
    say c at (brpop_words q later_keys) (pair q v)
    ∷ opens c at
    ∷ say c at (codes "ZADD" ∷ codes "unacked_index" ∷ decimal at ∷ t ∷ []) queued
    ∷ say c at (codes "HSET" ∷ codes "unacked" ∷ t ∷ u ∷ []) queued
    ∷ closes c at (integers (pos 1 ∷ pos 1 ∷ []))
    ∷ []

-- a pop finds nothing
abbrev pub finds_nothing : ℕ → ℕ → List (Entry Heard)
finds_nothing c at = say c at (brpop_words q later_keys) NullArray ∷ []

-- an acknowledgement takes so many out of the table and its index
abbrev pub acknowledges : ℕ → ℕ → Bytes → ℕ → List (Entry Heard)
acknowledges c at t n = opens c at ∷ leaves c at t ++ closes c at (integers (pos n ∷ pos n ∷ [])) ∷ []

-- a try of a return reads the entry u of t
abbrev pub reads_entry : ℕ → ℕ → Bytes → Value → List (Entry Heard)
reads_entry c at t u = say c at (codes "WATCH" ∷ codes "unacked" ∷ []) done ∷ say c at (codes "HGET" ∷ codes "unacked" ∷ t ∷ []) u ∷ []

-- it moves nothing
abbrev pub lets_go : ℕ → ℕ → List (Entry Heard)
lets_go c at = say c at (codes "UNWATCH" ∷ []) done ∷ []

-- it queues that t goes back to the queue, as v
abbrev pub puts_back : ℕ → ℕ → Bytes → Bytes → Bytes → List (Entry Heard)
puts_back c at word t v = opens c at ∷ leaves c at t ++ say c at (word ∷ q ∷ v ∷ []) queued ∷ []

-- and does so, where the queue then has so many
abbrev pub moves : ℕ → ℕ → ℕ → List (Entry Heard)
moves c at n = closes c at (integers (pos 1 ∷ pos 1 ∷ pos n ∷ [])) ∷ []

-- a pass takes the mutex, if it can
abbrev pub locks : ℕ → ℕ → Bytes → Value → List (Entry Heard)
locks c at own answer = say c at (codes "SET" ∷ codes "unacked_mutex" ∷ own ∷ codes "NX" ∷ codes "EX" ∷ codes "300" ∷ []) answer ∷ []

-- it reads what was popped up to a moment
abbrev pub reads_due : ℕ → ℕ → ℕ → List Bytes → List (Entry Heard)
reads_due c at bound ts = say c at (codes "ZREVRANGEBYSCORE" ∷ codes "unacked_index" ∷ decimal bound ∷ codes "0" ∷ codes "LIMIT" ∷ codes "0" ∷ codes "10" ∷ []) (bulks ts) ∷ []

-- it looks at the mutex
abbrev pub looks : ℕ → ℕ → Bytes → List (Entry Heard)
looks c at text = say c at (codes "WATCH" ∷ codes "unacked_mutex" ∷ []) done ∷ say c at (codes "GET" ∷ codes "unacked_mutex" ∷ []) (Bulk text) ∷ []

-- and releases its own
abbrev pub releases : ℕ → ℕ → Bytes → List (Entry Heard)
releases c at own = looks c at own ++ opens c at ∷ say c at (codes "DEL" ∷ codes "unacked_mutex" ∷ []) queued ∷ closes c at (Array (Integer (pos 1) ∷ [])) ∷ []

-- ---- one of each kind

-- a message goes to its queue and one to the queues of its exchange; one is requeued and popped again, one is restored by a pass and, without a binding, stays; one is acknowledged, a second time without effect; a return finds a message gone, another moves one; a publication finds no queue, a pop nothing
abbrev pub each_kind : Message → Message → List (Entry Heard)
each_kind a b =
    declares 1 100 (codes "SADD")
    ++ publishes 1 100 a.envelope 1
    ++ reads_bindings 1 100 (member (codes "rk") [] (codes "q") ∷ []) ++ publishes 1 100 b.envelope 2
    ++ pops 2 100 a.envelope a.entry a.tag
    ++ reads_entry 2 100 a.tag (Bulk a.entry) ++ puts_back 2 100 (codes "LPUSH") a.tag a.marked ++ moves 2 100 2
    ++ pops 2 100 b.envelope b.entry b.tag
    ++ locks 1 200 (token 7 1) done ++ reads_due 1 200 190 (b.tag ∷ [])
    ++ reads_entry 1 200 b.tag (Bulk b.entry) ++ reads_bindings 1 200 (member (codes "rk") [] (codes "q") ∷ [])
    ++ puts_back 1 200 (codes "RPUSH") b.tag b.marked ++ moves 1 200 2
    ++ releases 1 200 (token 7 1)
    ++ pops 2 200 b.marked b.marked_entry b.tag
    ++ declares 1 200 (codes "SREM")
    ++ reads_entry 1 200 b.tag (Bulk b.marked_entry) ++ reads_bindings 1 200 [] ++ lets_go 1 200
    ++ acknowledges 2 200 b.tag 1 ++ acknowledges 2 200 b.tag 0
    ++ reads_entry 1 200 b.tag NullBulk ++ lets_go 1 200
    ++ pops 2 200 a.marked a.marked_entry a.tag
    ++ reads_entry 1 200 a.tag (Bulk a.marked_entry) ++ puts_back 1 200 (codes "RPUSH") a.tag a.marked ++ moves 1 200 1
    ++ reads_bindings 1 200 []
    ++ pops 2 200 a.marked a.marked_entry a.tag ++ acknowledges 2 200 a.tag 1
    ++ finds_nothing 2 200
    ++ say 1 200 (codes "PING" ∷ []) pong ∷ []

-- ---- contention

-- client 1 has a message in the table, and the queue has four of client 2
abbrev pub prepares : Message → (ℕ → Message) → List (Entry Heard)
prepares a own =
    publishes 1 50 a.envelope 1
    ++ publishes 2 50 (own 1).envelope 2 ++ publishes 2 50 (own 2).envelope 3 ++ publishes 2 50 (own 3).envelope 4 ++ publishes 2 50 (own 4).envelope 5
    ++ pops 1 50 a.envelope a.entry a.tag

-- a try of client 1, between which client 2 alters the table
abbrev pub fails : Message → ℕ → List (Entry Heard) → List (Entry Heard)
fails a at between = reads_entry 1 at a.tag (Bulk a.entry) ++ puts_back 1 at (codes "RPUSH") a.tag a.marked ++ between ++ closes 1 at NullArray ∷ []

-- two of them: client 2 pops a message, and acknowledges it
abbrev pub fails_twice : Message → ℕ → Message → List (Entry Heard)
fails_twice a at b = fails a at (pops 2 at b.envelope b.entry b.tag) ++ fails a at (acknowledges 2 at b.tag 1)

-- eight of them
abbrev pub contends : Message → (ℕ → Message) → ℕ → List (Entry Heard)
contends a own at = fails_twice a at (own 1) ++ fails_twice a at (own 2) ++ fails_twice a at (own 3) ++ fails_twice a at (own 4)

-- a return that is contended
abbrev pub contended : Message → (ℕ → Message) → List (Entry Heard)
contended a own = prepares a own ++ contends a own 100

-- a pass that is stuck in a contended return; when it releases the mutex, that has expired and is another's, which a third pass finds held; and the other one returns the message
abbrev pub stuck : Message → (ℕ → Message) → List (Entry Heard)
stuck a own =
    prepares a own
    ++ locks 1 100 (token 7 1) done ++ reads_due 1 100 90 (a.tag ∷ []) ++ contends a own 100
    ++ locks 3 400 (token 9 1) done
    ++ locks 2 400 (token 8 1) NullBulk
    ++ looks 1 400 (token 9 1) ++ lets_go 1 400
    ++ reads_due 3 400 390 (a.tag ∷ [])
    ++ reads_entry 3 400 a.tag (Bulk a.entry) ++ puts_back 3 400 (codes "RPUSH") a.tag a.marked ++ moves 3 400 1
    ++ releases 3 400 (token 9 1)

-- ---- histories

-- three clients, with their seeds
abbrev pub clients : List (ℕ × ℕ)
clients = (1, 7) ∷ (2, 8) ∷ (3, 9) ∷ []

-- these entries of theirs, from an empty store
abbrev pub worked : List (Entry Heard) → History Heard
worked es = record { start = empty; used = []; clients = clients; entries = es }
