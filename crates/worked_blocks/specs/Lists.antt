-- Whole blocks, written out: a client of seed 7 says one of each kind and each end.
use Rattle.std.specs.Prelude.{List, [], ◌∷◌, ◌++◌, codes, decimal, pos}
use Rattle.wire_values.specs.declared.value.Value.TheVariants.{Integer, Bulk, NullBulk, Array, NullArray}
use Rattle.store_model.specs.Replies.{done, queued, pong, bulks, pair}
use Rattle.command_blocks.specs.Answers.{integers}
use Rattle.queue_keys.specs.Bindings.{member}
use Rattle.command_blocks.specs.Calls.{Call, call}
use Rattle.queue_keys.specs.Names.{Bytes}
use Rattle.command_blocks.specs.TakeBlocks.{brpop_words}
use Rattle.queue_keys.specs.Texts.{token}

-- the queue q, and its keys at the later steps
abbrev pub q : Bytes
q = codes "q"

abbrev pub later_keys : List Bytes
later_keys = (codes "q" ++ (6 ∷ 22 ∷ 51 ∷ [])) ∷ (codes "q" ++ (6 ∷ 22 ∷ 54 ∷ [])) ∷ (codes "q" ++ (6 ∷ 22 ∷ 57 ∷ [])) ∷ []

-- the tag and the envelope of a message to q, and the same marked
abbrev pub message_tag : Bytes
message_tag = 7 ∷ 1 ∷ []

abbrev pub plain_envelope : Bytes
plain_envelope = 0 ∷ 7 ∷ 1 ∷ 0 ∷ 0 ∷ codes "q"

abbrev pub marked_envelope : Bytes
marked_envelope = 1 ∷ 7 ∷ 1 ∷ 0 ∷ 0 ∷ codes "q"

-- an envelope of the same tag on the empty exchange, whose routing key is the key of the table
abbrev pub unnamed_envelope : Bytes
unnamed_envelope = 0 ∷ 7 ∷ 1 ∷ 0 ∷ 0 ∷ codes "unacked"

-- the second message, on the exchange ex under the routing key rk
abbrev pub second_tag : Bytes
second_tag = 7 ∷ 2 ∷ []

abbrev pub named_envelope : Bytes
named_envelope = 0 ∷ 7 ∷ 2 ∷ 0 ∷ 1 ∷ codes "rk"

abbrev pub named_marked : Bytes
named_marked = 1 ∷ 7 ∷ 2 ∷ 0 ∷ 1 ∷ codes "rk"

abbrev pub bindings : List Bytes
bindings = member (codes "rk") [] (codes "q") ∷ member (codes "x") (codes "#") (codes "a") ∷ []

-- a binding is added, or removed
abbrev pub declared : Bytes → List Call
declared word = call 100 (word ∷ codes "_kombu.binding.ex" ∷ member (codes "rk") [] (codes "q") ∷ []) (Integer (pos 1)) ∷ []

-- a message is published to its queue
abbrev pub published : List Call
published = call 100 (codes "LPUSH" ∷ q ∷ plain_envelope ∷ []) (Integer (pos 1)) ∷ []

-- another one to the two queues of its exchange
abbrev pub published_to_two : List Call
published_to_two =
    call 100 (codes "SMEMBERS" ∷ codes "_kombu.binding.ex" ∷ []) (bulks bindings)
    ∷ call 100 (codes "LPUSH" ∷ codes "a" ∷ named_envelope ∷ []) (Integer (pos 1))
    ∷ call 100 (codes "LPUSH" ∷ q ∷ named_envelope ∷ []) (Integer (pos 1))
    ∷ []

-- a third one to none
abbrev pub published_to_none : List Call
published_to_none = call 100 (codes "SMEMBERS" ∷ codes "_kombu.binding.ex" ∷ []) (bulks []) ∷ []

-- a pop that finds nothing, one that finds no envelope, and one that puts its message into the table
abbrev pub popped_nothing : List Call
popped_nothing = call 100 (brpop_words q later_keys) NullArray ∷ []

abbrev pub popped_junk : List Call
popped_junk = call 100 (brpop_words q later_keys) (pair q (codes "junk")) ∷ []

abbrev pub popped : List Call
popped =
    call 100 (brpop_words q later_keys) (pair q plain_envelope)
    ∷ call 100 (codes "MULTI" ∷ []) done
    ∷ call 100 (codes "ZADD" ∷ codes "unacked_index" ∷ decimal 100 ∷ message_tag ∷ []) queued
    ∷ call 100 (codes "HSET" ∷ codes "unacked" ∷ message_tag ∷ plain_envelope ∷ []) queued
    ∷ call 100 (codes "EXEC" ∷ []) (integers (pos 1 ∷ pos 1 ∷ []))
    ∷ []

-- an acknowledgement
abbrev pub ended : List Call
ended =
    call 100 (codes "MULTI" ∷ []) done
    ∷ call 100 (codes "ZREM" ∷ codes "unacked_index" ∷ message_tag ∷ []) queued
    ∷ call 100 (codes "HDEL" ∷ codes "unacked" ∷ message_tag ∷ []) queued
    ∷ call 100 (codes "EXEC" ∷ []) (integers (pos 1 ∷ pos 1 ∷ []))
    ∷ []

-- an acknowledgement that removed nothing, since the message wasn't in the table
abbrev pub ended_nothing : List Call
ended_nothing =
    call 100 (codes "MULTI" ∷ []) done
    ∷ call 100 (codes "ZREM" ∷ codes "unacked_index" ∷ message_tag ∷ []) queued
    ∷ call 100 (codes "HDEL" ∷ codes "unacked" ∷ message_tag ∷ []) queued
    ∷ call 100 (codes "EXEC" ∷ []) (integers (pos 0 ∷ pos 0 ∷ []))
    ∷ []

-- a return that moves its message, and one that finds none
abbrev pub returned : List Call
returned =
    call 100 (codes "WATCH" ∷ codes "unacked" ∷ []) done
    ∷ call 100 (codes "HGET" ∷ codes "unacked" ∷ message_tag ∷ []) (Bulk plain_envelope)
    ∷ call 100 (codes "MULTI" ∷ []) done
    ∷ call 100 (codes "ZREM" ∷ codes "unacked_index" ∷ message_tag ∷ []) queued
    ∷ call 100 (codes "HDEL" ∷ codes "unacked" ∷ message_tag ∷ []) queued
    ∷ call 100 (codes "RPUSH" ∷ q ∷ marked_envelope ∷ []) queued
    ∷ call 100 (codes "EXEC" ∷ []) (integers (pos 1 ∷ pos 1 ∷ pos 1 ∷ []))
    ∷ []

abbrev pub returned_gone : List Call
returned_gone =
    call 100 (codes "WATCH" ∷ codes "unacked" ∷ []) done
    ∷ call 100 (codes "HGET" ∷ codes "unacked" ∷ message_tag ∷ []) NullBulk
    ∷ call 100 (codes "UNWATCH" ∷ []) done
    ∷ []

-- the four that let stay what they find: no entry, the entry of another message, one whose exchange has no queue, and one on the empty exchange whose routing key is no name of a queue
abbrev pub returned_junk : List Call
returned_junk =
    call 100 (codes "WATCH" ∷ codes "unacked" ∷ []) done
    ∷ call 100 (codes "HGET" ∷ codes "unacked" ∷ message_tag ∷ []) (Bulk (codes "junk"))
    ∷ call 100 (codes "UNWATCH" ∷ []) done
    ∷ []

abbrev pub returned_other : List Call
returned_other =
    call 100 (codes "WATCH" ∷ codes "unacked" ∷ []) done
    ∷ call 100 (codes "HGET" ∷ codes "unacked" ∷ message_tag ∷ []) (Bulk named_envelope)
    ∷ call 100 (codes "UNWATCH" ∷ []) done
    ∷ []

abbrev pub returned_nowhere : List Call
returned_nowhere =
    call 100 (codes "WATCH" ∷ codes "unacked" ∷ []) done
    ∷ call 100 (codes "HGET" ∷ codes "unacked" ∷ second_tag ∷ []) (Bulk named_envelope)
    ∷ call 100 (codes "SMEMBERS" ∷ codes "_kombu.binding.ex" ∷ []) (bulks [])
    ∷ call 100 (codes "UNWATCH" ∷ []) done
    ∷ []

abbrev pub returned_unnamed : List Call
returned_unnamed =
    call 100 (codes "WATCH" ∷ codes "unacked" ∷ []) done
    ∷ call 100 (codes "HGET" ∷ codes "unacked" ∷ message_tag ∷ []) (Bulk unnamed_envelope)
    ∷ call 100 (codes "UNWATCH" ∷ []) done
    ∷ []

-- a requeue, which puts its message where the next pop finds it last
abbrev pub requeued : List Call
requeued =
    call 100 (codes "WATCH" ∷ codes "unacked" ∷ []) done
    ∷ call 100 (codes "HGET" ∷ codes "unacked" ∷ message_tag ∷ []) (Bulk plain_envelope)
    ∷ call 100 (codes "MULTI" ∷ []) done
    ∷ call 100 (codes "ZREM" ∷ codes "unacked_index" ∷ message_tag ∷ []) queued
    ∷ call 100 (codes "HDEL" ∷ codes "unacked" ∷ message_tag ∷ []) queued
    ∷ call 100 (codes "LPUSH" ∷ q ∷ marked_envelope ∷ []) queued
    ∷ call 100 (codes "EXEC" ∷ []) (integers (pos 1 ∷ pos 1 ∷ pos 1 ∷ []))
    ∷ []

-- a return over the bindings of its exchange
abbrev pub returned_by_bindings : List Call
returned_by_bindings =
    call 100 (codes "WATCH" ∷ codes "unacked" ∷ []) done
    ∷ call 100 (codes "HGET" ∷ codes "unacked" ∷ second_tag ∷ []) (Bulk named_envelope)
    ∷ call 100 (codes "SMEMBERS" ∷ codes "_kombu.binding.ex" ∷ []) (bulks bindings)
    ∷ call 100 (codes "MULTI" ∷ []) done
    ∷ call 100 (codes "ZREM" ∷ codes "unacked_index" ∷ second_tag ∷ []) queued
    ∷ call 100 (codes "HDEL" ∷ codes "unacked" ∷ second_tag ∷ []) queued
    ∷ call 100 (codes "RPUSH" ∷ codes "a" ∷ named_marked ∷ []) queued
    ∷ call 100 (codes "RPUSH" ∷ q ∷ named_marked ∷ []) queued
    ∷ call 100 (codes "EXEC" ∷ []) (integers (pos 1 ∷ pos 1 ∷ pos 1 ∷ pos 1 ∷ []))
    ∷ []

-- a try that failed, since the table was altered, and what follows it
abbrev pub failed_try : List Call → List Call
failed_try rest =
    call 100 (codes "WATCH" ∷ codes "unacked" ∷ []) done
    ∷ call 100 (codes "HGET" ∷ codes "unacked" ∷ message_tag ∷ []) (Bulk plain_envelope)
    ∷ call 100 (codes "MULTI" ∷ []) done
    ∷ call 100 (codes "ZREM" ∷ codes "unacked_index" ∷ message_tag ∷ []) queued
    ∷ call 100 (codes "HDEL" ∷ codes "unacked" ∷ message_tag ∷ []) queued
    ∷ call 100 (codes "RPUSH" ∷ q ∷ marked_envelope ∷ []) queued
    ∷ call 100 (codes "EXEC" ∷ []) NullArray
    ∷ rest

-- a return that fails once and then finds its message gone, and one that fails eight times
abbrev pub returned_late : List Call
returned_late = failed_try returned_gone

abbrev pub returned_contended : List Call
returned_contended = failed_try (failed_try (failed_try (failed_try (failed_try (failed_try (failed_try (failed_try [])))))))

-- a pass that finds the mutex held, and one that returns what is due
abbrev pub passed_held : List Call
passed_held = call 100 (codes "SET" ∷ codes "unacked_mutex" ∷ token 7 1 ∷ codes "NX" ∷ codes "EX" ∷ codes "300" ∷ []) NullBulk ∷ []

abbrev pub released : List Call
released =
    call 100 (codes "WATCH" ∷ codes "unacked_mutex" ∷ []) done
    ∷ call 100 (codes "GET" ∷ codes "unacked_mutex" ∷ []) (Bulk (token 7 2))
    ∷ call 100 (codes "MULTI" ∷ []) done
    ∷ call 100 (codes "DEL" ∷ codes "unacked_mutex" ∷ []) queued
    ∷ call 100 (codes "EXEC" ∷ []) (Array (Integer (pos 1) ∷ []))
    ∷ []

abbrev pub passed_calls : List Call
passed_calls =
    call 100 (codes "SET" ∷ codes "unacked_mutex" ∷ token 7 2 ∷ codes "NX" ∷ codes "EX" ∷ codes "300" ∷ []) done
    ∷ call 100 (codes "ZREVRANGEBYSCORE" ∷ codes "unacked_index" ∷ decimal 90 ∷ codes "0" ∷ codes "LIMIT" ∷ codes "0" ∷ codes "10" ∷ []) (bulks (message_tag ∷ codes "junk" ∷ []))
    ∷ returned ++ released

-- a pass whose second return is contended, and which then finds a text under the mutex that isn't its own
abbrev pub released_foreign : List Call
released_foreign =
    call 100 (codes "WATCH" ∷ codes "unacked_mutex" ∷ []) done
    ∷ call 100 (codes "GET" ∷ codes "unacked_mutex" ∷ []) (Bulk [])
    ∷ call 100 (codes "UNWATCH" ∷ []) done
    ∷ []

abbrev pub second_gone : List Call
second_gone =
    call 100 (codes "WATCH" ∷ codes "unacked" ∷ []) done
    ∷ call 100 (codes "HGET" ∷ codes "unacked" ∷ second_tag ∷ []) NullBulk
    ∷ call 100 (codes "UNWATCH" ∷ []) done
    ∷ []

abbrev pub passed_stuck : List Call
passed_stuck =
    call 100 (codes "SET" ∷ codes "unacked_mutex" ∷ token 7 3 ∷ codes "NX" ∷ codes "EX" ∷ codes "300" ∷ []) done
    ∷ call 100 (codes "ZREVRANGEBYSCORE" ∷ codes "unacked_index" ∷ decimal 90 ∷ codes "0" ∷ codes "LIMIT" ∷ codes "0" ∷ codes "10" ∷ []) (bulks (second_tag ∷ message_tag ∷ []))
    ∷ (second_gone ++ returned_contended) ++ released_foreign

-- a pass that finds nothing due and then no mutex, and one whose mutex is altered at the last moment
abbrev pub released_nobody : List Call
released_nobody =
    call 100 (codes "WATCH" ∷ codes "unacked_mutex" ∷ []) done
    ∷ call 100 (codes "GET" ∷ codes "unacked_mutex" ∷ []) NullBulk
    ∷ call 100 (codes "UNWATCH" ∷ []) done
    ∷ []

abbrev pub released_altered : List Call
released_altered =
    call 100 (codes "WATCH" ∷ codes "unacked_mutex" ∷ []) done
    ∷ call 100 (codes "GET" ∷ codes "unacked_mutex" ∷ []) (Bulk (token 7 5))
    ∷ call 100 (codes "MULTI" ∷ []) done
    ∷ call 100 (codes "DEL" ∷ codes "unacked_mutex" ∷ []) queued
    ∷ call 100 (codes "EXEC" ∷ []) NullArray
    ∷ []

abbrev pub passed_nothing : Bytes → List Call → List Call
passed_nothing own release =
    call 100 (codes "SET" ∷ codes "unacked_mutex" ∷ own ∷ codes "NX" ∷ codes "EX" ∷ codes "300" ∷ []) done
    ∷ call 100 (codes "ZREVRANGEBYSCORE" ∷ codes "unacked_index" ∷ decimal 90 ∷ codes "0" ∷ codes "LIMIT" ∷ codes "0" ∷ codes "10" ∷ []) (bulks [])
    ∷ release

-- a command that concerns no message
abbrev pub pinged : List Call
pinged = call 100 (codes "PING" ∷ []) pong ∷ []

-- all of them, in a row
abbrev pub all_blocks : List (List Call)
all_blocks =
    declared (codes "SADD") ∷ declared (codes "SREM") ∷ published ∷ published_to_two ∷ published_to_none
    ∷ popped_nothing ∷ popped_junk ∷ popped ∷ ended ∷ ended_nothing
    ∷ returned ∷ returned_gone ∷ returned_junk ∷ returned_other ∷ returned_nowhere ∷ returned_unnamed ∷ returned_late
    ∷ requeued ∷ returned_by_bindings ∷ returned_contended
    ∷ passed_held ∷ passed_calls ∷ passed_stuck ∷ passed_nothing (token 7 4) released_nobody ∷ passed_nothing (token 7 5) released_altered ∷ pinged ∷ []
