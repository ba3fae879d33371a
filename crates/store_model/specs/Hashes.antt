-- The commands on hashes.
use Rattle.std.specs.Prelude.{List, [], ◌∷◌, is_some, Option, None, Some, if◌then◌else◌}
use Rattle.std.specs.FinMap.{FinMap, get, insert, empty, len}
use Rattle.wire_values.specs.Order.{bytes_cmp}
use Rattle.wire_values.specs.declared.value.Value.{Value}
use Rattle.wire_values.specs.declared.value.Value.TheVariants.{NullBulk}
use Rattle.store_model.specs.Words.{Bytes}
use Rattle.store_model.specs.Replies.{number, wrong_type, full, bulk}
use Rattle.store_model.specs.Keys.{Keys, put, CommandOutcome, out, is_long, taken_out, after_taking}
use Rattle.store_model.specs.declared.held.Stored.{Stored}
use Rattle.store_model.specs.declared.held.Stored.TheVariants.{Hash}

-- the hash of a key: empty where there is none, and none where the key holds another kind
abbrev pub hash_at : Option Stored → Option (FinMap bytes_cmp Bytes)
hash_at None = Some empty
hash_at (Some (Hash h)) = Some h
hash_at (Some other) = None

-- HSET in this hash; a field has at most 1,024 bytes
abbrev pub hset_to : Keys → Bytes → Bytes → Bytes → FinMap bytes_cmp Bytes → CommandOutcome
hset_to m k f v h =
    if is_long f then out m [] full else
    out (put m k (Hash (insert h f v))) (k ∷ []) (number (if is_some (get h f) then 0 else 1))

-- HSET, by what the key holds
abbrev pub hset : Keys → Bytes → Bytes → Bytes → Option Stored → CommandOutcome
hset m k f v None = hset_to m k f v empty
hset m k f v (Some (Hash h)) = hset_to m k f v h
hset m k f v (Some other) = out m [] wrong_type

-- the answer to HGET, by what the key holds
abbrev pub field_answer : Bytes → Option Stored → Value
field_answer f None = NullBulk
field_answer f (Some (Hash h)) = bulk (get h f)
field_answer f (Some other) = wrong_type

-- HDEL, by what the key holds
abbrev pub hdel : Keys → Bytes → List Bytes → Option Stored → CommandOutcome
hdel m k fs None = out m [] (number 0)
hdel m k fs (Some (Hash h)) = let r = taken_out h fs in after_taking m k (Hash r.0) (len r.0) r.1
hdel m k fs (Some other) = out m [] wrong_type

-- the answer to HLEN, by what the key holds
abbrev pub hash_size_answer : Option Stored → Value
hash_size_answer None = number 0
hash_size_answer (Some (Hash h)) = number (len h)
hash_size_answer (Some other) = wrong_type
