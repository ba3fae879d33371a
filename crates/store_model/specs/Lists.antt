-- The commands on lists.
use Rattle.std.specs.Prelude.{List, [], ◌∷◌, ◌++◌, length, Option, None, Some}
use Rattle.std.specs.FinMap.{remove}
use Rattle.wire_values.specs.declared.value.Value.{Value}
use Rattle.wire_values.specs.declared.value.Value.TheVariants.{NullBulk, NullArray, Bulk}
use Rattle.store_model.specs.Words.{Bytes, front, final}
use Rattle.store_model.specs.Replies.{number, wrong_type, pair}
use Rattle.store_model.specs.Keys.{Keys, value_at, put, CommandOutcome, out}
use Rattle.store_model.specs.declared.held.Stored.{Stored}
use Rattle.store_model.specs.declared.held.Stored.TheVariants.{Items}

-- the list of a key: empty where there is none, and none where the key holds another kind
abbrev pub items_at : Option Stored → Option (List Bytes)
items_at None = Some []
items_at (Some (Items xs)) = Some xs
items_at (Some other) = None

-- pushed at the head, one after the other
abbrev pub pushed_at_head : List Bytes → List Bytes → List Bytes
pushed_at_head [] xs = xs
pushed_at_head (v ∷ vs) xs = pushed_at_head vs (v ∷ xs)

-- the list is put under the key, and its length is answered
abbrev pub put_list : Keys → Bytes → List Bytes → CommandOutcome
put_list m k xs = out (put m k (Items xs)) (k ∷ []) (number (length xs))

-- LPUSH, by what the key holds
abbrev pub lpush : Keys → Bytes → List Bytes → Option Stored → CommandOutcome
lpush m k vs None = put_list m k (pushed_at_head vs [])
lpush m k vs (Some (Items xs)) = put_list m k (pushed_at_head vs xs)
lpush m k vs (Some other) = out m [] wrong_type

-- RPUSH, by what the key holds
abbrev pub rpush : Keys → Bytes → List Bytes → Option Stored → CommandOutcome
rpush m k vs None = put_list m k vs
rpush m k vs (Some (Items xs)) = put_list m k (xs ++ vs)
rpush m k vs (Some other) = out m [] wrong_type

-- the list is put back, or the key removed where it is empty
abbrev pub shortened : Keys → Bytes → List Bytes → Keys
shortened m k [] = remove m k
shortened m k (x ∷ xs) = put m k (Items (x ∷ xs))

-- RPOP, by what the key holds
abbrev pub rpop : Keys → Bytes → Option Stored → CommandOutcome
rpop m k None = out m [] NullBulk
rpop m k (Some (Items [])) = out m [] NullBulk
rpop m k (Some (Items (x ∷ xs))) = out (shortened m k (front x xs)) (k ∷ []) (Bulk (final x xs))
rpop m k (Some other) = out m [] wrong_type

-- BRPOP at one key, by what it holds, else at the later ones
abbrev pub brpop_at : Keys → Bytes → Option Stored → CommandOutcome → CommandOutcome
brpop_at m k None later = later
brpop_at m k (Some (Items [])) later = later
brpop_at m k (Some (Items (x ∷ xs))) later = out (shortened m k (front x xs)) (k ∷ []) (pair k (final x xs))
brpop_at m k (Some other) later = out m [] wrong_type

-- BRPOP: the first key that is there decides
abbrev pub brpop : Keys → List Bytes → CommandOutcome
brpop m [] = out m [] NullArray
brpop m (k ∷ ks) = brpop_at m k (value_at m k) (brpop m ks)

-- the answer to LLEN, by what the key holds
abbrev pub size_answer : Option Stored → Value
size_answer None = number 0
size_answer (Some (Items xs)) = number (length xs)
size_answer (Some other) = wrong_type
