-- The commands on sets.
use Rattle.std.specs.Prelude.{ℕ, zero, suc, ◌+◌, Bool, true, false, not, ◌&&◌, List, [], ◌∷◌, is_some, nat_le, Option, None, Some, if◌then◌else◌}
use Rattle.std.specs.List.{list_any}
use Rattle.std.specs.FinMap.{FinMap, get, insert, empty, len, keys}
use Rattle.wire_values.specs.Order.{bytes_cmp}
use Rattle.wire_values.specs.declared.value.Value.{Value}
use Rattle.store_model.specs.Words.{Bytes}
use Rattle.store_model.specs.Limits.{set_limit}
use Rattle.store_model.specs.Replies.{number, wrong_type, full, bulks}
use Rattle.store_model.specs.Keys.{Keys, put, CommandOutcome, out, is_long, taken_out, after_taking}
use Rattle.store_model.specs.declared.held.Stored.{Stored}
use Rattle.store_model.specs.declared.held.Stored.TheVariants.{Members}

-- the set of a key: empty where there is none, and none where the key holds another kind
abbrev pub members_at : Option Stored → Option (FinMap bytes_cmp (Unit {0}))
members_at None = Some empty
members_at (Some (Members h)) = Some h
members_at (Some other) = None

-- with these members, and how many of them are new
abbrev pub put_in : FinMap bytes_cmp (Unit {0}) → List Bytes → FinMap bytes_cmp (Unit {0}) × ℕ
put_in h [] = (h, 0)
put_in h (x ∷ xs) = let r = put_in (insert h x tt) xs in (r.0, (if is_some (get h x) then 0 else 1) + r.1)

-- SADD, by how many are new and whether the set stays within its limits
abbrev pub after_adding : Keys → Bytes → FinMap bytes_cmp (Unit {0}) → ℕ → Bool → CommandOutcome
after_adding m k h n false = out m [] full
after_adding m k h zero true = out m [] (number 0)
after_adding m k h (suc p) true = out (put m k (Members h)) (k ∷ []) (number (suc p))

-- a set has at most 1,024 members, each of at most 1,024 bytes
abbrev pub sadd_to : Keys → Bytes → List Bytes → FinMap bytes_cmp (Unit {0}) → CommandOutcome
sadd_to m k xs h = let r = put_in h xs in after_adding m k r.0 r.1 (not (list_any is_long xs) && nat_le (len r.0) set_limit)

-- SADD, by what the key holds
abbrev pub sadd : Keys → Bytes → List Bytes → Option Stored → CommandOutcome
sadd m k xs None = sadd_to m k xs empty
sadd m k xs (Some (Members h)) = sadd_to m k xs h
sadd m k xs (Some other) = out m [] wrong_type

-- SREM, by what the key holds
abbrev pub srem : Keys → Bytes → List Bytes → Option Stored → CommandOutcome
srem m k xs None = out m [] (number 0)
srem m k xs (Some (Members h)) = let r = taken_out h xs in after_taking m k (Members r.0) (len r.0) r.1
srem m k xs (Some other) = out m [] wrong_type

-- the answer to SMEMBERS, in byte order
abbrev pub members_answer : Option Stored → Value
members_answer None = bulks []
members_answer (Some (Members h)) = bulks (keys h)
members_answer (Some other) = wrong_type
