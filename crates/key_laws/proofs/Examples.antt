-- The definitions on a few texts.
use Rattle.std.proofs.Common.{◌≡◌, [], ◌∷◌, ◌++◌, codes, true, false, Some, None, refl, arith}
use Rattle.std.proofs.lemmas.Fmt.{decimal_digit}
use Rattle.queue_keys.specs.Names.{same, is_name}
use Rattle.queue_keys.specs.Layouts.{Layout, plain, is_layout, step_of}
use Rattle.queue_keys.specs.QueueKeys.{queue_key, split_key, is_queue_key, is_reply_key, pop_keys}
use Rattle.queue_keys.specs.Bindings.{member, parts, binding_of}
use Rattle.queue_keys.specs.Patterns.{matches}
use Rattle.queue_keys.specs.Lookup.{lookup, queues_for}
use Rattle.queue_keys.specs.Texts.{difference, token}

abbrev app : Layout
app = record { prefix = codes "app:"; steps = 0 ∷ 5 ∷ [] }

layouts : (is_layout plain ≡ true) × (is_layout app ≡ true) × (is_layout (record { prefix = []; steps = 5 ∷ 0 ∷ [] }) ≡ false) × (is_layout (record { prefix = codes "a b"; steps = 0 ∷ [] }) ≡ false) × (is_layout (record { prefix = []; steps = [] }) ≡ false) × (is_layout (record { prefix = []; steps = 0 ∷ 10 ∷ [] }) ≡ false)
unfolding same
layouts = (refl, refl, refl, refl, refl, refl)

names : (is_name (codes "celery") ≡ true) × (is_name [] ≡ false) × (is_name (codes "unacked") ≡ false) × (is_name (codes "unacked_index") ≡ false) × (is_name (codes "unackedx") ≡ true) × (is_name (codes "_kombu.binding.") ≡ false)
    × (is_name (codes "celery-task-meta-1") ≡ false) × (is_name (codes "5.reply.celery.pidbox") ≡ false) × (is_name (97 ∷ 22 ∷ []) ≡ false)
unfolding same
names = (refl, refl, refl, refl, refl, refl, refl, refl, refl)

keys : (queue_key plain (codes "celery") 0 ≡ codes "celery") × (queue_key plain (codes "celery") 3 ≡ codes "celery" ++ (6 ∷ 22 ∷ 51 ∷ [])) × (queue_key app (codes "q") 5 ≡ codes "app:q" ++ (6 ∷ 22 ∷ 53 ∷ []))
    × (split_key plain (codes "celery" ++ (6 ∷ 22 ∷ 57 ∷ [])) ≡ Some (codes "celery", 9)) × (split_key plain (codes "celery" ++ (6 ∷ 22 ∷ 53 ∷ [])) ≡ None) × (split_key app (codes "celery") ≡ None) × (is_queue_key app (codes "app:unacked") ≡ false)
unfolding same split_key
keys = (refl, refl, refl, refl, refl, refl, refl)

replies : (is_reply_key app (codes "app:5.reply.celery.pidbox") ≡ true) × (is_reply_key app (codes "5.reply.celery.pidbox") ≡ false)
replies = (refl, refl)

pops : pop_keys app (codes "a" ∷ codes "b" ∷ []) ≡ codes "app:a" ∷ codes "app:b" ∷ (codes "app:a" ++ (6 ∷ 22 ∷ 53 ∷ [])) ∷ (codes "app:b" ++ (6 ∷ 22 ∷ 53 ∷ [])) ∷ []
pops = refl

steps : (step_of plain 0 ≡ 0) × (step_of plain 5 ≡ 3) × (step_of plain 9 ≡ 9) × (step_of app 4 ≡ 0) × (step_of app 9 ≡ 5)
steps = (refl, refl, refl, refl, refl)

patterns : (matches (codes "*.b") (codes "a.b") ≡ true) × (matches (codes "#.b") (codes "b") ≡ true) × (matches (codes "#") [] ≡ true) × (matches (codes "a.#") (codes "a") ≡ true) × (matches (codes "a.*") (codes "a") ≡ false)
    × (matches (codes "a.#.d") (codes "a.b.c.d") ≡ true) × (matches (codes "*") [] ≡ true) × (matches (codes "a*") (codes "ab") ≡ false) × (matches (codes "#.#") (codes "x") ≡ true)
unfolding same matches
patterns = (refl, refl, refl, refl, refl, refl, refl, refl, refl)

members : (parts (member (codes "rk") [] (codes "celery")) ≡ codes "rk" ∷ [] ∷ codes "celery" ∷ []) × (parts (6 ∷ 6 ∷ 22 ∷ 22 ∷ []) ≡ (6 ∷ []) ∷ (22 ∷ []) ∷ []) × (binding_of (codes "rk") ≡ None)
unfolding same binding_of
members = (refl, refl, refl)

lookups : (lookup (codes "rk") (member (codes "rk") [] (codes "b") ∷ member (codes "x") (codes "r*") (codes "d") ∷ member (codes "x") (codes "#") (codes "a") ∷ member (codes "rk") [] (codes "b") ∷ codes "junk" ∷ []) ≡ codes "a" ∷ codes "b" ∷ [])
    × (queues_for [] (codes "celery") [] ≡ codes "celery" ∷ []) × (queues_for [] (codes "unacked") [] ≡ [])
unfolding same matches binding_of
lookups = (refl, refl, refl)

texts : (token 7 1 ≡ codes "7:1") × (difference 5 7 ≡ codes "-2") × (difference 7 5 ≡ codes "2")
texts = (rw (decimal_digit 7 (omega arith), decimal_digit 1 (omega arith)) refl, rw (decimal_digit 2 (omega arith)) refl, rw (decimal_digit 2 (omega arith)) refl)

-- one word and then any number of words
star_and_hash : (matches (codes "a.*.#") (codes "a.b") ≡ true) × (matches (codes "a.*.#") (codes "a.b.c.d") ≡ true) × (matches (codes "a.*.#") (codes "a") ≡ false)
    × (lookup (codes "a.b") (member (codes "x") (codes "a.*.#") (codes "q2") ∷ member (codes "y") (codes "#") (codes "q1") ∷ member (codes "x") (codes "a.*") (codes "q2") ∷ []) ≡ codes "q1" ∷ codes "q2" ∷ [])
unfolding same matches binding_of
star_and_hash = (refl, refl, refl, refl)

-- two queues at the four steps: all queues at step 0 first
steps_first : pop_keys plain (codes "a" ∷ codes "b" ∷ []) ≡ codes "a" ∷ codes "b" ∷ (codes "a" ++ (6 ∷ 22 ∷ 51 ∷ [])) ∷ (codes "b" ++ (6 ∷ 22 ∷ 51 ∷ [])) ∷ (codes "a" ++ (6 ∷ 22 ∷ 54 ∷ [])) ∷ (codes "b" ++ (6 ∷ 22 ∷ 54 ∷ [])) ∷ (codes "a" ++ (6 ∷ 22 ∷ 57 ∷ [])) ∷ (codes "b" ++ (6 ∷ 22 ∷ 57 ∷ [])) ∷ []
steps_first = refl

-- a prefix of letters, digits and _ . : -, and not - alone
prefixes : (is_layout (record { prefix = codes "-"; steps = 0 ∷ [] }) ≡ false) × (is_layout (record { prefix = codes "a-b_c.d:1"; steps = 0 ∷ 9 ∷ [] }) ≡ true) × (is_layout (record { prefix = codes "a/b"; steps = 0 ∷ [] }) ≡ false)
unfolding same
prefixes = (refl, refl, refl)
