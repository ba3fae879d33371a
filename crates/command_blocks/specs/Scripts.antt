-- What a client says in a block, as a script: each next command, by the answers so far.
use Rattle.std.specs.Prelude.{◌≡◌, ℕ, zero, suc, Bool, true, false, if◌then◌else◌, bytes_eq, List, [], ◌∷◌, codes, decimal, Option, None, Some, option_and_then}
use Rattle.wire_values.specs.Layer.{layer}
use Rattle.wire_values.specs.declared.value.Value.TheOpen.{Value-F}
use Rattle.wire_values.specs.declared.value.Value.{Value}
use Rattle.store_model.specs.Words.{Words}
use Rattle.queue_keys.specs.Names.{Bytes, same}
use Rattle.queue_keys.specs.Texts.{token}
use Rattle.command_blocks.specs.Answers.{number_of, items_of, bulk_of, pair_of}
use Rattle.queue_keys.specs.Bindings.{member}
use Rattle.command_blocks.specs.Setting.{Setting}
use Rattle.command_blocks.specs.Calls.{Call, push_word}
use Rattle.command_blocks.specs.TakeBlocks.{brpop_words}
use Rattle.command_blocks.specs.PassBlocks.{tags_among, lock_words, due_words}
use Rattle.command_blocks.specs.Blocks.{CounterUse, Drawing, Passing, Other}
use Rattle.command_blocks.specs.declared.side.Side.{Side}
use Rattle.command_blocks.specs.declared.side.Side.TheVariants.{Right}

-- a block from some point on: it is over, its last answer wasn't a listed one, or it says these words (by the moment) and goes on by the answer
pub data Script : Type 0 where
  Over : Script
  Off : Script
  Say : (ℕ → Words) → (Value → Script) → Script

-- words that don't tell the moment
abbrev pub plainly : Words → (Value → Script) → Script
plainly w go = Say (λ at. w) go

-- ---- the answers that are listed; after any other the script is off

-- what goes on with something that an answer has to tell
abbrev pub if_told : {A : Type 0} → (A → Script) → Option A → Script
if_told go None = Off
if_told go (Some x) = go x

-- whether a layer is a simple string of this text
abbrev pub status_in : Bytes → Value-F Value → Bool
status_in text (Value-F.Status s) = bytes_eq s text
status_in text other = false

-- a simple string of this text
abbrev pub on_status : Bytes → Script → Value → Script
on_status text go r = if status_in text (layer r) then go else Off

-- +OK
abbrev pub on_done : Script → Value → Script
on_done go r = on_status (codes "OK") go r

-- +QUEUED
abbrev pub on_queued : Script → Value → Script
on_queued go r = on_status (codes "QUEUED") go r

-- an integer
abbrev pub on_number : Script → Value → Script
on_number go r = if_told (λ z. go) (number_of r)

-- an item before others, where all of them tell something
abbrev pub onto_told : {A : Type 0} → Option A → Option (List A) → Option (List A)
onto_told None xs = None
onto_told (Some x) None = None
onto_told (Some x) (Some xs) = Some (x ∷ xs)

-- what each of the values tells, where all of them do
abbrev pub each_told : {A : Type 0} → (Value → Option A) → List Value → Option (List A)
each_told f [] = Some []
each_told f (v ∷ vs) = onto_told (f v) (each_told f vs)

-- the texts of an array of bulk strings
abbrev pub texts_of : Value → Option (List Bytes)
texts_of r = option_and_then (each_told bulk_of) (items_of r)

-- an array of bulk strings
abbrev pub on_texts : (List Bytes → Script) → Value → Script
on_texts go r = if_told go (texts_of r)

-- two items
abbrev pub on_two : {A : Type 0} → Script → List A → Script
on_two go [] = Off
on_two go (x ∷ []) = Off
on_two go (x ∷ y ∷ []) = go
on_two go (x ∷ y ∷ z ∷ zs) = Off

-- an array of two integers
abbrev pub on_two_numbers : Script → Value → Script
on_two_numbers go r = if_told (on_two go) (option_and_then (each_told number_of) (items_of r))

-- whether a layer is the null array
abbrev pub null_array_in : Value-F Value → Bool
null_array_in Value-F.NullArray = true
null_array_in other = false

-- whether a layer is the null bulk string
abbrev pub null_bulk_in : Value-F Value → Bool
null_bulk_in Value-F.NullBulk = true
null_bulk_in other = false

-- the null array, or else by what is told
abbrev pub on_null_array : Script → Script → Value → Script
on_null_array null other r = if null_array_in (layer r) then null else other

-- ---- declaring and publishing

-- a binding is added or removed, by the command's name
abbrev pub declare_script : Setting → Bytes → Bytes → Bytes → Bytes → Bytes → Script
declare_script σ word e r x q = plainly (word ∷ σ.binding e ∷ member r x q ∷ []) (on_number Over)

-- an envelope is pushed to each of the keys, in order
abbrev pub pushes : Bytes → List Bytes → Script
pushes v [] = Over
pushes v (k ∷ ks) = plainly (codes "LPUSH" ∷ k ∷ v ∷ []) (on_number (pushes v ks))

-- the bindings of an exchange are read, if it has a name
abbrev pub asking_script : Setting → Option Bytes → (List Bytes → Script) → Script
asking_script σ None go = go []
asking_script σ (Some e) go = plainly (codes "SMEMBERS" ∷ σ.binding e ∷ []) (on_texts go)

-- an envelope is published
abbrev pub publish_script : Setting → Bytes → Script
publish_script σ v = asking_script σ (σ.exchange_of v) (λ ms. pushes v (σ.keys_for v ms))

-- ---- popping and acknowledging

-- a popped envelope of the tag t is put into the table and its index
abbrev pub keep_script : Setting → Bytes → Bytes → Script
keep_script σ v t =
    plainly (codes "MULTI" ∷ []) (on_done (
    Say (λ at. codes "ZADD" ∷ σ.index ∷ decimal at ∷ t ∷ []) (on_queued (
    plainly (codes "HSET" ∷ σ.unacked ∷ t ∷ σ.entry_of v ∷ []) (on_queued (
    plainly (codes "EXEC" ∷ []) (on_two_numbers Over)))))))

-- by the tag of what was popped; bytes that are no envelope end the block
abbrev pub kept_by : Setting → Bytes → Option Bytes → Script
kept_by σ v None = Over
kept_by σ v (Some t) = keep_script σ v t

-- by what BRPOP answered
abbrev pub on_popped : Setting → Value → Script
on_popped σ r = on_null_array Over (if_told (λ (k, v). kept_by σ v (σ.tag_of v)) (pair_of r)) r

-- BRPOP of some keys
abbrev pub popping : Setting → List Bytes → Script
popping σ [] = Over
popping σ (k ∷ ks) = plainly (brpop_words k ks) (on_popped σ)

-- a message of some queues is popped
abbrev pub pop_script : Setting → List Bytes → Script
pop_script σ names = popping σ (σ.pop_keys names)

-- the tag t is taken out of the table and its index for good
abbrev pub end_script : Setting → Bytes → Script
end_script σ t =
    plainly (codes "MULTI" ∷ []) (on_done (
    plainly (codes "ZREM" ∷ σ.index ∷ t ∷ []) (on_queued (
    plainly (codes "HDEL" ∷ σ.unacked ∷ t ∷ []) (on_queued (
    plainly (codes "EXEC" ∷ []) (on_two_numbers Over)))))))

-- ---- returning

-- an envelope is pushed to each of the keys inside a transaction, and then the rest
abbrev pub queued_script : Side → Bytes → List Bytes → Script → Script
queued_script side v [] rest = rest
queued_script side v (k ∷ ks) rest = plainly (push_word side ∷ k ∷ v ∷ []) (on_queued (queued_script side v ks rest))

-- by what EXEC answered: an array of integers, or the null array
abbrev pub on_ran : Script → Script → Value → Script
on_ran moved failed r = on_null_array failed (if_told (λ zs. moved) (option_and_then (each_told number_of) (items_of r))) r

-- UNWATCH, and then the rest
abbrev pub leave_script : Script → Script
leave_script rest = plainly (codes "UNWATCH" ∷ []) (on_done rest)

-- the transaction of a return to these keys; without a key it leaves
abbrev pub take_script : Setting → Side → Bytes → Bytes → Script → Script → List Bytes → Script
take_script σ side t v ended failed [] = leave_script ended
take_script σ side t v ended failed (k ∷ ks) =
    plainly (codes "MULTI" ∷ []) (on_done (
    plainly (codes "ZREM" ∷ σ.index ∷ t ∷ []) (on_queued (
    plainly (codes "HDEL" ∷ σ.unacked ∷ t ∷ []) (on_queued (
    queued_script side v (k ∷ ks) (
    plainly (codes "EXEC" ∷ []) (on_ran ended failed))))))))

-- the envelope, where it is one of the tag t
abbrev pub if_of : Bytes → Bytes → Option Bytes → Option Bytes
if_of t v None = None
if_of t v (Some s) = if same s t then Some v else None

-- the envelope that an entry carries, where it is one of the tag t
abbrev pub carried_for : Setting → Bytes → Bytes → Option Bytes
carried_for σ t u = option_and_then (λ v. if_of t v (σ.tag_of v)) (σ.carried u)

-- a try goes on by the envelope of the entry u that it read
abbrev pub route_script : Setting → Side → Bytes → Bytes → Script → Script → Option Bytes → Script
route_script σ side t u ended failed None = leave_script ended
route_script σ side t u ended failed (Some v) = asking_script σ (σ.exchange_in u) (λ ms. take_script σ side t v ended failed (σ.keys_in u ms))

-- by what HGET answered: the null bulk string, or an entry
abbrev pub on_entry : Script → (Bytes → Script) → Value → Script
on_entry missing go r = if null_bulk_in (layer r) then missing else if_told go (bulk_of r)

-- a try to return t at this side, by what follows its end and what follows an EXEC that failed
abbrev pub try_script : Setting → Side → Bytes → Script → Script → Script
try_script σ side t ended failed =
    plainly (codes "WATCH" ∷ σ.unacked ∷ []) (on_done (
    plainly (codes "HGET" ∷ σ.unacked ∷ t ∷ []) (on_entry (leave_script ended) (λ u. route_script σ side t u ended failed (carried_for σ t u)))))

-- so many tries, by what follows the end of one, and what follows when each of them failed
abbrev pub tries_script : Setting → Side → Bytes → Script → Script → ℕ → Script
tries_script σ side t ended stuck zero = stuck
tries_script σ side t ended stuck (suc n) = try_script σ side t ended (tries_script σ side t ended stuck n)

-- a return of t at this side: at most eight tries
abbrev pub return_script : Setting → Side → Bytes → Script
return_script σ side t = tries_script σ side t Over Over 8

-- ---- passing

-- EXEC of a release, which any array or the null array answers
abbrev pub on_released : Value → Script
on_released r = on_null_array Over (if_told (λ vs. Over) (items_of r)) r

-- by what GET of the mutex answered: the own token, another's, or none
abbrev pub on_token : Setting → Bytes → Value → Script
on_token σ token r =
    if null_bulk_in (layer r) then leave_script Over else if_told (λ u. if same u token then
    plainly (codes "MULTI" ∷ []) (on_done (
    plainly (codes "DEL" ∷ σ.mutex ∷ []) (on_queued (
    plainly (codes "EXEC" ∷ []) on_released))))
    else leave_script Over) (bulk_of r)

-- a pass lets go of the mutex
abbrev pub release_script : Setting → Bytes → Script
release_script σ token =
    plainly (codes "WATCH" ∷ σ.mutex ∷ []) (on_done (
    plainly (codes "GET" ∷ σ.mutex ∷ []) (on_token σ token)))

-- the returns of these tags, as far as they go, and then the release
abbrev pub returns_script : Setting → Bytes → List Bytes → Script
returns_script σ token [] = release_script σ token
returns_script σ token (t ∷ ts) = tries_script σ Right t (returns_script σ token ts) (release_script σ token) 8

-- by what SET of the mutex answered: another pass has it, or it was taken
abbrev pub on_locked : Script → Value → Script
on_locked go r = if null_bulk_in (layer r) then Over else on_done go r

-- a pass under this token over the messages of v seconds
abbrev pub pass_script : Setting → Bytes → ℕ → Script
pass_script σ token v =
    plainly (lock_words σ token) (on_locked (
    Say (λ at. due_words σ at v) (on_texts (λ ms. returns_script σ token (tags_among σ ms)))))

-- ---- plans

-- what a client begins
pub data Plan : Type 0 where
  Declare : Bytes → Bytes → Bytes → Bytes → Plan  -- exchange, routing key, pattern and queue
  Undeclare : Bytes → Bytes → Bytes → Bytes → Plan  -- the same
  Publish : Bytes → Plan  -- the envelope
  Pop : List Bytes → Plan  -- the queues
  End : Bytes → Plan  -- the tag
  Return : Side → Bytes → Plan  -- the side and the tag
  Pass : ℕ → Plan  -- the visibility timeout in seconds

-- the script of a plan of a client of seed s that made p passes before
abbrev pub script_of : Setting → ℕ → ℕ → Plan → Script
script_of σ s p (Declare e r x q) = declare_script σ (codes "SADD") e r x q
script_of σ s p (Undeclare e r x q) = declare_script σ (codes "SREM") e r x q
script_of σ s p (Publish v) = publish_script σ v
script_of σ s p (Pop names) = pop_script σ names
script_of σ s p (End t) = end_script σ t
script_of σ s p (Return side t) = return_script σ side t
script_of σ s p (Pass v) = pass_script σ (token s (suc p)) v

-- what a plan takes from the client's counters
abbrev pub counter_use : Plan → CounterUse
counter_use (Publish v) = Drawing
counter_use (Pass v) = Passing
counter_use other = Other

-- ---- a script and the calls that were made by it

-- one more call
abbrev pub after_call : Script → Call → Script
after_call Over x = Off
after_call Off x = Off
after_call (Say w go) x = go x.answer

-- what is left of a script after these calls
abbrev pub rest_of : Script → List Call → Script
rest_of p [] = p
rest_of p (x ∷ xs) = rest_of (after_call p x) xs

-- the next words, at this moment
abbrev pub next_words : Script → ℕ → Option Words
next_words Over at = None
next_words Off at = None
next_words (Say w go) at = Some (w at)

-- each call's words are those that the script says there
abbrev pub IsSaid : Script → List Call → Type 0
IsSaid p [] = Unit {0}
IsSaid p (x ∷ xs) = (next_words p x.at ≡ Some x.words) × IsSaid (after_call p x) xs
