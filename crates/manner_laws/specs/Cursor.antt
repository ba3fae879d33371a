-- The machine as a cursor, which takes one call after another: what words ask at a spot, and where an answer leads, by tests alone. It is one spot, since the keys and the exchange of a push tell whose it is.
use Rattle.std.specs.Prelude.{◌≡◌, ℕ, suc, ◌+◌, ◌-◌, ◌^◌, ◌<◌, Bool, true, false, ◌&&◌, ◌==◌, not, nat_le, nat_lt, if◌then◌else◌, List, [], ◌∷◌, length, codes, decimal, bytes_eq, Option, Some, None, is_some, option_map, option_and_then}
use Rattle.std.specs.Str.Parse.{digits_value}
use Rattle.wire_values.specs.Layer.{layer}
use Rattle.wire_values.specs.declared.value.Value.{Value}
use Rattle.wire_values.specs.declared.value.Value.TheOpen.{Value-F}
use Rattle.store_model.specs.Limits.{moment_limit}
use Rattle.store_model.specs.Words.{Words, front}
use Rattle.queue_keys.specs.Names.{Bytes, is_name}
use Rattle.queue_keys.specs.QueueKeys.{Each}
use Rattle.queue_keys.specs.Bindings.{Binding, member, is_part, binding_of}
use Rattle.queue_keys.specs.Texts.{token}
use Rattle.command_blocks.specs.Answers.{number_of, bulk_of, items_of, pair_of, is_error}
use Rattle.command_blocks.specs.Setting.{Setting, control_channel}
use Rattle.command_blocks.specs.Calls.{Call, push_word}
use Rattle.command_blocks.specs.RouteBlocks.{is_exchange}
use Rattle.command_blocks.specs.TakeBlocks.{brpop_words}
use Rattle.command_blocks.specs.PassBlocks.{tags_among, lock_words, due_words}
use Rattle.command_blocks.specs.declared.side.Side.{Side}
use Rattle.command_blocks.specs.declared.side.Side.TheVariants.{Left, Right}
use Rattle.manner_laws.specs.Spots.{Job, Open, Alone, Of_pass, job_tag, sided, Spot, Free, Listed, Pushing, Popped, Pop_begun, Pop_indexed, End_begun, End_removed, Filled, Looking, Waiting, Watched, Leaving, Asking, Ready, Begun, Removed, Putting, Locked, Turning, Release_watched, Release_own, Release_begun, Release_deleted, Release_foreign, pushing, finished, gave_up, routed, Ask, Count, Consent, Queueing, Counts, Anything, Bindings, Message, Entry, Routes, Move, Lock, Due, Holder, Release}
use Rattle.manner_laws.specs.Machine.{TellsExchanges}

-- ---- words

-- whether the words are these
abbrev pub same_words : Words → Words → Bool
same_words [] [] = true
same_words [] (y ∷ ys) = false
same_words (x ∷ xs) [] = false
same_words (x ∷ xs) (y ∷ ys) = bytes_eq x y && same_words xs ys

-- whether the first word is this
abbrev pub is_command : Bytes → Words → Bool
is_command name [] = false
is_command name (w ∷ ws) = bytes_eq name w

-- the second word, empty where there is none
abbrev pub second : Words → Bytes
second [] = []
second (a ∷ []) = []
second (a ∷ b ∷ ws) = b

-- the third word, empty where there is none
abbrev pub third : Words → Bytes
third [] = []
third (a ∷ []) = []
third (a ∷ b ∷ []) = []
third (a ∷ b ∷ c ∷ ws) = c

-- the words after the third
abbrev pub further : Words → Words
further [] = []
further (a ∷ []) = []
further (a ∷ b ∷ []) = []
further (a ∷ b ∷ c ∷ ws) = ws

-- the words between the first and the last
abbrev pub middle : Words → Words
middle [] = []
middle (a ∷ []) = []
middle (a ∷ b ∷ ws) = front b ws

-- what is asked, where the test holds
abbrev pub only_if : Bool → Option Ask → Option Ask
only_if true q = q
only_if false q = None

-- what is asked, where the words are these
abbrev pub if_said : Words → Words → Ask → Option Ask
if_said expected words q = only_if (same_words expected words) (Some q)

-- whether it is this text
abbrev pub is_text : Bytes → Option Bytes → Bool
is_text t None = false
is_text t (Some x) = bytes_eq t x

-- all are lawful names of queues
abbrev pub all_names : List Bytes → Bool
all_names [] = true
all_names (q ∷ qs) = is_name q && all_names qs

-- the queue of a key at step 0, before others
abbrev pub onto_queues : Option (Bytes × ℕ) → List Bytes → List Bytes
onto_queues None qs = qs
onto_queues (Some k) qs = if k.1 == 0 then k.0 ∷ qs else qs

-- the queues whose keys at step 0 are among the keys
abbrev pub queues_among : Setting → List Bytes → List Bytes
queues_among σ [] = []
queues_among σ (k ∷ ks) = onto_queues (σ.split k) (queues_among σ ks)

-- how many seconds before this moment lies the one that a signed decimal text tells
abbrev pub seconds_before : ℕ → Bytes → ℕ
seconds_before a [] = a
seconds_before a (b ∷ bs) = if b == 45 then a + digits_value 10 bs else a - digits_value 10 (b ∷ bs)

-- ---- what words ask

-- a declaration, or what undoes it, by the exchange of its key and the binding that its member spells
abbrev pub declaration_ask : Setting → Bytes → Spot → Words → Option Bytes → Option Binding → Option Ask
declaration_ask σ word c words None b = None
declaration_ask σ word c words (Some e) None = None
declaration_ask σ word c words (Some e) (Some b) =
    only_if (is_part e && is_part b.routing_key && is_part b.pattern && is_name b.queue) (if_said (word ∷ σ.binding e ∷ member b.routing_key b.pattern b.queue ∷ []) words (Count c))

-- a publication on the empty exchange
abbrev pub publication_ask : Setting → ℕ → ℕ → ℕ → Words → Bytes → Bytes → Option Ask
publication_ask σ s n p words k v =
    only_if (is_text (σ.tag s (suc n)) (σ.written_tag v) && not (is_some (σ.exchange_of v)) && same_words (k ∷ []) (σ.keys_for v [])) (if_said (codes "LPUSH" ∷ k ∷ v ∷ []) words (Count (Free (suc n) p)))

-- a publication on an exchange with a name
abbrev pub bindings_ask : Setting → ℕ → ℕ → ℕ → Words → Option Bytes → Option Ask
bindings_ask σ s n p words None = None
bindings_ask σ s n p words (Some e) = only_if (σ.is_tag (σ.tag s (suc n)) && is_exchange e) (if_said (codes "SMEMBERS" ∷ σ.binding e ∷ []) words (Bindings n p e))

-- a pop of these keys, over these queues
abbrev pub pop_ask : Setting → ℕ → ℕ → Words → List Bytes → List Bytes → Option Ask
pop_ask σ n p words names [] = None
pop_ask σ n p words names (k ∷ ks) = only_if (all_names names && same_words (σ.pop_keys names) (k ∷ ks) && nat_le (length (k ∷ ks)) 4094) (if_said (brpop_words k ks) words (Message n p))

-- words that concern no message, other than pushes and pops of replies
unfoldable pub neutral_ask : Setting → Spot → Words → Option Ask
neutral_ask σ c words =
    if is_command (codes "PING") words then if_said (codes "PING" ∷ []) words (Anything c) else
    if is_command (codes "SELECT") words then if_said (codes "SELECT" ∷ codes "0" ∷ []) words (Anything c) else
    if is_command (codes "LLEN") words then if_said (codes "LLEN" ∷ second words ∷ []) words (Anything c) else
    if is_command (codes "SUBSCRIBE") words then if_said (codes "SUBSCRIBE" ∷ control_channel ∷ []) words (Anything c) else
    if is_command (codes "UNSUBSCRIBE") words then if_said (codes "UNSUBSCRIBE" ∷ control_channel ∷ []) words (Anything c) else
    if is_command (codes "PUBLISH") words then if_said (codes "PUBLISH" ∷ control_channel ∷ third words ∷ []) words (Anything c) else
    if is_command (codes "EXPIRE") words then only_if (σ.is_reply (second words)) (if_said (codes "EXPIRE" ∷ second words ∷ third words ∷ []) words (Anything c)) else None

-- LPUSH at a block's start: of a control reply, or a publication on the empty exchange; the key tells which
abbrev pub push_ask : Setting → ℕ → ℕ → ℕ → Words → Option Ask
push_ask σ s n p words =
    if σ.is_reply (second words) then if_said (codes "LPUSH" ∷ second words ∷ third words ∷ further words) words (Anything (Free n p)) else publication_ask σ s n p words (second words) (third words)

-- BRPOP at a block's start: of control replies, or of queues; the key tells which
abbrev pub take_ask : Setting → ℕ → ℕ → Words → Option Ask
take_ask σ n p words =
    if σ.is_reply (second words) then if_said (codes "BRPOP" ∷ second words ∷ third words ∷ []) words (Anything (Free n p)) else pop_ask σ n p words (queues_among σ (middle words)) (middle words)

-- words at a block's start: the first word tells the block
unfoldable pub start_ask : Setting → (Bytes → Option Bytes) → ℕ → ℕ → ℕ → Words → Option Ask
start_ask σ exchange_at s n p words =
    if is_command (codes "LPUSH") words then push_ask σ s n p words else
    if is_command (codes "BRPOP") words then take_ask σ n p words else
    if is_command (codes "SMEMBERS") words then bindings_ask σ s n p words (exchange_at (second words)) else
    if is_command (codes "MULTI") words then if_said (codes "MULTI" ∷ []) words (Consent (End_begun n p)) else
    if is_command (codes "WATCH") words then if_said (codes "WATCH" ∷ σ.unacked ∷ []) words (Consent (Looking n p)) else
    if is_command (codes "SET") words then if_said (lock_words σ (token s (suc p))) words (Lock n p) else
    if is_command (codes "SADD") words then declaration_ask σ (codes "SADD") (Free n p) words (exchange_at (second words)) (binding_of (third words)) else
    if is_command (codes "SREM") words then declaration_ask σ (codes "SREM") (Free n p) words (exchange_at (second words)) (binding_of (third words)) else
    neutral_ask σ (Free n p) words

-- the first push of a publication on this exchange, of which these are the keys
abbrev pub first_push_ask : Setting → ℕ → ℕ → ℕ → Bytes → Words → Bytes → Bytes → List Bytes → Option Ask
first_push_ask σ s n p e words k v [] = None
first_push_ask σ s n p e words k v (q ∷ qs) = only_if (is_text (σ.tag s (suc n)) (σ.written_tag v) && is_text e (σ.exchange_of v) && bytes_eq k q) (if_said (codes "LPUSH" ∷ k ∷ v ∷ []) words (Count (pushing n p v qs)))

-- the first, where there is one
abbrev pub or_ask : Option Ask → Option Ask → Option Ask
or_ask None later = later
or_ask (Some q) later = Some q

-- the side at which words push
abbrev pub side_said : Words → Side
side_said words = if is_command (codes "LPUSH") words then Left else Right

-- the side at which a return pushes, which the words show where it isn't known
abbrev pub side_for : Job → Words → Side
side_for (Open t) words = side_said words
side_for (Alone own t) words = own
side_for (Of_pass t ts) words = Right

-- what the words of a client of seed s ask at a spot, at a moment
abbrev pub ask_at : Setting → (Bytes → Option Bytes) → ℕ → Spot → ℕ → Words → Option Ask
ask_at σ exchange_at s (Free n p) a words = start_ask σ exchange_at s n p words
ask_at σ exchange_at s (Listed n p e ms) a words = or_ask (first_push_ask σ s n p e words (second words) (third words) (σ.keys_for (third words) ms)) (start_ask σ exchange_at s (suc n) p words)
ask_at σ exchange_at s (Pushing n p v k ks) a words = if_said (codes "LPUSH" ∷ k ∷ v ∷ []) words (Count (pushing n p v ks))
ask_at σ exchange_at s (Popped n p v t) a words = if_said (codes "MULTI" ∷ []) words (Consent (Pop_begun n p v t))
ask_at σ exchange_at s (Pop_begun n p v t) a words = only_if (nat_lt a moment_limit) (if_said (codes "ZADD" ∷ σ.index ∷ decimal a ∷ t ∷ []) words (Queueing (Pop_indexed n p v t)))
ask_at σ exchange_at s (Pop_indexed n p v t) a words = if_said (codes "HSET" ∷ σ.unacked ∷ t ∷ σ.entry_of v ∷ []) words (Queueing (Filled n p))
ask_at σ exchange_at s (End_begun n p) a words = only_if (σ.is_tag (third words)) (if_said (codes "ZREM" ∷ σ.index ∷ third words ∷ []) words (Queueing (End_removed n p (third words))))
ask_at σ exchange_at s (End_removed n p t) a words = if_said (codes "HDEL" ∷ σ.unacked ∷ t ∷ []) words (Queueing (Filled n p))
ask_at σ exchange_at s (Filled n p) a words = if_said (codes "EXEC" ∷ []) words (Counts (Free n p))
ask_at σ exchange_at s (Looking n p) a words = only_if (σ.is_tag (third words)) (if_said (codes "HGET" ∷ σ.unacked ∷ third words ∷ []) words (Entry n p (Open (third words)) 0))
ask_at σ exchange_at s (Waiting n p j k) a words = if_said (codes "WATCH" ∷ σ.unacked ∷ []) words (Consent (Watched n p j k))
ask_at σ exchange_at s (Watched n p j k) a words = if_said (codes "HGET" ∷ σ.unacked ∷ job_tag j ∷ []) words (Entry n p j k)
ask_at σ exchange_at s (Leaving n p j) a words = if_said (codes "UNWATCH" ∷ []) words (Consent (finished n p j))
ask_at σ exchange_at s (Asking n p j k u v e) a words = if_said (codes "SMEMBERS" ∷ σ.binding e ∷ []) words (Routes n p j k u v)
ask_at σ exchange_at s (Ready n p j k v q qs) a words = if_said (codes "MULTI" ∷ []) words (Consent (Begun n p j k v q qs))
ask_at σ exchange_at s (Begun n p j k v q qs) a words = if_said (codes "ZREM" ∷ σ.index ∷ job_tag j ∷ []) words (Queueing (Removed n p j k v q qs))
ask_at σ exchange_at s (Removed n p j k v q qs) a words = if_said (codes "HDEL" ∷ σ.unacked ∷ job_tag j ∷ []) words (Queueing (Putting n p j k v (q ∷ qs)))
ask_at σ exchange_at s (Putting n p j k v []) a words = if_said (codes "EXEC" ∷ []) words (Move n p j k)
ask_at σ exchange_at s (Putting n p j k v (q ∷ qs)) a words = if_said (push_word (side_for j words) ∷ q ∷ v ∷ []) words (Queueing (Putting n p (sided j (side_for j words)) k v qs))
ask_at σ exchange_at s (Locked n p) a words = only_if (nat_lt (seconds_before a (third words)) (2 ^ 32)) (if_said (due_words σ a (seconds_before a (third words))) words (Due n p))
ask_at σ exchange_at s (Turning n p []) a words = if_said (codes "WATCH" ∷ σ.mutex ∷ []) words (Consent (Release_watched n p))
ask_at σ exchange_at s (Turning n p (t ∷ ts)) a words = if_said (codes "WATCH" ∷ σ.unacked ∷ []) words (Consent (Watched n p (Of_pass t ts) 0))
ask_at σ exchange_at s (Release_watched n p) a words = if_said (codes "GET" ∷ σ.mutex ∷ []) words (Holder n p)
ask_at σ exchange_at s (Release_own n p) a words = if_said (codes "MULTI" ∷ []) words (Consent (Release_begun n p))
ask_at σ exchange_at s (Release_begun n p) a words = if_said (codes "DEL" ∷ σ.mutex ∷ []) words (Queueing (Release_deleted n p))
ask_at σ exchange_at s (Release_deleted n p) a words = if_said (codes "EXEC" ∷ []) words (Release n p)
ask_at σ exchange_at s (Release_foreign n p) a words = if_said (codes "UNWATCH" ∷ []) words (Consent (Free n (suc p)))

-- ---- what answers tell

-- whether it is this simple string
abbrev pub is_status : Bytes → Value-F Value → Bool
is_status t (Value-F.Status u) = bytes_eq t u
is_status t other = false

-- whether it is the null bulk string
abbrev pub is_null_bulk : Value-F Value → Bool
is_null_bulk Value-F.NullBulk = true
is_null_bulk other = false

-- whether it is the null array
abbrev pub is_null_array : Value-F Value → Bool
is_null_array Value-F.NullArray = true
is_null_array other = false

-- whether all are integers
abbrev pub all_integers : List Value → Bool
all_integers [] = true
all_integers (v ∷ vs) = is_some (number_of v) && all_integers vs

-- whether it is an array of integers
abbrev pub are_integers : Option (List Value) → Bool
are_integers None = false
are_integers (Some vs) = all_integers vs

-- whether it is an array of two integers
abbrev pub are_two_integers : Option (List Value) → Bool
are_two_integers None = false
are_two_integers (Some vs) = (length vs == 2) && all_integers vs

-- a text before others, where all are there
abbrev pub onto_texts : Option Bytes → Option (List Bytes) → Option (List Bytes)
onto_texts None later = None
onto_texts (Some b) later = option_map (λ bs. b ∷ bs) later

-- the bytes of values that all are bulk strings
abbrev pub texts_among : List Value → Option (List Bytes)
texts_among [] = Some []
texts_among (v ∷ vs) = onto_texts (bulk_of v) (texts_among vs)

-- the bytes of an array of bulk strings
abbrev pub bulk_texts_of : Value → Option (List Bytes)
bulk_texts_of r = option_and_then texts_among (items_of r)

-- a spot, where the test holds
abbrev pub spot_if : Bool → Spot → Option Spot
spot_if true c = Some c
spot_if false c = None

-- after a pop that gave the bytes v, which tell this tag
abbrev pub popped_spot : ℕ → ℕ → Bytes → Option Bytes → Spot
popped_spot n p v None = Free n p
popped_spot n p v (Some t) = Popped n p v t

-- the envelope, where it tells the tag
abbrev pub if_tagged : Setting → Bytes → Option Bytes → Option Bytes
if_tagged σ t None = None
if_tagged σ t (Some v) = if is_text t (σ.tag_of v) then Some v else None

-- after an entry was read that carries this envelope, and tells this exchange
abbrev pub read_spot : Setting → ℕ → ℕ → Job → ℕ → Bytes → Option Bytes → Option Bytes → Spot
read_spot σ n p j k u None o = Leaving n p j
read_spot σ n p j k u (Some v) None = routed n p j k v (σ.keys_in u [])
read_spot σ n p j k u (Some v) (Some e) = Asking n p j k u v e

-- after an entry was read
abbrev pub entry_spot : Setting → ℕ → ℕ → Job → ℕ → Bytes → Spot
entry_spot σ n p j k u = read_spot σ n p j k u (if_tagged σ (job_tag j) (σ.carried u)) (σ.exchange_in u)

-- after a try that failed
abbrev pub failed_spot : ℕ → ℕ → Job → ℕ → Option Spot
failed_spot n p j k = if nat_lt k 7 then Some (Waiting n p j (suc k)) else spot_if (k == 7) (gave_up n p j)

-- after the holder of the mutex was read
abbrev pub holder_spot : ℕ → ℕ → ℕ → Bytes → Spot
holder_spot s n p u = if bytes_eq (token s (suc p)) u then Release_own n p else Release_foreign n p

-- the spot to which an answer leads, none where it isn't listed
abbrev pub spot_after : Setting → ℕ → Ask → Value → Option Spot
spot_after σ s (Count c) r = spot_if (is_some (number_of r)) c
spot_after σ s (Consent c) r = spot_if (is_status (codes "OK") (layer r)) c
spot_after σ s (Queueing c) r = spot_if (is_status (codes "QUEUED") (layer r)) c
spot_after σ s (Counts c) r = spot_if (are_two_integers (items_of r)) c
spot_after σ s (Anything c) r = spot_if (not (is_error r)) c
spot_after σ s (Bindings n p e) r = option_map (λ ms. Listed n p e ms) (bulk_texts_of r)
spot_after σ s (Message n p) r = if is_null_array (layer r) then Some (Free n p) else option_map (λ x. popped_spot n p x.1 (σ.tag_of x.1)) (pair_of r)
spot_after σ s (Entry n p j k) r = if is_null_bulk (layer r) then Some (Leaving n p j) else option_map (entry_spot σ n p j k) (bulk_of r)
spot_after σ s (Routes n p j k u v) r = option_map (λ ms. routed n p j k v (σ.keys_in u ms)) (bulk_texts_of r)
spot_after σ s (Move n p j k) r = if is_null_array (layer r) then failed_spot n p j k else spot_if (are_integers (items_of r)) (finished n p j)
spot_after σ s (Lock n p) r = if is_null_bulk (layer r) then Some (Free n (suc p)) else spot_if (is_status (codes "OK") (layer r)) (Locked n p)
spot_after σ s (Due n p) r = option_map (λ ms. Turning n p (tags_among σ ms)) (bulk_texts_of r)
spot_after σ s (Holder n p) r = if is_null_bulk (layer r) then Some (Release_foreign n p) else option_map (holder_spot s n p) (bulk_of r)
spot_after σ s (Release n p) r = if is_null_array (layer r) then Some (Free n (suc p)) else spot_if (is_some (items_of r)) (Free n (suc p))

-- ---- calls

-- what the calls so far are
pub data Cursor : Type 0 where
  At : Spot → Cursor  -- mannered: the next call comes at this spot
  Unlisted : Cursor  -- mannered, with a last answer that isn't listed: nothing may follow
  Unmannered : Cursor

-- once the words' answer is known
abbrev pub cursor_at : Option Spot → Cursor
cursor_at None = Unlisted
cursor_at (Some c) = At c

-- once it is known what the words ask
abbrev pub cursor_heard : Setting → ℕ → Option Ask → Value → Cursor
cursor_heard σ s None r = Unmannered
cursor_heard σ s (Some q) r = cursor_at (spot_after σ s q r)

-- after one more call
abbrev pub judge : Setting → (Bytes → Option Bytes) → ℕ → Cursor → Call → Cursor
judge σ exchange_at s (At c) x = cursor_heard σ s (ask_at σ exchange_at s c x.at x.words) x.answer
judge σ exchange_at s Unlisted x = Unmannered
judge σ exchange_at s Unmannered x = Unmannered

-- after these calls
abbrev pub cursor_after : Setting → (Bytes → Option Bytes) → ℕ → Cursor → List Call → Cursor
cursor_after σ exchange_at s c [] = c
cursor_after σ exchange_at s c (x ∷ xs) = cursor_after σ exchange_at s (judge σ exchange_at s c x) xs

-- after all calls of a client
abbrev pub cursor_of : Setting → (Bytes → Option Bytes) → ℕ → List Call → Cursor
cursor_of σ exchange_at s l = cursor_after σ exchange_at s (At (Free 0 0)) l

-- ---- what a cursor needs

-- keys tell what they were made of: the one of bindings its exchange by `exchange_at`, those of a pop its queues; and envelopes tell exchanges with lawful names
pub record IsReadable (σ : Setting) (exchange_at : Bytes → Option Bytes) : Type 0 where
  pub exchange : (e : Bytes) → exchange_at (σ.binding e) ≡ Some e
  pub queues : (names : List Bytes) → Each is_name names → queues_among σ (σ.pop_keys names) ≡ names
  pub tells : TellsExchanges σ

-- the moments of calls have 64 bits
abbrev pub HaveMomentsOf64Bits : List Call → Type 0
HaveMomentsOf64Bits [] = Unit {0}
HaveMomentsOf64Bits (x ∷ xs) = (x.at < 2 ^ 64) × HaveMomentsOf64Bits xs
