-- What words ask is just what the machine lets them ask.
use Rattle.std.proofs.Common.{◌≡◌, ◌⊎◌, inl, inr, ℕ, suc, ◌^◌, List, [], ◌∷◌, true, not, ◌&&◌, refl, sym, ap, subst, ◌∙◌, None, Some, Option, nat_lt, codes, decimal, length}
use Rattle.std.specs.Prelude.{bytes_eq, is_some, nat_le, if◌then◌else◌}
use Rattle.store_model.specs.Words.{Words}
use Rattle.queue_keys.specs.Names.{Bytes, is_name}
use Rattle.queue_keys.specs.Bindings.{Binding, member, is_part, binding_of}
use Rattle.queue_keys.specs.Texts.{token}
use Rattle.command_blocks.specs.Setting.{Setting, control_channel}
use Rattle.command_blocks.specs.RouteBlocks.{is_exchange}
use Rattle.command_blocks.specs.TakeBlocks.{brpop_words}
use Rattle.command_blocks.specs.PassBlocks.{lock_words, due_words}
use Rattle.command_blocks.specs.Blocks.{IsNeutral, Pings, Selects, Measures, Subscribes, Unsubscribes, Announces, Replies, Receives, Limits}
use Rattle.manner_laws.specs.Spots.{Job, Open, Alone, Of_pass, MayPush, Spot, Free, Listed, Pushing, Popped, Pop_begun, Pop_indexed, End_begun, End_removed, Filled, Looking, Waiting, Watched, Leaving, Asking, Ready, Begun, Removed, Putting, Locked, Turning, Release_watched, Release_own, Release_begun, Release_deleted, Release_foreign, pushing, Ask, Count, Consent, Queueing, Anything, Bindings, Message, Entry, Lock, Due}
use Rattle.manner_laws.specs.Machine.{Begins, Declares, Undeclares, Publishes, Lists, Pops, Ends, Returns, Passes, Concerns_none, Asks, Starts, Starts_next, Pushes_first, Pushes, Pop_begins, Pop_indexes, Pop_sets, End_removes, End_deletes, Executes, Names, Tries, Reads, Leaves, Looks_up, Takes, Removes, Deletes, Puts, Moves, Looks, Turns, Lets_go, Inspects, Release_begins, Release_deletes, Release_ends, Leaves_foreign}
use Rattle.manner_laws.specs.Cursor.{same_words, is_command, second, third, further, middle, if_said, is_text, all_names, queues_among, seconds_before, declaration_ask, publication_ask, bindings_ask, pop_ask, neutral_ask, start_ask, first_push_ask, or_ask, side_for, ask_at}
use Rattle.manner_laws.proofs.Tests.{none_some, bytes_true, and_true, words_true, only_if_is, moved, split, is_text_is, not_some, names_are, le_true, lt_true}

module _ (σ : Setting) (exchange_at : Bytes → Option Bytes) (s : ℕ) where
  -- ---- what is asked, the machine lets ask

  declaration_is : (word : Bytes) (c : Spot) (words : Words) (o : Option Bytes) (b : Option Binding) (q : Ask) (P : Words → Ask → Type 0)
      → ((e r x n : Bytes) → is_part e ≡ true → is_part r ≡ true → is_part x ≡ true → is_name n ≡ true → P (word ∷ σ.binding e ∷ member r x n ∷ []) (Count c))
      → declaration_ask σ word c words o b ≡ Some q → P words q
  declaration_is word c words None b q P f h = none_some _ q h
  declaration_is word c words (Some e) None q P f h = none_some _ q h
  declaration_is word c words (Some e) (Some b) q P f h =
      let x = only_if_is (is_part e && is_part b.routing_key && is_part b.pattern && is_name b.queue) (if_said (word ∷ σ.binding e ∷ member b.routing_key b.pattern b.queue ∷ []) words (Count c)) q h in
      let y = and_true (is_part e && is_part b.routing_key && is_part b.pattern) (is_name b.queue) x.0 in
      let z = and_true (is_part e && is_part b.routing_key) (is_part b.pattern) y.0 in
      let w = and_true (is_part e) (is_part b.routing_key) z.0 in
      moved P (word ∷ σ.binding e ∷ member b.routing_key b.pattern b.queue ∷ []) words (Count c) q (f e b.routing_key b.pattern b.queue w.0 w.1 z.1 y.1) x.1

  publication_is : (n p : ℕ) (words : Words) (k v : Bytes) (q : Ask) → publication_ask σ s n p words k v ≡ Some q → Begins σ s n p words q
  publication_is n p words k v q h =
      let x = only_if_is (is_text (σ.tag s (suc n)) (σ.written_tag v) && not (is_some (σ.exchange_of v)) && same_words (k ∷ []) (σ.keys_for v [])) (if_said (codes "LPUSH" ∷ k ∷ v ∷ []) words (Count (Free (suc n) p))) q h in
      let y = and_true (is_text (σ.tag s (suc n)) (σ.written_tag v) && not (is_some (σ.exchange_of v))) (same_words (k ∷ []) (σ.keys_for v [])) x.0 in
      let z = and_true (is_text (σ.tag s (suc n)) (σ.written_tag v)) (not (is_some (σ.exchange_of v))) y.0 in
      moved (Begins σ s n p) (codes "LPUSH" ∷ k ∷ v ∷ []) words (Count (Free (suc n) p)) q (Publishes k v (is_text_is (σ.tag s (suc n)) (σ.written_tag v) z.0) (not_some (σ.exchange_of v) z.1) (sym (words_true (k ∷ []) (σ.keys_for v []) y.1))) x.1

  bindings_are : (n p : ℕ) (words : Words) (o : Option Bytes) (q : Ask) → bindings_ask σ s n p words o ≡ Some q → Begins σ s n p words q
  bindings_are n p words None q h = none_some _ q h
  bindings_are n p words (Some e) q h =
      let x = only_if_is (σ.is_tag (σ.tag s (suc n)) && is_exchange e) (if_said (codes "SMEMBERS" ∷ σ.binding e ∷ []) words (Bindings n p e)) q h in
      let y = and_true (σ.is_tag (σ.tag s (suc n))) (is_exchange e) x.0 in
      moved (Begins σ s n p) (codes "SMEMBERS" ∷ σ.binding e ∷ []) words (Bindings n p e) q (Lists e y.0 y.1) x.1

  pop_is : (n p : ℕ) (words : Words) (names ks : List Bytes) (q : Ask) → pop_ask σ n p words names ks ≡ Some q → Begins σ s n p words q
  pop_is n p words names [] q h = none_some _ q h
  pop_is n p words names (k ∷ ks) q h =
      let x = only_if_is (all_names names && same_words (σ.pop_keys names) (k ∷ ks) && nat_le (length (k ∷ ks)) 4094) (if_said (brpop_words k ks) words (Message n p)) q h in
      let y = and_true (all_names names && same_words (σ.pop_keys names) (k ∷ ks)) (nat_le (length (k ∷ ks)) 4094) x.0 in
      let z = and_true (all_names names) (same_words (σ.pop_keys names) (k ∷ ks)) y.0 in
      moved (Begins σ s n p) (brpop_words k ks) words (Message n p) q (Pops names k ks (names_are names z.0, words_true (σ.pop_keys names) (k ∷ ks) z.1, le_true (length (k ∷ ks)) 4094 y.1)) x.1

  -- neutral words ask for anything
  abbrev Neutrally : Spot → Words → Ask → Type 0
  Neutrally c words q = IsNeutral σ words × (Anything c ≡ q)

  neutral_is : (c : Spot) (words : Words) (q : Ask) → neutral_ask σ c words ≡ Some q → Neutrally c words q
  unfolding neutral_ask
  neutral_is c words q h = elim (split (is_command (codes "PING") words) _ _ q h) [
    | inl x ↦ moved (Neutrally c) (codes "PING" ∷ []) words (Anything c) q (Pings, refl) x.1
    | inr h ↦ elim (split (is_command (codes "SELECT") words) _ _ q h.1) [
      | inl x ↦ moved (Neutrally c) (codes "SELECT" ∷ codes "0" ∷ []) words (Anything c) q (Selects, refl) x.1
      | inr h ↦ elim (split (is_command (codes "LLEN") words) _ _ q h.1) [
        | inl x ↦ moved (Neutrally c) (codes "LLEN" ∷ second words ∷ []) words (Anything c) q (Measures (second words), refl) x.1
        | inr h ↦ elim (split (is_command (codes "SUBSCRIBE") words) _ _ q h.1) [
          | inl x ↦ moved (Neutrally c) (codes "SUBSCRIBE" ∷ control_channel ∷ []) words (Anything c) q (Subscribes, refl) x.1
          | inr h ↦ elim (split (is_command (codes "UNSUBSCRIBE") words) _ _ q h.1) [
            | inl x ↦ moved (Neutrally c) (codes "UNSUBSCRIBE" ∷ control_channel ∷ []) words (Anything c) q (Unsubscribes, refl) x.1
            | inr h ↦ elim (split (is_command (codes "PUBLISH") words) _ _ q h.1) [
              | inl x ↦ moved (Neutrally c) (codes "PUBLISH" ∷ control_channel ∷ third words ∷ []) words (Anything c) q (Announces (third words), refl) x.1
              | inr h ↦ elim (split (is_command (codes "EXPIRE") words) _ _ q h.1) [
                | inl x ↦
                    let y = only_if_is (σ.is_reply (second words)) (if_said (codes "EXPIRE" ∷ second words ∷ third words ∷ []) words (Anything c)) q x.1 in
                    moved (Neutrally c) (codes "EXPIRE" ∷ second words ∷ third words ∷ []) words (Anything c) q (Limits (second words) (third words) y.0, refl) y.1
                | inr h ↦ none_some _ q h.1
              ]
            ]
          ]
        ]
      ]
    ]
  ]

  neutral_begins : (n p : ℕ) (words : Words) (q : Ask) → Neutrally (Free n p) words q → Begins σ s n p words q
  neutral_begins n p words q h = subst (Begins σ s n p words) h.1 (Concerns_none words h.0)

  push_is : (n p : ℕ) (words : Words) (q : Ask)
      → (if σ.is_reply (second words) then if_said (codes "LPUSH" ∷ second words ∷ third words ∷ further words) words (Anything (Free n p)) else publication_ask σ s n p words (second words) (third words)) ≡ Some q
      → Begins σ s n p words q
  push_is n p words q h = elim (split (σ.is_reply (second words)) _ _ q h) [
    | inl x ↦ neutral_begins n p words q (moved (Neutrally (Free n p)) (codes "LPUSH" ∷ second words ∷ third words ∷ further words) words (Anything (Free n p)) q (Replies (second words) (third words) (further words) x.0, refl) x.1)
    | inr x ↦ publication_is n p words (second words) (third words) q x.1
  ]

  take_is : (n p : ℕ) (words : Words) (q : Ask)
      → (if σ.is_reply (second words) then if_said (codes "BRPOP" ∷ second words ∷ third words ∷ []) words (Anything (Free n p)) else pop_ask σ n p words (queues_among σ (middle words)) (middle words)) ≡ Some q
      → Begins σ s n p words q
  take_is n p words q h = elim (split (σ.is_reply (second words)) _ _ q h) [
    | inl x ↦ neutral_begins n p words q (moved (Neutrally (Free n p)) (codes "BRPOP" ∷ second words ∷ third words ∷ []) words (Anything (Free n p)) q (Receives (second words) (third words) x.0, refl) x.1)
    | inr x ↦ pop_is n p words (queues_among σ (middle words)) (middle words) q x.1
  ]

  start_is : (n p : ℕ) (words : Words) (q : Ask) → start_ask σ exchange_at s n p words ≡ Some q → Begins σ s n p words q
  unfolding start_ask
  start_is n p words q h = elim (split (is_command (codes "LPUSH") words) _ _ q h) [
    | inl x ↦ push_is n p words q x.1
    | inr h ↦ elim (split (is_command (codes "BRPOP") words) _ _ q h.1) [
      | inl x ↦ take_is n p words q x.1
      | inr h ↦ elim (split (is_command (codes "SMEMBERS") words) _ _ q h.1) [
        | inl x ↦ bindings_are n p words (exchange_at (second words)) q x.1
        | inr h ↦ elim (split (is_command (codes "MULTI") words) _ _ q h.1) [
          | inl x ↦ moved (Begins σ s n p) (codes "MULTI" ∷ []) words (Consent (End_begun n p)) q Ends x.1
          | inr h ↦ elim (split (is_command (codes "WATCH") words) _ _ q h.1) [
            | inl x ↦ moved (Begins σ s n p) (codes "WATCH" ∷ σ.unacked ∷ []) words (Consent (Looking n p)) q Returns x.1
            | inr h ↦ elim (split (is_command (codes "SET") words) _ _ q h.1) [
              | inl x ↦ moved (Begins σ s n p) (lock_words σ (token s (suc p))) words (Lock n p) q Passes x.1
              | inr h ↦ elim (split (is_command (codes "SADD") words) _ _ q h.1) [
                | inl x ↦ declaration_is (codes "SADD") (Free n p) words (exchange_at (second words)) (binding_of (third words)) q (Begins σ s n p) (λ e r x n t u v w. Declares e r x n t u v w) x.1
                | inr h ↦ elim (split (is_command (codes "SREM") words) _ _ q h.1) [
                  | inl x ↦ declaration_is (codes "SREM") (Free n p) words (exchange_at (second words)) (binding_of (third words)) q (Begins σ s n p) (λ e r x n t u v w. Undeclares e r x n t u v w) x.1
                  | inr h ↦ neutral_begins n p words q (neutral_is (Free n p) words q h.1)
                ]
              ]
            ]
          ]
        ]
      ]
    ]
  ]

  first_push_is : (n p : ℕ) (e : Bytes) (ms : List Bytes) (a : ℕ) (words : Words) (k v : Bytes) (ks : List Bytes) (q : Ask) → σ.keys_for v ms ≡ ks → first_push_ask σ s n p e words k v ks ≡ Some q → Asks σ s (Listed n p e ms) a words q
  first_push_is n p e ms a words k v [] q keys h = none_some _ q h
  first_push_is n p e ms a words k v (x ∷ xs) q keys h =
      let y = only_if_is (is_text (σ.tag s (suc n)) (σ.written_tag v) && is_text e (σ.exchange_of v) && bytes_eq k x) (if_said (codes "LPUSH" ∷ k ∷ v ∷ []) words (Count (pushing n p v xs))) q h in
      let z = and_true (is_text (σ.tag s (suc n)) (σ.written_tag v) && is_text e (σ.exchange_of v)) (bytes_eq k x) y.0 in
      let w = and_true (is_text (σ.tag s (suc n)) (σ.written_tag v)) (is_text e (σ.exchange_of v)) z.0 in
      moved (Asks σ s (Listed n p e ms) a) (codes "LPUSH" ∷ k ∷ v ∷ []) words (Count (pushing n p v xs)) q
      (Pushes_first n p e ms a k v xs (is_text_is (σ.tag s (suc n)) (σ.written_tag v) w.0) (is_text_is e (σ.exchange_of v) w.1) (keys ∙ ap (λ (b : Bytes). b ∷ xs) (sym (bytes_true k x z.1)))) y.1

  or_else_is : (o later : Option Ask) (q : Ask) → or_ask o later ≡ Some q → (o ≡ Some q) ⊎ (later ≡ Some q)
  or_else_is None later q h = inr h
  or_else_is (Some x) later q h = inl h

  side_may : (j : Job) (words : Words) → MayPush j (side_for j words)
  side_may (Open t) words = tt
  side_may (Alone own t) words = refl
  side_may (Of_pass t ts) words = refl

  pub ask_is : (c : Spot) (a : ℕ) (words : Words) (q : Ask) → ask_at σ exchange_at s c a words ≡ Some q → Asks σ s c a words q
  ask_is (Free n p) a words q h = Starts n p a words q (start_is n p words q h)
  ask_is (Listed n p e ms) a words q h = elim (or_else_is (first_push_ask σ s n p e words (second words) (third words) (σ.keys_for (third words) ms)) (start_ask σ exchange_at s (suc n) p words) q h) [
    | inl x ↦ first_push_is n p e ms a words (second words) (third words) (σ.keys_for (third words) ms) q refl x
    | inr x ↦ Starts_next n p e ms a words q (start_is (suc n) p words q x)
  ]
  ask_is (Pushing n p v k ks) a words q h = moved (Asks σ s (Pushing n p v k ks) a) _ words _ q (Pushes n p a v k ks) h
  ask_is (Popped n p v t) a words q h = moved (Asks σ s (Popped n p v t) a) _ words _ q (Pop_begins n p a v t) h
  ask_is (Pop_begun n p v t) a words q h =
      let x = only_if_is (nat_lt a (2 ^ 40)) (if_said (codes "ZADD" ∷ σ.index ∷ decimal a ∷ t ∷ []) words (Queueing (Pop_indexed n p v t))) q h in
      moved (Asks σ s (Pop_begun n p v t) a) _ words _ q (Pop_indexes n p a v t (lt_true a (2 ^ 40) x.0)) x.1
  ask_is (Pop_indexed n p v t) a words q h = moved (Asks σ s (Pop_indexed n p v t) a) _ words _ q (Pop_sets n p a v t) h
  ask_is (End_begun n p) a words q h =
      let x = only_if_is (σ.is_tag (third words)) (if_said (codes "ZREM" ∷ σ.index ∷ third words ∷ []) words (Queueing (End_removed n p (third words)))) q h in
      moved (Asks σ s (End_begun n p) a) _ words _ q (End_removes n p a (third words) x.0) x.1
  ask_is (End_removed n p t) a words q h = moved (Asks σ s (End_removed n p t) a) _ words _ q (End_deletes n p a t) h
  ask_is (Filled n p) a words q h = moved (Asks σ s (Filled n p) a) _ words _ q (Executes n p a) h
  ask_is (Looking n p) a words q h =
      let x = only_if_is (σ.is_tag (third words)) (if_said (codes "HGET" ∷ σ.unacked ∷ third words ∷ []) words (Entry n p (Open (third words)) 0)) q h in
      moved (Asks σ s (Looking n p) a) _ words _ q (Names n p a (third words) x.0) x.1
  ask_is (Waiting n p j k) a words q h = moved (Asks σ s (Waiting n p j k) a) _ words _ q (Tries n p a j k) h
  ask_is (Watched n p j k) a words q h = moved (Asks σ s (Watched n p j k) a) _ words _ q (Reads n p a j k) h
  ask_is (Leaving n p j) a words q h = moved (Asks σ s (Leaving n p j) a) _ words _ q (Leaves n p a j) h
  ask_is (Asking n p j k u v e) a words q h = moved (Asks σ s (Asking n p j k u v e) a) _ words _ q (Looks_up n p a j k u v e) h
  ask_is (Ready n p j k v x xs) a words q h = moved (Asks σ s (Ready n p j k v x xs) a) _ words _ q (Takes n p a j k v x xs) h
  ask_is (Begun n p j k v x xs) a words q h = moved (Asks σ s (Begun n p j k v x xs) a) _ words _ q (Removes n p a j k v x xs) h
  ask_is (Removed n p j k v x xs) a words q h = moved (Asks σ s (Removed n p j k v x xs) a) _ words _ q (Deletes n p a j k v x xs) h
  ask_is (Putting n p j k v []) a words q h = moved (Asks σ s (Putting n p j k v []) a) _ words _ q (Moves n p a j k v) h
  ask_is (Putting n p j k v (x ∷ xs)) a words q h = moved (Asks σ s (Putting n p j k v (x ∷ xs)) a) _ words _ q (Puts n p a j k v x xs (side_for j words) (side_may j words)) h
  ask_is (Locked n p) a words q h =
      let x = only_if_is (nat_lt (seconds_before a (third words)) (2 ^ 32)) (if_said (due_words σ a (seconds_before a (third words))) words (Due n p)) q h in
      moved (Asks σ s (Locked n p) a) _ words _ q (Looks n p a (seconds_before a (third words)) (lt_true (seconds_before a (third words)) (2 ^ 32) x.0)) x.1
  ask_is (Turning n p []) a words q h = moved (Asks σ s (Turning n p []) a) _ words _ q (Lets_go n p a) h
  ask_is (Turning n p (t ∷ ts)) a words q h = moved (Asks σ s (Turning n p (t ∷ ts)) a) _ words _ q (Turns n p a t ts) h
  ask_is (Release_watched n p) a words q h = moved (Asks σ s (Release_watched n p) a) _ words _ q (Inspects n p a) h
  ask_is (Release_own n p) a words q h = moved (Asks σ s (Release_own n p) a) _ words _ q (Release_begins n p a) h
  ask_is (Release_begun n p) a words q h = moved (Asks σ s (Release_begun n p) a) _ words _ q (Release_deletes n p a) h
  ask_is (Release_deleted n p) a words q h = moved (Asks σ s (Release_deleted n p) a) _ words _ q (Release_ends n p a) h
  ask_is (Release_foreign n p) a words q h = moved (Asks σ s (Release_foreign n p) a) _ words _ q (Leaves_foreign n p a) h
