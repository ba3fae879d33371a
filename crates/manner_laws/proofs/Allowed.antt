-- What the machine lets words ask, they ask.
use Rattle.std.proofs.Common.{◌≡◌, ℕ, suc, ◌^◌, ◌<◌, List, [], ◌∷◌, Bool, true, false, not, ◌&&◌, refl, sym, ap, subst, ◌∙◌, None, Some, Option, nat_lt, codes, length}
use Rattle.std.specs.Prelude.{bytes_eq, is_some, nat_le}
use Rattle.store_model.specs.Words.{Words}
use Rattle.queue_keys.specs.Names.{Bytes, is_name, all_free}
use Rattle.queue_keys.specs.QueueKeys.{Each}
use Rattle.queue_keys.specs.Bindings.{Binding, member, is_part, binding_of}
use Rattle.queue_keys.specs.Texts.{token}
use Rattle.command_blocks.specs.Setting.{Setting, IsLawful, is_queue, control_channel}
use Rattle.command_blocks.specs.Calls.{push_word}
use Rattle.command_blocks.specs.RouteBlocks.{is_exchange}
use Rattle.command_blocks.specs.TakeBlocks.{IsPop, brpop_words}
use Rattle.command_blocks.specs.PassBlocks.{lock_words, due_words}
use Rattle.command_blocks.specs.Blocks.{IsNeutral, Pings, Selects, Measures, Subscribes, Unsubscribes, Announces, Replies, Receives, Limits}
use Rattle.command_blocks.specs.declared.side.Side.{Side}
use Rattle.command_blocks.specs.declared.side.Side.TheVariants.{Left, Right}
use Rattle.key_laws.proofs.Routes.{binding_of-member}
use Rattle.manner_laws.specs.Spots.{Job, Open, Alone, Of_pass, MayPush, sided, Spot, Free, End_begun, Looking, Putting, pushing, Ask, Count, Consent, Queueing, Anything, Bindings, Message, Lock, Due}
use Rattle.manner_laws.specs.Machine.{Begins, Declares, Undeclares, Publishes, Lists, Pops, Ends, Returns, Passes, Concerns_none, Asks, Starts, Starts_next, Pushes_first, Pushes, Pop_begins, Pop_indexes, Pop_sets, End_removes, End_deletes, Executes, Names, Tries, Reads, Leaves, Looks_up, Takes, Removes, Deletes, Puts, Moves, Looks, Turns, Lets_go, Inspects, Release_begins, Release_deletes, Release_ends, Leaves_foreign}
use Rattle.manner_laws.specs.Cursor.{same_words, is_command, second, third, middle, only_if, if_said, is_text, all_names, queues_among, declaration_ask, publication_ask, bindings_ask, pop_ask, neutral_ask, start_ask, first_push_ask, or_ask, side_said, side_for, ask_at, IsReadable}
use Rattle.manner_laws.proofs.Tests.{false_true, none_some, bytes_itself, bytes_true, and_true, both_true, words_itself, words_true, only_if_is, only_if-true, said, pick_true, pick_false, is_text_is, is_text-Some, all_names-names, true_le, true_lt, middle-between}
use Rattle.manner_laws.proofs.Seconds.{seconds_before-difference}

no_text : (o : Option Bytes) → o ≡ None → not (is_some o) ≡ true
no_text None e = refl
no_text (Some x) e = none_some _ x (sym e)

or_else-first : (o later : Option Ask) (q : Ask) → o ≡ Some q → or_ask o later ≡ Some q
or_else-first None later q e = none_some _ q e
or_else-first (Some x) later q e = e

or_else-later : (o later : Option Ask) (q : Ask) → o ≡ None → later ≡ Some q → or_ask o later ≡ Some q
or_else-later None later q e f = f
or_else-later (Some x) later q e f = none_some _ x (sym e)

part_free : (x : Bytes) → is_part x ≡ true → all_free x ≡ true
part_free x e = (and_true (all_free x) (nat_le (length x) 255) e).0

first_each : (p : Bytes → Bool) (ks : List Bytes) (k : Bytes) (rest : List Bytes) → Each p ks → ks ≡ k ∷ rest → p k ≡ true
first_each p ks k rest h e = let x = subst (Each p) e h in x.0

side-push : (side : Side) (ws : Words) → side_said (push_word side ∷ ws) ≡ side
side-push Left ws = refl
side-push Right ws = refl

side_is : (j : Job) (side : Side) (ws : Words) → MayPush j side → side_for j (push_word side ∷ ws) ≡ side
side_is (Open t) side ws may = side-push side ws
side_is (Alone own t) side ws may = may
side_is (Of_pass t ts) side ws may = may

module _ (σ : Setting) (exchange_at : Bytes → Option Bytes) (s : ℕ) (laws : IsLawful σ) (readable : IsReadable σ exchange_at) where
  not_reply : (k : Bytes) → is_queue σ k ≡ true → σ.is_reply k ≡ false
  not_reply k h = go (σ.is_reply k) refl
    where
      go : (t : Bool) → σ.is_reply k ≡ t → t ≡ false
      go true e = false_true (sym (laws.reply_apart k e).0 ∙ h)
      go false e = refl

  declaration-said : (word : Bytes) (c : Spot) (e r x q : Bytes) (words : Words) → words ≡ word ∷ σ.binding e ∷ member r x q ∷ [] → is_part e ≡ true → is_part r ≡ true → is_part x ≡ true → is_name q ≡ true
      → declaration_ask σ word c words (exchange_at (σ.binding e)) (binding_of (member r x q)) ≡ Some (Count c)
  declaration-said word c e r x q words is t u v w =
      let b : Binding = record { routing_key = r; pattern = x; queue = q } in
      subst (λ z. declaration_ask σ word c words z (binding_of (member r x q)) ≡ Some (Count c)) (sym (readable.exchange e))
      (subst (λ z. declaration_ask σ word c words (Some e) z ≡ Some (Count c)) (sym (binding_of-member r x q (part_free r u) (part_free x v) w))
      (only_if-true (is_part e && is_part r && is_part x && is_name q) (if_said (word ∷ σ.binding e ∷ member r x q ∷ []) words (Count c)) (Count c)
      (both_true (is_part e && is_part r && is_part x) (is_name q) (both_true (is_part e && is_part r) (is_part x) (both_true (is_part e) (is_part r) t u) v) w)
      (subst (λ z. if_said (word ∷ σ.binding e ∷ member r x q ∷ []) z (Count c) ≡ Some (Count c)) (sym is) (said (word ∷ σ.binding e ∷ member r x q ∷ []) (Count c)))))

  publication-said : (n p : ℕ) (k v : Bytes) → σ.written_tag v ≡ Some (σ.tag s (suc n)) → σ.exchange_of v ≡ None → σ.keys_for v [] ≡ k ∷ [] → publication_ask σ s n p (codes "LPUSH" ∷ k ∷ v ∷ []) k v ≡ Some (Count (Free (suc n) p))
  publication-said n p k v tag none one =
      only_if-true (is_text (σ.tag s (suc n)) (σ.written_tag v) && not (is_some (σ.exchange_of v)) && same_words (k ∷ []) (σ.keys_for v [])) _ _
      (both_true (is_text (σ.tag s (suc n)) (σ.written_tag v) && not (is_some (σ.exchange_of v))) (same_words (k ∷ []) (σ.keys_for v []))
      (both_true (is_text (σ.tag s (suc n)) (σ.written_tag v)) (not (is_some (σ.exchange_of v))) (is_text-Some (σ.tag s (suc n)) (σ.written_tag v) tag) (no_text (σ.exchange_of v) none))
      (subst (λ z. same_words (k ∷ []) z ≡ true) (sym one) (words_itself (k ∷ []))))
      (said (codes "LPUSH" ∷ k ∷ v ∷ []) (Count (Free (suc n) p)))

  pop-said : (n p : ℕ) (names : List Bytes) (k : Bytes) (ks : List Bytes) → IsPop σ names (k ∷ ks) → pop_ask σ n p (brpop_words k ks) (queues_among σ (middle (brpop_words k ks))) (middle (brpop_words k ks)) ≡ Some (Message n p)
  pop-said n p names k ks pop =
      subst (λ z. pop_ask σ n p (brpop_words k ks) (queues_among σ z) z ≡ Some (Message n p)) (sym (middle-between (codes "BRPOP") k ks (codes "1")))
      (subst (λ z. pop_ask σ n p (brpop_words k ks) z (k ∷ ks) ≡ Some (Message n p)) (sym (readable.queues names pop.0) ∙ ap (queues_among σ) pop.1)
      (only_if-true (all_names names && same_words (σ.pop_keys names) (k ∷ ks) && nat_le (length (k ∷ ks)) 4094) _ _
      (both_true (all_names names && same_words (σ.pop_keys names) (k ∷ ks)) (nat_le (length (k ∷ ks)) 4094)
      (both_true (all_names names) (same_words (σ.pop_keys names) (k ∷ ks)) (all_names-names names pop.0) (subst (λ z. same_words (σ.pop_keys names) z ≡ true) pop.1 (words_itself (σ.pop_keys names))))
      (true_le (length (k ∷ ks)) 4094 pop.2))
      (said (brpop_words k ks) (Message n p))))

  neutral-said : (n p : ℕ) (words : Words) → IsNeutral σ words → start_ask σ exchange_at s n p words ≡ Some (Anything (Free n p))
  unfolding start_ask neutral_ask
  neutral-said n p words Pings = said (codes "PING" ∷ []) (Anything (Free n p))
  neutral-said n p words Selects = said (codes "SELECT" ∷ codes "0" ∷ []) (Anything (Free n p))
  neutral-said n p words (Measures k) = said (codes "LLEN" ∷ k ∷ []) (Anything (Free n p))
  neutral-said n p words Subscribes = said (codes "SUBSCRIBE" ∷ control_channel ∷ []) (Anything (Free n p))
  neutral-said n p words Unsubscribes = said (codes "UNSUBSCRIBE" ∷ control_channel ∷ []) (Anything (Free n p))
  neutral-said n p words (Announces m) = said (codes "PUBLISH" ∷ control_channel ∷ m ∷ []) (Anything (Free n p))
  neutral-said n p words (Replies k v vs is) = pick_true (σ.is_reply k) (if_said (codes "LPUSH" ∷ k ∷ v ∷ vs) words (Anything (Free n p))) (publication_ask σ s n p words k v) (Anything (Free n p)) is (said (codes "LPUSH" ∷ k ∷ v ∷ vs) (Anything (Free n p)))
  neutral-said n p words (Receives k w is) =
      pick_true (σ.is_reply k) (if_said (codes "BRPOP" ∷ k ∷ w ∷ []) words (Anything (Free n p))) (pop_ask σ n p words (queues_among σ (middle words)) (middle words)) (Anything (Free n p)) is (said (codes "BRPOP" ∷ k ∷ w ∷ []) (Anything (Free n p)))
  neutral-said n p words (Limits k t is) = only_if-true (σ.is_reply k) (if_said (codes "EXPIRE" ∷ k ∷ t ∷ []) words (Anything (Free n p))) (Anything (Free n p)) is (said (codes "EXPIRE" ∷ k ∷ t ∷ []) (Anything (Free n p)))

  start-said : (n p : ℕ) (words : Words) (q : Ask) → Begins σ s n p words q → start_ask σ exchange_at s n p words ≡ Some q
  unfolding start_ask
  start-said n p words q (Declares e r x m t u v w) = declaration-said (codes "SADD") (Free n p) e r x m words refl t u v w
  start-said n p words q (Undeclares e r x m t u v w) = declaration-said (codes "SREM") (Free n p) e r x m words refl t u v w
  start-said n p words q (Publishes k v tag none one) =
      pick_false (σ.is_reply k) (if_said (codes "LPUSH" ∷ k ∷ v ∷ []) words (Anything (Free n p))) (publication_ask σ s n p words k v) q (not_reply k (first_each (is_queue σ) (σ.keys_for v []) k [] (laws.keys_are v []) one)) (publication-said n p k v tag none one)
  start-said n p words q (Lists e is ex) =
      subst (λ z. bindings_ask σ s n p words z ≡ Some q) (sym (readable.exchange e))
      (only_if-true (σ.is_tag (σ.tag s (suc n)) && is_exchange e) (if_said (codes "SMEMBERS" ∷ σ.binding e ∷ []) words (Bindings n p e)) q (both_true (σ.is_tag (σ.tag s (suc n))) (is_exchange e) is ex) (said (codes "SMEMBERS" ∷ σ.binding e ∷ []) (Bindings n p e)))
  start-said n p words q (Pops names k ks pop) =
      pick_false (σ.is_reply k) (if_said (codes "BRPOP" ∷ k ∷ third words ∷ []) words (Anything (Free n p))) (pop_ask σ n p words (queues_among σ (middle words)) (middle words)) q
      (not_reply k (first_each (is_queue σ) (σ.pop_keys names) k ks (laws.pops_are names pop.0) pop.1)) (pop-said n p names k ks pop)
  start-said n p words q Ends = said (codes "MULTI" ∷ []) (Consent (End_begun n p))
  start-said n p words q Returns = said (codes "WATCH" ∷ σ.unacked ∷ []) (Consent (Looking n p))
  start-said n p words q Passes = said (lock_words σ (token s (suc p))) (Lock n p)
  start-said n p words q (Concerns_none w neutral) = neutral-said n p words neutral

  -- ---- a first push is no other block's

  neutral_not_first : (words : Words) (k v : Bytes) → IsNeutral σ words → words ≡ codes "LPUSH" ∷ k ∷ v ∷ [] → is_queue σ k ≡ true → ⊥
  neutral_not_first words k v Pings is queue = false_true (ap (is_command (codes "LPUSH")) is)
  neutral_not_first words k v Selects is queue = false_true (ap (is_command (codes "LPUSH")) is)
  neutral_not_first words k v (Measures x) is queue = false_true (ap (is_command (codes "LPUSH")) is)
  neutral_not_first words k v Subscribes is queue = false_true (ap (is_command (codes "LPUSH")) is)
  neutral_not_first words k v Unsubscribes is queue = false_true (ap (is_command (codes "LPUSH")) is)
  neutral_not_first words k v (Announces m) is queue = false_true (ap (is_command (codes "LPUSH")) is)
  neutral_not_first words k v (Replies x y ys reply) is queue = false_true (sym (not_reply k queue) ∙ subst (λ z. σ.is_reply z ≡ true) (ap second is) reply)
  neutral_not_first words k v (Receives x y reply) is queue = false_true (ap (is_command (codes "LPUSH")) is)
  neutral_not_first words k v (Limits x y reply) is queue = false_true (ap (is_command (codes "LPUSH")) is)

  start_not_first : (n p : ℕ) (words : Words) (q : Ask) (k v e : Bytes) → Begins σ s n p words q → words ≡ codes "LPUSH" ∷ k ∷ v ∷ [] → σ.exchange_of v ≡ Some e → is_queue σ k ≡ true → ⊥
  start_not_first n p words q k v e (Declares e' r x m t u z w) is some queue = false_true (ap (is_command (codes "LPUSH")) is)
  start_not_first n p words q k v e (Undeclares e' r x m t u z w) is some queue = false_true (ap (is_command (codes "LPUSH")) is)
  start_not_first n p words q k v e (Publishes k' v' tag none one) is some queue = none_some _ e (sym none ∙ ap (λ z. σ.exchange_of (third z)) is ∙ some)
  start_not_first n p words q k v e (Lists e' tag ex) is some queue = false_true (ap (is_command (codes "LPUSH")) is)
  start_not_first n p words q k v e (Pops names k' ks pop) is some queue = false_true (ap (is_command (codes "LPUSH")) is)
  start_not_first n p words q k v e Ends is some queue = false_true (ap (is_command (codes "LPUSH")) is)
  start_not_first n p words q k v e Returns is some queue = false_true (ap (is_command (codes "LPUSH")) is)
  start_not_first n p words q k v e Passes is some queue = false_true (ap (is_command (codes "LPUSH")) is)
  start_not_first n p words q k v e (Concerns_none w neutral) is some queue = neutral_not_first words k v neutral is queue

  not_first : (n m p : ℕ) (e : Bytes) (words : Words) (q : Ask) (k v : Bytes) (ks : List Bytes) → Begins σ s m p words q → Each (is_queue σ) ks → first_push_ask σ s n p e words k v ks ≡ None
  not_first n m p e words q k v [] begins queues = refl
  not_first n m p e words q k v (x ∷ xs) begins queues = go (first_push_ask σ s n p e words k v (x ∷ xs)) refl
    where
      go : (o : Option Ask) → first_push_ask σ s n p e words k v (x ∷ xs) ≡ o → o ≡ None
      go None h = refl
      go (Some r) h =
          let y = only_if_is (is_text (σ.tag s (suc n)) (σ.written_tag v) && is_text e (σ.exchange_of v) && bytes_eq k x) (if_said (codes "LPUSH" ∷ k ∷ v ∷ []) words (Count (pushing n p v xs))) r h in
          let z = and_true (is_text (σ.tag s (suc n)) (σ.written_tag v) && is_text e (σ.exchange_of v)) (bytes_eq k x) y.0 in
          let w = and_true (is_text (σ.tag s (suc n)) (σ.written_tag v)) (is_text e (σ.exchange_of v)) z.0 in
          let u = only_if_is (same_words (codes "LPUSH" ∷ k ∷ v ∷ []) words) (Some (Count (pushing n p v xs))) r y.1 in
          absurd (start_not_first m p words q k v e begins (sym (words_true (codes "LPUSH" ∷ k ∷ v ∷ []) words u.0)) (is_text_is e (σ.exchange_of v) w.1) (subst (λ b. is_queue σ b ≡ true) (sym (bytes_true k x z.1)) queues.0))

  first_push-said : (n p : ℕ) (e k v : Bytes) (ks all : List Bytes) → σ.written_tag v ≡ Some (σ.tag s (suc n)) → σ.exchange_of v ≡ Some e → all ≡ k ∷ ks → first_push_ask σ s n p e (codes "LPUSH" ∷ k ∷ v ∷ []) k v all ≡ Some (Count (pushing n p v ks))
  first_push-said n p e k v ks all tag ex is = subst (λ z. first_push_ask σ s n p e (codes "LPUSH" ∷ k ∷ v ∷ []) k v z ≡ Some (Count (pushing n p v ks))) (sym is)
      (only_if-true (is_text (σ.tag s (suc n)) (σ.written_tag v) && is_text e (σ.exchange_of v) && bytes_eq k k) _ _
      (both_true (is_text (σ.tag s (suc n)) (σ.written_tag v) && is_text e (σ.exchange_of v)) (bytes_eq k k)
      (both_true (is_text (σ.tag s (suc n)) (σ.written_tag v)) (is_text e (σ.exchange_of v)) (is_text-Some (σ.tag s (suc n)) (σ.written_tag v) tag) (is_text-Some e (σ.exchange_of v) ex)) (bytes_itself k))
      (said (codes "LPUSH" ∷ k ∷ v ∷ []) (Count (pushing n p v ks))))

  -- ---- all words

  pub ask-allowed : (c : Spot) (a : ℕ) (words : Words) (q : Ask) → a < 2 ^ 64 → Asks σ s c a words q → ask_at σ exchange_at s c a words ≡ Some q
  ask-allowed c a words q time (Starts n p b w x begins) = start-said n p words q begins
  ask-allowed c a words q time (Starts_next n p e ms b w x begins) =
      or_else-later (first_push_ask σ s n p e words (second words) (third words) (σ.keys_for (third words) ms)) (start_ask σ exchange_at s (suc n) p words) q
      (not_first n (suc n) p e words q (second words) (third words) (σ.keys_for (third words) ms) begins (laws.keys_are (third words) ms)) (start-said (suc n) p words q begins)
  ask-allowed c a words q time (Pushes_first n p e ms b k v ks tag ex keys) =
      or_else-first (first_push_ask σ s n p e words k v (σ.keys_for v ms)) (start_ask σ exchange_at s (suc n) p words) q (first_push-said n p e k v ks (σ.keys_for v ms) tag ex keys)
  ask-allowed c a words q time (Pushes n p b v k ks) = said words q
  ask-allowed c a words q time (Pop_begins n p b v t) = said words q
  ask-allowed c a words q time (Pop_indexes n p b v t lt) = only_if-true (nat_lt a (2 ^ 40)) (if_said words words q) q (true_lt a (2 ^ 40) lt) (said words q)
  ask-allowed c a words q time (Pop_sets n p b v t) = said words q
  ask-allowed c a words q time (End_removes n p b t is) = only_if-true (σ.is_tag t) (if_said words words q) q is (said words q)
  ask-allowed c a words q time (End_deletes n p b t) = said words q
  ask-allowed c a words q time (Executes n p b) = said words q
  ask-allowed c a words q time (Names n p b t is) = only_if-true (σ.is_tag t) (if_said words words q) q is (said words q)
  ask-allowed c a words q time (Tries n p b j k) = said words q
  ask-allowed c a words q time (Reads n p b j k) = said words q
  ask-allowed c a words q time (Leaves n p b j) = said words q
  ask-allowed c a words q time (Looks_up n p b j k u v e) = said words q
  ask-allowed c a words q time (Takes n p b j k v x xs) = said words q
  ask-allowed c a words q time (Removes n p b j k v x xs) = said words q
  ask-allowed c a words q time (Deletes n p b j k v x xs) = said words q
  ask-allowed c a words q time (Puts n p b j k v x xs side may) =
      subst (λ z. if_said (push_word z ∷ x ∷ v ∷ []) words (Queueing (Putting n p (sided j z) k v xs)) ≡ Some q) (sym (side_is j side (x ∷ v ∷ []) may)) (said (push_word side ∷ x ∷ v ∷ []) (Queueing (Putting n p (sided j side) k v xs)))
  ask-allowed c a words q time (Moves n p b j k v) = said words q
  ask-allowed c a words q time (Looks n p b v lt) =
      subst (λ z. only_if (nat_lt z (2 ^ 32)) (if_said (due_words σ a z) words (Due n p)) ≡ Some q) (sym (seconds_before-difference a v time lt))
      (only_if-true (nat_lt v (2 ^ 32)) (if_said (due_words σ a v) words (Due n p)) q (true_lt v (2 ^ 32) lt) (said (due_words σ a v) (Due n p)))
  ask-allowed c a words q time (Turns n p b t ts) = said words q
  ask-allowed c a words q time (Lets_go n p b) = said words q
  ask-allowed c a words q time (Inspects n p b) = said words q
  ask-allowed c a words q time (Release_begins n p b) = said words q
  ask-allowed c a words q time (Release_deletes n p b) = said words q
  ask-allowed c a words q time (Release_ends n p b) = said words q
  ask-allowed c a words q time (Leaves_foreign n p b) = said words q
