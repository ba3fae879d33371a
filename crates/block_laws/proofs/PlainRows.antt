-- Rows of declarations, publications, pops and acknowledgements.
use Rattle.std.proofs.Common.{◌≡◌, inr, ℕ, suc, List, [], ◌∷◌, Option, None, Some, true, refl, ap, sym, subst, ◌∙◌, ℤ, codes, decimal}
use Rattle.wire_values.specs.declared.value.Value.TheVariants.{Integer, NullArray}
use Rattle.store_model.specs.Replies.{done, queued, bulks, pair}
use Rattle.store_model.specs.Words.{Words}
use Rattle.queue_keys.specs.Names.{Bytes}
use Rattle.command_blocks.specs.Answers.{integers, pair_of}
use Rattle.queue_keys.specs.Bindings.{member}
use Rattle.command_blocks.specs.Setting.{Setting}
use Rattle.command_blocks.specs.Calls.{Call, call}
use Rattle.command_blocks.specs.RouteBlocks.{IsDeclareBlock, Told, direct_calls, direct_keys, IsPublishBlock, Plain, Named}
use Rattle.command_blocks.specs.TakeBlocks.{IsPop, brpop_words, IsPopBlock, Empty, Unreadable, Popped, IsEndBlock, Acknowledged}
use Rattle.command_blocks.specs.Scripts.{Script, Over, Say, plainly, if_told, on_queued, on_number, on_texts, on_two_numbers, declare_script, pushes, asking_script, publish_script, keep_script, kept_by, on_popped, popping, pop_script, end_script}
use Rattle.block_laws.specs.Rows.{IsGood, IsDeclaration, IsPublication}
use Rattle.block_laws.proofs.Talks.{Talks, over_talks, say_talks, number_talks, texts_talks, two_talks, popped_talks, done_talks, queued_talks}
use Rattle.block_laws.proofs.Good.{told_on, done_good, queued_good, number_good, texts_good, two_good, null_array_good}

-- ---- declarations

pub declare_good : (σ : Setting) (word e r x q : Bytes) → IsGood (declare_script σ word e r x q)
declare_good σ word e r x q = number_good (word ∷ σ.binding e ∷ member r x q ∷ []) Over tt

pub declare_talk : (σ : Setting) (word e r x q : Bytes) → IsDeclaration e r x q → (xs : List Call) → Talks (declare_script σ word e r x q) xs → IsDeclareBlock σ word e r x q xs
declare_talk σ word e r x q d = say_talks (λ at. w) (on_number Over) (IsDeclareBlock σ word e r x q) (λ a v ys l t. number_talks Over v ys t (λ u. IsDeclareBlock σ word e r x q (call a w u ∷ ys)) (λ z. by a z ys)) where
  w : Words
  w = word ∷ σ.binding e ∷ member r x q ∷ []

  by : (a : ℕ) (z : ℤ) (ys : List Call) → Talks Over ys → IsDeclareBlock σ word e r x q (call a w (Integer z) ∷ ys)
  by a z = over_talks (λ l. IsDeclareBlock σ word e r x q (call a w (Integer z) ∷ l)) (Told a z d.exchange d.routing_key d.pattern d.queue)

-- ---- publications

pub pushes_good : (v : Bytes) (ks : List Bytes) → IsGood (pushes v ks)
pushes_good v [] = tt
pushes_good v (k ∷ ks) = number_good (codes "LPUSH" ∷ k ∷ v ∷ []) (pushes v ks) (pushes_good v ks)

pub asking_good : (σ : Setting) (o : Option Bytes) (go : List Bytes → Script) → ((ms : List Bytes) → IsGood (go ms)) → IsGood (asking_script σ o go)
asking_good σ None go g = g []
asking_good σ (Some e) go g = texts_good (λ at. codes "SMEMBERS" ∷ σ.binding e ∷ []) go g

pub publish_good : (σ : Setting) (v : Bytes) → IsGood (publish_script σ v)
publish_good σ v = asking_good σ (σ.exchange_of v) (λ ms. pushes v (σ.keys_for v ms)) (λ ms. pushes_good v (σ.keys_for v ms))

-- pushes, each with its moment, key and answer
abbrev ArePushes : Bytes → List Bytes → List Call → Type 0
ArePushes v ks xs = (ds : List (ℕ × Bytes × ℤ)) × (direct_keys ds ≡ ks) × (direct_calls v ds ≡ xs)

pushes_talk : (v : Bytes) (ks : List Bytes) (xs : List Call) → Talks (pushes v ks) xs → ArePushes v ks xs
pushes_talk v [] = over_talks (ArePushes v []) ([], refl, refl)
pushes_talk v (k ∷ ks) = say_talks (λ at. w) (on_number (pushes v ks)) (ArePushes v (k ∷ ks)) (λ a r ys l t. number_talks (pushes v ks) r ys t (λ u. ArePushes v (k ∷ ks) (call a w u ∷ ys)) (λ z u. more a z ys (pushes_talk v ks ys u))) where
  w : Words
  w = codes "LPUSH" ∷ k ∷ v ∷ []

  more : (a : ℕ) (z : ℤ) (ys : List Call) → ArePushes v ks ys → ArePushes v (k ∷ ks) (call a w (Integer z) ∷ ys)
  more a z ys p = ((a, k, z) ∷ p.0, ap (λ l. k ∷ l) p.1, ap (λ l. call a w (Integer z) ∷ l) p.2)

module _ (σ : Setting) (s n : ℕ) (v : Bytes) (d : IsPublication σ s n v) where
  abbrev Out : List Call → Type 0
  Out = IsPublishBlock σ (σ.tag s (suc n)) v

  plain_talk : σ.exchange_of v ≡ None → (xs : List Call) → Talks (pushes v (σ.keys_for v [])) xs → Out xs
  plain_talk none xs t = let h = d.key none in by h.0 h.1 (pushes_talk v (σ.keys_for v []) xs t) where
    one : (k : Bytes) → σ.keys_for v [] ≡ k ∷ [] → (ds : List (ℕ × Bytes × ℤ)) → direct_keys ds ≡ k ∷ [] → Out (direct_calls v ds)
    one k to [] e = absurd (cc e)
    one k to (d' ∷ []) e = let h : d'.1 ≡ k = cc e in Plain d'.0 d'.1 d'.2 d.tag none (to ∙ sym (ap (λ q. q ∷ []) h))
    one k to (d' ∷ d'' ∷ ds) e = absurd (cc e)

    by : (k : Bytes) → σ.keys_for v [] ≡ k ∷ [] → ArePushes v (σ.keys_for v []) xs → Out xs
    by k to p = subst Out p.2 (one k to p.0 (p.1 ∙ to))

  named_talk : (e : Bytes) → σ.exchange_of v ≡ Some e → (xs : List Call) → Talks (asking_script σ (Some e) (λ ms. pushes v (σ.keys_for v ms))) xs → Out xs
  named_talk e some = say_talks (λ at. w) (on_texts go) Out (λ a r ys l t. texts_talks go r ys t (λ u. Out (call a w u ∷ ys)) (λ ms u. by a ms ys (pushes_talk v (σ.keys_for v ms) ys u))) where
    w : Words
    w = codes "SMEMBERS" ∷ σ.binding e ∷ []

    go : List Bytes → Script
    go ms = pushes v (σ.keys_for v ms)

    by : (a : ℕ) (ms : List Bytes) (ys : List Call) → ArePushes v (σ.keys_for v ms) ys → Out (call a w (bulks ms) ∷ ys)
    by a ms ys p = subst (λ l. Out (call a w (bulks ms) ∷ l)) p.2 (Named a e ms p.0 d.tag some p.1)

  pub publish_talk : (xs : List Call) → Talks (publish_script σ v) xs → Out xs
  publish_talk xs = by (σ.exchange_of v) refl where
    by : (o : Option Bytes) → σ.exchange_of v ≡ o → Talks (asking_script σ o (λ ms. pushes v (σ.keys_for v ms))) xs → Out xs
    by None e t = plain_talk e xs t
    by (Some x) e t = named_talk x e xs t

-- ---- pops

pub keep_good : (σ : Setting) (v t : Bytes) → IsGood (keep_script σ v t)
keep_good σ v t =
    done_good (codes "MULTI" ∷ []) _ (queued_good (λ at. codes "ZADD" ∷ σ.index ∷ decimal at ∷ t ∷ []) _ (queued_good (λ at. codes "HSET" ∷ σ.unacked ∷ t ∷ σ.entry_of v ∷ []) _ (two_good (codes "EXEC" ∷ []) Over tt)))

kept_good : (σ : Setting) (v : Bytes) (o : Option Bytes) → IsGood (kept_by σ v o)
kept_good σ v None = tt
kept_good σ v (Some t) = keep_good σ v t

popping_good : (σ : Setting) (ks : List Bytes) → IsGood (popping σ ks)
popping_good σ [] = tt
popping_good σ (k ∷ ks) =
    null_array_good (brpop_words k ks) Over (λ r. if_told (λ (k, v). kept_by σ v (σ.tag_of v)) (pair_of r)) tt
    (λ r. told_on (λ (p : Bytes × Bytes). kept_by σ p.1 (σ.tag_of p.1)) (λ p. inr (kept_good σ p.1 (σ.tag_of p.1))) (pair_of r))

pub pop_good : (σ : Setting) (names : List Bytes) → IsGood (pop_script σ names)
pop_good σ names = popping_good σ (σ.pop_keys names)

module _ (σ : Setting) (names : List Bytes) (k : Bytes) (ks : List Bytes) (pop : IsPop σ names (k ∷ ks)) where
  kept_talk : (a : ℕ) (q v t : Bytes) → σ.tag_of v ≡ Some t → (xs : List Call) → Talks (keep_script σ v t) xs → IsPopBlock σ names (call a (brpop_words k ks) (pair q v) ∷ xs)
  kept_talk a q v t tag =
      done_talks multi after_multi P (λ b xs t₁. queued_talks zadd after_zadd (λ l. P (call b multi done ∷ l)) (λ c xs c< t₂. queued_talks hset after_hset (λ l. P (call b multi done ∷ call c (zadd c) queued ∷ l)) (λ d xs _ t₃.
      say_talks (λ at. exec) (on_two_numbers Over) (λ l. P (call b multi done ∷ call c (zadd c) queued ∷ call d (hset d) queued ∷ l)) (λ e r xs _ t₄. two_talks Over r xs t₄ (λ u. P (call b multi done ∷ call c (zadd c) queued ∷ call d (hset d) queued ∷ call e exec u ∷ xs)) (λ x y t₅.
      over_talks (λ l. P (call b multi done ∷ call c (zadd c) queued ∷ call d (hset d) queued ∷ call e exec (integers (x ∷ y ∷ [])) ∷ l)) (Popped a b c d e k ks q v t x y pop tag c<) xs t₅)) xs t₃) xs t₂) xs t₁) where
        P : List Call → Type 0
        P l = IsPopBlock σ names (call a (brpop_words k ks) (pair q v) ∷ l)

        multi : Words
        multi = codes "MULTI" ∷ []

        exec : Words
        exec = codes "EXEC" ∷ []

        zadd : ℕ → Words
        zadd at = codes "ZADD" ∷ σ.index ∷ decimal at ∷ t ∷ []

        hset : ℕ → Words
        hset at = codes "HSET" ∷ σ.unacked ∷ t ∷ σ.entry_of v ∷ []

        after_hset : Script
        after_hset = plainly exec (on_two_numbers Over)

        after_zadd : Script
        after_zadd = Say hset (on_queued after_hset)

        after_multi : Script
        after_multi = Say zadd (on_queued after_zadd)

  popping_talk : (xs : List Call) → Talks (popping σ (k ∷ ks)) xs → IsPopBlock σ names xs
  popping_talk = say_talks (λ at. brpop_words k ks) (on_popped σ) (IsPopBlock σ names) (λ a r ys _ t. popped_talks σ r ys t (λ u. IsPopBlock σ names (call a (brpop_words k ks) u ∷ ys))
      (over_talks (λ l. IsPopBlock σ names (call a (brpop_words k ks) NullArray ∷ l)) (Empty a k ks pop) ys)
      (λ q v u. by a q v ys (σ.tag_of v) refl u)) where
        by : (a : ℕ) (q v : Bytes) (ys : List Call) (o : Option Bytes) → σ.tag_of v ≡ o → Talks (kept_by σ v o) ys → IsPopBlock σ names (call a (brpop_words k ks) (pair q v) ∷ ys)
        by a q v ys None e = over_talks (λ l. IsPopBlock σ names (call a (brpop_words k ks) (pair q v) ∷ l)) (Unreadable a k ks q v pop e) ys
        by a q v ys (Some t) e = kept_talk a q v t e ys

  pub pop_talk : (xs : List Call) → Talks (pop_script σ names) xs → IsPopBlock σ names xs
  pop_talk xs t = popping_talk xs (subst (λ l. Talks (popping σ l) xs) pop.1 t)

-- ---- acknowledgements

pub end_good : (σ : Setting) (t : Bytes) → IsGood (end_script σ t)
end_good σ t =
    done_good (codes "MULTI" ∷ []) _ (queued_good (λ at. codes "ZREM" ∷ σ.index ∷ t ∷ []) _ (queued_good (λ at. codes "HDEL" ∷ σ.unacked ∷ t ∷ []) _ (two_good (codes "EXEC" ∷ []) Over tt)))

pub end_talk : (σ : Setting) (t : Bytes) → σ.is_tag t ≡ true → (xs : List Call) → Talks (end_script σ t) xs → IsEndBlock σ t xs
end_talk σ t tag =
    done_talks multi after_multi P (λ a xs t₁. queued_talks (λ at. zrem) after_zrem (λ l. P (call a multi done ∷ l)) (λ b xs _ t₂. queued_talks (λ at. hdel) after_hdel (λ l. P (call a multi done ∷ call b zrem queued ∷ l)) (λ c xs _ t₃.
    say_talks (λ at. exec) (on_two_numbers Over) (λ l. P (call a multi done ∷ call b zrem queued ∷ call c hdel queued ∷ l)) (λ d r xs _ t₄. two_talks Over r xs t₄ (λ u. P (call a multi done ∷ call b zrem queued ∷ call c hdel queued ∷ call d exec u ∷ xs)) (λ x y t₅.
    over_talks (λ l. P (call a multi done ∷ call b zrem queued ∷ call c hdel queued ∷ call d exec (integers (x ∷ y ∷ [])) ∷ l)) (Acknowledged a b c d x y tag) xs t₅)) xs t₃) xs t₂) xs t₁) where
      P : List Call → Type 0
      P = IsEndBlock σ t

      multi : Words
      multi = codes "MULTI" ∷ []

      exec : Words
      exec = codes "EXEC" ∷ []

      zrem : Words
      zrem = codes "ZREM" ∷ σ.index ∷ t ∷ []

      hdel : Words
      hdel = codes "HDEL" ∷ σ.unacked ∷ t ∷ []

      after_hdel : Script
      after_hdel = plainly exec (on_two_numbers Over)

      after_zrem : Script
      after_zrem = plainly hdel (on_queued after_hdel)

      after_multi : Script
      after_multi = plainly zrem (on_queued after_zrem)
