-- A try to return a message: its script is good, and what was said by it is a try.
use Rattle.std.proofs.Common.{◌≡◌, ◌⊎◌, ℕ, zero, suc, List, [], ◌∷◌, ◌++◌, Option, None, Some, Bool, true, false, refl, ap, sym, subst, ◌∙◌, ℤ, codes, if◌then◌else◌}
use Rattle.std.specs.Prelude.{option_and_then}
use Rattle.wire_values.specs.declared.value.Value.{Value}
use Rattle.wire_values.specs.declared.value.Value.TheVariants.{Bulk, NullBulk, NullArray}
use Rattle.store_model.specs.Replies.{done, queued}
use Rattle.store_model.specs.Words.{Words}
use Rattle.queue_keys.specs.Names.{Bytes, same}
use Rattle.command_blocks.specs.Answers.{integers}
use Rattle.command_blocks.specs.Setting.{Setting}
use Rattle.command_blocks.specs.Calls.{Call, call, push_word}
use Rattle.command_blocks.specs.ReturnBlocks.{ReturnEnd, Contended, goes_on, queued_calls, queued_keys, reading, asking, leaving, taking, Carries, Try, whole_try, IsTry, IsTries}
use Rattle.command_blocks.specs.Scripts.{Script, plainly, on_queued, on_texts, asking_script, queued_script, on_ran, leave_script, take_script, if_of, carried_for, route_script, on_entry, try_script, tries_script}
use Rattle.command_blocks.specs.declared.side.Side.{Side}
use Rattle.block_laws.specs.Rows.{IsGood}
use Rattle.block_laws.proofs.Values.{some_is, eq_true, eq_itself, and_then_is}
use Rattle.block_laws.proofs.Talks.{Talks, say_talks, texts_talks, ran_talks, entry_talks, done_talks, queued_talks}
use Rattle.block_laws.proofs.Good.{done_good, queued_good, ran_good, entry_good}
use Rattle.block_laws.proofs.PlainRows.{asking_good}

-- ---- good

pub leave_good : (rest : Script) → IsGood rest → IsGood (leave_script rest)
leave_good rest g = done_good (codes "UNWATCH" ∷ []) rest g

queued_pushes_good : (side : Side) (v : Bytes) (ks : List Bytes) (rest : Script) → IsGood rest → IsGood (queued_script side v ks rest)
queued_pushes_good side v [] rest g = g
queued_pushes_good side v (k ∷ ks) rest g = queued_good (λ at. push_word side ∷ k ∷ v ∷ []) (queued_script side v ks rest) (queued_pushes_good side v ks rest g)

module _ (σ : Setting) (side : Side) (t : Bytes) (ended failed : Script) (g : IsGood ended) (h : IsGood failed) where
  take_good : (v : Bytes) (ks : List Bytes) → IsGood (take_script σ side t v ended failed ks)
  take_good v [] = leave_good ended g
  take_good v (k ∷ ks) =
      done_good (codes "MULTI" ∷ []) _ (queued_good (λ at. codes "ZREM" ∷ σ.index ∷ t ∷ []) _ (queued_good (λ at. codes "HDEL" ∷ σ.unacked ∷ t ∷ []) _
      (queued_pushes_good side v (k ∷ ks) (plainly (codes "EXEC" ∷ []) (on_ran ended failed)) (ran_good (codes "EXEC" ∷ []) ended failed g h))))

  route_good : (u : Bytes) (o : Option Bytes) → IsGood (route_script σ side t u ended failed o)
  route_good u None = leave_good ended g
  route_good u (Some v) = asking_good σ (σ.exchange_in u) (λ ms. take_script σ side t v ended failed (σ.keys_in u ms)) (λ ms. take_good v (σ.keys_in u ms))

  pub try_good : IsGood (try_script σ side t ended failed)
  try_good =
      done_good (codes "WATCH" ∷ σ.unacked ∷ []) _
      (entry_good (codes "HGET" ∷ σ.unacked ∷ t ∷ []) (leave_script ended) (λ u. route_script σ side t u ended failed (carried_for σ t u)) (leave_good ended g) (λ u. route_good u (carried_for σ t u)))

pub tries_good : (σ : Setting) (side : Side) (t : Bytes) (ended stuck : Script) → IsGood ended → IsGood stuck → (n : ℕ) → IsGood (tries_script σ side t ended stuck n)
tries_good σ side t ended stuck g h zero = h
tries_good σ side t ended stuck g h (suc n) = try_good σ side t ended (tries_script σ side t ended stuck n) g (tries_good σ side t ended stuck g h n)

-- ---- lists of calls with what follows

queued-append : (side : Side) (v : Bytes) (qs : List (ℕ × Bytes)) (l ys : List Call) → queued_calls side v qs l ++ ys ≡ queued_calls side v qs (l ++ ys)
queued-append side v [] l ys = refl
queued-append side v (q ∷ qs) l ys = ap (λ z. call q.0 (push_word side ∷ q.1 ∷ v ∷ []) queued ∷ z) (queued-append side v qs l ys)

asking-append : (σ : Setting) (o : Option Bytes) (a : ℕ) (ms : List Bytes) (l ys : List Call) → asking σ o a ms l ++ ys ≡ asking σ o a ms (l ++ ys)
asking-append σ None a ms l ys = refl
asking-append σ (Some e) a ms l ys = refl

taking-append : (σ : Setting) (side : Side) (t : Bytes) (a b c d : ℕ) (v : Bytes) (qs : List (ℕ × Bytes)) (r : Value) (l ys : List Call) → taking σ side t a b c d v qs r l ++ ys ≡ taking σ side t a b c d v qs r (l ++ ys)
taking-append σ side t a b c d v qs r l ys =
    ap (λ z. call a (codes "MULTI" ∷ []) done ∷ call b (codes "ZREM" ∷ σ.index ∷ t ∷ []) queued ∷ call c (codes "HDEL" ∷ σ.unacked ∷ t ∷ []) queued ∷ z)
    (queued-append side v qs (call d (codes "EXEC" ∷ []) r ∷ l) ys)

pub whole-append : (σ : Setting) (side : Side) (t : Bytes) (y : Try) (r : Value) (l ys : List Call) → whole_try σ side t y r l ++ ys ≡ whole_try σ side t y r (l ++ ys)
whole-append σ side t y r l ys =
    ap (reading σ t y.a y.b (Bulk y.entry)) (asking-append σ (σ.exchange_in y.entry) y.c y.members (taking σ side t y.d y.e y.f y.g y.envelope (y.first ∷ y.others) r l) ys
    ∙ ap (asking σ (σ.exchange_in y.entry) y.c y.members) (taking-append σ side t y.d y.e y.f y.g y.envelope (y.first ∷ y.others) r l ys))

-- ---- what an entry carries

if_of_is : (t v : Bytes) (o : Option Bytes) (w : Bytes) → if_of t v o ≡ Some w → (v ≡ w) × (o ≡ Some t)
unfolding same
if_of_is t v None w e = cc
if_of_is t v (Some s) w e = by (same s t) refl e where
  by : (b : Bool) → same s t ≡ b → (if b then Some v else None) ≡ Some w → (v ≡ w) × (Some s ≡ Some t)
  by true is e = (some_is v w e, ap Some (eq_true s t is))
  by false is e = cc

pub carried_is : (σ : Setting) (t u v : Bytes) → carried_for σ t u ≡ Some v → Carries σ u t v
carried_is σ t u v e =
    let a = and_then_is (λ w. if_of t w (σ.tag_of w)) (σ.carried u) v e in
    let h = if_of_is t a.0 (σ.tag_of a.0) v a.2 in
    (a.1 ∙ ap Some h.0, ap σ.tag_of (sym h.0) ∙ h.1)

pub carried_so : (σ : Setting) (t u v : Bytes) → Carries σ u t v → carried_for σ t u ≡ Some v
unfolding same
carried_so σ t u v c = ap (λ o. option_and_then (λ w. if_of t w (σ.tag_of w)) o) c.0 ∙ (ap (if_of t v) c.1 ∙ ap (λ b. if b then Some v else None) (eq_itself t))

carried_not : (σ : Setting) (t u : Bytes) → carried_for σ t u ≡ None → (v : Bytes) → Carries σ u t v → ⊥
carried_not σ t u e v c = let no : None ≡ Some v = sym e ∙ carried_so σ t u v c in absurd (cc no)

-- ---- talks

-- pushes inside a transaction, and a talk of the rest
abbrev AreQueued : Side → Bytes → List Bytes → Script → List Call → Type 0
AreQueued side v ks rest xs = (qs : List (ℕ × Bytes)) × (ys : List Call) × (queued_keys qs ≡ ks) × (queued_calls side v qs ys ≡ xs) × Talks rest ys

queued_pushes_talk : (side : Side) (v : Bytes) (ks : List Bytes) (rest : Script) (xs : List Call) → Talks (queued_script side v ks rest) xs → AreQueued side v ks rest xs
queued_pushes_talk side v [] rest xs t = ([], xs, refl, refl, t)
queued_pushes_talk side v (k ∷ ks) rest xs t =
    queued_talks (λ at. push_word side ∷ k ∷ v ∷ []) (queued_script side v ks rest) (AreQueued side v (k ∷ ks) rest) (λ a ys _ u. more a ys (queued_pushes_talk side v ks rest ys u)) xs t where
      more : (a : ℕ) (ys : List Call) → AreQueued side v ks rest ys → AreQueued side v (k ∷ ks) rest (call a (push_word side ∷ k ∷ v ∷ []) queued ∷ ys)
      more a ys q = ((a, k) ∷ q.0, q.1, ap (λ l. k ∷ l) q.2, ap (λ l. call a (push_word side ∷ k ∷ v ∷ []) queued ∷ l) q.3, q.4)

-- by what follows a return's end: a talk of the one script, or where each try failed of the other
abbrev pub Follows : Script → Script → ReturnEnd → List Call → Type 0
Follows ended stuck end ys = ((goes_on end ≡ true) × Talks ended ys) ⊎ ((end ≡ Contended) × Talks stuck ys)

-- tries of a return, of which n came before, and a talk of what follows
abbrev pub TriesTo : Setting → Side → Bytes → Script → Script → ℕ → List Call → Type 0
TriesTo σ side t ended stuck n xs = (end : ReturnEnd) × (l : List Call) × (ys : List Call) × (l ++ ys ≡ xs) × IsTries σ side t n end l × Follows ended stuck end ys

module _ (σ : Setting) (side : Side) (t : Bytes) (ended failed : Script) (P : List Call → Type 0)
    (gone : (a b c : ℕ) (ys : List Call) → Talks ended ys → P (reading σ t a b NullBulk (leaving c) ++ ys))
    (useless : (a b c : ℕ) (u : Bytes) (ys : List Call) → ((v : Bytes) → Carries σ u t v → ⊥) → Talks ended ys → P (reading σ t a b (Bulk u) (leaving c) ++ ys))
    (nowhere : (a b c d : ℕ) (u v : Bytes) (ms : List Bytes) (ys : List Call) → Carries σ u t v → σ.keys_in u ms ≡ [] → Talks ended ys → P (reading σ t a b (Bulk u) (asking σ (σ.exchange_in u) c ms (leaving d)) ++ ys))
    (moved : (y : Try) (zs : List ℤ) (ys : List Call) → IsTry σ t y → Talks ended ys → P (whole_try σ side t y (integers zs) ys))
    (again : (y : Try) (ys : List Call) → IsTry σ t y → Talks failed ys → P (whole_try σ side t y NullArray ys)) where
  module _ (a b c : ℕ) (u v : Bytes) (ms : List Bytes) (carries : Carries σ u t v) where
    abbrev Q : List Call → Type 0
    Q l = P (reading σ t a b (Bulk u) (asking σ (σ.exchange_in u) c ms l))

    none_talk : σ.keys_in u ms ≡ [] → (xs : List Call) → Talks (leave_script ended) xs → Q xs
    none_talk none =
        done_talks (codes "UNWATCH" ∷ []) ended Q (λ d ys t₁. subst (λ l. P (reading σ t a b (Bulk u) l)) (asking-append σ (σ.exchange_in u) c ms (leaving d) ys)
        (nowhere a b c d u v ms ys carries none t₁))

    -- the pushes are there: EXEC
    pushed_talk : (d e f : ℕ) (k : Bytes) (ks : List Bytes) → σ.keys_in u ms ≡ k ∷ ks → (qs : List (ℕ × Bytes)) → queued_keys qs ≡ k ∷ ks → (ys : List Call) → Talks (plainly (codes "EXEC" ∷ []) (on_ran ended failed)) ys
        → Q (call d (codes "MULTI" ∷ []) done ∷ call e (codes "ZREM" ∷ σ.index ∷ t ∷ []) queued ∷ call f (codes "HDEL" ∷ σ.unacked ∷ t ∷ []) queued ∷ queued_calls side v qs ys)
    pushed_talk d e f k ks keys [] is ys u' = absurd (cc is)
    pushed_talk d e f k ks keys (q ∷ qs) is ys u' = say_talks (λ at. exec) (on_ran ended failed) (λ l. Q (R l)) (λ g r zs _ t₁. ran_talks ended failed r zs t₁ (λ x. Q (R (call g exec x ∷ zs))) (λ ns t₂. moved (try g) ns zs fits t₂) (λ t₂. again (try g) zs fits t₂)) ys u' where
      exec : Words
      exec = codes "EXEC" ∷ []

      R : List Call → List Call
      R l = call d (codes "MULTI" ∷ []) done ∷ call e (codes "ZREM" ∷ σ.index ∷ t ∷ []) queued ∷ call f (codes "HDEL" ∷ σ.unacked ∷ t ∷ []) queued ∷ queued_calls side v (q ∷ qs) l

      try : ℕ → Try
      try g = record { a = a; b = b; c = c; d = d; e = e; f = f; g = g; entry = u; envelope = v; members = ms; first = q; others = qs }

      fits : Carries σ u t v × (queued_keys (q ∷ qs) ≡ σ.keys_in u ms)
      fits = (carries, is ∙ sym keys)

    some_talk : (k : Bytes) (ks : List Bytes) → σ.keys_in u ms ≡ k ∷ ks → (xs : List Call) → Talks (take_script σ side t v ended failed (k ∷ ks)) xs → Q xs
    some_talk k ks keys =
        done_talks (codes "MULTI" ∷ []) (plainly zrem (on_queued (plainly hdel (on_queued push)))) Q (λ d xs t₁. queued_talks (λ at. zrem) (plainly hdel (on_queued push)) (λ l. Q (call d (codes "MULTI" ∷ []) done ∷ l)) (λ e xs _ t₂.
        queued_talks (λ at. hdel) push (λ l. Q (call d (codes "MULTI" ∷ []) done ∷ call e zrem queued ∷ l)) (λ f xs _ t₃. by d e f xs (queued_pushes_talk side v (k ∷ ks) (plainly (codes "EXEC" ∷ []) (on_ran ended failed)) xs t₃)) xs t₂) xs t₁) where
          zrem : Words
          zrem = codes "ZREM" ∷ σ.index ∷ t ∷ []

          hdel : Words
          hdel = codes "HDEL" ∷ σ.unacked ∷ t ∷ []

          push : Script
          push = queued_script side v (k ∷ ks) (plainly (codes "EXEC" ∷ []) (on_ran ended failed))

          by : (d e f : ℕ) (xs : List Call) → AreQueued side v (k ∷ ks) (plainly (codes "EXEC" ∷ []) (on_ran ended failed)) xs → Q (call d (codes "MULTI" ∷ []) done ∷ call e zrem queued ∷ call f hdel queued ∷ xs)
          by d e f xs q = subst (λ l. Q (call d (codes "MULTI" ∷ []) done ∷ call e zrem queued ∷ call f hdel queued ∷ l)) q.3 (pushed_talk d e f k ks keys q.0 q.2 q.1 q.4)

    take_talk : (ks : List Bytes) → σ.keys_in u ms ≡ ks → (xs : List Call) → Talks (take_script σ side t v ended failed ks) xs → Q xs
    take_talk [] keys = none_talk keys
    take_talk (k ∷ ks) keys = some_talk k ks keys

  -- the bindings are read, if there are any to read
  asked_talk : (a b : ℕ) (u v : Bytes) → Carries σ u t v → (o : Option Bytes) → σ.exchange_in u ≡ o → (xs : List Call) → Talks (asking_script σ o (λ ms. take_script σ side t v ended failed (σ.keys_in u ms))) xs → P (reading σ t a b (Bulk u) xs)
  asked_talk a b u v carries None is xs t₁ = subst (λ o. P (reading σ t a b (Bulk u) (asking σ o 0 [] xs))) is (take_talk a b 0 u v [] carries (σ.keys_in u []) refl xs t₁)
  asked_talk a b u v carries (Some e) is xs t₁ =
      say_talks (λ at. w) (on_texts go) (λ l. P (reading σ t a b (Bulk u) l)) (λ c r ys _ t₂. texts_talks go r ys t₂ (λ x. P (reading σ t a b (Bulk u) (call c w x ∷ ys))) (λ ms t₃.
      subst (λ o. P (reading σ t a b (Bulk u) (asking σ o c ms ys))) is (take_talk a b c u v ms carries (σ.keys_in u ms) refl ys t₃))) xs t₁ where
        w : Words
        w = codes "SMEMBERS" ∷ σ.binding e ∷ []

        go : List Bytes → Script
        go ms = take_script σ side t v ended failed (σ.keys_in u ms)

  route_talk : (a b : ℕ) (u : Bytes) (o : Option Bytes) → carried_for σ t u ≡ o → (xs : List Call) → Talks (route_script σ side t u ended failed o) xs → P (reading σ t a b (Bulk u) xs)
  route_talk a b u None is = done_talks (codes "UNWATCH" ∷ []) ended (λ l. P (reading σ t a b (Bulk u) l)) (λ c ys t₁. useless a b c u ys (carried_not σ t u is) t₁)
  route_talk a b u (Some v) is = asked_talk a b u v (carried_is σ t u v is) (σ.exchange_in u) refl

  pub try_talk : (xs : List Call) → Talks (try_script σ side t ended failed) xs → P xs
  try_talk =
      done_talks watch (plainly get (on_entry (leave_script ended) go)) P (λ a xs t₁. say_talks (λ at. get) (on_entry (leave_script ended) go) (λ l. P (call a watch done ∷ l)) (λ b r ys _ t₂.
      entry_talks (leave_script ended) go r ys t₂ (λ x. P (call a watch done ∷ call b get x ∷ ys))
      (done_talks (codes "UNWATCH" ∷ []) ended (λ l. P (reading σ t a b NullBulk l)) (λ c zs t₃. gone a b c zs t₃) ys)
      (λ u. route_talk a b u (carried_for σ t u) refl ys)) xs t₁) where
        watch : Words
        watch = codes "WATCH" ∷ σ.unacked ∷ []

        get : Words
        get = codes "HGET" ∷ σ.unacked ∷ t ∷ []

        go : Bytes → Script
        go u = route_script σ side t u ended failed (carried_for σ t u)
