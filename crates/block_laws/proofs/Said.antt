-- A whole block is said by its script, to its end.
use Rattle.std.proofs.Common.{◌≡◌, ◌⊎◌, inl, inr, ℕ, ◌+◌, zero, suc, List, [], ◌∷◌, ◌++◌, Option, None, Some, Bool, true, false, refl, ap, sym, subst, ◌∙◌, ℤ, codes, decimal, arith, if◌then◌else◌}
use Rattle.std.specs.Prelude.{option_and_then}
use Rattle.wire_values.proofs.Layers.{layer-array}
use Rattle.wire_values.specs.Layer.{layer}
use Rattle.wire_values.specs.declared.value.Value.{Value}
use Rattle.wire_values.specs.declared.value.Value.TheVariants.{Status, Integer, Bulk, NullBulk, Array, NullArray}
use Rattle.store_model.specs.Words.{Words}
use Rattle.store_model.specs.Replies.{done, queued, bulks, pair}
use Rattle.queue_keys.specs.Names.{Bytes, same}
use Rattle.queue_keys.specs.Texts.{token}
use Rattle.command_blocks.specs.Answers.{integers, number_of, items_of, bulk_of, pair_of}
use Rattle.queue_keys.specs.Bindings.{member}
use Rattle.command_blocks.specs.Setting.{Setting, IsLawful}
use Rattle.command_blocks.specs.Calls.{Call, call, push_word}
use Rattle.command_blocks.specs.RouteBlocks.{IsDeclareBlock, Told, direct_calls, direct_keys, IsPublishBlock, Plain, Named}
use Rattle.command_blocks.specs.TakeBlocks.{brpop_words, IsPopBlock, Empty, Unreadable, Popped, IsEndBlock, Acknowledged}
use Rattle.command_blocks.specs.ReturnBlocks.{ReturnEnd, Contended, goes_on, queued_calls, queued_keys, reading, asking, leaving, taking, Carries, Try, whole_try, IsTry, IsTries, Missing, Useless, Nowhere, Whole, Eighth, Again}
use Rattle.command_blocks.specs.PassBlocks.{PassEnd, IsReturns, All_returned, Returned, Returned_until, Ended_early, IsRelease, Own, Foreign, tags_among, lock_words, due_words, IsPassBlock, Is_held, Ran}
use Rattle.command_blocks.specs.Scripts.{Script, Over, Off, Say, Plan, Declare, Undeclare, Publish, Pop, End, Return, Pass, script_of, plainly, if_told, on_done, on_queued, on_number, each_told, on_texts, on_two, on_two_numbers, null_array_in, null_bulk_in, on_null_array, declare_script, pushes, asking_script, publish_script, keep_script, kept_by, on_popped, popping, pop_script, end_script, queued_script, on_ran, leave_script, take_script, carried_for, route_script, on_entry, try_script, tries_script, return_script, on_released, on_token, release_script, returns_script, on_locked, pass_script, rest_of, IsSaid}
use Rattle.command_blocks.specs.declared.side.Side.{Side}
use Rattle.command_blocks.specs.declared.side.Side.TheVariants.{Right}
use Rattle.block_laws.specs.Rows.{IsPlanBlock}
use Rattle.block_laws.proofs.Values.{eq_itself, eq_true, layer-Status, layer-Bulk, items_of-Array, bulk_of-Bulk, texts_of-bulks, numbers_in-integers, pair_of-pair}
use Rattle.block_laws.proofs.Good.{status_listed, number_listed, null_array_listed, null_bulk_listed}
use Rattle.block_laws.proofs.Fronts.{said-append, rest-append}
use Rattle.block_laws.proofs.Tries.{carried_is, carried_so}
use Rattle.block_laws.proofs.Talks.{off_not}

-- the calls are said by the one script, and leave the other
pub record Goes (p : Script) (l : List Call) (q : Script) : Type 0 where
  pub said : IsSaid p l
  pub rest : rest_of p l ≡ q

stays : (p : Script) → Goes p [] p
stays p = record { said = tt; rest = refl }

joined : (p q r : Script) (xs ys : List Call) → Goes p xs q → Goes q ys r → Goes p (xs ++ ys) r
joined p q r xs ys g h = record {
  said = said-append p xs ys g.said (subst (λ z. IsSaid z ys) (sym g.rest) h.said);
  rest = rest-append p xs ys ∙ (ap (λ z. rest_of z ys) g.rest ∙ h.rest);
}

-- a call, and those after its answer
step : (w : ℕ → Words) (go : Value → Script) (a : ℕ) (r : Value) (p q : Script) (ys : List Call) → go r ≡ p → Goes p ys q → Goes (Say w go) (call a (w a) r ∷ ys) q
step w go a r p q ys e h = let k = subst (λ z. Goes z ys q) (sym e) h in record { said = (refl, k.said); rest = k.rest }

-- ---- answers

texts_listed : (go : List Bytes → Script) (ms : List Bytes) → on_texts go (bulks ms) ≡ go ms
texts_listed go ms = ap (if_told go) (texts_of-bulks ms)

two_listed : (go : Script) (x y : ℤ) → on_two_numbers go (integers (x ∷ y ∷ [])) ≡ go
two_listed go x y = ap (if_told (on_two {A = ℤ} go)) (numbers_in-integers (x ∷ y ∷ []))

-- an array isn't the null array
array_listed : (null other : Script) (vs : List Value) → on_null_array null other (Array vs) ≡ other
array_listed null other vs = ap (λ f. if null_array_in f then null else other) (layer-array vs)

-- nor are bytes the null bulk string, or a simple string
bulk_listed : (null other : Script) (b : Bytes) → (if null_bulk_in (layer (Bulk b)) then null else other) ≡ other
bulk_listed null other b = ap (λ f. if null_bulk_in f then null else other) (layer-Bulk b)

status_isnt : (null other : Script) (text : Bytes) → (if null_bulk_in (layer (Status text)) then null else other) ≡ other
status_isnt null other text = ap (λ f. if null_bulk_in f then null else other) (layer-Status text)

popped_listed : (σ : Setting) (k v : Bytes) → on_popped σ (pair k v) ≡ kept_by σ v (σ.tag_of v)
popped_listed σ k v =
    let go : Bytes × Bytes → Script = λ p. kept_by σ p.1 (σ.tag_of p.1) in
    array_listed Over (if_told go (pair_of (pair k v))) (Bulk k ∷ Bulk v ∷ []) ∙ ap (if_told go) (pair_of-pair k v)

ran_listed : (moved failed : Script) (zs : List ℤ) → on_ran moved failed (integers zs) ≡ moved
ran_listed moved failed zs =
    let go : List ℤ → Script = λ zs. moved in
    array_listed failed (if_told go (option_and_then (each_told number_of) (items_of (integers zs)))) _ ∙ ap (if_told go) (numbers_in-integers zs)

entry_listed : (missing : Script) (go : Bytes → Script) (u : Bytes) → on_entry missing go (Bulk u) ≡ go u
entry_listed missing go u = bulk_listed missing (if_told go (bulk_of (Bulk u))) u ∙ ap (if_told go) (bulk_of-Bulk u)

-- ---- commands with their answers

done_goes : (w : Words) (go : Script) (a : ℕ) (q : Script) (ys : List Call) → Goes go ys q → Goes (plainly w (on_done go)) (call a w done ∷ ys) q
done_goes w go a q ys = step (λ at. w) (on_done go) a done go q ys (status_listed (codes "OK") go)

queued_goes : (w : ℕ → Words) (go : Script) (a : ℕ) (q : Script) (ys : List Call) → Goes go ys q → Goes (Say w (on_queued go)) (call a (w a) queued ∷ ys) q
queued_goes w go a q ys = step w (on_queued go) a queued go q ys (status_listed (codes "QUEUED") go)

number_goes : (w : Words) (go : Script) (a : ℕ) (z : ℤ) (q : Script) (ys : List Call) → Goes go ys q → Goes (plainly w (on_number go)) (call a w (Integer z) ∷ ys) q
number_goes w go a z q ys = step (λ at. w) (on_number go) a (Integer z) go q ys (number_listed go z)

two_goes : (w : Words) (go : Script) (a : ℕ) (x y : ℤ) (q : Script) (ys : List Call) → Goes go ys q → Goes (plainly w (on_two_numbers go)) (call a w (integers (x ∷ y ∷ [])) ∷ ys) q
two_goes w go a x y q ys = step (λ at. w) (on_two_numbers go) a (integers (x ∷ y ∷ [])) go q ys (two_listed go x y)

texts_goes : (w : ℕ → Words) (go : List Bytes → Script) (a : ℕ) (ms : List Bytes) (q : Script) (ys : List Call) → Goes (go ms) ys q → Goes (Say w (on_texts go)) (call a (w a) (bulks ms) ∷ ys) q
texts_goes w go a ms q ys = step w (on_texts go) a (bulks ms) (go ms) q ys (texts_listed go ms)

-- ---- declarations and publications

declare_said : (σ : Setting) (word e r x q : Bytes) (l : List Call) → IsDeclareBlock σ word e r x q l → Goes (declare_script σ word e r x q) l Over
declare_said σ word e r x q l (Told a z f g h i) = number_goes (word ∷ σ.binding e ∷ member r x q ∷ []) Over a z Over [] (stays Over)

pushes_said : (v : Bytes) (ds : List (ℕ × Bytes × ℤ)) → Goes (pushes v (direct_keys ds)) (direct_calls v ds) Over
pushes_said v [] = stays Over
pushes_said v (d ∷ ds) = number_goes (codes "LPUSH" ∷ d.1 ∷ v ∷ []) (pushes v (direct_keys ds)) d.0 d.2 Over (direct_calls v ds) (pushes_said v ds)

publish_said : (σ : Setting) (t v : Bytes) (l : List Call) → IsPublishBlock σ t v l → Goes (publish_script σ v) l Over
publish_said σ t v l (Plain a k z tag none keys) =
    let one : Goes (pushes v (k ∷ [])) l Over = number_goes (codes "LPUSH" ∷ k ∷ v ∷ []) Over a z Over [] (stays Over) in
    let all : Goes (pushes v (σ.keys_for v [])) l Over = subst (λ ks. Goes (pushes v ks) l Over) (sym keys) one in
    subst (λ o. Goes (asking_script σ o (λ ms. pushes v (σ.keys_for v ms))) l Over) (sym none) all
publish_said σ t v l (Named a e ms ds tag some keys) =
    let all : Goes (pushes v (σ.keys_for v ms)) (direct_calls v ds) Over = subst (λ ks. Goes (pushes v ks) (direct_calls v ds) Over) keys (pushes_said v ds) in
    subst (λ o. Goes (asking_script σ o (λ ms. pushes v (σ.keys_for v ms))) l Over) (sym some)
    (texts_goes (λ at. codes "SMEMBERS" ∷ σ.binding e ∷ []) (λ ms. pushes v (σ.keys_for v ms)) a ms Over (direct_calls v ds) all)

-- ---- pops and acknowledgements

keep_said : (σ : Setting) (v t : Bytes) (b c d e : ℕ) (x y : ℤ) → Goes (keep_script σ v t) (
    call b (codes "MULTI" ∷ []) done
    ∷ call c (codes "ZADD" ∷ σ.index ∷ decimal c ∷ t ∷ []) queued
    ∷ call d (codes "HSET" ∷ σ.unacked ∷ t ∷ σ.entry_of v ∷ []) queued
    ∷ call e (codes "EXEC" ∷ []) (integers (x ∷ y ∷ []))
    ∷ []) Over
keep_said σ v t b c d e x y =
    done_goes (codes "MULTI" ∷ []) _ b Over _ (queued_goes (λ at. codes "ZADD" ∷ σ.index ∷ decimal at ∷ t ∷ []) _ c Over _ (queued_goes (λ at. codes "HSET" ∷ σ.unacked ∷ t ∷ σ.entry_of v ∷ []) _ d Over _
    (two_goes (codes "EXEC" ∷ []) Over e x y Over [] (stays Over))))

-- BRPOP of the keys, by what goes on after its answer
popping_said : (σ : Setting) (names : List Bytes) (a : ℕ) (k : Bytes) (ks : List Bytes) (r : Value) (p : Script) (ys : List Call) → σ.pop_keys names ≡ k ∷ ks → on_popped σ r ≡ p → Goes p ys Over → Goes (pop_script σ names) (call a (brpop_words k ks) r ∷ ys) Over
popping_said σ names a k ks r p ys keys e h =
    subst (λ z. Goes (popping σ z) (call a (brpop_words k ks) r ∷ ys) Over) (sym keys) (step (λ at. brpop_words k ks) (on_popped σ) a r p Over ys e h)

pop_said : (σ : Setting) (names : List Bytes) (l : List Call) → IsPopBlock σ names l → Goes (pop_script σ names) l Over
pop_said σ names l (Empty a k ks pop) =
    popping_said σ names a k ks NullArray Over [] pop.1 (null_array_listed Over (if_told (λ (p : Bytes × Bytes). kept_by σ p.1 (σ.tag_of p.1)) (pair_of NullArray))) (stays Over)
pop_said σ names l (Unreadable a k ks q v pop none) = popping_said σ names a k ks (pair q v) Over [] pop.1 (popped_listed σ q v ∙ ap (kept_by σ v) none) (stays Over)
pop_said σ names l (Popped a b c d e k ks q v t x y pop tag early) =
    popping_said σ names a k ks (pair q v) (keep_script σ v t) _ pop.1 (popped_listed σ q v ∙ ap (kept_by σ v) tag) (keep_said σ v t b c d e x y)

end_said : (σ : Setting) (t : Bytes) (l : List Call) → IsEndBlock σ t l → Goes (end_script σ t) l Over
end_said σ t l (Acknowledged a b c d x y tag) =
    done_goes (codes "MULTI" ∷ []) _ a Over _ (queued_goes (λ at. codes "ZREM" ∷ σ.index ∷ t ∷ []) _ b Over _ (queued_goes (λ at. codes "HDEL" ∷ σ.unacked ∷ t ∷ []) _ c Over _
    (two_goes (codes "EXEC" ∷ []) Over d x y Over [] (stays Over))))

-- ---- returns

leaving_said : (rest : Script) (a : ℕ) → Goes (leave_script rest) (leaving a) rest
leaving_said rest a = done_goes (codes "UNWATCH" ∷ []) rest a rest [] (stays rest)

asking_said : (σ : Setting) (o : Option Bytes) (go : List Bytes → Script) (a : ℕ) (ms : List Bytes) (q : Script) (ys : List Call) → (o ≡ None → go ms ≡ go []) → Goes (go ms) ys q → Goes (asking_script σ o go) (asking σ o a ms ys) q
asking_said σ None go a ms q ys alone h = subst (λ z. Goes z ys q) (alone refl) h
asking_said σ (Some e) go a ms q ys alone h = texts_goes (λ at. codes "SMEMBERS" ∷ σ.binding e ∷ []) go a ms q ys h

queued_said : (side : Side) (v : Bytes) (qs : List (ℕ × Bytes)) (rest q : Script) (ys : List Call) → Goes rest ys q → Goes (queued_script side v (queued_keys qs) rest) (queued_calls side v qs ys) q
queued_said side v [] rest q ys h = h
queued_said side v (p ∷ ps) rest q ys h = queued_goes (λ at. push_word side ∷ p.1 ∷ v ∷ []) (queued_script side v (queued_keys ps) rest) p.0 q (queued_calls side v ps ys) (queued_said side v ps rest q ys h)

module _ (σ : Setting) (lawful : IsLawful σ) (side : Side) (t : Bytes) (ended failed q : Script) where
  taking_said : (a b c d : ℕ) (v : Bytes) (first : ℕ × Bytes) (others : List (ℕ × Bytes)) (r : Value) (p : Script) (ys : List Call) → on_ran ended failed r ≡ p → Goes p ys q
      → Goes (take_script σ side t v ended failed (queued_keys (first ∷ others))) (taking σ side t a b c d v (first ∷ others) r ys) q
  taking_said a b c d v first others r p ys e h =
      done_goes (codes "MULTI" ∷ []) _ a q _ (queued_goes (λ at. codes "ZREM" ∷ σ.index ∷ t ∷ []) _ b q _ (queued_goes (λ at. codes "HDEL" ∷ σ.unacked ∷ t ∷ []) _ c q _
      (queued_said side v (first ∷ others) (plainly (codes "EXEC" ∷ []) (on_ran ended failed)) q _ (step (λ at. codes "EXEC" ∷ []) (on_ran ended failed) d r p q ys e h))))

  -- an entry was read
  reading_said : (a b : ℕ) (u : Bytes) (o : Option Bytes) (ys : List Call) → carried_for σ t u ≡ o → Goes (route_script σ side t u ended failed o) ys q → Goes (try_script σ side t ended failed) (reading σ t a b (Bulk u) ys) q
  reading_said a b u o ys e h =
      done_goes (codes "WATCH" ∷ σ.unacked ∷ []) _ a q _ (step (λ at. codes "HGET" ∷ σ.unacked ∷ t ∷ []) (on_entry (leave_script ended) go) b (Bulk u) (go u) q ys (entry_listed (leave_script ended) go u)
      (subst (λ z. Goes (route_script σ side t u ended failed z) ys q) (sym e) h)) where
        go : Bytes → Script
        go u = route_script σ side t u ended failed (carried_for σ t u)

  -- its envelope goes on by these keys
  carried_said : (a b c : ℕ) (u v : Bytes) (ms : List Bytes) (ks : List Bytes) (ys : List Call) → Carries σ u t v → ks ≡ σ.keys_in u ms → Goes (take_script σ side t v ended failed ks) ys q
      → Goes (try_script σ side t ended failed) (reading σ t a b (Bulk u) (asking σ (σ.exchange_in u) c ms ys)) q
  carried_said a b c u v ms ks ys carries keys h =
      reading_said a b u (Some v) _ (carried_so σ t u v carries) (asking_said σ (σ.exchange_in u) (λ ms. take_script σ side t v ended failed (σ.keys_in u ms)) c ms q ys
      (λ none. ap (take_script σ side t v ended failed) (lawful.keys_in_alone u ms none)) (subst (λ ks. Goes (take_script σ side t v ended failed ks) ys q) keys h))

  whole_said : (y : Try) (r : Value) (p : Script) (ys : List Call) → IsTry σ t y → on_ran ended failed r ≡ p → Goes p ys q → Goes (try_script σ side t ended failed) (whole_try σ side t y r ys) q
  whole_said y r p ys fits e h =
      carried_said y.a y.b y.c y.entry y.envelope y.members (queued_keys (y.first ∷ y.others)) _ fits.0 fits.1 (taking_said y.d y.e y.f y.g y.envelope y.first y.others r p ys e h)

not_carried : (σ : Setting) (t u : Bytes) → ((v : Bytes) → Carries σ u t v → ⊥) → carried_for σ t u ≡ None
not_carried σ t u never = by (carried_for σ t u) refl where
  by : (o : Option Bytes) → carried_for σ t u ≡ o → o ≡ None
  by None e = refl
  by (Some v) e = absurd (never v (carried_is σ t u v e))

module _ (σ : Setting) (lawful : IsLawful σ) (side : Side) (t : Bytes) (ended stuck : Script) where
  -- what goes on after this end
  abbrev after : ReturnEnd → Script
  after end = if goes_on end then ended else stuck

  tries_said : (n m : ℕ) (end : ReturnEnd) (l : List Call) → n + m ≡ 7 → IsTries σ side t n end l → Goes (tries_script σ side t ended stuck (suc m)) l (after end)
  tries_said n m end l e (Missing n' a b c) =
      done_goes (codes "WATCH" ∷ σ.unacked ∷ []) _ a ended _ (step (λ at. codes "HGET" ∷ σ.unacked ∷ t ∷ []) (on_entry (leave_script ended) go) b NullBulk (leave_script ended) ended _
      (null_bulk_listed (leave_script ended) (if_told go (bulk_of NullBulk))) (leaving_said ended c)) where
        go : Bytes → Script
        go u = route_script σ side t u ended (tries_script σ side t ended stuck m) (carried_for σ t u)
  tries_said n m end l e (Useless n' a b c u never) =
      reading_said σ lawful side t ended (tries_script σ side t ended stuck m) ended a b u None _ (not_carried σ t u never) (leaving_said ended c)
  tries_said n m end l e (Nowhere n' a b c d u v ms carries none) =
      carried_said σ lawful side t ended (tries_script σ side t ended stuck m) ended a b c u v ms [] _ carries (sym none) (leaving_said ended d)
  tries_said n m end l e (Whole n' y zs fits) =
      whole_said σ lawful side t ended (tries_script σ side t ended stuck m) ended y (integers zs) ended [] fits (ran_listed ended (tries_script σ side t ended stuck m) zs) (stays ended)
  tries_said n m end l e (Eighth y fits) = by m e where
    by : (m : ℕ) → 7 + m ≡ 7 → Goes (tries_script σ side t ended stuck (suc m)) (whole_try σ side t y NullArray []) stuck
    by zero e = whole_said σ lawful side t ended stuck stuck y NullArray stuck [] fits (null_array_listed stuck _) (stays stuck)
    by (suc m) e = absurd (omega (arith, e))
  tries_said n m end l e (Again n' y end' l' few fits more) = by m e (λ k f. tries_said (suc n) k end l' f more) where
    by : (m : ℕ) → n + m ≡ 7 → ((k : ℕ) → suc n + k ≡ 7 → Goes (tries_script σ side t ended stuck (suc k)) l' (after end)) → Goes (tries_script σ side t ended stuck (suc m)) (whole_try σ side t y NullArray l') (after end)
    by zero e later = absurd (omega (arith, e, few))
    by (suc m) e later =
        whole_said σ lawful side t ended (tries_script σ side t ended stuck (suc m)) (after end) y NullArray (tries_script σ side t ended stuck (suc m)) l' fits (null_array_listed (tries_script σ side t ended stuck (suc m)) _)
        (later m (omega (arith, e)))

over_so : (b : Bool) → (if b then Over else Over) ≡ Over
over_so true = refl
over_so false = refl

return_said : (σ : Setting) → IsLawful σ → (side : Side) (t : Bytes) (end : ReturnEnd) (l : List Call) → IsTries σ side t 0 end l → Goes (return_script σ side t) l Over
return_said σ lawful side t end l tries = let g = tries_said σ lawful side t Over Over 0 7 end l refl tries in record { said = g.said; rest = g.rest ∙ over_so (goes_on end) }

-- ---- passes

released_listed : (r : Value) → ((rs : List Value) × (r ≡ Array rs)) ⊎ (r ≡ NullArray) → on_released r ≡ Over
released_listed r (inl h) =
    let go : List Value → Script = λ vs. Over in
    ap on_released h.1 ∙ (array_listed Over (if_told go (items_of (Array h.0))) h.0 ∙ ap (if_told go) (items_of-Array h.0))
released_listed r (inr h) = ap on_released h ∙ null_array_listed Over _

differs_so : (u own : Bytes) → (u ≡ own → ⊥) → same u own ≡ false
unfolding same
differs_so u own differs = by (same u own) refl where
  by : (b : Bool) → same u own ≡ b → b ≡ false
  by false e = refl
  by true e = absurd (differs (eq_true u own e))

module _ (σ : Setting) (token : Bytes) where
  abbrev own : Script
  own = plainly (codes "MULTI" ∷ []) (on_done (plainly (codes "DEL" ∷ σ.mutex ∷ []) (on_queued (plainly (codes "EXEC" ∷ []) on_released))))

  abbrev by_holder : Bytes → Script
  by_holder u = if same u token then own else leave_script Over

  token_listed : (u : Bytes) → on_token σ token (Bulk u) ≡ by_holder u
  token_listed u = bulk_listed (leave_script Over) (if_told by_holder (bulk_of (Bulk u))) u ∙ ap (if_told by_holder) (bulk_of-Bulk u)

  foreign_listed : (r : Value) → ((u : Bytes) × (r ≡ Bulk u) × (u ≡ token → ⊥)) ⊎ (r ≡ NullBulk) → on_token σ token r ≡ leave_script Over
  foreign_listed r (inl h) = ap (on_token σ token) h.1 ∙ (token_listed h.0 ∙ ap (λ b. if b then own else leave_script Over) (differs_so h.0 token h.2))
  foreign_listed r (inr h) = ap (on_token σ token) h ∙ null_bulk_listed (leave_script Over) (if_told by_holder (bulk_of NullBulk))

  own_listed : on_token σ token (Bulk token) ≡ own
  unfolding same
  own_listed = token_listed token ∙ ap (λ b. if b then own else leave_script Over) (eq_itself token)

  release_said : (l : List Call) → IsRelease σ token l → Goes (release_script σ token) l Over
  release_said l (Own a b c d e r why) =
      done_goes (codes "WATCH" ∷ σ.mutex ∷ []) _ a Over _ (step (λ at. codes "GET" ∷ σ.mutex ∷ []) (on_token σ token) b (Bulk token) own Over _ own_listed
      (done_goes (codes "MULTI" ∷ []) _ c Over _ (queued_goes (λ at. codes "DEL" ∷ σ.mutex ∷ []) _ d Over _ (step (λ at. codes "EXEC" ∷ []) on_released e r Over Over [] (released_listed r why) (stays Over)))))
  release_said l (Foreign a b c r why) =
      done_goes (codes "WATCH" ∷ σ.mutex ∷ []) _ a Over _ (step (λ at. codes "GET" ∷ σ.mutex ∷ []) (on_token σ token) b r (leave_script Over) Over _ (foreign_listed r why) (leaving_said Over c))

  module _ (lawful : IsLawful σ) where
    turn_said : (t : Bytes) (ts : List Bytes) (end : ReturnEnd) (l : List Call) → IsTries σ Right t 0 end l → goes_on end ≡ true → Goes (returns_script σ token (t ∷ ts)) l (returns_script σ token ts)
    turn_said t ts end l tries on =
        let g = tries_said σ lawful Right t (returns_script σ token ts) (release_script σ token) 0 7 end l refl tries in
        record { said = g.said; rest = g.rest ∙ ap (λ b. if b then returns_script σ token ts else release_script σ token) on }

    returns_said : (ts : List Bytes) (end : PassEnd) (l : List Call) → IsReturns σ ts end l → Goes (returns_script σ token ts) l (release_script σ token)
    returns_said ts end l All_returned = stays (release_script σ token)
    returns_said ts end l (Returned t ts' e ends l₁ l₂ tries on more) = joined _ _ _ l₁ l₂ (turn_said t ts' e l₁ tries on) (returns_said ts' _ l₂ more)
    returns_said ts end l (Returned_until t ts' e stuck l₁ l₂ tries on more) = joined _ _ _ l₁ l₂ (turn_said t ts' e l₁ tries on) (returns_said ts' _ l₂ more)
    returns_said ts end l (Ended_early t ts' l₁ tries) = tries_said σ lawful Right t (returns_script σ token ts') (release_script σ token) 0 7 Contended l₁ refl tries

    pass_said : (v : ℕ) (end : PassEnd) (l : List Call) → IsPassBlock σ token v end l → Goes (pass_script σ token v) l Over
    pass_said v end l (Is_held a) = step (λ at. lock_words σ token) (on_locked after) a NullBulk Over Over [] (null_bulk_listed Over (on_done after NullBulk)) (stays Over) where
      after : Script
      after = Say (λ at. due_words σ at v) (on_texts (λ ms. returns_script σ token (tags_among σ ms)))
    pass_said v end l (Ran a b ms end' l₁ l₂ returns release) =
        step (λ at. lock_words σ token) (on_locked after) a done after Over _ (status_isnt Over (on_done after done) (codes "OK") ∙ status_listed (codes "OK") after)
        (texts_goes (λ at. due_words σ at v) go b ms Over _ (joined _ _ _ l₁ l₂ (returns_said (tags_among σ ms) end' l₁ returns) (release_said l₂ release))) where
          go : List Bytes → Script
          go ms = returns_script σ token (tags_among σ ms)

          after : Script
          after = Say (λ at. due_words σ at v) (on_texts go)

-- ---- plans

-- a whole block of a plan is said by the plan's script, to its end
pub plan_said : (σ : Setting) → IsLawful σ → (s n p : ℕ) (plan : Plan) (l : List Call) → IsPlanBlock σ s n p plan l → Goes (script_of σ s p plan) l Over
plan_said σ lawful s n p (Declare e r x q) l b = declare_said σ (codes "SADD") e r x q l b
plan_said σ lawful s n p (Undeclare e r x q) l b = declare_said σ (codes "SREM") e r x q l b
plan_said σ lawful s n p (Publish v) l b = publish_said σ (σ.tag s (suc n)) v l b
plan_said σ lawful s n p (Pop names) l b = pop_said σ names l b
plan_said σ lawful s n p (End t) l b = end_said σ t l b
plan_said σ lawful s n p (Return side t) l b = return_said σ lawful side t b.0 l b.1.1
plan_said σ lawful s n p (Pass v) l b = pass_said σ (token s (suc p)) lawful v b.0 l b.1

-- nothing is said after an answer that isn't listed
off_ends : (l : List Call) → rest_of Off l ≡ Off
off_ends [] = refl
off_ends (x ∷ xs) = off_ends xs

-- so calls after which a script is off begin no block of its plan
pub plan_off : (σ : Setting) → IsLawful σ → (s n p : ℕ) (plan : Plan) (l more : List Call) → rest_of (script_of σ s p plan) l ≡ Off → IsPlanBlock σ s n p plan (l ++ more) → ⊥
plan_off σ lawful s n p plan l more off b =
    let over : rest_of (script_of σ s p plan) (l ++ more) ≡ Over = (plan_said σ lawful s n p plan (l ++ more) b).rest in
    off_not (sym (rest-append (script_of σ s p plan) l more ∙ (ap (λ q. rest_of q more) off ∙ off_ends more)) ∙ over)
