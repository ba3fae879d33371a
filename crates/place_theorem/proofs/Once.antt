-- In a sound start a tag has one envelope, and none is of a client's seed; clients of one seed are one.
use Rattle.std.proofs.Common.{◌+◌, Bool, List, None, Option, Some, [], ap, arith, if◌then◌else◌, inl, inr, is_some, refl, subst, sym, true, ℕ, ◌∙◌, ◌∷◌, ◌≡◌, ◌≢◌, ◌≤◌, ◌⊎◌}
use Rattle.std.specs.FinMap.{entries, get, remove}
use Rattle.wire_values.specs.Order.{bytes_cmp}
use Rattle.store_model.specs.Keys.{Keys, value_of}
use Rattle.store_model.specs.declared.held.Held.{Held}
use Rattle.store_model.specs.declared.held.Stored.{Stored}
use Rattle.store_model.specs.declared.held.Stored.TheVariants.{Items}
use Rattle.store_laws.proofs.Maps.{get-remove_other, total-remove, weight}
use Rattle.place_model.specs.Counts.{table_entry, in_held, in_value, is_field, start_count, tagged, total}
use Rattle.place_model.specs.Histories.{AreUnused, Client, IsTable, seeds, table}
use Rattle.place_model.specs.Identity.{HasEnvelope, In_a_list, In_the_table}
use Rattle.queue_keys.specs.Names.{Bytes, same}
use Rattle.queue_keys.specs.QueueKeys.{Among, Differ, IsAway}
use Rattle.place_model.specs.Seen.{tag_weight}
use Rattle.command_blocks.specs.Setting.{is_queue}
use Rattle.place_model.specs.Starts.{IsSoundStart, elements_at, elements_of}
use Rattle.place_theorem.proofs.Full.{Full}
use Rattle.place_theorem.proofs.Sound.{in_table}
use Rattle.place_theorem.proofs.Transactions.{tag_self}
use Rattle.place_theorem.proofs.Values.{text_or}
use Rattle.store_tables.proofs.Maps.{bytes_anti, bytes_total}

-- ---- counts

tagged_some : (σ : Full) (t v : Bytes) (xs : List Bytes) → σ.names.tag_of v ≡ Some t → Among v xs → 1 ≤ tagged σ.names t xs
tagged_some σ t v [] tag is = absurd is
tagged_some σ t v (x ∷ xs) tag (inl e) = let w : tag_weight t (σ.names.tag_of x) ≡ 1 = ap (λ y. tag_weight t (σ.names.tag_of y)) (sym e) ∙ ap (tag_weight t) tag ∙ tag_self t in omega (arith, w)
tagged_some σ t v (x ∷ xs) tag (inr is) = let r = tagged_some σ t v xs tag is in omega (arith, r)

tagged_one : (σ : Full) (t v v' : Bytes) (xs : List Bytes) → σ.names.tag_of v ≡ Some t → σ.names.tag_of v' ≡ Some t → tagged σ.names t xs ≤ 1 → Among v xs → Among v' xs → v ≡ v'
tagged_one σ t v v' [] tag tag' le is is' = absurd is
tagged_one σ t v v' (x ∷ xs) tag tag' le (inl e) (inl e') = e ∙ sym e'
tagged_one σ t v v' (x ∷ xs) tag tag' le (inl e) (inr is') =
    let w : tag_weight t (σ.names.tag_of x) ≡ 1 = ap (λ y. tag_weight t (σ.names.tag_of y)) (sym e) ∙ ap (tag_weight t) tag ∙ tag_self t in
    let r = tagged_some σ t v' xs tag' is' in absurd (omega (arith, w, r, le))
tagged_one σ t v v' (x ∷ xs) tag tag' le (inr is) (inl e') =
    let w : tag_weight t (σ.names.tag_of x) ≡ 1 = ap (λ y. tag_weight t (σ.names.tag_of y)) (sym e') ∙ ap (tag_weight t) tag' ∙ tag_self t in
    let r = tagged_some σ t v xs tag is in absurd (omega (arith, w, r, le))
tagged_one σ t v v' (x ∷ xs) tag tag' le (inr is) (inr is') = tagged_one σ t v v' xs tag tag' (omega (arith, le)) is is'

-- 1 where it is so
abbrev one_if : Bool → ℕ
one_if b = if b then 1 else 0

-- the weight of a queue's key is that of its elements
pub queue_weight : (σ : Full) (t k : Bytes) (o : Option Held) → is_queue σ.names k ≡ true → weight (in_held σ.names t) k o ≡ tagged σ.names t (elements_of (value_of o))
queue_weight σ t k None q = refl
queue_weight σ t k (Some h) q = ap (λ b. if b then in_value σ.names t h.value else 0) q ∙ by h.value
  where
    by : (v : Stored) → in_value σ.names t v ≡ tagged σ.names t (elements_of (Some v))
    by (Items xs) = refl
    by other = refl

-- two keys together weigh no more than all
two_parts : (f : Bytes → Held → ℕ) (m : Keys) (k k' : Bytes) → k' ≢ k → weight f k (get m k) + weight f k' (get m k') ≤ total f (entries m)
two_parts f m k k' n =
    let a : total f (entries (remove m k)) + weight f k (get m k) ≡ total f (entries m) = total-remove bytes_cmp bytes_total bytes_anti f m k in
    let b : total f (entries (remove (remove m k) k')) + weight f k' (get (remove m k) k') ≡ total f (entries (remove m k)) = total-remove bytes_cmp bytes_total bytes_anti f (remove m k) k' in
    let e : weight f k' (get (remove m k) k') ≡ weight f k' (get m k') = ap (weight f k') (get-remove_other bytes_cmp bytes_total bytes_anti m k k' n) in
    omega (arith, a, b, e)

one_part : (f : Bytes → Held → ℕ) (m : Keys) (k : Bytes) → weight f k (get m k) ≤ total f (entries m)
one_part f m k = let a : total f (entries (remove m k)) + weight f k (get m k) ≡ total f (entries m) = total-remove bytes_cmp bytes_total bytes_anti f m k in omega (arith, a)

module _ (σ : Full) (m : Keys) (used : List ℕ) (fit : IsSoundStart σ.names m used) (t : Bytes) where
  -- the elements of a queue with the tag
  in_list : (k v : Bytes) → is_queue σ.names k ≡ true → Among v (elements_at m k) → σ.names.tag_of v ≡ Some t → 1 ≤ weight (in_held σ.names t) k (get m k)
  in_list k v q is tag = let w = queue_weight σ t k (get m k) q in let s = tagged_some σ t v (elements_at m k) tag is in omega (arith, w, s)

  in_field : (u : Bytes) → table_entry σ.names m t ≡ Some u → is_field σ.names m t ≡ true
  in_field u e = ap is_some e

  field_count : (u : Bytes) → table_entry σ.names m t ≡ Some u → one_if (is_field σ.names m t) ≡ 1
  field_count u e = ap one_if (in_field u e)

  list_and_field : (k v u : Bytes) → is_queue σ.names k ≡ true → Among v (elements_at m k) → σ.names.tag_of v ≡ Some t → table_entry σ.names m t ≡ Some u → ⊥
  list_and_field k v u q is tag e =
      let a = in_list k v q is tag in
      let b = one_part (in_held σ.names t) m k in
      let c = field_count u e in
      omega (arith, a, b, c, fit.once t)

  lists_one : (k v k' v' : Bytes) → is_queue σ.names k ≡ true → Among v (elements_at m k) → σ.names.tag_of v ≡ Some t → is_queue σ.names k' ≡ true → Among v' (elements_at m k') → σ.names.tag_of v' ≡ Some t → v ≡ v'
  lists_one k v k' v' q is tag q' is' tag' = go (text_or k' k)
    where
      go : (k' ≡ k) ⊎ (k' ≢ k) → v ≡ v'
      go (inl e) =
          let w = queue_weight σ t k (get m k) q in
          let b = one_part (in_held σ.names t) m k in
          tagged_one σ t v v' (elements_at m k) tag tag' (omega (arith, w, b, fit.once t)) is (subst (λ z. Among v' (elements_at m z)) e is')
      go (inr n) =
          let a = in_list k v q is tag in
          let a' = in_list k' v' q' is' tag' in
          let b = two_parts (in_held σ.names t) m k k' n in
          absurd (omega (arith, a, a', b, fit.once t))

  -- a tag of the start has one body
  pub start_body : (b b' : Bytes) → HasEnvelope σ.names m t b → HasEnvelope σ.names m t b' → b ≡ b'
  start_body b b' (In_a_list k v q is tag body) (In_a_list k' v' q' is' tag' body') = sym body ∙ ap σ.names.body_of (lists_one k v k' v' q is tag q' is' tag') ∙ body'
  start_body b b' (In_a_list k v q is tag body) (In_the_table u e body') = absurd (list_and_field k v u q is tag e)
  start_body b b' (In_the_table u e body) (In_a_list k v q is tag body') = absurd (list_and_field k v u q is tag e)
  start_body b b' (In_the_table u e body) (In_the_table u' e' body') = let same : u ≡ u' = cc (e, e') in sym body ∙ ap σ.names.body_in same ∙ body'

  -- and stands there
  pub start_some : (b : Bytes) → HasEnvelope σ.names m t b → 1 ≤ start_count σ.names m t
  start_some b (In_a_list k v q is tag body) = let a = in_list k v q is tag in let c = one_part (in_held σ.names t) m k in omega (arith, a, c)
  start_some b (In_the_table u e body) = let c = field_count u e in omega (arith, c)

  -- it is a tag's text
  pub start_tag : (b : Bytes) → HasEnvelope σ.names m t b → σ.names.is_tag t ≡ true
  start_tag b (In_a_list k v q is tag body) = σ.laws.tag_text v t tag
  start_tag b (In_the_table u e body) = fit.tags t (in_field u e)

-- ---- the table of clients

seed_there : (c s : ℕ) (cs : List (ℕ × ℕ)) → Among (c, s) cs → Among s (seeds cs)
seed_there c s [] is = absurd is
seed_there c s (d ∷ cs) (inl e) = inl (ap (λ p. p.1) e)
seed_there c s (d ∷ cs) (inr is) = inr (seed_there c s cs is)

not_away : (s : ℕ) (ss : List ℕ) → IsAway s ss → Among s ss → ⊥
not_away s [] far is = is
not_away s (x ∷ ss) far (inl e) = far.0 e
not_away s (x ∷ ss) far (inr is) = not_away s ss far.1 is

one_seed : (c d s : ℕ) (cs : List (ℕ × ℕ)) → Differ (seeds cs) → Among (c, s) cs → Among (d, s) cs → c ≡ d
one_seed c d s [] differ is is' = absurd is
one_seed c d s (x ∷ cs) differ (inl e) (inl e') = ap (λ p. p.0) (e ∙ sym e')
one_seed c d s (x ∷ cs) differ (inl e) (inr is') = let z : s ≡ x.1 = ap (λ p. p.1) e in absurd (not_away x.1 (seeds cs) differ.0 (subst (λ y. Among y (seeds cs)) z (seed_there d s cs is')))
one_seed c d s (x ∷ cs) differ (inr is) (inl e') = let z : s ≡ x.1 = ap (λ p. p.1) e' in absurd (not_away x.1 (seeds cs) differ.0 (subst (λ y. Among y (seeds cs)) z (seed_there c s cs is)))
one_seed c d s (x ∷ cs) differ (inr is) (inr is') = one_seed c d s cs differ.1 is is'

-- no two connections have one seed
abbrev pub SeedsDiffer : List (ℕ × ℕ) → Type 0
SeedsDiffer cs = (c d : ℕ) (cl dl : Client) → get (table cs) c ≡ Some cl → get (table cs) d ≡ Some dl → cl.seed ≡ dl.seed → c ≡ d

-- so says a table of clients
pub seeds_differ : (cs : List (ℕ × ℕ)) → Differ (seeds cs) → SeedsDiffer cs
seeds_differ cs differ c d cl dl is dis same = one_seed c d dl.seed cs differ (subst (λ s. Among (c, s) cs) same (in_table cs c cl is)) (in_table cs d dl dis)

unused_away : (s : ℕ) (used ss : List ℕ) → AreUnused used ss → Among s ss → IsAway s used
unused_away s used [] all is = absurd is
unused_away s used (x ∷ ss) all (inl e) = subst (λ y. IsAway y used) (sym e) all.0
unused_away s used (x ∷ ss) all (inr is) = unused_away s used ss all.1 is

-- a tag of the start is of no client's seed
pub start_seed : (σ : Full) (m : Keys) (used : List ℕ) (cs : List (ℕ × ℕ)) (t b : Bytes) → IsSoundStart σ.names m used → IsTable cs used → HasEnvelope σ.names m t b → (c : ℕ) (cl : Client) → get (table cs) c ≡ Some cl → (j : ℕ) → t ≡ σ.names.tag cl.seed j → ⊥
start_seed σ m used cs t b fit clients st c cl is j e =
    let k = fit.known t (start_some σ m used fit t b st) in
    let same : k.0 ≡ cl.seed = (σ.laws.tag_parts k.0 k.1 cl.seed j (subst (λ x. σ.names.is_tag x ≡ true) k.3 (start_tag σ m used fit t b st)) (sym k.3 ∙ e)).0 in
    not_away cl.seed used (unused_away cl.seed used (seeds cs) clients.unused (seed_there c cl.seed cs (in_table cs c cl is))) (subst (λ s. Among s used) same k.2)
