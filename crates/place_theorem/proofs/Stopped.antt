-- A stop moves one message at most, from its client's hand to what is lost with it.
use Rattle.std.proofs.Common.{◌+◌, None, Option, Some, [], ap, arith, cond, false, inl, inr, nat_cmp, refl, subst, suc, sym, true, zero, ℕ, ◌∙◌, ◌∷◌, ◌≡◌, ◌≢◌, ◌≤◌, ◌⊎◌}
use Rattle.std.proofs.lemmas.Cmp.{nat_cmp_total}
use Rattle.std.specs.FinMap.{entries, get, insert, nat_cmp-IsAntisymmetric}
use Rattle.store_model.specs.Keys.{Keys}
use Rattle.store_model.specs.Store.{gone_of}
use Rattle.store_laws.proofs.Maps.{get-insert_same}
use Rattle.place_model.specs.Counts.{copy_count, copy_weight, direct_pushes, end_weight, hand_weight, in_held, loss_weight, over_clients, place_count, push_weight, start_count, table_count, total}
use Rattle.place_model.specs.Histories.{Client, History, IsHistoryPrefix, SystemState, after, and_then, start_from, with_client}
use Rattle.queue_keys.specs.Names.{Bytes}
use Rattle.place_model.specs.PlaceOf.{StopMoves, by_counts, first_place, first_with, if_any, list_place, or_place}
use Rattle.place_model.specs.Seen.{seen, tag_weight}
use Rattle.place_model.specs.Starts.{IsSound}
use Rattle.place_model.specs.declared.history.Entry.TheVariants.{Stop}
use Rattle.place_model.specs.declared.place.Place.{Place}
use Rattle.place_model.specs.declared.place.Place.TheVariants.{Ended, Hand, Lost, Never, Unacked}
use Rattle.place_theorem.proofs.First.{first_none, first_only, first_same}
use Rattle.place_theorem.proofs.Full.{Full}
use Rattle.place_theorem.proofs.Kept.{Inv, part, stopped_is, sums}
use Rattle.place_theorem.proofs.Sound.{after-append, entry_of}
use Rattle.place_theorem.proofs.Transactions.{tag_other, tag_self}
use Rattle.place_theorem.proofs.Values.{text_or}

pick_any : (n : ℕ) (a b : Place) → n ≡ 0 → if_any n a b ≡ b
pick_any zero a b e = refl
pick_any (suc n) a b e = absurd (omega (arith, e))

by_parts : (n k : ℕ) (p q : Place) → ((n ≡ 1) → (k ≡ 0) → p ≡ q) → by_counts n k p ≡ by_counts n k q
by_parts zero k p q h = refl
by_parts (suc zero) zero p q h = h refl refl
by_parts (suc zero) (suc k) p q h = refl
by_parts (suc (suc n)) k p q h = refl

-- accepted once, and not copied; or nothing depends on where it is
single_or : (n k : ℕ) → ((n ≡ 1) × (k ≡ 0)) ⊎ ((p q : Place) → by_counts n k p ≡ by_counts n k q)
single_or zero k = inr (λ p q. refl)
single_or (suc zero) zero = inl (refl, refl)
single_or (suc zero) (suc k) = inr (λ p q. refl)
single_or (suc (suc n)) k = inr (λ p q. refl)

-- the place of a tag in a world that began with these keys
abbrev pub place_at : Full → Keys → SystemState → Bytes → Place
place_at σ m w t = by_counts (start_count σ.names m t + direct_pushes σ.names w t) (copy_count σ.names w t) (first_place σ.names w t)

module _ (σ : Full) (m : Keys) (w : SystemState) (inv : Inv σ (start_count σ.names m) w) (c : ℕ) (cl : Client) (known : get w.clients c ≡ Some cl) (runs_on : cl.stopped ≡ false) where
  -- the client, stopped
  abbrev pub new : Client
  new = record { seed = cl.seed; calls = cl.calls; stopped = true }

  -- the world without its connection
  abbrev pub after_stop : SystemState
  after_stop = with_client (gone_of w.store c) w c new

  hand_before : (t : Bytes) → hand_weight σ.names t c cl ≡ tag_weight t (seen σ.names cl.calls).hand
  hand_before t = ap (λ b. cond b 0 (tag_weight t (seen σ.names cl.calls).hand)) runs_on

  loss_before : (t : Bytes) → loss_weight σ.names t c cl ≡ 0
  loss_before t = ap (λ b. cond b (tag_weight t (seen σ.names cl.calls).hand) 0) runs_on

  again : (f : ℕ → Client → ℕ) → f c new ≡ f c cl → first_with f (entries (insert w.clients c new)) ≡ first_with f (entries w.clients)
  again f e = first_same nat_cmp nat_cmp_total nat_cmp-IsAntisymmetric f w.clients c cl new known e

  total_again : (f : ℕ → Client → ℕ) → f c new ≡ f c cl → over_clients after_stop f ≡ over_clients w f
  total_again f e = let s = sums σ (start_count σ.names m) w inv c cl known runs_on f new in omega (arith, s, e)

  -- another tag
  else_same : (t : Bytes) → tag_weight t (seen σ.names cl.calls).hand ≡ 0 → first_place σ.names after_stop t ≡ first_place σ.names w t
  else_same t none =
      let h : first_with (hand_weight σ.names t) (entries (insert w.clients c new)) ≡ first_with (hand_weight σ.names t) (entries w.clients) = again (hand_weight σ.names t) (sym (hand_before t ∙ none)) in
      let l : first_with (loss_weight σ.names t) (entries (insert w.clients c new)) ≡ first_with (loss_weight σ.names t) (entries w.clients) = again (loss_weight σ.names t) (none ∙ sym (loss_before t)) in
      let e : over_clients after_stop (end_weight σ.names t) ≡ over_clients w (end_weight σ.names t) = total_again (end_weight σ.names t) refl in
      λ i. or_place (λ k. list_place (σ.names.split k)) (first_with (in_held σ.names t) (entries w.store.keys)) (if_any (table_count σ.names w.store.keys t) Unacked (or_place Hand (h i) (if_any (e i) Ended (or_place Lost (l i) Never))))

  known_same : (t : Bytes) → start_count σ.names m t + direct_pushes σ.names after_stop t ≡ start_count σ.names m t + direct_pushes σ.names w t
  known_same t = ap (λ n. start_count σ.names m t + n) (total_again (push_weight σ.names t) refl)

  copies_same : (t : Bytes) → copy_count σ.names after_stop t ≡ copy_count σ.names w t
  copies_same t = total_again (copy_weight σ.names t) refl

  to_now : (t : Bytes) (p : Place) → by_counts (start_count σ.names m t + direct_pushes σ.names after_stop t) (copy_count σ.names after_stop t) p ≡ by_counts (start_count σ.names m t + direct_pushes σ.names w t) (copy_count σ.names w t) p
  to_now t p = λ i. by_counts (known_same t i) (copies_same t i) p

  -- the tag in hand
  module _ (t : Bytes) (hand : (seen σ.names cl.calls).hand ≡ Some t) (once : start_count σ.names m t + direct_pushes σ.names w t ≡ 1) (no_copy : copy_count σ.names w t ≡ 0) where
    held : tag_weight t (seen σ.names cl.calls).hand ≡ 1
    held = ap (tag_weight t) hand ∙ tag_self t

    all : place_count σ.names w t ≡ 1
    all = let e = inv.placed t (omega (arith, once)) no_copy in omega (arith, e, once)

    here : hand_weight σ.names t c cl ≤ over_clients w (hand_weight σ.names t)
    here = part σ (start_count σ.names m) w inv c cl known runs_on (hand_weight σ.names t)

    no_list : total (in_held σ.names t) (entries w.store.keys) ≡ 0
    no_list = omega (arith, all, here, hand_before t, held)

    no_table : table_count σ.names w.store.keys t ≡ 0
    no_table = omega (arith, all, here, hand_before t, held)

    no_end : over_clients w (end_weight σ.names t) ≡ 0
    no_end = omega (arith, all, here, hand_before t, held)

    one_hand : over_clients w (hand_weight σ.names t) ≡ 1
    one_hand = omega (arith, all, here, hand_before t, held)

    no_loss : over_clients w (loss_weight σ.names t) ≡ 0
    no_loss = omega (arith, all, here, hand_before t, held)

    before : first_place σ.names w t ≡ Hand c
    before =
        (λ i. or_place (λ k. list_place (σ.names.split k)) (first_none (in_held σ.names t) (entries w.store.keys) no_list i) (if_any (table_count σ.names w.store.keys t) Unacked
        (or_place Hand (first_only nat_cmp nat_cmp_total nat_cmp-IsAntisymmetric (hand_weight σ.names t) w.clients c cl known (hand_before t ∙ held) one_hand i) (if_any (over_clients w (end_weight σ.names t)) Ended (or_place Lost (first_with (loss_weight σ.names t) (entries w.clients)) Never)))))
        ∙ pick_any (table_count σ.names w.store.keys t) Unacked (Hand c) no_table

    hands_then : over_clients after_stop (hand_weight σ.names t) ≡ 0
    hands_then = let s = sums σ (start_count σ.names m) w inv c cl known runs_on (hand_weight σ.names t) new in omega (arith, s, one_hand, hand_before t, held)

    losses_then : over_clients after_stop (loss_weight σ.names t) ≡ 1
    losses_then = let s = sums σ (start_count σ.names m) w inv c cl known runs_on (loss_weight σ.names t) new in omega (arith, s, no_loss, loss_before t, held)

    ends_then : over_clients after_stop (end_weight σ.names t) ≡ 0
    ends_then = total_again (end_weight σ.names t) refl ∙ no_end

    then_lost : first_place σ.names after_stop t ≡ Lost c
    then_lost =
        (λ i. or_place (λ k. list_place (σ.names.split k)) (first_none (in_held σ.names t) (entries w.store.keys) no_list i) (if_any (table_count σ.names w.store.keys t) Unacked
        (or_place Hand (first_none (hand_weight σ.names t) (entries (insert w.clients c new)) hands_then i) (if_any (over_clients after_stop (end_weight σ.names t)) Ended
        (or_place Lost (first_only nat_cmp nat_cmp_total nat_cmp-IsAntisymmetric (loss_weight σ.names t) (insert w.clients c new) c new (get-insert_same nat_cmp nat_cmp_total nat_cmp-IsAntisymmetric w.clients c new) held losses_then i) Never)))))
        ∙ pick_any (table_count σ.names w.store.keys t) Unacked _ no_table
        ∙ pick_any (over_clients after_stop (end_weight σ.names t)) Ended (Lost c) ends_then

  abbrev MovedOne : Bytes → Type 0
  MovedOne t = (place_at σ m after_stop t ≡ place_at σ m w t) ⊎ (((seen σ.names cl.calls).hand ≡ Some t) × (place_at σ m w t ≡ Hand c) × (place_at σ m after_stop t ≡ Lost c))

  moves_one : (t : Bytes) → MovedOne t
  moves_one t = go (seen σ.names cl.calls).hand refl
    where
      stays : tag_weight t (seen σ.names cl.calls).hand ≡ 0 → MovedOne t
      stays none = inl (to_now t (first_place σ.names after_stop t) ∙ ap (by_counts (start_count σ.names m t + direct_pushes σ.names w t) (copy_count σ.names w t)) (else_same t none))

      mine : (seen σ.names cl.calls).hand ≡ Some t → MovedOne t
      mine hand = elim (single_or (start_count σ.names m t + direct_pushes σ.names w t) (copy_count σ.names w t)) [
        | inl one ↦ inr (
          hand,
          ((λ i. by_counts (one.0 i) (one.1 i) (first_place σ.names w t)) ∙ before t hand one.0 one.1),
          (to_now t (first_place σ.names after_stop t) ∙ (λ i. by_counts (one.0 i) (one.1 i) (first_place σ.names after_stop t)) ∙ then_lost t hand one.0 one.1),
        )
        | inr any ↦ inl (to_now t (first_place σ.names after_stop t) ∙ any (first_place σ.names after_stop t) (first_place σ.names w t))
      ]

      split : (x : Bytes) → (seen σ.names cl.calls).hand ≡ Some x → (t ≡ x) ⊎ (t ≢ x) → MovedOne t
      split x is (inl e) = mine (is ∙ ap (λ y. Some y) (sym e))
      split x is (inr n) = stays (ap (tag_weight t) is ∙ tag_other t x n)

      go : (o : Option Bytes) → (seen σ.names cl.calls).hand ≡ o → MovedOne t
      go None is = stays (ap (tag_weight t) is)
      go (Some x) is = split x is (text_or t x)

  pub stop_moves : (after_stop.store.keys ≡ w.store.keys) × ((hand : Option Bytes) × ((t : Bytes) → (place_at σ m after_stop t ≡ place_at σ m w t) ⊎ ((hand ≡ Some t) × (place_at σ m w t ≡ Hand c) × (place_at σ m after_stop t ≡ Lost c))))
  stop_moves = (refl, ((seen σ.names cl.calls).hand, moves_one))

-- what a stop does after a prefix
pub a_stop : {N : Type 0} (σ : Full) (h p : History N) (c : ℕ) → IsSound σ.names h → IsHistoryPrefix (and_then p (Stop c ∷ [])) h → StopMoves σ.names p c
a_stop {N = N} σ h p c sound pre =
    let q : History N = and_then p (Stop c ∷ []) in
    let e = entry_of σ h p (Stop c) sound pre in
    let w' = with_client (gone_of (after p).store c) (after p) c (record e.1.0 { stopped = true }) in
    let is : after q ≡ w' = after-append (start_from p.start p.clients) p.entries (Stop c ∷ []) ∙ stopped_is σ (start_count σ.names p.start) (after p) e.0 c e.1.0 e.1.1 e.1.2 N in
    subst (λ v. (v.store.keys ≡ (after p).store.keys) × ((hand : Option Bytes) × ((t : Bytes) → (place_at σ p.start v t ≡ place_at σ p.start (after p) t) ⊎ ((hand ≡ Some t) × (place_at σ p.start (after p) t ≡ Hand c) × (place_at σ p.start v t ≡ Lost c)))))
    (sym is) (stop_moves σ p.start (after p) e.0 c e.1.0 e.1.1 e.1.2)
