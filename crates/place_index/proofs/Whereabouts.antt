-- The place that is read off what was gathered is the defined one.
use Rattle.std.proofs.Common.{◌≡◌, ℕ, zero, suc, ◌+◌, ◌<◌, ◌^◌, List, [], ◌∷◌, ◌++◌, Bool, true, false, cond, ◌&&◌, ◌||◌, ◌==◌, if◌then◌else◌, refl, sym, ap, subst, ◌∙◌, arith, map, Option, None, Some, option_map, is_some, T, append_assoc}
use Rattle.std.proofs.lemmas.Cmp.{nat_cmp_total}
use Rattle.std.specs.Ordering.{nat_cmp, eq_by_cmp}
use Rattle.std.specs.FinMap.{FinMap, empty, entries, entries-from_sorted, entries_sorted, from_sorted, get, get-empty, get-entries, get-from_sorted, nat_cmp-IsAntisymmetric, same_map}
use Rattle.std.specs.FinMap.Entries.{below_all, find, is_sorted}
use Rattle.store_tables.proofs.Maps.{bytes_total, bytes_anti}
use Rattle.wire_values.specs.Order.{bytes_cmp}
use Rattle.store_model.specs.Keys.{value_of}
use Rattle.store_model.specs.declared.held.Held.{Held}
use Rattle.store_model.specs.declared.held.Stored.{Stored}
use Rattle.store_model.specs.declared.held.Stored.TheVariants.{Items}
use Rattle.delivery_tags.specs.Tags.{tag_of_text}
use Rattle.place_model.specs.Counts.{copy_weight, direct_pushes, end_weight, has_field, hand_weight, in_held, in_value, is_field, is_member, loss_weight, over_clients, start_count, tagged, total}
use Rattle.place_model.specs.Histories.{Client, History, SystemState, after}
use Rattle.delivery_tags.specs.Tags.{tag_text}
use Rattle.message_acts.specs.Numbers.{has, listed, number_told, times}
use Rattle.place_walk.specs.Seats.{hands, seat_of}
use Rattle.command_blocks.specs.EnvelopeTexts.{plain_setting}
use Rattle.place_index.specs.Kept.{is_kept}
use Rattle.place_index.specs.Standing.{standing_in, told_at, told_in, told_under}
use Rattle.place_index.specs.Places.{first_of, listed_place, place_by, single_place}
use Rattle.queue_keys.specs.Names.{Bytes, same}
use Rattle.place_model.specs.PlaceOf.{by_counts, first_place, first_with, if_any, list_place, or_place, pick, place_of}
use Rattle.place_model.specs.Seen.{seen, tag_weight}
use Rattle.command_blocks.specs.Setting.{Setting}
use Rattle.place_model.specs.declared.heard.Heard.{Heard}
use Rattle.place_model.specs.declared.place.Place.{Place}
use Rattle.place_model.specs.declared.place.Place.TheVariants.{Unacked, Hand, Ended, Lost, Never}
use Rattle.place_walk.specs.declared.seat.ClientSeat.{ClientSeat}
use Rattle.place_walk.specs.declared.walk.HistoryWalk.{HistoryWalk}
use Rattle.place_walk.specs.Gathered.{IsWalkOf, positive}
use Rattle.place_walk.proofs.Gathers.{is_number, positive-plus, positive-times}
use Rattle.place_walk.proofs.Numbers.{text_tells}
use Rattle.place_walk.proofs.Walks.{Follows}
use Rattle.place_walk.proofs.Weighs.{weight_is}

-- ---- choices

pick_is : {K : Type 0} (n : ℕ) (k : K) (later : Option K) → pick n k later ≡ (if positive n then Some k else later)
pick_is zero k later = refl
pick_is (suc n) k later = refl

any_is : (n : ℕ) (here later : Place) → if_any n here later ≡ (if positive n then here else later)
any_is zero here later = refl
any_is (suc n) here later = refl

copies_are : (n c : ℕ) (p : Place) → by_counts n c p ≡ by_counts n (if positive c then 1 else 0) p
copies_are zero c p = refl
copies_are (suc zero) zero p = refl
copies_are (suc zero) (suc c) p = refl
copies_are (suc (suc n)) c p = refl

positive_one : (b : Bool) → positive (if b then 1 else 0) ≡ b
positive_one true = refl
positive_one false = refl

-- ---- the entries of the seats

seat_entry : Setting → ℕ × Client → ℕ × ClientSeat
seat_entry σ e = (e.0, seat_of σ e.1)

below-map : (σ : Setting) (k : ℕ) (es : List (ℕ × Client)) → below_all nat_cmp k (map (seat_entry σ) es) ≡ below_all nat_cmp k es
unfolding seat_entry
below-map σ k [] = refl
below-map σ k (e ∷ es) = ap (λ b. Rattle.std.specs.Ordering.is_lt (nat_cmp k e.0) && b) (below-map σ k es)

sorted-map : (σ : Setting) (es : List (ℕ × Client)) → is_sorted nat_cmp (map (seat_entry σ) es) ≡ is_sorted nat_cmp es
unfolding seat_entry
sorted-map σ [] = refl
sorted-map σ (e ∷ es) = ap (λ b. b && is_sorted nat_cmp (map (seat_entry σ) es)) (below-map σ e.0 es) ∙ ap (λ b. below_all nat_cmp e.0 es && b) (sorted-map σ es)

find-map : (σ : Setting) (q : ℕ) (es : List (ℕ × Client)) → find nat_cmp q (map (seat_entry σ) es) ≡ option_map (seat_of σ) (find nat_cmp q es)
unfolding seat_entry
find-map σ q [] = refl
find-map σ q (e ∷ es) = go (eq_by_cmp nat_cmp q e.0) (find-map σ q es)
  where
    go : (b : Bool) → find nat_cmp q (map (seat_entry σ) es) ≡ option_map (seat_of σ) (find nat_cmp q es) → cond b (Some (seat_of σ e.1)) (find nat_cmp q (map (seat_entry σ) es)) ≡ option_map (seat_of σ) (cond b (Some e.1) (find nat_cmp q es))
    go true i = refl
    go false i = i

seats_listed : (σ : Setting) (m : FinMap nat_cmp ClientSeat) (w : FinMap nat_cmp Client) → ((c : ℕ) → get m c ≡ option_map (seat_of σ) (get w c)) → entries m ≡ map (seat_entry σ) (entries w)
seats_listed σ m w h =
    let es = map (seat_entry σ) (entries w) in
    let s : T (is_sorted nat_cmp es) = subst (λ b. T b) (sym (sorted-map σ (entries w))) (entries_sorted w) in
    let e : m ≡ from_sorted {R = nat_cmp} es = same_map nat_cmp_total nat_cmp-IsAntisymmetric m (from_sorted {R = nat_cmp} es) (λ q.
    h q ∙ ap (option_map (seat_of σ)) (get-entries w q) ∙ sym (find-map σ q (entries w)) ∙ sym (get-from_sorted nat_cmp es q s)) in
    ap entries e ∙ entries-from_sorted nat_cmp es s

module _ (σ : Setting) (t : ℕ) (x : Bytes) (tells : (u : Bytes) → same u x ≡ is_number t (tag_of_text u)) where
  -- a message that is told first, or not
  if_listed : {A : Type 0} (o : Option ℕ) (p : A) (rest : List (ℕ × A)) → first_of t (map (λ n. (n, p)) (listed o) ++ rest) ≡ (if has t (listed o) then Some p else first_of t rest)
  if_listed None p rest = refl
  if_listed (Some n) p rest = go (n == t)
    where
      go : (b : Bool) → (if b then Some p else first_of t rest) ≡ (if (b || false) then Some p else first_of t rest)
      go true = refl
      go false = refl

  weighs : (o : Option Bytes) → has t (listed (number_told o)) ≡ positive (tag_weight x o)
  weighs o = sym (positive-times t (listed (number_told o))) ∙ ap positive (sym (weight_is σ t x tells o))

  -- ---- lists

  first_told : (p : Bytes × ℕ) (vs : List Bytes) (rest : List (ℕ × (Bytes × ℕ))) → first_of t (told_at σ p vs ++ rest) ≡ (if positive (tagged σ x vs) then Some p else first_of t rest)
  first_told p [] rest = refl
  first_told p (v ∷ vs) rest =
      let o = number_told (σ.tag_of v) in
      ap (first_of t) (append_assoc (map (λ n. (n, p)) (listed o)) (told_at σ p vs) rest)
      ∙ if_listed o p (told_at σ p vs ++ rest)
      ∙ ap (λ b. if b then Some p else first_of t (told_at σ p vs ++ rest)) (weighs (σ.tag_of v))
      ∙ ap (λ q. if positive (tag_weight x (σ.tag_of v)) then Some p else q) (first_told p vs rest)
      ∙ both (positive (tag_weight x (σ.tag_of v))) (positive (tagged σ x vs))
      ∙ ap (λ b. if b then Some p else first_of t rest) (sym (positive-plus (tag_weight x (σ.tag_of v)) (tagged σ x vs)))
    where
      both : (a b : Bool) → (if a then Some p else if b then Some p else first_of t rest) ≡ (if (a || b) then Some p else first_of t rest)
      both true b = refl
      both false b = refl

  list_told : (es : List (Bytes × Held)) (later : Place) → or_place (λ k. list_place (σ.split k)) (first_with (in_held σ x) es) later ≡ or_place listed_place (first_of t (standing_in σ es)) later
  list_told [] later = refl
  list_told (e ∷ es) later = by (σ.split e.0) refl (list_told es later)
    where
      rest : Option Bytes
      rest = first_with (in_held σ x) es

      chosen : (p : Bytes × ℕ) (b : Bool) → σ.split e.0 ≡ Some p → or_place (λ k. list_place (σ.split k)) (first_with (in_held σ x) es) later ≡ or_place listed_place (first_of t (standing_in σ es)) later
          → or_place (λ k. list_place (σ.split k)) (if b then Some e.0 else first_with (in_held σ x) es) later ≡ or_place listed_place (if b then Some p else first_of t (standing_in σ es)) later
      chosen p true s i = ap list_place s
      chosen p false s i = i

      value : (p : Bytes × ℕ) (v : Stored) → σ.split e.0 ≡ Some p → or_place (λ k. list_place (σ.split k)) (first_with (in_held σ x) es) later ≡ or_place listed_place (first_of t (standing_in σ es)) later
          → or_place (λ k. list_place (σ.split k)) (pick (in_value σ x v) e.0 (first_with (in_held σ x) es)) later ≡ or_place listed_place (first_of t (told_in σ p v ++ standing_in σ es)) later
      value p (Items vs) s i =
          ap (λ q. or_place (λ k. list_place (σ.split k)) q later) (pick_is (tagged σ x vs) e.0 (first_with (in_held σ x) es))
          ∙ chosen p (positive (tagged σ x vs)) s i
          ∙ ap (λ q. or_place listed_place q later) (sym (first_told p vs (standing_in σ es)))
      value p other s i = i

      by : (o : Option (Bytes × ℕ)) → σ.split e.0 ≡ o → or_place (λ k. list_place (σ.split k)) (first_with (in_held σ x) es) later ≡ or_place listed_place (first_of t (standing_in σ es)) later
          → or_place (λ k. list_place (σ.split k)) (pick (if is_some (σ.split e.0) then in_value σ x e.1.value else 0) e.0 (first_with (in_held σ x) es)) later ≡ or_place listed_place (first_of t (told_under σ (σ.split e.0) e.1 ++ standing_in σ es)) later
      by None s i = rw s i
      by (Some p) s i = subst (λ o. or_place (λ k. list_place (σ.split k)) (pick (if is_some o then in_value σ x e.1.value else 0) e.0 (first_with (in_held σ x) es)) later ≡ or_place listed_place (first_of t (told_under σ o e.1 ++ standing_in σ es)) later) (sym s) (value p e.1.value s i)

  -- ---- hands

  hand_told : (es : List (ℕ × Client)) → first_with (hand_weight σ x) es ≡ first_of t (hands false (map (seat_entry σ) es))
  unfolding seat_entry
  hand_told [] = refl
  hand_told (e ∷ es) = by e.1.stopped (hand_told es)
    where
      by : (b : Bool) → first_with (hand_weight σ x) es ≡ first_of t (hands false (map (seat_entry σ) es))
          → pick (if b then 0 else tag_weight x (seen σ e.1.calls).hand) e.0 (first_with (hand_weight σ x) es)
          ≡ first_of t (map (λ n. (n, e.0)) (listed (if b then (if false then number_told (seen σ e.1.calls).hand else None) else (if false then None else number_told (seen σ e.1.calls).hand))) ++ hands false (map (seat_entry σ) es))
      by true i = i
      by false i =
          let o = (seen σ e.1.calls).hand in
          pick_is (tag_weight x o) e.0 (first_with (hand_weight σ x) es)
          ∙ ap (λ b. if b then Some e.0 else first_with (hand_weight σ x) es) (sym (weighs o))
          ∙ ap (λ q. if has t (listed (number_told o)) then Some e.0 else q) i
          ∙ sym (if_listed (number_told o) e.0 (hands false (map (seat_entry σ) es)))

  loss_told : (es : List (ℕ × Client)) → first_with (loss_weight σ x) es ≡ first_of t (hands true (map (seat_entry σ) es))
  unfolding seat_entry
  loss_told [] = refl
  loss_told (e ∷ es) = by e.1.stopped (loss_told es)
    where
      by : (b : Bool) → first_with (loss_weight σ x) es ≡ first_of t (hands true (map (seat_entry σ) es))
          → pick (if b then tag_weight x (seen σ e.1.calls).hand else 0) e.0 (first_with (loss_weight σ x) es)
          ≡ first_of t (map (λ n. (n, e.0)) (listed (if b then (if true then number_told (seen σ e.1.calls).hand else None) else (if true then None else number_told (seen σ e.1.calls).hand))) ++ hands true (map (seat_entry σ) es))
      by false i = i
      by true i =
          let o = (seen σ e.1.calls).hand in
          pick_is (tag_weight x o) e.0 (first_with (loss_weight σ x) es)
          ∙ ap (λ b. if b then Some e.0 else first_with (loss_weight σ x) es) (sym (weighs o))
          ∙ ap (λ q. if has t (listed (number_told o)) then Some e.0 else q) i
          ∙ sym (if_listed (number_told o) e.0 (hands true (map (seat_entry σ) es)))

  -- ---- the first place

  first_is : (w : SystemState) (k : HistoryWalk) → Follows σ t x w k → first_place σ w x ≡ single_place t k (standing_in σ (entries w.store.keys)) (is_field σ w.store.keys x && is_member σ w.store.keys x)
  first_is w k f =
      let told = standing_in σ (entries w.store.keys) in
      let kept = is_field σ w.store.keys x && is_member σ w.store.keys x in
      let es = seats_listed σ k.seats w.clients f.seats in
      let h : first_with (hand_weight σ x) (entries w.clients) ≡ first_of t (hands false (entries k.seats)) = hand_told (entries w.clients) ∙ ap (λ l. first_of t (hands false l)) (sym es) in
      let l : first_with (loss_weight σ x) (entries w.clients) ≡ first_of t (hands true (entries k.seats)) = loss_told (entries w.clients) ∙ ap (λ l. first_of t (hands true l)) (sym es) in
      let ended = over_clients w (end_weight σ x) in
      let lost = or_place Lost (first_of t (hands true (entries k.seats))) Never in
      let end_or_lost : if_any ended Ended (or_place Lost (first_with (loss_weight σ x) (entries w.clients)) Never) ≡ (if has t k.ended then Ended else lost) =
      ap (λ q. if_any ended Ended (or_place Lost q Never)) l ∙ any_is ended Ended lost ∙ ap (λ b. if b then Ended else lost) f.ended in
      let later = or_place Hand (first_of t (hands false (entries k.seats))) (if has t k.ended then Ended else lost) in
      list_told (entries w.store.keys) _
      ∙ ap (or_place listed_place (first_of t told))
      (any_is (if kept then 1 else 0) Unacked _
      ∙ ap (λ b. if b then Unacked else or_place Hand (first_with (hand_weight σ x) (entries w.clients)) (if_any ended Ended (or_place Lost (first_with (loss_weight σ x) (entries w.clients)) Never))) (positive_one kept)
      ∙ ap (λ q. if kept then Unacked else q)
      (ap (λ q. or_place Hand q (if_any ended Ended (or_place Lost (first_with (loss_weight σ x) (entries w.clients)) Never))) h
      ∙ ap (or_place Hand (first_of t (hands false (entries k.seats)))) end_or_lost))

  -- ---- the place

  nothing_listed : total (in_held σ x) (entries (empty {X = Held} {R = bytes_cmp})) ≡ 0
  nothing_listed = ap (λ m. total (in_held σ x) (entries m)) (sym same) ∙ ap (total (in_held σ x)) (entries-from_sorted bytes_cmp [] tt)
    where
      same : from_sorted {R = bytes_cmp} [] ≡ empty {X = Held}
      same = same_map bytes_total bytes_anti _ _ (λ q. get-from_sorted bytes_cmp [] q tt ∙ sym (get-empty bytes_cmp q))

  no_start : start_count σ empty x ≡ 0
  no_start = ap (λ n. n + (if is_field σ empty x then 1 else 0)) nothing_listed ∙ ap (λ o. 0 + (if has_field (value_of o) x then 1 else 0)) (get-empty bytes_cmp σ.unacked)

  pub place_is : (h : History Heard) (k : HistoryWalk) → h.start ≡ empty → Follows σ t x (after h) k → place_of σ h x ≡ place_by t k (standing_in σ (entries (after h).store.keys)) (is_field σ (after h).store.keys x && is_member σ (after h).store.keys x)
  place_is h k e f =
      let w = after h in
      let told = standing_in σ (entries w.store.keys) in
      let kept = is_field σ w.store.keys x && is_member σ w.store.keys x in
      let copied = over_clients w (copy_weight σ x) in
      let n : start_count σ h.start x + direct_pushes σ w x ≡ times t k.pushes =
      ap (λ m. start_count σ m x + direct_pushes σ w x) e ∙ ap (λ m. m + direct_pushes σ w x) no_start ∙ zero_plus (direct_pushes σ w x) ∙ f.pushes in
      ap (λ m. by_counts m copied (first_place σ w x)) n
      ∙ copies_are (times t k.pushes) copied (first_place σ w x)
      ∙ ap (λ b. by_counts (times t k.pushes) (if b then 1 else 0) (first_place σ w x)) f.copied
      ∙ ap (by_counts (times t k.pushes) (if has t k.copied then 1 else 0)) (first_is w k f)
    where
      zero_plus : (n : ℕ) → 0 + n ≡ n
      zero_plus n = omega arith

-- the place of a tag after a history that begins with no key is read off the walk, the lists of queues and the table
pub places_are : (h : History Heard) (k : HistoryWalk) (t : ℕ) → IsWalkOf h k → t < 2 ^ 128 → h.start ≡ empty
    → place_of plain_setting h (tag_text t) ≡ place_by t k (standing_in plain_setting (entries (after h).store.keys)) (is_kept (after h).store.keys t)
places_are h k t i fits e =
    place_is plain_setting t (tag_text t) (text_tells t fits) h k e (record {
      seats = i.seats;
      pushes = sym (i.pushes t fits);
      ended = sym (i.ended t fits);
      copied = sym (i.copied t fits);
    })
