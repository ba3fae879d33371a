-- Answers lead where the machine lets them lead.
use Rattle.std.proofs.Common.{arith, ◌≡◌, ◌⊎◌, inl, inr, ℕ, suc, [], ◌∷◌, Bool, true, false, not, ◌==◌, refl, sym, ap, subst, ◌∙◌, None, Some, Option, nat_lt, codes}
use Rattle.std.specs.Prelude.{bytes_eq, is_some, option_map, if◌then◌else◌}
use Rattle.std.proofs.lemmas.Bool.Decides.{nat_tests}
use Rattle.wire_values.specs.Layer.{layer}
use Rattle.wire_values.specs.declared.value.Value.{Value}
use Rattle.wire_values.specs.declared.value.Value.TheVariants.{Integer, Bulk, NullBulk, Array, NullArray}
use Rattle.store_model.specs.Replies.{done, queued, pair, bulks}
use Rattle.queue_keys.specs.Names.{Bytes}
use Rattle.queue_keys.specs.Texts.{token}
use Rattle.command_blocks.specs.Answers.{integers, number_of, bulk_of, items_of, pair_of, is_error}
use Rattle.command_blocks.specs.Setting.{Setting}
use Rattle.command_blocks.specs.ReturnBlocks.{Carries}
use Rattle.command_blocks.specs.PassBlocks.{tags_among}
use Rattle.manner_laws.specs.Spots.{Job, job_tag, Spot, Free, Listed, Waiting, Leaving, Asking, Locked, Turning, Release_own, Release_foreign, finished, gave_up, routed, Ask, Count, Consent, Queueing, Counts, Anything, Bindings, Message, Entry, Routes, Move, Lock, Due, Holder, Release}
use Rattle.manner_laws.specs.Machine.{TellsSpot, Counted, Consented, Was_queued, Counted_both, Answered, Bound, Nothing_there, Unreadable, Readable, Missing, Useless, Unnamed, Named, Looked_up, Moved, Failed, Contended, Taken, Given, Members, Own, Foreign, Nobody, Released, Altered}
use Rattle.manner_laws.specs.Cursor.{is_text, is_status, is_null_bulk, is_null_array, are_integers, are_two_integers, bulk_texts_of, spot_if, popped_spot, if_tagged, read_spot, entry_spot, failed_spot, holder_spot, spot_after}
use Rattle.manner_laws.proofs.Tests.{false_true, none_some, some_parts, bytes_itself, bytes_true, bytes_false, not_true, not_false, split, pick_true, pick_false, is_text_is, is_text-Some, lt_true, true_lt, spot_if_is, spot_if-true, mapped}
use Rattle.manner_laws.proofs.Values.{status_is, null_bulk_is, null_array_is, bulk_is, number_of-Integer, bulk_of-Bulk, items_of-Array, is_status-Status, null_bulk_itself, null_array_itself, is_null_bulk-Bulk, is_null_bulk-Status, is_null_array-Array, some_number, some_items, are_integers_are, are_integers-integers, are_two_are, are_two_integers-integers, texts_are, texts_of-bulks, pair_is, pair_of-pair}

seven : (k : ℕ) → (k == 7) ≡ true → k ≡ 7
seven k e = grind (arith, nat_tests)

is_seven : (k : ℕ) → k ≡ 7 → (k == 7) ≡ true
is_seven k e = grind (arith, nat_tests)

not_below : (k : ℕ) → k ≡ 7 → nat_lt k 7 ≡ false
not_below k e = grind (arith, nat_tests)

module _ (σ : Setting) (s : ℕ) where
  -- ---- where answers lead, the machine lets them

  popped_is : (n p : ℕ) (q v : Bytes) (o : Option Bytes) → σ.tag_of v ≡ o → TellsSpot σ s (Message n p) (pair q v) (popped_spot n p v o)
  popped_is n p q v None e = Unreadable n p q v e
  popped_is n p q v (Some t) e = Readable n p q v t e

  -- an entry carries an envelope of the tag, or none
  carried_is : (u t : Bytes) (o : Option Bytes) → if_tagged σ t (σ.carried u) ≡ o → (((v : Bytes) × (o ≡ Some v) × Carries σ u t v) ⊎ ((o ≡ None) × ((v : Bytes) → Carries σ u t v → ⊥)))
  carried_is u t o h = go (σ.carried u) refl h
    where
      by : (v : Bytes) (b : Bool) → σ.carried u ≡ Some v → is_text t (σ.tag_of v) ≡ b → (if b then Some v else None) ≡ o → (((v : Bytes) × (o ≡ Some v) × Carries σ u t v) ⊎ ((o ≡ None) × ((v : Bytes) → Carries σ u t v → ⊥)))
      by v true is e h = inl (v, sym h, (is, is_text_is t (σ.tag_of v) e))
      by v false is e h = inr (sym h, λ w c. let x : v ≡ w = some_parts v w (sym is ∙ c.0) in false_true (sym e ∙ is_text-Some t (σ.tag_of v) (ap σ.tag_of x ∙ c.1)))

      go : (x : Option Bytes) → σ.carried u ≡ x → if_tagged σ t x ≡ o → (((v : Bytes) × (o ≡ Some v) × Carries σ u t v) ⊎ ((o ≡ None) × ((v : Bytes) → Carries σ u t v → ⊥)))
      go None is h = inr (sym h, λ w c. none_some _ w (sym is ∙ c.0))
      go (Some v) is h = by v (is_text t (σ.tag_of v)) is refl h

  read_is : (n p : ℕ) (j : Job) (k : ℕ) (u v : Bytes) (o : Option Bytes) → Carries σ u (job_tag j) v → σ.exchange_in u ≡ o → TellsSpot σ s (Entry n p j k) (Bulk u) (read_spot σ n p j k u (Some v) o)
  read_is n p j k u v None carries e = Unnamed n p j k u v carries e
  read_is n p j k u v (Some x) carries e = Named n p j k u v x carries e

  entry_is : (n p : ℕ) (j : Job) (k : ℕ) (u : Bytes) → TellsSpot σ s (Entry n p j k) (Bulk u) (entry_spot σ n p j k u)
  entry_is n p j k u = elim (carried_is u (job_tag j) (if_tagged σ (job_tag j) (σ.carried u)) refl) [
    | inl h ↦ subst (λ z. TellsSpot σ s (Entry n p j k) (Bulk u) (read_spot σ n p j k u z (σ.exchange_in u))) (sym h.1) (read_is n p j k u h.0 (σ.exchange_in u) h.2 refl)
    | inr h ↦ subst (λ z. TellsSpot σ s (Entry n p j k) (Bulk u) (read_spot σ n p j k u z (σ.exchange_in u))) (sym h.0) (Useless n p j k u h.1)
  ]

  failed_is : (n p : ℕ) (j : Job) (k : ℕ) (c : Spot) → failed_spot n p j k ≡ Some c → TellsSpot σ s (Move n p j k) NullArray c
  failed_is n p j k c h = elim (split (nat_lt k 7) (Some (Waiting n p j (suc k))) (spot_if (k == 7) (gave_up n p j)) c h) [
    | inl x ↦ subst (TellsSpot σ s (Move n p j k) NullArray) (some_parts (Waiting n p j (suc k)) c x.1) (Failed n p j k (lt_true k 7 x.0))
    | inr x ↦ let y = spot_if_is (k == 7) (gave_up n p j) c x.1 in subst (TellsSpot σ s (Move n p j k) NullArray) y.1 (Contended n p j k (seven k y.0))
  ]

  holder_is : (n p : ℕ) (u : Bytes) → TellsSpot σ s (Holder n p) (Bulk u) (holder_spot s n p u)
  holder_is n p u = go (bytes_eq (token s (suc p)) u) refl
    where
      go : (b : Bool) → bytes_eq (token s (suc p)) u ≡ b → TellsSpot σ s (Holder n p) (Bulk u) (if b then Release_own n p else Release_foreign n p)
      go true e = subst (λ z. TellsSpot σ s (Holder n p) (Bulk z) (Release_own n p)) (bytes_true (token s (suc p)) u e) (Own n p)
      go false e = Foreign n p u (λ x. false_true (sym e ∙ subst (λ z. bytes_eq z u ≡ true) x (bytes_itself u)))

  pub told_is : (q : Ask) (r : Value) (c : Spot) → spot_after σ s q r ≡ Some c → TellsSpot σ s q r c
  told_is (Count d) r c h =
      let x = spot_if_is (is_some (number_of r)) d c h in
      let y = some_number r x.0 in
      subst (λ z. TellsSpot σ s (Count d) z c) (sym y.1) (subst (TellsSpot σ s (Count d) (Integer y.0)) x.1 (Counted d y.0))
  told_is (Consent d) r c h =
      let x = spot_if_is (is_status (codes "OK") (layer r)) d c h in
      subst (λ z. TellsSpot σ s (Consent d) z c) (sym (status_is (codes "OK") r x.0)) (subst (TellsSpot σ s (Consent d) done) x.1 (Consented d))
  told_is (Queueing d) r c h =
      let x = spot_if_is (is_status (codes "QUEUED") (layer r)) d c h in
      subst (λ z. TellsSpot σ s (Queueing d) z c) (sym (status_is (codes "QUEUED") r x.0)) (subst (TellsSpot σ s (Queueing d) queued) x.1 (Was_queued d))
  told_is (Counts d) r c h =
      let x = spot_if_is (are_two_integers (items_of r)) d c h in
      let y = are_two_are r x.0 in
      subst (λ z. TellsSpot σ s (Counts d) z c) (sym y.2) (subst (TellsSpot σ s (Counts d) (integers (y.0 ∷ y.1 ∷ []))) x.1 (Counted_both d y.0 y.1))
  told_is (Anything d) r c h =
      let x = spot_if_is (not (is_error r)) d c h in
      subst (TellsSpot σ s (Anything d) r) x.1 (Answered d r (not_true (is_error r) x.0))
  told_is (Bindings n p e) r c h =
      let x = mapped (λ ms. Listed n p e ms) (bulk_texts_of r) c h in
      subst (λ z. TellsSpot σ s (Bindings n p e) z c) (sym (texts_are r x.0 x.1)) (subst (TellsSpot σ s (Bindings n p e) (bulks x.0)) x.2 (Bound n p e x.0))
  told_is (Message n p) r c h = elim (split (is_null_array (layer r)) (Some (Free n p)) (option_map (λ x. popped_spot n p x.1 (σ.tag_of x.1)) (pair_of r)) c h) [
    | inl x ↦ subst (λ z. TellsSpot σ s (Message n p) z c) (sym (null_array_is r x.0)) (subst (TellsSpot σ s (Message n p) NullArray) (some_parts (Free n p) c x.1) (Nothing_there n p))
    | inr x ↦
        let y = mapped (λ (x : Bytes × Bytes). popped_spot n p x.1 (σ.tag_of x.1)) (pair_of r) c x.1 in
        let z = y.0 in
        subst (λ w. TellsSpot σ s (Message n p) w c) (sym (pair_is r y.0 y.1)) (subst (TellsSpot σ s (Message n p) (pair z.0 z.1)) y.2 (popped_is n p z.0 z.1 (σ.tag_of z.1) refl))
  ]
  told_is (Entry n p j k) r c h = elim (split (is_null_bulk (layer r)) (Some (Leaving n p j)) (option_map (entry_spot σ n p j k) (bulk_of r)) c h) [
    | inl x ↦ subst (λ z. TellsSpot σ s (Entry n p j k) z c) (sym (null_bulk_is r x.0)) (subst (TellsSpot σ s (Entry n p j k) NullBulk) (some_parts (Leaving n p j) c x.1) (Missing n p j k))
    | inr x ↦
        let y = mapped (entry_spot σ n p j k) (bulk_of r) c x.1 in
        subst (λ z. TellsSpot σ s (Entry n p j k) z c) (sym (bulk_is r y.0 y.1)) (subst (TellsSpot σ s (Entry n p j k) (Bulk y.0)) y.2 (entry_is n p j k y.0))
  ]
  told_is (Routes n p j k u v) r c h =
      let x = mapped (λ ms. routed n p j k v (σ.keys_in u ms)) (bulk_texts_of r) c h in
      subst (λ z. TellsSpot σ s (Routes n p j k u v) z c) (sym (texts_are r x.0 x.1)) (subst (TellsSpot σ s (Routes n p j k u v) (bulks x.0)) x.2 (Looked_up n p j k u v x.0))
  told_is (Move n p j k) r c h = elim (split (is_null_array (layer r)) (failed_spot n p j k) (spot_if (are_integers (items_of r)) (finished n p j)) c h) [
    | inl x ↦ subst (λ z. TellsSpot σ s (Move n p j k) z c) (sym (null_array_is r x.0)) (failed_is n p j k c x.1)
    | inr x ↦
        let y = spot_if_is (are_integers (items_of r)) (finished n p j) c x.1 in
        let z = are_integers_are r y.0 in
        subst (λ w. TellsSpot σ s (Move n p j k) w c) (sym z.1) (subst (TellsSpot σ s (Move n p j k) (integers z.0)) y.1 (Moved n p j k z.0))
  ]
  told_is (Lock n p) r c h = elim (split (is_null_bulk (layer r)) (Some (Free n (suc p))) (spot_if (is_status (codes "OK") (layer r)) (Locked n p)) c h) [
    | inl x ↦ subst (λ z. TellsSpot σ s (Lock n p) z c) (sym (null_bulk_is r x.0)) (subst (TellsSpot σ s (Lock n p) NullBulk) (some_parts (Free n (suc p)) c x.1) (Taken n p))
    | inr x ↦
        let y = spot_if_is (is_status (codes "OK") (layer r)) (Locked n p) c x.1 in
        subst (λ z. TellsSpot σ s (Lock n p) z c) (sym (status_is (codes "OK") r y.0)) (subst (TellsSpot σ s (Lock n p) done) y.1 (Given n p))
  ]
  told_is (Due n p) r c h =
      let x = mapped (λ ms. Turning n p (tags_among σ ms)) (bulk_texts_of r) c h in
      subst (λ z. TellsSpot σ s (Due n p) z c) (sym (texts_are r x.0 x.1)) (subst (TellsSpot σ s (Due n p) (bulks x.0)) x.2 (Members n p x.0))
  told_is (Holder n p) r c h = elim (split (is_null_bulk (layer r)) (Some (Release_foreign n p)) (option_map (holder_spot s n p) (bulk_of r)) c h) [
    | inl x ↦ subst (λ z. TellsSpot σ s (Holder n p) z c) (sym (null_bulk_is r x.0)) (subst (TellsSpot σ s (Holder n p) NullBulk) (some_parts (Release_foreign n p) c x.1) (Nobody n p))
    | inr x ↦
        let y = mapped (holder_spot s n p) (bulk_of r) c x.1 in
        subst (λ z. TellsSpot σ s (Holder n p) z c) (sym (bulk_is r y.0 y.1)) (subst (TellsSpot σ s (Holder n p) (Bulk y.0)) y.2 (holder_is n p y.0))
  ]
  told_is (Release n p) r c h = elim (split (is_null_array (layer r)) (Some (Free n (suc p))) (spot_if (is_some (items_of r)) (Free n (suc p))) c h) [
    | inl x ↦ subst (λ z. TellsSpot σ s (Release n p) z c) (sym (null_array_is r x.0)) (subst (TellsSpot σ s (Release n p) NullArray) (some_parts (Free n (suc p)) c x.1) (Altered n p))
    | inr x ↦
        let y = spot_if_is (is_some (items_of r)) (Free n (suc p)) c x.1 in
        let z = some_items r y.0 in
        subst (λ w. TellsSpot σ s (Release n p) w c) (sym z.1) (subst (TellsSpot σ s (Release n p) (Array z.0)) y.1 (Released n p z.0))
  ]

  -- ---- where the machine lets answers lead, they lead

  tagged-carries : (u t v : Bytes) → Carries σ u t v → if_tagged σ t (σ.carried u) ≡ Some v
  tagged-carries u t v c = ap (if_tagged σ t) c.0 ∙ pick_true (is_text t (σ.tag_of v)) (Some v) None v (is_text-Some t (σ.tag_of v) c.1) refl

  entry-useless : (n p : ℕ) (j : Job) (k : ℕ) (u : Bytes) → ((v : Bytes) → Carries σ u (job_tag j) v → ⊥) → entry_spot σ n p j k u ≡ Leaving n p j
  entry-useless n p j k u useless = elim (carried_is u (job_tag j) (if_tagged σ (job_tag j) (σ.carried u)) refl) [
    | inl h ↦ absurd (useless h.0 h.2)
    | inr h ↦ ap (λ z. read_spot σ n p j k u z (σ.exchange_in u)) h.0
  ]

  entry-carries : (n p : ℕ) (j : Job) (k : ℕ) (u v : Bytes) (o : Option Bytes) → Carries σ u (job_tag j) v → σ.exchange_in u ≡ o → entry_spot σ n p j k u ≡ read_spot σ n p j k u (Some v) o
  entry-carries n p j k u v o carries e = λ i. read_spot σ n p j k u (tagged-carries u (job_tag j) v carries i) (e i)

  bulk-led : (n p : ℕ) (j : Job) (k : ℕ) (u : Bytes) (c : Spot) → entry_spot σ n p j k u ≡ c → spot_after σ s (Entry n p j k) (Bulk u) ≡ Some c
  bulk-led n p j k u c e = pick_false (is_null_bulk (layer (Bulk u))) _ (option_map (entry_spot σ n p j k) (bulk_of (Bulk u))) c (is_null_bulk-Bulk u) (ap (option_map (entry_spot σ n p j k)) (bulk_of-Bulk u) ∙ ap (λ (z : Spot). Some z) e)

  holder-led : (n p : ℕ) (u : Bytes) (c : Spot) → holder_spot s n p u ≡ c → spot_after σ s (Holder n p) (Bulk u) ≡ Some c
  holder-led n p u c e = pick_false (is_null_bulk (layer (Bulk u))) _ (option_map (holder_spot s n p) (bulk_of (Bulk u))) c (is_null_bulk-Bulk u) (ap (option_map (holder_spot s n p)) (bulk_of-Bulk u) ∙ ap (λ (z : Spot). Some z) e)

  pair-led : (n p : ℕ) (q v : Bytes) (o : Option Bytes) → σ.tag_of v ≡ o → spot_after σ s (Message n p) (pair q v) ≡ Some (popped_spot n p v o)
  pair-led n p q v o e =
      pick_false (is_null_array (layer (pair q v))) _ (option_map (λ x. popped_spot n p x.1 (σ.tag_of x.1)) (pair_of (pair q v))) (popped_spot n p v o) (is_null_array-Array _)
      (ap (option_map (λ (x : Bytes × Bytes). popped_spot n p x.1 (σ.tag_of x.1))) (pair_of-pair q v) ∙ ap (λ (z : Option Bytes). Some (popped_spot n p v z)) e)

  pub told-allowed : (q : Ask) (r : Value) (c : Spot) → TellsSpot σ s q r c → spot_after σ s q r ≡ Some c
  told-allowed q r c (Counted d z) = spot_if-true (is_some (number_of (Integer z))) d (ap is_some (number_of-Integer z))
  told-allowed q r c (Consented d) = spot_if-true (is_status (codes "OK") (layer done)) d (is_status-Status (codes "OK") refl)
  told-allowed q r c (Was_queued d) = spot_if-true (is_status (codes "QUEUED") (layer queued)) d (is_status-Status (codes "QUEUED") refl)
  told-allowed q r c (Counted_both d x y) = spot_if-true (are_two_integers (items_of (integers (x ∷ y ∷ [])))) d (are_two_integers-integers x y)
  told-allowed q r c (Answered d x right) = spot_if-true (not (is_error x)) d (not_false (is_error x) right)
  told-allowed q r c (Bound n p e ms) = ap (option_map (λ ms. Listed n p e ms)) (texts_of-bulks ms)
  told-allowed q r c (Nothing_there n p) = pick_true (is_null_array (layer NullArray)) (Some (Free n p)) _ (Free n p) null_array_itself refl
  told-allowed q r c (Unreadable n p k v none) = pair-led n p k v None none
  told-allowed q r c (Readable n p k v t tag) = pair-led n p k v (Some t) tag
  told-allowed q r c (Missing n p j k) = pick_true (is_null_bulk (layer NullBulk)) (Some (Leaving n p j)) _ (Leaving n p j) null_bulk_itself refl
  told-allowed q r c (Useless n p j k u useless) = bulk-led n p j k u (Leaving n p j) (entry-useless n p j k u useless)
  told-allowed q r c (Unnamed n p j k u v carries none) = bulk-led n p j k u (routed n p j k v (σ.keys_in u [])) (entry-carries n p j k u v None carries none)
  told-allowed q r c (Named n p j k u v e carries some) = bulk-led n p j k u (Asking n p j k u v e) (entry-carries n p j k u v (Some e) carries some)
  told-allowed q r c (Looked_up n p j k u v ms) = ap (option_map (λ ms. routed n p j k v (σ.keys_in u ms))) (texts_of-bulks ms)
  told-allowed q r c (Moved n p j k zs) = pick_false (is_null_array (layer (integers zs))) (failed_spot n p j k) _ (finished n p j) (is_null_array-Array _) (spot_if-true (are_integers (items_of (integers zs))) (finished n p j) (are_integers-integers zs))
  told-allowed q r c (Failed n p j k lt) = pick_true (is_null_array (layer NullArray)) (failed_spot n p j k) _ (Waiting n p j (suc k)) null_array_itself (pick_true (nat_lt k 7) (Some (Waiting n p j (suc k))) (spot_if (k == 7) (gave_up n p j)) (Waiting n p j (suc k)) (true_lt k 7 lt) refl)
  told-allowed q r c (Contended n p j k is) = pick_true (is_null_array (layer NullArray)) (failed_spot n p j k) _ (gave_up n p j) null_array_itself
      (pick_false (nat_lt k 7) (Some (Waiting n p j (suc k))) (spot_if (k == 7) (gave_up n p j)) (gave_up n p j) (not_below k is) (spot_if-true (k == 7) (gave_up n p j) (is_seven k is)))
  told-allowed q r c (Taken n p) = pick_true (is_null_bulk (layer NullBulk)) (Some (Free n (suc p))) _ (Free n (suc p)) null_bulk_itself refl
  told-allowed q r c (Given n p) = pick_false (is_null_bulk (layer done)) (Some (Free n (suc p))) _ (Locked n p) (is_null_bulk-Status (codes "OK")) (spot_if-true (is_status (codes "OK") (layer done)) (Locked n p) (is_status-Status (codes "OK") refl))
  told-allowed q r c (Members n p ms) = ap (option_map (λ ms. Turning n p (tags_among σ ms))) (texts_of-bulks ms)
  told-allowed q r c (Own n p) = holder-led n p (token s (suc p)) (Release_own n p) (ap (λ b. if b then Release_own n p else Release_foreign n p) (bytes_itself (token s (suc p))))
  told-allowed q r c (Foreign n p u other) = holder-led n p u (Release_foreign n p) (ap (λ b. if b then Release_own n p else Release_foreign n p) (bytes_false (token s (suc p)) u (λ e. other (sym e))))
  told-allowed q r c (Nobody n p) = pick_true (is_null_bulk (layer NullBulk)) (Some (Release_foreign n p)) _ (Release_foreign n p) null_bulk_itself refl
  told-allowed q r c (Released n p rs) = pick_false (is_null_array (layer (Array rs))) (Some (Free n (suc p))) _ (Free n (suc p)) (is_null_array-Array rs) (spot_if-true (is_some (items_of (Array rs))) (Free n (suc p)) (ap is_some (items_of-Array rs)))
  told-allowed q r c (Altered n p) = pick_true (is_null_array (layer NullArray)) (Some (Free n (suc p))) _ (Free n (suc p)) null_array_itself refl
