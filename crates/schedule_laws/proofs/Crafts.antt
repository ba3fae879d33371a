-- The crafts of lawful layouts.
use Rattle.std.proofs.Common.{◌≡◌, ℕ, ◌*◌, ◌≤◌, suc, arith, refl, ap, sym, ◌∙◌, subst, List, [], ◌∷◌, ◌++◌, Bool, true, false, Some, if◌then◌else◌, length, min, length-append}
use Rattle.std.specs.Prelude.{◌&&◌}
use Rattle.queue_keys.specs.Names.{Bytes, is_name}
use Rattle.queue_keys.specs.Layouts.{Layout, is_layout, is_prefix, rises_from_zero, step_of}
use Rattle.queue_keys.specs.QueueKeys.{queue_key, keys_at, keys_by, pop_keys}
use Rattle.queue_keys.specs.Lookup.{route_keys}
use Rattle.command_blocks.specs.Setting.{Texts, IsTexts, IsLawful, named_exchange, way_keys, setting_of}
use Rattle.queue_keys.proofs.Splits.{split_of_key}
use Rattle.key_laws.proofs.Settings.{lawful_setting}
use Rattle.key_laws.proofs.Steps.{has_step}
use Rattle.manner_laws.specs.Cursor.{IsReadable}
use Rattle.manner_laws.specs.LayoutKeys.{exchange_of_key, TellsShortExchanges}
use Rattle.manner_laws.proofs.LayoutReads.{readable_layout}
use Rattle.schedule_model.specs.Faults.{Craft}
use Rattle.schedule_laws.specs.Sound.{IsSealed, IsCraft, SealsTell}

-- ---- pops

keys_at_length : (l : Layout) (s : ℕ) (qs : List Bytes) → length (keys_at l s qs) ≡ length qs
keys_at_length l s [] = refl
keys_at_length l s (q ∷ qs) = ap suc (keys_at_length l s qs)

keys_by_bound : (l : Layout) (ss : List ℕ) (qs : List Bytes) → length qs ≤ 1023 → length (keys_by l ss qs) ≤ length ss * 1023
keys_by_bound l [] qs le = omega arith
keys_by_bound l (s ∷ ss) qs le =
    let more = keys_by_bound l ss qs le in
    let here = keys_at_length l s qs in
    let both = length-append (keys_at l s qs) (keys_by l ss qs) in
    omega (arith, more, here, both, le)

no_steps : (a : Bool) → (a && false) ≡ true → ⊥
no_steps true e = absurd (cc e)
no_steps false e = absurd (cc e)

-- as many queues as a line may name can be popped
few_keys : (l : Layout) → is_layout l ≡ true → length l.steps ≤ 4 → (q : Bytes) (qs : List Bytes) → length (q ∷ qs) ≤ 1023 → (k : Bytes) × (ks : List Bytes) × (pop_keys l (q ∷ qs) ≡ k ∷ ks) × (length (k ∷ ks) ≤ 4094)
few_keys l lawful few q qs le = by l.steps refl where
  by : (ss : List ℕ) → l.steps ≡ ss → (k : Bytes) × (ks : List Bytes) × (pop_keys l (q ∷ qs) ≡ k ∷ ks) × (length (k ∷ ks) ≤ 4094)
  by [] e = absurd (no_steps (is_prefix l.prefix) (sym (ap (λ ss. is_prefix l.prefix && rises_from_zero ss) e) ∙ lawful))
  by (s ∷ ss) e =
      let bound : length (keys_by l (s ∷ ss) (q ∷ qs)) ≤ length (s ∷ ss) * 1023 = keys_by_bound l (s ∷ ss) (q ∷ qs) le in
      let steps : length (s ∷ ss) ≤ 4 = subst (λ z. length z ≤ 4) e few in
      (queue_key l q s, keys_at l s qs ++ keys_by l ss (q ∷ qs), ap (λ z. keys_by l z (q ∷ qs)) e, omega (arith, bound, steps))

-- ---- envelopes

one_key : (l : Layout) (k : Bytes) (held : ℕ) → is_name k ≡ true → route_keys l (step_of l held) [] k [] ≡ queue_key l k (step_of l held) ∷ []
one_key l k held is = ap (λ b. keys_at l (step_of l held) (if b then k ∷ [] else [])) is

sealed_tells : (l : Layout) (τ : Texts) (s n : ℕ) (x k v : Bytes) (held : ℕ) → is_layout l ≡ true → τ.written_tag v ≡ Some (τ.tag s n) → τ.way_of v ≡ Some (record { exchange = x; routing_key = k; priority = held }) → IsSealed (setting_of l τ) s n x k v
sealed_tells l τ s n x k v held lawful tag way = record {
  tag = tag;
  exchange = ap named_exchange way;
  key = λ empty is. (
    queue_key l k (step_of l held),
    step_of l held,
    ap (λ w. way_keys l w []) way ∙ (ap (λ e. route_keys l (step_of l held) e k []) empty ∙ one_key l k held is),
    split_of_key l k (step_of l held) is (has_step l held lawful),
  );
}

-- ---- crafts

pub layout_craft : (l : Layout) (τ : Texts) (κ : Craft) → is_layout l ≡ true → length l.steps ≤ 4 → κ.setting ≡ setting_of l τ → IsTexts τ → TellsShortExchanges τ → SealsTell τ κ → IsCraft κ
layout_craft l τ κ lawful few is texts short tells = record {
  lawful = subst IsLawful (sym is) (lawful_setting l τ lawful texts);
  exchange_at = exchange_of_key l;
  readable = subst (λ σ. IsReadable σ (exchange_of_key l)) (sym is) (readable_layout l τ lawful short);
  seals = λ s n x k p t j v e. let h = tells s n x k p t j v e in subst (λ σ. IsSealed σ s n x k v) (sym is) (sealed_tells l τ s n x k v (min p 9) lawful h.0 h.1);
  pops = λ q qs le. subst (λ σ. (k : Bytes) × (ks : List Bytes) × (σ.pop_keys (q ∷ qs) ≡ k ∷ ks) × (length (k ∷ ks) ≤ 4094)) (sym is) (few_keys l lawful few q qs le);
}
