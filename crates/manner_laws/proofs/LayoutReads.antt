-- The keys of a lawful layout tell what they were made of.
use Rattle.std.proofs.Common.{arith, ◌≡◌, inl, inr, ℕ, suc, List, [], ◌∷◌, ◌++◌, true, false, ◌&&◌, ◌==◌, refl, ap, subst, ◌∙◌, None, Some, Option, nat_lt, length}
use Rattle.std.specs.Prelude.{nat_le, option_and_then, if◌then◌else◌}
use Rattle.std.specs.Str.{is_utf8}
use Rattle.std.proofs.lemmas.Bool.Decides.{nat_tests}
use Rattle.queue_keys.specs.Names.{Bytes, is_name, binding_front}
use Rattle.queue_keys.specs.Layouts.{Layout, is_layout, is_prefix, HasStep, rises, rises_from_zero}
use Rattle.queue_keys.specs.QueueKeys.{after_front, queue_key, keys_at, keys_by, Each}
use Rattle.command_blocks.specs.Setting.{Texts, Way, named_or_none, named_exchange, setting_of}
use Rattle.command_blocks.specs.RouteBlocks.{is_exchange}
use Rattle.queue_keys.proofs.Splits.{rest_after-front, split_of_key}
use Rattle.manner_laws.specs.Cursor.{onto_queues, queues_among, IsReadable}
use Rattle.manner_laws.specs.LayoutKeys.{exchange_of_key, TellsShortExchanges}
use Rattle.manner_laws.proofs.Tests.{false_true, none_some, some_parts, and_true, both_true}

append_nothing : (xs : List Bytes) → xs ++ [] ≡ xs
append_nothing [] = refl
append_nothing (x ∷ xs) = ap (λ (z : List Bytes). x ∷ z) (append_nothing xs)

above_zero : (s t : ℕ) → nat_lt s t ≡ true → (t == 0) ≡ false
above_zero s t h = grind (arith, nat_tests)

fits : (k : ℕ) → nat_le (suc k) 255 ≡ true → nat_lt k 255 ≡ true
fits k h = grind (arith, nat_tests)

short_enough : (e : Bytes) (x : Bytes) → named_or_none x ≡ Some e → (nat_le (length x) 255 && is_utf8 x) ≡ true → is_exchange e ≡ true
short_enough e [] h i = none_some _ e h
short_enough e (b ∷ x) h i =
    let s = and_true (nat_le (length (b ∷ x)) 255) (is_utf8 (b ∷ x)) i in
    subst (λ z. is_exchange z ≡ true) (some_parts (b ∷ x) e h) (both_true (nat_lt (length x) 255) (is_utf8 (b ∷ x)) (fits (length x) s.0) s.1)

module _ (l : Layout) (τ : Texts) where
  key-queues : (q : Bytes) (s : ℕ) (ks : List Bytes) → is_name q ≡ true → HasStep l.steps s → queues_among (setting_of l τ) (queue_key l q s ∷ ks) ≡ (if s == 0 then q ∷ queues_among (setting_of l τ) ks else queues_among (setting_of l τ) ks)
  key-queues q s ks n h = ap (λ o. onto_queues o (queues_among (setting_of l τ) ks)) (split_of_key l q s n h)

  -- the keys at step 0 tell their queues
  first_queues : (s : ℕ) (qs ks : List Bytes) → (s == 0) ≡ true → HasStep l.steps s → Each is_name qs → queues_among (setting_of l τ) (keys_at l s qs ++ ks) ≡ qs ++ queues_among (setting_of l τ) ks
  first_queues s [] ks zero h e = refl
  first_queues s (q ∷ qs) ks zero h e =
      key-queues q s (keys_at l s qs ++ ks) e.0 h
      ∙ ap (λ b. if b then q ∷ queues_among (setting_of l τ) (keys_at l s qs ++ ks) else queues_among (setting_of l τ) (keys_at l s qs ++ ks)) zero
      ∙ ap (λ (z : List Bytes). q ∷ z) (first_queues s qs ks zero h e.1)

  -- those at other steps tell none
  other_queues : (s : ℕ) (qs ks : List Bytes) → (s == 0) ≡ false → HasStep l.steps s → Each is_name qs → queues_among (setting_of l τ) (keys_at l s qs ++ ks) ≡ queues_among (setting_of l τ) ks
  other_queues s [] ks above h e = refl
  other_queues s (q ∷ qs) ks above h e =
      key-queues q s (keys_at l s qs ++ ks) e.0 h
      ∙ ap (λ b. if b then q ∷ queues_among (setting_of l τ) (keys_at l s qs ++ ks) else queues_among (setting_of l τ) (keys_at l s qs ++ ks)) above
      ∙ other_queues s qs ks above h e.1

  later_queues : (s : ℕ) (ss : List ℕ) (qs : List Bytes) → rises s ss ≡ true → ((t : ℕ) → HasStep ss t → HasStep l.steps t) → Each is_name qs → queues_among (setting_of l τ) (keys_by l ss qs) ≡ []
  later_queues s [] qs up has e = refl
  later_queues s (t ∷ ts) qs up has e =
      let x = and_true (nat_lt s t) (rises t ts) up in
      other_queues t qs (keys_by l ts qs) (above_zero s t x.0) (has t (inl refl)) e ∙ later_queues t ts qs x.1 (λ u i. has u (inr i)) e

  all_queues : (ss : List ℕ) (qs : List Bytes) → rises_from_zero ss ≡ true → ((t : ℕ) → HasStep ss t → HasStep l.steps t) → Each is_name qs → queues_among (setting_of l τ) (keys_by l ss qs) ≡ qs
  all_queues [] qs up has e = false_true up
  all_queues (s ∷ ss) qs up has e =
      let x = and_true (s == 0) (rises s ss) up in
      first_queues s qs (keys_by l ss qs) x.0 (has s (inl refl)) e ∙ ap (λ z. qs ++ z) (later_queues s ss qs x.1 (λ u i. has u (inr i)) e) ∙ append_nothing qs

  key-exchange : (e : Bytes) → exchange_of_key l (l.prefix ++ (binding_front ++ e)) ≡ Some e
  key-exchange e = ap (option_and_then (after_front binding_front)) (rest_after-front l.prefix (binding_front ++ e)) ∙ rest_after-front binding_front e

  told_exchange : TellsShortExchanges τ → (v e : Bytes) → named_exchange (τ.way_of v) ≡ Some e → is_exchange e ≡ true
  told_exchange short v e h = go (τ.way_of v) refl h
    where
      go : (o : Option Way) → τ.way_of v ≡ o → named_exchange o ≡ Some e → is_exchange e ≡ true
      go None is h = none_some _ e h
      go (Some w) is h = short_enough e w.exchange h (short v w is)

pub readable_layout : (l : Layout) (τ : Texts) → is_layout l ≡ true → TellsShortExchanges τ → IsReadable (setting_of l τ) (exchange_of_key l)
readable_layout l τ lawful short =
    let x = and_true (is_prefix l.prefix) (rises_from_zero l.steps) lawful in
    record {
      exchange = key-exchange l τ;
      queues = λ names e. all_queues l τ l.steps names x.1 (λ t i. i) e;
      tells = told_exchange l τ short;
    }
