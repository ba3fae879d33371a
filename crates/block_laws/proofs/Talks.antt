-- Whole talks of scripts: what was said, and which answers were given.
use Rattle.std.proofs.Common.{◌≡◌, ◌⊎◌, inl, inr, ℕ, ◌<◌, ◌^◌, List, [], ◌∷◌, Option, None, Some, Bool, true, false, refl, sym, subst, ℤ, codes, if◌then◌else◌}
use Rattle.std.specs.Prelude.{option_and_then}
use Rattle.wire_values.specs.Layer.{layer}
use Rattle.wire_values.specs.declared.value.Value.TheVariants.{Status, Integer, Bulk, NullBulk, NullArray}
use Rattle.wire_values.specs.declared.value.Value.{Value}
use Rattle.store_model.specs.Words.{Words}
use Rattle.store_model.specs.Replies.{done, queued, bulks, pair}
use Rattle.queue_keys.specs.Names.{Bytes}
use Rattle.command_blocks.specs.Answers.{integers, number_of, items_of, bulk_of, pair_of}
use Rattle.command_blocks.specs.Setting.{Setting}
use Rattle.command_blocks.specs.Calls.{Call, call}
use Rattle.command_blocks.specs.Scripts.{Script, Over, Off, Say, plainly, if_told, status_in, on_status, on_done, on_queued, on_number, each_told, texts_of, on_texts, on_two, on_two_numbers, null_array_in, null_bulk_in, on_null_array, kept_by, on_popped, on_ran, on_entry, after_call, rest_of, next_words, IsSaid}
use Rattle.block_laws.specs.Rows.{AreTimely}
use Rattle.block_laws.proofs.Values.{some_is, status_is, null_array_is, null_bulk_is, number_is, bulk_is, texts_are, numbers_are, pair_is}

-- the calls are a whole talk of a script, each before the moment 2^40
abbrev pub Talks : Script → List Call → Type 0
Talks p [] = p ≡ Over
Talks p (x ∷ xs) = (x.at < 2 ^ 40) × (next_words p x.at ≡ Some x.words) × Talks (after_call p x) xs

pub talks : (p : Script) (xs : List Call) → AreTimely xs → IsSaid p xs → rest_of p xs ≡ Over → Talks p xs
talks p [] timely said over = over
talks p (x ∷ xs) timely said over = (timely.0, said.0, talks (after_call p x) xs timely.1 said.1 over)

-- a script that says something isn't over
pub says_not : (w : ℕ → Words) (go : Value → Script) → Say w go ≡ Over → ⊥
says_not w go e = subst is_say e tt where
  is_say : Script → Type 0
  is_say (Say w go) = Unit {0}
  is_say other = ⊥

-- nor off
pub says_on : (w : ℕ → Words) (go : Value → Script) → Say w go ≡ Off → ⊥
says_on w go e = subst is_say e tt where
  is_say : Script → Type 0
  is_say (Say w go) = Unit {0}
  is_say other = ⊥

pub off_not : Off ≡ Over → ⊥
off_not e = subst is_off e tt where
  is_off : Script → Type 0
  is_off Off = Unit {0}
  is_off other = ⊥

-- ---- the parts of a talk

pub over_talks : (P : List Call → Type 0) → P [] → (xs : List Call) → Talks Over xs → P xs
over_talks P f [] t = f
over_talks P f (x ∷ xs) t = let e = t.1 in cc

pub off_talks : (xs : List Call) → Talks Off xs → ⊥
off_talks [] t = off_not t
off_talks (x ∷ xs) t = let e = t.1 in cc

pub say_talks : (w : ℕ → Words) (go : Value → Script) (P : List Call → Type 0)
    → ((a : ℕ) (r : Value) (ys : List Call) → a < 2 ^ 40 → Talks (go r) ys → P (call a (w a) r ∷ ys)) → (xs : List Call) → Talks (Say w go) xs → P xs
say_talks w go P f [] t = absurd (says_not w go t)
say_talks w go P f (x ∷ xs) t = subst (λ u. P (call x.at u x.answer ∷ xs)) (some_is (w x.at) x.words t.1) (f x.at x.answer xs t.0 t.2)

-- ---- answers

if_talks : (b : Bool) (p q : Script) (ys : List Call) → Talks (if b then p else q) ys → ((b ≡ true) × Talks p ys) ⊎ ((b ≡ false) × Talks q ys)
if_talks true p q ys t = inl (refl, t)
if_talks false p q ys t = inr (refl, t)

pub status_talks : (text : Bytes) (go : Script) (r : Value) (ys : List Call) → Talks (on_status text go r) ys → (Q : Value → Type 0) → (Talks go ys → Q (Status text)) → Q r
status_talks text go r ys t Q f = by (if_talks (status_in text (layer r)) go Off ys t) where
  by : ((status_in text (layer r) ≡ true) × Talks go ys) ⊎ ((status_in text (layer r) ≡ false) × Talks Off ys) → Q r
  by (inl h) = subst Q (sym (status_is text r h.0)) (f h.1)
  by (inr h) = absurd (off_talks ys h.1)

pub told_talks : {A : Type 0} (go : A → Script) (o : Option A) (ys : List Call) → Talks (if_told go o) ys → (x : A) × (o ≡ Some x) × Talks (go x) ys
told_talks go None ys t = absurd (off_talks ys t)
told_talks go (Some x) ys t = (x, refl, t)

pub number_talks : (go : Script) (r : Value) (ys : List Call) → Talks (on_number go r) ys → (Q : Value → Type 0) → ((z : ℤ) → Talks go ys → Q (Integer z)) → Q r
number_talks go r ys t Q f = let h = told_talks (λ (z : ℤ). go) (number_of r) ys t in subst Q (sym (number_is r h.0 h.1)) (f h.0 h.2)

pub texts_talks : (go : List Bytes → Script) (r : Value) (ys : List Call) → Talks (on_texts go r) ys → (Q : Value → Type 0) → ((ms : List Bytes) → Talks (go ms) ys → Q (bulks ms)) → Q r
texts_talks go r ys t Q f = let h = told_talks go (texts_of r) ys t in subst Q (sym (texts_are r h.0 h.1)) (f h.0 h.2)

pub two_talks : (go : Script) (r : Value) (ys : List Call) → Talks (on_two_numbers go r) ys → (Q : Value → Type 0) → ((x y : ℤ) → Talks go ys → Q (integers (x ∷ y ∷ []))) → Q r
two_talks go r ys t Q f = let h = told_talks (on_two {A = ℤ} go) (option_and_then (each_told number_of) (items_of r)) ys t in subst Q (sym (numbers_are r h.0 h.1)) (by h.0 h.2) where
  by : (zs : List ℤ) → Talks (on_two go zs) ys → Q (integers zs)
  by [] u = absurd (off_talks ys u)
  by (x ∷ []) u = absurd (off_talks ys u)
  by (x ∷ y ∷ []) u = f x y u
  by (x ∷ y ∷ z ∷ zs) u = absurd (off_talks ys u)

pub null_array_talks : (null other : Script) (r : Value) (ys : List Call) → Talks (on_null_array null other r) ys → (Q : Value → Type 0) → (Talks null ys → Q NullArray) → (Talks other ys → Q r) → Q r
null_array_talks null other r ys t Q f g = by (if_talks (null_array_in (layer r)) null other ys t) where
  by : ((null_array_in (layer r) ≡ true) × Talks null ys) ⊎ ((null_array_in (layer r) ≡ false) × Talks other ys) → Q r
  by (inl h) = subst Q (sym (null_array_is r h.0)) (f h.1)
  by (inr h) = g h.1

pub null_bulk_talks : (null other : Script) (r : Value) (ys : List Call) → Talks (if null_bulk_in (layer r) then null else other) ys → (Q : Value → Type 0) → (Talks null ys → Q NullBulk) → (Talks other ys → Q r) → Q r
null_bulk_talks null other r ys t Q f g = by (if_talks (null_bulk_in (layer r)) null other ys t) where
  by : ((null_bulk_in (layer r) ≡ true) × Talks null ys) ⊎ ((null_bulk_in (layer r) ≡ false) × Talks other ys) → Q r
  by (inl h) = subst Q (sym (null_bulk_is r h.0)) (f h.1)
  by (inr h) = g h.1

pub popped_talks : (σ : Setting) (r : Value) (ys : List Call) → Talks (on_popped σ r) ys → (Q : Value → Type 0) → (Talks Over ys → Q NullArray) → ((k v : Bytes) → Talks (kept_by σ v (σ.tag_of v)) ys → Q (pair k v)) → Q r
popped_talks σ r ys t Q f g = null_array_talks Over (if_told (λ (k, v). kept_by σ v (σ.tag_of v)) (pair_of r)) r ys t Q f by where
  by : Talks (if_told (λ (k, v). kept_by σ v (σ.tag_of v)) (pair_of r)) ys → Q r
  by u = let h = told_talks (λ (p : Bytes × Bytes). kept_by σ p.1 (σ.tag_of p.1)) (pair_of r) ys u in subst Q (sym (pair_is r h.0 h.1)) (g h.0.0 h.0.1 h.2)

pub ran_talks : (moved failed : Script) (r : Value) (ys : List Call) → Talks (on_ran moved failed r) ys → (Q : Value → Type 0) → ((zs : List ℤ) → Talks moved ys → Q (integers zs)) → (Talks failed ys → Q NullArray) → Q r
ran_talks moved failed r ys t Q f g = null_array_talks failed (if_told (λ (zs : List ℤ). moved) (option_and_then (each_told number_of) (items_of r))) r ys t Q g by where
  by : Talks (if_told (λ (zs : List ℤ). moved) (option_and_then (each_told number_of) (items_of r))) ys → Q r
  by u = let h = told_talks (λ (zs : List ℤ). moved) (option_and_then (each_told number_of) (items_of r)) ys u in subst Q (sym (numbers_are r h.0 h.1)) (f h.0 h.2)

pub entry_talks : (missing : Script) (go : Bytes → Script) (r : Value) (ys : List Call) → Talks (on_entry missing go r) ys → (Q : Value → Type 0) → (Talks missing ys → Q NullBulk) → ((u : Bytes) → Talks (go u) ys → Q (Bulk u)) → Q r
entry_talks missing go r ys t Q f g = null_bulk_talks missing (if_told go (bulk_of r)) r ys t Q f by where
  by : Talks (if_told go (bulk_of r)) ys → Q r
  by u = let h = told_talks go (bulk_of r) ys u in subst Q (sym (bulk_is r h.0 h.1)) (g h.0 h.2)

-- ---- commands with their answers

pub done_talks : (w : Words) (go : Script) (P : List Call → Type 0) → ((a : ℕ) (ys : List Call) → Talks go ys → P (call a w done ∷ ys)) → (xs : List Call) → Talks (plainly w (on_done go)) xs → P xs
done_talks w go P f = say_talks (λ at. w) (on_done go) P (λ a r ys l t. status_talks (codes "OK") go r ys t (λ v. P (call a w v ∷ ys)) (f a ys))

pub queued_talks : (w : ℕ → Words) (go : Script) (P : List Call → Type 0) → ((a : ℕ) (ys : List Call) → a < 2 ^ 40 → Talks go ys → P (call a (w a) queued ∷ ys)) → (xs : List Call) → Talks (Say w (on_queued go)) xs → P xs
queued_talks w go P f = say_talks w (on_queued go) P (λ a r ys l t. status_talks (codes "QUEUED") go r ys t (λ v. P (call a (w a) v ∷ ys)) (f a ys l))
