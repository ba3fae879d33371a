-- Scripts that can always be said to their end.
use Rattle.std.proofs.Common.{◌≡◌, ◌⊎◌, inl, inr, ℕ, List, [], ◌∷◌, Option, None, Some, Bool, true, false, refl, ap, sym, subst, ◌∙◌, ℤ, codes, if◌then◌else◌}
use Rattle.std.specs.Prelude.{option_and_then, pos}
use Rattle.wire_values.specs.Layer.{layer}
use Rattle.wire_values.specs.declared.value.Value.TheVariants.{Status, Integer, NullBulk, NullArray}
use Rattle.wire_values.specs.declared.value.Value.{Value}
use Rattle.store_model.specs.Words.{Words}
use Rattle.store_model.specs.Replies.{done, queued, bulks}
use Rattle.queue_keys.specs.Names.{Bytes}
use Rattle.command_blocks.specs.Answers.{integers, number_of, items_of, bulk_of}
use Rattle.command_blocks.specs.Scripts.{Script, Off, Say, plainly, if_told, status_in, on_status, on_done, on_queued, on_number, each_told, texts_of, on_texts, on_two, on_two_numbers, null_array_in, null_bulk_in, on_null_array, on_ran, on_entry}
use Rattle.block_laws.specs.Rows.{IsGood}
use Rattle.block_laws.proofs.Values.{eq_itself, layer-Status, layer-NullBulk, layer-NullArray, number_of-Integer, items_of-Array}

-- what goes on after an answer is good, or the answer isn't listed
abbrev pub GoesOn : Script → Type 0
GoesOn p = (p ≡ Off) ⊎ IsGood p

pub if_on : (b : Bool) (p q : Script) → GoesOn p → GoesOn q → GoesOn (if b then p else q)
if_on true p q f g = f
if_on false p q f g = g

pub told_on : {A : Type 0} (go : A → Script) → ((x : A) → GoesOn (go x)) → (o : Option A) → GoesOn (if_told go o)
told_on go f None = inl refl
told_on go f (Some x) = f x

pub status_on : (text : Bytes) (go : Script) → IsGood go → (r : Value) → GoesOn (on_status text go r)
status_on text go g r = if_on (status_in text (layer r)) go Off (inr g) (inl refl)

-- ---- answers that are listed

pub status_listed : (text : Bytes) (go : Script) → on_status text go (Status text) ≡ go
status_listed text go = ap (λ b. if b then go else Off) (ap (status_in text) (layer-Status text) ∙ eq_itself text)

pub number_listed : (go : Script) (z : ℤ) → on_number go (Integer z) ≡ go
number_listed go z = ap (if_told (λ (z : ℤ). go)) (number_of-Integer z)

texts_listed : (go : List Bytes → Script) → on_texts go (bulks []) ≡ go []
texts_listed go = ap (λ o. if_told go (option_and_then (each_told bulk_of) o)) (items_of-Array [])

two_listed : (go : Script) → on_two_numbers go (integers (pos 0 ∷ pos 0 ∷ [])) ≡ go
two_listed go =
    ap (λ o. if_told (on_two {A = ℤ} go) (option_and_then (each_told number_of) o)) (items_of-Array (Integer (pos 0) ∷ Integer (pos 0) ∷ []))
    ∙ ap (λ n. if_told (on_two {A = ℤ} go) (each_told (λ (v : Value). n) (NullBulk ∷ NullBulk ∷ []))) (number_of-Integer (pos 0))

pub null_array_listed : (null other : Script) → on_null_array null other NullArray ≡ null
null_array_listed null other = ap (λ f. if null_array_in f then null else other) layer-NullArray

pub null_bulk_listed : (null other : Script) → (if null_bulk_in (layer NullBulk) then null else other) ≡ null
null_bulk_listed null other = ap (λ f. if null_bulk_in f then null else other) layer-NullBulk

-- ---- commands

pub done_good : (w : Words) (go : Script) → IsGood go → IsGood (plainly w (on_done go))
done_good w go g = ((done, subst IsGood (sym (status_listed (codes "OK") go)) g), status_on (codes "OK") go g)

pub queued_good : (w : ℕ → Words) (go : Script) → IsGood go → IsGood (Say w (on_queued go))
queued_good w go g = ((queued, subst IsGood (sym (status_listed (codes "QUEUED") go)) g), status_on (codes "QUEUED") go g)

pub number_good : (w : Words) (go : Script) → IsGood go → IsGood (plainly w (on_number go))
number_good w go g = ((Integer (pos 0), subst IsGood (sym (number_listed go (pos 0))) g), λ r. told_on (λ (z : ℤ). go) (λ z. inr g) (number_of r))

pub texts_good : (w : ℕ → Words) (go : List Bytes → Script) → ((ms : List Bytes) → IsGood (go ms)) → IsGood (Say w (on_texts go))
texts_good w go g = ((bulks [], subst IsGood (sym (texts_listed go)) (g [])), λ r. told_on go (λ ms. inr (g ms)) (texts_of r))

pub two_good : (w : Words) (go : Script) → IsGood go → IsGood (plainly w (on_two_numbers go))
two_good w go g = ((integers (pos 0 ∷ pos 0 ∷ []), subst IsGood (sym (two_listed go)) g), λ r. told_on (on_two {A = ℤ} go) by (option_and_then (each_told number_of) (items_of r))) where
  by : (zs : List ℤ) → GoesOn (on_two go zs)
  by [] = inl refl
  by (x ∷ []) = inl refl
  by (x ∷ y ∷ []) = inr g
  by (x ∷ y ∷ z ∷ zs) = inl refl

-- a command that the null array answers
pub null_array_good : (w : Words) (null : Script) (other : Value → Script) → IsGood null → ((r : Value) → GoesOn (other r)) → IsGood (plainly w (λ r. on_null_array null (other r) r))
null_array_good w null other g h = ((NullArray, subst IsGood (sym (null_array_listed null (other NullArray))) g), λ r. if_on (null_array_in (layer r)) null (other r) (inr g) (h r))

-- a command that the null bulk string answers
pub null_bulk_good : (w : Words) (null : Script) (other : Value → Script) → IsGood null → ((r : Value) → GoesOn (other r)) → IsGood (plainly w (λ r. if null_bulk_in (layer r) then null else other r))
null_bulk_good w null other g h = ((NullBulk, subst IsGood (sym (null_bulk_listed null (other NullBulk))) g), λ r. if_on (null_bulk_in (layer r)) null (other r) (inr g) (h r))

pub ran_good : (w : Words) (moved failed : Script) → IsGood moved → IsGood failed → IsGood (plainly w (on_ran moved failed))
ran_good w moved failed g h = null_array_good w failed (λ r. if_told (λ (zs : List ℤ). moved) (option_and_then (each_told number_of) (items_of r))) h (λ r. told_on (λ (zs : List ℤ). moved) (λ zs. inr g) (option_and_then (each_told number_of) (items_of r)))

pub entry_good : (w : Words) (missing : Script) (go : Bytes → Script) → IsGood missing → ((u : Bytes) → IsGood (go u)) → IsGood (plainly w (on_entry missing go))
entry_good w missing go g h = null_bulk_good w missing (λ r. if_told go (bulk_of r)) g (λ r. told_on go (λ u. inr (h u)) (bulk_of r))
