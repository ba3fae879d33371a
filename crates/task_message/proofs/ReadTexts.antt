-- What contents read as. This serves the proofs of code.
use Rattle.std.proofs.Common.{◌≡◌, ◌∷◌, [], List, ℕ, Bool, true, false, Option, Some, None, length, refl, sym, ap, ◌∙◌, arith}
use Rattle.std.specs.Prelude.{IsUtf8}
use Rattle.std.specs.Str.{is_utf8}
use Rattle.std.proofs.lemmas.Str.{is_utf8-from_IsUtf8, IsUtf8-from_is_utf8}
use Rattle.serde_json.specs.Data.{Data}
use Rattle.serde_json.specs.Read.{read}
use Rattle.serde_json.specs.View.{items_view}
use Rattle.serde_json.specs.declared.value.Value.{Value}
use Rattle.envelope.specs.Envelopes.{json_at}
use Rattle.task_message.specs.Tasks.{TaskCall, call_of_items}

pub json_some : (b : List ℕ) (d : Data) → IsUtf8 b → read b ≡ Some d → json_at b ≡ Some d
json_some b d utf8 e = rw (is_utf8-from_IsUtf8 b utf8) e

none_by : (b : List ℕ) (t : Bool) → is_utf8 b ≡ t → (IsUtf8 b → read b ≡ None) → json_at b ≡ None
none_by b true e f = rw e (f (IsUtf8-from_is_utf8 b e))
none_by b false e f = rw e refl

pub json_none : (b : List ℕ) → (IsUtf8 b → read b ≡ None) → json_at b ≡ None
json_none b f = none_by b _ refl f

no_utf8 : (v : List ℕ) (t : Bool) → is_utf8 v ≡ t → (IsUtf8 v → ⊥) → t ≡ false
no_utf8 v true e bad = absurd (bad (IsUtf8-from_is_utf8 v e))
no_utf8 v false e bad = refl

-- bytes that aren't UTF-8 fail the test
pub no_text : (v : List ℕ) → (IsUtf8 v → ⊥) → is_utf8 v ≡ false
no_text v bad = no_utf8 v _ refl bad

-- another number of items than three is no call
pub not_three : (vs : List Value) → (length vs ≡ 3 → ⊥) → ◌≡◌ {A = Option TaskCall} None (call_of_items (items_view vs))
not_three [] h = refl
not_three (a ∷ []) h = refl
not_three (a ∷ b ∷ []) h = refl
not_three (a ∷ b ∷ c ∷ []) h = absurd (h refl)
not_three (a ∷ b ∷ c ∷ d ∷ rest) h = refl
