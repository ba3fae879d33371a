-- The kind of a value, which its form tells.
use Rattle.std.proofs.Common.{◌≡◌, ℕ, ℤ, Bool, true, false, List, [], ◌∷◌, ◌++◌, refl, sym, ap, ◌∙◌, map}
use Rattle.std.specs.Prelude.{nat_eq, codes, if◌then◌else◌}
use Rattle.std.specs.Fmt.{signed_decimal}
use Rattle.wire_values.specs.Layer.{layer}
use Rattle.wire_values.proofs.Layers.{layer-array, layers_tell}
use Rattle.wire_values.specs.declared.value.Value.{Value}
use Rattle.wire_values.specs.declared.value.Value.TheFolds.{fold-roll-Value}
use Rattle.wire_values.specs.declared.value.Value.TheOpen.{Value-F}
use Rattle.wire_values.specs.declared.value.Value.TheVariants.{Status, Error, Integer, Bulk, NullBulk, Array, NullArray, rolls-Status, rolls-Error, rolls-Integer, rolls-Bulk, rolls-NullBulk, rolls-Array, rolls-NullArray}
use Rattle.line_text.specs.Forms.{quoted, commas, value_form, value_step}

pub data Kind : Type 0 where
  A_status : Kind
  An_error : Kind
  An_integer : Kind
  A_bulk : Kind
  A_null : Kind
  An_array : Kind
  A_null_array : Kind

-- the kind by the sign, and by what follows it
sign_kind : ℕ → ℕ → Kind
sign_kind a b =
    if nat_eq a 43 then A_status else if nat_eq a 45 then An_error else if nat_eq a 58 then An_integer else
    if nat_eq a 36 then (if nat_eq b 45 then A_null else A_bulk) else (if nat_eq b 45 then A_null_array else An_array)

pub text_kind : List ℕ → Kind
text_kind [] = A_status
text_kind (a ∷ []) = sign_kind a 0
text_kind (a ∷ b ∷ bs) = sign_kind a b

-- the items of an array, and its end
abbrev pub items_text : List Value → List ℕ
items_text items = commas (map value_form items) ++ 93 ∷ []

-- a value of a kind, and its form
abbrev pub Shown : Value → Kind → Type 0
Shown v A_status = (t : List ℕ) × (v ≡ Status t) × (value_form v ≡ 43 ∷ quoted t)
Shown v An_error = (t : List ℕ) × (v ≡ Error t) × (value_form v ≡ 45 ∷ quoted t)
Shown v An_integer = (z : ℤ) × (v ≡ Integer z) × (value_form v ≡ 58 ∷ signed_decimal z)
Shown v A_bulk = (t : List ℕ) × (v ≡ Bulk t) × (value_form v ≡ 36 ∷ quoted t)
Shown v A_null = (v ≡ NullBulk) × (value_form v ≡ 36 ∷ 45 ∷ [])
Shown v An_array = (items : List Value) × (v ≡ Array items) × (value_form v ≡ 42 ∷ 91 ∷ items_text items)
Shown v A_null_array = (v ≡ NullArray) × (value_form v ≡ 42 ∷ 45 ∷ [])

pub record Seen (v : Value) : Type 0 where
  pub kind : Kind
  pub shown : Shown v kind
  pub told : (r : List ℕ) → text_kind (value_form v ++ r) ≡ kind

-- ---- the forms

pub form-status : (t : List ℕ) → value_form (Status t) ≡ 43 ∷ quoted t
form-status t = ap value_form (sym (rolls-Status t)) ∙ fold-roll-Value (List ℕ) (value_step quoted) (Value-F.Status t)

pub form-error : (t : List ℕ) → value_form (Error t) ≡ 45 ∷ quoted t
form-error t = ap value_form (sym (rolls-Error t)) ∙ fold-roll-Value (List ℕ) (value_step quoted) (Value-F.Error t)

pub form-integer : (z : ℤ) → value_form (Integer z) ≡ 58 ∷ signed_decimal z
form-integer z = ap value_form (sym (rolls-Integer z)) ∙ fold-roll-Value (List ℕ) (value_step quoted) (Value-F.Integer z)

pub form-bulk : (t : List ℕ) → value_form (Bulk t) ≡ 36 ∷ quoted t
form-bulk t = ap value_form (sym (rolls-Bulk t)) ∙ fold-roll-Value (List ℕ) (value_step quoted) (Value-F.Bulk t)

pub form-null : value_form NullBulk ≡ 36 ∷ 45 ∷ []
form-null = ap value_form (sym rolls-NullBulk) ∙ fold-roll-Value (List ℕ) (value_step quoted) Value-F.NullBulk

pub form-array : (items : List Value) → value_form (Array items) ≡ 42 ∷ 91 ∷ items_text items
form-array items = ap value_form (sym (rolls-Array items)) ∙ fold-roll-Value (List ℕ) (value_step quoted) (Value-F.Array items)

pub form-null_array : value_form NullArray ≡ 42 ∷ 45 ∷ []
form-null_array = ap value_form (sym rolls-NullArray) ∙ fold-roll-Value (List ℕ) (value_step quoted) Value-F.NullArray

-- ---- the layers

layer-status : (t : List ℕ) → layer (Status t) ≡ Value-F.Status t
unfolding layer
layer-status t = refl

layer-error : (t : List ℕ) → layer (Error t) ≡ Value-F.Error t
unfolding layer
layer-error t = refl

layer-integer : (z : ℤ) → layer (Integer z) ≡ Value-F.Integer z
unfolding layer
layer-integer z = refl

layer-bulk : (t : List ℕ) → layer (Bulk t) ≡ Value-F.Bulk t
unfolding layer
layer-bulk t = refl

layer-null : layer NullBulk ≡ Value-F.NullBulk
unfolding layer
layer-null = refl

layer-null_array : layer NullArray ≡ Value-F.NullArray
unfolding layer
layer-null_array = refl

-- ---- each value is of a kind

kind_quoted : (a : ℕ) (k : Kind) (t r : List ℕ) → sign_kind a 34 ≡ k → text_kind ((a ∷ quoted t) ++ r) ≡ k
unfolding text_kind
kind_quoted a k t r e = e

kind_integer : (t r : List ℕ) → text_kind ((58 ∷ t) ++ r) ≡ An_integer
unfolding text_kind sign_kind
kind_integer [] [] = refl
kind_integer [] (b ∷ r) = refl
kind_integer (b ∷ t) r = refl

kind_two : (a b : ℕ) (k : Kind) (t r : List ℕ) → sign_kind a b ≡ k → text_kind ((a ∷ b ∷ t) ++ r) ≡ k
unfolding text_kind
kind_two a b k t r e = e

status_sign : sign_kind 43 34 ≡ A_status
unfolding sign_kind
status_sign = refl

error_sign : sign_kind 45 34 ≡ An_error
unfolding sign_kind
error_sign = refl

bulk_sign : sign_kind 36 34 ≡ A_bulk
unfolding sign_kind
bulk_sign = refl

null_sign : sign_kind 36 45 ≡ A_null
unfolding sign_kind
null_sign = refl

array_sign : sign_kind 42 91 ≡ An_array
unfolding sign_kind
array_sign = refl

null_array_sign : sign_kind 42 45 ≡ A_null_array
unfolding sign_kind
null_array_sign = refl

pub seen : (v : Value) → Seen v
seen v = go (layer v) refl where
  go : (x : Value-F Value) → layer v ≡ x → Seen v
  go (Value-F.Status t) e =
      let is = layers_tell v (Status t) (e ∙ sym (layer-status t)) in
      let f = ap value_form is ∙ form-status t in
      record { kind = A_status; shown = (t, is, f); told = λ r. ap (λ b. text_kind (b ++ r)) f ∙ kind_quoted 43 A_status t r status_sign }
  go (Value-F.Error t) e =
      let is = layers_tell v (Error t) (e ∙ sym (layer-error t)) in
      let f = ap value_form is ∙ form-error t in
      record { kind = An_error; shown = (t, is, f); told = λ r. ap (λ b. text_kind (b ++ r)) f ∙ kind_quoted 45 An_error t r error_sign }
  go (Value-F.Integer z) e =
      let is = layers_tell v (Integer z) (e ∙ sym (layer-integer z)) in
      let f = ap value_form is ∙ form-integer z in
      record { kind = An_integer; shown = (z, is, f); told = λ r. ap (λ b. text_kind (b ++ r)) f ∙ kind_integer (signed_decimal z) r }
  go (Value-F.Bulk t) e =
      let is = layers_tell v (Bulk t) (e ∙ sym (layer-bulk t)) in
      let f = ap value_form is ∙ form-bulk t in
      record { kind = A_bulk; shown = (t, is, f); told = λ r. ap (λ b. text_kind (b ++ r)) f ∙ kind_quoted 36 A_bulk t r bulk_sign }
  go Value-F.NullBulk e =
      let is = layers_tell v NullBulk (e ∙ sym layer-null) in
      let f = ap value_form is ∙ form-null in
      record { kind = A_null; shown = (is, f); told = λ r. ap (λ b. text_kind (b ++ r)) f ∙ kind_two 36 45 A_null [] r null_sign }
  go (Value-F.Array items) e =
      let is = layers_tell v (Array items) (e ∙ sym (layer-array items)) in
      let f = ap value_form is ∙ form-array items in
      record { kind = An_array; shown = (items, is, f); told = λ r. ap (λ b. text_kind (b ++ r)) f ∙ kind_two 42 91 An_array (items_text items) r array_sign }
  go Value-F.NullArray e =
      let is = layers_tell v NullArray (e ∙ sym layer-null_array) in
      let f = ap value_form is ∙ form-null_array in
      record { kind = A_null_array; shown = (is, f); told = λ r. ap (λ b. text_kind (b ++ r)) f ∙ kind_two 42 45 A_null_array [] r null_array_sign }
