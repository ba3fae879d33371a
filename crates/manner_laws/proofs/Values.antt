-- Answers are what their tests say.
use Rattle.std.proofs.lemmas.Bool.Decides.{nat_tests}
use Rattle.std.proofs.Common.{arith, ◌≡◌, ℕ, ℤ, suc, List, [], ◌∷◌, true, false, ◌==◌, refl, sym, ap, subst, ◌∙◌, None, Some, Option, map, length}
use Rattle.std.specs.Prelude.{bytes_eq, is_some, option_and_then}
use Rattle.wire_values.specs.Layer.{layer}
use Rattle.wire_values.proofs.Layers.{layer-array, layers_tell}
use Rattle.wire_values.specs.declared.value.Value.{Value}
use Rattle.wire_values.specs.declared.value.Value.TheOpen.{Value-F}
use Rattle.wire_values.specs.declared.value.Value.TheVariants.{Status, Integer, Bulk, NullBulk, Array, NullArray}
use Rattle.store_model.specs.Replies.{pair, bulks}
use Rattle.queue_keys.specs.Names.{Bytes}
use Rattle.command_blocks.specs.Answers.{integers, bulk_in, bulk_of, layer_number, number_of, items_in, items_of, both_texts, pair_among, pair_of}
use Rattle.manner_laws.specs.Cursor.{is_status, is_null_bulk, is_null_array, all_integers, are_integers, are_two_integers, onto_texts, texts_among, bulk_texts_of}
use Rattle.manner_laws.proofs.Tests.{false_true, none_some, some_parts, bytes_true, and_true, both_true}

-- ---- the layers of values

layer-Status : (t : Bytes) → layer (Status t) ≡ Value-F.Status t
unfolding layer
layer-Status t = refl

layer-Integer : (z : ℤ) → layer (Integer z) ≡ Value-F.Integer z
unfolding layer
layer-Integer z = refl

layer-Bulk : (b : Bytes) → layer (Bulk b) ≡ Value-F.Bulk b
unfolding layer
layer-Bulk b = refl

layer-NullBulk : layer NullBulk ≡ Value-F.NullBulk
unfolding layer
layer-NullBulk = refl

layer-NullArray : layer NullArray ≡ Value-F.NullArray
unfolding layer
layer-NullArray = refl

-- ---- what tests say

pub status_is : (t : Bytes) (r : Value) → is_status t (layer r) ≡ true → r ≡ Status t
status_is t r h = go (layer r) refl h
  where
    go : (x : Value-F Value) → layer r ≡ x → is_status t x ≡ true → r ≡ Status t
    go (Value-F.Status u) e h = layers_tell r (Status t) (e ∙ ap (λ (y : Bytes). Value-F.Status y) (sym (bytes_true t u h)) ∙ sym (layer-Status t))
    go (Value-F.Error u) e h = false_true h
    go (Value-F.Integer z) e h = false_true h
    go (Value-F.Bulk b) e h = false_true h
    go Value-F.NullBulk e h = false_true h
    go (Value-F.Array vs) e h = false_true h
    go Value-F.NullArray e h = false_true h

pub null_bulk_is : (r : Value) → is_null_bulk (layer r) ≡ true → r ≡ NullBulk
null_bulk_is r h = go (layer r) refl h
  where
    go : (x : Value-F Value) → layer r ≡ x → is_null_bulk x ≡ true → r ≡ NullBulk
    go Value-F.NullBulk e h = layers_tell r NullBulk (e ∙ sym layer-NullBulk)
    go (Value-F.Status u) e h = false_true h
    go (Value-F.Error u) e h = false_true h
    go (Value-F.Integer z) e h = false_true h
    go (Value-F.Bulk b) e h = false_true h
    go (Value-F.Array vs) e h = false_true h
    go Value-F.NullArray e h = false_true h

pub null_array_is : (r : Value) → is_null_array (layer r) ≡ true → r ≡ NullArray
null_array_is r h = go (layer r) refl h
  where
    go : (x : Value-F Value) → layer r ≡ x → is_null_array x ≡ true → r ≡ NullArray
    go Value-F.NullArray e h = layers_tell r NullArray (e ∙ sym layer-NullArray)
    go (Value-F.Status u) e h = false_true h
    go (Value-F.Error u) e h = false_true h
    go (Value-F.Integer z) e h = false_true h
    go (Value-F.Bulk b) e h = false_true h
    go (Value-F.Array vs) e h = false_true h
    go Value-F.NullBulk e h = false_true h

pub number_is : (r : Value) (z : ℤ) → number_of r ≡ Some z → r ≡ Integer z
number_is r z h = go (layer r) refl h
  where
    go : (x : Value-F Value) → layer r ≡ x → layer_number x ≡ Some z → r ≡ Integer z
    go (Value-F.Integer y) e h = layers_tell r (Integer z) (e ∙ ap (λ (y : ℤ). Value-F.Integer y) (some_parts y z h) ∙ sym (layer-Integer z))
    go (Value-F.Status u) e h = none_some _ z h
    go (Value-F.Error u) e h = none_some _ z h
    go (Value-F.Bulk b) e h = none_some _ z h
    go Value-F.NullBulk e h = none_some _ z h
    go (Value-F.Array vs) e h = none_some _ z h
    go Value-F.NullArray e h = none_some _ z h

pub bulk_is : (r : Value) (b : Bytes) → bulk_of r ≡ Some b → r ≡ Bulk b
bulk_is r b h = go (layer r) refl h
  where
    go : (x : Value-F Value) → layer r ≡ x → bulk_in x ≡ Some b → r ≡ Bulk b
    go (Value-F.Bulk y) e h = layers_tell r (Bulk b) (e ∙ ap (λ (y : Bytes). Value-F.Bulk y) (some_parts y b h) ∙ sym (layer-Bulk b))
    go (Value-F.Status u) e h = none_some _ b h
    go (Value-F.Error u) e h = none_some _ b h
    go (Value-F.Integer z) e h = none_some _ b h
    go Value-F.NullBulk e h = none_some _ b h
    go (Value-F.Array vs) e h = none_some _ b h
    go Value-F.NullArray e h = none_some _ b h

pub items_are : (r : Value) (vs : List Value) → items_of r ≡ Some vs → r ≡ Array vs
items_are r vs h = go (layer r) refl h
  where
    go : (x : Value-F Value) → layer r ≡ x → items_in x ≡ Some vs → r ≡ Array vs
    go (Value-F.Array y) e h = layers_tell r (Array vs) (e ∙ ap (λ (y : List Value). Value-F.Array y) (some_parts y vs h) ∙ sym (layer-array vs))
    go (Value-F.Status u) e h = none_some _ vs h
    go (Value-F.Error u) e h = none_some _ vs h
    go (Value-F.Integer z) e h = none_some _ vs h
    go (Value-F.Bulk b) e h = none_some _ vs h
    go Value-F.NullBulk e h = none_some _ vs h
    go Value-F.NullArray e h = none_some _ vs h

-- ---- and what values pass them

pub number_of-Integer : (z : ℤ) → number_of (Integer z) ≡ Some z
number_of-Integer z = ap layer_number (layer-Integer z)

pub bulk_of-Bulk : (b : Bytes) → bulk_of (Bulk b) ≡ Some b
bulk_of-Bulk b = ap bulk_in (layer-Bulk b)

pub items_of-Array : (vs : List Value) → items_of (Array vs) ≡ Some vs
items_of-Array vs = ap items_in (layer-array vs)

pub is_status-Status : (t : Bytes) → bytes_eq t t ≡ true → is_status t (layer (Status t)) ≡ true
is_status-Status t h = ap (is_status t) (layer-Status t) ∙ h

pub null_bulk_itself : is_null_bulk (layer NullBulk) ≡ true
null_bulk_itself = ap is_null_bulk layer-NullBulk

pub null_array_itself : is_null_array (layer NullArray) ≡ true
null_array_itself = ap is_null_array layer-NullArray

pub is_null_bulk-Bulk : (b : Bytes) → is_null_bulk (layer (Bulk b)) ≡ false
is_null_bulk-Bulk b = ap is_null_bulk (layer-Bulk b)

pub is_null_bulk-Status : (t : Bytes) → is_null_bulk (layer (Status t)) ≡ false
is_null_bulk-Status t = ap is_null_bulk (layer-Status t)

pub is_null_array-Array : (vs : List Value) → is_null_array (layer (Array vs)) ≡ false
is_null_array-Array vs = ap is_null_array (layer-array vs)

-- ---- arrays

is_there : {A : Type 0} (o : Option A) → is_some o ≡ true → (x : A) × (o ≡ Some x)
is_there None e = false_true e
is_there (Some x) e = (x, refl)

pub some_number : (r : Value) → is_some (number_of r) ≡ true → (z : ℤ) × (r ≡ Integer z)
some_number r h = let x = is_there (number_of r) h in (x.0, number_is r x.0 x.1)

pub some_items : (r : Value) → is_some (items_of r) ≡ true → (vs : List Value) × (r ≡ Array vs)
some_items r h = let x = is_there (items_of r) h in (x.0, items_are r x.0 x.1)

all_integers_are : (vs : List Value) → all_integers vs ≡ true → (zs : List ℤ) × (vs ≡ map Integer zs)
all_integers_are [] h = ([], refl)
all_integers_are (v ∷ vs) h =
    let x = and_true (is_some (number_of v)) (all_integers vs) h in
    let y = some_number v x.0 in
    let z = all_integers_are vs x.1 in
    (y.0 ∷ z.0, λ i. y.1 i ∷ z.1 i)

integers_all : (zs : List ℤ) → all_integers (map Integer zs) ≡ true
integers_all [] = refl
integers_all (z ∷ zs) = both_true (is_some (number_of (Integer z))) (all_integers (map Integer zs)) (ap is_some (number_of-Integer z)) (integers_all zs)

pub are_integers_are : (r : Value) → are_integers (items_of r) ≡ true → (zs : List ℤ) × (r ≡ integers zs)
are_integers_are r h = go (items_of r) refl h
  where
    go : (o : Option (List Value)) → items_of r ≡ o → are_integers o ≡ true → (zs : List ℤ) × (r ≡ integers zs)
    go None e h = false_true h
    go (Some vs) e h = let x = all_integers_are vs h in (x.0, items_are r vs e ∙ ap Array x.1)

pub are_integers-integers : (zs : List ℤ) → are_integers (items_of (integers zs)) ≡ true
are_integers-integers zs = ap are_integers (items_of-Array (map Integer zs)) ∙ integers_all zs

not_two : (k : ℕ) → (suc (suc (suc k)) == 2) ≡ true → ⊥
not_two k e = grind (arith, nat_tests)

two_are : (zs : List ℤ) → (length (map Integer zs) == 2) ≡ true → (x : ℤ) × (y : ℤ) × (zs ≡ x ∷ y ∷ [])
two_are [] h = false_true h
two_are (x ∷ []) h = false_true h
two_are (x ∷ y ∷ []) h = (x, y, refl)
two_are (x ∷ y ∷ z ∷ zs) h = absurd (not_two (length (map Integer zs)) h)

pub are_two_are : (r : Value) → are_two_integers (items_of r) ≡ true → (x : ℤ) × (y : ℤ) × (r ≡ integers (x ∷ y ∷ []))
are_two_are r h = go (items_of r) refl h
  where
    go : (o : Option (List Value)) → items_of r ≡ o → are_two_integers o ≡ true → (x : ℤ) × (y : ℤ) × (r ≡ integers (x ∷ y ∷ []))
    go None e h = false_true h
    go (Some vs) e h =
        let a = and_true (length vs == 2) (all_integers vs) h in
        let x = all_integers_are vs a.1 in
        let t = two_are x.0 (subst (λ z. (length z == 2) ≡ true) x.1 a.0) in
        (t.0, t.1, items_are r vs e ∙ ap Array x.1 ∙ ap integers t.2)

pub are_two_integers-integers : (x y : ℤ) → are_two_integers (items_of (integers (x ∷ y ∷ []))) ≡ true
are_two_integers-integers x y = ap are_two_integers (items_of-Array (Integer x ∷ Integer y ∷ [])) ∙ integers_all (x ∷ y ∷ [])

onto_texts_are : (o : Option Bytes) (p : Option (List Bytes)) (ms : List Bytes) → onto_texts o p ≡ Some ms → (b : Bytes) × (bs : List Bytes) × (o ≡ Some b) × (p ≡ Some bs) × (b ∷ bs ≡ ms)
onto_texts_are None p ms h = none_some _ ms h
onto_texts_are (Some b) None ms h = none_some _ ms h
onto_texts_are (Some b) (Some bs) ms h = (b, bs, refl, refl, some_parts (b ∷ bs) ms h)

texts_among_are : (vs : List Value) (ms : List Bytes) → texts_among vs ≡ Some ms → vs ≡ map Bulk ms
texts_among_are [] ms h = ap (map Bulk) (some_parts [] ms h)
texts_among_are (v ∷ vs) ms h =
    let x = onto_texts_are (bulk_of v) (texts_among vs) ms h in
    (λ i. bulk_is v x.0 x.2 i ∷ texts_among_are vs x.1 x.3 i) ∙ ap (map Bulk) x.4

texts_among-map : (ms : List Bytes) → texts_among (map Bulk ms) ≡ Some ms
texts_among-map [] = refl
texts_among-map (m ∷ ms) = λ i. onto_texts (bulk_of-Bulk m i) (texts_among-map ms i)

pub texts_are : (r : Value) (ms : List Bytes) → bulk_texts_of r ≡ Some ms → r ≡ bulks ms
texts_are r ms h = go (items_of r) refl h
  where
    go : (o : Option (List Value)) → items_of r ≡ o → option_and_then texts_among o ≡ Some ms → r ≡ bulks ms
    go None e h = none_some _ ms h
    go (Some vs) e h = items_are r vs e ∙ ap Array (texts_among_are vs ms h)

pub texts_of-bulks : (ms : List Bytes) → bulk_texts_of (bulks ms) ≡ Some ms
texts_of-bulks ms = ap (option_and_then texts_among) (items_of-Array (map Bulk ms)) ∙ texts_among-map ms

both_are : (o p : Option Bytes) (x : Bytes × Bytes) → both_texts o p ≡ Some x → (o ≡ Some x.0) × (p ≡ Some x.1)
both_are None p x h = none_some _ x h
both_are (Some k) None x h = none_some _ x h
both_are (Some k) (Some v) x h = let e = some_parts (k, v) x h in (ap (λ (y : Bytes × Bytes). Some y.0) e, ap (λ (y : Bytes × Bytes). Some y.1) e)

pair_among_is : (vs : List Value) (x : Bytes × Bytes) → pair_among vs ≡ Some x → vs ≡ Bulk x.0 ∷ Bulk x.1 ∷ []
pair_among_is [] x h = none_some _ x h
pair_among_is (k ∷ []) x h = none_some _ x h
pair_among_is (k ∷ v ∷ []) x h = let e = both_are (bulk_of k) (bulk_of v) x h in (λ i. bulk_is k x.0 e.0 i ∷ bulk_is v x.1 e.1 i ∷ [])
pair_among_is (k ∷ v ∷ w ∷ ws) x h = none_some _ x h

pub pair_is : (r : Value) (x : Bytes × Bytes) → pair_of r ≡ Some x → r ≡ pair x.0 x.1
pair_is r x h = go (items_of r) refl h
  where
    go : (o : Option (List Value)) → items_of r ≡ o → option_and_then pair_among o ≡ Some x → r ≡ pair x.0 x.1
    go None e h = none_some _ x h
    go (Some vs) e h = items_are r vs e ∙ ap Array (pair_among_is vs x h)

pub pair_of-pair : (k v : Bytes) → pair_of (pair k v) ≡ Some (k, v)
pair_of-pair k v = ap (option_and_then pair_among) (items_of-Array (Bulk k ∷ Bulk v ∷ [])) ∙ (λ i. both_texts (bulk_of-Bulk k i) (bulk_of-Bulk v i))
