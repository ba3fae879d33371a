-- An answer is what was read off it.
use Rattle.std.proofs.Common.{◌≡◌, List, [], ◌∷◌, Option, None, Some, true, refl, ap, sym, ◌∙◌, ℤ, unwrap_or}
use Rattle.std.specs.Prelude.{map, option_and_then, bytes_eq}
use Rattle.std.proofs.lemmas.Slice.Eq.{bytes_eq-Decides}
use Rattle.wire_values.proofs.Layers.{layer-array, layers_tell}
use Rattle.wire_values.specs.Layer.{layer}
use Rattle.wire_values.specs.declared.value.Value.TheOpen.{Value-F}
use Rattle.wire_values.specs.declared.value.Value.TheVariants.{Status, Integer, Bulk, NullBulk, Array, NullArray}
use Rattle.wire_values.specs.declared.value.Value.{Value}
use Rattle.store_model.specs.Replies.{bulks, pair}
use Rattle.queue_keys.specs.Names.{Bytes}
use Rattle.command_blocks.specs.Answers.{integers, bulk_in, bulk_of, layer_number, number_of, items_in, items_of, both_texts, pair_among, pair_of}
use Rattle.command_blocks.specs.Scripts.{status_in, null_array_in, null_bulk_in, onto_told, each_told, texts_of}

pub some_is : {A : Type 0} (x y : A) → Some x ≡ Some y → x ≡ y
some_is x y e = ap (λ o. unwrap_or o x) e

-- ---- texts

pub eq_true : (a b : Bytes) → bytes_eq a b ≡ true → a ≡ b
eq_true a b e = (bytes_eq-Decides a b).0 e

pub eq_itself : (a : Bytes) → bytes_eq a a ≡ true
eq_itself a = (bytes_eq-Decides a a).1 refl

-- ---- layers

pub layer-Status : (s : Bytes) → layer (Status s) ≡ Value-F.Status s
unfolding layer
layer-Status s = refl

layer-Integer : (z : ℤ) → layer (Integer z) ≡ Value-F.Integer z
unfolding layer
layer-Integer z = refl

pub layer-Bulk : (b : Bytes) → layer (Bulk b) ≡ Value-F.Bulk b
unfolding layer
layer-Bulk b = refl

pub layer-NullBulk : layer NullBulk ≡ Value-F.NullBulk
unfolding layer
layer-NullBulk = refl

pub layer-NullArray : layer NullArray ≡ Value-F.NullArray
unfolding layer
layer-NullArray = refl

-- ---- what is read

pub status_is : (text : Bytes) (r : Value) → status_in text (layer r) ≡ true → r ≡ Status text
status_is text r e = layers_tell r (Status text) (by (layer r) e ∙ sym (layer-Status text)) where
  by : (f : Value-F Value) → status_in text f ≡ true → f ≡ Value-F.Status text
  by (Value-F.Status s) e = ap Value-F.Status (eq_true s text e)
  by other e = cc

pub null_array_is : (r : Value) → null_array_in (layer r) ≡ true → r ≡ NullArray
null_array_is r e = layers_tell r NullArray (by (layer r) e ∙ sym layer-NullArray) where
  by : (f : Value-F Value) → null_array_in f ≡ true → f ≡ Value-F.NullArray
  by Value-F.NullArray e = refl
  by other e = cc

pub null_bulk_is : (r : Value) → null_bulk_in (layer r) ≡ true → r ≡ NullBulk
null_bulk_is r e = layers_tell r NullBulk (by (layer r) e ∙ sym layer-NullBulk) where
  by : (f : Value-F Value) → null_bulk_in f ≡ true → f ≡ Value-F.NullBulk
  by Value-F.NullBulk e = refl
  by other e = cc

pub number_is : (r : Value) (z : ℤ) → number_of r ≡ Some z → r ≡ Integer z
number_is r z e = layers_tell r (Integer z) (by (layer r) e ∙ sym (layer-Integer z)) where
  by : (f : Value-F Value) → layer_number f ≡ Some z → f ≡ Value-F.Integer z
  by (Value-F.Integer y) e = ap Value-F.Integer (some_is y z e)
  by other e = cc

pub bulk_is : (r : Value) (b : Bytes) → bulk_of r ≡ Some b → r ≡ Bulk b
bulk_is r b e = layers_tell r (Bulk b) (by (layer r) e ∙ sym (layer-Bulk b)) where
  by : (f : Value-F Value) → bulk_in f ≡ Some b → f ≡ Value-F.Bulk b
  by (Value-F.Bulk y) e = ap Value-F.Bulk (some_is y b e)
  by other e = cc

pub items_are : (r : Value) (vs : List Value) → items_of r ≡ Some vs → r ≡ Array vs
items_are r vs e = layers_tell r (Array vs) (by (layer r) e ∙ sym (layer-array vs)) where
  by : (f : Value-F Value) → items_in f ≡ Some vs → f ≡ Value-F.Array vs
  by (Value-F.Array ys) e = ap Value-F.Array (some_is ys vs e)
  by other e = cc

-- what a chain gave, its first part gave something for
pub and_then_is : {A B : Type 0} (f : A → Option B) (o : Option A) (y : B) → option_and_then f o ≡ Some y → (x : A) × (o ≡ Some x) × (f x ≡ Some y)
and_then_is f None y e = cc
and_then_is f (Some x) y e = (x, refl, e)

onto_is : {A : Type 0} (a : Option A) (b : Option (List A)) (zs : List A) → onto_told a b ≡ Some zs → (x : A) × (xs : List A) × (a ≡ Some x) × (b ≡ Some xs) × (x ∷ xs ≡ zs)
onto_is None b zs e = cc
onto_is (Some x) None zs e = cc
onto_is (Some x) (Some xs) zs e = (x, xs, refl, refl, some_is (x ∷ xs) zs e)

told_are : {A : Type 0} (f : Value → Option A) (make : A → Value) → ((v : Value) (x : A) → f v ≡ Some x → v ≡ make x) → (vs : List Value) (xs : List A) → each_told f vs ≡ Some xs → vs ≡ map make xs
told_are f make is [] xs e = ap (map make) (some_is [] xs e)
told_are f make is (v ∷ vs) xs e =
    let o = onto_is (f v) (each_told f vs) xs e in
    let h : v ≡ make o.0 = is v o.0 o.2 in
    let t : vs ≡ map make o.1 = told_are f make is vs o.1 o.3 in
    (λ i. h i ∷ t i) ∙ ap (map make) o.4

pub texts_are : (r : Value) (ms : List Bytes) → texts_of r ≡ Some ms → r ≡ bulks ms
texts_are r ms e =
    let a = and_then_is (each_told bulk_of) (items_of r) ms e in
    items_are r a.0 a.1 ∙ ap Array (told_are bulk_of Bulk bulk_is a.0 ms a.2)

pub numbers_are : (r : Value) (zs : List ℤ) → option_and_then (each_told number_of) (items_of r) ≡ Some zs → r ≡ integers zs
numbers_are r zs e =
    let a = and_then_is (each_told number_of) (items_of r) zs e in
    items_are r a.0 a.1 ∙ ap Array (told_are number_of Integer number_is a.0 zs a.2)

both_is : (a b : Option Bytes) (p : Bytes × Bytes) → both_texts a b ≡ Some p → (a ≡ Some p.0) × (b ≡ Some p.1)
both_is None b p e = cc
both_is (Some k) None p e = cc
both_is (Some k) (Some v) p e = let h = some_is (k, v) p e in (ap (λ q. Some q.0) h, ap (λ q. Some q.1) h)

pub pair_is : (r : Value) (p : Bytes × Bytes) → pair_of r ≡ Some p → r ≡ pair p.0 p.1
pair_is r p e = let a = and_then_is pair_among (items_of r) p e in items_are r a.0 a.1 ∙ ap Array (by a.0 a.2) where
  by : (vs : List Value) → pair_among vs ≡ Some p → vs ≡ Bulk p.0 ∷ Bulk p.1 ∷ []
  by [] e = cc
  by (k ∷ []) e = cc
  by (k ∷ v ∷ []) e =
      let b = both_is (bulk_of k) (bulk_of v) p e in
      let h = bulk_is k p.0 b.0 in
      let t = bulk_is v p.1 b.1 in
      λ i. h i ∷ t i ∷ []
  by (k ∷ v ∷ w ∷ ws) e = cc

-- ---- and is read so

pub number_of-Integer : (z : ℤ) → number_of (Integer z) ≡ Some z
number_of-Integer z = ap layer_number (layer-Integer z)

pub items_of-Array : (vs : List Value) → items_of (Array vs) ≡ Some vs
items_of-Array vs = ap items_in (layer-array vs)

pub bulk_of-Bulk : (b : Bytes) → bulk_of (Bulk b) ≡ Some b
bulk_of-Bulk b = ap bulk_in (layer-Bulk b)

told_made : {A : Type 0} (f : Value → Option A) (make : A → Value) → ((x : A) → f (make x) ≡ Some x) → (xs : List A) → each_told f (map make xs) ≡ Some xs
told_made f make h [] = refl
told_made f make h (x ∷ xs) = λ i. onto_told (h x i) (told_made f make h xs i)

pub texts_of-bulks : (ms : List Bytes) → texts_of (bulks ms) ≡ Some ms
texts_of-bulks ms = ap (option_and_then (each_told bulk_of)) (items_of-Array (map Bulk ms)) ∙ told_made bulk_of Bulk bulk_of-Bulk ms

pub numbers_in-integers : (zs : List ℤ) → option_and_then (each_told number_of) (items_of (integers zs)) ≡ Some zs
numbers_in-integers zs = ap (option_and_then (each_told number_of)) (items_of-Array (map Integer zs)) ∙ told_made number_of Integer number_of-Integer zs

pub pair_of-pair : (k v : Bytes) → pair_of (pair k v) ≡ Some (k, v)
pair_of-pair k v = ap (option_and_then pair_among) (items_of-Array (Bulk k ∷ Bulk v ∷ [])) ∙ (λ i. both_texts (bulk_of-Bulk k i) (bulk_of-Bulk v i))
