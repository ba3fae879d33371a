-- Answers tell what they are.
use Rattle.std.proofs.Common.{List, None, Some, [], ap, false, refl, sym, true, unwrap_or, ℤ, ◌∙◌, ◌∷◌, ◌≡◌, ◌⊎◌}
use Rattle.wire_values.proofs.Layers.{layer-array, layers_tell}
use Rattle.wire_values.specs.Layer.{layer}
use Rattle.wire_values.specs.declared.value.Value.{Value}
use Rattle.wire_values.specs.declared.value.Value.TheOpen.{Value-F}
use Rattle.wire_values.specs.declared.value.Value.TheVariants.{Array, Bulk, Error, Integer, NullArray, Status}
use Rattle.store_model.specs.Replies.{pair}
use Rattle.store_laws.proofs.Maps.{same-refl, same_false, same_or}
use Rattle.command_blocks.specs.Answers.{bulk_of, items_in, items_of, number_of, pair_of}
use Rattle.queue_keys.specs.Names.{Bytes, same}

-- an integer tells its number
pub number_of-Integer : (z : ℤ) → number_of (Integer z) ≡ Some z
unfolding layer
number_of-Integer z = refl

-- a bulk string tells its bytes
pub bulk_of-Bulk : (b : Bytes) → bulk_of (Bulk b) ≡ Some b
unfolding layer
bulk_of-Bulk b = refl

-- what is no integer tells no number
pub number_of-Status : (b : Bytes) → number_of (Status b) ≡ None
unfolding layer
number_of-Status b = refl

-- nor does an error
pub number_of-Error : (b : Bytes) → number_of (Error b) ≡ None
unfolding layer
number_of-Error b = refl

-- an array tells its values
pub items_of-Array : (vs : List Value) → items_of (Array vs) ≡ Some vs
items_of-Array vs = ap items_in (layer-array vs)

-- what is no array tells none
pub items_of-NullArray : items_of NullArray ≡ None
unfolding layer
items_of-NullArray = refl

-- nor does a status
pub items_of-Status : (b : Bytes) → items_of (Status b) ≡ None
unfolding layer
items_of-Status b = refl

-- nor an error
pub items_of-Error : (b : Bytes) → items_of (Error b) ≡ None
unfolding layer
items_of-Error b = refl

-- what BRPOP answers tells the key and the element
pub pair_of-pair : (k v : Bytes) → pair_of (pair k v) ≡ Some (k, v)
pair_of-pair k v = rw (items_of-Array (Bulk k ∷ Bulk v ∷ []), bulk_of-Bulk k, bulk_of-Bulk v) refl

some_parts : {A : Type 0} (x y : A) → Some x ≡ Some y → x ≡ y
some_parts x y e = ap (λ o. unwrap_or o x) e

-- arrays tell their values
pub array_parts : (vs ws : List Value) → Array vs ≡ Array ws → vs ≡ ws
array_parts vs ws e = some_parts vs ws (sym (items_of-Array vs) ∙ ap items_of e ∙ items_of-Array ws)

-- bulk strings tell their bytes
pub bulk_parts : (v w : Bytes) → Bulk v ≡ Bulk w → v ≡ w
bulk_parts v w e = cc

-- other answers show no element
pub pair_of-NullArray : pair_of NullArray ≡ None
pair_of-NullArray = rw items_of-NullArray refl

-- nor does an error
pub pair_of-Error : (b : Bytes) → pair_of (Error b) ≡ None
pair_of-Error b = rw (items_of-Error b) refl

-- nor a status
pub pair_of-Status : (b : Bytes) → pair_of (Status b) ≡ None
pair_of-Status b = rw (items_of-Status b) refl

-- a text is the same as itself
pub itself : (a : Bytes) → same a a ≡ true
unfolding same
itself a = same-refl a

-- texts that differ are not the same
pub differ_false : (a b : Bytes) → (a ≡ b → ⊥) → same a b ≡ false
unfolding same
differ_false a b n = same_false a b n

-- two texts are one or not
pub text_or : (a b : Bytes) → (a ≡ b) ⊎ (a ≡ b → ⊥)
text_or a b = same_or a b

-- nor the null array
pub number_of-NullArray : number_of NullArray ≡ None
unfolding layer
number_of-NullArray = refl

-- an answer with values is their array
pub array_of : (v : Value) (xs : List Value) → items_of v ≡ Some xs → v ≡ Array xs
array_of v xs e = go (layer v) refl e
  where
    go : (l : Value-F Value) → layer v ≡ l → items_in l ≡ Some xs → v ≡ Array xs
    go (Value-F.Array ys) is f = layers_tell v (Array xs) (is ∙ ap (λ zs. Value-F.Array zs) (some_parts ys xs f) ∙ sym (layer-array xs))
    go other is f = absurd (cc f)
