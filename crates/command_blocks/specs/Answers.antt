-- What an answer of the store is, read off its outermost layer.
use Rattle.std.specs.Prelude.{zero, suc, pos, ℤ, Bool, true, false, List, [], ◌∷◌, map, Option, None, Some, option_and_then}
use Rattle.wire_values.specs.Layer.{layer}
use Rattle.wire_values.specs.declared.value.Value.{Value}
use Rattle.wire_values.specs.declared.value.Value.TheOpen.{Value-F}
use Rattle.wire_values.specs.declared.value.Value.TheVariants.{Integer, Array}
use Rattle.queue_keys.specs.Names.{Bytes}

-- an array of integers
abbrev pub integers : List ℤ → Value
integers zs = Array (map Integer zs)

-- the bytes of a layer that is a bulk string
abbrev pub bulk_in : Value-F Value → Option Bytes
bulk_in (Value-F.Bulk b) = Some b
bulk_in other = None

-- the bytes of a bulk string
abbrev pub bulk_of : Value → Option Bytes
bulk_of v = bulk_in (layer v)

-- the integer of a layer that is one
abbrev pub layer_number : Value-F Value → Option ℤ
layer_number (Value-F.Integer z) = Some z
layer_number other = None

-- the integer of an answer that is one
abbrev pub number_of : Value → Option ℤ
number_of v = layer_number (layer v)

-- the values of a layer that is an array
abbrev pub items_in : Value-F Value → Option (List Value)
items_in (Value-F.Array vs) = Some vs
items_in other = None

-- the values of an array
abbrev pub items_of : Value → Option (List Value)
items_of v = items_in (layer v)

-- the two texts, where both are there
abbrev pub both_texts : Option Bytes → Option Bytes → Option (Bytes × Bytes)
both_texts None v = None
both_texts (Some k) None = None
both_texts (Some k) (Some v) = Some (k, v)

-- the two bulk strings of an array of two
abbrev pub pair_among : List Value → Option (Bytes × Bytes)
pair_among [] = None
pair_among (k ∷ []) = None
pair_among (k ∷ v ∷ []) = both_texts (bulk_of k) (bulk_of v)
pair_among (k ∷ v ∷ w ∷ ws) = None

-- the key and the element that an answer to BRPOP shows
abbrev pub pair_of : Value → Option (Bytes × Bytes)
pair_of r = option_and_then pair_among (items_of r)

-- the two numbers, where both are there
abbrev pub both_numbers : Option ℤ → Option ℤ → Option (ℤ × ℤ)
both_numbers None y = None
both_numbers (Some x) None = None
both_numbers (Some x) (Some y) = Some (x, y)

-- the two integers of a list of two
abbrev pub numbers_among : List Value → Option (ℤ × ℤ)
numbers_among [] = None
numbers_among (x ∷ []) = None
numbers_among (x ∷ y ∷ []) = both_numbers (number_of x) (number_of y)
numbers_among (x ∷ y ∷ z ∷ zs) = None

-- the two integers of an array of two
abbrev pub numbers_of : Value → Option (ℤ × ℤ)
numbers_of r = option_and_then numbers_among (items_of r)

-- whether a layer is an error
abbrev pub error_in : Value-F Value → Bool
error_in (Value-F.Error text) = true
error_in other = false

-- whether an answer is an error
abbrev pub is_error : Value → Bool
is_error v = error_in (layer v)

-- the answer is the integer 1
abbrev pub is_one : Option ℤ → Bool
is_one (Some (pos (suc zero))) = true
is_one other = false
