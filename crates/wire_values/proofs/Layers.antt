-- Values and their outermost layers tell each other.
use Rattle.std.proofs.Common.{◌≡◌, List, ap, sym, ◌∙◌}
use Rattle.wire_values.specs.Layer.{layer}
use Rattle.wire_values.specs.declared.value.Value.TheOpen.{Value-F}
use Rattle.wire_values.specs.declared.value.Value.TheVariants.{Array, rolls-Array}
use Rattle.wire_values.specs.declared.value.Value.{Value, out-Value, roll-Value, out-roll-Value, roll-out-Value}

-- the layer of an array
pub layer-array : (xs : List Value) → layer (Array xs) ≡ Value-F.Array xs
unfolding layer
layer-array xs = ap out-Value (sym (rolls-Array xs)) ∙ out-roll-Value (Value-F.Array xs)

-- values with one layer are one
pub layers_tell : (v w : Value) → layer v ≡ layer w → v ≡ w
unfolding layer
layers_tell v w e = sym (roll-out-Value v) ∙ ap roll-Value e ∙ roll-out-Value w
