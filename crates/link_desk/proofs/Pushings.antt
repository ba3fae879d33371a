-- Layers of values that are pushed.
use Rattle.std.proofs.Common.{List, ◌≡◌}
use Rattle.wire_values.specs.Layer.{layer}
use Rattle.wire_values.specs.declared.value.Value.{Value}
use Rattle.wire_values.specs.declared.value.Value.TheOpen.{Value-F}
use Rattle.wire_values.specs.declared.value.Value.TheVariants.{Array}
use Rattle.wire_values.proofs.Layers.{layer-array}

pub array_layer : (xs : List Value) → layer (Array xs) ≡ Value-F.Array xs
array_layer xs = layer-array xs
