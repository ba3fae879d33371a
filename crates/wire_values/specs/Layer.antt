-- The outermost layer of a value, on which definitions match: an array there holds whole values.
use Rattle.wire_values.specs.declared.value.Value.TheBlock.{shown-the_row-Value-0}
use Rattle.wire_values.specs.declared.value.Value.TheOpen.{Value-F}
use Rattle.wire_values.specs.declared.value.Value.{Value, out-Value}
use denote.Hole.Carrier.{hidden, out, shown}

-- a value with its constructor open
unfoldable pub layer : Value → Value-F Value
unfolding out-Value out shown-the_row-Value-0 shown hidden
layer v = out-Value v
