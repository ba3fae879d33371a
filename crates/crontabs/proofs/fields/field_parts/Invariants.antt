use Rattle.std.proofs.Common.{◌≡◌, ◌++◌, drop, map}
use Rattle.std.specs.Prelude.{option_map}
use Rattle.crontabs.specs.FieldTexts.{field_parts}
use Rattle.crontabs.proofs.fields.field_parts.Given as goal

-- what was found and what the rest spells are what all parts spell
abbrev pub invariant-loop-part : goal.invariant-loop-part
invariant-loop-part l = option_map (λ rest. l.found ++ rest) (field_parts l.low l.high (map (λ part. part.now) (drop l.part-index l.parts))) ≡ field_parts l.low l.high (map (λ part. part.now) l.parts)
