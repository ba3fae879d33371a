-- Bindings: which queues an exchange's messages go to.
use Rattle.std.specs.Prelude.{ℕ, Bool, ◌&&◌, ◌==◌, if◌then◌else◌, nat_le, List, [], ◌∷◌, ◌++◌, drop, length, Option, Some, None}
use Rattle.queue_keys.specs.Names.{Bytes, has_front, all_free, is_name}

-- a binding of an exchange
pub record Binding : Type 0 where
  pub routing_key : Bytes
  pub pattern : Bytes
  pub queue : Bytes

-- whether a text may stand in a declaration: at most 255 bytes, none of which parts texts
abbrev pub is_part : Bytes → Bool
is_part x = all_free x && nat_le (length x) 255

-- the member of an exchange's set: routing key, pattern and queue, parted by 06 16 (hexadecimal)
abbrev pub member : Bytes → Bytes → Bytes → Bytes
member r x q = r ++ (6 ∷ 22 ∷ (x ++ (6 ∷ 22 ∷ q)))

-- a byte before the parts, of which the first may begin with the rest of a separator
abbrev pub onto_parts : ℕ → List Bytes → List Bytes
onto_parts b [] = []
onto_parts b (p ∷ ps) = if (b == 6) && has_front (22 ∷ []) p then [] ∷ drop 1 p ∷ ps else (b ∷ p) ∷ ps

-- the parts between the separators
abbrev pub parts : Bytes → List Bytes
parts [] = [] ∷ []
parts (b ∷ bs) = onto_parts b (parts bs)

-- the binding of three parts, of which the last is a lawful name
abbrev pub of_parts : List Bytes → Option Binding
of_parts [] = None
of_parts (r ∷ []) = None
of_parts (r ∷ x ∷ []) = None
of_parts (r ∷ x ∷ q ∷ []) = if is_name q then Some (record { routing_key = r; pattern = x; queue = q }) else None
of_parts (r ∷ x ∷ q ∷ p ∷ ps) = None

-- the binding that a member spells; any other member is passed over
unfoldable pub binding_of : Bytes → Option Binding
binding_of m = of_parts (parts m)
