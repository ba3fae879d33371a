-- What a lookup gives: said by the members of an exchange's set and by the order, not by a way to find it.
use Rattle.std.specs.Prelude.{◌≡◌, ◌⊎◌, ◌↔◌, true, List, [], ◌∷◌, ◌++◌, Some}
use Rattle.std.specs.declared.cmp.Ordering.TheVariants.{Less}
use Rattle.wire_values.specs.Order.{bytes_cmp}
use Rattle.queue_keys.specs.Bindings.{Binding, binding_of, member}
use Rattle.queue_keys.specs.Lookup.{lookup}
use Rattle.queue_keys.specs.Names.{Bytes, is_name}
use Rattle.queue_keys.specs.Patterns.{matches}
use Rattle.queue_keys.specs.QueueKeys.{Among}

-- nowhere in the text do the two bytes that part the texts of a member, 06 16 (hexadecimal), stand in a row
abbrev pub IsUnparted : Bytes → Type 0
IsUnparted x = (before later : Bytes) → x ≡ before ++ 6 ∷ 22 ∷ later → ⊥

-- the member spells this binding: its routing key, its pattern and the lawful name of its queue, parted by these bytes
pub record SpellsBinding (m : Bytes) (b : Binding) : Type 0 where
  pub spelled : m ≡ member b.routing_key b.pattern b.queue
  pub key : IsUnparted b.routing_key
  pub pattern : IsUnparted b.pattern
  pub queue : is_name b.queue ≡ true

-- a member is read as a binding exactly where it spells it
abbrev pub MembersSpell : Type 0
MembersSpell = (m : Bytes) (b : Binding) → (binding_of m ≡ Some b) ↔ SpellsBinding m b

-- a message with this routing key goes to the binding: the binding has no pattern and the same key (a direct exchange), or its pattern matches the key (a topic exchange)
abbrev pub GoesTo : Bytes → Binding → Type 0
GoesTo r b = ((b.pattern ≡ []) × (b.routing_key ≡ r)) ⊎ ((b.pattern ≡ [] → ⊥) × (matches b.pattern r ≡ true))

-- one of the members spells a binding of this queue to which such a message goes
abbrev pub IsBoundQueue : Bytes → List Bytes → Bytes → Type 0
IsBoundQueue r ms q = (m : Bytes) × (b : Binding) × Among m ms × SpellsBinding m b × GoesTo r b × (b.queue ≡ q)

-- it is below each of the others in byte order
abbrev pub IsBelowAll : Bytes → List Bytes → Type 0
IsBelowAll q [] = Unit {0}
IsBelowAll q (x ∷ xs) = (bytes_cmp q x ≡ Less) × IsBelowAll q xs

-- each is below all that follow it; so none stands twice
abbrev pub AreInByteOrder : List Bytes → Type 0
AreInByteOrder [] = Unit {0}
AreInByteOrder (x ∷ xs) = IsBelowAll x xs × AreInByteOrder xs

-- these are just the queues that some member binds for the routing key, each once, in byte order
pub record IsLookup (r : Bytes) (ms qs : List Bytes) : Type 0 where
  pub order : AreInByteOrder qs
  pub holds : (q : Bytes) → Among q qs ↔ IsBoundQueue r ms q

-- a lookup gives them
abbrev pub LookupsTell : Type 0
LookupsTell = (r : Bytes) (ms : List Bytes) → IsLookup r ms (lookup r ms)

-- and no other list is so
abbrev pub OneLookup : Type 0
OneLookup = (r : Bytes) (ms qs : List Bytes) → IsLookup r ms qs → qs ≡ lookup r ms
