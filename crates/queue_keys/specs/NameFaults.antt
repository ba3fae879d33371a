-- Why a text is no lawful name of a queue, by the first reason that holds.
use Rattle.std.specs.Prelude.{ℕ, not, nat_lt, if◌then◌else◌, [], ◌∷◌, length, position, Option, None, Some}
use Rattle.queue_keys.specs.Names.{Bytes, is_free, is_reserved}
use Rattle.queue_keys.specs.declared.queue_name.NameFault.{NameFault}
use Rattle.queue_keys.specs.declared.queue_name.NameFault.TheVariants.{Empty, Long, Byte, Reserved, Memory}

-- the place of the first byte that parts texts, 06 or 16 (hexadecimal)
abbrev pub parting_place : Bytes → Option ℕ
parting_place q = position (λ b. not (is_free b)) q

-- the fault of a text of lawful length, by the place of its first byte that parts texts
abbrev pub byte_fault : Bytes → Option ℕ → Option NameFault
byte_fault q None = if is_reserved q then Some Reserved else None
byte_fault q (Some i) = Some (Byte i)

-- the first fault: no bytes, more than 255, one that parts texts, or a name that is kept for another key
unfoldable pub name_fault : Bytes → Option NameFault
name_fault [] = Some Empty
name_fault (b ∷ bs) = if nat_lt (length bs) 255 then byte_fault (b ∷ bs) (parting_place (b ∷ bs)) else Some Long

-- the fault that an answer tells: want of memory tells none
abbrev pub told_fault : NameFault → Option NameFault
told_fault Empty = Some Empty
told_fault Long = Some Long
told_fault (Byte i) = Some (Byte i)
told_fault Reserved = Some Reserved
told_fault Memory = None
