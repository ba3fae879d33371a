-- Key layouts: what stands before each key, and the priority steps.
use Rattle.std.specs.Prelude.{◌≡◌, ◌⊎◌, ℕ, Bool, true, false, ◌&&◌, ◌||◌, ◌==◌, not, nat_le, nat_lt, if◌then◌else◌, List, [], ◌∷◌, length}
use Rattle.queue_keys.specs.Names.{Bytes, same}

-- a layout
pub record Layout : Type 0 where
  pub prefix : Bytes  -- what stands before each key
  pub steps : List ℕ  -- the priority steps

-- no prefix, and the four steps of Kombu
abbrev pub plain : Layout
plain = record { prefix = []; steps = 0 ∷ 3 ∷ 6 ∷ 9 ∷ [] }

-- whether a prefix may have the byte: a letter, a digit or one of _ . : -
abbrev pub is_prefix_byte : ℕ → Bool
is_prefix_byte b = (nat_le 65 b && nat_le b 90) || (nat_le 97 b && nat_le b 122) || (nat_le 48 b && nat_le b 58) || (b == 95) || (b == 46) || (b == 45)

-- whether a prefix may have all the bytes
abbrev pub all_prefix_bytes : Bytes → Bool
all_prefix_bytes [] = true
all_prefix_bytes (b ∷ bs) = is_prefix_byte b && all_prefix_bytes bs

-- whether it is a lawful prefix: at most 64 bytes of these, and not - alone, which stands for none
abbrev pub is_prefix : Bytes → Bool
is_prefix p = nat_le (length p) 64 && all_prefix_bytes p && not (same (45 ∷ []) p)

-- whether the steps rise from above this one, and end with 9 at most
abbrev pub rises : ℕ → List ℕ → Bool
rises s [] = nat_le s 9
rises s (t ∷ ts) = nat_lt s t && rises t ts

-- whether the steps rise from 0
abbrev pub rises_from_zero : List ℕ → Bool
rises_from_zero [] = false
rises_from_zero (s ∷ ss) = (s == 0) && rises s ss

-- whether a layout is lawful: its prefix is, and its steps rise from 0 to at most 9
abbrev pub is_layout : Layout → Bool
is_layout l = is_prefix l.prefix && rises_from_zero l.steps

-- it is one of the steps
abbrev pub HasStep : List ℕ → ℕ → Type 0
HasStep [] s = ⊥
HasStep (t ∷ ts) s = (t ≡ s) ⊎ HasStep ts s

-- the greatest of the steps from this one on that isn't above the priority
abbrev pub step_from : ℕ → List ℕ → ℕ → ℕ
step_from s [] p = s
step_from s (t ∷ ts) p = if nat_le t p then step_from t ts p else s

-- the step of a priority: the greatest that isn't above it
abbrev pub step_of : Layout → ℕ → ℕ
step_of l p = step_from 0 l.steps p
