-- The moments of a clock that goes on by a step at each look.
use Rattle.std.specs.Prelude.{if◌then◌else◌, min, nat_eq, ℕ, ◌*◌, ◌+◌, ◌^◌, ◌≡◌}

-- the moment that it answers after so many looks: where it began, and later no moment past 2^59
abbrev pub step_moment : ℕ → ℕ → ℕ → ℕ
step_moment start step looks = if nat_eq looks 0 then start else min (start + step * looks) (2 ^ 59)

-- a moment that it answers after some looks
abbrev pub IsStepMoment : ℕ → ℕ → ℕ → Type 0
IsStepMoment start step moment = (looks : ℕ) × (moment ≡ step_moment start step looks)
