-- How far a pattern's words before its first # pass the first words of a key. Serves the proofs of code.
use Rattle.std.specs.Prelude.{◌≡◌, ◌<◌, ◌≤◌, Bool, true, false, Option}
use Rattle.queue_keys.specs.Names.{Bytes}
use Rattle.queue_keys.specs.Patterns.{any_end, words_match}
use Rattle.lookups.specs.WordsLeft.{text_extent, told, words_in}
use Rattle.lookups.specs.declared.patterns.Run.{Run}
use Rattle.lookups.specs.declared.patterns.Run.TheVariants.{Whole, Stopped, Hash}

-- whether the words of a key pass those of a pattern, and whether some end of them does
abbrev pub all_pass : Option Bytes → Option Bytes → Bool
all_pass p k = words_match (words_in p) (words_in k)

abbrev pub end_passes : Option Bytes → Option Bytes → Bool
end_passes p k = any_end (words_match (words_in p)) (words_in k)

-- the words of p up to a # pass those of k up to a place: what is left after the # and there decides for the whole, and for every end of k
pub record IsUpToHash (p k others left : Option Bytes) : Type 0 where
  pub whole : all_pass p k ≡ end_passes others left
  pub ends : end_passes p k ≡ end_passes others left
  pub shorter : text_extent others < text_extent p
  pub within : text_extent left ≤ text_extent k

-- what a run tells
abbrev pub HasPassed : Option Bytes → Option Bytes → Run → Type 0
HasPassed p k Whole = all_pass p k ≡ true
HasPassed p k Stopped = all_pass p k ≡ false
HasPassed p k (Hash others left) = IsUpToHash p k (told others) (told left)

-- a run of p over k stands before these words of it and of the key: they decide for the whole, and where no end of them passes none of k does
pub record IsPassing (p k words left : Option Bytes) : Type 0 where
  pub whole : all_pass words left ≡ all_pass p k
  pub ends : end_passes words left ≡ false → end_passes p k ≡ false
  pub shorter : text_extent words ≤ text_extent p
  pub within : text_extent left ≤ text_extent k
