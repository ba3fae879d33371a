-- What a store takes of a history's entries. Serves the proofs of code.
use Rattle.std.specs.Prelude.{◌<◌, List, All}
use Rattle.store_model.specs.Limits.{moment_limit}
use Rattle.wire_grammar.specs.Fits.{IsWithinLimits}
use Rattle.place_model.specs.declared.history.Entry.{Entry}
use Rattle.place_model.specs.declared.history.Entry.TheVariants.{Call, Heard, Stop}

-- a store can take the entry: the moment of a call is below 2^40 seconds, and its words are within the limits
abbrev pub IsTakable : {N : Type 0} → Entry N → Type 0
IsTakable (Call c at words reply) = (at < moment_limit) × IsWithinLimits words
IsTakable (Heard c note) = Unit {0}
IsTakable (Stop c) = Unit {0}

-- a store can take each of the entries
abbrev pub AreTakable : {N : Type 0} → List (Entry N) → Type 0
AreTakable es = All (λ e. IsTakable e) es
