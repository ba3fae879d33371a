-- GET and SET.
use Rattle.std.specs.Prelude.{ℕ, ◌+◌, Bool, true, false, [], ◌∷◌, Option, None, Some}
use Rattle.std.specs.FinMap.{insert}
use Rattle.wire_values.specs.declared.value.Value.{Value}
use Rattle.wire_values.specs.declared.value.Value.TheVariants.{NullBulk, Bulk}
use Rattle.store_model.specs.Words.{Bytes}
use Rattle.store_model.specs.Replies.{done, wrong_type}
use Rattle.store_model.specs.Keys.{Keys, CommandOutcome, out}
use Rattle.store_model.specs.declared.held.Stored.{Stored}
use Rattle.store_model.specs.declared.held.Stored.TheVariants.{Text}

-- the answer to GET, by what the key holds
abbrev pub text_answer : Option Stored → Value
text_answer None = NullBulk
text_answer (Some (Text v)) = Bulk v
text_answer (Some other) = wrong_type

-- the moment so many seconds later
abbrev pub until : ℕ → Option ℕ → Option ℕ
until at None = None
until at (Some s) = Some (at + s)

-- SET replaces any kind of value and its expiry, unless the key must be absent and isn't
abbrev pub set_text : Keys → Bytes → Bytes → Option ℕ → Bool → CommandOutcome
set_text m k v e true = out m [] NullBulk
set_text m k v e false = out (insert m k (record { value = Text v; expiry = e })) (k ∷ []) done
