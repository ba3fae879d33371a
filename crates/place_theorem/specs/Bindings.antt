-- The bindings by which a return's lookup goes: those of its entry's own exchange.
use Rattle.std.specs.Prelude.{◌≡◌, ◌⊎◌, ℕ, List, [], ◌∷◌, Option, None, Some}
use Rattle.wire_values.specs.declared.value.Value.{Value}
use Rattle.store_model.specs.Keys.{Keys}
use Rattle.store_model.specs.Replies.{bulks}
use Rattle.store_model.specs.Words.{command_of}
use Rattle.store_model.specs.declared.command.Command.{Command}
use Rattle.store_model.specs.declared.command.Command.TheVariants.{Smembers, Watch}
use Rattle.queue_keys.specs.Names.{Bytes}
use Rattle.command_blocks.specs.Calls.{Call}
use Rattle.command_blocks.specs.Setting.{Setting}
use Rattle.place_model.specs.Returns.{ReturnsWhole}
use Rattle.place_model.specs.Seen.{seen}

-- the key of the last SMEMBERS since the last WATCH, with what was answered, after a call
abbrev pub set_read_by : Option (Bytes × Value) → Command → Value → Option (Bytes × Value)
set_read_by old (Smembers k) r = Some (k, r)
set_read_by old (Watch ks) r = None
set_read_by old other r = old

-- and after further calls
abbrev pub set_read_from : Option (Bytes × Value) → List Call → Option (Bytes × Value)
set_read_from old [] = old
set_read_from old (x ∷ xs) = set_read_from (set_read_by old (command_of x.words) x.answer) xs

-- the key of a client's last SMEMBERS since its last WATCH, with what was answered; a try of a return begins with WATCH, so it is that try's own
abbrev pub set_read : List Call → Option (Bytes × Value)
set_read l = set_read_from None l

-- the EXEC that follows these calls returned its message whole, and the members over which its lookup went are what SMEMBERS answered in this try of the bindings of the entry's own exchange, if that has a name
pub record ReturnsByBindings (σ : Setting) (l : List Call) (m m' : Keys) (at : ℕ) : Type 0 where
  pub returned : ReturnsWhole σ (seen σ l) m m' at
  pub bindings : (σ.exchange_in returned.entry ≡ None) ⊎ ((e : Bytes) × (σ.exchange_in returned.entry ≡ Some e) × (set_read l ≡ Some (σ.binding e, bulks returned.members)))
