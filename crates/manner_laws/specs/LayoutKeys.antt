-- What the keys of a layout tell to a cursor. Serves the proofs of code.
use Rattle.std.specs.Prelude.{◌≡◌, true, ◌&&◌, nat_le, length, Option, Some, option_and_then}
use Rattle.std.specs.Str.{is_utf8}
use Rattle.queue_keys.specs.Names.{Bytes, binding_front}
use Rattle.queue_keys.specs.Layouts.{Layout, is_layout}
use Rattle.queue_keys.specs.QueueKeys.{after_front}
use Rattle.command_blocks.specs.Setting.{Texts, Way, setting_of}
use Rattle.manner_laws.specs.Cursor.{IsReadable}

-- the exchange whose bindings have this key
abbrev pub exchange_of_key : Layout → Bytes → Option Bytes
exchange_of_key l k = option_and_then (after_front binding_front) (after_front l.prefix k)

-- an envelope's exchange is UTF-8 of at most 255 bytes (a short string of AMQP 0-9-1)
abbrev pub TellsShortExchanges : Texts → Type 0
TellsShortExchanges τ = (v : Bytes) (w : Way) → τ.way_of v ≡ Some w → (nat_le (length w.exchange) 255 && is_utf8 w.exchange) ≡ true

-- each lawful layout's keys tell what they were made of
abbrev pub LayoutsTell : Type 0
LayoutsTell = (l : Layout) (τ : Texts) → is_layout l ≡ true → TellsShortExchanges τ → IsReadable (setting_of l τ) (exchange_of_key l)
