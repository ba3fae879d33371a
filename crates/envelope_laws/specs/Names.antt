-- What kind of texts envelopes and tags have.
use Rattle.std.specs.Prelude.{◌≡◌, ℕ, Bool, true, ◌&&◌, nat_le, List, length, Ok}
use Rattle.std.specs.Str.{is_utf8}
use Rattle.serde_json.specs.Data.{Data}
use Rattle.envelope.specs.Envelopes.{envelope_at, max_name, parts_in}
use Rattle.delivery_tags.specs.Tags.{is_tag}

-- whether it is UTF-8 of at most 255 bytes (a short string of AMQP 0-9-1)
abbrev pub is_short_text : List ℕ → Bool
is_short_text s = nat_le (length s) max_name && is_utf8 s

-- the exchange and the routing key of an envelope are short texts
abbrev pub NamesAreTexts : Type 0
NamesAreTexts = (v : List ℕ) (d : Data) → envelope_at v ≡ Ok d → (is_short_text (parts_in d).exchange ≡ true) × (is_short_text (parts_in d).routing_key ≡ true)

-- a tag's text has 36 bytes
abbrev pub TagsAreShort : Type 0
TagsAreShort = (t : List ℕ) → is_tag t ≡ true → length t ≡ 36
