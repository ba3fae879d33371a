-- The texts of envelopes keep the facts that the proofs need.
use Rattle.std.proofs.Common.{◌≡◌, ℕ, Bool, true, false, length, bytes_eq, nat_le, option_and_then, is_some, if◌then◌else◌, refl, ap, ◌∙◌, Option, Some, None, option_map}
use Rattle.std.specs.Int.{w128, from_be_bytes}
use Rattle.std.specs.Result.{result_ok}
use Rattle.std.proofs.lemmas.Slice.Eq.{bytes_eq-Decides}
use Rattle.uuid.proofs.TextLemmas.{by_index_length}
use Rattle.serde_json.specs.Data.{Data}
use Rattle.serde_json.specs.Written.{compact_text}
use Rattle.envelope.specs.Bodies.{tag_of_bytes}
use Rattle.envelope.specs.Envelopes.{Parts, envelope_at, parts_in}
use Rattle.delivery_tags.specs.Tags.{tag_text, if_spelled, is_tag}
use Rattle.delivery_tags.proofs.SeedTags.{tag_is, tag_parts}
use Rattle.envelope.proofs.EnvelopeTags.{tag_text_is}
use Rattle.envelope.proofs.BodyTexts.{entry_body, carried_body}
use Rattle.queue_keys.specs.Names.{Bytes, same}
use Rattle.command_blocks.specs.EnvelopeTexts.{EnvelopesServe, tag_as_written, written_tag}

length-tag_text : (n : ℕ) → length (tag_text n) ≡ 36
length-tag_text n = by_index_length 36 _

spelled : (t : Bytes) (n : ℕ) → is_some (if_spelled t n) ≡ true → t ≡ tag_text n
spelled t n e = go (bytes_eq t (tag_text n)) refl e
  where
    go : (b : Bool) → bytes_eq t (tag_text n) ≡ b → is_some (if b then Some n else None) ≡ true → t ≡ tag_text n
    go true i f = (bytes_eq-Decides t (tag_text n)).0 i
    go false i f = absurd (cc f)

-- a text that was parsed and spells its own number
length-parsed : (t : Bytes) (o : Option Bytes) → is_some (option_and_then (λ u. if_spelled t (from_be_bytes w128 u)) o) ≡ true → length t ≡ 36
length-parsed t None f = absurd (cc f)
length-parsed t (Some u) f = let n = from_be_bytes w128 u in ap length (spelled t n f) ∙ length-tag_text n

-- a tag's text has 36 bytes
length-tag : (t : Bytes) → is_tag t ≡ true → length t ≡ 36
length-tag t e = length-parsed t _ e

-- an envelope as it is written has the tag that its bytes tell
pub written_tag_is : (v t : Bytes) → written_tag v ≡ Some t → tag_of_bytes v ≡ Some t
written_tag_is v t e = go (result_ok (envelope_at v)) e
  where
    told : (d : Data) (b : Bool) → (if b then Some (tag_text (parts_in d).tag) else None) ≡ Some t → ◌≡◌ {A = Option Bytes} (Some (tag_text (parts_in d).tag)) (Some t)
    told d true f = f
    told d false f = cc

    go : (o : Option Data) → option_and_then (tag_as_written v) o ≡ Some t → option_map (λ (p : Parts). tag_text p.tag) (option_map parts_in o) ≡ Some t
    go None f = cc
    go (Some d) f = told d (same v (compact_text d)) f

pub envelopes_serve : EnvelopesServe
envelopes_serve = record {
  tag_parts = tag_parts;
  tag_is = tag_is;
  tag_short = λ t e. ap (λ n. nat_le n 1024) (length-tag t e);
  tag_text = tag_text_is;
  written_is = written_tag_is;
  entry_body = entry_body;
  carried_body = carried_body;
}
