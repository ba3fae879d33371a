-- Celery's texts keep their facts, so each lawful layout with them gives a lawful setting.
use Rattle.std.proofs.Common.{◌≡◌, length, true, ◌&&◌, Option, Some, None, option_map, refl, sym, ap, ◌∙◌}
use Rattle.std.specs.Prelude.{nat_le}
use Rattle.std.specs.Result.{result_ok}
use Rattle.std.specs.Str.{is_utf8}
use Rattle.serde_json.specs.Data.{Data}
use Rattle.envelope.specs.Envelopes.{envelope_at}
use Rattle.envelope.proofs.BodyTexts.{carried_body, entry_body}
use Rattle.delivery_tags.proofs.SeedTags.{tag_is, tag_parts}
use Rattle.envelope.proofs.EnvelopeTags.{ok_is, tag_text_is}
use Rattle.envelope_laws.proofs.Names.{names_are}
use Rattle.envelope_laws.proofs.Tags.{tag_length}
use Rattle.command_blocks.specs.EnvelopeTexts.{texts, way_said}
use Rattle.queue_keys.specs.Layouts.{Layout, is_layout}
use Rattle.command_blocks.specs.Setting.{IsLawful, IsTexts, Way, setting_of}
use Rattle.key_laws.proofs.EnvelopeFacts.{written_tag_is}
use Rattle.key_laws.proofs.Settings.{lawful_setting}
use Rattle.place_theorem.proofs.Full.{Full}
use Rattle.manner_laws.specs.Cursor.{IsReadable}
use Rattle.manner_laws.specs.LayoutKeys.{TellsShortExchanges, exchange_of_key}
use Rattle.manner_laws.proofs.LayoutReads.{readable_layout}

pub facts : IsTexts texts
facts = record {
  tag_parts = tag_parts;
  tag_is = tag_is;
  tag_short = λ t h. ap (λ n. nat_le n 1024) (tag_length t h);
  tag_text = tag_text_is;
  written_is = written_tag_is;
  entry_body = entry_body;
  carried_body = carried_body;
}

same_way : (w w' : Way) → ◌≡◌ {A = Option Way} (Some w) (Some w') → w ≡ w'
same_way w w' e = cc

pub exchanges : TellsShortExchanges texts
exchanges v w e = go (result_ok (envelope_at v)) refl e
  where
    go : (o : Option Data) → result_ok (envelope_at v) ≡ o → option_map way_said o ≡ Some w → (nat_le (length w.exchange) 255 && is_utf8 w.exchange) ≡ true
    go None i h = cc
    go (Some d) i h =
        let short = (names_are v d (ok_is (envelope_at v) d i)).0 in
        ap (λ (x : Way). nat_le (length x.exchange) 255 && is_utf8 x.exchange) (sym (same_way (way_said d) w h)) ∙ short

pub lawful : (κ : Layout) → is_layout κ ≡ true → IsLawful (setting_of κ texts)
lawful κ is = lawful_setting κ texts is facts

pub readable : (κ : Layout) → is_layout κ ≡ true → IsReadable (setting_of κ texts) (exchange_of_key κ)
readable κ is = readable_layout κ texts is exchanges

-- a setting with its laws
abbrev pub full : (κ : Layout) → is_layout κ ≡ true → Full
full κ is = record { names = setting_of κ texts; laws = lawful κ is }
