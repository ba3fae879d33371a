-- What envelopes and entries tell.
use Rattle.std.proofs.Common.{◌≡◌, ◌∙◌, Bool, Ok, Option, None, Some, ap, sym, if◌then◌else◌}
use Rattle.std.specs.Prelude.{bytes_eq, option_map}
use Rattle.std.specs.Result.{result_ok}
use Rattle.serde_json.specs.Data.{Data}
use Rattle.serde_json.specs.Written.{compact_text}
use Rattle.delivery_tags.specs.Tags.{tag_text}
use Rattle.envelope.specs.Bodies.{carried, tag_of_bytes}
use Rattle.envelope.specs.Entries.{EntryParts, entry_at}
use Rattle.envelope.specs.Envelopes.{envelope_at, parts_in}
use Rattle.envelope_trees.specs.Marks.{marked}
use Rattle.queue_keys.specs.Names.{Bytes}
use Rattle.command_blocks.specs.EnvelopeTexts.{plain_setting, way_in, way_kept}
use Rattle.manner_laws.specs.Cursor.{if_tagged, is_text}

pub tag_said : (v : Bytes) (d : Data) → envelope_at v ≡ Ok d → tag_of_bytes v ≡ Some (tag_text (parts_in d).tag)
tag_said v d read = ap (λ r. option_map (λ p. tag_text p.tag) (option_map parts_in (result_ok r))) read

module _ (t u : Bytes) (e : EntryParts) (made : Data) (read : entry_at u ≡ Ok e) (is_marked : made ≡ marked e.tree) (again : envelope_at (compact_text made) ≡ Ok made) where
  tagged_is : if_tagged plain_setting t (carried u) ≡ (if bytes_eq t (tag_text (parts_in made).tag) then Some (compact_text made) else None)
  tagged_is =
      ap (λ r. if_tagged plain_setting t (option_map (λ (e : EntryParts). compact_text (marked e.tree)) (result_ok r))) read
      ∙ (ap (λ d. if_tagged plain_setting t (Some (compact_text d))) (sym is_marked)
      ∙ ap (λ o. if is_text t o then Some (compact_text made) else None) (tag_said (compact_text made) made again))

  pub tagged_by : (b : Bool) → bytes_eq t (tag_text (parts_in made).tag) ≡ b → if_tagged plain_setting t (carried u) ≡ (if b then Some (compact_text made) else None)
  tagged_by b is = tagged_is ∙ ap (λ c. if c then Some (compact_text made) else None) is

  pub way_back : way_in u ≡ Some (way_kept e)
  way_back = ap (λ r. option_map way_kept (result_ok r)) read
