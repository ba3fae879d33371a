-- How a publication begins.
use Rattle.std.proofs.Common.{◌≡◌, ℕ, suc, true, [], ◌∷◌, None, Some, Ok, refl, sym, ◌∙◌}
use Rattle.serde_json.specs.Data.{Data}
use Rattle.serde_json.specs.Written.{compact_text}
use Rattle.envelope.specs.Envelopes.{envelope_at, parts_in}
use Rattle.block_laws.specs.Rows.{IsPublication}
use Rattle.command_blocks.specs.EnvelopeTexts.{plain_setting}
use Rattle.command_blocks.specs.Scripts.{publish_script}
use Rattle.command_blocks.specs.Setting.{named_or_none}
use Rattle.queue_keys.specs.Names.{Bytes}
use Rattle.routes.specs.Named.{is_named}
use Rattle.routes.specs.Publishes.{GoesDirectly, BeginsOn, IsPublishable, PublishingHad, direct_key, publishing_left}
use Rattle.routes.specs.declared.route.Publishing.{Publishing}
use Rattle.routes.specs.declared.route.Publishing.TheVariants.{Direct, Asking, Pushing}
use Rattle.routes.proofs.Direct.{direct_keys, direct_script, exchange_is, named_script}

-- a name that is empty
no_name : (e : Bytes) → named_or_none e ≡ None → e ≡ []
no_name [] h = refl
no_name (b ∷ e) h = absurd (cc)

module _ (d : Data) (h : IsPublishable d) where
  goes_directly : (parts_in d).exchange ≡ [] → GoesDirectly d
  goes_directly e = record { exchange = e; queue = h e }

  pub first_named : (next : Publishing) → BeginsOn (parts_in d).exchange next → is_named d next ≡ true
  first_named Direct f = h f
  first_named Asking f = refl
  first_named (Pushing route) f = absurd f

  pub first_left : (next : Publishing) → envelope_at (compact_text d) ≡ Ok d → BeginsOn (parts_in d).exchange next → publishing_left d next ≡ publish_script plain_setting (compact_text d)
  first_left Direct again f = sym (direct_script d again (goes_directly f))
  first_left Asking again f = sym (named_script d again (parts_in d).exchange f)
  first_left (Pushing route) again f = absurd f

  pub first_had : (next : Publishing) → BeginsOn (parts_in d).exchange next → PublishingHad d [] next
  first_had Direct f = (refl, goes_directly f)
  first_had Asking f = (refl, f)
  first_had (Pushing route) f = absurd f

  -- its plan is lawful
  pub lawful_publication : envelope_at (compact_text d) ≡ Ok d → (s n : ℕ) → plain_setting.written_tag (compact_text d) ≡ Some (plain_setting.tag s (suc n)) → IsPublication plain_setting s n (compact_text d)
  lawful_publication again s n e = record {
    tag = e;
    key = λ none. (direct_key d, direct_keys d again (goes_directly (no_name (parts_in d).exchange (sym (exchange_is d again) ∙ none))));
  }
