-- What is said of a message by its exchange: on the empty one it goes to the one queue that its routing key names.
use Rattle.std.proofs.Common.{◌≡◌, [], ◌∷◌, Option, Some, ap, ◌∙◌, option_map, if◌then◌else◌, Ok}
use Rattle.std.specs.Result.{result_ok}
use Rattle.serde_json.specs.Data.{Data}
use Rattle.serde_json.specs.Written.{compact_text}
use Rattle.envelope.specs.Envelopes.{envelope_at, parts_in}
use Rattle.command_blocks.specs.EnvelopeTexts.{plain_setting, way_of, way_said}
use Rattle.queue_keys.specs.Layouts.{plain}
use Rattle.queue_keys.specs.Lookup.{queues_for, route_keys}
use Rattle.queue_keys.specs.Names.{Bytes}
use Rattle.queue_keys.specs.QueueKeys.{keys_at}
use Rattle.command_blocks.specs.Scripts.{asking_script, publish_script, pushes}
use Rattle.command_blocks.specs.Setting.{Way, named_or_none, named_exchange, way_keys}
use Rattle.routes.specs.Publishes.{GoesDirectly, direct_key, queue_pushes, queues_of, step_in}

module _ (d : Data) (again : envelope_at (compact_text d) ≡ Ok d) where
  abbrev text : Bytes
  text = compact_text d

  way_is : way_of text ≡ Some (way_said d)
  way_is = ap (λ r. option_map way_said (result_ok r)) again

  -- what is said of it, by its exchange
  pub script_is : publish_script plain_setting text ≡ asking_script plain_setting (named_or_none (parts_in d).exchange) (λ ms. queue_pushes d (queues_of d ms))
  script_is = ap (λ (w : Option Way). asking_script plain_setting (named_exchange w) (λ ms. pushes text (way_keys plain w ms))) way_is

  pub named_script : (e : Bytes) → named_or_none (parts_in d).exchange ≡ Some e → publish_script plain_setting text ≡ asking_script plain_setting (Some e) (λ ms. queue_pushes d (queues_of d ms))
  named_script e named = script_is ∙ ap (λ o. asking_script plain_setting o (λ ms. queue_pushes d (queues_of d ms))) named

  -- its exchange, as the setting has it
  pub exchange_is : plain_setting.exchange_of text ≡ named_or_none (parts_in d).exchange
  exchange_is = ap named_exchange way_is

  module _ (h : GoesDirectly d) where
    one_key : route_keys plain (step_in d) [] (parts_in d).routing_key [] ≡ direct_key d ∷ []
    one_key = ap (λ b. keys_at plain (step_in d) (if b then (parts_in d).routing_key ∷ [] else [])) h.queue

    -- on the empty exchange what is said of it is one push
    pub direct_script : publish_script plain_setting text ≡ pushes text (direct_key d ∷ [])
    direct_script =
        script_is
        ∙ ap (λ (e : Bytes). asking_script plain_setting (named_or_none e) (λ ms. pushes text (route_keys plain (step_in d) e (parts_in d).routing_key ms))) h.exchange
        ∙ ap (pushes text) one_key

    -- its keys without bindings are that one
    pub direct_keys : plain_setting.keys_for text [] ≡ direct_key d ∷ []
    direct_keys = ap (λ w. way_keys plain w []) way_is ∙ ap (λ (e : Bytes). route_keys plain (step_in d) e (parts_in d).routing_key []) h.exchange ∙ one_key

-- and its one queue is the routing key
pub direct_queue : (d : Data) → GoesDirectly d → queues_of d [] ≡ (parts_in d).routing_key ∷ []
direct_queue d h = ap (λ (e : Bytes). queues_for e (parts_in d).routing_key []) h.exchange ∙ ap (λ b. if b then (parts_in d).routing_key ∷ [] else []) h.queue
