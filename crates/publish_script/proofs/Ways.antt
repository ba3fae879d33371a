-- The way of a message that passed the tests of its line.
use Rattle.std.proofs.Common.{◌≡◌, [], ◌∷◌, Bool, true, false, None, refl, sym, ap, ◌∙◌}
use Rattle.serde_json.specs.Data.{Data}
use Rattle.line_text.specs.declared.reason.Reason.TheVariants.{Name, Reserved}
use Rattle.queue_keys.specs.Names.{Bytes, is_name, is_reserved}
use Rattle.routes.specs.Publishes.{IsPublishable}
use Rattle.schedule_model.specs.Faults.{first_reason, is_no_name}
use Rattle.client_plans.specs.Plans.{way_reason}
use Rattle.client_plans.specs.Tasks.{Names}
use Rattle.client_plans.proofs.Preparing.{lawful}

neither : (a b : Bool) → first_reason ((a, Name) ∷ (b, Reserved) ∷ []) ≡ None → (a ≡ false) × (b ≡ false)
neither true b e = cc
neither false true e = cc
neither false false e = (refl, refl)

-- an envelope that goes a way that passed may be published
pub publishable : (x k : Bytes) (d : Data) → way_reason x k ≡ None → Names x k d → IsPublishable d
publishable x k d way names direct = ap is_name names.routing_key_is ∙ by x way (sym names.exchange_is ∙ direct)
  where
    by : (y : Bytes) → way_reason y k ≡ None → y ≡ [] → is_name k ≡ true
    by [] e f = let two = neither (is_no_name k) (is_reserved k) e in lawful k two.0 two.1
    by (b ∷ bs) e f = cc
