use Rattle.std.proofs.Common.{◌≡◌, ◌∙◌, ap, sym, is_none, not, Bool, true, false, refl, Option, Some, None, is_some}
use Rattle.queue_keys.proofs.NameFaults.{lawful_none}
use Rattle.queue_keys.proofs.queue_name.is_name.Goals as goal

of_none : {A : Type 0} (o : Option A) (r : Bool) → is_some o ≡ not r → r ≡ is_none o
of_none None true e = refl
of_none None false e = e
of_none (Some x) true e = e
of_none (Some x) false e = refl

pub returns : goal.returns
returns c = of_none c.fault_of.result c.is_none.result c.is_none.ensures ∙ ap is_none c.fault_of.ensures ∙ sym (lawful_none c.args.bytes.now)
