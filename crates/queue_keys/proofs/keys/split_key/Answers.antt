use Rattle.std.proofs.Common.{◌≡◌, ◌∙◌, sym, subst, Some, None, MatchOption, Option, ℕ, take}
use Rattle.queue_keys.specs.Names.{Bytes}
use Rattle.queue_keys.specs.Layouts.{plain}
use Rattle.queue_keys.specs.QueueKeys.{if_name, split_key}
use Rattle.queue_keys.proofs.Cuts.{split_is}
use Rattle.queue_keys.proofs.keys.split_key.Goals as goal

pub returns-in-None : goal.returns-in-None
returns-in-None c = sym (split_is c.args.key.now (take c.mark_place-place.result c.args.key.now) c.after.result.now None c.mark_place-place.ensures.name (c.after.ensures ∙ c.mark_place-place.ensures.mark) (sym c.in-None.is ∙ c.marked_step.ensures))

pub returns-in-Some : goal.returns-in-Some
returns-in-Some c =
    let n = take c.mark_place-place.result c.args.key.now in
    let m = c.after.result.now in
    let e : if_name n c.in-Some.step ≡ split_key plain c.args.key.now = split_is c.args.key.now n m (Some c.in-Some.step) c.mark_place-place.ensures.name (c.after.ensures ∙ c.mark_place-place.ensures.mark) (sym c.in-Some.is ∙ c.marked_step.ensures) in
    subst (λ (o : Option (Bytes × ℕ)). MatchOption c.named.result (o ≡ None) (λ parts. o ≡ Some (parts.0.now, parts.1))) e c.named.ensures
