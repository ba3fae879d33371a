use Rattle.std.proofs.Common.{◌≡◌, false, sym, ap, ◌∙◌}
use Rattle.std.specs.List.{list_all, list_any}
use Rattle.queue_keys.specs.Names.{is_name, is_reserved}
use Rattle.schedule_model.specs.Faults.{is_no_name}
use Rattle.client_plans.proofs.Preparing.{all_lawful, popped}
use Rattle.client_plans.proofs.plan.popping.Goals as goal

pub queue_names-requires : goal.queue_names-requires
queue_names-requires c =
    let named : list_any is_no_name c.args.queues.now ≡ false = ap (list_any is_no_name) (sym c.as_slice.ensures) ∙ sym c.has_no_name.ensures ∙ c.if-has_no_name.false in
    let free : list_any is_reserved c.args.queues.now ≡ false = ap (list_any is_reserved) (sym c.as_slice-2.ensures) ∙ sym c.has_reserved.ensures ∙ c.if-has_reserved.false in
    ap (list_all is_name) c.as_slice-3.ensures ∙ all_lawful c.args.queues.now named free

pub returns : goal.returns
returns c =
    let named : list_any is_no_name c.args.queues.now ≡ false = ap (list_any is_no_name) (sym c.as_slice.ensures) ∙ sym c.has_no_name.ensures ∙ c.if-has_no_name.false in
    let free : list_any is_reserved c.args.queues.now ≡ false = ap (list_any is_reserved) (sym c.as_slice-2.ensures) ∙ sym c.has_reserved.ensures ∙ c.if-has_reserved.false in
    λ w. popped w c.args.queues.now c.in_ok-names.names named free (c.in_ok-names.ensures ∙ c.as_slice-3.ensures) c.requires.some c.requires.few
