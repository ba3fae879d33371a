use Rattle.std.proofs.Common.{sym, subst, ◌∙◌}
use Rattle.std.specs.Prelude.{IsUtf8}
use Rattle.std.proofs.lemmas.Str.{IsUtf8-from_is_utf8}
use Rattle.task_message.proofs.Draftable.{draftable}
use Rattle.task_message.specs.Shown.{task_view}
use Rattle.task_lines.proofs.answers.sealed.Goals as goal

pub seal-requires-clause-id : goal.seal-requires-clause-id
seal-requires-clause-id c = subst IsUtf8 (sym c.in_ok-made.ensures.id) (IsUtf8-from_is_utf8 _ (draftable (task_view c.args.t.now) (sym c.if-not-can_draft.ensures)).id_text)

pub seal-requires-clause-exchange : goal.seal-requires-clause-exchange
seal-requires-clause-exchange c = subst IsUtf8 (sym c.in_ok-made.ensures.exchange_is) c.exchange.ensures.text

pub seal-requires-clause-routing_key : goal.seal-requires-clause-routing_key
seal-requires-clause-routing_key c = subst IsUtf8 (sym c.in_ok-made.ensures.routing_key_is) c.routing_key.ensures.text
