use Rattle.std.proofs.Common.{rules, sym, subst, ◌∙◌}
use Rattle.std.specs.Prelude.{IsUtf8}
use Rattle.std.proofs.lemmas.Str.{IsUtf8-from_is_utf8}
use Rattle.task_message.specs.Shown.{task_view}
use Rattle.beat_round.proofs.Drafts.{draft_is}
use Rattle.beat_round.proofs.drafting.entry_draft.Goals as goal

pub returns : goal.returns
returns c =
    draft_is c.args.entry.now c.args.tag.0 (task_view c.in_ok-task.task) c.as_slice.result.now c.bytes-2.result.now c.in_ok-made.made c.in_ok-task.ensures (search rules) c.bytes-2.ensures.bytes
    (subst IsUtf8 (c.bytes.ensures.bytes ∙ sym c.bytes-2.ensures.bytes) (IsUtf8-from_is_utf8 c.bytes.result.now (sym c.if-not-is_text.ensures))) c.in_ok-made.ensures
