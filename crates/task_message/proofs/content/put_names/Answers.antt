use Rattle.std.proofs.Common.{sym, subst}
use Rattle.std.specs.Prelude.{IsUtf8}
use Rattle.std.proofs.lemmas.Str.{IsUtf8-from_is_utf8}
use Rattle.task_message.proofs.Draftable.{draftable}
use Rattle.task_message.specs.Shown.{task_view}
use Rattle.task_message.proofs.content.put_names.Goals as goal

pub text_of-requires : goal.text_of-requires
text_of-requires c = subst IsUtf8 (sym c.as_slice.ensures) (IsUtf8-from_is_utf8 _ (draftable (task_view c.args.t.now) c.requires).id_text)

pub text_of-requires-2 : goal.text_of-requires-2
text_of-requires-2 c = subst IsUtf8 (sym c.as_slice-2.ensures) (IsUtf8-from_is_utf8 _ (draftable (task_view c.args.t.now) c.requires).name_text)
