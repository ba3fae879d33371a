use Rattle.std.proofs.Common.{◌≡◌, ◌≤◌, false, Some, sym, ap, ◌∙◌, arith}
use Rattle.serde_json.specs.Data.{depth}
use Rattle.serde_json.specs.Read.{max_depth}
use Rattle.serde_json.specs.View.{view as data_of}
use Rattle.serde_json.specs.Written.{compact_text, has_float}
use Rattle.envelope.specs.Envelopes.{json_at}
use Rattle.task_message.proofs.Draftable.{draftable, content_shallow, content_whole}
use Rattle.task_message.proofs.ReadTexts.{json_some}
use Rattle.task_message.specs.Shown.{task_view}
use Rattle.task_message.proofs.drafting.content_text.Goals as goal

pub returns-clause-text : goal.returns-clause-text
returns-clause-text c =
    let t = task_view c.args.t.now in
    let whole : has_float (data_of c.in_ok-tree.tree) ≡ false = ap has_float c.in_ok-tree.ensures ∙ content_whole t (draftable t c.requires) in
    c.from_vec.ensures ∙ c.in_ok-to_vec.ensures.text whole ∙ ap compact_text c.in_ok-tree.ensures

pub returns-clause-reads : goal.returns-clause-reads
returns-clause-reads c =
    let t = task_view c.args.t.now in
    let same = ap depth c.in_ok-tree.ensures in
    let shallow : depth (data_of c.in_ok-tree.tree) ≤ max_depth = omega (arith, same, content_shallow t (draftable t c.requires)) in
    ap json_at c.from_vec.ensures ∙ json_some _ (data_of c.in_ok-tree.tree) c.in_ok-to_vec.ensures.utf8 (c.in_ok-to_vec.ensures.reads_back shallow) ∙ ap (λ d. Some d) c.in_ok-tree.ensures
