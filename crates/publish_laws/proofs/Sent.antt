-- What is sealed of a publish line carries its task.
use Rattle.std.proofs.Common.{◌≡◌, ◌≤◌, ℕ, length, true, Some, None, if◌then◌else◌, refl, sym, ap, subst, ◌∙◌, arith}
use Rattle.std.proofs.lemmas.Str.{is_utf8-from_IsUtf8}
use Rattle.serde_json.specs.Data.{Data, depth}
use Rattle.serde_json.specs.Read.{max_depth, read}
use Rattle.serde_json.specs.Written.{compact_text}
use Rattle.envelope.specs.Envelopes.{envelope_at, json_at, parts_in, parts_or_none}
use Rattle.envelope_trees.proofs.TextsBack.{read-compact_text}
use Rattle.delivery_tags.specs.Tags.{tag, tag_number}
use Rattle.queue_keys.specs.Names.{Bytes}
use Rattle.schedule_model.specs.Drafts.{arguments_of, content_tree, sealed_task, task_tree}
use Rattle.message_schedules.proofs.Seals.{IsSealed, sealed_known}
use Rattle.message_schedules.proofs.TaskTrees.{content_text, sorted_content}
use Rattle.task_message.specs.Drafted.{can_draft}
use Rattle.task_message.specs.Tasks.{TaskParts}
use Rattle.task_message.proofs.Draftable.{content_shallow, content_whole, draftable}
use Rattle.task_laws.proofs.DraftsBack.{told_back}
use Rattle.client_plans.specs.Tasks.{published_task}
use Rattle.client_plans.proofs.Drafted.{can_publish, may_be}
use Rattle.publish_laws.specs.Laws.{CarriesTask}

module _ (s n : ℕ) (x k : Bytes) (p : ℕ) (task j v : Bytes) (some : 1 ≤ length task) (i : IsSealed s n x k p task j v) where
  abbrev t : TaskParts
  t = published_task (tag s n) task i.args

  abbrev tree : Data
  tree = task_tree (tag s n) x k p task i.args

  abbrev content : Bytes
  content = compact_text (content_tree i.args)

  can : can_draft t ≡ true
  can = subst (λ q. can_draft (published_task q task i.args) ≡ true) (sym i.tag_is) (can_publish (tag_number s n) task i.args i.drafted.task_text some (may_be j i.args i.spelled))

  near : depth (content_tree i.args) ≤ max_depth
  near = omega (arith, content_shallow t (draftable t can))

  content_reads : json_at content ≡ Some (content_tree i.args)
  content_reads =
      ap (λ b. if b then read content else None) (is_utf8-from_IsUtf8 content (content_text (tag s n) x k p task i.args i.drafted))
      ∙ read-compact_text (content_tree i.args) (sorted_content (tag s n) x k p task i.args i.drafted) (content_whole t (draftable t can)) near

  content_is : (parts_in tree).content ≡ content
  content_is = ap (λ r. (parts_or_none r).content) i.says

  pub carries : CarriesTask t v
  carries = record {
    tree = tree;
    envelope = ap envelope_at i.text ∙ i.reads;
    task = told_back t tree content can (omega arith) content_is content_reads refl;
  }

pub sent : (s n : ℕ) (x k : Bytes) (p : ℕ) (task j v : Bytes) → 1 ≤ length task → sealed_task s n x k p task j ≡ Some v
    → (args : Data) × (arguments_of j ≡ Some args) × CarriesTask (published_task (tag s n) task args) v
sent s n x k p task j v some e =
    let i = sealed_known s n x k p task j v e in
    (i.args, i.spelled, carries s n x k p task j v some i)
