-- The draft of an entry. Serves the proofs of code.
use Rattle.std.proofs.Common.{◌≡◌, ℕ, List, [], pos, IsUtf8, subst, sym, arith}
use Rattle.std.proofs.lemmas.Str.{IsUtf8-from_ascii}
use Rattle.delivery_tags.proofs.TagTexts.{tag_ascii}
use Rattle.sealed_drafts.specs.declared.sealing.Draft.{Draft}
use Rattle.steps.specs.Begins.{AreTexts}
use Rattle.task_message.specs.Drafted.{IsDrafted}
use Rattle.task_message.specs.Tasks.{TaskParts}
use Rattle.beat_files.specs.declared.entry.BeatTask.{BeatTask}
use Rattle.beat_round.specs.Rounds.{IsEntryDraft, entry_task}

pub draft_is : (entry : BeatTask) (n : ℕ) (v : TaskParts) (e k : List ℕ) (d : Draft) → v ≡ entry_task entry n → e ≡ [] → k ≡ entry.queue → IsUtf8 k → IsDrafted v e k (pos 0) d → IsEntryDraft entry n d × AreTexts d
draft_is entry n v e k d iv ie ik u h =
    let h1 : IsDrafted (entry_task entry n) e k (pos 0) d = subst (λ x. IsDrafted x e k (pos 0) d) iv h in
    let h2 : IsDrafted (entry_task entry n) [] k (pos 0) d = subst (λ x. IsDrafted (entry_task entry n) x k (pos 0) d) ie h1 in
    let h3 : IsDrafted (entry_task entry n) [] entry.queue (pos 0) d = subst (λ x. IsDrafted (entry_task entry n) [] x (pos 0) d) ik h2 in (
      h3,
      record {
        id = subst IsUtf8 (sym h3.id) (tag_ascii n);
        exchange = subst IsUtf8 (sym h3.exchange_is) (IsUtf8-from_ascii [] (λ i. omega arith));
        routing_key = subst IsUtf8 (sym h3.routing_key_is) (subst IsUtf8 ik u);
      },
    )
