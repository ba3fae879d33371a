-- A task without moments, drafted as one with them.
use Rattle.std.proofs.Common.{◌≡◌, ℕ, refl}
use Rattle.queue_keys.specs.Names.{Bytes}
use Rattle.schedule_model.specs.Drafts.{sealed_task}
use Rattle.publish_script.specs.Drafts.{timed_task}
use Rattle.publish_script.specs.Scripts.{no_times}

pub agree : (s n : ℕ) (x k : Bytes) (p : ℕ) (task j : Bytes) → timed_task no_times s n x k p task j ≡ sealed_task s n x k p task j
unfolding timed_task sealed_task
agree s n x k p task j = refl
