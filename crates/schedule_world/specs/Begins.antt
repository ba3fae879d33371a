-- A client that begins the block of a plan, by its book. Serves the proofs of code.
use Rattle.std.specs.Prelude.{◌≡◌, ℕ}
use Rattle.std.specs.FinMap.{insert, remove}
use Rattle.command_blocks.specs.Scripts.{Plan, Over}
use Rattle.steps.specs.Errands.{Planned, client_after, errand_script}
use Rattle.steps.specs.declared.begun.Block.{Block}
use Rattle.client_core.specs.Works.{client_left, core_client}
use Rattle.client_plans.specs.Plans.{Begins}
use Rattle.schedule_world.specs.Shelves.{Shelf}
use Rattle.schedule_world.specs.declared.book.ClientBook.{ClientBook}

-- nothing is left of another block, and this is the block of a plan
abbrev pub MayBegin : ClientBook → Block → Type 0
MayBegin k b = (client_left k.core ≡ Over) × ((p : Plan) × Begins (core_client k.core) p b)

-- the client's counters moved as the plan takes them, the plan's script is left, and whether it is stopped is as it was
pub record BeganPlan (k : ClientBook) (p : Plan) (n : ClientBook) : Type 0 where
  pub counts_are : core_client n.core ≡ client_after (core_client k.core) (Planned p)
  pub left_is : client_left n.core ≡ errand_script (core_client k.core) (Planned p)
  pub stopped_is : n.is_stopped ≡ k.is_stopped

-- the client of this number began the plan, and all other books are as they were
abbrev pub HasBegunPlan : ℕ → ClientBook → Plan → Shelf → Shelf → Type 0
HasBegunPlan c k p m t = (n : ClientBook) × (t ≡ insert (remove m c) c n) × BeganPlan k p n
