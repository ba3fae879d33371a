-- Each lawful plan is a row.
use Rattle.std.proofs.Common.{ℕ, suc, List, arith, codes}
use Rattle.command_blocks.specs.Setting.{Setting}
use Rattle.queue_keys.specs.Texts.{token}
use Rattle.command_blocks.specs.Calls.{Call}
use Rattle.command_blocks.specs.Blocks.{IsBlock}
use Rattle.command_blocks.specs.Blocks as blocks
use Rattle.command_blocks.specs.Scripts.{Plan, Declare, Undeclare, Publish, Pop, End, Return, Pass, script_of, counter_use}
use Rattle.block_laws.specs.Rows.{IsGood, IsLawfulPlan, IsPlanBlock, IsRow}
use Rattle.block_laws.proofs.Talks.{Talks, talks}
use Rattle.block_laws.proofs.PlainRows.{declare_good, declare_talk, publish_good, publish_talk, pop_good, pop_talk, end_good, end_talk}
use Rattle.block_laws.proofs.Returns.{return_good, return_talk, pass_good, pass_talk}

plan_good : (σ : Setting) (s p : ℕ) (plan : Plan) → IsGood (script_of σ s p plan)
plan_good σ s p (Declare e r x q) = declare_good σ (codes "SADD") e r x q
plan_good σ s p (Undeclare e r x q) = declare_good σ (codes "SREM") e r x q
plan_good σ s p (Publish v) = publish_good σ v
plan_good σ s p (Pop names) = pop_good σ names
plan_good σ s p (End t) = end_good σ t
plan_good σ s p (Return side t) = return_good σ side t
plan_good σ s p (Pass v) = pass_good σ (token s (suc p)) v

plan_talk : (σ : Setting) (s n p : ℕ) (plan : Plan) → IsLawfulPlan σ s n plan → (l : List Call) → Talks (script_of σ s p plan) l → IsPlanBlock σ s n p plan l
plan_talk σ s n p (Declare e r x q) h = declare_talk σ (codes "SADD") e r x q h
plan_talk σ s n p (Undeclare e r x q) h = declare_talk σ (codes "SREM") e r x q h
plan_talk σ s n p (Publish v) h = publish_talk σ s n v h
plan_talk σ s n p (Pop names) h = pop_talk σ names h.0 h.1 h.2
plan_talk σ s n p (End t) h = end_talk σ t h
plan_talk σ s n p (Return side t) h = return_talk σ side t h
plan_talk σ s n p (Pass v) h = pass_talk σ (token s (suc p)) v

-- the plan's block is a block of its kind
block_of : (σ : Setting) (s n p : ℕ) (plan : Plan) → IsLawfulPlan σ s n plan → (l : List Call) → IsPlanBlock σ s n p plan l → IsBlock σ s n p (counter_use plan) l
block_of σ s n p (Declare e r x q) h l b = blocks.Declare e r x q l b
block_of σ s n p (Undeclare e r x q) h l b = blocks.Undeclare e r x q l b
block_of σ s n p (Publish v) h l b = blocks.Publish v l b
block_of σ s n p (Pop names) h l b = blocks.Pop names l b
block_of σ s n p (End t) h l b = blocks.End t l b
block_of σ s n p (Return side t) h l b = blocks.Return t side b.0 l b.1
block_of σ s n p (Pass v) h l b = blocks.Pass v b.0 l (omega (arith, h)) b.1

pub plan_row : (σ : Setting) (s n p : ℕ) (plan : Plan) → IsLawfulPlan σ s n plan → IsRow σ s n p plan
plan_row σ s n p plan h = record {
  good = plan_good σ s p plan;
  told = λ l timely said over. plan_talk σ s n p plan h l (talks (script_of σ s p plan) l timely said over);
  block = λ l timely said over. block_of σ s n p plan h l (plan_talk σ s n p plan h l (talks (script_of σ s p plan) l timely said over));
}
