use Rattle.std.proofs.Common.{◌≡◌, IfOk, ap, arith, length, nat_lt, subst, take}
use Rattle.std.proofs.lemmas.Grind.{common_steps}
use Rattle.line_text.specs.Lines.{lines_of}
use Rattle.place_model.specs.Histories.{History}
use Rattle.place_model.specs.Shown.{history_of}
use Rattle.place_model.specs.declared.heard.Heard.{Heard}
use Rattle.message_schedules.specs.Companions.{IsScheduled, MessagesHaveOneTree, MessagesPublishedOnce, MessagesWerePublished, PassesAccount, ReturnsAreWhole, StopsMoveOne}
use Rattle.message_schedules.proofs.Companions.{messages_have_one_tree, messages_published_once, messages_were_published, passes_account, returns_are_whole, stops_move_one}
use Rattle.schedule_model.specs.Programs.{program_craft}
use Rattle.schedule_model.specs.Schedules.{header_on, schedule_run}
use Rattle.schedule_world.specs.Runs.{HasRun}
use Rattle.schedule_world.proofs.Lawful.{run_has, run_history, run_placed, run_sound, run_store}
use Rattle.schedule_world.proofs.Numbered.{uncut}
use Rattle.schedule_world.proofs.run.run_whole.Goals as goal
use Rattle.schedule_world.proofs.run.run_whole.Goals.{then-is_cut, else-is_cut}

pub returns : goal.returns
returns c =
    let read : c.if-is_cut.text.now ≡ take 67108865 c.args.bytes.now = elim c.if-is_cut.branch [ then-is_cut w ↦ grind (arith, common_steps) | else-is_cut w ↦ uncut 67108864 _ _ (ap (λ t. t.now) w.text-is) w.if-is_cut.false ] in
    let ran : HasRun (schedule_run program_craft c.args.bytes.now) c.text_run.result = subst (λ t. HasRun (header_on program_craft (nat_lt 67108864 (length c.args.bytes.now)) (lines_of t)) c.text_run.result) read c.text_run.ensures in
    let r = schedule_run program_craft c.args.bytes.now in
    let has : (P : History Heard → Type 0) → ((h : History Heard) → IsScheduled h → P h) → IfOk c.text_run.result (λ ran. P (history_of ran.history)) = λ P all. run_has P all c.args.bytes.now c.text_run.result ran in
    record {
      answer = run_history r c.text_run.result ran;
      sound = run_sound c.args.bytes.now c.text_run.result ran;
      placed = run_placed c.args.bytes.now c.text_run.result ran;
      store = run_store c.args.bytes.now c.text_run.result ran;
      stops = has StopsMoveOne stops_move_one;
      whole_returns = has ReturnsAreWhole returns_are_whole;
      passes = has PassesAccount passes_account;
      published = has MessagesWerePublished messages_were_published;
      once = has MessagesPublishedOnce messages_published_once;
      trees = has MessagesHaveOneTree messages_have_one_tree;
    }
