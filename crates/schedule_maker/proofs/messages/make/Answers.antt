use Rattle.std.proofs.Common.{◌≡◌, ◌++◌, ap, ◌∙◌, arith, append_assoc}
use Rattle.schedule_maker.specs.Made.{made_head, made_end, made_messages, made_text}
use Rattle.schedule_maker.proofs.Rounds.{one_more}
use Rattle.schedule_maker.proofs.messages.make.Goals as goal

-- src/messages.rt:19:5
pub loop-before-preserved : goal.loop-before-preserved
loop-before-preserved c = one_more made_head c.loop-before.out.items c.message.new.out.items c.loop-before.before c.loop-before.invariant c.in_ok-message.ensures

-- src/messages.rt:12:1
pub returns : goal.returns
returns c =
    let all : c.loop-before.before ≡ c.args.messages = omega (arith, c.loop-before-test.false, c.loop-before.auto.before-end) in
    c.from_vec.ensures ∙ c.in_ok-extend_from_slice.ensures.items ∙ ap (λ o. o ++ made_end) c.loop-before.invariant
    ∙ append_assoc made_head (made_messages c.loop-before.before) made_end ∙ ap made_text all
