use Rattle.replay.proofs.Reported.{totals_written}
use Rattle.replay.proofs.place_text.total_text.Goals as goal

pub returns : goal.returns
returns c = totals_written c.args.lists c.args.unacked c.args.hands c.args.ended c.args.lost c.args.copies c.args.out.now.items _ _ _ _ _ _ _ c.in_ok-counted.ensures c.in_ok-counted-2.ensures c.in_ok-counted-3.ensures c.in_ok-counted-4.ensures c.in_ok-counted-5.ensures c.in_ok-counted-6.ensures c.in_ok-push.ensures.items
