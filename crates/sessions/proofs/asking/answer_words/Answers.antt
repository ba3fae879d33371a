use Rattle.std.proofs.Common.{inr}
use Rattle.sessions.proofs.asking.answer_words.Goals as goal

pub returns-in-Err-counted-clause-answered : goal.returns-in-Err-counted-clause-answered
returns-in-Err-counted-clause-answered g c = inr (
  c.in-Ok.reply,
  record {
    at = c.store_moment-at.result;
    clocked = (c.now.result, c.now.ensures, c.store_moment-at.ensures.moment);
    did = c.in-Ok.ensures.ok;
    counted = c.counted.ensures.count;
  },
  c.in-Err-counted.ensures.none,
  c.in-Ok.ensures.open.no_fault,
)
