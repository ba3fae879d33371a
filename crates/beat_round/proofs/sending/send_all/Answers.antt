use Rattle.std.proofs.Common.{◌+◌, ◌++◌, ◌∷◌, [], arith, drop, length, subst, sym}
use Rattle.std.specs.Prelude.{slice_index_or}
use Rattle.beat_files.specs.Readings.{tasks_in}
use Rattle.beat_round.specs.Rounds.{AreSent}
use Rattle.beat_round.proofs.Sendings.{below_next, parted, passed, sent_more, stopped_at}
use Rattle.beat_round.proofs.sending.send_all.Goals as goal

pub entry_at-entry-requires : goal.entry_at-entry-requires
entry_at-entry-requires g c =
    let indices = c.args.indices.now in
    let k = c.entries.index-index in
    let i = c.entries.invariant in
    below_next (length (tasks_in c.args.schedule.now)) i.sent_so.0 (slice_index_or indices k 0) (drop (k + 1) indices) indices (parted indices i.sent_so.0 k (omega arith) i.sent_so.1) c.requires.below

pub returns-in-Err-clause-sent : goal.returns-in-Err-clause-sent
returns-in-Err-clause-sent g c =
    let indices = c.args.indices.now in
    let k = c.entries.index-index in
    let i = c.entries.invariant in
    stopped_at g.D.Desk.goes g.D.Desk.fault g.D.Desk.stopped g.T.Steps.client g.T.Steps.left (g.C.Clock.gives c.args.clock.now) c.args.desk.now c.send_entry.new.desk c.args.steps.now c.send_entry.new.steps
    (tasks_in c.args.schedule.now) indices i.sent_so.0 (slice_index_or indices k 0) (drop (k + 1) indices) c.entries.sent c.entries.desk c.entries.steps c.entry_at-entry.result.now c.in-Err.end
    (parted indices i.sent_so.0 k (omega arith) i.sent_so.1) i.sent_so.2 c.entry_at-entry.ensures c.in-Err.ensures.sent

pub entries-preserved : goal.entries-preserved
entries-preserved g c =
    let indices = c.args.indices.now in
    let k = c.entries.index-index in
    let i = c.entries.invariant in
    let gives = g.C.Clock.gives c.args.clock.now in
    let tasks = tasks_in c.args.schedule.now in
    let before = i.sent_so.0 ++ slice_index_or indices k 0 ∷ [] in
    let more = sent_more g.D.Desk.goes g.met.D.Desk.stays g.met.D.Desk.joins gives tasks i.sent_so.0 (g.T.Steps.client c.args.steps.now) (g.T.Steps.client c.entries.steps) (g.T.Steps.client c.send_entry.new.steps)
    c.args.desk.now c.entries.desk c.send_entry.new.desk c.entries.sent (slice_index_or indices k 0) c.entry_at-entry.result.now c.in-Ok.tag i.sent_so.2 c.entry_at-entry.ensures c.in-Ok.ensures.sent in
    record {
      sent_so = (
        before,
        passed indices i.sent_so.0 (drop (k + 1) indices) (slice_index_or indices k 0) (parted indices i.sent_so.0 k (omega arith) i.sent_so.1),
        subst (AreSent g.D.Desk.goes gives tasks (g.T.Steps.client c.args.steps.now) (g.T.Steps.client c.send_entry.new.steps) c.args.desk.now c.send_entry.new.desk before) (sym c.in_ok-push-in-Ok.ensures.ok) more,
      );
      is_open = c.in-Ok.ensures.open;
      idle = c.in-Ok.ensures.idle;
      counts = record { later_faults = omega (arith, i.counts.later_faults, c.in-Ok.ensures.counts.later_faults); later_ends = omega (arith, i.counts.later_ends, c.in-Ok.ensures.counts.later_ends) };
    }
