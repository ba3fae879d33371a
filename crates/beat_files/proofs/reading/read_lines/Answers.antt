use Rattle.std.proofs.Common.{◌≡◌, ◌++◌, ◌∷◌, ◌∙◌, [], ap, sym, arith, refl, subst}
use Rattle.line_text.specs.LinesLeft.{lines_left}
use Rattle.beat_files.specs.BeatFiles.{lines_spell}
use Rattle.beat_files.specs.Readings.{AreFrom, entries_before, line_of, lines_with}
use Rattle.beat_files.proofs.Spelled.{from_push, lines_push, reads_on}
use Rattle.beat_files.proofs.reading.read_lines.Goals as goal

pub loop-number-preserved : goal.loop-number-preserved
loop-number-preserved c =
    let i = c.loop-number.invariant in
    let e = c.in_ok-entry.entry in
    let tasks = c.loop-number.tasks.items in
    let times = c.loop-number.times.items in
    let rest = lines_spell c.args.cut (lines_left c.next.new.self) in
    let pushed : c.push.new.self.items ≡ tasks ++ e.task ∷ [] = c.in_ok-push.ensures.items in
    let timed : c.push-in-Some.new.self.items ≡ times ++ (record { timing = e.timing; last = c.args.start }) ∷ [] = c.in_ok-push-2.ensures.items in
    record {
      so_far =
          reads_on c.args.cut (lines_spell c.args.cut (lines_left c.args.lines)) (lines_with tasks times) (lines_left c.loop-number.lines) (lines_left c.next.new.self) c.in-Some.number c.in-Some.line.now (line_of e) i.so_far c.in-Some.ensures.steps c.in_ok-entry.ensures
          ∙ ap (λ ls. entries_before ls rest) (sym (lines_push tasks times e.task (record { timing = e.timing; last = c.args.start }) i.paired))
          ∙ ap (λ xs. entries_before (lines_with xs (times ++ (record { timing = e.timing; last = c.args.start }) ∷ [])) rest) (sym pushed)
          ∙ ap (λ ys. entries_before (lines_with c.push.new.self.items ys) rest) (sym timed);
      paired = omega (arith, i.paired, c.in_ok-push.ensures.len, c.in_ok-push-2.ensures.len);
      begun = subst (AreFrom c.args.start) (sym timed) (from_push c.args.start times (record { timing = e.timing; last = c.args.start }) i.begun refl);
    }
