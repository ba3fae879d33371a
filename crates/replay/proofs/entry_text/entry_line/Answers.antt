use Rattle.std.proofs.Common.{◌++◌, ◌∙◌, ap, sym}
use Rattle.place_model.specs.declared.history.Entry.TheVariants.{Call}
use Rattle.schedule_model.specs.Legends.{legend_of}
use Rattle.schedule_model.specs.Reports.{entry_line}
use Rattle.replay.proofs.entry_text.entry_line.Goals as goal

pub returns-in_ok-call_line-in-Call : goal.returns-in_ok-call_line-in-Call
returns-in_ok-call_line-in-Call g c = λ σ.
    c.in_ok-call_line-in-Call.ensures σ
    ∙ (ap (λ words. c.args.out.now.items ++ entry_line (legend_of σ (g.L.Legend.shape c.args.legend.now)) c.args.number (Call c.in-Call.conn c.in-Call.at words c.in-Call.reply)) c.as_slice.ensures
    ∙ ap (λ entry. c.args.out.now.items ++ entry_line (legend_of σ (g.L.Legend.shape c.args.legend.now)) c.args.number entry) (sym c.in-Call.is))
