use Rattle.std.proofs.Common.{List, inl, subst, sym, ℕ, ◌≡◌, ◌∙◌}
use Rattle.wire_values.specs.declared.value.Value.{Value}
use Rattle.links.specs.Views.{SinkView, sink_view}
use Rattle.publish_run.specs.declared.ending.PublishingEnd.{PublishingEnd}
use Rattle.publish_run.specs.declared.ending.PublishingEnd.TheVariants.{Refused}
use Rattle.top_call.specs.Endings.{WritesText}
use Rattle.top_call.specs.declared.ending.Ended.{Ended}
use Rattle.waiting_call.specs.Publishes.{TellsPublishing, publishing_ended, refused_text}
use Rattle.waiting_call.proofs.publishing.finish_publishing.Goals as goal

-- a refused answer was told
told_refused : (o x : SinkView) (r : Ended) (end : PublishingEnd) (answer : Value) (text : List ℕ) (ended : Ended) → end ≡ Refused answer → text ≡ refused_text answer → ended ≡ publishing_ended (Refused answer)
    → WritesText o x text ended r → TellsPublishing end o x r
told_refused o x r end answer text ended is text_is ended_is w =
    let by_status : WritesText o x text (publishing_ended (Refused answer)) r = subst (λ (d : Ended). WritesText o x text d r) ended_is w in
    let by_text : WritesText o x (refused_text answer) (publishing_ended (Refused answer)) r = subst (λ (t : List ℕ). WritesText o x t (publishing_ended (Refused answer)) r) text_is by_status in
    subst (λ (e : PublishingEnd). TellsPublishing e o x r) (sym is) (inl by_text)

pub returns-in-Ok-refused_text : goal.returns-in-Ok-refused_text
returns-in-Ok-refused_text g c =
    let o = sink_view g.K.Sink.taken g.K.Sink.write_faults c.args.out.now in
    let x = sink_view g.K.Sink.taken g.K.Sink.write_faults c.write_text-in-Ok-refused_text.new.out in
    told_refused o x c.write_text-in-Ok-refused_text.result c.args.end c.in-Refused.answer c.as_slice.result.now c.at-in-Ok-refused_text.result c.in-Refused.is
    (c.as_slice.ensures.value ∙ c.in-Ok-refused_text.ensures) c.at-in-Ok-refused_text.ensures c.write_text-in-Ok-refused_text.ensures
