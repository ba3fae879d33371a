use Rattle.std.proofs.Common.{rules, ◌≡◌, suc, Some, option_map, sym, ap, subst, ◌∙◌}
use Rattle.std.specs.Prelude.{IfSome}
use Rattle.serde_json.specs.View.{view as data_of}
use Rattle.serde_json.specs.Written.{compact_text}
use Rattle.command_blocks.specs.EnvelopeTexts.{plain_setting}
use Rattle.command_blocks.specs.Scripts.{Publish}
use Rattle.client_plans.specs.Tasks.{Names, envelope_text}
use Rattle.publish_script.proofs.Ways.{publishable}
use Rattle.publish_script.specs.Drafts.{timed_task}
use Rattle.publish_script.specs.Readings.{reader_of, times_of}
use Rattle.publish_script.specs.Scripts.{Says, no_times}
use Rattle.publish_script.proofs.Begun.{says_task, wrong_task}
use Rattle.publish_script.proofs.reader.PublishReader.sealing.Goals as goal

pub returns-in-None-clause-read : goal.returns-in-None-clause-read
returns-in-None-clause-read c = λ j spells.
    let a = c.args.asked.now in
    let s = c.args.self.now.seed in
    let d = reader_of c.args.self.now in
    let more : c.in-Some.counter ≡ suc d.drawn = search rules in
    wrong_task s d a.exchange.now a.routing_key.now a.priority a.task.now j (data_of c.args.arguments) c.requires.way (sym spells)
    (ap (option_map envelope_text) (sym c.in-None.is) ∙ c.in_ok-envelope.ensures.text j spells
    ∙ ap (λ n. timed_task (times_of a) s n a.exchange.now a.routing_key.now a.priority a.task.now j) more ∙ ap (λ u. timed_task u s (suc d.drawn) a.exchange.now a.routing_key.now a.priority a.task.now j) c.requires.times)

pub returns-in-Some-2-clause-read : goal.returns-in-Some-2-clause-read
returns-in-Some-2-clause-read c = λ j spells.
    let a = c.args.asked.now in
    let s = c.args.self.now.seed in
    let d = reader_of c.args.self.now in
    let e = c.in-Some-2.envelope in
    let v = compact_text (data_of e) in
    let more : c.in-Some.counter ≡ suc d.drawn = search rules in
    let names : Names a.exchange.now a.routing_key.now (data_of e) = subst (λ o. IfSome o (λ x. Names a.exchange.now a.routing_key.now (data_of x))) c.in-Some-2.is c.in_ok-envelope.ensures.names in
    let written : plain_setting.written_tag v ≡ Some (plain_setting.tag s c.in-Some.counter) = subst (λ o. IfSome o (λ x. plain_setting.written_tag (compact_text (data_of x)) ≡ Some (plain_setting.tag s c.in-Some.counter))) c.in-Some-2.is c.in_ok-envelope.ensures.tag in (
      says_task s d a.exchange.now a.routing_key.now a.priority a.task.now j (data_of c.args.arguments) v c.requires.way (sym spells)
          (ap (option_map envelope_text) (sym c.in-Some-2.is) ∙ c.in_ok-envelope.ensures.text j spells
          ∙ ap (λ n. timed_task (times_of a) s n a.exchange.now a.routing_key.now a.priority a.task.now j) more ∙ ap (λ u. timed_task u s (suc d.drawn) a.exchange.now a.routing_key.now a.priority a.task.now j) c.requires.times)
          ∙ ap (λ n. Says (record { drawn = n; times = no_times }) (Publish v)) (sym more),
      (publishable a.exchange.now a.routing_key.now (data_of e) c.requires.way names, record { written = written ∙ ap (λ n. Some (plain_setting.tag s n)) more }),
    )
