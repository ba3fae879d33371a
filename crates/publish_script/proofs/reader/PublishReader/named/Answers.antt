use Rattle.std.proofs.Common.{rules, ◌≡◌, false, true, map, sym, ap, subst, ◌∙◌}
use Rattle.std.specs.Prelude.{bytes_eq, codes}
use Rattle.publish_script.specs.Readings.{ArePublishers, IsLineRead, reader_of}
use Rattle.publish_script.specs.Scripts.{asked_step}
use Rattle.publish_script.proofs.Begun.{declare_begins, publish_begins, words_declare, words_publish}
use Rattle.publish_script.proofs.reader.PublishReader.named.Goals as goal

pub begin_if-requires : goal.begin_if-requires
begin_if-requires c = subst ArePublishers (sym c.in_ok-found.ensures) (publish_begins (map (λ word. word.now) c.args.rest.now))

pub begin_if-requires-then-eq-2 : goal.begin_if-requires-then-eq-2
begin_if-requires-then-eq-2 c = subst ArePublishers (sym c.in_ok-found-2.ensures) (declare_begins (map (λ word. word.now) c.args.rest.now))

pub returns-in_ok-found-clause-read : goal.returns-in_ok-found-clause-read
returns-in_ok-found-clause-read c =
    let d = reader_of c.args.self.now in
    let ws = map (λ word. word.now) c.args.rest.now in
    let first : bytes_eq c.args.first.now (codes "publish") ≡ true = search rules in
    subst (λ st. IsLineRead c.args.self.now.seed c.args.self.now.drawn st (reader_of c.begin_if.new.self) c.begin_if.result)
    (ap (asked_step c.args.self.now.seed d) c.in_ok-found.ensures ∙ sym (words_publish c.args.self.now.seed d c.args.first.now ws first)) c.begin_if.ensures.read

pub returns-in_ok-found-2-clause-read : goal.returns-in_ok-found-2-clause-read
returns-in_ok-found-2-clause-read c =
    let d = reader_of c.args.self.now in
    let ws = map (λ word. word.now) c.args.rest.now in
    let first : bytes_eq c.args.first.now (codes "publish") ≡ false = search rules in
    let second : bytes_eq c.args.first.now (codes "declare") ≡ true = search rules in
    subst (λ st. IsLineRead c.args.self.now.seed c.args.self.now.drawn st (reader_of c.begin_if-then-eq-2.new.self) c.begin_if-then-eq-2.result)
    (ap (asked_step c.args.self.now.seed d) c.in_ok-found-2.ensures ∙ sym (words_declare c.args.self.now.seed d c.args.first.now ws first second)) c.begin_if-then-eq-2.ensures.read
