use Rattle.std.proofs.Common.{ap, ◌∙◌, sym, take, drop}
use Rattle.queue_keys.proofs.Cuts.{name_taken, mark_left, place_is, no_place}
use Rattle.queue_keys.proofs.keys.mark_place.Goals as goal

pub returns-in-Some-clause-name : goal.returns-in-Some-clause-name
returns-in-Some-clause-name c = ap (λ n. take n c.args.key.now) (place_is c.args.key.now c.in-Some.place (sym c.first_six.ensures ∙ c.in-Some.is)) ∙ name_taken c.args.key.now

pub returns-in-Some-clause-mark : goal.returns-in-Some-clause-mark
returns-in-Some-clause-mark c = ap (λ n. drop n c.args.key.now) (place_is c.args.key.now c.in-Some.place (sym c.first_six.ensures ∙ c.in-Some.is)) ∙ mark_left c.args.key.now

pub returns-in-None-clause-name : goal.returns-in-None-clause-name
returns-in-None-clause-name c = ap (λ n. take n c.args.key.now) (no_place c.args.key.now (sym c.first_six.ensures ∙ c.in-None.is)) ∙ name_taken c.args.key.now

pub returns-in-None-clause-mark : goal.returns-in-None-clause-mark
returns-in-None-clause-mark c = ap (λ n. drop n c.args.key.now) (no_place c.args.key.now (sym c.first_six.ensures ∙ c.in-None.is)) ∙ mark_left c.args.key.now
