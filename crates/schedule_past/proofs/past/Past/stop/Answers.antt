use Rattle.std.proofs.Common.{◌≡◌, ◌+◌, rules, arith, refl, ap, ◌∙◌, ◌∷◌, [], ◌++◌}
use Rattle.std.proofs.lemmas.Grind.{common_steps}
use Rattle.place_model.specs.declared.history.Entry.TheVariants.{Stop}
use Rattle.schedule_past.proofs.Going.{others_gone_as_before}
use Rattle.schedule_past.proofs.Numbers.{among}
use Rattle.schedule_past.proofs.Sizing.{cost_more}
use Rattle.schedule_past.proofs.past.Past.stop.Goals as goal

pub add-requires : goal.add-requires
add-requires c = record { running = (among c.args.client c.args.self.now.history.clients c.requires.known, c.requires.running); takable = tt }

pub invariant_of-self-2 : goal.invariant_of-self-2
invariant_of-self-2 c =
    let grown : c.add.new.self.entries ≡ c.args.self.now.history.entries ++ Stop c.args.client ∷ [] = ap (λ h. h.entries) c.in_ok-add.ensures.ok in
    let whole : c.in-Some.cost ≡ c.args.self.now.cost + 64 = first_of (search rules, grind (arith, common_steps), omega arith) in
    record {
      early = c.args.self.now.early;
      costs = whole ∙ cost_more c.args.self.now.history.entries c.add.new.self.entries _ c.args.self.now.cost 64 grown c.args.self.now.costs refl;
    }

pub returns-clause-table : goal.returns-clause-table
returns-clause-table c = ap (λ h. h.clients) c.in_ok-add.ensures.ok

pub returns-clause-gone : goal.returns-clause-gone
returns-clause-gone c = λ k other.
    let grown : c.add.new.self.entries ≡ c.args.self.now.history.entries ++ Stop c.args.client ∷ [] = ap (λ h. h.entries) c.in_ok-add.ensures.ok in
    others_gone_as_before k c.args.self.now.history.entries c.add.new.self.entries c.args.client grown other
