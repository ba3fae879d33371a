use Rattle.std.proofs.Common.{◌≡◌, ◌+◌, refl, ap, ◌∙◌, ◌∷◌, [], ◌++◌}
use Rattle.place_model.specs.declared.history.Entry.TheVariants.{Call}
use Rattle.schedule_model.specs.Costs.{reply_size, words_size}
use Rattle.schedule_past.proofs.Going.{gone_as_before}
use Rattle.schedule_past.proofs.Numbers.{among}
use Rattle.schedule_past.proofs.Sizing.{cost_more}
use Rattle.schedule_past.proofs.past.Past.note.Goals as goal

pub add-requires : goal.add-requires
add-requires c = record { running = (among c.args.client c.args.self.now.history.clients c.requires.known, c.requires.running); takable = (c.args.self.now.early, c.requires.limits) }

pub invariant_of-self-2 : goal.invariant_of-self-2
invariant_of-self-2 c =
    let grown : c.add.new.self.entries ≡ c.args.self.now.history.entries ++ Call c.args.client c.args.self.now.moment c.args.words c.args.reply ∷ [] = ap (λ h. h.entries) c.in_ok-add.ensures.ok in
    record {
      early = c.args.self.now.early;
      costs = c.requires.cost ∙ cost_more c.args.self.now.history.entries c.add.new.self.entries _ c.args.self.now.cost (64 + words_size c.args.words + reply_size c.args.reply) grown c.args.self.now.costs refl;
    }

pub returns-clause-clients : goal.returns-clause-clients
returns-clause-clients c =
    let grown : c.add.new.self.entries ≡ c.args.self.now.history.entries ++ Call c.args.client c.args.self.now.moment c.args.words c.args.reply ∷ [] = ap (λ h. h.entries) c.in_ok-add.ensures.ok in
    (ap (λ h. h.clients) c.in_ok-add.ensures.ok, λ k. gone_as_before k c.args.self.now.history.entries c.add.new.self.entries c.args.client c.args.self.now.moment c.args.words c.args.reply grown)
