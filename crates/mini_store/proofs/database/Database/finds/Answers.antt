use Rattle.std.proofs.Common.{◌≡◌, true, false, sym, ap, ◌∙◌, length}
use Rattle.std.specs.Cmp.{unsigned_Decides}
use Rattle.numerals.specs.Integers.{natural_of}
use Rattle.store_model.specs.Words.{brpop_until}
use Rattle.store_model.specs.Store.{State, finds}
use Rattle.store_model.specs.declared.command.Command.TheVariants.{Brpop}
use Rattle.store_model.proofs.Ends.{brpop_split}
use Rattle.mini_store.proofs.database.Database.finds.Goals as goal

pub returns-in_default-natural : goal.returns-in_default-natural
returns-in_default-natural c =
    let split = brpop_split c.args.args.now c.in-Some.names.now c.in-Some.time.now c.in-Some.ensures.cases.0 (λ e. let clash : false ≡ true = c.if-is_empty.ensures ∙ (unsigned_Decides (length c.in-Some.names.now) 0).1 e in cc) in
    ap (finds c.args.at c.args.self.now.keys) (ap (brpop_until c.in-Some.names.now) (sym c.in_default-natural.is ∙ c.natural.ensures ∙ ap natural_of c.as_slice.ensures) ∙ split)

pub returns : goal.returns
returns c =
    let split = brpop_split c.args.args.now c.in-Some.names.now c.in-Some.time.now c.in-Some.ensures.cases.0 (λ e. let clash : false ≡ true = c.if-is_empty.ensures ∙ (unsigned_Decides (length c.in-Some.names.now) 0).1 e in cc) in
    c.has_live.ensures ∙ ap (λ (s : State). finds c.args.at s.keys (Brpop c.in-Some.names.now)) c.self.view_is
    ∙ ap (finds c.args.at c.args.self.now.keys) (ap (brpop_until c.in-Some.names.now) (sym c.in-Some-natural.is ∙ c.natural.ensures ∙ ap natural_of c.as_slice.ensures) ∙ split)
