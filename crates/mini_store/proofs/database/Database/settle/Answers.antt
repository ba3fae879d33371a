use Rattle.std.proofs.Common.{◌≡◌, refl, sym, subst}
use Rattle.store_model.specs.Store.{State, settled}
use Rattle.store_keys.proofs.Calm.{settled_calm}
use Rattle.mini_store.proofs.database.Database.settle.Goals as goal

pub returns-then-is_calm : goal.returns-then-is_calm
returns-then-is_calm c =
    let P : State → Type 0 = λ s. s ≡ settled s c.args.at in
    let seen : State = record { keys = c.self.inside.keys; conns = c.self.inside.conns } in
    subst P c.self.view_is (sym (settled_calm c.args.at seen (c.if-is_calm.ensures refl)))
