use Rattle.std.proofs.Common.{◌≡◌, [], cond, refl, ap, ◌∙◌, length, nat_eq}
use Rattle.store_model.specs.Keys.{put}
use Rattle.store_model.specs.declared.held.Stored.TheVariants.{Items}
use Rattle.store_keys.proofs.Rooms.{put_room, remove_room, back_room, no_items, is_items, always, where_some}
use Rattle.store_lists.proofs.lists.take_items.Goals as goal

pub returns-clause-room : goal.returns-clause-room
returns-clause-room c = always c.items_in.result (λ v. put_room c.args.keys.now c.replace.new.self c.args.key.now c.in-Some.held.now _ v c.in-Some.ensures refl c.in-Ok.ensures.ok)

pub returns-clause-gone : goal.returns-clause-gone
returns-clause-gone c = always c.items_in.result (remove_room c.args.keys.now c.replace.new.self c.args.key.now _ c.in-Ok.ensures.ok)

pub returns-clause-back : goal.returns-clause-back
returns-clause-back c = where_some c.items_in.result (λ xs. cond (nat_eq (length xs) 0) c.replace.new.self (put c.replace.new.self c.args.key.now (Items xs)) ≡ c.args.keys.now) (λ xs s.
    back_room Items c.args.keys.now c.replace.new.self c.args.key.now c.in-Some.held.now c.in-Ok.before _ xs [] (nat_eq (length xs) 0) (no_items xs)
    c.in-Some.ensures c.in-Ok.ensures.there (is_items c.in-Ok.before.value xs (s ∙ c.items_in.ensures)) (ap Items c.new-2.ensures) refl c.in-Ok.ensures.ok)
