use Rattle.std.proofs.Common.{◌≡◌, cond, refl, ap, ◌∙◌, nat_eq}
use Rattle.std.specs.FinMap.{empty, len}
use Rattle.store_model.specs.Keys.{put}
use Rattle.store_model.specs.declared.held.Stored.TheVariants.{Members}
use Rattle.store_keys.proofs.Rooms.{put_room, remove_room, back_room, none_back, no_entries, is_members, always, where_some}
use Rattle.store_sets.proofs.sets.take_members.Goals as goal

pub returns-in_default-clause-back : goal.returns-in_default-clause-back
returns-in_default-clause-back c = none_back c.args.keys.now _ c.new.result c.new.ensures

pub returns-clause-room : goal.returns-clause-room
returns-clause-room c = always c.members_in.result (λ v. put_room c.args.keys.now c.replace.new.self c.args.key.now c.in-Some.held.now _ v c.in-Some.ensures refl c.in-Ok.ensures.ok)

pub returns-clause-gone : goal.returns-clause-gone
returns-clause-gone c = always c.members_in.result (remove_room c.args.keys.now c.replace.new.self c.args.key.now _ c.in-Ok.ensures.ok)

pub returns-clause-back : goal.returns-clause-back
returns-clause-back c = where_some c.members_in.result (λ h. cond (nat_eq (len h) 0) c.replace.new.self (put c.replace.new.self c.args.key.now (Members h)) ≡ c.args.keys.now) (λ h s.
    back_room Members c.args.keys.now c.replace.new.self c.args.key.now c.in-Some.held.now c.in-Ok.before _ h empty (nat_eq (len h) 0) (no_entries h)
    c.in-Some.ensures c.in-Ok.ensures.there (is_members c.in-Ok.before.value h (s ∙ c.members_in.ensures)) (ap Members c.new-2.ensures) refl c.in-Ok.ensures.ok)
