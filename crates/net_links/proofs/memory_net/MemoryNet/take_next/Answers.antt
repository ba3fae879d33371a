use Rattle.std.proofs.Common.{rules, All, ◌<◌, ◌≡◌, ◌≤◌, ◌+◌, ◌-◌, length, drop, arith, sym, ap, subst, length-drop, slice_index_or}
use Rattle.std.proofs.lemmas.Grind.{common_steps}
use Rattle.net_links.specs.MemoryForms.{MemoryNetView, IsUnusedLink}
use Rattle.net_links.proofs.Slots.{fewer_unused, first_unused}
use Rattle.net_links.proofs.memory_net.MemoryNet.take_next.Goals as goal

pub invariant_of-self : goal.invariant_of-self
invariant_of-self c =
    let s = c.self.inside in
    let old_is : c.args.self.now.links ≡ drop s.given s.links.items = sym (ap (λ v. v.links) c.self.view_is) in
    let some : 0 < length (drop s.given s.links.items) = subst (λ l. 0 < length l) old_is c.requires in
    let within : s.given < length s.links.items = omega (arith, some, length-drop s.given s.links.items) in
    (search rules, search rules, fewer_unused s.links.items s.given c.replace-link.new.dest within c.self.invariant.2)

pub returns-clause-unused : goal.returns-clause-unused
returns-clause-unused c =
    let s = c.self.inside in
    let old_is : c.args.self.now.links ≡ drop s.given s.links.items = sym (ap (λ v. v.links) c.self.view_is) in
    let some : 0 < length (drop s.given s.links.items) = subst (λ l. 0 < length l) old_is c.requires in
    let within : s.given < length s.links.items = omega (arith, some, length-drop s.given s.links.items) in
    first_unused s.links.items s.given c.replace-link.result within c.self.invariant.2 (search rules)
