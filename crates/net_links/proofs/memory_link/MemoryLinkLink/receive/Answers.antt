use Rattle.std.proofs.Common.{rules, ◌≡◌, ◌≤◌, ◌+◌, ◌-◌, length, take, drop, arith, sym, ap, ◌++◌, false, ◌∙◌, refl}
use Rattle.std.proofs.lemmas.Grind.{common_steps}
use Rattle.net_links.specs.MemoryForms.{received_count, link_fails, ends_by}
use Rattle.net_links.proofs.Counted.{received_piece, received_view}
use Rattle.net_links.proofs.memory_link.MemoryLinkLink.receive.Goals as goal

pub returns-clause-received : goal.returns-clause-received
returns-clause-received c =
    let s = c.self.inside in
    let n = c.min-count.result in
    let old_is : c.args.self.now.received ≡ take s.at s.incoming = sym (ap (λ v. v.received) (c.self.view_is ∙ c.if-fails_now.ensures.same refl)) in
    let within : s.at + n ≤ length s.incoming = grind (arith, common_steps) in
    let copied : c.copy_from_slice.new.self ≡ take n (drop s.at s.incoming) = grind (arith, common_steps) in
    rw old_is (received_piece s.incoming _ _ s.at n within copied)

pub returns-clause-after : goal.returns-clause-after
returns-clause-after c =
    let s = c.self.inside in
    let n = c.min-count.result in
    let gave : n ≡ received_count c.args.self.now (length c.args.into.now) = grind (arith, common_steps) in
    let fails : link_fails c.args.self.now ≡ false = sym c.fails_now.ensures.is ∙ c.if-fails_now.false in
    let room : length (c.copy_from_slice.new.self ++ drop n c.args.into.now) ≡ length c.args.into.now = grind (arith, common_steps) in
    received_view s.incoming s.at s.sent s.piece s.fails.items s.calls s.faults s.ends s.gains (length c.args.into.now) n _ _ _ c.args.self.now c.self.invariant.0 (c.self.view_is ∙ c.if-fails_now.ensures.same refl) fails gave c.raise.ensures.risen (c.count_end.ensures ∙ ap (λ m. ends_by n m s.ends) room) c.count_gain.ensures.is
