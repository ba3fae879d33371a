use Rattle.std.proofs.Common.{rules, ◌≡◌, ◌≤◌, ◌+◌, ◌-◌, length, take, drop, arith}
use Rattle.std.proofs.lemmas.Grind.{common_steps}
use Rattle.net_links.proofs.Counted.{received_piece}
use Rattle.local_links.proofs.local_link.LocalLinkLink.receive.Goals as goal

pub returns-clause-received : goal.returns-clause-received
returns-clause-received c =
    let s = c.args.self.now in
    let n = c.min-count.result in
    let within : s.at + n ≤ length s.replies = grind (arith, common_steps) in
    let copied : c.copy_from_slice.new.self ≡ take n (drop s.at s.replies) = grind (arith, common_steps) in
    received_piece s.replies _ _ s.at n within copied
