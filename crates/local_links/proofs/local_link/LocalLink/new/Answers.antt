use Rattle.std.proofs.Common.{Some, [], arith, ap}
use Rattle.local_links.proofs.Fresh.{new_served}
use Rattle.local_links.proofs.local_link.LocalLink.new.Goals as goal

pub invariant_of-result : goal.invariant_of-result
invariant_of-result c = record {
  within = omega arith;
  emptied = c.new-2.ensures.out;
  served = ∣ (c.new.result, new_served c.new.result c.new-2.result c.new-3.result c.new-4.result c.new-3.ensures c.new-4.ensures c.new.ensures.open c.new-2.ensures.stands c.new-2.ensures.out c.new-2.ensures.commands) ∣₁;
}

pub returns : goal.returns
returns c = record {
  store_is = c.new.ensures.store;
  conn_is = c.new.ensures.conn;
  told = ap (λ l. record { sent = Some l; received = Some []; faults = 0; ends = 0; gains = 0 }) c.new-3.ensures;
  serves = new_served c.new.result c.new-2.result c.new-3.result c.new-4.result c.new-3.ensures c.new-4.ensures c.new.ensures.open c.new-2.ensures.stands c.new-2.ensures.out c.new-2.ensures.commands;
}
