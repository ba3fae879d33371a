use Rattle.std.proofs.Common.{◌<◌, List, length, subst, sym}
use Rattle.queue_keys.specs.Names.{Bytes}
use Rattle.manner_laws.specs.Spots.{routed}
use Rattle.client_spots.specs.Stands.{job_of}
use Rattle.client_asks.specs.Asks.{IsAskedAt}
use Rattle.client_asks.proofs.Tests.{no_element}
use Rattle.client_asks.proofs.returning.ask_ready.Goals as goal

pub returns-in-empty : goal.returns-in-empty
returns-in-empty c = λ at.
    let s = c.args.spot.now in
    subst (λ (ks : List Bytes). IsAskedAt (routed s.drawn s.passes (job_of s) s.tries s.envelope ks) s at c.args.words.now c.ask_leaving.new.spot c.ask_leaving.result)
    (sym (no_element s.keys (subst (λ (l : List Bytes). length l < 1) c.as_slice.ensures c.in-empty.len_below))) (c.ask_leaving.ensures at)
