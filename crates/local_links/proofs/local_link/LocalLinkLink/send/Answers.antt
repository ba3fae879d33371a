use Rattle.plain_desk.specs.declared.desk.PlainDesk.{PlainDesk}
use Rattle.sessions.specs.declared.talking.Talking.{Talking}
use Rattle.local_links.specs.LocalTalks.{Serves}
use Rattle.local_links.proofs.Kept.{kept_received, kept_served, since_some}
use Rattle.local_links.proofs.Placed.{ready_at}
use Rattle.local_links.proofs.local_link.LocalLinkLink.send.Goals as goal

pub take-taken-requires : goal.take-taken-requires
take-taken-requires c = let s = c.args.self.now in record { ready = ready_at s.desk s.sent s.replies s.talking s.stage s.served }

pub invariant_of-self : goal.invariant_of-self
invariant_of-self c =
    let s = c.args.self.now in
    let t = c.take-taken.new.talking in
    let kept = c.keep-self.ensures.kept in
    let t2 : Talking = record { decoder = t.decoder; out = c.keep-self.new.out; commands = t.commands } in
    record {
      within = (kept_received c.take-taken.result c.keep-self.result t.out.items s.replies c.keep-self.new.replies s.sent c.keep-self.new.sent c.args.piece.now s.at s.within kept).0;
      emptied = c.keep-self.ensures.emptied;
      served = since_some (λ first. Serves first s.desk s.sent s.replies s.talking s.stage) (λ first. Serves first c.take-taken.new.desk c.keep-self.new.sent c.keep-self.new.replies t2 c.keep-self.result) s.served (λ first served.
          kept_served first c.take-taken.new.desk s.sent c.keep-self.new.sent c.args.piece.now s.replies c.keep-self.new.replies t t2 c.keep-self.ensures.emptied c.take-taken.result c.keep-self.result
          (c.take-taken.ensures.served first s.sent s.replies served) kept);
    }

pub returns-clause-serves : goal.returns-clause-serves
returns-clause-serves c = λ first served.
    let s = c.args.self.now in
    let t = c.take-taken.new.talking in
    let t2 : Talking = record { decoder = t.decoder; out = c.keep-self.new.out; commands = t.commands } in
    kept_served first c.take-taken.new.desk s.sent c.keep-self.new.sent c.args.piece.now s.replies c.keep-self.new.replies t t2 c.keep-self.ensures.emptied c.take-taken.result c.keep-self.result
    (c.take-taken.ensures.served first s.sent s.replies served) c.keep-self.ensures.kept
