use Rattle.schedule_past.proofs.Numbers.{away, seed_away}
use Rattle.schedule_past.proofs.past.Past.add_client.Goals as goal

pub client-requires-clause-conn : goal.client-requires-clause-conn
client-requires-clause-conn c = away c.args.client c.args.self.now.history.clients c.requires.number

pub client-requires-clause-seed : goal.client-requires-clause-seed
client-requires-clause-seed c = seed_away c.args.seed c.args.self.now.history.clients c.requires.seed
