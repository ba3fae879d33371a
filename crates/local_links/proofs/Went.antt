-- What the desk behind a link does, one thing after the other.
use Rattle.std.proofs.Common.{List, [], ◌++◌}
use Rattle.desks.specs.Deeds.{Deed}
use Rattle.plain_desk.specs.StoreRuns.{LeadsOn-joins, LeadsOn-stays, live_state}
use Rattle.plain_desk.specs.declared.desk.PlainDesk.{PlainDesk}
use Rattle.local_links.specs.LocalTalks.{desk_goes}

pub went_stays : (s : PlainDesk) → desk_goes s [] s
went_stays s = LeadsOn-stays s.conn (live_state s.store.spent s.store.state)

pub went_joins : (s t u : PlainDesk) (l m : List Deed) → desk_goes s l t → desk_goes t m u → desk_goes s (l ++ m) u
went_joins s t u = LeadsOn-joins s.conn t.conn u.conn (live_state s.store.spent s.store.state) (live_state t.store.spent t.store.state) (live_state u.store.spent u.store.state)
