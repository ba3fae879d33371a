-- How serving ends after sessions that ended so.
use Rattle.std.specs.Prelude.{List, [], ◌∷◌}
use Rattle.net_links.specs.declared.link.NetFault.{NetFault}
use Rattle.net_links.specs.declared.link.NetFault.TheVariants.{Failed}
use Rattle.net_links.specs.declared.link.NetFault.TheVariants as net
use Rattle.sessions.specs.declared.conversing.SessionEnd.{SessionEnd}
use Rattle.sessions.specs.declared.ends.Why.{Why}
use Rattle.sessions.specs.declared.ends.Why.TheVariants as why
use Rattle.serve_run.specs.declared.ending.ServingEnd.{ServingEnd}
use Rattle.serve_run.specs.declared.ending.ServingEnd.TheVariants.{Full, Memory, Net, Served, WriteFault}

-- a session that found its history full makes serving end so, where none did before
abbrev pub full_by : Why → ServingEnd
full_by (why.Full entries bytes) = Full entries bytes
full_by why.Ended = Served
full_by why.Turns = Served
full_by (why.Wire kind place) = Served
full_by why.NotWords = Served
full_by why.Link = Served
full_by why.Closed = Served
full_by why.Memory = Served

-- the end that was so far, after one session more
abbrev pub end_with : ServingEnd → Why → ServingEnd
end_with Served last = full_by last
end_with (Full entries bytes) last = Full entries bytes
end_with Net last = Net
end_with WriteFault last = WriteFault
end_with Memory last = Memory

-- the end that was so far, after these sessions more
abbrev pub end_after : ServingEnd → List SessionEnd → ServingEnd
end_after so_far [] = so_far
end_after so_far (end ∷ ends) = end_after (end_with so_far end.why) ends

-- the end where the net answered this
abbrev pub net_end : NetFault → ServingEnd
net_end Failed = Net
net_end net.Memory = Memory
