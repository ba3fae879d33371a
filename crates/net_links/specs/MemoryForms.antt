-- A link and a net in memory, and what one call does to them.
use Rattle.std.specs.Prelude.{Bool, Err, List, None, Ok, Result, Some, [], drop, false, if◌then◌else◌, length, min, nat_eq, nat_lt, take, true, ℕ, ◌&&◌, ◌++◌, ◌+◌, ◌-◌, ◌∷◌, ◌≡◌, ◌||◌}
use Rattle.links.specs.Counts.{is_failing, raised}
use Rattle.net_links.specs.LinkViews.{LinkView}
use Rattle.net_links.specs.declared.link.NetFault.TheVariants.{Failed}
use Rattle.net_links.specs.declared.link.NetFault.{NetFault}

-- a link in memory: the bytes that are left to receive, those received and those sent, the longest piece, which calls fail, and its counts of calls, faults, ends and receives that gave bytes
pub record MemoryLinkView : Type 0 where
  pub left : List ℕ
  pub received : List ℕ
  pub sent : List ℕ
  pub piece : ℕ
  pub fails : List ℕ
  pub calls : ℕ
  pub faults : ℕ
  pub ends : ℕ
  pub gains : ℕ

-- a link that nobody used yet, with these bytes to receive
abbrev pub memory_link : List ℕ → ℕ → List ℕ → MemoryLinkView
memory_link incoming piece fails = record { left = incoming; received = []; sent = []; piece = piece; fails = fails; calls = 0; faults = 0; ends = 0; gains = 0 }

-- whether the next call of a link fails
abbrev pub link_fails : MemoryLinkView → Bool
link_fails l = is_failing l.fails l.calls

-- the link after a call that failed
abbrev pub after_failure : MemoryLinkView → MemoryLinkView
after_failure l = record l { calls = raised l.calls; faults = raised l.faults }

-- how many bytes of a piece of this length are sent
abbrev pub sent_count : MemoryLinkView → ℕ → ℕ
sent_count l length = min length l.piece

-- the link after it sent the front of a piece
abbrev pub after_sending : MemoryLinkView → List ℕ → MemoryLinkView
after_sending l piece = record l { sent = l.sent ++ take (sent_count l (length piece)) piece; calls = raised l.calls }

-- how many bytes are received into a slice of this length
abbrev pub received_count : MemoryLinkView → ℕ → ℕ
received_count l room = min (min (length l.left) room) l.piece

-- the count of ends after so many bytes came into a slice of this length
abbrev pub ends_by : ℕ → ℕ → ℕ → ℕ
ends_by count room ends = if nat_eq count 0 && nat_lt 0 room then raised ends else ends

-- the count of receives that gave bytes, after one that gave so many
abbrev pub gains_by : ℕ → ℕ → ℕ
gains_by count gains = if nat_eq count 0 then gains else raised gains

-- the link after a receive into a slice of this length
abbrev pub after_receive : MemoryLinkView → ℕ → MemoryLinkView
after_receive l room = if link_fails l then after_failure l else record l {
  left = drop (received_count l room) l.left;
  received = l.received ++ take (received_count l room) l.left;
  calls = raised l.calls;
  ends = ends_by (received_count l room) room l.ends;
  gains = gains_by (received_count l room) l.gains;
}

-- a link that carried nothing, never failed, never ended and gained nothing
pub record IsUnusedLink (l : MemoryLinkView) : Type 0 where
  pub nothing_sent : l.sent ≡ []
  pub nothing_received : l.received ≡ []
  pub no_fault : l.faults ≡ 0
  pub no_end : l.ends ≡ 0
  pub no_gain : l.gains ≡ 0

-- what a link tells
abbrev pub told_of : MemoryLinkView → LinkView
told_of l = record { sent = Some l.sent; received = Some l.received; faults = l.faults; ends = l.ends; gains = l.gains }

-- stands where no link is
abbrev pub no_link : LinkView
no_link = record { sent = None; received = None; faults = 0; ends = 0; gains = 0 }

-- a net in memory: the links that it will hand out, how many are out, what the closed ones told, which calls fail, and its counts
pub record MemoryNetView : Type 0 where
  pub links : List MemoryLinkView
  pub out : ℕ
  pub closed : List LinkView
  pub fails : List ℕ
  pub calls : ℕ
  pub faults : ℕ
  pub closed_faults : ℕ

-- a net that handed out no link yet
abbrev pub memory_net : List MemoryLinkView → List ℕ → MemoryNetView
memory_net links fails = record { links = links; out = 0; closed = []; fails = fails; calls = 0; faults = 0; closed_faults = 0 }

-- whether the next call of a net is told to fail
abbrev pub net_fails : MemoryNetView → Bool
net_fails n = is_failing n.fails n.calls

-- the net after a call that failed
abbrev pub after_net_failure : MemoryNetView → MemoryNetView
after_net_failure n = record n { calls = raised n.calls; faults = raised n.faults }

-- the net after it began to listen
abbrev pub after_listening : MemoryNetView → MemoryNetView
after_listening n = record n { calls = raised n.calls }

-- whether a net has no link to hand out: it is told to fail, or none is left
abbrev pub net_lacks : MemoryNetView → Bool
net_lacks n = net_fails n || nat_eq (length n.links) 0

-- a net handed out its next link; or it failed
abbrev pub HandsOut : MemoryNetView → MemoryNetView → Result MemoryLinkView NetFault → Type 0
HandsOut old new (Ok link) = (net_lacks old ≡ false) × (old.links ≡ link ∷ drop 1 old.links) × (new ≡ record old { links = drop 1 old.links; out = old.out + 1; calls = raised old.calls })
HandsOut old new (Err fault) = (fault ≡ Failed) × (net_lacks old ≡ true) × (new ≡ after_net_failure old)

-- the net after a close of a link
abbrev pub after_closing : MemoryNetView → MemoryLinkView → MemoryNetView
after_closing n link = record n {
  out = n.out - 1;
  closed = n.closed ++ told_of link ∷ [];
  closed_faults = if nat_eq link.faults 0 && nat_eq link.ends 0 then n.closed_faults else raised n.closed_faults;
}
