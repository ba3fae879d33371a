-- What connections that were served one after the other asked, as one history of their store.
use Rattle.std.specs.Prelude.{List, None, Option, Some, [], false, length, map, suc, true, zero, ⊤, ℕ, ◌+◌, ◌++◌, ◌<◌, ◌∷◌, ◌≡◌, ◌⊎◌}
use Rattle.std.specs.FinMap.{empty}
use Rattle.wire_values.specs.declared.value.Value.{Value}
use Rattle.links.specs.Causes.{Rose}
use Rattle.wire_grammar.specs.Spells.{IsFront}
use Rattle.wire_grammar.specs.Streams.{Leads}
use Rattle.resp_wire.specs.Stands.{IsFault, held_to}
use Rattle.store_model.specs.Keys.{Keys}
use Rattle.store_model.specs.Store.{StoreView}
use Rattle.store_laws.specs.StoreLimits.{AreLimited, ReplyFits, has_counts}
use Rattle.place_model.specs.Histories.{History, IsLegal, IsTable, after}
use Rattle.place_model.specs.declared.heard.Heard.{Heard}
use Rattle.place_model.specs.declared.history.Entry.{Entry}
use Rattle.place_model.specs.declared.history.Entry.TheVariants as entry
use Rattle.desks.specs.Deeds.{Deed, DidStop, entries_by}
use Rattle.net_links.specs.LinkViews.{LinkView}
use Rattle.sessions.specs.Calls.{AreCalls}
use Rattle.sessions.specs.Hearings.{BeginsNoCommand, WritesAll, WritesPart}
use Rattle.sessions.specs.declared.conversing.SessionEnd.{SessionEnd}
use Rattle.sessions.specs.declared.ends.Why.{Why}
use Rattle.sessions.specs.declared.ends.Why.TheVariants.{Closed, Ended, Full, Link, Memory, NotWords, Turns, Wire}

-- a served connection: its link as it was closed, how its session ended, and what it did at the store
pub record Attended : Type 0 where
  pub link : LinkView
  pub end : SessionEnd
  pub deeds : List Deed

-- ---- its history

-- so many clients, by their connections from this number on; the seed of each is its number
abbrev pub served_clients : ℕ → ℕ → List (ℕ × ℕ)
served_clients c zero = []
served_clients c (suc n) = (c, c) ∷ served_clients (c + 1) n

-- what they did, one after the other, and that each left
abbrev pub served_entries : ℕ → List Attended → List (Entry Heard)
served_entries c [] = []
served_entries c (a ∷ later) = entries_by c (a.deeds ++ DidStop ∷ []) ++ served_entries (c + 1) later

-- the history of connections from number 1 on, at a store with these keys
abbrev pub served_history : Keys → List Attended → History Heard
served_history m attended = record { start = m; used = []; clients = served_clients 1 (length attended); entries = served_entries 1 attended }

-- a store with these keys that knows no connection
abbrev pub store_with : Keys → StoreView
store_with m = record { state = record { keys = m; conns = empty }; spent = false }

-- ---- what came of it

-- a link, of a net that tells of its links, carried these bytes there and back
abbrev pub TellsBoth : Option (List LinkView) → LinkView → List ℕ → List ℕ → Type 0
TellsBoth None link received sent = ⊤
TellsBoth (Some closed) link received sent = (link.received ≡ Some received) × (link.sent ≡ Some sent)

-- what stands where a session ended so, after the values that were asked: where the other side ended, all was asked and answered; after the last turn, at a fault and at a value that is no command, all before it was; where the link failed to take them a front of the answers was sent, and where it gave no more all were, and all whole values were asked; where memory was wanting all were, and something is left to be read, or nothing came, or a front was; a store that nobody shares is never full nor closed
abbrev pub IsLeftSo : LinkView → Why → List Deed → List ℕ → List ℕ → ℕ → List ℕ → Type 0
IsLeftSo link Ended deeds received sent from rest = WritesAll deeds sent × (rest ≡ [])
IsLeftSo link Turns deeds received sent from rest = WritesAll deeds sent × IsFront rest
IsLeftSo link (Wire kind place) deeds received sent from rest = WritesAll deeds sent × IsFault from rest kind place
IsLeftSo link NotWords deeds received sent from rest = WritesAll deeds sent × BeginsNoCommand rest
IsLeftSo link Link deeds received sent from rest = (WritesPart deeds sent × Rose 0 link.faults) ⊎ (WritesAll deeds sent × IsFront rest × (Rose 0 link.faults ⊎ (Rose 0 link.ends × (0 < length rest))))
IsLeftSo link Memory deeds received sent from rest = (WritesAll deeds sent × ((received ≡ []) ⊎ (0 < length rest))) ⊎ WritesPart deeds sent
IsLeftSo link (Full entries bytes) deeds received sent from rest = ⊥
IsLeftSo link Closed deeds received sent from rest = ⊥

-- what was asked are the commands of whole values that came over the link, each once and in order, what went back are their answers, and what is left unasked and unanswered is as the session's end says
pub record HasAttended (gives : ℕ → Type 0) (closed : Option (List LinkView)) (a : Attended) : Type 0 where
  pub received : List ℕ
  pub sent : List ℕ
  pub told : TellsBoth closed a.link received sent
  pub values : List Value
  pub from : ℕ
  pub rest : List ℕ
  pub leads : Leads 0 received values from rest
  pub calls : AreCalls gives values a.deeds
  pub counted : a.end.commands ≡ held_to (length a.deeds)
  pub left : IsLeftSo a.link a.end.why a.deeds received sent from rest

-- so of each
abbrev pub HasAttendedAll : (ℕ → Type 0) → Option (List LinkView) → List Attended → Type 0
HasAttendedAll gives closed [] = ⊤
HasAttendedAll gives closed (a ∷ later) = HasAttended gives closed a × HasAttendedAll gives closed later

-- just these links were closed, in order, where the net tells of them
abbrev pub ClosesAll : Option (List LinkView) → Option (List LinkView) → List LinkView → Type 0
ClosesAll None closed2 links = ⊤
ClosesAll (Some closed) None links = ⊥
ClosesAll (Some closed) (Some closed2) links = closed2 ≡ closed ++ links

-- each reply can be written, as far as its integers are of 64 bits
abbrev pub AllFit : List (Entry Heard) → Type 0
AllFit [] = ⊤
AllFit (entry.Call c at words reply ∷ es) = (has_counts reply.answer ≡ true → ReplyFits reply) × AllFit es
AllFit (entry.Heard c note ∷ es) = AllFit es
AllFit (entry.Stop c ∷ es) = AllFit es

-- serving came to a legal history: of the connections whose sessions ended so, it leads to the store that is left, unless that is spent, and its replies fit where the keys at its start are within the limits
pub record IsServedHistory (gives : ℕ → Type 0) (m : Keys) (closed closed2 : Option (List LinkView)) (ends : List SessionEnd) (left : StoreView) : Type 0 where
  pub attended : List Attended
  pub whole : map (λ a. a.end) attended ≡ ends
  pub closes : ClosesAll closed closed2 (map (λ a. a.link) attended)
  pub each : HasAttendedAll gives closed attended
  pub clients : IsTable (served_clients 1 (length attended)) []
  pub legal : IsLegal (served_history m attended)
  pub leads : left.spent ≡ false → left.state ≡ (after (served_history m attended)).store
  pub fits : AreLimited m → AllFit (served_entries 1 attended)
