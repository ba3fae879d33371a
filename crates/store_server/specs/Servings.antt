-- How a store serves connections one after the other.
use Rattle.std.specs.Prelude.{List, Option, Result, Err, Ok, [], false, length, ℕ, ◌+◌, ◌++◌, ◌<◌, ◌∷◌, ◌≡◌, ◌≤◌, ◌⊎◌}
use Rattle.links.specs.Causes.{Rose}
use Rattle.net_links.specs.Traffics.{ClosesOne, IsFresh, KeepsClosed}
use Rattle.net_links.specs.declared.link.NetFault.{NetFault}
use Rattle.net_links.specs.declared.link.NetFault.TheVariants.{Failed}
use Rattle.net_links.specs.declared.link.NetFault.TheVariants as net
use Rattle.store_model.specs.Store.{StoreView, gone_of}
use Rattle.desks.specs.Deeds.{Deed}
use Rattle.desks.specs.declared.desk.DeskFault.{DeskFault}
use Rattle.plain_desk.specs.StoreRuns.{LeadsOn, live_state}
use Rattle.net_links.specs.LinkViews.{LinkView}
use Rattle.sessions.specs.SessionEnds.{HasSession}
use Rattle.sessions.specs.declared.conversing.SessionEnd.{SessionEnd}
use Rattle.store_server.specs.declared.serving.ServeWhy.{ServeWhy}
use Rattle.store_server.specs.declared.serving.ServeWhy.TheVariants.{Ended, Memory, Net}

-- the deeds of this connection lead a store from the one state to the other
abbrev pub store_goes : ℕ → StoreView → List Deed → StoreView → Type 0
store_goes c s l t = LeadsOn c (live_state s.spent s.state) l c (live_state t.spent t.state)

-- a store without all that a connection has
abbrev pub without : ℕ → StoreView → StoreView
without c s = record { state = gone_of s.state c; spent = s.spent }

-- a session was had at a store that nobody shares, which is then without what the connection had
pub record HasVisited (gives : ℕ → Type 0) (turns c : ℕ) (store store2 : StoreView) (link link2 : LinkView) (end : SessionEnd) : Type 0 where
  pub left : StoreView
  pub fault : Option DeskFault
  pub session : HasSession (store_goes c) gives false fault store left link link2 turns end.commands end.why
  pub gone : store2 ≡ without c left

-- one connection was served: a link that nobody had used had a session at the store, and was closed
pub record HasServedOne (gives : ℕ → Type 0) (turns c : ℕ) (store store2 : StoreView) (closed closed2 : Option (List LinkView)) (end : SessionEnd) : Type 0 where
  pub link : LinkView
  pub link2 : LinkView
  pub fresh : IsFresh closed link
  pub visited : HasVisited gives turns c store store2 link link2 end
  pub carried : ClosesOne closed closed2 link2

-- a connection was served; or the net gave no link, and nothing else happened
abbrev pub HasServedNext : (ℕ → Type 0) → ℕ → ℕ → StoreView → StoreView → Option (List LinkView) → Option (List LinkView) → Result SessionEnd NetFault → Type 0
HasServedNext gives turns c store store2 closed closed2 (Ok end) = HasServedOne gives turns c store store2 closed closed2 end
HasServedNext gives turns c store store2 closed closed2 (Err fault) = (store2 ≡ store) × KeepsClosed closed closed2

-- connections from this number on were served, one after the other, and their sessions ended so
abbrev pub HasServedAll : (ℕ → Type 0) → ℕ → ℕ → StoreView → StoreView → Option (List LinkView) → Option (List LinkView) → List SessionEnd → Type 0
HasServedAll gives turns c store store2 closed closed2 [] = (store2 ≡ store) × KeepsClosed closed closed2
HasServedAll gives turns c store store2 closed closed2 (end ∷ ends) =
    (mid : StoreView) × (between : Option (List LinkView)) × HasServedOne gives turns c store mid closed between end × HasServedAll gives turns (c + 1) mid store2 between closed2 ends

-- serving ends when as many sessions ended as were wanted and the net didn't fail; or when the net failed before that, or before any was wanted; or memory was wanting before that, and the net didn't fail
abbrev pub IsServeWhy : ℕ → ℕ → ℕ → ℕ → ServeWhy → Type 0
IsServeWhy wanted count faults faults2 Ended = (count ≡ wanted) × (faults2 ≡ faults)
IsServeWhy wanted count faults faults2 Net = Rose faults faults2 × ((count < wanted) ⊎ (count ≡ 0))
IsServeWhy wanted count faults faults2 Memory = (faults2 ≡ faults) × ((count < wanted) ⊎ (count ≡ 0))

-- why no more is served where the net answered this
abbrev pub why_at : NetFault → ServeWhy
why_at Failed = Net
why_at net.Memory = Memory

-- a session that ended, whose end there was no memory to keep
abbrev pub IsUnkept : ServeWhy → List SessionEnd → Type 0
IsUnkept Ended ends = ends ≡ []
IsUnkept Net ends = ends ≡ []
IsUnkept Memory ends = length ends ≤ 1

-- serving: what was served, and why no more was
pub record HasServed (gives : ℕ → Type 0) (turns wanted : ℕ) (store store2 : StoreView) (closed closed2 : Option (List LinkView)) (faults faults2 : ℕ) (ends : List SessionEnd) (why : ServeWhy) : Type 0 where
  pub unkept : List SessionEnd
  pub served : HasServedAll gives turns 1 store store2 closed closed2 (ends ++ unkept)
  pub few : length (ends ++ unkept) ≤ wanted
  pub later : faults ≤ faults2
  pub cause : IsServeWhy wanted (length ends) faults faults2 why
  pub whole : IsUnkept why unkept
