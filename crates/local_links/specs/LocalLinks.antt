-- What a link with a store behind it tells, and what a net does that hands such links out.
use Rattle.std.specs.Prelude.{Bool, Err, List, Ok, Result, Some, [], drop, false, length, nat_eq, take, true, ℕ, ◌≡◌, ◌∷◌, ◌||◌}
use Rattle.links.specs.Counts.{is_failing, raised}
use Rattle.net_links.specs.LinkViews.{LinkView}
use Rattle.net_links.specs.declared.link.NetFault.{NetFault}
use Rattle.net_links.specs.declared.link.NetFault.TheVariants.{Failed, Memory}
use Rattle.store_model.specs.Store.{StoreView}
use Rattle.plain_desk.specs.declared.desk.PlainDesk.{PlainDesk}
use Rattle.local_links.specs.LocalTalks.{Serves}
use Rattle.local_links.specs.declared.local_link.LocalLink.{LocalLink}

-- a link's exchange, whole, and its counts: it never fails
abbrev pub told_by : LocalLink → LinkView
told_by l = record { sent = Some l.sent; received = Some (take l.at l.replies); faults = 0; ends = l.ends; gains = l.gains }

-- since this desk a link's store was asked what was sent to it
abbrev pub ServesSince : PlainDesk → LocalLink → Type 0
ServesSince first l = Serves first l.desk l.sent l.replies l.talking l.stage

-- a link that nobody used, with this store behind it
pub record IsNewLink (store : StoreView) (l : LocalLink) : Type 0 where
  pub store_is : l.desk.store ≡ store
  pub conn_is : l.desk.conn ≡ 1
  pub told : told_by l ≡ record { sent = Some []; received = Some []; faults = 0; ends = 0; gains = 0 }
  pub serves : ServesSince l.desk l

-- whether the connect of this number fails: it is told to, or no store is left
abbrev pub lacks_store : List StoreView → List ℕ → ℕ → Bool
lacks_store stores fails tried = is_failing fails tried || nat_eq (length stores) 0

-- a connect gave a link to the first of these stores, which leaves the others; or it failed, and passed that store over; or there was no memory, and nothing happened
abbrev pub HandsOutStore : List StoreView → List StoreView → List ℕ → ℕ → ℕ → Result LocalLink NetFault → Type 0
HandsOutStore stores stores2 fails tried tried2 (Ok link) =
    (lacks_store stores fails tried ≡ false) × (tried2 ≡ raised tried) × (stores ≡ link.desk.store ∷ stores2) × IsNewLink link.desk.store link
HandsOutStore stores stores2 fails tried tried2 (Err Failed) = (lacks_store stores fails tried ≡ true) × (tried2 ≡ raised tried) × (stores2 ≡ drop 1 stores)
HandsOutStore stores stores2 fails tried tried2 (Err Memory) = (tried2 ≡ tried) × (stores2 ≡ stores)
