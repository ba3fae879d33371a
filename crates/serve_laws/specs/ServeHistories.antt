-- What a run of `serve` did, as one history of its store.
use Rattle.std.specs.Prelude.{List, ℕ}
use Rattle.store_model.specs.Keys.{Keys}
use Rattle.store_model.specs.Store.{StoreView, empty_state}
use Rattle.sessions.specs.declared.conversing.SessionEnd.{SessionEnd}
use Rattle.serving_laws.specs.ServedHistories.{AllFit, IsServedHistory, served_entries}
use Rattle.serve_run.specs.NetViews.{NetView}

-- the keys of a store that begins empty: none
abbrev pub no_keys : Keys
no_keys = empty_state.keys

-- connections whose sessions ended so, over a net that was such before and after, stand in one legal history from no key, which leads to the store that is left; and each reply can be written, as far as its integers are of 64 bits
pub record IsServeHistory (gives : ℕ → Type 0) (before after : NetView) (ends : List SessionEnd) (left : StoreView) : Type 0 where
  pub history : IsServedHistory gives no_keys before.closed after.closed ends left
  pub fits : AllFit (served_entries 1 history.attended)
