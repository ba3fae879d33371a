-- What a run of `serve` did stands in one legal history.
use Rattle.std.proofs.Common.{List, ℕ}
use Rattle.store_model.specs.Store.{StoreView}
use Rattle.store_laws.proofs.StepsLimited.{limited_empty}
use Rattle.sessions.specs.declared.conversing.SessionEnd.{SessionEnd}
use Rattle.store_server.specs.Servings.{HasServedAll}
use Rattle.serving_laws.specs.ServedHistories.{IsServedHistory, store_with}
use Rattle.serving_laws.proofs.Histories.{serving}
use Rattle.serve_run.specs.NetViews.{NetView}
use Rattle.serve_laws.specs.ServeHistories.{IsServeHistory, no_keys}

pub run_stands : (gives : ℕ → Type 0) (turns : ℕ) (before after : NetView) (ends : List SessionEnd) (left : StoreView) → HasServedAll gives turns 1 (store_with no_keys) left before.closed after.closed ends → IsServeHistory gives before after ends left
run_stands gives turns before after ends left all =
    let h : IsServedHistory gives no_keys before.closed after.closed ends left = serving gives turns no_keys left before.closed after.closed ends all in
    record { history = h; fits = h.fits limited_empty.keys }
