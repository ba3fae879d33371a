use Rattle.std.proofs.Common.{◌≡◌, IfOk, ap, ◌∙◌, subst}
use Rattle.std.specs.FinMap.{empty}
use Rattle.command_blocks.specs.EnvelopeTexts.{plain_setting}
use Rattle.place_model.specs.Histories.{after_entries, start_from}
use Rattle.place_walk.specs.Seats.{seat_of}
use Rattle.place_index.proofs.StoreLeft.{store_is}
use Rattle.place_index.proofs.stored.store_after.Goals as goal

pub returns : goal.returns
returns c =
    let e = store_is (seat_of plain_setting) c.in_ok-known.known c.clients.result.now c.entries.result.now c.in_ok-known.ensures
    ∙ ap (λ cs. (after_entries (start_from empty cs) c.entries.result.now).store) c.clients.ensures
    ∙ ap (λ es. (after_entries (start_from empty c.args.history.now.clients) es).store) c.entries.ensures.entries in
    subst (λ s. IfOk c.taken.result (λ store. store.state ≡ s)) e c.taken.ensures
