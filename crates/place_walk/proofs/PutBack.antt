-- What a walk has after a client's seat was taken out and put back.
use Rattle.std.proofs.Common.{◌≡◌, ◌++◌, List, ℕ, None, Some, Result, Ok, Err, OnOk, sym, ap, ◌∙◌, true}
use Rattle.std.proofs.lemmas.Cmp.{nat_cmp_total}
use Rattle.std.specs.Ordering.{nat_cmp}
use Rattle.std.specs.FinMap.{FinMap, get, insert, nat_cmp-IsAntisymmetric, remove}
use Rattle.store_tables.proofs.Lookups.{insert-remove, remove_same}
use Rattle.wire_values.specs.declared.value.Value.{Value}
use Rattle.command_blocks.specs.EnvelopeTexts.{plain_setting}
use Rattle.message_acts.specs.Numbers.{listed}
use Rattle.message_acts.specs.Acts.{push_of}
use Rattle.message_acts.specs.Transactions.{copied_by, ended_by}
use Rattle.place_walk.specs.Walks.{call_noted, seat_after, walk_called, walk_stopped}
use Rattle.message_acts.specs.declared.act.Act.{Act}
use Rattle.message_acts.specs.declared.act.CallKind.{CallKind}
use Rattle.place_walk.specs.declared.seat.ClientSeat.{ClientSeat}
use Rattle.place_walk.specs.declared.walk.HistoryWalk.{HistoryWalk}

-- no seat was there
pub called_none : (w : HistoryWalk) (c : ℕ) (k : CallKind) (a : Act) (r : Value) (s : FinMap nat_cmp ClientSeat) (acc : List ℕ) → None ≡ get w.seats c → s ≡ remove w.seats c → acc ≡ w.accepted ++ listed (push_of k a r)
    → record { seats = s; accepted = acc; pushes = w.pushes; ended = w.ended; copied = w.copied } ≡ walk_called plain_setting w c k a r (get w.seats c)
called_none w c k a r s acc is gone more =
    let e : s ≡ w.seats = gone ∙ remove_same nat_cmp_total nat_cmp-IsAntisymmetric w.seats c (sym is) in
    ap (λ m. record { seats = m; accepted = acc; pushes = w.pushes; ended = w.ended; copied = w.copied }) e
    ∙ ap (λ l. record { seats = w.seats; accepted = l; pushes = w.pushes; ended = w.ended; copied = w.copied }) more
    ∙ ap (walk_called plain_setting w c k a r) is

-- a seat was there
pub called_some : (w n : HistoryWalk) (c : ℕ) (k : CallKind) (a : Act) (r : Value) (seat new : ClientSeat) (s t : FinMap nat_cmp ClientSeat) (acc : List ℕ) (acts : List Act) → Some seat ≡ get w.seats c → s ≡ remove w.seats c → acts ≡ seat.acts
    → n ≡ call_noted (record w { seats = s; accepted = acc }) acts k a r → t ≡ insert n.seats c new → new ≡ seat_after plain_setting seat k a r → acc ≡ w.accepted ++ listed (push_of k a r)
    → record { seats = t; accepted = n.accepted; pushes = n.pushes; ended = n.ended; copied = n.copied } ≡ walk_called plain_setting w c k a r (get w.seats c)
called_some w n c k a r seat new s t acc acts is gone same noted put by more =
    let e : t ≡ insert w.seats c (seat_after plain_setting seat k a r) = put ∙ ap (λ (m : HistoryWalk). insert m.seats c new) noted ∙ ap (λ m. insert m c new) gone ∙ insert-remove nat_cmp_total nat_cmp-IsAntisymmetric w.seats c new ∙ ap (insert w.seats c) by in
    let all : record { seats = insert w.seats c (seat_after plain_setting seat k a r); accepted = acc; pushes = w.pushes ++ listed (push_of k a r); ended = w.ended ++ ended_by acts k r; copied = w.copied ++ copied_by acts k r } ≡ walk_called plain_setting w c k a r (Some seat) =
    ap (λ l. record { seats = insert w.seats c (seat_after plain_setting seat k a r); accepted = l; pushes = w.pushes ++ listed (push_of k a r); ended = w.ended ++ ended_by acts k r; copied = w.copied ++ copied_by acts k r }) more
    ∙ ap (λ x. record { seats = insert w.seats c (seat_after plain_setting seat k a r); accepted = w.accepted ++ listed (push_of k a r); pushes = w.pushes ++ listed (push_of k a r); ended = w.ended ++ ended_by x k r; copied = w.copied ++ copied_by x k r }) same in
    ap (λ m. record { seats = m; accepted = n.accepted; pushes = n.pushes; ended = n.ended; copied = n.copied }) e
    ∙ ap (λ (m : HistoryWalk). record { seats = insert w.seats c (seat_after plain_setting seat k a r); accepted = m.accepted; pushes = m.pushes; ended = m.ended; copied = m.copied }) noted
    ∙ all ∙ ap (walk_called plain_setting w c k a r) is

pub stopped_none : (w : HistoryWalk) (c : ℕ) (s : FinMap nat_cmp ClientSeat) → None ≡ get w.seats c → s ≡ remove w.seats c
    → record { seats = s; accepted = w.accepted; pushes = w.pushes; ended = w.ended; copied = w.copied } ≡ walk_stopped w c (get w.seats c)
stopped_none w c s is gone =
    let e : s ≡ w.seats = gone ∙ remove_same nat_cmp_total nat_cmp-IsAntisymmetric w.seats c (sym is) in
    ap (λ m. record { seats = m; accepted = w.accepted; pushes = w.pushes; ended = w.ended; copied = w.copied }) e ∙ ap (walk_stopped w c) is

pub stopped_some : (w : HistoryWalk) (c : ℕ) (seat new : ClientSeat) (s t : FinMap nat_cmp ClientSeat) → Some seat ≡ get w.seats c → s ≡ remove w.seats c → t ≡ insert s c new → new ≡ record seat { stopped = true }
    → record { seats = t; accepted = w.accepted; pushes = w.pushes; ended = w.ended; copied = w.copied } ≡ walk_stopped w c (get w.seats c)
stopped_some w c seat new s t is gone put by =
    let e : t ≡ insert w.seats c (record seat { stopped = true }) = put ∙ ap (λ m. insert m c new) gone ∙ insert-remove nat_cmp_total nat_cmp-IsAntisymmetric w.seats c new ∙ ap (insert w.seats c) by in
    ap (λ m. record { seats = m; accepted = w.accepted; pushes = w.pushes; ended = w.ended; copied = w.copied }) e ∙ ap (walk_stopped w c) is

-- what holds where it succeeds
pub on_ok : {T E : Type 0} {P Q : Type 0} (r : Result T E) → (P → Q) → OnOk r P → OnOk r Q
on_ok (Ok x) f h = f h
on_ok (Err e) f h = tt
