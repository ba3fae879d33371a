-- Before any entry a walk has what is counted of the clients of a table.
use Rattle.std.proofs.Common.{◌≡◌, ℕ, List, [], ◌∷◌, Bool, true, false, cond, ◌||◌, if◌then◌else◌, sym, refl, ap, ◌∙◌, None, Some, option_map}
use Rattle.std.proofs.lemmas.Cmp.{nat_cmp_total}
use Rattle.std.specs.Ordering.{nat_cmp, eq_by_cmp}
use Rattle.std.specs.FinMap.{FinMap, empty, entries, get, get-empty, get-insert, insert}
use Rattle.store_model.specs.Keys.{Keys}
use Rattle.command_blocks.specs.Setting.{Setting}
use Rattle.queue_keys.specs.Names.{Bytes}
use Rattle.place_model.specs.Counts.{copy_weight, end_weight, push_weight, total}
use Rattle.place_model.specs.Histories.{Client, new_client, start_from, table}
use Rattle.place_model.specs.Seen.{seen}
use Rattle.place_walk.specs.Gathered.{positive}
use Rattle.place_walk.specs.Seats.{seat_of}
use Rattle.place_walk.specs.Walks.{new_seat, seated, walk_start}
use Rattle.place_walk.specs.declared.seat.ClientSeat.{ClientSeat}
use Rattle.place_walk.proofs.Walks.{Follows, still_none, total_none}

among : ℕ → List (ℕ × ℕ) → Bool
among q [] = false
among q (c ∷ cs) = eq_by_cmp nat_cmp q c.0 || among q cs

seated_get : (cs : List (ℕ × ℕ)) (m : FinMap nat_cmp ClientSeat) (q : ℕ) → get (seated m cs) q ≡ (if among q cs then Some new_seat else get m q)
unfolding among
seated_get [] m q = refl
seated_get (c ∷ cs) m q = seated_get cs (insert m c.0 new_seat) q ∙ ap (λ o. if among q cs then Some new_seat else o) (get-insert nat_cmp_total m c.0 new_seat q) ∙ both (among q cs) (eq_by_cmp nat_cmp q c.0)
  where
    both : (a b : Bool) → (if a then Some new_seat else cond b (Some new_seat) (get m q)) ≡ (if (b || a) then Some new_seat else get m q)
    both true true = refl
    both true false = refl
    both false true = refl
    both false false = refl

module _ (σ : Setting) where
  seat_new : (s : ℕ) → seat_of σ (new_client s) ≡ new_seat
  unfolding seen
  seat_new s = refl

  table_seats : (cs : List (ℕ × ℕ)) (q : ℕ) → option_map (seat_of σ) (get (table cs) q) ≡ (if among q cs then Some new_seat else None)
  unfolding among
  table_seats [] q = ap (option_map (seat_of σ)) (get-empty nat_cmp q)
  table_seats (c ∷ cs) q = ap (option_map (seat_of σ)) (get-insert nat_cmp_total (table cs) c.0 (new_client c.1) q) ∙ both (eq_by_cmp nat_cmp q c.0) (table_seats cs q)
    where
      both : (b : Bool) → option_map (seat_of σ) (get (table cs) q) ≡ (if among q cs then Some new_seat else None) → option_map (seat_of σ) (cond b (Some (new_client c.1)) (get (table cs) q)) ≡ (if (b || among q cs) then Some new_seat else None)
      both true i = ap (λ (s : ClientSeat). Some s) (seat_new c.1)
      both false i = i

  -- the clients of a table, none of which has called anything
  pub seats_told : (cs : List (ℕ × ℕ)) (q : ℕ) → get (seated empty cs) q ≡ option_map (seat_of σ) (get (table cs) q)
  seats_told cs q = seated_get cs empty q ∙ ap (λ o. if among q cs then Some new_seat else o) (get-empty nat_cmp q) ∙ sym (table_seats cs q)

module _ (σ : Setting) (t : ℕ) (x : Bytes) where
  table_none : (f : ℕ → Client → ℕ) → ((c s : ℕ) → f c (new_client s) ≡ 0) → (cs : List (ℕ × ℕ)) → total f (entries (table cs)) ≡ 0
  table_none f z [] = total_none f
  table_none f z (c ∷ cs) = still_none f (table cs) c.0 (new_client c.1) (table_none f z cs) (z c.0 c.1)

  pushes_none : (c s : ℕ) → push_weight σ x c (new_client s) ≡ 0
  unfolding seen
  pushes_none c s = refl

  ends_none : (c s : ℕ) → end_weight σ x c (new_client s) ≡ 0
  unfolding seen
  ends_none c s = refl

  copies_none : (c s : ℕ) → copy_weight σ x c (new_client s) ≡ 0
  unfolding seen
  copies_none c s = refl

  pub start_follows : (m : Keys) (cs : List (ℕ × ℕ)) → Follows σ t x (start_from m cs) (walk_start cs)
  start_follows m cs = record {
    seats = seats_told σ cs;
    pushes = table_none (push_weight σ x) pushes_none cs;
    ended = ap positive (table_none (end_weight σ x) ends_none cs);
    copied = ap positive (table_none (copy_weight σ x) copies_none cs);
  }
