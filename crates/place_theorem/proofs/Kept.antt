-- What each entry keeps.
use Rattle.std.proofs.Common.{◌+◌, ◌++◌, List, Some, [], ap, arith, cond, false, inl, inr, nat_cmp, refl, subst, sym, true, ℕ, ◌∙◌, ◌∷◌, ◌≡◌, ◌≢◌, ◌≤◌, ◌⊎◌}
use Rattle.std.proofs.lemmas.Cmp.{nat_cmp_total}
use Rattle.std.specs.FinMap.{entries, get, insert, nat_cmp-IsAntisymmetric, remove}
use Rattle.store_model.specs.Connections.{conn, or_no_conn}
use Rattle.store_model.specs.Store.{State, gone_of, serve}
use Rattle.store_model.specs.Words.{command_of}
use Rattle.store_laws.proofs.Live.{live}
use Rattle.store_laws.proofs.Maps.{conn_or, get-insert_other, get-insert_same, get-remove_other, total-insert, total-remove, weight}
use Rattle.command_blocks.specs.Calls.{Call}
use Rattle.place_model.specs.Counts.{copy_count, copy_one, copy_weight, count, direct_pushes, end_one, end_weight, hand_weight, loss_weight, place_count, push_weight, sum_of, total}
use Rattle.place_model.specs.Histories.{Client, SystemState, next, next_of, with_client}
use Rattle.queue_keys.specs.Names.{Bytes}
use Rattle.place_model.specs.Seen.{Seen, hand_by, nothing_seen, push_by, ran_by, seen, seen_by, seen_from, tag_weight}
use Rattle.place_model.specs.declared.history.Entry.TheVariants.{Stop}
use Rattle.place_theorem.proofs.Effects.{effect_of}
use Rattle.place_theorem.proofs.Full.{Alike, Full, Kinds}
use Rattle.place_theorem.proofs.Machine.{Cursor, Idle, Live, Runs, Step, runs_split, step_live}
use Rattle.place_theorem.proofs.Safe.{Effect, Stands, conn_in, touched_stands}

-- `base t` is the number of places of t at the start
pub record Inv (σ : Full) (base : Bytes → ℕ) (w : SystemState) : Type 0 where
  pub kinds : Kinds σ w.store.keys
  pub alike : Alike σ w.store.keys
  pub clients : (c : ℕ) (cl : Client) (cur : Cursor) → get w.clients c ≡ Some cl → cl.stopped ≡ false → Runs σ Idle cl.calls cur → Live cur → Stands σ w.store c cur (seen σ.names cl.calls)
  pub placed : (t : Bytes) → base t + direct_pushes σ.names w t ≤ 1 → copy_count σ.names w t ≡ 0 → place_count σ.names w t ≡ base t + direct_pushes σ.names w t

seen_from-push : (σ : Full) (s : Seen) (l : List Call) (x : Call) → seen_from σ.names s (l ++ x ∷ []) ≡ seen_by σ.names (seen_from σ.names s l) (command_of x.words) x.answer
seen_from-push σ s [] x = refl
seen_from-push σ s (y ∷ l) x = seen_from-push σ (seen_by σ.names s (command_of y.words) y.answer) l x

-- what is read off one more call
pub seen-push : (σ : Full) (l : List Call) (x : Call) → seen σ.names (l ++ x ∷ []) ≡ seen_by σ.names (seen σ.names l) (command_of x.words) x.answer
unfolding seen
seen-push σ l x = seen_from-push σ nothing_seen l x

-- counts add up
pub count-append : (t : Bytes) (xs ys : List Bytes) → count t (xs ++ ys) ≡ count t xs + count t ys
count-append t [] ys = omega arith
count-append t (x ∷ xs) ys = let r = count-append t xs ys in omega (arith, r)

-- and so do sums
pub sum_of-append : {A : Type 0} (f : A → ℕ) (xs ys : List A) → sum_of f (xs ++ ys) ≡ sum_of f xs + sum_of f ys
sum_of-append f [] ys = omega arith
sum_of-append f (x ∷ xs) ys = let r = sum_of-append f xs ys in omega (arith, r)

module _ (σ : Full) (base : Bytes → ℕ) (w : SystemState) (inv : Inv σ base w) (c : ℕ) (cl : Client) (known : get w.clients c ≡ Some cl) (runs_on : cl.stopped ≡ false) where
  pub sums : (f : ℕ → Client → ℕ) (new : Client) → total f (entries (insert w.clients c new)) + f c cl ≡ total f (entries w.clients) + f c new
  sums f new = subst (λ o. total f (entries (insert w.clients c new)) + weight f c o ≡ total f (entries w.clients) + f c new) known (total-insert nat_cmp nat_cmp_total nat_cmp-IsAntisymmetric f w.clients c new)

  pub part : (f : ℕ → Client → ℕ) → f c cl ≤ total f (entries w.clients)
  part f =
      let e : total f (entries (remove w.clients c)) + f c cl ≡ total f (entries w.clients) = subst (λ o. total f (entries (remove w.clients c)) + weight f c o ≡ total f (entries w.clients)) known (total-remove nat_cmp nat_cmp_total nat_cmp-IsAntisymmetric f w.clients c) in
      omega (arith, e)

  module _ (x : Call) (right : x.answer ≡ (serve x.at w.store c (command_of x.words) (conn w.store.conns c)).1) where
    -- the client with this call
    abbrev pub new : Client
    new = record { seed = cl.seed; calls = cl.calls ++ x ∷ []; stopped = cl.stopped }

    -- the state after it
    abbrev pub s' : State
    s' = (serve x.at w.store c (command_of x.words) (conn w.store.conns c)).0

    effect : (to : Cursor) → Runs σ Idle (cl.calls ++ x ∷ []) to → Effect σ w.store s' c to (seen σ.names cl.calls) (command_of x.words) x.answer
    effect to r =
        let parts = runs_split σ Idle to cl.calls (x ∷ []) r in
        let step : Step σ parts.0 (command_of x.words) x.answer to = subst (λ m. Step σ parts.0 (command_of x.words) x.answer m) parts.2.2 parts.2.1 in
        let ok = inv.clients c cl parts.0 known runs_on parts.1 (step_live σ parts.0 to (command_of x.words) x.answer step) in
        let same : serve x.at w.store c (command_of x.words) (conn w.store.conns c) ≡ serve x.at w.store c (command_of x.words) (conn_in parts.0 ok.marked ok.channels ok.pending) = ap (serve x.at w.store c (command_of x.words)) ok.mine in
        let answered : x.answer ≡ (serve x.at w.store c (command_of x.words) (conn_in parts.0 ok.marked ok.channels ok.pending)).1 = right ∙ ap (λ p. p.1) same in
        let e = effect_of σ x.at w.store c (seen σ.names cl.calls) inv.kinds inv.alike parts.0 to (command_of x.words) x.answer step ok answered in
        subst (λ s. Effect σ w.store s c to (seen σ.names cl.calls) (command_of x.words) x.answer) (sym (ap (λ p. p.0) same)) e

    client_ok : (to : Cursor) → Runs σ Idle (cl.calls ++ x ∷ []) to → Live to → Stands σ s' c to (seen σ.names (cl.calls ++ x ∷ []))
    client_ok to r live = subst (Stands σ s' c to) (sym (seen-push σ cl.calls x)) ((effect to r).lands live)

    -- the world after it
    abbrev pub w' : SystemState
    w' = with_client s' w c new

    clients' : (to₀ : Cursor) → Runs σ Idle (cl.calls ++ x ∷ []) to₀ → (d : ℕ) (dl : Client) (cur : Cursor) → get w'.clients d ≡ Some dl → dl.stopped ≡ false → Runs σ Idle dl.calls cur → Live cur → Stands σ w'.store d cur (seen σ.names dl.calls)
    clients' to₀ r₀ d dl cur is runs r live = go (conn_or d c)
      where
        go : (d ≡ c) ⊎ (d ≢ c) → Stands σ s' d cur (seen σ.names dl.calls)
        go (inl e) =
            let at_c : get (insert w.clients c new) c ≡ Some dl = subst (λ y. get (insert w.clients c new) y ≡ Some dl) e is in
            let they : new ≡ dl = cc (at_c, get-insert_same nat_cmp nat_cmp_total nat_cmp-IsAntisymmetric w.clients c new) in
            let runs' : Runs σ Idle (cl.calls ++ x ∷ []) cur = subst (λ y. Runs σ Idle y.calls cur) (sym they) r in
            subst (λ y. Stands σ s' y cur (seen σ.names dl.calls)) (sym e) (subst (λ y. Stands σ s' c cur (seen σ.names y.calls)) they (client_ok cur runs' live))
        go (inr n) =
            let was : get w.clients d ≡ Some dl = sym (get-insert_other nat_cmp nat_cmp_total nat_cmp-IsAntisymmetric w.clients c new d n) ∙ is in
            let ok = inv.clients d dl cur was runs r live in
            let e = (effect to₀ r₀).safe in
            touched_stands σ w.store s' e.altered d cur (seen σ.names dl.calls) (seen σ.names dl.calls) e.told (e.others d n) ok.is ok

    placed' : (to₀ : Cursor) → Runs σ Idle (cl.calls ++ x ∷ []) to₀ → (t : Bytes) → base t + direct_pushes σ.names w' t ≤ 1 → copy_count σ.names w' t ≡ 0 → place_count σ.names w' t ≡ base t + direct_pushes σ.names w' t
    placed' to₀ r₀ t one no_copy =
        let e = (effect to₀ r₀).safe in
        let sn = seen σ.names cl.calls in
        let cm = command_of x.words in
        let p = sums (push_weight σ.names t) new in
        let h = sums (hand_weight σ.names t) new in
        let l = sums (loss_weight σ.names t) new in
        let d = sums (end_weight σ.names t) new in
        let p' : push_weight σ.names t c new ≡ count t sn.pushes + count t (push_by σ.names cm x.answer) = ap (λ z. count t z.pushes) (seen-push σ cl.calls x) ∙ count-append t sn.pushes (push_by σ.names cm x.answer) in
        let y = sums (copy_weight σ.names t) new in
        let d' : end_weight σ.names t c new ≡ sum_of (end_one σ.names t) sn.ran + sum_of (end_one σ.names t) (ran_by sn.since cm x.answer) = ap (λ z. sum_of (end_one σ.names t) z.ran) (seen-push σ cl.calls x) ∙ sum_of-append (end_one σ.names t) sn.ran (ran_by sn.since cm x.answer) in
        let y' : copy_weight σ.names t c new ≡ sum_of (copy_one σ.names t) sn.ran + sum_of (copy_one σ.names t) (ran_by sn.since cm x.answer) = ap (λ z. sum_of (copy_one σ.names t) z.ran) (seen-push σ cl.calls x) ∙ sum_of-append (copy_one σ.names t) sn.ran (ran_by sn.since cm x.answer) in
        let h' : hand_weight σ.names t c new ≡ tag_weight t (hand_by σ.names sn.hand cm x.answer) = ap (λ b. cond b 0 (tag_weight t (seen σ.names (cl.calls ++ x ∷ [])).hand)) runs_on ∙ ap (λ z. tag_weight t z.hand) (seen-push σ cl.calls x) in
        let h0 : hand_weight σ.names t c cl ≡ tag_weight t sn.hand = ap (λ b. cond b 0 (tag_weight t sn.hand)) runs_on in
        let l' : loss_weight σ.names t c new ≡ 0 = ap (λ b. cond b (tag_weight t (seen σ.names (cl.calls ++ x ∷ [])).hand) 0) runs_on in
        let l0 : loss_weight σ.names t c cl ≡ 0 = ap (λ b. cond b (tag_weight t sn.hand) 0) runs_on in
        let part_hand = part (hand_weight σ.names t) in
        let before : base t + direct_pushes σ.names w t ≤ 1 = omega (arith, p, p', one) in
        let part_copy = part (copy_weight σ.names t) in
        let no_copy_before : copy_count σ.names w t ≡ 0 = omega (arith, y, y', no_copy, part_copy) in
        let no_copy_now : sum_of (copy_one σ.names t) (ran_by sn.since cm x.answer) ≡ 0 = omega (arith, y, y', no_copy, part_copy) in
        let all = inv.placed t before no_copy_before in
        let moved = e.moves t (omega (arith, all, before, part_hand, h0)) no_copy_now in
        omega (arith, p, h, l, d, p', d', h', h0, l', l0, all, moved)

    -- a call keeps the invariant
    pub called : (to : Cursor) → Runs σ Idle (cl.calls ++ x ∷ []) to → Inv σ base w'
    called to r = record {
      kinds = (effect to r).safe.kinds;
      alike = (effect to r).safe.alike;
      clients = clients' to r;
      placed = placed' to r;
    }

  -- the client, stopped
  abbrev pub stop : Client
  stop = record { seed = cl.seed; calls = cl.calls; stopped = true }

  -- the world without its connection
  abbrev pub w'' : SystemState
  w'' = with_client (gone_of w.store c) w c stop

  pub stopped : Inv σ base w''
  stopped = record {
    kinds = inv.kinds;
    alike = inv.alike;
    clients = λ d dl cur is runs r live. go d dl cur is runs r live (conn_or d c);
    placed = λ t one no_copy.
        let p = sums (push_weight σ.names t) stop in
        let h = sums (hand_weight σ.names t) stop in
        let l = sums (loss_weight σ.names t) stop in
        let d = sums (end_weight σ.names t) stop in
        let h0 : hand_weight σ.names t c cl ≡ tag_weight t (seen σ.names cl.calls).hand = ap (λ b. cond b 0 (tag_weight t (seen σ.names cl.calls).hand)) runs_on in
        let l0 : loss_weight σ.names t c cl ≡ 0 = ap (λ b. cond b (tag_weight t (seen σ.names cl.calls).hand) 0) runs_on in
        let y = sums (copy_weight σ.names t) stop in
        let all = inv.placed t (omega (arith, p, one)) (omega (arith, y, no_copy)) in
        omega (arith, p, h, l, d, h0, l0, all);
  }
    where
      go : (d : ℕ) (dl : Client) (cur : Cursor) → get (insert w.clients c stop) d ≡ Some dl → dl.stopped ≡ false → Runs σ Idle dl.calls cur → Live cur → (d ≡ c) ⊎ (d ≢ c) → Stands σ (gone_of w.store c) d cur (seen σ.names dl.calls)
      go d dl cur is runs r live (inl e) =
          let at_c : get (insert w.clients c stop) c ≡ Some dl = subst (λ y. get (insert w.clients c stop) y ≡ Some dl) e is in
          let they : stop ≡ dl = cc (at_c, get-insert_same nat_cmp nat_cmp_total nat_cmp-IsAntisymmetric w.clients c stop) in
          let no : true ≡ false = ap (λ y. y.stopped) they ∙ runs in
          absurd (cc no)
      go d dl cur is runs r live (inr n) =
          let was : get w.clients d ≡ Some dl = sym (get-insert_other nat_cmp nat_cmp_total nat_cmp-IsAntisymmetric w.clients c stop d n) ∙ is in
          let ok = inv.clients d dl cur was runs r live in
          record { marked = ok.marked; channels = ok.channels; pending = ok.pending; talk_ok = ok.talk_ok; mine = ap or_no_conn (get-remove_other nat_cmp nat_cmp_total nat_cmp-IsAntisymmetric w.store.conns c d n) ∙ ok.mine; mark_ok = ok.mark_ok; is = ok.is }

  pub stopped_is : (N : Type 0) → next {N = N} w (Stop c) ≡ w''
  unfolding next
  stopped_is N = ap (next_of {N = N} w (Stop c)) known
