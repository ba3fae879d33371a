-- What wasn't accepted has no place and no copy.
use Rattle.std.proofs.Common.{◌+◌, ◌++◌, Bool, List, None, Option, Some, [], ap, arith, cond, false, if◌then◌else◌, inl, inr, is_some, nat_cmp, refl, subst, suc, sym, true, zero, ℕ, ℤ, Ordering, ◌∙◌, ◌∷◌, ◌≡◌, ◌≢◌, ◌⊎◌}
use Rattle.std.proofs.lemmas.Cmp.{nat_cmp_total}
use Rattle.std.specs.Cmp.{IsTotalOrder}
use Rattle.std.specs.FinMap.{FinMap, IsAntisymmetric, empty, entries, get, get-empty, insert, nat_cmp-IsAntisymmetric}
use Rattle.wire_values.specs.Order.{bytes_cmp}
use Rattle.wire_values.specs.declared.value.Value.{Value}
use Rattle.wire_values.specs.declared.value.Value.TheVariants.{Array}
use Rattle.store_model.specs.Connections.{conn}
use Rattle.store_model.specs.Keys.{Keys, value_of}
use Rattle.store_model.specs.Store.{State, apply_of, serve}
use Rattle.store_model.specs.Words.{Words, command_of}
use Rattle.store_model.specs.declared.command.Command.{Command}
use Rattle.store_model.specs.declared.command.Command.TheVariants.{Exec, Lpush}
use Rattle.store_model.specs.declared.held.Held.{Held}
use Rattle.store_model.specs.declared.reply.Reply.{Reply}
use Rattle.store_laws.proofs.Live.{total-same}
use Rattle.store_laws.proofs.Maps.{weight}
use Rattle.store_tables.proofs.Maps.{bytes_anti, bytes_total}
use Rattle.command_blocks.specs.Answers.{items_of, number_of}
use Rattle.command_blocks.specs.Calls.{Call}
use Rattle.command_blocks.specs.Setting.{is_queue}
use Rattle.command_blocks.specs.declared.side.Side.{Side}
use Rattle.command_blocks.specs.declared.side.Side.TheVariants.{Left, Right}
use Rattle.place_model.specs.Counts.{IsAccepted, copy_count, copy_one, copy_weight, count, direct_pushes, table_entry, field_of, in_held, in_value, is_field, list_count, one_if_more, place_count, push_weight, start_count, sum_of, table_count, tagged, total}
use Rattle.place_model.specs.Histories.{AllMayCome, Client, History, IsHistoryPrefix, MayCome, SystemState, after, after_entries, and_then, next, start_from}
use Rattle.place_model.specs.Identity.{HasEnvelope, In_a_list, In_the_table, IsPublished, IsPush, PushedIn}
use Rattle.place_model.specs.Returns.{push_commands, take_out}
use Rattle.place_model.specs.Seen.{Seen, nothing_seen, push_by, push_weight_at, push_with, queued_pushes, ran_by, ran_with, seen, seen_by, seen_from, tag_list, tag_weight}
use Rattle.place_model.specs.Starts.{IsSound, elements_at}
use Rattle.place_model.specs.declared.history.Entry.{Entry}
use Rattle.place_model.specs.declared.history.Entry.TheVariants.{Call as Called, Heard, Stop}
use Rattle.queue_keys.specs.Names.{Bytes}
use Rattle.queue_keys.specs.QueueKeys.{Among}
use Rattle.place_theorem.proofs.Full.{Alike, Full}
use Rattle.place_theorem.proofs.Kept.{Inv, count-append, seen-push, stopped_is, sum_of-append, sums}
use Rattle.place_theorem.proofs.Machine.{At, Cursor, Idle, Runs, Whole, Whole_end, Whole_free, Whole_pop, Whole_return, runs_split, step_live}
use Rattle.place_theorem.proofs.Once.{queue_weight}
use Rattle.place_theorem.proofs.Returned.{exec_inside, exec_ran}
use Rattle.place_theorem.proofs.Safe.{ReadOk, Stands, conn_in}
use Rattle.place_theorem.proofs.Settle.{unacked_kept}
use Rattle.place_theorem.proofs.Sound.{all_mannered, inv_begin, inv_of, parted}
use Rattle.place_theorem.proofs.Transactions.{table_is, tag_other}
use Rattle.place_theorem.proofs.Values.{array_of, text_or}
use Rattle.place_theorem.proofs.Whole.{AllMannered, call_in, inv_ready, next_called, next_heard, one_entry, ready, ready_keys, runs_to, seen_none, served, table_total, total-empty}

-- ---- the pushes of a transaction

no_weight : (σ : Full) (t k v : Bytes) → tag_weight t (σ.names.tag_of v) ≡ 0 → push_weight_at σ.names t k v ≡ 0
no_weight σ t k v e = go (is_queue σ.names k)
  where
    go : (b : Bool) → (if b then tag_weight t (σ.names.tag_of v) else 0) ≡ 0
    go true = e
    go false = refl

no_pushes : (σ : Full) (t v : Bytes) (side : Side) (ks : List Bytes) → tag_weight t (σ.names.tag_of v) ≡ 0 → queued_pushes σ.names t (push_commands side v ks) ≡ 0
no_pushes σ t v side [] e = refl
no_pushes σ t v Left (k ∷ ks) e = let a = no_weight σ t k v e in let r = no_pushes σ t v Left ks e in omega (arith, a, r)
no_pushes σ t v Right (k ∷ ks) e = let a = no_weight σ t k v e in let r = no_pushes σ t v Right ks e in omega (arith, a, r)

-- a transaction that may run pushes what was read from the table, or nothing
whole_pushes : (σ : Full) (t : Bytes) (cs : List Command) (w : List Bytes) (h : Option (Bytes × Bytes)) (r : Option (Bytes × Bytes × Option Value)) → Whole σ cs w h r
    → ((u : Bytes) (a : Option Value) → r ≡ Some (t, u, a) → ⊥) → queued_pushes σ.names t cs ≡ 0
whole_pushes σ t cs w h r (Whole_pop x v n tag) none = refl
whole_pushes σ t cs w h r (Whole_end x) none = refl
whole_pushes σ t cs w h r (Whole_return side x u v ms a carries lookup) none = go (text_or t x)
  where
    go : (t ≡ x) ⊎ (t ≢ x) → queued_pushes σ.names t (take_out σ.names x (push_commands side v (σ.names.keys_in u ms))) ≡ 0
    go (inl e) = absurd (none u a (ap (λ (z : Bytes). Some (z, u, a)) (sym e)))
    go (inr n) =
        let z : tag_weight t (σ.names.tag_of v) ≡ 0 = ap (tag_weight t) carries.1 ∙ tag_other t x n in
        let p = no_pushes σ t v side (σ.names.keys_in u ms) z in
        omega (arith, p)
whole_pushes σ t cs w h r (Whole_free ks w' far) none = refl

-- ---- one call

-- what isn't in the table is copied by no call
module _ (σ : Full) (base : Bytes → ℕ) (w : SystemState) (inv : Inv σ base w) (c : ℕ) (x : Call) (cl : Client) (to : Cursor) (known : get w.clients c ≡ Some cl) (runs_on : cl.stopped ≡ false) (right : x.answer ≡ (serve x.at (ready w x.at c).store c (command_of x.words) (conn (ready w x.at c).store.conns c)).1) (runs : Runs σ Idle (cl.calls ++ x ∷ []) to) (t : Bytes) (absent : is_field σ.names w.store.keys t ≡ false) where
  abbrev s : State
  s = (ready w x.at c).store

  abbrev sn : Seen
  sn = seen σ.names cl.calls

  not_there : (u : Bytes) → table_entry σ.names s.keys t ≡ Some u → ⊥
  not_there u e =
      let here : table_entry σ.names w.store.keys t ≡ Some u = sym (ap (λ o. field_of (value_of o) t) (unacked_kept σ w.store.keys x.at inv.kinds)) ∙ sym (ap (λ k. table_entry σ.names k t) (ready_keys w x.at c)) ∙ e in
      let there : is_field σ.names w.store.keys t ≡ true = ap is_some here in
      cc (there, absent)

  -- what is read from the table isn't this tag
  unread : (r : Option (Bytes × Bytes × Option Value)) (ws : List Bytes) (b : Bool) → ReadOk σ r ws s.keys b → b ≡ false → (u : Bytes) (a : Option Value) → r ≡ Some (t, u, a) → ⊥
  unread r ws b held clear u a e = not_there u ((subst (λ o. ReadOk σ o ws s.keys b) e held).1 clear)

  none_copied : (xs : List Value) → command_of x.words ≡ Exec → x.answer ≡ Array xs → queued_pushes σ.names t sn.since ≡ 0
  none_copied xs exec array =
      let ready_inv = inv_ready σ base w x.at c inv in
      let parts = runs_split σ Idle to cl.calls (x ∷ []) runs in
      let inside = exec_inside σ parts.0 parts.2.0 (command_of x.words) x.answer parts.2.1 exec in
      let ok : Stands σ s c parts.0 sn = ready_inv.clients c cl parts.0 known runs_on parts.1 (step_live σ parts.0 parts.2.0 (command_of x.words) x.answer parts.2.1) in
      let cur : Cursor = At (Some inside.0) inside.1 inside.2 inside.3 in
      let here : Stands σ s c cur sn = subst (λ f. Stands σ s c f sn) inside.4 ok in
      let same : serve x.at s c (command_of x.words) (conn s.conns c) ≡ serve x.at s c Exec (conn_in cur here.marked here.channels here.pending) = ap (λ k. serve x.at s c k (conn s.conns c)) exec ∙ ap (serve x.at s c Exec) here.mine in
      let answered : Array xs ≡ (serve x.at s c Exec (conn_in cur here.marked here.channels here.pending)).1 = sym array ∙ right ∙ ap (λ p. p.1) same in
      let ran = exec_ran σ x.at s c inside.0 inside.1 inside.2 inside.3 here.marked here.channels here.pending xs here.talk_ok answered in
      ap (queued_pushes σ.names t) here.is.since ∙ whole_pushes σ t inside.0 inside.1 inside.2 inside.3 inside.5 (unread inside.3 inside.1 here.marked here.mark_ok.held ran.0)

  copied_by : (since : List Command) (cm : Command) → ((xs : List Value) → cm ≡ Exec → x.answer ≡ Array xs → queued_pushes σ.names t since ≡ 0) → sum_of (copy_one σ.names t) (ran_by since cm x.answer) ≡ 0
  copied_by since Exec none = go (items_of x.answer) refl
    where
      go : (o : Option (List Value)) → items_of x.answer ≡ o → sum_of (copy_one σ.names t) (ran_with since o) ≡ 0
      go None i = refl
      go (Some xs) i = let z : one_if_more (queued_pushes σ.names t since) ≡ 0 = ap one_if_more (none xs refl (array_of x.answer xs i)) in omega (arith, z)
  copied_by since other none = refl

  pub no_copy : sum_of (copy_one σ.names t) (ran_by sn.since (command_of x.words) x.answer) ≡ 0
  no_copy = copied_by sn.since (command_of x.words) none_copied

-- ---- each entry

-- what wasn't accepted isn't copied
abbrev pub Unborn : Full → (Bytes → ℕ) → SystemState → Type 0
Unborn σ base w = (t : Bytes) → base t + direct_pushes σ.names w t ≡ 0 → copy_count σ.names w t ≡ 0

-- what has no place isn't in the table
out_of_table : (σ : Full) (m : Keys) (t : Bytes) → Alike σ m → table_count σ.names m t ≡ 0 → is_field σ.names m t ≡ false
out_of_table σ m t alike none = go (is_field σ.names m t) refl
  where
    go : (b : Bool) → is_field σ.names m t ≡ b → is_field σ.names m t ≡ false
    go false i = i
    go true i = let z : 1 ≡ 0 = sym (table_is σ m alike t ∙ ap (λ b. cond b 1 0) i) ∙ none in absurd (omega (arith, z))

module _ (σ : Full) (base : Bytes → ℕ) (w : SystemState) (inv : Inv σ base w) (unborn : Unborn σ base w) (c : ℕ) (cl : Client) (is : get w.clients c ≡ Some cl) (runs_on : cl.stopped ≡ false) where
  called : (N : Type 0) (at : ℕ) (words : Words) (reply : Reply) (to : Cursor) → reply ≡ (apply_of w.store at c words).1 → Runs σ Idle (cl.calls ++ call_in at words reply ∷ []) to → Unborn σ base (next {N = N} w (Called c at words reply))
  called N at words reply to right runs t none =
      let x : Call = call_in at words reply in
      let sn : Seen = seen σ.names cl.calls in
      let cm : Command = command_of words in
      let new : Client = record cl { calls = cl.calls ++ x ∷ [] } in
      let now = next_called N w c at words reply cl is in
      let p = sums σ base w inv c cl is runs_on (push_weight σ.names t) new in
      let y = sums σ base w inv c cl is runs_on (copy_weight σ.names t) new in
      let p' : push_weight σ.names t c new ≡ count t sn.pushes + count t (push_by σ.names cm x.answer) = ap (λ z. count t z.pushes) (seen-push σ cl.calls x) ∙ count-append t sn.pushes (push_by σ.names cm x.answer) in
      let y' : copy_weight σ.names t c new ≡ sum_of (copy_one σ.names t) sn.ran + sum_of (copy_one σ.names t) (ran_by sn.since cm x.answer) = ap (λ z. sum_of (copy_one σ.names t) z.ran) (seen-push σ cl.calls x) ∙ sum_of-append (copy_one σ.names t) sn.ran (ran_by sn.since cm x.answer) in
      let none' : base t + total (push_weight σ.names t) (entries (insert w.clients c new)) ≡ 0 = ap (λ z. base t + direct_pushes σ.names z t) (sym now) ∙ none in
      let before : base t + direct_pushes σ.names w t ≡ 0 = omega (arith, p, p', none') in
      let uncopied : copy_count σ.names w t ≡ 0 = unborn t before in
      let placed = inv.placed t (omega (arith, before)) uncopied in
      let absent = out_of_table σ w.store.keys t inv.alike (omega (arith, placed, before)) in
      let quiet = no_copy σ base w inv c x cl to is runs_on (served w c at words reply right) runs t absent in
      let after' : total (copy_weight σ.names t) (entries (insert w.clients c new)) ≡ 0 = omega (arith, y, y', quiet, uncopied) in
      ap (λ z. copy_count σ.names z t) now ∙ after'

  halted : (N : Type 0) → Unborn σ base (next {N = N} w (Stop c))
  halted N t none =
      let stop : Client = record { seed = cl.seed; calls = cl.calls; stopped = true } in
      let now = stopped_is σ base w inv c cl is runs_on N in
      let p = sums σ base w inv c cl is runs_on (push_weight σ.names t) stop in
      let y = sums σ base w inv c cl is runs_on (copy_weight σ.names t) stop in
      let none' : base t + total (push_weight σ.names t) (entries (insert w.clients c stop)) ≡ 0 = ap (λ z. base t + direct_pushes σ.names z t) (sym now) ∙ none in
      let before : base t + direct_pushes σ.names w t ≡ 0 = omega (arith, p, none') in
      let uncopied : copy_count σ.names w t ≡ 0 = unborn t before in
      let after' : total (copy_weight σ.names t) (entries (insert w.clients c stop)) ≡ 0 = omega (arith, y, uncopied) in
      ap (λ z. copy_count σ.names z t) now ∙ after'

one_unborn : {N : Type 0} (σ : Full) (base : Bytes → ℕ) (w : SystemState) (e : Entry N) (rest : List (Entry N)) → Inv σ base w → Unborn σ base w → MayCome w e → AllMannered σ (after_entries (next w e) rest) → Unborn σ base (next w e)
one_unborn {N = N} σ base w (Stop c) rest inv unborn may all = halted σ base w inv unborn c may.0 may.1 may.2 N
one_unborn σ base w (Heard c note) rest inv unborn may all = subst (Unborn σ base) (sym (next_heard w c note)) unborn
one_unborn {N = N} σ base w (Called c at words reply) rest inv unborn may all =
    let r = runs_to σ w c at words reply rest may.0 may.1 all in
    called σ base w inv unborn c may.0 may.1 may.2 N at words reply r.0 may.3 r.1

unborn_after : {N : Type 0} (σ : Full) (base : Bytes → ℕ) (w : SystemState) (p rest : List (Entry N)) → Inv σ base w → Unborn σ base w → AllMayCome w (p ++ rest) → AllMannered σ (after_entries w (p ++ rest)) → Unborn σ base (after_entries w p)
unborn_after σ base w [] rest inv unborn legal all = unborn
unborn_after σ base w (e ∷ p) rest inv unborn legal all = unborn_after σ base (next w e) p rest (one_entry σ base w e (p ++ rest) inv legal.0 all) (one_unborn σ base w e (p ++ rest) inv unborn legal.0 all) legal.1 all

unborn_start : (σ : Full) (base : Bytes → ℕ) (m : Keys) (cs : List (ℕ × ℕ)) → Unborn σ base (start_from m cs)
unborn_start σ base m cs t none = table_total (copy_weight σ.names t) (λ c s. ap (λ s. sum_of (copy_one σ.names t) s.ran) (seen_none σ)) cs

-- what wasn't accepted has no copy and no place
pub no_place : {N : Type 0} (σ : Full) (h p : History N) (t : Bytes) → IsSound σ.names h → IsHistoryPrefix p h → start_count σ.names p.start t + direct_pushes σ.names (after p) t ≡ 0
    → (copy_count σ.names (after p) t ≡ 0) × (place_count σ.names (after p) t ≡ 0)
no_place σ h p t sound pre none =
    let s = parted σ h p sound pre in
    let base = start_count σ.names p.start in
    let first = start_from p.start p.clients in
    let uncopied = unborn_after σ base first p.entries pre.0 (inv_begin σ p.clients p.start p.used s.start) (unborn_start σ base p.start p.clients) s.legal (all_mannered σ (and_then p pre.0) s) t none in
    let inv = inv_of σ h p sound pre in
    (uncopied, inv.placed t (omega (arith, none)) uncopied ∙ none)

-- the same, of a tag that isn't accepted
pub unaccepted : {N : Type 0} (σ : Full) (h p : History N) (t : Bytes) → IsSound σ.names h → IsHistoryPrefix p h → (IsAccepted σ.names p t → ⊥)
    → (place_count σ.names (after p) t ≡ 0) × (copy_count σ.names (after p) t ≡ 0)
unaccepted σ h p t sound pre not =
    let none : start_count σ.names p.start t + direct_pushes σ.names (after p) t ≡ 0 = go (start_count σ.names p.start t + direct_pushes σ.names (after p) t) refl in
    let r = no_place σ h p t sound pre none in
    (r.1, r.0)
  where
    go : (n : ℕ) → start_count σ.names p.start t + direct_pushes σ.names (after p) t ≡ n → start_count σ.names p.start t + direct_pushes σ.names (after p) t ≡ 0
    go zero i = i
    go (suc k) i = absurd (not (omega (arith, i)))

-- ---- what no envelope of a store tells stands nowhere in it

total_zero : {K X : Type 0} (R : K → K → Ordering) (o : IsTotalOrder R) (anti : IsAntisymmetric R) (f : K → X → ℕ) (m : FinMap R X) → ((q : K) → weight f q (get m q) ≡ 0) → total f (entries m) ≡ 0
total_zero {X = X} R o anti f m none =
    total-same R o anti f m empty (λ q. none q ∙ sym (ap (weight f q) (get-empty {X = X} R q))) ∙ total-empty R o anti f

tagged_none : (σ : Full) (t : Bytes) (xs : List Bytes) → ((v : Bytes) → Among v xs → σ.names.tag_of v ≡ Some t → ⊥) → tagged σ.names t xs ≡ 0
tagged_none σ t [] none = refl
tagged_none σ t (x ∷ xs) none = let a = go (σ.names.tag_of x) refl in let r = tagged_none σ t xs (λ v is. none v (inr is)) in omega (arith, a, r)
  where
    go : (o : Option Bytes) → σ.names.tag_of x ≡ o → tag_weight t o ≡ 0
    go None i = refl
    go (Some y) i = by (text_or t y)
      where
        by : (t ≡ y) ⊎ (t ≢ y) → tag_weight t (Some y) ≡ 0
        by (inl e) = absurd (none x (inl refl) (i ∙ ap (λ (z : Bytes). Some z) (sym e)))
        by (inr n) = tag_other t y n

-- no list has it, and no field
pub nothing_stored : (σ : Full) (m : Keys) (t : Bytes) → ((b : Bytes) → HasEnvelope σ.names m t b → ⊥) → (list_count σ.names m t ≡ 0) × (is_field σ.names m t ≡ false)
nothing_stored σ m t none = (total_zero bytes_cmp bytes_total bytes_anti (in_held σ.names t) m lists, field (table_entry σ.names m t) refl)
  where
    lists : (k : Bytes) → weight (in_held σ.names t) k (get m k) ≡ 0
    lists k = go (is_queue σ.names k) refl
      where
        aside : (o : Option Held) → is_queue σ.names k ≡ false → weight (in_held σ.names t) k o ≡ 0
        aside None i = refl
        aside (Some h) i = ap (λ b. if b then in_value σ.names t h.value else 0) i

        go : (b : Bool) → is_queue σ.names k ≡ b → weight (in_held σ.names t) k (get m k) ≡ 0
        go false i = aside (get m k) i
        go true i = queue_weight σ t k (get m k) i ∙ tagged_none σ t (elements_at m k) (λ v am tag. none (σ.names.body_of v) (In_a_list k v i am tag refl))

    field : (o : Option Bytes) → table_entry σ.names m t ≡ o → is_field σ.names m t ≡ false
    field None i = ap is_some i
    field (Some u) i = absurd (none (σ.names.body_in u) (In_the_table u i refl))

-- ---- what was published by nobody wasn't pushed

unpushed : (σ : Full) (t : Bytes) (cm : Command) (r : Value) → ((b : Bytes) → IsPush σ.names t b cm r → ⊥) → count t (push_by σ.names cm r) ≡ 0
unpushed σ t (Lpush k (v ∷ [])) r none = go (number_of r) (is_queue σ.names k) (σ.names.tag_of v) refl refl refl
  where
    by : (z : ℤ) (y : Bytes) → number_of r ≡ Some z → is_queue σ.names k ≡ true → σ.names.tag_of v ≡ Some y → (t ≡ y) ⊎ (t ≢ y) → count t (y ∷ []) ≡ 0
    by z y n q i (inl e) = absurd (none (σ.names.body_of v) (record { key = k; bytes = v; size = z; pushes = refl; answered = n; queue = q; tag = i ∙ ap (λ (x : Bytes). Some x) (sym e); body = refl }))
    by z y n q i (inr far) = let w = tag_other t y far in omega (arith, w)

    go : (o : Option ℤ) (b : Bool) (a : Option Bytes) → number_of r ≡ o → is_queue σ.names k ≡ b → σ.names.tag_of v ≡ a → count t (push_with σ.names k v (number_of r)) ≡ 0
    go None b a n q i = ap (λ z. count t (push_with σ.names k v z)) n
    go (Some z) false a n q i = ap (λ z. count t (push_with σ.names k v z)) n ∙ ap (λ b. count t (if b then tag_list (σ.names.tag_of v) else [])) q
    go (Some z) true None n q i = ap (λ z. count t (push_with σ.names k v z)) n ∙ ap (λ b. count t (if b then tag_list (σ.names.tag_of v) else [])) q ∙ ap (λ o. count t (tag_list o)) i
    go (Some z) true (Some y) n q i =
        ap (λ z. count t (push_with σ.names k v z)) n ∙ ap (λ b. count t (if b then tag_list (σ.names.tag_of v) else [])) q ∙ ap (λ o. count t (tag_list o)) i ∙ by z y n q i (text_or t y)
unpushed σ t other r none = refl

seen_unpushed : (σ : Full) (t : Bytes) (l : List Call) (s : Seen) → ((b : Bytes) → PushedIn σ.names t b l → ⊥) → count t (seen_from σ.names s l).pushes ≡ count t s.pushes
seen_unpushed σ t [] s none = refl
seen_unpushed σ t (x ∷ l) s none =
    let a = seen_unpushed σ t l (seen_by σ.names s (command_of x.words) x.answer) (λ b p. none b (inr p)) in
    let b = unpushed σ t (command_of x.words) x.answer (λ b p. none b (inl p)) in
    let c = count-append t s.pushes (push_by σ.names (command_of x.words) x.answer) in
    omega (arith, a, b, c)

calls_unpushed : (σ : Full) (t : Bytes) (l : List Call) → ((b : Bytes) → PushedIn σ.names t b l → ⊥) → count t (seen σ.names l).pushes ≡ 0
unfolding seen
calls_unpushed σ t l none = seen_unpushed σ t l nothing_seen none

-- no direct push has the tag
pub nothing_pushed : (σ : Full) (w : SystemState) (t : Bytes) → ((b : Bytes) → IsPublished σ.names w t b → ⊥) → direct_pushes σ.names w t ≡ 0
nothing_pushed σ w t none = total_zero nat_cmp nat_cmp_total nat_cmp-IsAntisymmetric (push_weight σ.names t) w.clients (λ c. go c (get w.clients c) refl)
  where
    go : (c : ℕ) (o : Option Client) → get w.clients c ≡ o → weight (push_weight σ.names t) c o ≡ 0
    go c None i = refl
    go c (Some cl) i = calls_unpushed σ t cl.calls (λ b p. none b (c, cl, i, p))
