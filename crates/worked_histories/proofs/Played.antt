-- Calls in a row at a store over lists: with the replies that it gives they are legal.
use Rattle.std.proofs.Common.{◌≡◌, ◌≢◌, ◌⊎◌, inl, inr, ℕ, List, [], ◌∷◌, ◌++◌, Bool, true, false, refl, sym, ap, subst, ◌∙◌, None, Some, Option}
use Rattle.std.specs.Prelude.{◌&&◌, is_some, option_map}
use Rattle.std.specs.Ordering.{nat_cmp}
use Rattle.std.proofs.lemmas.Cmp.{nat_cmp_total}
use Rattle.std.specs.FinMap.{get, insert, empty, from_entries, nat_cmp-IsAntisymmetric}
use Rattle.std.specs.FinMap.Entries.{find}
use Rattle.store_model.specs.Words.{Words}
use Rattle.store_model.specs.Store.{apply_of}
use Rattle.store_model.specs.declared.reply.Reply.{Reply}
use Rattle.store_laws.proofs.Maps.{conn_or, get-insert_same, get-insert_other}
use Rattle.command_blocks.specs.Calls.{call}
use Rattle.place_model.specs.Histories.{Client, SystemState, with_client, next_of, next, new_client, table, start_from, MayCome, AllMayCome}
use Rattle.place_model.specs.declared.heard.Heard.{Heard}
use Rattle.place_model.specs.declared.history.Entry.{Entry}
use Rattle.place_model.specs.declared.history.Entry.TheVariants.{Call as Called, Heard as Noted, Stop}
use Rattle.worked_histories.proofs.Listed.{changed, get_is, find_changed}
use Rattle.worked_histories.proofs.Served.{Desk, state_of, both_are, takes_call, may_call, call_is}

-- the entries are calls of clients of the table, each with the reply that the store over lists gives
abbrev pub replayed : Desk → List (Entry Heard) → List (Entry Heard)
replayed d [] = []
replayed d (Called c at words reply ∷ es) = let p = takes_call at d c words in Called c at words (record { pushed = []; answer = p.1 }) ∷ replayed p.0 es
replayed d (Noted c note ∷ es) = replayed d es
replayed d (Stop c ∷ es) = replayed d es

abbrev pub may_play : List (ℕ × ℕ) → Desk → List (Entry Heard) → Bool
may_play cs d [] = true
may_play cs d (Called c at words reply ∷ es) = (is_some (find nat_cmp c cs) && may_call at d c words) && may_play cs (takes_call at d c words).0 es
may_play cs d (Noted c note ∷ es) = false
may_play cs d (Stop c ∷ es) = false

-- each client of the table is there, and runs
abbrev Running : List (ℕ × ℕ) → SystemState → Type 0
Running cs w = (c : ℕ) → is_some (find nat_cmp c cs) ≡ true → (cl : Client) × (get w.clients c ≡ Some cl) × (cl.stopped ≡ false)

table_is : (cs : List (ℕ × ℕ)) → table cs ≡ from_entries (changed new_client cs)
table_is [] = refl
table_is (c ∷ cs) = ap (λ m. insert m c.0 (new_client c.1)) (table_is cs)

all_run : (cs : List (ℕ × ℕ)) → Running cs (start_from empty cs)
all_run cs c h = by (find nat_cmp c cs) h (ap (λ m. get m c) (table_is cs) ∙ (get_is nat_cmp_total nat_cmp-IsAntisymmetric (changed new_client cs) c ∙ find_changed nat_cmp new_client c cs)) where
  by : (o : Option ℕ) → is_some o ≡ true → get (table cs) c ≡ option_map new_client o → (cl : Client) × (get (table cs) c ≡ Some cl) × (cl.stopped ≡ false)
  by None e is = absurd (cc e)
  by (Some s) e is = (new_client s, is, refl)

module _ (cs : List (ℕ × ℕ)) (d : Desk) (w : SystemState) (is : w.store ≡ state_of d) (run : Running cs w) (c at : ℕ) (words : Words) (known : is_some (find nat_cmp c cs) ≡ true) (may : may_call at d c words ≡ true) where
  abbrev its : (cl : Client) × (get w.clients c ≡ Some cl) × (cl.stopped ≡ false)
  its = run c known

  abbrev answer : Reply
  answer = record { pushed = []; answer = (takes_call at d c words).1 }

  abbrev later : Client
  later = record its.0 { calls = its.0.calls ++ call at words answer.answer ∷ [] }

  right : apply_of w.store at c words ≡ (state_of (takes_call at d c words).0, answer)
  right = ap (λ s. apply_of s at c words) is ∙ call_is at d c words may

  next_is : next {N = Heard} w (Called c at words answer) ≡ with_client (apply_of w.store at c words).0 w c later
  unfolding next
  next_is = ap (next_of {N = Heard} w (Called c at words answer)) its.1

  comes : MayCome {N = Heard} w (Called c at words answer)
  comes = (its.0, its.1, its.2, sym (ap (λ p. p.1) right))

  store_after : (next {N = Heard} w (Called c at words answer)).store ≡ state_of (takes_call at d c words).0
  store_after = ap (λ v. v.store) next_is ∙ ap (λ p. p.0) right

  run_after : Running cs (next {N = Heard} w (Called c at words answer))
  run_after k h = by (conn_or k c) where
    by : (k ≡ c) ⊎ (k ≢ c) → (cl : Client) × (get (next {N = Heard} w (Called c at words answer)).clients k ≡ Some cl) × (cl.stopped ≡ false)
    by (inl e) = (later, ap (λ v. get v.clients k) next_is ∙ (ap (get (insert w.clients c later)) e ∙ get-insert_same nat_cmp nat_cmp_total nat_cmp-IsAntisymmetric w.clients c later), its.2)
    by (inr n) = let o = run k h in (o.0, ap (λ v. get v.clients k) next_is ∙ (get-insert_other nat_cmp nat_cmp_total nat_cmp-IsAntisymmetric w.clients c later k n ∙ o.1), o.2)

plays : (cs : List (ℕ × ℕ)) (d : Desk) (w : SystemState) (es : List (Entry Heard)) → w.store ≡ state_of d → Running cs w → may_play cs d es ≡ true → AllMayCome w (replayed d es)
plays cs d w [] is run may = tt
plays cs d w (Called c at words reply ∷ es) is run may =
    let a = both_are (is_some (find nat_cmp c cs) && may_call at d c words) (may_play cs (takes_call at d c words).0 es) may in
    let b = both_are (is_some (find nat_cmp c cs)) (may_call at d c words) a.0 in
    (comes cs d w is run c at words b.0 b.1, plays cs (takes_call at d c words).0 (next w (Called c at words (answer cs d w is run c at words b.0 b.1))) es (store_after cs d w is run c at words b.0 b.1) (run_after cs d w is run c at words b.0 b.1) a.1)
plays cs d w (Noted c note ∷ es) is run may = absurd (cc may)
plays cs d w (Stop c ∷ es) is run may = absurd (cc may)

-- nothing is there
abbrev pub empty_desk : Desk
empty_desk = record { keys = []; conns = [] }

-- entries that have these replies are legal from an empty store
pub legal : (cs : List (ℕ × ℕ)) (es : List (Entry Heard)) → may_play cs empty_desk es ≡ true → replayed empty_desk es ≡ es → AllMayCome (start_from empty cs) es
legal cs es may same = subst (AllMayCome (start_from empty cs)) same (plays cs empty_desk (start_from empty cs) es refl (all_run cs) may)
