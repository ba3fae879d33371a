-- The cursor says what the manner of a client says.
use Rattle.std.proofs.Common.{◌≡◌, inl, inr, ℕ, ◌<◌, ◌^◌, List, [], ◌∷◌, ◌++◌, refl, sym, ap, subst, ◌∙◌, None, Some, Option}
use Rattle.std.specs.Prelude.{pos}
use Rattle.wire_values.specs.declared.value.Value.{Value}
use Rattle.store_model.specs.Replies.{done}
use Rattle.store_model.specs.Words.{Words}
use Rattle.queue_keys.specs.Names.{Bytes}
use Rattle.command_blocks.specs.Setting.{Setting, IsLawful}
use Rattle.command_blocks.specs.Calls.{Call, call}
use Rattle.command_blocks.specs.Blocks.{IsFrontOfBlocks, IsUnlisted, IsMannered}
use Rattle.manner_laws.specs.Spots.{Spot, Free, Ask, Count, Consent, Queueing, Counts, Anything, Bindings, Message, Entry, Routes, Move, Lock, Due, Holder, Release}
use Rattle.manner_laws.specs.Machine.{Asks, TellsSpot, Counted, Consented, Was_queued, Counted_both, Answered, Bound, Nothing_there, Missing, Looked_up, Moved, Taken, Members, Nobody, Altered, Goes, Runs}
use Rattle.manner_laws.specs.Cursor.{ask_at, spot_after, Cursor, At, Unlisted, Unmannered, cursor_at, cursor_heard, judge, cursor_after, cursor_of, IsReadable, HaveMomentsOf64Bits}
use Rattle.manner_laws.proofs.Made.{runs_join, runs_split}
use Rattle.manner_laws.proofs.Ways.{done_right, front_runs, runs_front}
use Rattle.manner_laws.proofs.Asked.{ask_is}
use Rattle.manner_laws.proofs.Allowed.{ask-allowed}
use Rattle.manner_laws.proofs.Told.{told_is, told-allowed}

at_parts : (c d : Spot) → At c ≡ At d → c ≡ d
at_parts c d e = cc

not_at : {P : Type 0} (c : Spot) → Unlisted ≡ At c → P
not_at c e = cc

unmannered_at : {P : Type 0} (c : Spot) → Unmannered ≡ At c → P
unmannered_at c e = cc

not_unlisted : {P : Type 0} → Unmannered ≡ Unlisted → P
not_unlisted e = cc

timely_swap : (before : List Call) (a : ℕ) (words : Words) (r r' : Value) → HaveMomentsOf64Bits (before ++ call a words r ∷ []) → HaveMomentsOf64Bits (before ++ call a words r' ∷ [])
timely_swap [] a words r r' h = h
timely_swap (x ∷ xs) a words r r' h = (h.0, timely_swap xs a words r r' h.1)

timely_front : (before rest : List Call) → HaveMomentsOf64Bits (before ++ rest) → HaveMomentsOf64Bits before
timely_front [] rest h = tt
timely_front (x ∷ xs) rest h = (h.0, timely_front xs rest h.1)

timely_last : (before : List Call) (a : ℕ) (words : Words) (r : Value) → HaveMomentsOf64Bits (before ++ call a words r ∷ []) → a < 2 ^ 64
timely_last [] a words r h = h.0
timely_last (x ∷ xs) a words r h = timely_last xs a words r h.1

module _ (σ : Setting) (exchange_at : Bytes → Option Bytes) (s : ℕ) where
  -- ---- cursors

  stays : (xs : List Call) → cursor_after σ exchange_at s Unmannered xs ≡ Unmannered
  stays [] = refl
  stays (x ∷ xs) = stays xs

  ended_at : {P : Type 0} (xs : List Call) (c : Spot) → cursor_after σ exchange_at s Unlisted xs ≡ At c → P
  ended_at [] c h = not_at c h
  ended_at (x ∷ xs) c h = unmannered_at c (sym (stays xs) ∙ h)

  after_join : (c : Cursor) (xs ys : List Call) → cursor_after σ exchange_at s c (xs ++ ys) ≡ cursor_after σ exchange_at s (cursor_after σ exchange_at s c xs) ys
  after_join c [] ys = refl
  after_join c (x ∷ xs) ys = after_join (judge σ exchange_at s c x) xs ys

  pub one_more : (l : List Call) (x : Call) → cursor_of σ exchange_at s (l ++ x ∷ []) ≡ judge σ exchange_at s (cursor_of σ exchange_at s l) x
  one_more l x = after_join (At (Free 0 0)) l (x ∷ [])

  judged_goes : (c c' : Spot) (x : Call) → judge σ exchange_at s (At c) x ≡ At c' → Goes σ s c x c'
  judged_goes c c' x h = go (ask_at σ exchange_at s c x.at x.words) refl h
    where
      told : (q : Ask) (o : Option Spot) → ask_at σ exchange_at s c x.at x.words ≡ Some q → spot_after σ s q x.answer ≡ o → cursor_at o ≡ At c' → Goes σ s c x c'
      told q None e f h = not_at c' h
      told q (Some d) e f h = record { ask = q; asks = ask_is σ exchange_at s c x.at x.words q e; tells = subst (TellsSpot σ s q x.answer) (at_parts d c' h) (told_is σ s q x.answer d f) }

      go : (o : Option Ask) → ask_at σ exchange_at s c x.at x.words ≡ o → cursor_heard σ s o x.answer ≡ At c' → Goes σ s c x c'
      go None e h = unmannered_at c' h
      go (Some q) e h = told q (spot_after σ s q x.answer) e refl h

  judged_asks : (c : Spot) (x : Call) → judge σ exchange_at s (At c) x ≡ Unlisted → (q : Ask) × Asks σ s c x.at x.words q
  judged_asks c x h = go (ask_at σ exchange_at s c x.at x.words) refl h
    where
      go : (o : Option Ask) → ask_at σ exchange_at s c x.at x.words ≡ o → cursor_heard σ s o x.answer ≡ Unlisted → (q : Ask) × Asks σ s c x.at x.words q
      go None e h = not_unlisted h
      go (Some q) e h = (q, ask_is σ exchange_at s c x.at x.words q e)

  judged_runs : (l : List Call) (c c' : Spot) → cursor_after σ exchange_at s (At c) l ≡ At c' → Runs σ s c l c'
  judged_runs [] c c' h = at_parts c c' h
  judged_runs (x ∷ xs) c c' h = go (λ m. judged_runs xs m c') (judge σ exchange_at s (At c) x) refl h
    where
      go : ((m : Spot) → cursor_after σ exchange_at s (At m) xs ≡ At c' → Runs σ s m xs c') → (k : Cursor) → judge σ exchange_at s (At c) x ≡ k → cursor_after σ exchange_at s k xs ≡ At c' → Runs σ s c (x ∷ xs) c'
      go later (At m) e h = (m, judged_goes c m x e, later m h)
      go later Unlisted e h = ended_at xs c' h
      go later Unmannered e h = unmannered_at c' (sym (stays xs) ∙ h)

  -- all but the last run through, and the last one's words are asked
  abbrev Off : Spot → List Call → Type 0
  Off c l = (before : List Call) × (a : ℕ) × (words : Words) × (answer : Value) × (mid : Spot) × (q : Ask) × (l ≡ before ++ call a words answer ∷ []) × Runs σ s c before mid × Asks σ s mid a words q

  judged_off : (l : List Call) (c : Spot) → cursor_after σ exchange_at s (At c) l ≡ Unlisted → Off c l
  judged_off [] c h = absurd (cc h)
  judged_off (x ∷ xs) c h = go (λ m. judged_off xs m) (judge σ exchange_at s (At c) x) refl h
    where
      last : (ys : List Call) → judge σ exchange_at s (At c) x ≡ Unlisted → cursor_after σ exchange_at s Unlisted ys ≡ Unlisted → Off c (x ∷ ys)
      last [] e h = let q = judged_asks c x e in ([], x.at, x.words, x.answer, c, q.0, refl, refl, q.1)
      last (y ∷ ys) e h = not_unlisted (sym (stays ys) ∙ h)

      go : ((m : Spot) → cursor_after σ exchange_at s (At m) xs ≡ Unlisted → Off m xs) → (k : Cursor) → judge σ exchange_at s (At c) x ≡ k → cursor_after σ exchange_at s k xs ≡ Unlisted → Off c (x ∷ xs)
      go later (At m) e h =
          let r = later m h in
          (x ∷ r.0, r.1, r.2, r.3, r.4, r.5, ap (λ (z : List Call). x ∷ z) r.6, (m, judged_goes c m x e, r.7), r.8)
      go later Unlisted e h = last xs e h
      go later Unmannered e h = not_unlisted (sym (stays xs) ∙ h)

  -- each ask has a listed answer
  an_answer : (q : Ask) → (r : Value) × (c : Spot) × TellsSpot σ s q r c
  an_answer (Count c) = (_, _, Counted c (pos 0))
  an_answer (Consent c) = (_, _, Consented c)
  an_answer (Queueing c) = (_, _, Was_queued c)
  an_answer (Counts c) = (_, _, Counted_both c (pos 0) (pos 0))
  an_answer (Anything c) = (_, _, Answered c done done_right)
  an_answer (Bindings n p e) = (_, _, Bound n p e [])
  an_answer (Message n p) = (_, _, Nothing_there n p)
  an_answer (Entry n p j k) = (_, _, Missing n p j k)
  an_answer (Routes n p j k u v) = (_, _, Looked_up n p j k u v [])
  an_answer (Move n p j k) = (_, _, Moved n p j k [])
  an_answer (Lock n p) = (_, _, Taken n p)
  an_answer (Due n p) = (_, _, Members n p [])
  an_answer (Holder n p) = (_, _, Nobody n p)
  an_answer (Release n p) = (_, _, Altered n p)

module _ (σ : Setting) (exchange_at : Bytes → Option Bytes) (laws : IsLawful σ) (readable : IsReadable σ exchange_at) (s : ℕ) where
  goes_judged : (c c' : Spot) (x : Call) → x.at < 2 ^ 64 → Goes σ s c x c' → judge σ exchange_at s (At c) x ≡ At c'
  goes_judged c c' x time g =
      ap (λ o. cursor_heard σ s o x.answer) (ask-allowed σ exchange_at s laws readable c x.at x.words g.ask time g.asks) ∙ ap cursor_at (told-allowed σ s g.ask x.answer c' g.tells)

  runs_judged : (l : List Call) (c c' : Spot) → HaveMomentsOf64Bits l → Runs σ s c l c' → cursor_after σ exchange_at s (At c) l ≡ At c'
  runs_judged [] c c' time r = ap At r
  runs_judged (x ∷ xs) c c' time r = ap (λ z. cursor_after σ exchange_at s z xs) (goes_judged c r.0 x time.0 r.1) ∙ runs_judged xs r.0 c' time.1 r.2

  pub front_at : (l : List Call) → HaveMomentsOf64Bits l → IsFrontOfBlocks σ s l → (c : Spot) × (cursor_of σ exchange_at s l ≡ At c)
  front_at l time h = let r = front_runs σ s laws readable.tells l h in (r.0, runs_judged l (Free 0 0) r.0 time r.1)

  pub at_front : (l : List Call) (c : Spot) → cursor_of σ exchange_at s l ≡ At c → IsFrontOfBlocks σ s l
  at_front l c h = runs_front σ s laws l (c, judged_runs σ exchange_at s l (Free 0 0) c h)

  pub unlisted_cursor : (l : List Call) → HaveMomentsOf64Bits l → IsUnlisted σ s l → cursor_of σ exchange_at s l ≡ Unlisted
  unlisted_cursor l time h = led (spot_after σ s asked answer) refl
    where
      before : List Call
      before = h.0

      a : ℕ
      a = h.1

      words : Words
      words = h.2

      answer : Value
      answer = h.4

      times : HaveMomentsOf64Bits (h.0 ++ call h.1 h.2 h.4 ∷ [])
      times = subst HaveMomentsOf64Bits h.5 time

      through : (mid : Spot) × Runs σ s (Free 0 0) h.0 mid × ((c : Spot) × Goes σ s mid (call h.1 h.2 h.3) c)
      through =
          let r = front_runs σ s laws readable.tells (h.0 ++ call h.1 h.2 h.3 ∷ []) h.6 in
          let q = runs_split σ s (Free 0 0) r.0 h.0 (call h.1 h.2 h.3 ∷ []) r.1 in
          let z = q.2 in
          (q.0, q.1, (z.0, z.1))

      asked : Ask
      asked = let g = through.2 in let x = g.1 in x.ask

      is : cursor_of σ exchange_at s l ≡ cursor_at (spot_after σ s (let g = through.2 in let x = g.1 in x.ask) h.4)
      is =
          let g = through.2 in
          let x = g.1 in
          ap (cursor_of σ exchange_at s) h.5
          ∙ after_join σ exchange_at s (At (Free 0 0)) h.0 (call h.1 h.2 h.4 ∷ [])
          ∙ ap (λ z. judge σ exchange_at s z (call h.1 h.2 h.4)) (runs_judged h.0 (Free 0 0) through.0 (timely_front h.0 (call h.1 h.2 h.4 ∷ []) times) through.1)
          ∙ ap (λ o. cursor_heard σ s o h.4) (ask-allowed σ exchange_at s laws readable through.0 h.1 h.2 x.ask (timely_last h.0 h.1 h.2 h.4 times) x.asks)

      led : (o : Option Spot) → spot_after σ s (let g = through.2 in let x = g.1 in x.ask) h.4 ≡ o → cursor_of σ exchange_at s l ≡ Unlisted
      led None e = is ∙ ap cursor_at e
      led (Some d) e = absurd (h.7 (at_front l d (is ∙ ap cursor_at e)))

  pub cursor_unlisted : (l : List Call) → HaveMomentsOf64Bits l → cursor_of σ exchange_at s l ≡ Unlisted → IsUnlisted σ s l
  cursor_unlisted l time h =
      let o = judged_off σ exchange_at s l (Free 0 0) h in
      let r = an_answer σ exchange_at s o.5 in
      let g : Goes σ s o.4 (call o.1 o.2 r.0) r.1 = record { ask = o.5; asks = o.8; tells = r.2 } in (
        o.0,
        o.1,
        o.2,
        r.0,
        o.3,
        o.6,
        runs_front σ s laws (o.0 ++ call o.1 o.2 r.0 ∷ []) (r.1, runs_join σ s (Free 0 0) o.4 r.1 o.0 (call o.1 o.2 r.0 ∷ []) o.7 (r.1, g, refl)),
        λ f. let c = front_at l time f in not_at c.0 (sym h ∙ c.1),
      )

  pub mannered_cursor : (l : List Call) → HaveMomentsOf64Bits l → IsMannered σ s l → cursor_of σ exchange_at s l ≡ Unmannered → ⊥
  mannered_cursor l time (inl h) e = let c = front_at l time h in unmannered_at c.0 (sym e ∙ c.1)
  mannered_cursor l time (inr h) e = not_unlisted (sym e ∙ unlisted_cursor l time h)

  pub cursor_mannered : (l : List Call) → HaveMomentsOf64Bits l → (cursor_of σ exchange_at s l ≡ Unmannered → ⊥) → IsMannered σ s l
  cursor_mannered l time h = go (cursor_of σ exchange_at s l) refl
    where
      go : (k : Cursor) → cursor_of σ exchange_at s l ≡ k → IsMannered σ s l
      go (At c) e = inl (at_front l c e)
      go Unlisted e = inr (cursor_unlisted l time e)
      go Unmannered e = absurd (h e)
