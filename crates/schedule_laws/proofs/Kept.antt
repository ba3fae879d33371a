-- A client's calls, as its book has them: whole blocks, and then those of its block in progress.
use Rattle.std.proofs.Common.{◌≡◌, ◌⊎◌, inl, inr, ℕ, ◌<◌, ◌^◌, refl, ap, sym, ◌∙◌, subst, List, [], ◌∷◌, ◌++◌, append_assoc, true, false}
use Rattle.std.proofs.lemmas.List.{append-nil}
use Rattle.wire_values.specs.declared.value.Value.{Value}
use Rattle.store_model.specs.Words.{Words}
use Rattle.command_blocks.specs.Setting.{Setting}
use Rattle.command_blocks.specs.Calls.{Call, call, concat}
use Rattle.command_blocks.specs.Blocks.{drawn, passes_after, IsFrontOfBlocks, IsMannered}
use Rattle.command_blocks.specs.Scripts.{Script, Over, Off, Say, Plan, script_of, counter_use, after_call, rest_of, IsSaid}
use Rattle.schedule_model.specs.Desk.{ClientBook, begun}
use Rattle.block_laws.specs.Rows.{IsGood, AreTimely, IsRow}
use Rattle.block_laws.proofs.Talks.{says_not}
use Rattle.block_laws.proofs.Fronts.{said-append, rest-append, timely-append, end_of, IsPutOff, rest_good, BlocksTo, blocks_more, concat_more, whole_front, part_front}

-- for each list of calls before the moment 2^40 it is decided whether it is a front of blocks
abbrev pub DecidesFronts : Setting → Type 0
DecidesFronts σ = (s : ℕ) (l : List Call) → AreTimely l → IsFrontOfBlocks σ s l ⊎ (IsFrontOfBlocks σ s l → ⊥)

-- no block is in progress after whole blocks with these counters
pub record IsIdle (m q : ℕ) (part : List Call) (b : ClientBook) : Type 0 where
  pub part_none : part ≡ []
  pub over : b.left ≡ Over
  pub drawn_same : b.drawn ≡ m
  pub passes_same : b.passes ≡ q

-- these are the calls so far of a block that began at these counters
pub record IsBusy (σ : Setting) (m q : ℕ) (part : List Call) (b : ClientBook) : Type 0 where
  pub plan : Plan
  pub row : IsRow σ b.seed m q plan
  pub said : IsSaid (script_of σ b.seed q plan) part
  pub timely : AreTimely part
  pub rest : rest_of (script_of σ b.seed q plan) part ≡ b.left
  pub drawn_after : b.drawn ≡ drawn (counter_use plan) m
  pub passes_after : b.passes ≡ passes_after (counter_use plan) q

-- a client's calls are as its book says
pub record IsKept (σ : Setting) (calls : List Call) (b : ClientBook) : Type 0 where
  pub whole : List (List Call)
  pub part : List Call
  pub m : ℕ
  pub q : ℕ
  pub blocks : BlocksTo σ b.seed 0 0 whole m q
  pub calls_are : calls ≡ concat whole ++ part
  pub standing : IsIdle m q part b ⊎ IsBusy σ m q part b

-- a client that has called nothing
pub new_kept : (σ : Setting) (s : ℕ) → IsKept σ [] (record { seed = s; drawn = 0; passes = 0; left = Over; stopped = false })
new_kept σ s = record {
  whole = [];
  part = [];
  m = 0;
  q = 0;
  blocks = (refl, refl);
  calls_are = refl;
  standing = inl (record { part_none = refl; over = refl; drawn_same = refl; passes_same = refl });
}

-- whole blocks alone, with the book's counters
abbrev IsWholly : Setting → List Call → ClientBook → Type 0
IsWholly σ calls b = (whole : List (List Call)) × BlocksTo σ b.seed 0 0 whole b.drawn b.passes × (calls ≡ concat whole)

wholly : (σ : Setting) (calls : List Call) (b : ClientBook) → IsKept σ calls b → b.left ≡ Over → IsWholly σ calls b
wholly σ calls b k over = by k.standing where
  by : IsIdle k.m k.q k.part b ⊎ IsBusy σ k.m k.q k.part b → IsWholly σ calls b
  by (inl i) = (
    k.whole,
    subst (λ m. BlocksTo σ b.seed 0 0 k.whole m b.passes) (sym i.drawn_same) (subst (BlocksTo σ b.seed 0 0 k.whole k.m) (sym i.passes_same) k.blocks),
    k.calls_are ∙ (ap (λ l. concat k.whole ++ l) i.part_none ∙ append-nil (concat k.whole)),
  )
  by (inr i) = (
    k.whole ++ k.part ∷ [],
    subst (λ m. BlocksTo σ b.seed 0 0 (k.whole ++ k.part ∷ []) m b.passes) (sym i.drawn_after)
        (subst (BlocksTo σ b.seed 0 0 (k.whole ++ k.part ∷ []) (drawn (counter_use i.plan) k.m)) (sym i.passes_after)
        (blocks_more σ b.seed 0 0 k.whole k.m k.q (counter_use i.plan) k.part k.blocks (i.row.block k.part i.timely i.said (i.rest ∙ over)))),
    k.calls_are ∙ sym (concat_more k.whole k.part),
  )

-- a block begins
pub begun_kept : (σ : Setting) (calls : List Call) (b : ClientBook) (plan : Plan) → IsKept σ calls b → b.left ≡ Over → IsRow σ b.seed b.drawn b.passes plan → IsKept σ calls (begun σ b plan)
begun_kept σ calls b plan k over row = let h = wholly σ calls b k over in record {
  whole = h.0;
  part = [];
  m = b.drawn;
  q = b.passes;
  blocks = h.1;
  calls_are = h.2 ∙ sym (append-nil (concat h.0));
  standing = inr (record { plan = plan; row = row; said = tt; timely = tt; rest = refl; drawn_after = refl; passes_after = refl });
}

-- a call of the block
pub call_kept : (σ : Setting) (calls : List Call) (b : ClientBook) (w : ℕ → Words) (go : Value → Script) (at : ℕ) (r : Value) → IsKept σ calls b → b.left ≡ Say w go → at < 2 ^ 40
    → IsKept σ (calls ++ call at (w at) r ∷ []) (record b { left = go r })
call_kept σ calls b w go at r k says soon = by k.standing where
  x : Call
  x = call at (w at) r

  by : IsIdle k.m k.q k.part b ⊎ IsBusy σ k.m k.q k.part b → IsKept σ (calls ++ x ∷ []) (record b { left = go r })
  by (inl i) = absurd (says_not w go (sym says ∙ i.over))
  by (inr i) = let left = i.rest ∙ says in record {
    whole = k.whole;
    part = k.part ++ x ∷ [];
    m = k.m;
    q = k.q;
    blocks = k.blocks;
    calls_are = ap (λ l. l ++ x ∷ []) k.calls_are ∙ append_assoc (concat k.whole) k.part (x ∷ []);
    standing = inr (record {
      plan = i.plan;
      row = i.row;
      said = said-append (script_of σ b.seed k.q i.plan) k.part (x ∷ []) i.said (subst (λ p. IsSaid p (x ∷ [])) (sym left) (refl, tt));
      timely = timely-append k.part (x ∷ []) i.timely (soon, tt);
      rest = rest-append (script_of σ b.seed k.q i.plan) k.part (x ∷ []) ∙ ap (λ p. after_call p x) left;
      drawn_after = i.drawn_after;
      passes_after = i.passes_after;
    });
  }

-- a client that is gone
pub gone_kept : (σ : Setting) (calls : List Call) (b : ClientBook) → IsKept σ calls b → IsKept σ calls (record b { stopped = true })
gone_kept σ calls b k = record { whole = k.whole; part = k.part; m = k.m; q = k.q; blocks = k.blocks; calls_are = k.calls_are; standing = by k.standing } where
  by : IsIdle k.m k.q k.part b ⊎ IsBusy σ k.m k.q k.part b → IsIdle k.m k.q k.part (record b { stopped = true }) ⊎ IsBusy σ k.m k.q k.part (record b { stopped = true })
  by (inl i) = inl (record { part_none = i.part_none; over = i.over; drawn_same = i.drawn_same; passes_same = i.passes_same })
  by (inr i) = inr (record { plan = i.plan; row = i.row; said = i.said; timely = i.timely; rest = i.rest; drawn_after = i.drawn_after; passes_after = i.passes_after })

-- a client whose last answer was a listed one has called a front of blocks, and any client is mannered where fronts are decided
module _ (σ : Setting) (calls : List Call) (b : ClientBook) (k : IsKept σ calls b) where
  abbrev Front : List Call → Type 0
  Front l = IsFrontOfBlocks σ b.seed l

  idle_front : IsIdle k.m k.q k.part b → Front calls
  idle_front i = subst Front (sym (k.calls_are ∙ (ap (λ l. concat k.whole ++ l) i.part_none ∙ append-nil (concat k.whole)))) (whole_front σ b.seed k.m k.q k.whole k.blocks)

  module _ (i : IsBusy σ k.m k.q k.part b) where
    abbrev its : Script
    its = script_of σ b.seed k.q i.plan

    -- a part that a talk goes on to the end is one of a block
    front : (part more : List Call) → AreTimely (part ++ more) → IsSaid its (part ++ more) → rest_of its (part ++ more) ≡ Over → Front (concat k.whole ++ part)
    front part more timely said over = part_front σ b.seed k.m k.q k.whole (counter_use i.plan) part more k.blocks (i.row.block (part ++ more) timely said over)

    on_front : IsGood (rest_of its k.part) → Front calls
    on_front g = let e = end_of (rest_of its k.part) g in
        subst Front (sym k.calls_are) (front k.part e.0 (timely-append k.part e.0 i.timely e.1) (said-append its k.part e.0 i.said e.2) (rest-append its k.part e.0 ∙ e.3))

    off_mannered : DecidesFronts σ → AreTimely calls → IsPutOff its k.part → IsMannered σ b.seed calls
    off_mannered decide timely o = by (decide b.seed calls timely) where
      listed : Call
      listed = call o.last.at o.last.words o.listed

      near : Front (concat k.whole ++ (o.before ++ listed ∷ []))
      near = front (o.before ++ listed ∷ []) o.more (subst AreTimely (sym (append_assoc o.before (listed ∷ []) o.more)) o.timely) (subst (IsSaid its) (sym (append_assoc o.before (listed ∷ []) o.more)) o.said)
          (ap (rest_of its) (append_assoc o.before (listed ∷ []) o.more) ∙ o.over)

      by : Front calls ⊎ (Front calls → ⊥) → IsMannered σ b.seed calls
      by (inl f) = inl f
      by (inr never) = inr (
        concat k.whole ++ o.before,
        o.last.at,
        o.last.words,
        o.listed,
        o.last.answer,
        k.calls_are ∙ (ap (λ l. concat k.whole ++ l) o.is ∙ sym (append_assoc (concat k.whole) o.before (o.last ∷ []))),
        subst Front (sym (append_assoc (concat k.whole) o.before (listed ∷ []))) near,
        never,
      )

    busy_mannered : DecidesFronts σ → AreTimely calls → IsMannered σ b.seed calls
    busy_mannered decide timely = by (rest_good its k.part i.row.good i.timely i.said) where
      by : IsGood (rest_of its k.part) ⊎ ((rest_of its k.part ≡ Off) × IsPutOff its k.part) → IsMannered σ b.seed calls
      by (inl g) = inl (on_front g)
      by (inr h) = off_mannered decide timely h.1

    busy_front : (b.left ≡ Off → ⊥) → Front calls
    busy_front on = by (rest_good its k.part i.row.good i.timely i.said) where
      by : IsGood (rest_of its k.part) ⊎ ((rest_of its k.part ≡ Off) × IsPutOff its k.part) → Front calls
      by (inl g) = on_front g
      by (inr h) = absurd (on (sym i.rest ∙ h.0))

  pub mannered : DecidesFronts σ → AreTimely calls → IsMannered σ b.seed calls
  mannered decide timely = by k.standing where
    by : IsIdle k.m k.q k.part b ⊎ IsBusy σ k.m k.q k.part b → IsMannered σ b.seed calls
    by (inl i) = inl (idle_front i)
    by (inr i) = busy_mannered i decide timely

  pub on_is_front : (b.left ≡ Off → ⊥) → Front calls
  on_is_front on = by k.standing where
    by : IsIdle k.m k.q k.part b ⊎ IsBusy σ k.m k.q k.part b → Front calls
    by (inl i) = idle_front i
    by (inr i) = busy_front i on
