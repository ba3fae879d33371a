-- A client's calls, as what it was asked for has them: whole blocks, and then those of its block in progress.
use Rattle.std.proofs.Common.{◌≡◌, ◌⊎◌, inl, inr, ℕ, ◌<◌, ◌^◌, suc, refl, ap, sym, ◌∙◌, subst, List, [], ◌∷◌, ◌++◌, append_assoc, true, false, Option, None, Some}
use Rattle.std.proofs.lemmas.List.{append-nil}
use Rattle.wire_values.specs.declared.value.Value.{Value}
use Rattle.store_model.specs.Words.{Words}
use Rattle.queue_keys.specs.Names.{Bytes}
use Rattle.command_blocks.specs.Calls.{Call, call}
use Rattle.command_blocks.specs.Blocks.{Drawing, drawn, passes_after}
use Rattle.command_blocks.specs.Scripts.{Script, Over, Off, Say, Plan, Declare, Undeclare, Publish, Pop, End, Return, Pass, script_of, counter_use, after_call, rest_of, IsSaid}
use Rattle.command_blocks.specs.declared.side.Side.TheVariants.{Left, Right}
use Rattle.schedule_model.specs.Desk.{ClientBook, begun}
use Rattle.schedule_model.specs.Faults.{Craft}
use Rattle.schedule_model.specs.Schedules.{publish_plan, plan_of}
use Rattle.schedule_model.specs.declared.line.Asked.{Asked}
use Rattle.schedule_model.specs.declared.line.Asked.TheVariants as asked
use Rattle.block_laws.specs.Rows.{IsGood, AreTimely, IsRow, IsPlanBlock}
use Rattle.block_laws.proofs.Values.{some_is}
use Rattle.block_laws.proofs.Talks.{says_not}
use Rattle.block_laws.proofs.Said.{plan_off}
use Rattle.block_laws.proofs.Fronts.{said-append, rest-append, timely-append, end_of, IsPutOff, rest_good}
use Rattle.schedule_laws.specs.Sound.{IsCraft}
use Rattle.schedule_laws.specs.BegunBlocks.{use_of, IsAskedBlock, IsBegunBlock, AreAskedBlocks}

-- ---- what is asked for and its plan

published_block : (κ : Craft) (s n p : ℕ) (x k : Bytes) (y : ℕ) (t j : Bytes) (o : Option Bytes) (plan : Plan) (l : List Call) → κ.sealed s (suc n) x k y t j ≡ o → publish_plan o ≡ Some plan
    → IsPlanBlock κ.setting s n p plan l → IsAskedBlock κ s n p (asked.Publish x k y t j) l
published_block κ s n p x k y t j None plan l is e b = absurd (cc e)
published_block κ s n p x k y t j (Some v) plan l is e b = (v, is, subst (λ q. IsPlanBlock κ.setting s n p q l) (sym (some_is (Publish v) plan e)) b)

-- the block of the plan is the block that was asked for
plan_asked : (κ : Craft) (s n p : ℕ) (a : Asked) (plan : Plan) (l : List Call) → plan_of κ s (suc n) a ≡ Some plan → IsPlanBlock κ.setting s n p plan l → IsAskedBlock κ s n p a l
plan_asked κ s n p (asked.Publish x k y t j) plan l e b = published_block κ s n p x k y t j (κ.sealed s (suc n) x k y t j) plan l refl e b
plan_asked κ s n p (asked.Declare x k y q) plan l e b = subst (λ z. IsPlanBlock κ.setting s n p z l) (sym (some_is (Declare x k y q) plan e)) b
plan_asked κ s n p (asked.Undeclare x k y q) plan l e b = subst (λ z. IsPlanBlock κ.setting s n p z l) (sym (some_is (Undeclare x k y q) plan e)) b
plan_asked κ s n p (asked.Pop qs) plan l e b = subst (λ z. IsPlanBlock κ.setting s n p z l) (sym (some_is (Pop qs) plan e)) b
plan_asked κ s n p (asked.Ack a c) plan l e b = subst (λ z. IsPlanBlock κ.setting s n p z l) (sym (some_is (End (κ.setting.tag a c)) plan e)) b
plan_asked κ s n p (asked.Restore a c) plan l e b = subst (λ z. IsPlanBlock κ.setting s n p z l) (sym (some_is (Return Right (κ.setting.tag a c)) plan e)) b
plan_asked κ s n p (asked.Requeue a c) plan l e b = subst (λ z. IsPlanBlock κ.setting s n p z l) (sym (some_is (Return Left (κ.setting.tag a c)) plan e)) b
plan_asked κ s n p (asked.Pass v) plan l e b = subst (λ z. IsPlanBlock κ.setting s n p z l) (sym (some_is (Pass v) plan e)) b

published_plan : (κ : Craft) (s n p : ℕ) (x k : Bytes) (y : ℕ) (t j : Bytes) (o : Option Bytes) (plan : Plan) (l : List Call) → κ.sealed s (suc n) x k y t j ≡ o → publish_plan o ≡ Some plan
    → IsAskedBlock κ s n p (asked.Publish x k y t j) l → IsPlanBlock κ.setting s n p plan l
published_plan κ s n p x k y t j None plan l is e b = absurd cc
published_plan κ s n p x k y t j (Some v) plan l is e b =
    let same : b.0 ≡ v = some_is b.0 v (sym b.1 ∙ is) in
    subst (λ q. IsPlanBlock κ.setting s n p q l) (ap Publish same ∙ some_is (Publish v) plan e) b.2

-- and the other way round
asked_plan : (κ : Craft) (s n p : ℕ) (a : Asked) (plan : Plan) (l : List Call) → plan_of κ s (suc n) a ≡ Some plan → IsAskedBlock κ s n p a l → IsPlanBlock κ.setting s n p plan l
asked_plan κ s n p (asked.Publish x k y t j) plan l e b = published_plan κ s n p x k y t j (κ.sealed s (suc n) x k y t j) plan l refl e b
asked_plan κ s n p (asked.Declare x k y q) plan l e b = subst (λ z. IsPlanBlock κ.setting s n p z l) (some_is (Declare x k y q) plan e) b
asked_plan κ s n p (asked.Undeclare x k y q) plan l e b = subst (λ z. IsPlanBlock κ.setting s n p z l) (some_is (Undeclare x k y q) plan e) b
asked_plan κ s n p (asked.Pop qs) plan l e b = subst (λ z. IsPlanBlock κ.setting s n p z l) (some_is (Pop qs) plan e) b
asked_plan κ s n p (asked.Ack a c) plan l e b = subst (λ z. IsPlanBlock κ.setting s n p z l) (some_is (End (κ.setting.tag a c)) plan e) b
asked_plan κ s n p (asked.Restore a c) plan l e b = subst (λ z. IsPlanBlock κ.setting s n p z l) (some_is (Return Right (κ.setting.tag a c)) plan e) b
asked_plan κ s n p (asked.Requeue a c) plan l e b = subst (λ z. IsPlanBlock κ.setting s n p z l) (some_is (Return Left (κ.setting.tag a c)) plan e) b
asked_plan κ s n p (asked.Pass v) plan l e b = subst (λ z. IsPlanBlock κ.setting s n p z l) (some_is (Pass v) plan e) b

published_use : (κ : Craft) (s n : ℕ) (x k : Bytes) (y : ℕ) (t j : Bytes) (o : Option Bytes) (plan : Plan) → publish_plan o ≡ Some plan → counter_use plan ≡ Drawing
published_use κ s n x k y t j None plan e = absurd (cc e)
published_use κ s n x k y t j (Some v) plan e = ap counter_use (sym (some_is (Publish v) plan e))

-- what it takes from the counters
uses : (κ : Craft) (s n : ℕ) (a : Asked) (plan : Plan) → plan_of κ s (suc n) a ≡ Some plan → counter_use plan ≡ use_of a
uses κ s n (asked.Publish x k y t j) plan e = published_use κ s n x k y t j (κ.sealed s (suc n) x k y t j) plan e
uses κ s n (asked.Declare x k y q) plan e = ap counter_use (sym (some_is (Declare x k y q) plan e))
uses κ s n (asked.Undeclare x k y q) plan e = ap counter_use (sym (some_is (Undeclare x k y q) plan e))
uses κ s n (asked.Pop qs) plan e = ap counter_use (sym (some_is (Pop qs) plan e))
uses κ s n (asked.Ack a c) plan e = ap counter_use (sym (some_is (End (κ.setting.tag a c)) plan e))
uses κ s n (asked.Restore a c) plan e = ap counter_use (sym (some_is (Return Right (κ.setting.tag a c)) plan e))
uses κ s n (asked.Requeue a c) plan e = ap counter_use (sym (some_is (Return Left (κ.setting.tag a c)) plan e))
uses κ s n (asked.Pass v) plan e = ap counter_use (sym (some_is (Pass v) plan e))

-- ---- whole blocks, one after the other

-- from the counters n and p to the counters m and q
abbrev pub AskedTo : Craft → ℕ → ℕ → ℕ → List Asked → List Call → ℕ → ℕ → Type 0
AskedTo κ s n p [] l m q = (l ≡ []) × (n ≡ m) × (p ≡ q)
AskedTo κ s n p (a ∷ later) l m q = (whole : List Call) × (rest : List Call) × (l ≡ whole ++ rest) × IsAskedBlock κ s n p a whole × AskedTo κ s (drawn (use_of a) n) (passes_after (use_of a) p) later rest m q

-- one block more
asked_more : (κ : Craft) (s n p : ℕ) (asks : List Asked) (l : List Call) (m q : ℕ) (a : Asked) (b : List Call) → AskedTo κ s n p asks l m q → IsAskedBlock κ s m q a b
    → AskedTo κ s n p (asks ++ a ∷ []) (l ++ b) (drawn (use_of a) m) (passes_after (use_of a) q)
asked_more κ s n p [] l m q a b h one = (
  b,
  [],
  ap (λ x. x ++ b) h.0 ∙ sym (append-nil b),
  subst (λ x. IsAskedBlock κ s x p a b) (sym h.1) (subst (λ y. IsAskedBlock κ s m y a b) (sym h.2) one),
  (refl, ap (drawn (use_of a)) h.1, ap (passes_after (use_of a)) h.2),
)
asked_more κ s n p (c ∷ later) l m q a b h one = (
  h.0,
  h.1 ++ b,
  ap (λ x. x ++ b) h.2 ∙ append_assoc h.0 h.1 b,
  h.3,
  asked_more κ s (drawn (use_of c) n) (passes_after (use_of c) p) later h.1 m q a b h.4 one,
)

-- they are blocks, of which the last is whole
all_whole : (κ : Craft) (s n p : ℕ) (asks : List Asked) (l : List Call) (m q : ℕ) → AskedTo κ s n p asks l m q → AreAskedBlocks κ s n p asks l
all_whole κ s n p [] l m q h = h.0
all_whole κ s n p (a ∷ []) l m q h = inl ([], subst (IsAskedBlock κ s n p a) (sym (append-nil l ∙ (h.2 ∙ (ap (λ x. h.0 ++ x) h.4.0 ∙ append-nil h.0)))) h.3)
all_whole κ s n p (a ∷ b ∷ later) l m q h = (h.0, h.1, h.2, h.3, all_whole κ s (drawn (use_of a) n) (passes_after (use_of a) p) (b ∷ later) h.1 m q h.4)

-- or the last is begun
last_begun : (κ : Craft) (s n p : ℕ) (asks : List Asked) (l : List Call) (m q : ℕ) (a : Asked) (part : List Call) → AskedTo κ s n p asks l m q → IsBegunBlock κ s m q a part → AreAskedBlocks κ s n p (asks ++ a ∷ []) (l ++ part)
last_begun κ s n p [] l m q a part h one = subst (IsBegunBlock κ s n p a) (sym (ap (λ x. x ++ part) h.0)) (subst (λ x. IsBegunBlock κ s x p a part) (sym h.1) (subst (λ y. IsBegunBlock κ s m y a part) (sym h.2) one))
last_begun κ s n p (b ∷ later) l m q a part h one = by later (last_begun κ s (drawn (use_of b) n) (passes_after (use_of b) p) later h.1 m q a part h.4 one) where
  by : (xs : List Asked) → AreAskedBlocks κ s (drawn (use_of b) n) (passes_after (use_of b) p) (xs ++ a ∷ []) (h.1 ++ part) → AreAskedBlocks κ s n p (b ∷ (xs ++ a ∷ [])) (l ++ part)
  by [] rest = (h.0, h.1 ++ part, ap (λ x. x ++ part) h.2 ∙ append_assoc h.0 h.1 part, h.3, rest)
  by (x ∷ xs) rest = (h.0, h.1 ++ part, ap (λ x. x ++ part) h.2 ∙ append_assoc h.0 h.1 part, h.3, rest)

-- ---- a client

-- no block is in progress
pub record AskedIdle (before asks : List Asked) (m q : ℕ) (part : List Call) (b : ClientBook) : Type 0 where
  pub all : asks ≡ before
  pub part_none : part ≡ []
  pub over : b.left ≡ Over
  pub drawn_same : b.drawn ≡ m
  pub passes_same : b.passes ≡ q

-- these are the calls so far of what was asked for last
pub record AskedBusy (κ : Craft) (before asks : List Asked) (m q : ℕ) (part : List Call) (b : ClientBook) : Type 0 where
  pub last : Asked
  pub all : asks ≡ before ++ last ∷ []
  pub plan : Plan
  pub planned : plan_of κ b.seed (suc m) last ≡ Some plan
  pub row : IsRow κ.setting b.seed m q plan
  pub said : IsSaid (script_of κ.setting b.seed q plan) part
  pub timely : AreTimely part
  pub rest : rest_of (script_of κ.setting b.seed q plan) part ≡ b.left
  pub drawn_after : b.drawn ≡ drawn (use_of last) m
  pub passes_after : b.passes ≡ passes_after (use_of last) q

-- a client's calls are as it was asked and as its book says
pub record IsAsked (κ : Craft) (asks : List Asked) (calls : List Call) (b : ClientBook) : Type 0 where
  pub before : List Asked
  pub whole : List Call
  pub part : List Call
  pub m : ℕ
  pub q : ℕ
  pub blocks : AskedTo κ b.seed 0 0 before whole m q
  pub calls_are : calls ≡ whole ++ part
  pub standing : AskedIdle before asks m q part b ⊎ AskedBusy κ before asks m q part b

-- a client that has called nothing
pub new_asked : (κ : Craft) (s : ℕ) → IsAsked κ [] [] (record { seed = s; drawn = 0; passes = 0; left = Over; stopped = false })
new_asked κ s = record {
  before = [];
  whole = [];
  part = [];
  m = 0;
  q = 0;
  blocks = (refl, refl, refl);
  calls_are = refl;
  standing = inl (record { all = refl; part_none = refl; over = refl; drawn_same = refl; passes_same = refl });
}

-- whole blocks alone, with the book's counters
wholly : (κ : Craft) (asks : List Asked) (calls : List Call) (b : ClientBook) → IsAsked κ asks calls b → b.left ≡ Over → AskedTo κ b.seed 0 0 asks calls b.drawn b.passes
wholly κ asks calls b k over = by k.standing where
  to : (asks' : List Asked) (l : List Call) (m q : ℕ) → asks ≡ asks' → calls ≡ l → b.drawn ≡ m → b.passes ≡ q → AskedTo κ b.seed 0 0 asks' l m q → AskedTo κ b.seed 0 0 asks calls b.drawn b.passes
  to asks' l m q e f g h x = subst (λ z. AskedTo κ b.seed 0 0 z calls b.drawn b.passes) (sym e) (subst (λ z. AskedTo κ b.seed 0 0 asks' z b.drawn b.passes) (sym f)
      (subst (λ z. AskedTo κ b.seed 0 0 asks' l z b.passes) (sym g) (subst (AskedTo κ b.seed 0 0 asks' l m) (sym h) x)))

  by : AskedIdle k.before asks k.m k.q k.part b ⊎ AskedBusy κ k.before asks k.m k.q k.part b → AskedTo κ b.seed 0 0 asks calls b.drawn b.passes
  by (inl i) = to k.before k.whole k.m k.q i.all (k.calls_are ∙ (ap (λ l. k.whole ++ l) i.part_none ∙ append-nil k.whole)) i.drawn_same i.passes_same k.blocks
  by (inr i) = to (k.before ++ i.last ∷ []) (k.whole ++ k.part) (drawn (use_of i.last) k.m) (passes_after (use_of i.last) k.q) i.all k.calls_are i.drawn_after i.passes_after
      (asked_more κ b.seed 0 0 k.before k.whole k.m k.q i.last k.part k.blocks (plan_asked κ b.seed k.m k.q i.last i.plan k.part i.planned (i.row.told k.part i.timely i.said (i.rest ∙ over))))

-- a block begins
pub begun_asked : (κ : Craft) (asks : List Asked) (calls : List Call) (b : ClientBook) (a : Asked) (plan : Plan) → IsAsked κ asks calls b → b.left ≡ Over → plan_of κ b.seed (suc b.drawn) a ≡ Some plan
    → IsRow κ.setting b.seed b.drawn b.passes plan → IsAsked κ (asks ++ a ∷ []) calls (begun κ.setting b plan)
begun_asked κ asks calls b a plan k over planned row = let u = uses κ b.seed b.drawn a plan planned in record {
  before = asks;
  whole = calls;
  part = [];
  m = b.drawn;
  q = b.passes;
  blocks = wholly κ asks calls b k over;
  calls_are = sym (append-nil calls);
  standing = inr (record {
    last = a;
    all = refl;
    plan = plan;
    planned = planned;
    row = row;
    said = tt;
    timely = tt;
    rest = refl;
    drawn_after = ap (λ z. drawn z b.drawn) u;
    passes_after = ap (λ z. passes_after z b.passes) u;
  });
}

-- a call of the block
pub call_asked : (κ : Craft) (asks : List Asked) (calls : List Call) (b : ClientBook) (w : ℕ → Words) (go : Value → Script) (at : ℕ) (r : Value) → IsAsked κ asks calls b → b.left ≡ Say w go → at < 2 ^ 40
    → IsAsked κ asks (calls ++ call at (w at) r ∷ []) (record b { left = go r })
call_asked κ asks calls b w go at r k says soon = by k.standing where
  x : Call
  x = call at (w at) r

  by : AskedIdle k.before asks k.m k.q k.part b ⊎ AskedBusy κ k.before asks k.m k.q k.part b → IsAsked κ asks (calls ++ x ∷ []) (record b { left = go r })
  by (inl i) = absurd (says_not w go (sym says ∙ i.over))
  by (inr i) = let left = i.rest ∙ says in record {
    before = k.before;
    whole = k.whole;
    part = k.part ++ x ∷ [];
    m = k.m;
    q = k.q;
    blocks = k.blocks;
    calls_are = ap (λ l. l ++ x ∷ []) k.calls_are ∙ append_assoc k.whole k.part (x ∷ []);
    standing = inr (record {
      last = i.last;
      all = i.all;
      plan = i.plan;
      planned = i.planned;
      row = i.row;
      said = said-append (script_of κ.setting b.seed k.q i.plan) k.part (x ∷ []) i.said (subst (λ p. IsSaid p (x ∷ [])) (sym left) (refl, tt));
      timely = timely-append k.part (x ∷ []) i.timely (soon, tt);
      rest = rest-append (script_of κ.setting b.seed k.q i.plan) k.part (x ∷ []) ∙ ap (λ p. after_call p x) left;
      drawn_after = i.drawn_after;
      passes_after = i.passes_after;
    });
  }

-- a client that is gone
pub gone_asked : (κ : Craft) (asks : List Asked) (calls : List Call) (b : ClientBook) → IsAsked κ asks calls b → IsAsked κ asks calls (record b { stopped = true })
gone_asked κ asks calls b k = record { before = k.before; whole = k.whole; part = k.part; m = k.m; q = k.q; blocks = k.blocks; calls_are = k.calls_are; standing = by k.standing } where
  by : AskedIdle k.before asks k.m k.q k.part b ⊎ AskedBusy κ k.before asks k.m k.q k.part b → AskedIdle k.before asks k.m k.q k.part (record b { stopped = true }) ⊎ AskedBusy κ k.before asks k.m k.q k.part (record b { stopped = true })
  by (inl i) = inl (record { all = i.all; part_none = i.part_none; over = i.over; drawn_same = i.drawn_same; passes_same = i.passes_same })
  by (inr i) = inr (record { last = i.last; all = i.all; plan = i.plan; planned = i.planned; row = i.row; said = i.said; timely = i.timely; rest = i.rest; drawn_after = i.drawn_after; passes_after = i.passes_after })

-- ---- what a client said is what it was asked for

module _ (κ : Craft) (craft : IsCraft κ) (asks : List Asked) (calls : List Call) (b : ClientBook) (k : IsAsked κ asks calls b) where
  module _ (i : AskedBusy κ k.before asks k.m k.q k.part b) where
    abbrev its : Script
    its = script_of κ.setting b.seed k.q i.plan

    abbrev Begins : List Call → Type 0
    Begins l = IsAskedBlock κ b.seed k.m k.q i.last l

    whole_one : (l : List Call) → AreTimely l → IsSaid its l → rest_of its l ≡ Over → Begins l
    whole_one l timely said over = plan_asked κ b.seed k.m k.q i.last i.plan l i.planned (i.row.told l timely said over)

    begun_part : IsGood (rest_of its k.part) ⊎ ((rest_of its k.part ≡ Off) × IsPutOff its k.part) → IsBegunBlock κ b.seed k.m k.q i.last k.part
    begun_part (inl g) = let e = end_of (rest_of its k.part) g in
        inl (e.0, whole_one (k.part ++ e.0) (timely-append k.part e.0 i.timely e.1) (said-append its k.part e.0 i.said e.2) (rest-append its k.part e.0 ∙ e.3))
    begun_part (inr h) = let o = h.1 in inr (
      o.before,
      o.last.at,
      o.last.words,
      o.last.answer,
      o.listed,
      o.more,
      o.is,
      whole_one (o.before ++ call o.last.at o.last.words o.listed ∷ o.more) o.timely o.said o.over,
      λ rest block. plan_off κ.setting craft.lawful b.seed k.m k.q i.plan k.part rest h.0 (asked_plan κ b.seed k.m k.q i.last i.plan (k.part ++ rest) i.planned block),
    )

  pub asked_said : AreAskedBlocks κ b.seed 0 0 asks calls
  asked_said = by k.standing where
    to : (asks' : List Asked) (l : List Call) → asks ≡ asks' → calls ≡ l → AreAskedBlocks κ b.seed 0 0 asks' l → AreAskedBlocks κ b.seed 0 0 asks calls
    to asks' l e f h = subst (λ z. AreAskedBlocks κ b.seed 0 0 z calls) (sym e) (subst (AreAskedBlocks κ b.seed 0 0 asks') (sym f) h)

    by : AskedIdle k.before asks k.m k.q k.part b ⊎ AskedBusy κ k.before asks k.m k.q k.part b → AreAskedBlocks κ b.seed 0 0 asks calls
    by (inl i) = to k.before k.whole i.all (k.calls_are ∙ (ap (λ l. k.whole ++ l) i.part_none ∙ append-nil k.whole)) (all_whole κ b.seed 0 0 k.before k.whole k.m k.q k.blocks)
    by (inr i) = to (k.before ++ i.last ∷ []) (k.whole ++ k.part) i.all k.calls_are (last_begun κ b.seed 0 0 k.before k.whole k.m k.q i.last k.part k.blocks (begun_part i (rest_good (its i) k.part i.row.good i.timely i.said)))
