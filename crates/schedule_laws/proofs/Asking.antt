-- What is begun without a fault is a lawful plan.
use Rattle.std.proofs.Common.{◌≡◌, ℕ, suc, refl, sym, ◌∙◌, subst, List, [], ◌∷◌, Bool, true, false, Option, None, Some, if◌then◌else◌}
use Rattle.std.specs.Prelude.{◌||◌, ◌&&◌, not}
use Rattle.std.specs.List.{list_any}
use Rattle.queue_keys.specs.Bindings.{is_part}
use Rattle.queue_keys.specs.Names.{Bytes, all_free, has_length, is_name, is_reserved}
use Rattle.queue_keys.specs.QueueKeys.{Each}
use Rattle.command_blocks.specs.Setting.{named_or_none}
use Rattle.command_blocks.specs.TakeBlocks.{IsPop}
use Rattle.command_blocks.specs.Scripts.{Plan, Declare, Undeclare, Publish, Pop, End, Return, Pass}
use Rattle.command_blocks.specs.declared.side.Side.TheVariants.{Left, Right}
use Rattle.schedule_model.specs.Faults.{Craft, Test, first_reason, is_no_name, is_empty, declare_tests, asked_tests}
use Rattle.schedule_model.specs.Schedules.{publish_plan, plan_of}
use Rattle.schedule_model.specs.declared.line.Asked.{Asked}
use Rattle.schedule_model.specs.declared.line.Asked.TheVariants as asked
use Rattle.block_laws.specs.Rows.{IsDeclaration, IsLawfulPlan}
use Rattle.schedule_laws.specs.Sound.{IsSealed, IsCraft}
use Rattle.block_laws.proofs.Values.{some_is}
use Rattle.schedule_laws.proofs.Worlds.{neither}
use Rattle.schedule_laws.proofs.Spelled.{AreFew, IsAskedWithin}

-- none of the tests holds
abbrev pub AreFaultless : List Test → Type 0
AreFaultless [] = Unit {0}
AreFaultless (t ∷ ts) = (t.0 ≡ false) × AreFaultless ts

-- where no reason is given none of the tests holds
pub faultless : (ts : List Test) → first_reason ts ≡ None → AreFaultless ts
faultless [] e = tt
faultless (t ∷ ts) e = by t.0 e (faultless ts) where
  by : (b : Bool) → (if b then Some t.1 else first_reason ts) ≡ None → (first_reason ts ≡ None → AreFaultless ts) → (b ≡ false) × AreFaultless ts
  by true q h = cc
  by false q h = (refl, h q)

holds : (b : Bool) → not b ≡ false → b ≡ true
holds true e = refl
holds false e = cc

-- ---- names

-- a name that is spelled as one, and not reserved
name_lawful : (q : Bytes) → is_no_name q ≡ false → is_reserved q ≡ false → is_name q ≡ true
name_lawful q e f = by (all_free q && has_length q) (is_reserved q) e f where
  by : (a b : Bool) → not a ≡ false → b ≡ false → (if b then false else a) ≡ true
  by true true e f = cc
  by true false e f = refl
  by false b e f = cc

names_lawful : (qs : List Bytes) → list_any is_no_name qs ≡ false → list_any is_reserved qs ≡ false → Each is_name qs
names_lawful [] e f = tt
names_lawful (q ∷ qs) e f =
    let a = neither (is_no_name q) (list_any is_no_name qs) e in
    let b = neither (is_reserved q) (list_any is_reserved qs) f in
    (name_lawful q a.0 b.0, names_lawful qs a.1 b.1)

declaration : (x k p q : Bytes) → AreFaultless (declare_tests x k p q) → IsDeclaration x k p q
declaration x k p q h =
    let a = neither (not (is_part x) || not (is_part k) || not (is_part p)) (is_no_name q) h.0 in
    let b = neither (not (is_part x) || not (is_part k)) (not (is_part p)) a.0 in
    let c = neither (not (is_part x)) (not (is_part k)) b.0 in
    record { exchange = holds (is_part x) c.0; routing_key = holds (is_part k) c.1; pattern = holds (is_part p) b.1; queue = name_lawful q a.1 h.1.0 }

-- ---- publications

unnamed : (x : Bytes) → named_or_none x ≡ None → x ≡ []
unnamed [] e = refl
unnamed (b ∷ x) e = cc

-- with the empty exchange the routing key is a lawful name
routing_key : (x k : Bytes) → (is_empty x && is_no_name k) ≡ false → (is_empty x && is_reserved k) ≡ false → x ≡ [] → is_name k ≡ true
routing_key [] k e f is = name_lawful k e f
routing_key (b ∷ x) k e f is = cc

published : (κ : Craft) (craft : IsCraft κ) (s n : ℕ) (x k : Bytes) (p : ℕ) (t j : Bytes) (plan : Plan) → AreFaultless (asked_tests κ s (suc n) (asked.Publish x k p t j)) → (o : Option Bytes) → κ.sealed s (suc n) x k p t j ≡ o
    → publish_plan o ≡ Some plan → IsLawfulPlan κ.setting s n plan
published κ craft s n x k p t j plan h None is e = cc
published κ craft s n x k p t j plan h (Some v) is e = subst (IsLawfulPlan κ.setting s n) (some_is (Publish v) plan e) (record {
  tag = sealed.tag;
  key = λ none. let empty = unnamed x (sym sealed.exchange ∙ none) in let one = sealed.key empty (routing_key x k h.0 h.1.0 empty) in (one.0, one.2);
}) where
  sealed : IsSealed κ.setting s (suc n) x k v
  sealed = craft.seals s (suc n) x k p t j v is

-- ---- pops

popped : (κ : Craft) (craft : IsCraft κ) (qs : List Bytes) → AreFew qs → Each is_name qs → (k : Bytes) × (ks : List Bytes) × IsPop κ.setting qs (k ∷ ks)
popped κ craft [] few names = absurd few
popped κ craft (q ∷ qs) few names = let h = craft.pops q qs few in (h.0, h.1, (names, h.2, h.3))

-- ---- plans

pub lawful_plan : (κ : Craft) (craft : IsCraft κ) (s n : ℕ) (a : Asked) (plan : Plan) → IsAskedWithin a → AreFaultless (asked_tests κ s (suc n) a) → plan_of κ s (suc n) a ≡ Some plan → IsLawfulPlan κ.setting s n plan
lawful_plan κ craft s n (asked.Publish x k p t j) plan within h e = published κ craft s n x k p t j plan h (κ.sealed s (suc n) x k p t j) refl e
lawful_plan κ craft s n (asked.Declare x k p q) plan within h e = subst (IsLawfulPlan κ.setting s n) (some_is (Declare x k p q) plan e) (declaration x k p q h)
lawful_plan κ craft s n (asked.Undeclare x k p q) plan within h e = subst (IsLawfulPlan κ.setting s n) (some_is (Undeclare x k p q) plan e) (declaration x k p q h)
lawful_plan κ craft s n (asked.Pop qs) plan within h e = subst (IsLawfulPlan κ.setting s n) (some_is (Pop qs) plan e) (popped κ craft qs within (names_lawful qs h.0 h.1.0))
lawful_plan κ craft s n (asked.Ack a b) plan within h e = subst (IsLawfulPlan κ.setting s n) (some_is (End (κ.setting.tag a b)) plan e) (craft.lawful.tag_is a b within.0 within.1)
lawful_plan κ craft s n (asked.Restore a b) plan within h e = subst (IsLawfulPlan κ.setting s n) (some_is (Return Right (κ.setting.tag a b)) plan e) (craft.lawful.tag_is a b within.0 within.1)
lawful_plan κ craft s n (asked.Requeue a b) plan within h e = subst (IsLawfulPlan κ.setting s n) (some_is (Return Left (κ.setting.tag a b)) plan e) (craft.lawful.tag_is a b within.0 within.1)
lawful_plan κ craft s n (asked.Pass v) plan within h e = subst (IsLawfulPlan κ.setting s n) (some_is (Pass v) plan e) within
