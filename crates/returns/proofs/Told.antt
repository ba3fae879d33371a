-- What the spots and the end of a return tell of its calls.
use Rattle.std.proofs.Common.{◌≡◌, ℤ, List, [], ◌∷◌, ◌++◌, Bool, true, false, Option, Some, None, refl, sym, ap, ◌∙◌, subst, codes, Result, Ok, Err, if◌then◌else◌}
use Rattle.std.specs.declared.alloc.AllocError.{AllocError}
use Rattle.std.specs.Prelude.{IfOk, is_some, option_and_then}
use Rattle.wire_values.specs.Layer.{layer}
use Rattle.wire_values.specs.declared.value.Value.{Value}
use Rattle.delivery_tags.specs.Tags.{tag_text}
use Rattle.queue_keys.specs.Names.{Bytes}
use Rattle.command_blocks.specs.Answers.{items_of, number_of}
use Rattle.command_blocks.specs.Calls.{Call}
use Rattle.command_blocks.specs.Scripts.{Plan, Declare, Undeclare, Publish, Pop, End, Return, Pass, each_told, status_in}
use Rattle.command_blocks.specs.declared.side.Side.{Side}
use Rattle.block_core.specs.Stages.{TellsOn}
use Rattle.block_core.specs.declared.stage.Progress.{Progress}
use Rattle.block_core.specs.declared.stage.Progress.TheVariants as found
use Rattle.block_laws.proofs.Values.{numbers_are, status_is}
use Rattle.returns.specs.Returns.{AnswerTells, AreIntegers, IsReason, ReturnHad, SpotHad, SpotTells, TellsReturn, TellsReturned, TryingHad, end_of}
use Rattle.returns.specs.declared.returned.Returned.{Returned}
use Rattle.returns.specs.declared.returned.Returned.TheVariants.{Moved, Gone, Stayed, Contended}
use Rattle.returns.specs.declared.spot.Aim.{Aim}
use Rattle.returns.specs.declared.spot.Spot.{Spot}
use Rattle.returns.specs.declared.spot.Spot.TheVariants.{Watch, Read, Ask, Take, Leave}
use Rattle.returns.specs.declared.spot.Unmoved.{Unmoved}
use Rattle.returns.specs.declared.spot.Unmoved.TheVariants as unmoved
use Rattle.returns.specs.declared.trying.Trying.{Trying}

-- an array of integers
pub integers_of : (r : Value) (b : Bool) → b ≡ is_some (option_and_then (each_told number_of) (items_of r)) → b ≡ true → AreIntegers r
integers_of r b e t = by (option_and_then (each_told number_of) (items_of r)) refl (sym e ∙ t) where
  by : (o : Option (List ℤ)) → option_and_then (each_told number_of) (items_of r) ≡ o → is_some o ≡ true → AreIntegers r
  by None i s = absurd (cc s)
  by (Some zs) i s = (zs, numbers_are r zs i)

spot_had : (spot : Spot) (r : Value) (calls : List Call) (last : Call) → last.answer ≡ r → SpotTells r spot → SpotHad (calls ++ last ∷ []) spot
spot_had Watch r calls last e h = tt
spot_had Read r calls last e h = tt
spot_had (Ask carried) r calls last e h = tt
spot_had (Take carried keys point) r calls last e h = tt
spot_had (Leave why) r calls last e h = (calls, last, refl, subst (IsReason why) (sym e) h)

-- what an answer brought tells of the calls with it
pub tells_on : (aim : Aim) (r : Value) (p : Progress Trying Returned) (t : Bytes) (calls : List Call) (last : Call) → last.answer ≡ r → tag_text aim.tag.0 ≡ t → AnswerTells aim r p → TellsOn (TryingHad t) (TellsReturned t) (calls ++ last ∷ []) p
tells_on aim r (found.Next trying) t calls last e tag h = (ap tag_text h.0 ∙ tag, spot_had trying.spot r calls last e h.1)
tells_on aim r (found.Over Moved) t calls last e tag h = (calls, last, refl, (h.0, e ∙ h.1))
tells_on aim r (found.Over Gone) t calls last e tag h = absurd h
tells_on aim r (found.Over Stayed) t calls last e tag h = absurd h
tells_on aim r (found.Over (Contended told)) t calls last e tag h = ((calls, last, refl, e ∙ h.0), ap tag_text h.1 ∙ tag)
tells_on aim r found.Refused t calls last e tag h = tt

-- the same where there was memory
pub tells_all : (result : Result (Progress Trying Returned) AllocError) (self : Trying) (r : Value) → IfOk result (λ p. AnswerTells self.aim r p)
    → IfOk result (λ p. (t : Bytes) (calls : List Call) (last : Call) → last.answer ≡ r → TryingHad t calls self → TellsOn (TryingHad t) (TellsReturned t) (calls ++ last ∷ []) p)
tells_all (Ok p) self r h = λ t calls last e had. tells_on self.aim r p t calls last e had.0 h
tells_all (Err f) self r h = tt

-- a try goes on at a spot that tells of the answer
pub listed_tells : (aim : Aim) (r : Value) (spot : Spot) (p : Progress Trying Returned) (b : Bool) → p ≡ (if b then found.Next (record { aim = aim; spot = spot }) else found.Refused) → SpotTells r spot → AnswerTells aim r p
listed_tells aim r spot p b is h = subst (AnswerTells aim r) (sym is) (by b) where
  by : (b : Bool) → AnswerTells aim r (if b then found.Next (record { aim = aim; spot = spot }) else found.Refused)
  by true = (refl, h)
  by false = tt

-- a return that left, for its reason
pub left_tells : (why : Unmoved) (r : Value) (p : Progress Trying Returned) (t : Bytes) (calls : List Call) (last : Call) (spot : Spot) → last.answer ≡ r → p ≡ (if status_in (codes "OK") (layer r) then found.Over (end_of why) else found.Refused) → spot ≡ Leave why → SpotHad calls spot
    → TellsOn (TryingHad t) (TellsReturned t) (calls ++ last ∷ []) p
left_tells why r p t calls last spot e is at had = subst (TellsOn (TryingHad t) (TellsReturned t) (calls ++ last ∷ [])) (sym is) (by (status_in (codes "OK") (layer r)) refl) where
  end : (why : Unmoved) → SpotHad calls (Leave why) → status_in (codes "OK") (layer r) ≡ true → TellsReturned t (calls ++ last ∷ []) (end_of why)
  end unmoved.Gone h ok = (h.0, h.1, last, ap (λ (l : List Call). l ++ last ∷ []) h.2, h.3, e ∙ status_is (codes "OK") r ok)
  end unmoved.Stayed h ok = (h.0, h.1, last, ap (λ (l : List Call). l ++ last ∷ []) h.2, h.3, e ∙ status_is (codes "OK") r ok)

  by : (b : Bool) → status_in (codes "OK") (layer r) ≡ b → TellsOn (TryingHad t) (TellsReturned t) (calls ++ last ∷ []) (if b then found.Over (end_of why) else found.Refused)
  by true ok = end why (subst (SpotHad calls) at had) ok
  by false ok = tt

-- ---- the plan of a return

of_tag : (side : Side) (t : Bytes) (calls : List Call) (p : Progress Trying Returned) → TellsOn (TryingHad t) (TellsReturned t) calls p → TellsOn (ReturnHad (Return side t)) (TellsReturn (Return side t)) calls p
of_tag side t calls (found.Next trying) h = h
of_tag side t calls (found.Over end) h = h
of_tag side t calls found.Refused h = tt

of_plan : (plan : Plan) (self : Trying) (calls more : List Call) (p : Progress Trying Returned) → ((t : Bytes) → TryingHad t calls self → TellsOn (TryingHad t) (TellsReturned t) more p) → ReturnHad plan calls self → TellsOn (ReturnHad plan) (TellsReturn plan) more p
of_plan (Declare e r x q) self calls more p h had = absurd had
of_plan (Undeclare e r x q) self calls more p h had = absurd had
of_plan (Publish v) self calls more p h had = absurd had
of_plan (Pop names) self calls more p h had = absurd had
of_plan (End t) self calls more p h had = absurd had
of_plan (Return side t) self calls more p h had = of_tag side t more p (h t had)
of_plan (Pass v) self calls more p h had = absurd had

pub plan_tells : (result : Result (Progress Trying Returned) AllocError) (self : Trying) (r : Value)
    → IfOk result (λ p. (t : Bytes) (calls : List Call) (last : Call) → last.answer ≡ r → TryingHad t calls self → TellsOn (TryingHad t) (TellsReturned t) (calls ++ last ∷ []) p)
    → IfOk result (λ p. (plan : Plan) (calls : List Call) (last : Call) → last.answer ≡ r → ReturnHad plan calls self → TellsOn (ReturnHad plan) (TellsReturn plan) (calls ++ last ∷ []) p)
plan_tells (Ok p) self r h = λ plan calls last e had. of_plan plan self calls (calls ++ last ∷ []) p (λ t had. h t calls last e had) had
plan_tells (Err f) self r h = tt
