-- What a desk that has its store does.
use Rattle.std.proofs.Common.{◌≡◌, ℕ, Bool, true, false, [], ◌∷◌, Option, None, Some, refl, sym, subst}
use Rattle.std.specs.Prelude.{IsTrue}
use Rattle.store_model.specs.Store.{State, apply_of, gone_of}
use Rattle.store_model.specs.Words.{Words}
use Rattle.store_model.specs.declared.reply.Reply.{Reply}
use Rattle.place_model.specs.declared.heard.Heard.{Heard}
use Rattle.desks.specs.Deeds.{DidAsk, DidNote, DidStop}
use Rattle.desks.specs.Faults.{IsOpen, IsTimely}
use Rattle.desks.specs.declared.desk.DeskFault.{DeskFault}
use Rattle.desks.specs.declared.desk.DeskFault.TheVariants.{Memory}
use Rattle.plain_desk.specs.StoreRuns.{LeadsLive, LeadsOn, live_state}

-- want of memory leaves the store spent
pub spent : (c : ℕ) (before now : Bool) (s t : State) → now ≡ true → LeadsOn c (live_state before s) [] c (live_state now t)
spent c before now s t e = (refl, subst (λ x. LeadsLive c (live_state before s) [] (live_state x t)) (sym e) (by before)) where
  by : (before : Bool) → LeadsLive c (live_state before s) [] None
  by true = (tt, refl)
  by false = (s, refl)

-- a command was answered, so that the store wasn't spent and isn't
pub went : (c at : ℕ) (words : Words) (reply : Reply) (before now : Bool) (s t : State) → (IsTrue before → ⊥) → now ≡ false → (t, reply) ≡ apply_of s at c words
    → LeadsOn c (live_state before s) (DidAsk at words reply ∷ []) c (live_state now t)
went c at words reply before now s t was is e = (refl, subst (λ x. LeadsLive c (live_state before s) (DidAsk at words reply ∷ []) (live_state x t)) (sym is) (by before was)) where
  by : (before : Bool) → (IsTrue before → ⊥) → LeadsLive c (live_state before s) (DidAsk at words reply ∷ []) (Some t)
  by true never = absurd (never refl)
  by false never = ((λ i. (e i).1), (λ i. (sym e i).0))

-- a note leaves the store
pub noted : (c : ℕ) (heard : Heard) (before : Bool) (s : State) → LeadsOn c (live_state before s) (DidNote heard ∷ []) c (live_state before s)
noted c heard before s = (refl, by before) where
  by : (before : Bool) → LeadsLive c (live_state before s) (DidNote heard ∷ []) (live_state before s)
  by true = (tt, refl)
  by false = refl

-- a stop drops what the connection has
pub left : (c : ℕ) (before : Bool) (s : State) → LeadsOn c (live_state before s) (DidStop ∷ []) c (live_state before (gone_of s c))
left c before s = (refl, by before) where
  by : (before : Bool) → LeadsLive c (live_state before s) (DidStop ∷ []) (live_state before (gone_of s c))
  by true = (tt, refl)
  by false = refl

-- want of memory comes in time
pub timely : (fault : Option DeskFault) (stopped : Bool) → IsOpen fault stopped → IsTimely fault stopped Memory
timely fault stopped a = subst (λ f. IsTimely f stopped Memory) (sym a.no_fault) (subst (λ b. IsTimely None b Memory) (sym a.no_stop) tt)
