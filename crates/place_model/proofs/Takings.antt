-- What a store can take of histories.
use Rattle.std.proofs.Common.{◌≡◌, List, [], ◌∷◌, ◌++◌, sym, subst, Result, Ok, Err, OnOk, OnErr}
use Rattle.std.proofs.Math.Logic.{∥∥₁_elim}
use Rattle.std.proofs.Props.{props}
use Rattle.std.proofs.lemmas.List.Elements.{All-push}
use Rattle.place_model.specs.Takable.{AreTakable, IsTakable}
use Rattle.place_model.specs.declared.heard.Heard.{Heard}
use Rattle.place_model.specs.declared.history.Entry.{Entry}
use Rattle.place_model.specs.declared.history.Entry.TheVariants.{Call as Called, Heard as Noted, Stop}

takable_prop : (e : Entry Heard) → IsProp (IsTakable e)
takable_prop (Called c at words reply) = hlevel props
takable_prop (Noted c note) = hlevel props
takable_prop (Stop c) = hlevel props

-- each is takable, where that is known in no certain way
pub takable_each : (es : List (Entry Heard)) → ∥ AreTakable es ∥₁ → AreTakable es
takable_each es h = λ k d i. ∥∥₁_elim h (takable_prop _) (λ a. a k d i)

-- and one more
takable_more : (es fs : List (Entry Heard)) (e : Entry Heard) → ∥ AreTakable es ∥₁ → IsTakable e → fs ≡ es ++ e ∷ [] → ∥ AreTakable fs ∥₁
takable_more es fs e h t is = subst (λ l. ∥ AreTakable l ∥₁) (sym is) ∣ All-push IsTakable es e (takable_each es h) t ∣₁

-- after a push that may have wanted memory
pub takable_pushed : {A E : Type 0} (r : Result A E) (es fs : List (Entry Heard)) (e : Entry Heard) → ∥ AreTakable es ∥₁ → IsTakable e → OnOk r (fs ≡ es ++ e ∷ []) → OnErr r (fs ≡ es) → ∥ AreTakable fs ∥₁
takable_pushed (Ok x) es fs e h t ok err = takable_more es fs e h t ok
takable_pushed (Err x) es fs e h t ok err = subst (λ l. ∥ AreTakable l ∥₁) (sym err) h
