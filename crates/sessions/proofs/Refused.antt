-- Why a session ends where its desk refused a command.
use Rattle.std.proofs.Common.{Bool, None, Option, Some, ap, false, subst, sym, true, ℕ, ◌∙◌, ◌≡◌}
use Rattle.desks.specs.Faults.{IsFaultOf, IsNotEnded, IsTimely, first_fault}
use Rattle.desks.specs.declared.desk.DeskFault.{DeskFault}
use Rattle.desks.specs.declared.desk.DeskFault.TheVariants.{Closed, Ended, Flood, Full, Link, Memory, Wire}
use Rattle.sessions.specs.Askings.{IsDeskWhy, IsNearFault}
use Rattle.sessions.specs.declared.ends.Why.{Why}

abbrev is_false : Bool → Type 0
is_false true = ⊥
is_false false = Unit {0}

apart : (b : Bool) → b ≡ false → b ≡ true → ⊥
apart b f t = subst (λ x. is_false x) (sym f ∙ t) tt

-- of a desk that isn't remote no fault of a link comes, and of an open one not Ended
is_near : (remote shared : Bool) (a b c d : ℕ) (f : DeskFault) → remote ≡ false → IsNotEnded f → IsFaultOf remote shared a b c d f → IsNearFault shared f
is_near remote shared a b c d Link near timely (is, rose) = absurd (apart remote near is)
is_near remote shared a b c d (Wire kind place) near timely is = absurd (apart remote near is)
is_near remote shared a b c d Flood near timely is = absurd (apart remote near is)
is_near remote shared a b c d (Full entries bytes) near timely is = is
is_near remote shared a b c d Closed near timely is = is
is_near remote shared a b c d Ended near timely is = absurd timely
is_near remote shared a b c d Memory near timely is = tt

-- the first fault that the desk shows is the one that it answered
pub refused : (remote shared : Bool) (fault : Option DeskFault) (stopped : Bool) (fault2 : Option DeskFault) (a b c d : ℕ) (f : DeskFault) (why : Why) → remote ≡ false → fault ≡ None → stopped ≡ false
    → IsTimely fault stopped f → fault2 ≡ first_fault fault f → IsFaultOf remote shared a b c d f → ((k : Bool) → IsNearFault k f → IsDeskWhy k (Some f) why) → IsDeskWhy shared fault2 why
refused remote shared fault stopped fault2 a b c d f why near no_fault no_stop timely first kind says =
    let opened : IsNotEnded f = subst (λ s. IsTimely None s f) no_stop (subst (λ o. IsTimely o stopped f) no_fault timely) in
    let is : fault2 ≡ Some f = first ∙ ap (λ o. first_fault o f) no_fault in
    subst (λ o. IsDeskWhy shared o why) (sym is) (says shared (is_near remote shared a b c d f near opened kind))
