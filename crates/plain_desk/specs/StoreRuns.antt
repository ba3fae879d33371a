-- Runs of a store by one client.
use Rattle.std.specs.Prelude.{Bool, List, None, Option, Some, [], false, refl, true, ℕ, ◌++◌, ◌∷◌, ◌≡◌}
use Rattle.std.proofs.Common.{sym, ◌∙◌, subst}
use Rattle.store_model.specs.Store.{State, apply_of, gone_of}
use Rattle.desks.specs.Deeds.{Deed, DidAsk, DidNote, DidStop}

-- by the deeds of the client of this connection the store comes from one state to another, and each reply is the store's
abbrev pub RunsTo : ℕ → State → List Deed → State → Type 0
RunsTo c s [] t = s ≡ t
RunsTo c s (DidAsk at words reply ∷ l) t = (reply ≡ (apply_of s at c words).1) × RunsTo c (apply_of s at c words).0 l t
RunsTo c s (DidNote heard ∷ l) t = RunsTo c s l t
RunsTo c s (DidStop ∷ l) t = RunsTo c (gone_of s c) l t

-- a run goes on with another
pub RunsTo-joins : (c : ℕ) (s t u : State) (l m : List Deed) → RunsTo c s l t → RunsTo c t m u → RunsTo c s (l ++ m) u
RunsTo-joins c s t u [] m a b = subst (λ x. RunsTo c x m u) (sym a) b
RunsTo-joins c s t u (DidAsk at words reply ∷ l) m a b = (a.0, RunsTo-joins c (apply_of s at c words).0 t u l m a.1 b)
RunsTo-joins c s t u (DidNote heard ∷ l) m a b = RunsTo-joins c s t u l m a b
RunsTo-joins c s t u (DidStop ∷ l) m a b = RunsTo-joins c (gone_of s c) t u l m a b

-- the state of a store that isn't spent
abbrev pub live_state : Bool → State → Option State
live_state false s = Some s
live_state true s = None

-- no command is among the deeds
abbrev pub AsksNothing : List Deed → Type 0
AsksNothing [] = Unit {0}
AsksNothing (DidAsk at words reply ∷ l) = ⊥
AsksNothing (DidNote heard ∷ l) = AsksNothing l
AsksNothing (DidStop ∷ l) = AsksNothing l

-- a store comes by a run to its next state, or is spent in a run; a spent one stays so, and answers no command
abbrev pub LeadsLive : ℕ → Option State → List Deed → Option State → Type 0
LeadsLive c None l t = AsksNothing l × (t ≡ None)
LeadsLive c (Some s) l (Some t) = RunsTo c s l t
LeadsLive c (Some s) l None = (t : State) × RunsTo c s l t

-- so, and the connection stays
abbrev pub LeadsOn : ℕ → Option State → List Deed → ℕ → Option State → Type 0
LeadsOn c s l d t = (d ≡ c) × LeadsLive c s l t

pub LeadsLive-stays : (c : ℕ) (s : Option State) → LeadsLive c s [] s
LeadsLive-stays c None = (tt, refl)
LeadsLive-stays c (Some s) = refl

pub LeadsOn-stays : (c : ℕ) (s : Option State) → LeadsOn c s [] c s
LeadsOn-stays c s = (refl, LeadsLive-stays c s)

AsksNothing-joins : (l m : List Deed) → AsksNothing l → AsksNothing m → AsksNothing (l ++ m)
AsksNothing-joins [] m a b = b
AsksNothing-joins (DidAsk at words reply ∷ l) m a b = absurd a
AsksNothing-joins (DidNote heard ∷ l) m a b = AsksNothing-joins l m a b
AsksNothing-joins (DidStop ∷ l) m a b = AsksNothing-joins l m a b

-- without a command a run goes on from anywhere
RunsTo-idle : (c : ℕ) (s : State) (l : List Deed) → AsksNothing l → (t : State) × RunsTo c s l t
RunsTo-idle c s [] a = (s, refl)
RunsTo-idle c s (DidAsk at words reply ∷ l) a = absurd a
RunsTo-idle c s (DidNote heard ∷ l) a = RunsTo-idle c s l a
RunsTo-idle c s (DidStop ∷ l) a = RunsTo-idle c (gone_of s c) l a

pub LeadsLive-joins : (c : ℕ) (s t u : Option State) (l m : List Deed) → LeadsLive c s l t → LeadsLive c t m u → LeadsLive c s (l ++ m) u
LeadsLive-joins c None t u l m a b =
    let e : LeadsLive c None m u = subst (λ x. LeadsLive c x m u) a.1 b in
    (AsksNothing-joins l m a.0 e.0, e.1)
LeadsLive-joins c (Some s) None u l m a b =
    let i = RunsTo-idle c a.0 m b.0 in
    subst (λ x. LeadsLive c (Some s) (l ++ m) x) (sym b.1) (i.0, RunsTo-joins c s a.0 i.0 l m a.1 i.1)
LeadsLive-joins c (Some s) (Some t) (Some u) l m a b = RunsTo-joins c s t u l m a b
LeadsLive-joins c (Some s) (Some t) None l m a b = (b.0, RunsTo-joins c s t b.0 l m a b.1)

pub LeadsOn-joins : (c d e : ℕ) (s t u : Option State) (l m : List Deed) → LeadsOn c s l d t → LeadsOn d t m e u → LeadsOn c s (l ++ m) e u
LeadsOn-joins c d e s t u l m a b =
    (b.0 ∙ a.0, LeadsLive-joins c s t u l m a.1 (subst (λ k. LeadsLive k t m u) a.0 b.1))
