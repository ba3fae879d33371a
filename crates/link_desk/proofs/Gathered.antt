-- Pushed values, one after the other, and what ends them.
use Rattle.std.proofs.Common.{List, Ok, Err, Option, [], append-nil, arith, length, length-append, subst, sym, true, ℕ, ◌++◌, ◌≤◌, ◌∷◌, ◌≡◌}
use Rattle.wire_values.specs.declared.value.Value.{Value}
use Rattle.resp_wire.specs.Stands.{Stands}
use Rattle.resp_wire.specs.declared.decoder.Decoder.{Decoder}
use Rattle.desks.specs.declared.desk.DeskFault.{DeskFault}
use Rattle.desks.specs.declared.desk.DeskFault.TheVariants.{Closed, Ended, Flood, Full, Link, Memory, Wire}
use Rattle.link_desk.specs.CarriesLaws.{come_joins, come_none}
use Rattle.link_desk.specs.Hearings.{GathersReply, HasCome, HasNoReply, HasValue, KeepsPushed}
use Rattle.link_desk.specs.PushedValues.{ArePushed, is_pushed, pushed_limit}

-- one pushed value more
pub pushed_more : (vs : List Value) (v : Value) → ArePushed vs → is_pushed v ≡ true → ArePushed (vs ++ v ∷ [])
pushed_more [] v a b = (b, tt)
pushed_more (w ∷ vs) v a b = (a.0, pushed_more vs v a.1 b)

-- pushed values came, and nothing else
abbrev pub HasGathered : ℕ → List ℕ → Option (List ℕ) → Option (List ℕ) → Decoder → List Value → Type 0
HasGathered before rest a b d vs = (from : ℕ) × (left : List ℕ) × HasCome before rest a b vs from left × Stands d from left

-- none yet
pub gathered_none : (before : ℕ) (rest : List ℕ) (a : Option (List ℕ)) (d : Decoder) (vs : List Value) → vs ≡ [] → Stands d before rest → HasGathered before rest a a d vs
gathered_none before rest a d vs none stands = subst (HasGathered before rest a a d) (sym none) (before, rest, come_none before rest a, stands)

module _ (before : ℕ) (rest : List ℕ) (a b c : Option (List ℕ)) (d e : Decoder) (vs : List Value) (g : HasGathered before rest a b d vs) where
  -- a value came behind them
  came_behind : (v : Value) → HasValue g.0 g.1 b c e (Ok v) → HasGathered before rest a c e (vs ++ v ∷ [])
  came_behind v n = (n.0, n.1, come_joins before rest a b c vs g.0 g.1 (v ∷ []) n.0 n.1 g.2 n.2, n.3)

  module _ (v : Value) (came : (before : ℕ) (rest : List ℕ) → Stands d before rest → HasValue before rest b c e (Ok v)) where
    -- one more that was kept
    pub gathered_more : (ws : List Value) → ws ≡ vs ++ v ∷ [] → HasGathered before rest a c e ws
    gathered_more ws is = subst (HasGathered before rest a c e) (sym is) (came_behind v (came g.0 g.1 g.3))

    -- one that isn't pushed
    pub gathered_whole : GathersReply before rest a c e vs (Ok v)
    gathered_whole = came_behind v (came g.0 g.1 g.3)

    -- one that wasn't kept
    pub gathered_over : (ws : List Value) (f : DeskFault) → ArePushed vs → length vs ≤ pushed_limit → is_pushed v ≡ true → KeepsPushed vs ws v (Err f) → HasNoReply before rest a c f
    gathered_over ws Flood pushed few is k =
        let h = came_behind v (came g.0 g.1 g.3) in
        record { values = vs ++ v ∷ []; from = h.0; left = h.1; come = h.2; pushed = pushed_more vs v pushed is; why = omega (arith, few, k.1, length-append vs (v ∷ [])) }
    gathered_over ws Memory pushed few is k =
        let h = came_behind v (came g.0 g.1 g.3) in
        record { values = vs ++ v ∷ []; from = h.0; left = h.1; come = h.2; pushed = pushed_more vs v pushed is; why = (omega (arith, k, length-append vs (v ∷ [])), tt) }
    gathered_over ws Link pushed few is k = absurd k
    gathered_over ws (Wire kind place) pushed few is k = absurd k
    gathered_over ws (Full entries bytes) pushed few is k = absurd k
    gathered_over ws Closed pushed few is k = absurd k
    gathered_over ws Ended pushed few is k = absurd k

  -- no value came behind them
  pub gathered_cut : (f : DeskFault) → ((before : ℕ) (rest : List ℕ) → Stands d before rest → HasValue before rest b c e (Err f)) → ArePushed vs → length vs ≤ pushed_limit → HasNoReply before rest a c f
  gathered_cut f came pushed few = by f (came g.0 g.1 g.3) where
    joined : (from : ℕ) (left : List ℕ) → HasCome g.0 g.1 b c [] from left → HasCome before rest a c vs from left
    joined from left n = subst (λ l. HasCome before rest a c l from left) (append-nil vs) (come_joins before rest a b c vs g.0 g.1 [] from left g.2 n)

    by : (f : DeskFault) → HasValue g.0 g.1 b c e (Err f) → HasNoReply before rest a c f
    by Link n = record { values = vs; from = n.0; left = n.1; come = joined n.0 n.1 n.2; pushed = pushed; why = (few, n.3) }
    by (Wire kind place) n = record { values = vs; from = n.0; left = n.1; come = joined n.0 n.1 n.2; pushed = pushed; why = (few, n.3) }
    by Memory n = record { values = vs; from = n.0; left = n.1; come = joined n.0 n.1 n.2; pushed = pushed; why = (few, tt) }
    by Flood n = absurd n.3
    by (Full entries bytes) n = absurd n.3
    by Closed n = absurd n.3
    by Ended n = absurd n.3
