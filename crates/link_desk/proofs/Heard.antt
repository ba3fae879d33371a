-- What came over a link, by what a call of it or of the decoder answered.
use Rattle.std.proofs.Common.{List, Ok, Err, Option, None, Some, [], append-nil, append_assoc, length, refl, subst, sym, ℕ, ◌+◌, ◌++◌, inl, inr}
use Rattle.std.specs.Io.KnownBytes.{Appends}
use Rattle.std.proofs.KnownBytes.{Appends-kept, Appends-nil, Appends-trans}
use Rattle.wire_values.specs.declared.value.Value.{Value}
use Rattle.resp_wire.specs.Stands.{HasNext, Stands}
use Rattle.resp_wire.specs.declared.decoder.Decoder.{Decoder}
use Rattle.resp_wire.specs.declared.decoder.WireFault.{WireFault}
use Rattle.resp_wire.specs.declared.decoder.WireFault.TheVariants as decoder
use Rattle.desks.specs.declared.desk.DeskFault.{DeskFault}
use Rattle.desks.specs.declared.desk.DeskFault.TheVariants.{Closed, Ended, Flood, Full, Link, Memory, Wire}
use Rattle.link_desk.specs.Hearings.{HasPiece, HasValue, IsFaultAt, IsWanted}

-- pieces came, and none of them ended a value
abbrev pub HasWaited : ℕ → List ℕ → Option (List ℕ) → Option (List ℕ) → Decoder → Type 0
HasWaited before rest a b d = (stream : List ℕ) × Appends a b stream × Stands d before (rest ++ stream) × IsWanted rest stream

module _ (before : ℕ) (rest : List ℕ) (a b c : Option (List ℕ)) (d e n : Decoder) (w : HasWaited before rest a b d) where
  -- one piece more
  pub waited_more : HasNext before (rest ++ w.0) e (Ok None) → ((before : ℕ) (rest : List ℕ) → Stands e before rest → HasPiece before rest b c n (Ok tt)) → HasWaited before rest a c n
  waited_more next more =
      let p = more before (rest ++ w.0) next.1 in
      (w.0 ++ p.0, Appends-trans a b c w.0 p.0 w.1 p.2, subst (λ l. Stands n before l) (append_assoc rest w.0 p.0) p.3, inr (w.0, p.0, refl, next.0))

  -- then a value was whole
  pub value_came : (v : Value) → HasNext before (rest ++ w.0) e (Ok (Some v)) → HasValue before rest a b e (Ok v)
  value_came v next =
      (before + length next.0, next.1, record { stream = w.0; came = w.1; leads = (next.0, next.1, next.2, next.3, (refl, refl)) }, next.4, w.3)

  -- or what came is wrong, or there was no memory
  pub value_wrong : (f : WireFault) (fault : DeskFault) → HasNext before (rest ++ w.0) e (Err f) → IsFaultAt f fault → HasValue before rest a b e (Err fault)
  value_wrong (decoder.Bad kind place) fault next is =
      subst (λ x. HasValue before rest a b e (Err x)) (sym is) (before, rest ++ w.0, record { stream = w.0; came = w.1; leads = (refl, refl) }, next.0)
  value_wrong decoder.Memory fault next is =
      subst (λ x. HasValue before rest a b e (Err x)) (sym is) (before, rest ++ w.0, record { stream = w.0; came = w.1; leads = (refl, refl) }, tt)

  -- or the link gave no more of it
  pub value_cut : (fault : DeskFault) → HasNext before (rest ++ w.0) e (Ok None) → HasPiece before (rest ++ w.0) b c n (Err fault) → HasValue before rest a c n (Err fault)
  value_cut Link next p = (before, rest ++ w.0, record { stream = w.0; came = Appends-kept a b c w.0 w.1 p; leads = (refl, refl) }, next.0)
  value_cut Memory next p = (before, rest ++ (w.0 ++ p.0), record { stream = w.0 ++ p.0; came = Appends-trans a b c w.0 p.0 w.1 p.1; leads = (refl, refl) }, tt)
  value_cut (Wire kind place) next p = absurd p
  value_cut Flood next p = absurd p
  value_cut (Full entries bytes) next p = absurd p
  value_cut Closed next p = absurd p
  value_cut Ended next p = absurd p

-- nothing came yet
pub waited_none : (before : ℕ) (rest : List ℕ) (a : Option (List ℕ)) (d : Decoder) → Stands d before rest → HasWaited before rest a a d
waited_none before rest a d stands = ([], Appends-nil a, subst (λ l. Stands d before l) (sym (append-nil rest)) stands, inl refl)
