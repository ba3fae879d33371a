-- Where the decoder of a link stands, and what that says of the next value.
use Rattle.std.proofs.Common.{Bool, Err, List, None, Ok, Option, Result, Some, arith, false, length, refl, subst, sym, true, ℕ, ◌+◌, ◌++◌, ◌≡◌, ◌≤◌, ◌∙◌}
use Rattle.std.specs.Prelude.{OnOk}
use Rattle.std.proofs.Math.Logic.{∥∥₁_elim}
use Rattle.std.proofs.Props.{props}
use Rattle.wire_values.specs.declared.value.Value.{Value}
use Rattle.wire_grammar.specs.Fits.{HasSpelling}
use Rattle.wire_grammar.specs.Limits.{depth_limit, value_limit}
use Rattle.wire_spelling.specs.Lengths.{spelled_length}
use Rattle.wire_spelling.proofs.Fitting.{has_spelling, spelling_told}
use Rattle.resp_wire.specs.Stands.{HasNext, Stands}
use Rattle.resp_wire.specs.declared.decoder.Decoder.{Decoder}
use Rattle.desks.specs.Faults.{IsOpen}
use Rattle.desks.specs.declared.desk.DeskFault.{DeskFault}
use Rattle.plain_desk.specs.declared.desk.PlainDesk.{PlainDesk}
use Rattle.sessions.specs.Talkings.{StandsSomewhere}
use Rattle.sessions.specs.declared.talking.Talking.{Talking}
use Rattle.local_links.specs.LocalTalks.{IsReadyAt, Serves}
use Rattle.local_links.specs.declared.link_stage.LinkStage.{LinkStage}
use Rattle.local_links.specs.declared.link_stage.LinkStage.TheVariants.{Asks, Over, Spent}

-- a value that is known to have a spelling has one, which its length tells
spelled_value : (v : Value) → ∥ HasSpelling v ∥₁ → HasSpelling v
spelled_value v h = by (spelled_length v depth_limit) refl where
  by : (o : Option ℕ) → spelled_length v depth_limit ≡ o → HasSpelling v
  by None e = absurd (∥∥₁_elim h (hlevel props) (λ s. let f : None ≡ Some (length s.0) = sym e ∙ spelling_told v s in grind arith))
  by (Some n) e =
      let within : n ≤ value_limit = ∥∥₁_elim h (hlevel props) (λ s. let f : Some n ≡ Some (length s.0) = sym e ∙ spelling_told v s in let g : n ≡ length s.0 = grind arith in omega (arith, g, s.1.1)) in
      has_spelling v n e within

-- the next value has a spelling
pub spelled_next : (d e : Decoder) (v : Value) → ∥ StandsSomewhere d ∥₁ → ((before : ℕ) (rest : List ℕ) → Stands d before rest → HasNext before rest e (Ok (Some v))) → HasSpelling v
spelled_next d e v h next = spelled_value v (∥∥₁_elim h (hlevel props) (λ s. let n = next s.0 s.1 s.2 in ∣ (n.0, n.3) ∣₁))

-- after a value the decoder stands somewhere
pub placed_next : (d e : Decoder) (v : Value) → ∥ StandsSomewhere d ∥₁ → ((before : ℕ) (rest : List ℕ) → Stands d before rest → HasNext before rest e (Ok (Some v))) → ∥ StandsSomewhere e ∥₁
placed_next d e v h next = ∥∥₁_elim h (hlevel props) (λ s. let n = next s.0 s.1 s.2 in ∣ (s.0 + length n.0, n.1, n.4) ∣₁)

-- and where there is none yet
pub placed_none : (d e : Decoder) → ∥ StandsSomewhere d ∥₁ → ((before : ℕ) (rest : List ℕ) → Stands d before rest → HasNext before rest e (Ok None)) → ∥ StandsSomewhere e ∥₁
placed_none d e h next = ∥∥₁_elim h (hlevel props) (λ s. let n = next s.0 s.1 s.2 in ∣ (s.0, s.1, n.1) ∣₁)

-- and after a piece was fed
pub placed_fed : (d e : Decoder) (piece : List ℕ) → ∥ StandsSomewhere d ∥₁ → ((before : ℕ) (rest : List ℕ) → Stands d before rest → Stands e before (rest ++ piece)) → ∥ StandsSomewhere e ∥₁
placed_fed d e piece h on = ∥∥₁_elim h (hlevel props) (λ s. ∣ (s.0, s.1 ++ piece, on s.0 s.1 s.2) ∣₁)

-- whether a desk that shows these takes something
abbrev takes : Option DeskFault → Bool → Bool
takes None false = true
takes None true = false
takes (Some fault) stopped = false

takes_open : (fault : Option DeskFault) (stopped : Bool) → IsOpen fault stopped → takes fault stopped ≡ true
takes_open fault stopped a = subst (λ f. takes f stopped ≡ true) (sym a.no_fault) (subst (λ b. takes None b ≡ true) (sym a.no_stop) refl)

open_takes : (fault : Option DeskFault) (stopped : Bool) → takes fault stopped ≡ true → IsOpen fault stopped
open_takes None false e = record { no_fault = refl; no_stop = refl }
open_takes None true e = absurd (grind arith)
open_takes (Some fault) stopped e = absurd (grind arith)

-- where values are asked the desk is open, and the decoder stands somewhere
pub ready_at : (now : PlainDesk) (sent replies : List ℕ) (t : Talking) (stage : LinkStage) → ∥ ((first : PlainDesk) × Serves first now sent replies t stage) ∥₁ → IsReadyAt stage now t
ready_at now sent replies t Asks h = (
  open_takes now.standing.fault now.standing.stopped (∥∥₁_elim h (hlevel props) (λ s. takes_open now.standing.fault now.standing.stopped s.1.1)),
  ∥∥₁_elim h (hlevel props) (λ s. ∣ (s.1.0.talks.heard.from, s.1.0.talks.heard.rest, s.1.0.talks.stands) ∣₁),
)
ready_at now sent replies t Over h = tt
ready_at now sent replies t Spent h = tt
