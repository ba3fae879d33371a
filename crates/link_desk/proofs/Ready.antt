-- Where a decoder stands, after each of its calls.
use Rattle.std.proofs.Common.{List, Ok, Err, Result, Option, None, Some, arith, inl, inr, length, length-append, ℕ, ◌+◌, ◌++◌, ◌<◌, ◌≡◌}
use Rattle.std.specs.Prelude.{⊤}
use Rattle.std.specs.Prelude.{IsErr, OnErr, OnOk}
use Rattle.std.specs.Io.KnownBytes.{Appends}
use Rattle.std.proofs.Math.Logic.{∥∥₁_elim}
use Rattle.std.proofs.Props.{props}
use Rattle.std.specs.declared.alloc.AllocError.{AllocError}
use Rattle.wire_values.specs.declared.value.Value.{Value}
use Rattle.resp_wire.specs.Stands.{HasNext, IsSpentDecoder, Stands}
use Rattle.resp_wire.specs.declared.decoder.Decoder.{Decoder}
use Rattle.resp_wire.specs.declared.decoder.WireFault.{WireFault}
use Rattle.resp_wire.specs.declared.decoder.WireFault.TheVariants as decoder
use Rattle.resp_wire.proofs.Standing.{pending_is}
use Rattle.link_desk.specs.Readiness.{IsReady, wanting}

module _ (d e : Decoder) (h : ∥ IsReady d ∥₁) where
  -- after a value was asked for
  pub ready_next : (result : Result (Option Value) WireFault) → ((before : ℕ) (rest : List ℕ) → Stands d before rest → HasNext before rest e result)
      → (IsSpentDecoder d → (result ≡ Err decoder.Memory) × IsSpentDecoder e) → ∥ IsReady e ∥₁
  ready_next result next spent = ∥∥₁_elim h (hlevel props) (λ r. ∣ by r ∣₁) where
    stood : (before : ℕ) (rest : List ℕ) (result : Result (Option Value) WireFault) → HasNext before rest e result → IsReady e
    stood before rest (Ok (Some v)) n = inr (before + length n.0, n.1, n.4)
    stood before rest (Ok None) n = inr (before, rest, n.1)
    stood before rest (Err (decoder.Bad kind place)) n = inr (before, rest, n.1)
    stood before rest (Err decoder.Memory) n = inl n

    by : IsReady d → IsReady e
    by (inl s) = inl (spent s).1
    by (inr (before, rest, stands)) = stood before rest result (next before rest stands)

  -- after a piece was fed
  pub ready_fed : (piece : List ℕ) (result : Result ⊤ AllocError) → OnOk result ((before : ℕ) (rest : List ℕ) → Stands d before rest → Stands e before (rest ++ piece))
      → OnErr result (IsSpentDecoder e) → (IsSpentDecoder d → IsErr result) → ∥ IsReady e ∥₁
  ready_fed piece (Ok done) on wants spent = ∥∥₁_elim h (hlevel props) (λ r. ∣ by r ∣₁) where
    by : IsReady d → IsReady e
    by (inl s) = let f = spent s in absurd (grind arith)
    by (inr (before, rest, stands)) = inr (before, rest ++ piece, on before rest stands)
  ready_fed piece (Err fault) on wants spent = ∣ inl wants ∣₁

-- an answer is want of memory
abbrev IsWant : Result (Option Value) WireFault → Type 0
IsWant r = r ≡ Err decoder.Memory

-- after a front and a piece fewer bytes are wanting
pub wanting_less : (d e n : Decoder) (a b : Option (List ℕ)) → ∥ IsReady d ∥₁ → ((before : ℕ) (rest : List ℕ) → Stands d before rest → HasNext before rest e (Ok None))
    → (IsSpentDecoder d → IsWant (Ok None) × IsSpentDecoder e)
    → ((before : ℕ) (rest : List ℕ) → Stands e before rest → (piece : List ℕ) × (0 < length piece) × Appends a b piece × Stands n before (rest ++ piece)) → wanting n < wanting d
wanting_less d e n a b h next spent more = ∥∥₁_elim h (hlevel props) by where
  by : IsReady d → wanting n < wanting d
  by (inl s) = let f = (spent s).0 in absurd (grind arith)
  by (inr (before, rest, stands)) =
      let m = next before rest stands in
      let p = more before rest m.1 in
      let x = pending_is d before rest stands in
      let y = pending_is n before (rest ++ p.0) p.3 in
      omega (arith, x, y, length-append rest p.0, p.1, m.0.short)
