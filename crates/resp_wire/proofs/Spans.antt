-- What a span means.
use Rattle.std.proofs.Common.{◌≡◌, ℕ, suc, ◌+◌, ◌<◌, List, [], ◌∷◌, ◌++◌, length, get_or, take, drop, sym, ap, ◌∙◌, arith, drop-cons, length-take, length-drop}
use Rattle.std.specs.Prelude.{Option, Some, None, Result, Ok, Err}
use Rattle.wire_values.specs.declared.value.Value.{Value}
use Rattle.resp_wire.specs.declared.decoder.Decoder.{Decoder}
use Rattle.resp_wire.specs.declared.state.Phase.TheVariants.{At}
use Rattle.resp_wire.specs.declared.state.WireSpot.{WireSpot}
use Rattle.resp_wire.specs.declared.state.StepFault.{StepFault}
use Rattle.resp_wire.specs.declared.state.StepFault.TheVariants.{Bad, Memory}
use Rattle.resp_wire.specs.Steps.{Stepped, state, step, StepIs}
use Rattle.resp_wire.specs.Meanings.{wire_goes_on, stepped_on}
use Rattle.resp_wire.specs.Moves.{Advances, IsSpan, ahead_of, unread_of}
use Rattle.resp_wire.proofs.Means.{stepped}

pub span_length : (d : Decoder) (n : ℕ) → IsSpan d n → length (take n (ahead_of d)) ≡ n
span_length d n s = omega (arith, s.within, length-take n (ahead_of d), length-drop d.at d.unread.items)

-- the byte that is read next
abbrev pub byte_of : Decoder → ℕ
byte_of d = get_or d.unread.items d.at 0

pub ahead_byte : (d : Decoder) → 0 < unread_of d → ahead_of d ≡ byte_of d ∷ drop (d.at + 1) d.unread.items
ahead_byte d some = drop-cons d.unread.items d.at 0 (omega (arith, some)) ∙ ap (λ (i : ℕ). byte_of d ∷ drop i d.unread.items) (let e : suc d.at ≡ d.at + 1 = omega arith in e)

pub one_ahead : (d : Decoder) (n : ℕ) → n ≡ 1 → 0 < unread_of d → take n (ahead_of d) ≡ byte_of d ∷ []
one_ahead d n one some = ap (λ (i : ℕ). take i (ahead_of d)) one ∙ ap (take 1) (ahead_byte d some)

pub advanced : (old new : Decoder) (f : WireSpot) (n : ℕ) (r : Result (Option Value) StepFault) → old.core.phase ≡ At f → n ≡ 1 → IsSpan old n → StepIs (step f (state old.core) (byte_of old)) (state new.core) r → Advances old new n r
advanced old new f n (Ok None) e one s is =
    let some : 0 < unread_of old = omega (arith, s.some, s.within) in
    λ p cs. ap (λ (l : List ℕ). wire_goes_on (state old.core) p (l ++ cs)) (one_ahead old n one some) ∙ stepped (state old.core) f (byte_of old) p cs e ∙ ap (λ (t : Stepped). stepped_on t p cs) is ∙ ap (λ (i : ℕ). wire_goes_on (state new.core) (p + i) cs) (sym one)
advanced old new f n (Ok (Some v)) e one s is = ((λ p cs. stepped (state old.core) f (byte_of old) p cs e ∙ ap (λ (t : Stepped). stepped_on t p cs) is.0), is.1, is.2)
advanced old new f n (Err (Bad k)) e one s is = λ p cs. stepped (state old.core) f (byte_of old) p cs e ∙ ap (λ (t : Stepped). stepped_on t p cs) is
advanced old new f n (Err Memory) e one s is = tt
