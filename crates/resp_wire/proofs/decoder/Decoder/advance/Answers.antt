use Rattle.std.proofs.Common.{◌≡◌, ℕ, List, ◌+◌, length, take, sym, ap, ◌∙◌, arith}
use Rattle.resp_wire.specs.Steps.{WireState, state}
use Rattle.resp_wire.specs.Meanings.{wire_goes_on}
use Rattle.resp_wire.specs.Moves.{ahead_of, ran}
use Rattle.resp_wire.proofs.Means.{ran_on}
use Rattle.resp_wire.proofs.Spans.{span_length, advanced}
use Rattle.resp_wire.proofs.decoder.Decoder.advance.Goals as goal

pub returns-in_ok-content-in-Content-clause-means : goal.returns-in_ok-content-in-Content-clause-means
returns-in_ok-content-in-Content-clause-means c =
    let d = c.args.self.now in
    let n = c.args.span in
    let xs : List ℕ = take n (ahead_of d) in
    let l : length xs ≡ n = span_length d n c.requires.span in
    λ p cs. ran_on (state d.core) xs p cs c.in-Content.is (omega (arith, l, c.requires.content c.in-Content.is))
    ∙ ap (λ (i : ℕ). wire_goes_on (ran (state d.core) i xs) (p + i) cs) l
    ∙ ap (λ (s : WireState). wire_goes_on s (p + n) cs) (sym c.in_ok-content-in-Content.ensures.ran)

pub returns-in-At-clause-means : goal.returns-in-At-clause-means
returns-in-At-clause-means c = advanced c.args.self.now c.byte.new.self c.in-At.spot c.args.span c.byte.result c.in-At.is (c.requires.one c.in-At.spot c.in-At.is) c.requires.span c.byte.ensures.step
