use Rattle.std.proofs.Common.{arith}
use Rattle.std.proofs.KnownBytes.{Consumes-trans}
use Rattle.std.proofs.lemmas.Grind.{common_steps}
use Rattle.std.proofs.lemmas.Result.{err_from_is_err_and}
use Rattle.links.proofs.whole.read_pieces.Goals as goal

pub returns-in_err-extend-clause-end : goal.returns-in_err-extend-clause-end
returns-in_err-extend-clause-end g c =
    let p = err_from_is_err_and c.from_residual.result c.from_residual.ensures.1 in
    let read = Consumes-trans _ _ _ _ _ c.more.invariant.1 c.in-Ok.ensures.bytes.0 in
    rw (p.1, p.2) (_, record { consumed = read; within = grind (arith, common_steps); unended = grind arith }, grind arith)
