use Rattle.std.proofs.Common.{◌≡◌, suc, refl, arith, rules}
use Rattle.client_core.proofs.Beginning.{pass_began}
use Rattle.client_core.proofs.client.ClientCore.pass.Goals as goal

pub returns : goal.returns
returns c =
    let e : c.in-Some.number ≡ suc c.args.self.now.passes = first_of (search rules, omega arith) in
    pass_began c.args.self.now c.take_up.new.self _ c.args.visibility c.in-Some.number c.passing.result c.requires.idle c.in_ok-take_up.ensures e c.passing.ensures refl
