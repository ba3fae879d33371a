use Rattle.std.proofs.Common.{◌++◌, ◌∷◌, [], subst, sym}
use Rattle.command_blocks.specs.Scripts.{Over}
use Rattle.passes.specs.Passes.{PassHad, tag_now}
use Rattle.passes.proofs.Telling.{goes_on, is_over, with_call}
use Rattle.passes.proofs.terms.Terms.tried.Goals as goal

pub returns-in-Next-clause-tells : goal.returns-in-Next-clause-tells
returns-in-Next-clause-tells c calls last e (tries, h, so) =
    subst (λ s. PassHad (calls ++ last ∷ []) s) (sym c.at.ensures) (
      tries ++ last ∷ [],
      with_call c.args.returns.tags c.args.returns.counts tries calls last h,
      goes_on (tag_now c.args.returns) c.args.trying tries last c.args.answer.now e c.in_ok-trying.field-0 so (c.in_ok-trying.ensures.left Over Over) (c.in_ok-trying.ensures.tells (tag_now c.args.returns) tries last e so.had) c.in-Next.trying c.in-Next.is,
    )

pub returns-in-Over-clause-tells : goal.returns-in-Over-clause-tells
returns-in-Over-clause-tells c calls last e (tries, h, so) =
    c.returned.ensures.had (calls ++ last ∷ []) (
      tries ++ last ∷ [],
      with_call c.args.returns.tags c.args.returns.counts tries calls last h,
      is_over (tag_now c.args.returns) c.args.trying tries last c.args.answer.now e c.in_ok-trying.field-0 so (c.in_ok-trying.ensures.left Over Over) (c.in_ok-trying.ensures.tells (tag_now c.args.returns) tries last e so.had) c.in-Over.end c.in-Over.is,
    )
