use Rattle.moments.proofs.MomentsBack.{moments_back, years_end}
use Rattle.moments.proofs.laws.moments_come_back.Goals as goal

pub returns-clause-back : goal.returns-clause-back
returns-clause-back c = moments_back

pub returns-clause-years : goal.returns-clause-years
returns-clause-years c = years_end
