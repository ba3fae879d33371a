use Rattle.std.proofs.lemmas.Result.{on_ok_weaker}
use Rattle.store_lists.proofs.Expiries.{ends_none, ends_some}
use Rattle.store_lists.proofs.texts.end_at.Goals as goal

pub returns-in_default : goal.returns-in_default
returns-in_default c = ends_none c.args.keys.now c.remove.new.self c.args.key c.args.moment c.in_default.ensures.held c.remove.ensures.removed

pub returns : goal.returns
returns c = on_ok_weaker c.insert.result (λ put. ends_some c.args.keys.now c.remove.new.self c.insert.new.self c.args.key c.args.moment c.in-Some.held
    c.in-Some.ensures.held c.remove.ensures.removed put) c.insert.ensures
