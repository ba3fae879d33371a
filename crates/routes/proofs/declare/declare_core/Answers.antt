use Rattle.std.proofs.Common.{◌∙◌, refl}
use Rattle.routes.specs.Declares.{declaration_plan}
use Rattle.routes.proofs.Declares.{declared_left, lawful_declaration}
use Rattle.routes.proofs.declare.declare_core.Goals as goal

pub returns-clause-left : goal.returns-clause-left
returns-clause-left c = λ s p. c.new.ensures.left ∙ declared_left c.args.declaration s p

pub returns-clause-lawful : goal.returns-clause-lawful
returns-clause-lawful c = λ s n. lawful_declaration c.args.declaration s n c.bytes-queue.ensures.lawful

pub returns-clause-traced : goal.returns-clause-traced
returns-clause-traced c = λ s p. c.new.ensures.traced s p (declaration_plan c.args.declaration) (declared_left c.args.declaration s p) refl
