use Rattle.std.proofs.Common.{◌≡◌, length}
use Rattle.manner_laws.specs.Cursor.{all_integers}
use Rattle.client_answers.proofs.values.all_integers.Given as goal

-- those that are left tell it
abbrev pub invariant-values : goal.invariant-values
invariant-values l = all_integers l.fn.values ≡ all_integers l.left

abbrev pub decreases-values : goal.decreases-values
decreases-values l = length l.left
