use Rattle.std.proofs.Common.{◌≡◌, length}
use Rattle.std.specs.Cmp.{nat_cmp_total}
use Rattle.std.specs.FinMap.{empty, from_entries, nat_cmp-IsAntisymmetric}
use Rattle.store_model.specs.Connections.{reached}
use Rattle.store_conns.proofs.Refills.{refilled}
use Rattle.store_conns.proofs.conns.tell_all.Given as goal

abbrev pub invariant-loop-number : goal.invariant-loop-number
invariant-loop-number l =
    refilled nat_cmp_total nat_cmp-IsAntisymmetric (reached l.channel l.text) (from_entries l.told.entries) l.all.entries
    ≡ refilled nat_cmp_total nat_cmp-IsAntisymmetric (reached l.channel l.text) empty l.fn.all.entries

abbrev pub decreases-loop-number : goal.decreases-loop-number
decreases-loop-number l = length l.all.entries
