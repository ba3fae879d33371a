use Rattle.std.proofs.Common.{◌≡◌, take}
use Rattle.pool_book.specs.Books.{ids_of}
use Rattle.pool_book.proofs.pool_book.ids_of.Given as goal

-- the ids so far are those of the deliveries so far
abbrev pub invariant-loop-delivery : goal.invariant-loop-delivery
invariant-loop-delivery l = l.ids ≡ ids_of (take l.delivery-index l.deliveries)
