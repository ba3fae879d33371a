use Rattle.std.proofs.Common.{◌≡◌, take}
use Rattle.pool_book.specs.Books.{ticket_ids}
use Rattle.pool_book.proofs.pool_book.ticket_ids.Given as goal

-- the ids so far are those of the tickets so far
abbrev pub invariant-loop-ticket : goal.invariant-loop-ticket
invariant-loop-ticket l = l.ids ≡ ticket_ids (take l.ticket-index l.tickets)
