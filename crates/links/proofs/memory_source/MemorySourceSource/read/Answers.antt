use Rattle.std.proofs.Common.{◌≡◌, arith, ◌≤◌, ◌+◌, length, take, drop, sym, ap}
use Rattle.std.proofs.lemmas.Grind.{common_steps}
use Rattle.links.proofs.Pieces.{read_piece, read_end}
use Rattle.links.proofs.memory_source.MemorySourceSource.read.Goals as goal
use Rattle.links.proofs.memory_source.MemorySourceSource.read.Goals.{else-count-eq0-via-then-count-eq0+else-not-is_empty, else-count-eq0-via-else-count-eq0}

pub returns-else-count-eq0-clause-bytes : goal.returns-else-count-eq0-clause-bytes
returns-else-count-eq0-clause-bytes c =
    let s = c.self.inside in
    let n = c.min-count.result in
    let old_is : c.args.self.now.left ≡ drop s.at s.bytes = sym (ap (λ v. v.left) c.self.view_is) in
    let new_is : c.else-count-eq0.self.left ≡ drop (s.at + n) s.bytes =
    elim c.else-count-eq0.branch [
      | else-count-eq0-via-then-count-eq0+else-not-is_empty w ↦ ap (λ v. v.left) w.self-is
      | else-count-eq0-via-else-count-eq0 w ↦ ap (λ v. v.left) w.self-is
    ] in
    let within : s.at + n ≤ length s.bytes = grind (arith, common_steps) in
    let copied : c.copy_from_slice.new.self ≡ take n (drop s.at s.bytes) = grind (arith, common_steps) in
    rw (old_is, new_is) (read_piece s.bytes _ _ s.at n within copied, λ none room. read_end s.bytes s.at n (grind (arith, common_steps)))
