-- One more message.
use Rattle.std.proofs.Common.{◌≡◌, ℕ, suc, ◌+◌, List, ◌++◌, ap, sym, ◌∙◌, append_assoc, arith}
use Rattle.schedule_maker.specs.Made.{made_message, made_messages}

pub one_more : (front out longer : List ℕ) (n : ℕ) → out ≡ front ++ made_messages n → longer ≡ out ++ made_message (n + 1) → longer ≡ front ++ made_messages (n + 1)
one_more front out longer n e f =
    let next : n + 1 ≡ suc n = omega arith in
    f ∙ ap (λ o. o ++ made_message (n + 1)) e ∙ append_assoc front (made_messages n) (made_message (n + 1))
    ∙ ap (λ m. front ++ (made_messages n ++ made_message m)) next ∙ ap (λ m. front ++ made_messages m) (sym next)
