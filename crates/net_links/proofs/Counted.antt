-- How a call that failed is counted, and what a receive took.
use Rattle.std.proofs.Common.{◌≡◌, ◌≤◌, ◌+◌, ◌-◌, ◌<◌, ℕ, zero, suc, Result, Ok, Err, List, ◌++◌, arith, refl, take, drop, length, sym, ap, ◌∙◌, take-append-drop, length-drop, subst, Bool, false}
use Rattle.std.proofs.lemmas.List.{length-take-le}
use Rattle.std.proofs.Math.Seq.{take-append_seam, take-append-add, drop-drop}
use Rattle.net_links.specs.MemoryForms.{MemoryLinkView, link_fails, received_count, after_receive, ends_by, gains_by}
use Rattle.links.specs.Counts.{raised}
use Rattle.links.specs.Causes.{HasCause, Rose}
use Rattle.net_links.specs.NetCauses.{HasGained}
use Rattle.links.specs.declared.traits.Failed.{Failed as failed}

pub link_failed : (T : Type 0) (before now : ℕ) → before ≤ now → Rose before now → HasCause {T = T} {E = failed} before now (Err record {})
link_failed T before now le rose = record { later = le; failed = rose; kept = tt }

take_more_bytes : (at n : ℕ) (bytes : List ℕ) → at ≤ length bytes → take (at + n) bytes ≡ take at bytes ++ take n (drop at bytes)
take_more_bytes at n bytes within =
    ap (λ l. take (at + n) l) (sym (take-append-drop at bytes))
    ∙ ap (λ m. take (m + n) (take at bytes ++ drop at bytes)) (sym (length-take-le at bytes within))
    ∙ take-append-add (take at bytes) (drop at bytes) n

-- what a receive of n bytes at a place adds to what was received
pub received_piece : (bytes copied rest : List ℕ) (at n : ℕ) → at + n ≤ length bytes → copied ≡ take n (drop at bytes) → take (at + n) bytes ≡ take at bytes ++ take n (copied ++ rest)
received_piece bytes copied rest at n within is =
    let long : length copied ≡ n = ap length is ∙ length-take-le n (drop at bytes) (omega (arith, length-drop at bytes)) in
    let front : take n (copied ++ rest) ≡ copied = ap (λ k. take k (copied ++ rest)) (sym long) ∙ take-append_seam copied rest in
    take_more_bytes at n bytes (omega (arith, within)) ∙ ap (λ l. take at bytes ++ l) (sym (front ∙ is))

-- a link that gave the first bytes of these
abbrev at_place : List ℕ → ℕ → List ℕ → ℕ → List ℕ → ℕ → ℕ → ℕ → ℕ → MemoryLinkView
at_place bytes at sent piece fails calls faults ends gains = record { left = drop at bytes; received = take at bytes; sent = sent; piece = piece; fails = fails; calls = calls; faults = faults; ends = ends; gains = gains }

-- a link after a receive that didn't fail
pub received_view : (bytes : List ℕ) (at : ℕ) (sent : List ℕ) (piece : ℕ) (fails : List ℕ) (calls faults ends gains room n calls2 ends2 gains2 : ℕ) (l : MemoryLinkView)
    → at ≤ length bytes → at_place bytes at sent piece fails calls faults ends gains ≡ l → link_fails l ≡ false → n ≡ received_count l room → calls2 ≡ raised calls → ends2 ≡ ends_by n room ends → gains2 ≡ gains_by n gains
    → at_place bytes (at + n) sent piece fails calls2 faults ends2 gains2 ≡ after_receive l room
received_view bytes at sent piece fails calls faults ends gains room n calls2 ends2 gains2 l within is f r c e g =
    subst (λ l. link_fails l ≡ false → n ≡ received_count l room → at_place bytes (at + n) sent piece fails calls2 faults ends2 gains2 ≡ after_receive l room) is
    (λ f r. rw f (whole ∙ ap gave r)) f r where
      gave : ℕ → MemoryLinkView
      gave m = record { left = drop m (drop at bytes); received = take at bytes ++ take m (drop at bytes); sent = sent; piece = piece; fails = fails; calls = raised calls; faults = faults; ends = ends_by m room ends; gains = gains_by m gains }

      whole : at_place bytes (at + n) sent piece fails calls2 faults ends2 gains2 ≡ gave n
      whole = λ i. record { left = sym (drop-drop n at bytes) i; received = take_more_bytes at n bytes within i; sent = sent; piece = piece; fails = fails; calls = c i; faults = faults; ends = e i; gains = g i }

pub gained : (n before now : ℕ) → (n ≡ 0 → now ≡ before) → (0 < n → now ≡ raised before) → HasGained {E = failed} before now (Ok n)
gained zero before now none some = none refl
gained (suc n) before now none some = some (omega arith)
