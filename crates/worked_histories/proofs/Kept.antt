-- Histories of three clients are sound where the store over lists gives their replies and the cursor judges each client mannered.
use Rattle.std.proofs.Common.{◌≡◌, inl, inr, ℕ, ◌<◌, List, [], ◌∷◌, Bool, true, false, refl, sym, subst, arith, nat_lt}
use Rattle.std.proofs.lemmas.Grind.{common_steps}
use Rattle.std.specs.Prelude.{◌&&◌}
use Rattle.queue_keys.specs.Layouts.{plain}
use Rattle.queue_keys.specs.Names.{same}
use Rattle.queue_keys.specs.QueueKeys.{Among}
use Rattle.command_blocks.specs.Blocks.{IsMannered}
use Rattle.command_blocks.specs.Calls.{Call}
use Rattle.command_blocks.specs.Setting.{IsLawful, Setting}
use Rattle.place_model.specs.Histories.{calls_of, IsTable}
use Rattle.place_model.specs.Starts.{IsSound}
use Rattle.place_model.specs.declared.heard.Heard.{Heard}
use Rattle.place_model.specs.declared.history.Entry.{Entry}
use Rattle.place_theorem.proofs.EmptyStart.{empty_start}
use Rattle.manner_laws.specs.Spots.{Spot}
use Rattle.manner_laws.specs.Cursor.{At, cursor_of, IsReadable, HaveMomentsOf64Bits}
use Rattle.manner_laws.specs.LayoutKeys.{exchange_of_key}
use Rattle.manner_laws.proofs.Judged.{at_front}
use Rattle.worked_histories.specs.Rows.{clients, worked}
use Rattle.worked_histories.proofs.Played.{empty_desk, legal, may_play, replayed}

-- ---- calls that the cursor judges mannered

abbrev early : List Call → Bool
early [] = true
early (x ∷ xs) = nat_lt x.at 1000 && early xs

have_moments : (l : List Call) → early l ≡ true → HaveMomentsOf64Bits l
have_moments [] h = tt
have_moments (x ∷ xs) h = by (nat_lt x.at 1000) refl h (have_moments xs) where
  by : (b : Bool) → nat_lt x.at 1000 ≡ b → (b && early xs) ≡ true → (early xs ≡ true → HaveMomentsOf64Bits xs) → HaveMomentsOf64Bits (x ∷ xs)
  by true e h go = (let less : x.at < 1000 = grind (arith, common_steps, e) in omega (arith, less), go h)
  by false e h go = absurd (cc h)

pub judged : (σ : Setting) → IsLawful σ → IsReadable σ (exchange_of_key plain) → (s : ℕ) (l : List Call) (c : Spot) → early l ≡ true → cursor_of σ (exchange_of_key plain) s l ≡ At c → IsMannered σ s l
judged σ lawful read s l c soon is = inl (at_front σ (exchange_of_key plain) lawful read s l c is)

-- ---- three clients

table : IsTable clients []
table = record { connections_differ = grind (arith, common_steps); seeds_differ = grind (arith, common_steps); unused = (tt, (tt, (tt, tt))) }

-- what is so of each of the three is so of each client of the table
each_client : (P : ℕ → ℕ → Type 0) → P 1 7 → P 2 8 → P 3 9 → (c s : ℕ) → Among (c, s) clients → P c s
each_client P a b d c s (inl e) = subst (λ z. P z.0 z.1) (sym e) a
each_client P a b d c s (inr (inl e)) = subst (λ z. P z.0 z.1) (sym e) b
each_client P a b d c s (inr (inr (inl e))) = subst (λ z. P z.0 z.1) (sym e) d
each_client P a b d c s (inr (inr (inr none))) = absurd none

pub sound : (σ : Setting) (es : List (Entry Heard)) → may_play clients empty_desk es ≡ true → replayed empty_desk es ≡ es → IsMannered σ 7 (calls_of 1 es) → IsMannered σ 8 (calls_of 2 es) → IsMannered σ 9 (calls_of 3 es) → IsSound σ (worked es)
sound σ es may same a b d = record {
  start = empty_start σ;
  table = table;
  legal = legal clients es may same;
  mannered = each_client (λ c s. IsMannered σ s (calls_of c es)) a b d;
}
