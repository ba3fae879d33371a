-- It is decided whether calls are a front of blocks: the cursor of a client tells.
use Rattle.std.proofs.Common.{◌≡◌, ◌⊎◌, inl, inr, arith, refl, sym, ◌∙◌, List, [], ◌∷◌, Option}
use Rattle.queue_keys.specs.Names.{Bytes}
use Rattle.command_blocks.specs.Setting.{Setting, IsLawful}
use Rattle.command_blocks.specs.Calls.{Call}
use Rattle.command_blocks.specs.Blocks.{IsFrontOfBlocks}
use Rattle.manner_laws.specs.Spots.{Spot}
use Rattle.manner_laws.specs.Cursor.{Cursor, At, Unlisted, Unmannered, cursor_of, IsReadable, HaveMomentsOf64Bits as HaveMoments}
use Rattle.manner_laws.proofs.Judged.{front_at, at_front}
use Rattle.block_laws.specs.Rows.{AreTimely}
use Rattle.schedule_laws.proofs.Kept.{DecidesFronts}

have_moments : (l : List Call) → AreTimely l → HaveMoments l
have_moments [] t = tt
have_moments (x ∷ xs) t = (let h = t.0 in omega (arith, h), have_moments xs t.1)

pub fronts_decided : (σ : Setting) (exchange_at : Bytes → Option Bytes) → IsLawful σ → IsReadable σ exchange_at → DecidesFronts σ
fronts_decided σ exchange_at lawful readable s l timely = by (cursor_of σ exchange_at s l) refl where
  at_spot : IsFrontOfBlocks σ s l → (c : Spot) × (cursor_of σ exchange_at s l ≡ At c)
  at_spot = front_at σ exchange_at lawful readable s l (have_moments l timely)

  by : (k : Cursor) → cursor_of σ exchange_at s l ≡ k → IsFrontOfBlocks σ s l ⊎ (IsFrontOfBlocks σ s l → ⊥)
  by (At c) e = inl (at_front σ exchange_at lawful readable s l c e)
  by Unlisted e = inr (λ f. let h = at_spot f in let u : Unlisted ≡ At h.0 = sym e ∙ h.1 in absurd (cc u))
  by Unmannered e = inr (λ f. let h = at_spot f in let u : Unmannered ≡ At h.0 = sym e ∙ h.1 in absurd (cc u))
