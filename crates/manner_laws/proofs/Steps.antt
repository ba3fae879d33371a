-- What can follow each thing that is asked.
use Rattle.std.proofs.Common.{◌≡◌, ℕ, ℤ, suc, ◌<◌, List, [], ◌∷◌, false, Some, None}
use Rattle.wire_values.specs.declared.value.Value.{Value}
use Rattle.wire_values.specs.declared.value.Value.TheVariants.{Integer, Bulk, NullBulk, Array, NullArray}
use Rattle.store_model.specs.Replies.{done, queued, pair, bulks}
use Rattle.store_model.specs.Words.{Words}
use Rattle.queue_keys.specs.Names.{Bytes}
use Rattle.queue_keys.specs.Texts.{token}
use Rattle.command_blocks.specs.Answers.{integers, is_error}
use Rattle.command_blocks.specs.Setting.{Setting}
use Rattle.command_blocks.specs.Calls.{call}
use Rattle.command_blocks.specs.ReturnBlocks.{Carries}
use Rattle.command_blocks.specs.PassBlocks.{tags_among}
use Rattle.manner_laws.specs.Spots.{Job, job_tag, Spot, Free, Listed, Popped, Waiting, Leaving, Asking, Locked, Turning, Release_own, Release_foreign, finished, gave_up, routed, Ask, Count, Consent, Queueing, Counts, Anything, Bindings, Message, Entry, Routes, Move, Lock, Due, Holder, Release}
use Rattle.manner_laws.specs.Machine.{Asks, TellsSpot, Counted, Consented, Was_queued, Counted_both, Answered, Bound, Nothing_there, Unreadable, Readable, Missing, Useless, Unnamed, Named, Looked_up, Moved, Failed, Contended, Taken, Given, Members, Own, Foreign, Nobody, Released, Altered, Goes}

module _ (σ : Setting) (s : ℕ) where
  pub by : {c mid : Spot} {a : ℕ} {w : Words} {q : Ask} {r : Value} → Asks σ s c a w q → TellsSpot σ s q r mid → Goes σ s c (call a w r) mid
  by {q = q} asks tells = record { ask = q; asks = asks; tells = tells }

  pub on_count : (P : Value → Spot → Type 0) (c : Spot) → ((z : ℤ) → P (Integer z) c) → (r : Value) (c' : Spot) → TellsSpot σ s (Count c) r c' → P r c'
  on_count P c f r c' (Counted d z) = f z

  pub on_consent : (P : Value → Spot → Type 0) (c : Spot) → P done c → (r : Value) (c' : Spot) → TellsSpot σ s (Consent c) r c' → P r c'
  on_consent P c f r c' (Consented d) = f

  pub on_queueing : (P : Value → Spot → Type 0) (c : Spot) → P queued c → (r : Value) (c' : Spot) → TellsSpot σ s (Queueing c) r c' → P r c'
  on_queueing P c f r c' (Was_queued d) = f

  pub on_counts : (P : Value → Spot → Type 0) (c : Spot) → ((x y : ℤ) → P (integers (x ∷ y ∷ [])) c) → (r : Value) (c' : Spot) → TellsSpot σ s (Counts c) r c' → P r c'
  on_counts P c f r c' (Counted_both d x y) = f x y

  pub on_anything : (P : Value → Spot → Type 0) (c : Spot) → ((r : Value) → is_error r ≡ false → P r c) → (r : Value) (c' : Spot) → TellsSpot σ s (Anything c) r c' → P r c'
  on_anything P c f r c' (Answered d r' right) = f r' right

  pub on_bindings : (P : Value → Spot → Type 0) (n p : ℕ) (e : Bytes) → ((ms : List Bytes) → P (bulks ms) (Listed n p e ms)) → (r : Value) (c' : Spot) → TellsSpot σ s (Bindings n p e) r c' → P r c'
  on_bindings P n p e f r c' (Bound n' p' e' ms) = f ms

  pub on_message : (P : Value → Spot → Type 0) (n p : ℕ) → P NullArray (Free n p) → ((q v : Bytes) → σ.tag_of v ≡ None → P (pair q v) (Free n p)) → ((q v t : Bytes) → σ.tag_of v ≡ Some t → P (pair q v) (Popped n p v t))
      → (r : Value) (c' : Spot) → TellsSpot σ s (Message n p) r c' → P r c'
  on_message P n p f g h r c' (Nothing_there n' p') = f
  on_message P n p f g h r c' (Unreadable n' p' q v none) = g q v none
  on_message P n p f g h r c' (Readable n' p' q v t tag) = h q v t tag

  pub on_entry : (P : Value → Spot → Type 0) (n p : ℕ) (j : Job) (k : ℕ) → P NullBulk (Leaving n p j) → ((u : Bytes) → ((v : Bytes) → Carries σ u (job_tag j) v → ⊥) → P (Bulk u) (Leaving n p j))
      → ((u v : Bytes) → Carries σ u (job_tag j) v → σ.exchange_in u ≡ None → P (Bulk u) (routed n p j k v (σ.keys_in u [])))
      → ((u v e : Bytes) → Carries σ u (job_tag j) v → σ.exchange_in u ≡ Some e → P (Bulk u) (Asking n p j k u v e))
      → (r : Value) (c' : Spot) → TellsSpot σ s (Entry n p j k) r c' → P r c'
  on_entry P n p j k f g h i r c' (Missing n' p' j' k') = f
  on_entry P n p j k f g h i r c' (Useless n' p' j' k' u useless) = g u useless
  on_entry P n p j k f g h i r c' (Unnamed n' p' j' k' u v carries none) = h u v carries none
  on_entry P n p j k f g h i r c' (Named n' p' j' k' u v e carries some) = i u v e carries some

  pub on_routes : (P : Value → Spot → Type 0) (n p : ℕ) (j : Job) (k : ℕ) (u v : Bytes) → ((ms : List Bytes) → P (bulks ms) (routed n p j k v (σ.keys_in u ms))) → (r : Value) (c' : Spot) → TellsSpot σ s (Routes n p j k u v) r c' → P r c'
  on_routes P n p j k u v f r c' (Looked_up n' p' j' k' u' v' ms) = f ms

  pub on_move : (P : Value → Spot → Type 0) (n p : ℕ) (j : Job) (k : ℕ) → ((zs : List ℤ) → P (integers zs) (finished n p j)) → (k < 7 → P NullArray (Waiting n p j (suc k))) → (k ≡ 7 → P NullArray (gave_up n p j))
      → (r : Value) (c' : Spot) → TellsSpot σ s (Move n p j k) r c' → P r c'
  on_move P n p j k f g h r c' (Moved n' p' j' k' zs) = f zs
  on_move P n p j k f g h r c' (Failed n' p' j' k' lt) = g lt
  on_move P n p j k f g h r c' (Contended n' p' j' k' is) = h is

  pub on_lock : (P : Value → Spot → Type 0) (n p : ℕ) → P NullBulk (Free n (suc p)) → P done (Locked n p) → (r : Value) (c' : Spot) → TellsSpot σ s (Lock n p) r c' → P r c'
  on_lock P n p f g r c' (Taken n' p') = f
  on_lock P n p f g r c' (Given n' p') = g

  pub on_due : (P : Value → Spot → Type 0) (n p : ℕ) → ((ms : List Bytes) → P (bulks ms) (Turning n p (tags_among σ ms))) → (r : Value) (c' : Spot) → TellsSpot σ s (Due n p) r c' → P r c'
  on_due P n p f r c' (Members n' p' ms) = f ms

  pub on_holder : (P : Value → Spot → Type 0) (n p : ℕ) → P (Bulk (token s (suc p))) (Release_own n p) → ((u : Bytes) → (u ≡ token s (suc p) → ⊥) → P (Bulk u) (Release_foreign n p)) → P NullBulk (Release_foreign n p)
      → (r : Value) (c' : Spot) → TellsSpot σ s (Holder n p) r c' → P r c'
  on_holder P n p f g h r c' (Own n' p') = f
  on_holder P n p f g h r c' (Foreign n' p' u other) = g u other
  on_holder P n p f g h r c' (Nobody n' p') = h

  pub on_release : (P : Value → Spot → Type 0) (n p : ℕ) → ((rs : List Value) → P (Array rs) (Free n (suc p))) → P NullArray (Free n (suc p)) → (r : Value) (c' : Spot) → TellsSpot σ s (Release n p) r c' → P r c'
  on_release P n p f g r c' (Released n' p' rs) = f rs
  on_release P n p f g r c' (Altered n' p') = g
