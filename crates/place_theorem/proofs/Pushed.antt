-- The lists after the pushes of a return.
use Rattle.std.proofs.Common.{List, [], ap, inl, inr, refl, subst, sym, true, ℕ, ◌∙◌, ◌∷◌, ◌≡◌, ◌≢◌}
use Rattle.std.specs.FinMap.{get}
use Rattle.store_model.specs.Commands.{Around, run}
use Rattle.store_model.specs.Connections.{Conns, around, posted}
use Rattle.store_model.specs.Keys.{Keys, value_at, value_of}
use Rattle.store_model.specs.Store.{run_all}
use Rattle.store_laws.proofs.Elements.{lpush_elements, rpush_elements}
use Rattle.store_laws.proofs.Law.{altering, framed}
use Rattle.queue_keys.specs.Names.{Bytes, same}
use Rattle.queue_keys.specs.QueueKeys.{Among, Differ, IsAway}
use Rattle.place_model.specs.Returns.{gain, push_command, push_commands}
use Rattle.command_blocks.specs.Setting.{is_queue}
use Rattle.place_model.specs.Starts.{IsListOrNone, elements_at, elements_of}
use Rattle.command_blocks.specs.declared.side.Side.{Side}
use Rattle.command_blocks.specs.declared.side.Side.TheVariants.{Left, Right}
use Rattle.place_theorem.proofs.Full.{Full, Kinds, QueueKeys}
use Rattle.place_theorem.proofs.Transactions.{push_done}

altering_push : (side : Side) (k v : Bytes) → altering (push_command side k v) ≡ k ∷ []
altering_push Left k v = refl
altering_push Right k v = refl

-- a push leaves the other keys
pub push_away : (e : Around) (m : Keys) (side : Side) (v a k : Bytes) → k ≢ a → get (run e m (push_command side a v)).keys k ≡ get m k
push_away e m side v a k n = (framed e m (push_command side a v)).away k (subst (IsAway k) (sym (altering_push side a v)) (n, tt))

-- so do pushes in a row
pub pushes_away : (at : ℕ) (cs : Conns) (m : Keys) (side : Side) (v k : Bytes) (ks : List Bytes) → IsAway k ks → get (run_all at m cs (push_commands side v ks)).keys k ≡ get m k
pushes_away at cs m side v k [] far = refl
pushes_away at cs m side v k (a ∷ ks) far = pushes_away at (posted (push_command side a v) cs) (run (around at cs) m (push_command side a v)).keys side v k ks far.1 ∙ push_away (around at cs) m side v a k far.0

-- its list gains the bytes
pub push_gains : (e : Around) (m : Keys) (side : Side) (k v : Bytes) → IsListOrNone (value_at m k) → elements_at (run e m (push_command side k v)).keys k ≡ gain side v (elements_at m k)
push_gains e m Left k v is = lpush_elements e m k v is
push_gains e m Right k v is = rpush_elements e m k v is

among_not : (a k : Bytes) (ks : List Bytes) → IsAway a ks → Among k ks → k ≢ a
among_not a k [] far is = absurd is
among_not a k (b ∷ ks) far (inl e) = λ z. far.0 (sym z ∙ e)
among_not a k (b ∷ ks) far (inr is) = among_not a k ks far.1 is

-- each list gains the bytes, once
pub pushes_gain : (σ : Full) (at : ℕ) (cs : Conns) (m : Keys) (side : Side) (v k : Bytes) (ks : List Bytes) → Kinds σ m → QueueKeys σ ks → Differ ks → Among k ks → elements_at (run_all at m cs (push_commands side v ks)).keys k ≡ gain side v (elements_at m k)
pushes_gain σ at cs m side v k [] kinds qs far is = absurd is
pushes_gain σ at cs m side v k (a ∷ ks) kinds qs far (inl same) =
    let e = around at cs in
    let m' = (run e m (push_command side a v)).keys in
    let cs' = posted (push_command side a v) cs in
    let rest : elements_at (run_all at m' cs' (push_commands side v ks)).keys a ≡ elements_at m' a = ap (λ o. elements_of (value_of o)) (pushes_away at cs' m' side v a ks far.0) in
    subst (λ x. elements_at (run_all at m' cs' (push_commands side v ks)).keys x ≡ gain side v (elements_at m x)) (sym same) (rest ∙ push_gains e m side a v (kinds.lists a qs.0))
pushes_gain σ at cs m side v k (a ∷ ks) kinds qs far (inr is) =
    let e = around at cs in
    let m' = (run e m (push_command side a v)).keys in
    let cs' = posted (push_command side a v) cs in
    pushes_gain σ at cs' m' side v k ks (push_done σ e m side a v kinds qs.0).after.kinds qs.1 far.1 is
    ∙ ap (λ o. gain side v (elements_of (value_of o))) (push_away e m side v a k (among_not a k ks far.0 is))

-- each of them is a queue's key
pub among_queue : (σ : Full) (k : Bytes) (qs : List Bytes) → QueueKeys σ qs → Among k qs → is_queue σ.names k ≡ true
among_queue σ k [] h is = absurd is
among_queue σ k (a ∷ qs) h (inl z) = ap (is_queue σ.names) z ∙ h.0
among_queue σ k (a ∷ qs) h (inr is) = among_queue σ k qs h.1 is
