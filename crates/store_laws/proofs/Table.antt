-- A transaction on the table and its index keeps them alike.
use Rattle.std.proofs.Common.{◌≡◌, ◌≢◌, ◌⊎◌, inl, inr, Bool, true, sym, ap, subst, ◌∙◌}
use Rattle.std.specs.FinMap.{get, entries}
use Rattle.store_model.specs.Words.{Bytes}
use Rattle.store_model.specs.Keys.{Keys, value_of, value_at, expiry_of}
use Rattle.store_laws.proofs.Maps.{total, same_or}
use Rattle.store_laws.proofs.Names.{Names}
use Rattle.store_laws.proofs.Changes.{in_held, has_field, has_member, Kinds, Marked, IsScoresOrNone, IsHashOrNone, IsListOrNone, unacked_not_index, queue_not_unacked, queue_not_index, other_sums}

-- whether t is in the table
abbrev pub is_field : Names → Keys → Bytes → Bool
is_field σ m t = has_field (value_at m σ.unacked) t

-- whether t is in the table's index
abbrev pub is_member : Names → Keys → Bytes → Bool
is_member σ m t = has_member (value_at m σ.index) t

-- the table and its index have the same tags
abbrev pub Alike : Names → Keys → Type 0
Alike σ m = (t : Bytes) → is_field σ m t ≡ is_member σ m t

-- after a transaction, x is in the table or not, and nothing else has changed
pub record Turned (σ : Names) (m m' : Keys) (x : Bytes) (yes : Bool) : Type 0 where
  pub kinds : Kinds σ m'
  pub alike : Alike σ m'
  pub this : is_field σ m' x ≡ yes
  pub others : (t : Bytes) → t ≢ x → is_field σ m' t ≡ is_field σ m t
  pub lists : (t : Bytes) → total (in_held σ t) (entries m') ≡ total (in_held σ t) (entries m)

module _ (σ : Names) (m m₁ m₂ : Keys) (x : Bytes) (yes : Bool) (ks : Kinds σ m) (same : Alike σ m)
    (a : Marked has_member IsScoresOrNone m m₁ σ.index x yes) (b : Marked has_field IsHashOrNone m₁ m₂ σ.unacked x yes) where
  index_now : value_at m₂ σ.index ≡ a.value
  index_now = ap value_of (b.change.there σ.index (λ e. unacked_not_index σ (sym e))) ∙ a.change.here

  unacked_between : value_at m₁ σ.unacked ≡ value_at m σ.unacked
  unacked_between = ap value_of (a.change.there σ.unacked (unacked_not_index σ))

  member_now : (t : Bytes) → is_member σ m₂ t ≡ has_member a.value t
  member_now t = ap (λ o. has_member o t) index_now

  field_now : (t : Bytes) → is_field σ m₂ t ≡ has_field b.value t
  field_now t = ap (λ o. has_field o t) b.change.here

  field_others : (t : Bytes) → t ≢ x → is_field σ m₂ t ≡ is_field σ m t
  field_others t n = field_now t ∙ b.others t n ∙ ap (λ o. has_field o t) unacked_between

  alike_at : (t : Bytes) → (t ≡ x) ⊎ (t ≢ x) → is_field σ m₂ t ≡ is_member σ m₂ t
  alike_at t (inl e) = subst (λ y. is_field σ m₂ y ≡ is_member σ m₂ y) (sym e) (field_now x ∙ b.this ∙ sym (member_now x ∙ a.this))
  alike_at t (inr n) = field_others t n ∙ same t ∙ sym (member_now t ∙ a.others t n)

  queue_kept : (k : Bytes) → σ.is_queue k ≡ true → get m₂ k ≡ get m k
  queue_kept k q = b.change.there k (λ e. queue_not_unacked σ k q (sym e)) ∙ a.change.there k (λ e. queue_not_index σ k q (sym e))

  pub table_turned : Turned σ m m₂ x yes
  table_turned = record {
    kinds = record {
      lists = λ k q. subst IsListOrNone (sym (ap value_of (queue_kept k q))) (ks.lists k q);
      table = subst IsHashOrNone (sym b.change.here) b.kind;
      members = subst IsScoresOrNone (sym index_now) a.kind;
      lists_last = λ k q. ap expiry_of (queue_kept k q) ∙ ks.lists_last k q;
      table_lasts = b.change.lasts (ap expiry_of (a.change.there σ.unacked (unacked_not_index σ)) ∙ ks.table_lasts);
      members_last = ap expiry_of (b.change.there σ.index (λ e. unacked_not_index σ (sym e))) ∙ a.change.lasts ks.members_last;
    };
    alike = λ t. alike_at t (same_or t x);
    this = field_now x ∙ b.this;
    others = field_others;
    lists = λ t. other_sums σ m₁ m₂ σ.unacked b.value σ.unacked_not b.change t ∙ other_sums σ m m₁ σ.index a.value σ.index_not a.change t;
  }
