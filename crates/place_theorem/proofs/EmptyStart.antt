-- The empty start.
use Rattle.std.proofs.Common.{◌≡◌, ℕ, [], true, if◌then◌else◌, sym, ap, subst, ◌∙◌, arith, None, Some, Option}
use Rattle.std.specs.FinMap.{get, empty, get-empty, entries}
use Rattle.wire_values.specs.Order.{bytes_cmp}
use Rattle.store_tables.proofs.Maps.{bytes_total, bytes_anti}
use Rattle.store_model.specs.Keys.{value_of, expiry_of}
use Rattle.store_model.specs.declared.held.Held.{Held}
use Rattle.queue_keys.specs.Names.{Bytes}
use Rattle.queue_keys.specs.QueueKeys.{Among}
use Rattle.command_blocks.specs.Setting.{Setting}
use Rattle.place_model.specs.Counts.{total, in_held, has_field, has_member, field_of, start_count}
use Rattle.place_model.specs.Identity.{HasEnvelope, In_a_list, In_the_table}
use Rattle.place_model.specs.Starts.{IsSoundStart, IsListOrNone, IsHashOrNone, IsScoresOrNone, elements_of}
use Rattle.place_theorem.proofs.Whole.{total-empty}

none : (k : Bytes) → get (empty {X = Held} {R = bytes_cmp}) k ≡ None
none k = get-empty bytes_cmp k

-- 1 where what is held has the field
abbrev one_if : Bytes → Option Held → ℕ
one_if t o = if has_field (value_of o) t then 1 else 0

-- with no key all that a sound start has holds
pub empty_start : (σ : Setting) → IsSoundStart σ empty []
empty_start σ = record {
  lists = λ k q. subst IsListOrNone (sym (ap value_of (none k))) tt;
  table = subst IsHashOrNone (sym (ap value_of (none σ.unacked))) tt;
  members = subst IsScoresOrNone (sym (ap value_of (none σ.index))) tt;
  envelopes = λ k v q is. absurd (subst (λ o. Among v (elements_of (value_of o))) (none k) is);
  alike = λ t. ap (λ o. has_field (value_of o) t) (none σ.unacked) ∙ sym (ap (λ o. has_member (value_of o) t) (none σ.index));
  tags = λ t is. let z : has_field None t ≡ true = subst (λ o. has_field (value_of o) t ≡ true) (none σ.unacked) is in absurd (cc z);
  carries = λ t u is. let z : field_of None t ≡ Some u = subst (λ o. field_of (value_of o) t ≡ Some u) (none σ.unacked) is in absurd (cc z);
  once = λ t. let c = counts t in omega (arith, c);
  known = λ t some. let c = counts t in absurd (omega (arith, c, some));
  lasts = λ k. ap expiry_of (none k);
}
  where
    counts : (t : Bytes) → start_count σ empty t ≡ 0
    counts t =
        let a : total (in_held σ t) (entries (empty {X = Held} {R = bytes_cmp})) ≡ 0 = total-empty bytes_cmp bytes_total bytes_anti (in_held σ t) in
        let b = ap (one_if t) (none σ.unacked) in
        omega (arith, a, b)

-- and no envelope stands in it
pub empty_none : (σ : Setting) (t b : Bytes) → HasEnvelope σ empty t b → ⊥
empty_none σ t b (In_a_list k v q is tag body) = absurd (subst (λ o. Among v (elements_of (value_of o))) (none k) is)
empty_none σ t b (In_the_table u is body) = let z : field_of None t ≡ Some u = subst (λ o. field_of (value_of o) t ≡ Some u) (none σ.unacked) is in absurd (cc z)
