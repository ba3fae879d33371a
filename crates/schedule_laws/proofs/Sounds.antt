-- A desk that holds has a sound history.
use Rattle.std.proofs.Common.{◌≡◌, ℕ, refl, ap, sym, ◌∙◌, subst, arith, List, [], ◌∷◌, Bool, true, false, None, Some, if◌then◌else◌, length}
use Rattle.std.specs.FinMap.{empty, get-empty, entries, len-entries, len-empty}
use Rattle.wire_values.specs.Order.{bytes_cmp}
use Rattle.store_model.specs.Keys.{Keys, value_of, value_at, expiry_of}
use Rattle.store_model.specs.declared.held.Held.{Held}
use Rattle.queue_keys.specs.Names.{Bytes}
use Rattle.command_blocks.specs.Setting.{Setting}
use Rattle.queue_keys.specs.QueueKeys.{Among}
use Rattle.command_blocks.specs.Blocks.{IsMannered}
use Rattle.place_model.specs.Histories.{calls_of}
use Rattle.place_model.specs.Counts.{table_entry, field_of, has_field, has_member, is_field, is_member, in_held, total, start_count}
use Rattle.place_model.specs.Starts.{IsListOrNone, IsHashOrNone, IsScoresOrNone, elements_of, IsSoundStart}
use Rattle.schedule_model.specs.Desk.{ScheduleReader}
use Rattle.schedule_laws.specs.Sound.{IsSoundDesk}
use Rattle.schedule_laws.proofs.Kept.{DecidesFronts, mannered}
use Rattle.schedule_laws.proofs.Worlds.{calls_timely}
use Rattle.schedule_laws.proofs.Desks.{Holds}

-- the store without a key
abbrev none : Keys
none = empty

nothing : (k : Bytes) → value_at none k ≡ None
nothing k = ap value_of (get-empty bytes_cmp k)

false_not : {A : Type 0} → false ≡ true → A
false_not e = absurd (cc e)

no_field : (σ : Setting) (t : Bytes) → is_field σ none t ≡ false
no_field σ t = ap (λ o. has_field o t) (nothing σ.unacked)

no_member : (σ : Setting) (t : Bytes) → is_member σ none t ≡ false
no_member σ t = ap (λ o. has_member o t) (nothing σ.index)

no_entry : (σ : Setting) (t : Bytes) → table_entry σ none t ≡ None
no_entry σ t = ap (λ o. field_of o t) (nothing σ.unacked)

no_entries : entries none ≡ []
no_entries = by (entries none) (sym (len-entries none) ∙ len-empty bytes_cmp Held) where
  by : (es : List (Bytes × Held)) → length es ≡ 0 → es ≡ []
  by [] e = refl
  by (x ∷ es) e = absurd (omega arith)

no_count : (σ : Setting) (t : Bytes) → start_count σ none t ≡ 0
no_count σ t =
    let lists : total (in_held σ t) (entries none) ≡ 0 = ap (total (in_held σ t)) no_entries in
    let one : Bool → ℕ = λ b. if b then 1 else 0 in
    let fields : one (is_field σ none t) ≡ 0 = ap one (no_field σ t) in
    omega (arith, lists, fields)

-- a history may begin with no key
pub empty_start : (σ : Setting) → IsSoundStart σ empty []
empty_start σ = record {
  lists = λ k q. subst IsListOrNone (sym (nothing k)) tt;
  table = subst IsHashOrNone (sym (nothing σ.unacked)) tt;
  members = subst IsScoresOrNone (sym (nothing σ.index)) tt;
  envelopes = λ k v q among. absurd (subst (Among v) (ap elements_of (nothing k)) among);
  alike = λ t. no_field σ t ∙ sym (no_member σ t);
  tags = λ t is. false_not (sym (no_field σ t) ∙ is);
  carries = λ t u is. absurd (none_some u (sym (no_entry σ t) ∙ is));
  once = λ t. let e = no_count σ t in omega arith;
  known = λ t le. let e = no_count σ t in absurd (omega arith);
  lasts = λ k. ap expiry_of (get-empty bytes_cmp k);
} where
  none_some : (u : Bytes) → None ≡ Some u → ⊥
  none_some u e = cc

-- where fronts are decided, each client is mannered
client_mannered : (σ : Setting) (d : ScheduleReader) → Holds σ d → DecidesFronts σ → (c s : ℕ) → Among (c, s) d.clients → IsMannered σ s (calls_of c d.entries)
client_mannered σ d h decide c s among =
    let b = h.book_of c s among in
    subst (λ q. IsMannered σ q (calls_of c d.entries)) b.2 (mannered σ (calls_of c d.entries) b.0 (h.books c b.0 b.1).kept decide (calls_timely c 0 d.moment d.entries h.rises h.present))

pub desk_sound : (σ : Setting) (d : ScheduleReader) → Holds σ d → DecidesFronts σ → IsSoundDesk σ d
desk_sound σ d h decide = record {
  history = record { start = empty_start σ; table = h.table; legal = h.legal; mannered = client_mannered σ d h decide };
  store = h.store;
  moments = h.rises;
  present = h.present;
}
