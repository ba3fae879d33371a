-- What was read and written goes on.
use Rattle.std.proofs.Common.{◌≡◌, ℕ, zero, suc, take, ◌+◌, ◌<◌, ◌≤◌, List, [], ◌++◌, length, Option, refl, sym, ap, subst, ◌∙◌, arith, append_assoc, append-nil, length-append}
use Rattle.std.proofs.KnownBytes.{Appends-trans, Consumes-kept, Consumes-trans}
use Rattle.std.specs.Io.KnownBytes.{Appends, Consumes, IsAtEnd, Keeps}
use Rattle.links.specs.Causes.{AppendsFront, Rose}
use Rattle.links.specs.Ends.{HasReadUpTo, IsPast, IsWholeInput}
use Rattle.links.specs.Views.{SinkView, SourceView}
use Rattle.wire_show.specs.Shows.{IsCutShort, IsReadSoFar, IsWritten, input_limit}

-- no bytes were taken
pub took_none : (n : ℕ) (l : List ℕ) → n ≡ 0 → take n l ≡ []
took_none zero l e = refl
took_none (suc n) l e = absurd (omega (arith, e))

module _ (f m n : SourceView) (bytes : List ℕ) (so_far : IsReadSoFar f m bytes) where
  -- the end was told
  pub read_end : (got : List ℕ) → got ≡ [] → Consumes m.left n.left got → IsAtEnd n.left → Rose m.ends n.ends → m.ends ≤ n.ends → n.faults ≡ m.faults → IsWholeInput input_limit f n bytes
  read_end got none consumed end told later kept = record {
    consumed = subst (Consumes f.left n.left) (ap (λ l. bytes ++ l) none ∙ append-nil bytes) (Consumes-trans f.left m.left n.left bytes got so_far.0.consumed consumed);
    end = end;
    told = subst (λ (i : ℕ). Rose i n.ends) so_far.0.unended told;
    later = omega (arith, so_far.0.unended, later);
    within = so_far.0.within;
    kept = kept ∙ so_far.1;
  }

  -- a piece more was read
  pub read_more : (got : List ℕ) → Consumes m.left n.left got → n.ends ≡ m.ends → n.faults ≡ m.faults → length bytes + length got ≤ input_limit → IsReadSoFar f n (bytes ++ got)
  read_more got consumed unended kept within = (
    record {
      consumed = Consumes-trans f.left m.left n.left bytes got so_far.0.consumed consumed;
      within = omega (arith, length-append bytes got, within);
      unended = unended ∙ so_far.0.unended;
    },
    kept ∙ so_far.1,
  )

  -- the byte past the limit was read
  pub read_past : (got : List ℕ) → Consumes m.left n.left got → n.ends ≡ m.ends → n.faults ≡ m.faults → length bytes ≡ input_limit → length got ≡ 1 → IsPast input_limit f n (bytes ++ got)
  read_past got consumed unended kept full one = record {
    read = record {
      consumed = Consumes-trans f.left m.left n.left bytes got so_far.0.consumed consumed;
      within = omega (arith, length-append bytes got, full, one);
      unended = unended ∙ so_far.0.unended;
    };
    over = omega (arith, length-append bytes got, full, one);
    kept = kept ∙ so_far.1;
  }

  -- the source failed
  pub read_failed : Keeps m.left n.left → n.ends ≡ m.ends → m.faults ≤ n.faults → Rose m.faults n.faults → HasReadUpTo input_limit f n bytes × (f.faults ≤ n.faults) × Rose f.faults n.faults
  read_failed keeps unended later rose = (
    record { consumed = Consumes-kept f.left m.left n.left bytes so_far.0.consumed keeps; within = so_far.0.within; unended = unended ∙ so_far.0.unended },
    omega (arith, so_far.1, later),
    subst (λ (i : ℕ). Rose i n.faults) so_far.1 rose,
  )

module _ (o m n : SinkView) (lines more : List ℕ) (written : IsWritten o m lines) where
  pub written_more : Appends m.taken n.taken more → n.faults ≡ m.faults → IsWritten o n (lines ++ more)
  written_more appends kept = (Appends-trans o.taken m.taken n.taken lines more written.0 appends, kept ∙ written.1)

  pub cut_more : IsCutShort m n more → IsCutShort o n (lines ++ more)
  cut_more ((front, rest, e, some, appends), later, rose) = (
    (lines ++ front, rest, ap (λ l. lines ++ l) e ∙ sym (append_assoc lines front rest), some, Appends-trans o.taken m.taken n.taken lines front written.0 appends),
    omega (arith, written.1, later),
    subst (λ (i : ℕ). Rose i n.faults) written.1 rose,
  )
