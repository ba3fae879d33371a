-- What each status of a run of `show` says.
use Rattle.std.proofs.Common.{Contains, List, None, Option, Some, [], ap, append-nil, arith, inl, inr, length, length-append, lit<, refl, subst, suc, sym, zero, ℕ, ◌++◌, ◌≡◌, ◌∙◌, ◌∷◌, ◌≤◌, ◌⊎◌}
use Rattle.std.specs.Io.KnownBytes.{Appends, Consumes}
use Rattle.links.specs.Causes.{AppendsFront, Rose}
use Rattle.links.specs.Views.{SinkView, SourceView}
use Rattle.top_call.proofs.Statuses.{consumed_all, consumed_front}
use Rattle.top_call.specs.Endings.{HasTold, IsTold, IsToldFor, TellsShown, Took, ended_of, telling, text_of}
use Rattle.top_call.specs.Showings.{IsAllShown, IsByteWrong, IsCutAfter, IsEndWithin, IsMemoryCut, IsPastShowing, IsReadCut, IsShowing, IsWriteCut}
use Rattle.top_call.specs.declared.ending.End.TheVariants.{BadByte, LongStream, Memory, ReadFault, Shown as ShownEnd, Unfinished}
use Rattle.top_call.specs.declared.ending.End.{End}
use Rattle.top_call.specs.declared.ending.Ended.{Ended}
use Rattle.wire_show.proofs.Endings.{ends_begun}
use Rattle.wire_show.proofs.Sources.{cut_more, written_more}
use Rattle.wire_show.proofs.Streams.{whole_not_bad, whole_not_unfinished}
use Rattle.wire_show.specs.Shows.{EndsShown, HasReadFor, IsWholeStream, IsWritten, value_lines}
use Rattle.wire_show.specs.declared.ending.ShowEnd.{ShowEnd}
use Rattle.wire_show.specs.declared.ending.ShowEnd.TheVariants.{Bad, Long, Whole, WriteFault}
use Rattle.wire_show.specs.declared.ending.ShowEnd.TheVariants as show
use Rattle.wire_values.specs.declared.value.Value.{Value}

none_is : {e : End} → None ≡ Some e → ⊥
none_is e = cc

some_is : {e : End} → Some e ≡ None → ⊥
some_is e = cc

-- what is told of the end of a showing, and the ending without a text where nothing is
abbrev told_of : ShowEnd → End
told_of Whole = ShownEnd
told_of (Bad kind place) = BadByte kind place
told_of (show.Unfinished place) = Unfinished place
told_of Long = LongStream
told_of show.ReadFault = ReadFault
told_of show.Memory = Memory
told_of WriteFault = ShownEnd

abbrev told_or : Option End → End
told_or None = Memory
told_or (Some g) = g

module _ (m x : SinkView) (r : Ended) where
  tells_same : (e f : End) → Some f ≡ Some e → IsTold e m x r → IsTold f m x r
  tells_same e f same tells = subst (λ (o : Option End). IsTold (told_or o) m x r) (sym same) tells

  pub told_some : (end : ShowEnd) (e : End) → telling end ≡ Some e → IsTold e m x r → TellsShown end m x r
  told_some Whole e same tells = tells_same e (told_of Whole) same tells
  told_some (Bad kind place) e same tells = tells_same e (told_of (Bad kind place)) same tells
  told_some (show.Unfinished place) e same tells = tells_same e (told_of (show.Unfinished place)) same tells
  told_some Long e same tells = tells_same e (told_of Long) same tells
  told_some show.ReadFault e same tells = tells_same e (told_of show.ReadFault) same tells
  told_some show.Memory e same tells = tells_same e (told_of show.Memory) same tells
  told_some WriteFault e same tells = absurd (none_is same)

pub told_none : (end : ShowEnd) → telling end ≡ None → (m : SinkView) → TellsShown end m m (record { status = 5; place = 0; left = 0 })
told_none Whole same m = absurd (some_is same)
told_none (Bad kind place) same m = absurd (some_is same)
told_none (show.Unfinished place) same m = absurd (some_is same)
told_none Long same m = absurd (some_is same)
told_none show.ReadFault same m = absurd (some_is same)
told_none show.Memory same m = absurd (some_is same)
told_none WriteFault same m = (refl, refl)

-- a run of `show` by its three ways: its end is told, memory ends before that, or the sink fails
data Way (b n : SourceView) (o x : SinkView) (r : Ended) : Type 0 where
  Told : (bytes : List ℕ) (vs : List Value) (end : ShowEnd) → HasReadFor end b n bytes → EndsShown bytes vs end → (end ≡ WriteFault → ⊥)
      → r ≡ ended_of (told_of end) → Appends o.taken x.taken (value_lines vs ++ text_of (told_of end)) → x.faults ≡ o.faults → Way b n o x r
  Starved : (bytes : List ℕ) (vs : List Value) (end : ShowEnd) → HasReadFor end b n bytes → EndsShown bytes vs end → (end ≡ show.ReadFault → ⊥)
      → r ≡ ended_of Memory → Appends o.taken x.taken (value_lines vs ++ text_of Memory) → x.faults ≡ o.faults → Way b n o x r
  Cut : (bytes : List ℕ) (vs : List Value) (end : ShowEnd) → HasReadFor end b n bytes → EndsShown bytes vs end → r ≡ record { status = 5; place = 0; left = 0 }
      → IsCutAfter o x vs (telling end) → o.faults ≤ x.faults → Rose o.faults x.faults → Way b n o x r

-- the sink failed within the text that was told
cut_told : (o x : SinkView) (vs : List Value) (end : ShowEnd) (told : End) → (end ≡ WriteFault → ⊥) → IsToldFor (told_of end) told → AppendsFront o.taken x.taken (value_lines vs ++ text_of told) → IsCutAfter o x vs (telling end)
cut_told o x vs Whole told other which front = (told, which, front)
cut_told o x vs (Bad kind place) told other which front = (told, which, front)
cut_told o x vs (show.Unfinished place) told other which front = (told, which, front)
cut_told o x vs Long told other which front = (told, which, front)
cut_told o x vs show.ReadFault told other which front = (told, which, front)
cut_told o x vs show.Memory told other which front = (told, which, front)
cut_told o x vs WriteFault told other which front = absurd (other refl)

module _ (b n : SourceView) (o m x : SinkView) (r : Ended) (bytes lines : List ℕ) (vs : List Value) (are : lines ≡ value_lines vs) (wrote : IsWritten o m lines) where
  tells_way : (end : ShowEnd) → HasReadFor end b n bytes → EndsShown bytes vs end → (end ≡ WriteFault → ⊥) → IsTold (told_of end) m x r → Way b n o x r
  tells_way end read ends other (written, inl same, inl (is, text, kept)) =
      let w = written_more o m x lines (text_of written) wrote text kept in
      Told bytes vs end read ends other (is ∙ ap ended_of same)
      (subst (λ (e : End). Appends o.taken x.taken (value_lines vs ++ text_of e)) same (subst (λ (l : List ℕ). Appends o.taken x.taken (l ++ text_of written)) are w.0)) w.1
  tells_way end read ends other (written, inr (same, calm), inl (is, text, kept)) =
      let w = written_more o m x lines (text_of written) wrote text kept in
      Starved bytes vs end read ends (λ e. calm (ap told_of e)) (is ∙ ap ended_of same)
      (subst (λ (e : End). Appends o.taken x.taken (value_lines vs ++ text_of e)) same (subst (λ (l : List ℕ). Appends o.taken x.taken (l ++ text_of written)) are w.0)) w.1
  tells_way end read ends other (written, which, inr (is, front, later, rose)) =
      let w = cut_more o m x lines (text_of written) wrote (front, later, rose) in
      Cut bytes vs end read ends is
      (cut_told o x vs end written other which (subst (λ (l : List ℕ). AppendsFront o.taken x.taken (l ++ text_of written)) are w.0)) w.1 w.2

module _ (b n : SourceView) (o x : SinkView) (r : Ended) where
  -- what was read
  consumed_for : (bytes : List ℕ) (e : ShowEnd) → HasReadFor e b n bytes → Consumes b.left n.left bytes
  consumed_for bytes Whole read = read.consumed
  consumed_for bytes (show.Unfinished place) read = read.consumed
  consumed_for bytes Long read = read.read.consumed
  consumed_for bytes show.ReadFault read = read.0.consumed
  consumed_for bytes (Bad kind place) read = read.0.consumed
  consumed_for bytes WriteFault read = read.0.consumed
  consumed_for bytes show.Memory read = read.0.consumed

  -- the source fails at no other end
  calm_for : (bytes : List ℕ) (e : ShowEnd) → HasReadFor e b n bytes → (e ≡ show.ReadFault → ⊥) → n.faults ≡ b.faults
  calm_for bytes Whole read other = read.kept
  calm_for bytes (show.Unfinished place) read other = read.kept
  calm_for bytes Long read other = read.kept
  calm_for bytes show.ReadFault read other = absurd (other refl)
  calm_for bytes (Bad kind place) read other = read.1
  calm_for bytes WriteFault read other = read.1
  calm_for bytes show.Memory read other = read.1

  way_of : HasTold b n o x r → Way b n o x r
  way_of (Whole, m, (bytes, lines, read, (vs, ends, are), wrote), tells) = tells_way b n o m x r bytes lines vs are wrote Whole read ends (λ e. cc) tells
  way_of (Bad kind place, m, (bytes, lines, read, (vs, ends, are), wrote), tells) = tells_way b n o m x r bytes lines vs are wrote (Bad kind place) read ends (λ e. cc) tells
  way_of (show.Unfinished place, m, (bytes, lines, read, (vs, ends, are), wrote), tells) = tells_way b n o m x r bytes lines vs are wrote (show.Unfinished place) read ends (λ e. cc) tells
  way_of (Long, m, (bytes, lines, read, (vs, ends, are), wrote), tells) = tells_way b n o m x r bytes lines vs are wrote Long read ends (λ e. cc) tells
  way_of (show.ReadFault, m, (bytes, lines, read, (vs, ends, are), wrote), tells) = tells_way b n o m x r bytes lines vs are wrote show.ReadFault read ends (λ e. cc) tells
  way_of (show.Memory, m, (bytes, lines, read, (vs, ends, are), wrote), tells) = tells_way b n o m x r bytes lines vs are wrote show.Memory read ends (λ e. cc) tells
  way_of (WriteFault, m, (bytes, lines, read, (vs, ends, are), cut), (is, same)) =
      let front : AppendsFront o.taken m.taken (value_lines vs) = subst (AppendsFront o.taken m.taken) are cut.0 in
      Cut bytes vs WriteFault read ends is (subst (λ (y : SinkView). AppendsFront o.taken y.taken (value_lines vs)) (sym same) front)
      (subst (λ (y : SinkView). o.faults ≤ y.faults) (sym same) cut.1) (subst (λ (y : SinkView). Rose o.faults y.faults) (sym same) cut.2)

  whole : Way b n o x r → r.status ≡ 0 → IsAllShown b n o x
  whole (Told bytes vs end read ends other is text kept) nought = by end read ends other (sym (ap (λ v. v.status) is) ∙ nought) text
    where
      by : (e : ShowEnd) → HasReadFor e b n bytes → EndsShown bytes vs e → (e ≡ WriteFault → ⊥) → (ended_of (told_of e)).status ≡ 0 → Appends o.taken x.taken (value_lines vs ++ text_of (told_of e)) → IsAllShown b n o x
      by Whole read ends other nought text = (bytes, vs, read, ends, subst (Appends o.taken x.taken) (append-nil (value_lines vs)) text)
      by WriteFault read ends other nought text = absurd (other refl)
      by (Bad kind place) read ends other nought text = absurd (omega (arith, nought))
      by (show.Unfinished place) read ends other nought text = absurd (omega (arith, nought))
      by Long read ends other nought text = absurd (omega (arith, nought))
      by show.ReadFault read ends other nought text = absurd (omega (arith, nought))
      by show.Memory read ends other nought text = absurd (omega (arith, nought))
  whole (Starved bytes vs end read ends calm is text kept) nought = let eleven = sym (ap (λ v. v.status) is) ∙ nought in absurd (omega (arith, eleven))
  whole (Cut bytes vs end read ends is front later rose) nought = let five = sym (ap (λ v. v.status) is) ∙ nought in absurd (omega (arith, five))

  wrong : Way b n o x r → r.status ≡ 3 → IsByteWrong b n o x r.place ⊎ (IsEndWithin b n o x r.place ⊎ IsPastShowing b n o x r.place)
  wrong (Told bytes vs end read ends other is text kept) three = by end read ends other (sym (ap (λ v. v.status) is) ∙ three) (ap (λ v. v.place) is) text
    where
      by : (e : ShowEnd) → HasReadFor e b n bytes → EndsShown bytes vs e → (e ≡ WriteFault → ⊥) → (ended_of (told_of e)).status ≡ 3 → r.place ≡ (ended_of (told_of e)).place → Appends o.taken x.taken (value_lines vs ++ text_of (told_of e))
          → IsByteWrong b n o x r.place ⊎ (IsEndWithin b n o x r.place ⊎ IsPastShowing b n o x r.place)
      by Whole read ends other three at text = absurd (omega (arith, three))
      by WriteFault read ends other three at text = absurd (other refl)
      by (Bad kind place) read ends other three at text = rw at (inl (bytes, vs, kind, read, ends, text))
      by (show.Unfinished place) read ends other three at text = rw at (inr (inl (bytes, vs, read, ends, text)))
      by Long read ends other three at text = inr (inr (at, (bytes, vs, read, ends, text)))
      by show.ReadFault read ends other three at text = absurd (omega (arith, three))
      by show.Memory read ends other three at text = absurd (omega (arith, three))
  wrong (Starved bytes vs end read ends calm is text kept) three = let eleven = sym (ap (λ v. v.status) is) ∙ three in absurd (omega (arith, eleven))
  wrong (Cut bytes vs end read ends is front later rose) three = let five = sym (ap (λ v. v.status) is) ∙ three in absurd (omega (arith, five))

  read_cut : Way b n o x r → r.status ≡ 4 → IsReadCut b n o x
  read_cut (Told bytes vs end read ends other is text kept) four = by end read ends other (sym (ap (λ v. v.status) is) ∙ four) text
    where
      by : (e : ShowEnd) → HasReadFor e b n bytes → EndsShown bytes vs e → (e ≡ WriteFault → ⊥) → (ended_of (told_of e)).status ≡ 4 → Appends o.taken x.taken (value_lines vs ++ text_of (told_of e)) → IsReadCut b n o x
      by Whole read ends other four text = absurd (omega (arith, four))
      by WriteFault read ends other four text = absurd (other refl)
      by (Bad kind place) read ends other four text = absurd (omega (arith, four))
      by (show.Unfinished place) read ends other four text = absurd (omega (arith, four))
      by Long read ends other four text = absurd (omega (arith, four))
      by show.ReadFault read ends other four text = (read.1, read.2, (bytes, vs, read.0, ends.1, text))
      by show.Memory read ends other four text = absurd (omega (arith, four))
  read_cut (Starved bytes vs end read ends calm is text kept) four = let eleven = sym (ap (λ v. v.status) is) ∙ four in absurd (omega (arith, eleven))
  read_cut (Cut bytes vs end read ends is front later rose) four = let five = sym (ap (λ v. v.status) is) ∙ four in absurd (omega (arith, five))

  write_cut : Way b n o x r → r.status ≡ 5 → IsWriteCut b n o x
  write_cut (Told bytes vs end read ends other is text kept) five = by end (sym (ap (λ v. v.status) is) ∙ five)
    where
      by : (e : ShowEnd) → (ended_of (told_of e)).status ≡ 5 → IsWriteCut b n o x
      by Whole five = absurd (omega (arith, five))
      by WriteFault five = absurd (omega (arith, five))
      by (Bad kind place) five = absurd (omega (arith, five))
      by (show.Unfinished place) five = absurd (omega (arith, five))
      by Long five = absurd (omega (arith, five))
      by show.ReadFault five = absurd (omega (arith, five))
      by show.Memory five = absurd (omega (arith, five))
  write_cut (Starved bytes vs end read ends calm is text kept) five = let eleven = sym (ap (λ v. v.status) is) ∙ five in absurd (omega (arith, eleven))
  write_cut (Cut bytes vs end read ends is front later rose) five = (later, rose, (bytes, vs, end, read, ends, front))

  memory_cut : Way b n o x r → r.status ≡ 11 → IsMemoryCut b n o x
  memory_cut (Told bytes vs end read ends other is text kept) eleven = by end read ends (sym (ap (λ v. v.status) is) ∙ eleven) text
    where
      by : (e : ShowEnd) → HasReadFor e b n bytes → EndsShown bytes vs e → (ended_of (told_of e)).status ≡ 11 → Appends o.taken x.taken (value_lines vs ++ text_of (told_of e)) → IsMemoryCut b n o x
      by Whole read ends eleven text = absurd (omega (arith, eleven))
      by WriteFault read ends eleven text = absurd (omega (arith, eleven))
      by (Bad kind place) read ends eleven text = absurd (omega (arith, eleven))
      by (show.Unfinished place) read ends eleven text = absurd (omega (arith, eleven))
      by Long read ends eleven text = absurd (omega (arith, eleven))
      by show.ReadFault read ends eleven text = absurd (omega (arith, eleven))
      by show.Memory read ends eleven text = (read.1, (bytes, vs, read.0.consumed, ends, text))
  memory_cut (Starved bytes vs end read ends calm is text kept) eleven =
      (calm_for bytes end read calm, (bytes, vs, consumed_for bytes end read, ends_begun bytes vs end ends, text))
  memory_cut (Cut bytes vs end read ends is front later rose) eleven = let five = sym (ap (λ v. v.status) is) ∙ eleven in absurd (omega (arith, five))

  among : Way b n o x r → Contains (0 ∷ 3 ∷ 4 ∷ 5 ∷ 11 ∷ []) r.status
  among (Told bytes vs end read ends other is text kept) = by end (ap (λ v. v.status) is)
    where
      by : (e : ShowEnd) → r.status ≡ (ended_of (told_of e)).status → Contains (0 ∷ 3 ∷ 4 ∷ 5 ∷ 11 ∷ []) r.status
      by Whole is = rw is (0, lit< tt, refl)
      by WriteFault is = rw is (0, lit< tt, refl)
      by (Bad kind place) is = rw is (1, lit< tt, refl)
      by (show.Unfinished place) is = rw is (1, lit< tt, refl)
      by Long is = rw is (1, lit< tt, refl)
      by show.ReadFault is = rw is (2, lit< tt, refl)
      by show.Memory is = rw is (4, lit< tt, refl)
  among (Starved bytes vs end read ends calm is text kept) = let eleven = ap (λ v. v.status) is in rw eleven (4, lit< tt, refl)
  among (Cut bytes vs end read ends is front later rose) = let five = ap (λ v. v.status) is in rw five (3, lit< tt, refl)

  complete : Way b n o x r → (stream : List ℕ) (ws : List Value) → b.left ≡ Some stream → IsWholeStream stream ws → ¬ (Rose b.faults n.faults) → ¬ (Rose o.faults x.faults) → Contains (0 ∷ 11 ∷ []) r.status
  complete (Told bytes vs end read ends other is text kept) stream ws told good calm_source calm_sink = by end read ends other (ap (λ v. v.status) is)
    where
      by : (e : ShowEnd) → HasReadFor e b n bytes → EndsShown bytes vs e → (e ≡ WriteFault → ⊥) → r.status ≡ (ended_of (told_of e)).status → Contains (0 ∷ 11 ∷ []) r.status
      by Whole read ends other is = rw is (0, lit< tt, refl)
      by WriteFault read ends other is = absurd (other refl)
      by (Bad kind place) read ends other is =
          let (more, split) = consumed_front b.left n.left stream bytes told read.0.consumed in
          absurd (whole_not_bad stream bytes more ws vs kind place good split ends)
      by (show.Unfinished place) read ends other is =
          let all = consumed_all b.left n.left stream bytes told read.consumed read.end in
          absurd (whole_not_unfinished bytes ws vs place (subst (λ (s : List ℕ). IsWholeStream s ws) (sym all) good) ends)
      by Long read ends other is =
          let (more, split) = consumed_front b.left n.left stream bytes told read.read.consumed in
          absurd (omega (arith, ap length split, length-append bytes more, read.over, good.0))
      by show.ReadFault read ends other is = absurd (calm_source read.2)
      by show.Memory read ends other is = rw is (1, lit< tt, refl)
  complete (Starved bytes vs end read ends calm is text kept) stream ws told good calm_source calm_sink = let eleven = ap (λ v. v.status) is in rw eleven (1, lit< tt, refl)
  complete (Cut bytes vs end read ends is front later rose) stream ws told good calm_source calm_sink = absurd (calm_sink rose)

  pub showing_of : HasTold b n o x r → IsShowing b n o x r
  showing_of told = let way = way_of told in record {
    whole = whole way;
    wrong = wrong way;
    read_fault = read_cut way;
    write_fault = write_cut way;
    out_of_memory = memory_cut way;
    statuses = among way;
    complete = complete way;
  }

  took_read : (bytes : List ℕ) (e : ShowEnd) → HasReadFor e b n bytes → Took b n
  took_read bytes Whole read = record { taken = (bytes, read.consumed, omega (arith, read.within)); faults = omega (arith, read.kept); ends = read.later }
  took_read bytes (show.Unfinished place) read = record { taken = (bytes, read.consumed, omega (arith, read.within)); faults = omega (arith, read.kept); ends = read.later }
  took_read bytes Long read = record { taken = (bytes, read.read.consumed, read.read.within); faults = omega (arith, read.kept); ends = omega (arith, read.read.unended) }
  took_read bytes show.ReadFault read = record { taken = (bytes, read.0.consumed, omega (arith, read.0.within)); faults = read.1; ends = omega (arith, read.0.unended) }
  took_read bytes (Bad kind place) read = record { taken = (bytes, read.0.consumed, omega (arith, read.0.within)); faults = omega (arith, read.1); ends = omega (arith, read.0.unended) }
  took_read bytes WriteFault read = record { taken = (bytes, read.0.consumed, omega (arith, read.0.within)); faults = omega (arith, read.1); ends = omega (arith, read.0.unended) }
  took_read bytes show.Memory read = record { taken = (bytes, read.0.consumed, omega (arith, read.0.within)); faults = omega (arith, read.1); ends = omega (arith, read.0.unended) }

  pub told_took : HasTold b n o x r → Took b n
  told_took (end, m, (bytes, lines, read, shown, wrote), tells) = took_read bytes end read

  later_by : Way b n o x r → o.faults ≤ x.faults
  later_by (Told bytes vs end read ends other is text kept) = omega (arith, kept)
  later_by (Starved bytes vs end read ends calm is text kept) = omega (arith, kept)
  later_by (Cut bytes vs end read ends is front later rose) = later

  pub told_later : HasTold b n o x r → o.faults ≤ x.faults
  told_later told = later_by (way_of told)

  pub told_among : HasTold b n o x r → Contains (0 ∷ 2 ∷ 3 ∷ 4 ∷ 5 ∷ 9 ∷ 11 ∷ []) r.status
  told_among told = by (among (way_of told))
    where
      by : Contains (0 ∷ 3 ∷ 4 ∷ 5 ∷ 11 ∷ []) r.status → Contains (0 ∷ 2 ∷ 3 ∷ 4 ∷ 5 ∷ 9 ∷ 11 ∷ []) r.status
      by (zero, l, e) = (0, lit< tt, e)
      by (suc (zero), l, e) = (2, lit< tt, e)
      by (suc (suc (zero)), l, e) = (3, lit< tt, e)
      by (suc (suc (suc (zero))), l, e) = (4, lit< tt, e)
      by (suc (suc (suc (suc (zero)))), l, e) = (6, lit< tt, e)
      by (suc (suc (suc (suc (suc i)))), l, e) = absurd (omega (arith, l))

  -- neither is status 2 or 9
  told_other : Way b n o x r → (r.status ≡ 2) ⊎ (r.status ≡ 9) → ⊥
  told_other (Told bytes vs end read ends other is text kept) which = by end (ap (λ v. v.status) is) which
    where
      by : (e : ShowEnd) → r.status ≡ (ended_of (told_of e)).status → (r.status ≡ 2) ⊎ (r.status ≡ 9) → ⊥
      by Whole is (inl c) = omega (arith, is, c)
      by Whole is (inr c) = omega (arith, is, c)
      by WriteFault is (inl c) = omega (arith, is, c)
      by WriteFault is (inr c) = omega (arith, is, c)
      by (Bad kind place) is (inl c) = omega (arith, is, c)
      by (Bad kind place) is (inr c) = omega (arith, is, c)
      by (show.Unfinished place) is (inl c) = omega (arith, is, c)
      by (show.Unfinished place) is (inr c) = omega (arith, is, c)
      by Long is (inl c) = omega (arith, is, c)
      by Long is (inr c) = omega (arith, is, c)
      by show.ReadFault is (inl c) = omega (arith, is, c)
      by show.ReadFault is (inr c) = omega (arith, is, c)
      by show.Memory is (inl c) = omega (arith, is, c)
      by show.Memory is (inr c) = omega (arith, is, c)
  told_other (Starved bytes vs end read ends calm is text kept) (inl c) = omega (arith, ap (λ v. v.status) is, c)
  told_other (Starved bytes vs end read ends calm is text kept) (inr c) = omega (arith, ap (λ v. v.status) is, c)
  told_other (Cut bytes vs end read ends is front later rose) (inl c) = omega (arith, ap (λ v. v.status) is, c)
  told_other (Cut bytes vs end read ends is front later rose) (inr c) = omega (arith, ap (λ v. v.status) is, c)

  pub told_bad_word : HasTold b n o x r → r.status ≡ 2 → ⊥
  told_bad_word told two = told_other (way_of told) (inl two)

  pub told_full : HasTold b n o x r → r.status ≡ 9 → ⊥
  told_full told nine = told_other (way_of told) (inr nine)
