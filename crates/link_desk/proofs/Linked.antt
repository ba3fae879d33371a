-- What a desk over a link does.
use Rattle.std.proofs.Common.{Bool, Err, List, None, Ok, Option, Result, Some, [], append-nil, ap, arith, false, inl, inr, refl, subst, sym, true, ℕ, ◌++◌, ◌∙◌, ◌∷◌, ◌≡◌}
use Rattle.std.specs.Io.KnownBytes.{Appends}
use Rattle.std.proofs.KnownBytes.{Appends-kept, Appends-nil}
use Rattle.resp_wire.specs.declared.decoder.Decoder.{Decoder}
use Rattle.store_model.specs.Words.{Words}
use Rattle.store_model.specs.declared.reply.Reply.{Reply}
use Rattle.place_model.specs.declared.heard.Heard.{Heard}
use Rattle.desks.specs.Deeds.{DidAsk, DidNote, DidStop}
use Rattle.desks.specs.Faults.{HasCounts, IsFaultOf, IsNotEnded, IsOpen, IsTimely, first_fault}
use Rattle.desks.specs.declared.desk.DeskFault.{DeskFault}
use Rattle.desks.specs.declared.desk.DeskFault.TheVariants.{Closed, Ended, Flood, Full, Link, Memory, Wire}
use Rattle.link_desk.specs.CarriesLaws.{CarriesDeeds-stays, come_none}
use Rattle.link_desk.specs.Exchanges.{HasExchanged, RefusesBy, RefusesWords}
use Rattle.link_desk.specs.Hearings.{HasCome, HasLinkCause, reply_values}
use Rattle.link_desk.specs.LinkDeeds.{CarriesDeeds, HasAskedMore, IsOfLink, LinkDeskView, StandsReady, WasFaulted, command_bytes, link_desk_view, standing_at, standing_of}

-- a desk that answered no fault and wasn't stopped stands ready
shown : (fault : Option DeskFault) (stopped : Bool) → IsOpen fault stopped → standing_of fault stopped ≡ StandsReady
shown fault stopped a = subst (λ f. standing_of f stopped ≡ StandsReady) (sym a.no_fault) (subst (λ b. standing_of None b ≡ StandsReady) (sym a.no_stop) refl)

-- and after a fault of its link it doesn't
faulted : (f : DeskFault) → IsOfLink f → standing_at f ≡ WasFaulted f
faulted Link k = refl
faulted (Wire kind place) k = refl
faulted Flood k = refl
faulted Memory k = refl
faulted (Full entries bytes) k = absurd k
faulted Closed k = absurd k
faulted Ended k = absurd k

faulted_since : (f : DeskFault) (fault fault2 : Option DeskFault) (stopped stopped2 : Bool) → IsOfLink f → IsOpen fault stopped → fault2 ≡ first_fault fault f → standing_of fault2 stopped2 ≡ WasFaulted f
faulted_since f fault fault2 stopped stopped2 k opened e = subst (λ o. standing_of o stopped2 ≡ WasFaulted f) (sym (e ∙ ap (λ o. first_fault o f) opened.no_fault)) (faulted f k)

-- the faults of an exchange are those of a link
of_link : (x x2 y y2 : ℕ) (f : DeskFault) → HasLinkCause {T = Reply} x x2 y y2 (Err f) → IsOfLink f
of_link x x2 y y2 Link h = tt
of_link x x2 y y2 (Wire kind place) h = tt
of_link x x2 y y2 Flood h = tt
of_link x x2 y y2 Memory h = tt
of_link x x2 y y2 (Full entries bytes) h = absurd h
of_link x x2 y y2 Closed h = absurd h
of_link x x2 y y2 Ended h = absurd h

-- a desk that refused without its link stands as before
stands_on : (fault fault2 : Option DeskFault) (stopped stopped2 : Bool) (f : DeskFault) → f ≡ Ended → IsTimely fault stopped f → fault2 ≡ first_fault fault f → stopped2 ≡ stopped → standing_of fault2 stopped2 ≡ standing_of fault stopped
stands_on fault fault2 stopped stopped2 f ended timely e k =
    subst (λ o. standing_of o stopped2 ≡ standing_of fault stopped) (sym e) (subst (λ b. standing_of (first_fault fault f) b ≡ standing_of fault stopped) (sym k) (by fault stopped timely)) where
      by : (fault : Option DeskFault) (stopped : Bool) → IsTimely fault stopped f → standing_of (first_fault fault f) stopped ≡ standing_of fault stopped
      by None false t = absurd (subst IsNotEnded ended t)
      by None true t = ap standing_at ended
      by (Some g) stopped t = refl

-- an ended one isn't ready
ended_by : (fault : Option DeskFault) (stopped : Bool) (s : LinkDeskView) (words : Words) (f : DeskFault) → f ≡ Ended → IsTimely fault stopped f → RefusesBy (standing_of fault stopped) s words f s
ended_by None false s words f ended t = absurd (subst IsNotEnded ended t)
ended_by None true s words f ended t = (ended, refl)
ended_by (Some Link) stopped s words f ended t = (ended, refl)
ended_by (Some (Wire kind place)) stopped s words f ended t = (ended, refl)
ended_by (Some Flood) stopped s words f ended t = (ended, refl)
ended_by (Some (Full entries bytes)) stopped s words f ended t = (ended, refl)
ended_by (Some Closed) stopped s words f ended t = (ended, refl)
ended_by (Some Ended) stopped s words f ended t = (ended, refl)
ended_by (Some Memory) stopped s words f ended t = (ended, refl)

module _ (x a : Option (List ℕ)) (d : Decoder) (ns : List Heard) where
  -- a call that a desk refused without its link
  pub refused : (fault fault2 : Option DeskFault) (stopped stopped2 : Bool) (f : DeskFault) → f ≡ Ended → IsTimely fault stopped f → fault2 ≡ first_fault fault f → stopped2 ≡ stopped
      → CarriesDeeds (link_desk_view (standing_of fault stopped) x a d ns) [] (link_desk_view (standing_of fault2 stopped2) x a d ns)
  refused fault fault2 stopped stopped2 f ended timely e k =
      subst (λ o. CarriesDeeds (link_desk_view (standing_of fault stopped) x a d ns) [] (link_desk_view o x a d ns)) (sym (stands_on fault fault2 stopped stopped2 f ended timely e k))
      (CarriesDeeds-stays (link_desk_view (standing_of fault stopped) x a d ns))

  -- an ask among them
  pub refused_words : (words : Words) (fault fault2 : Option DeskFault) (stopped stopped2 : Bool) (f : DeskFault) → f ≡ Ended → IsTimely fault stopped f → fault2 ≡ first_fault fault f → stopped2 ≡ stopped
      → RefusesWords (link_desk_view (standing_of fault stopped) x a d ns) words f (link_desk_view (standing_of fault2 stopped2) x a d ns)
  refused_words words fault fault2 stopped stopped2 f ended timely e k =
      subst (λ o. RefusesWords (link_desk_view (standing_of fault stopped) x a d ns) words f (link_desk_view o x a d ns)) (sym (stands_on fault fault2 stopped stopped2 f ended timely e k))
      (ended_by fault stopped (link_desk_view (standing_of fault stopped) x a d ns) words f ended timely)

  -- a note for which there was no memory
  pub not_noted : (fault fault1 fault2 : Option DeskFault) (stopped stopped1 stopped2 : Bool) (ns2 : List Heard) → IsOpen fault stopped → IsOpen fault1 stopped1 → fault2 ≡ first_fault fault1 Memory → ns2 ≡ ns
      → CarriesDeeds (link_desk_view (standing_of fault stopped) x a d ns) [] (link_desk_view (standing_of fault2 stopped2) x a d ns2)
  not_noted fault fault1 fault2 stopped stopped1 stopped2 ns2 opened opened1 e same =
      subst (λ o. CarriesDeeds (link_desk_view o x a d ns) [] (link_desk_view (standing_of fault2 stopped2) x a d ns2)) (sym (shown fault stopped opened))
      (subst (λ o. CarriesDeeds (link_desk_view StandsReady x a d ns) [] (link_desk_view o x a d ns2)) (sym (faulted_since Memory fault1 fault2 stopped1 stopped2 tt opened1 e))
      (subst (λ l. CarriesDeeds (link_desk_view StandsReady x a d ns) [] (link_desk_view (WasFaulted Memory) x a d l)) (sym same)
      (([], idle), tt, sym (append-nil ns)))) where
        idle : HasAskedMore (link_desk_view StandsReady x a d ns) [] [] Memory (link_desk_view (WasFaulted Memory) x a d ns)
        idle = record { front = []; behind = command_bytes []; cut = refl; went = Appends-nil x; kind = tt; came = λ before rest stands. ([], before, rest, come_none before rest a, tt, inl (inr refl, refl)) }

  -- a note that was taken
  pub noted : (fault : Option DeskFault) (stopped : Bool) (ns2 : List Heard) (heard : Heard) → IsOpen fault stopped → ns2 ≡ ns ++ heard ∷ []
      → CarriesDeeds (link_desk_view (standing_of fault stopped) x a d ns) (DidNote heard ∷ []) (link_desk_view (standing_of fault stopped) x a d ns2)
  noted fault stopped ns2 heard opened is =
      subst (λ o. CarriesDeeds (link_desk_view o x a d ns) (DidNote heard ∷ []) (link_desk_view o x a d ns2)) (sym (shown fault stopped opened))
      (record { went = Appends-nil x; came = λ before rest stands. (before, rest, come_none before rest a, stands) }, tt, is)

  -- a stop that was taken
  pub halted : (fault fault2 : Option DeskFault) (stopped : Bool) → IsOpen fault stopped → fault2 ≡ None
      → CarriesDeeds (link_desk_view (standing_of fault stopped) x a d ns) (DidStop ∷ []) (link_desk_view (standing_of fault2 true) x a d ns)
  halted fault fault2 stopped opened e =
      subst (λ o. CarriesDeeds (link_desk_view o x a d ns) (DidStop ∷ []) (link_desk_view (standing_of fault2 true) x a d ns)) (sym (shown fault stopped opened))
      (subst (λ f. CarriesDeeds (link_desk_view StandsReady x a d ns) (DidStop ∷ []) (link_desk_view (standing_of f true) x a d ns)) (sym e)
      (record { went = Appends-nil x; came = λ before rest stands. (before, rest, come_none before rest a, stands) }, tt, sym (append-nil ns)))

module _ (x y a b : Option (List ℕ)) (d e : Decoder) (ns : List Heard) (words : Words) where
  -- a command that was answered
  pub asked : (fault : Option DeskFault) (stopped : Bool) (at : ℕ) (reply : Reply) → IsOpen fault stopped → HasExchanged x y a b d e words (Ok reply)
      → CarriesDeeds (link_desk_view (standing_of fault stopped) x a d ns) (DidAsk at words reply ∷ []) (link_desk_view (standing_of fault stopped) y b e ns)
  asked fault stopped at reply opened h =
      subst (λ o. CarriesDeeds (link_desk_view o x a d ns) (DidAsk at words reply ∷ []) (link_desk_view o y b e ns)) (sym (shown fault stopped opened)) (
        record {
          went = subst (Appends x y) (sym (append-nil (command_bytes words))) h.0;
          came = λ before rest stands.
              let n = h.2 before rest stands in
              (n.0, n.1, subst (λ vs. HasCome before rest a b vs n.0 n.1) (sym (append-nil (reply_values reply))) n.2, n.3);
        },
        (h.1, tt),
        sym (append-nil ns),
      )

  -- the command of an exchange that failed has no reply
  unanswered : (f : DeskFault) → IsOfLink f → HasExchanged x y a b d e words (Err f) → HasAskedMore (link_desk_view StandsReady x a d ns) [] words f (link_desk_view (WasFaulted f) y b e ns)
  unanswered f k (inl ((front, behind, cut, went), kept, kind)) = record {
    front = front;
    behind = behind;
    cut = cut;
    went = went;
    kind = k;
    came = λ before rest stands. ([], before, rest ++ [], record { stream = []; came = Appends-kept a a b [] (Appends-nil a) kept; leads = (refl, refl) }, tt, inl (kind, refl));
  }
  unanswered f k (inr (went, none)) = record {
    front = command_bytes words;
    behind = [];
    cut = sym (append-nil (command_bytes words));
    went = went;
    kind = k;
    came = λ before rest stands.
        let n = none before rest stands in
        (n.values, n.from, n.left, n.come, n.pushed, inr (refl, n.why));
  }

  -- a command that was not
  pub failed : (fault fault1 fault2 : Option DeskFault) (stopped stopped1 stopped2 : Bool) (f : DeskFault) (p p2 q q2 : ℕ) → IsOpen fault stopped → IsOpen fault1 stopped1 → fault2 ≡ first_fault fault1 f → HasLinkCause {T = Reply} p p2 q q2 (Err f) → HasExchanged x y a b d e words (Err f)
      → CarriesDeeds (link_desk_view (standing_of fault stopped) x a d ns) [] (link_desk_view (standing_of fault2 stopped2) y b e ns)
  failed fault fault1 fault2 stopped stopped1 stopped2 f p p2 q q2 opened opened1 is cause h =
      let k = of_link p p2 q q2 f cause in
      subst (λ o. CarriesDeeds (link_desk_view o x a d ns) [] (link_desk_view (standing_of fault2 stopped2) y b e ns)) (sym (shown fault stopped opened))
      (subst (λ o. CarriesDeeds (link_desk_view StandsReady x a d ns) [] (link_desk_view o y b e ns)) (sym (faulted_since f fault1 fault2 stopped1 stopped2 k opened1 is))
      ((words, unanswered f k h), tt, sym (append-nil ns)))

  -- and it is the one that was asked
  pub failed_words : (fault fault1 fault2 : Option DeskFault) (stopped stopped1 stopped2 : Bool) (f : DeskFault) (p p2 q q2 : ℕ) → IsOpen fault stopped → IsOpen fault1 stopped1 → fault2 ≡ first_fault fault1 f → HasLinkCause {T = Reply} p p2 q q2 (Err f) → HasExchanged x y a b d e words (Err f)
      → RefusesWords (link_desk_view (standing_of fault stopped) x a d ns) words f (link_desk_view (standing_of fault2 stopped2) y b e ns)
  failed_words fault fault1 fault2 stopped stopped1 stopped2 f p p2 q q2 opened opened1 is cause h =
      subst (λ o. RefusesWords (link_desk_view o x a d ns) words f (link_desk_view (standing_of fault2 stopped2) y b e ns)) (sym (shown fault stopped opened))
      (faulted_since f fault1 fault2 stopped1 stopped2 (of_link p p2 q q2 f cause) opened1 is, refl, h)

-- the fault of an exchange is one of a desk over a link
pub faulty : (shared : Bool) (x x2 y y2 : ℕ) (f : DeskFault) → HasLinkCause {T = Reply} x x2 y y2 (Err f) → IsFaultOf true shared x x2 y y2 f
faulty shared x x2 y y2 Link h = (refl, h.1)
faulty shared x x2 y y2 (Wire kind place) h = refl
faulty shared x x2 y y2 Flood h = refl
faulty shared x x2 y y2 Memory h = tt
faulty shared x x2 y y2 (Full entries bytes) h = absurd h
faulty shared x x2 y y2 Closed h = absurd h
faulty shared x x2 y y2 Ended h = absurd h

-- and comes from an open desk, which answers none but it
pub in_time : (fault : Option DeskFault) (stopped : Bool) (x x2 y y2 : ℕ) (f : DeskFault) → IsOpen fault stopped → HasLinkCause {T = Reply} x x2 y y2 (Err f) → IsTimely fault stopped f
in_time fault stopped x x2 y y2 f opened h = subst (λ o. IsTimely o stopped f) (sym opened.no_fault) (subst (λ b. IsTimely None b f) (sym opened.no_stop) (by f h)) where
  by : (f : DeskFault) → HasLinkCause {T = Reply} x x2 y y2 (Err f) → IsNotEnded f
  by Link h = tt
  by (Wire kind place) h = tt
  by Flood h = tt
  by Memory h = tt
  by (Full entries bytes) h = tt
  by Closed h = tt
  by Ended h = absurd h

-- counts that stay
same_counts : (x x2 y y2 : ℕ) → x2 ≡ x → y2 ≡ y → HasCounts x x2 y y2
same_counts x x2 y y2 p q = record { later_faults = omega (arith, p); later_ends = omega (arith, q) }

pub counts : {T : Type 0} (x x2 y y2 : ℕ) (r : Result T DeskFault) → HasLinkCause x x2 y y2 r → HasCounts x x2 y y2
counts x x2 y y2 (Ok t) h = same_counts x x2 y y2 h.0 h.1
counts x x2 y y2 (Err Link) h = h.0
counts x x2 y y2 (Err (Wire kind place)) h = same_counts x x2 y y2 h.0 h.1
counts x x2 y y2 (Err Flood) h = same_counts x x2 y y2 h.0 h.1
counts x x2 y y2 (Err Memory) h = same_counts x x2 y y2 h.0 h.1
counts x x2 y y2 (Err (Full entries bytes)) h = absurd h
counts x x2 y y2 (Err Closed) h = absurd h
counts x x2 y y2 (Err Ended) h = absurd h
