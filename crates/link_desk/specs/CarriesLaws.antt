-- What a desk's link carried goes on.
use Rattle.std.specs.Io.KnownBytes.{Appends}
use Rattle.std.specs.Prelude.{List, Option, [], flat_map, length, refl, ℕ, ◌+◌, ◌++◌, ◌∷◌, ◌≡◌}
use Rattle.std.proofs.Common.{ap, append-nil, append_assoc, subst, sym, ◌∙◌}
use Rattle.std.proofs.KnownBytes.{Appends-nil, Appends-trans}
use Rattle.std.proofs.lemmas.Grind.{flat_map-append}
use Rattle.wire_values.specs.declared.value.Value.{Value}
use Rattle.wire_grammar.specs.Streams.{Leads}
use Rattle.desks.specs.Deeds.{Deed, DidAsk, DidNote, DidStop}
use Rattle.link_desk.specs.Hearings.{HasCome}
use Rattle.desks.specs.declared.desk.DeskFault.{DeskFault}
use Rattle.store_model.specs.Words.{Words}
use Rattle.link_desk.specs.LinkDeeds.{AreReplies, CarriesDeeds, CarriesBy, CarriesTo, HasAsked, HasAskedMore, LinkDeskView, LinkStanding, StandsReady, WasFaulted, WasStopped, bytes_asked, notes_told, values_told}

-- values after values
leads_joins : (p : ℕ) (s : List ℕ) (vs : List Value) (q : ℕ) (left t : List ℕ) (ws : List Value) (r : ℕ) (end : List ℕ) → Leads p s vs q left → Leads q (left ++ t) ws r end → Leads p (s ++ t) (vs ++ ws) r end
leads_joins p s [] q left t ws r end a b = subst (λ x. Leads p (x ++ t) ws r end) (sym a.0) (subst (λ (i : ℕ). Leads i (left ++ t) ws r end) (sym a.1) b)
leads_joins p s (v ∷ vs) q left t ws r end a b =
    (a.0, a.1 ++ t, ap (λ l. l ++ t) a.2 ∙ append_assoc a.0 a.1 t, a.3, leads_joins (p + length a.0) a.1 vs q left t ws r end a.4 b)

-- nothing came
pub come_none : (before : ℕ) (rest : List ℕ) (a : Option (List ℕ)) → HasCome before rest a a [] before rest
come_none before rest a = record { stream = []; came = Appends-nil a; leads = (append-nil rest, refl) }

-- more came
pub come_joins : (before : ℕ) (rest : List ℕ) (a b c : Option (List ℕ)) (vs : List Value) (from : ℕ) (left : List ℕ) (ws : List Value) (from2 : ℕ) (left2 : List ℕ)
    → HasCome before rest a b vs from left → HasCome from left b c ws from2 left2 → HasCome before rest a c (vs ++ ws) from2 left2
come_joins before rest a b c vs from left ws from2 left2 h k = record {
  stream = h.stream ++ k.stream;
  came = Appends-trans a b c h.stream k.stream h.came k.came;
  leads = subst (λ l. Leads before l (vs ++ ws) from2 left2) (append_assoc rest h.stream k.stream) (leads_joins before (rest ++ h.stream) vs from left k.stream ws from2 left2 h.leads k.leads);
}

AreReplies-joins : (l m : List Deed) → AreReplies l → AreReplies m → AreReplies (l ++ m)
AreReplies-joins [] m a b = b
AreReplies-joins (DidAsk at words reply ∷ l) m a b = (a.0, AreReplies-joins l m a.1 b)
AreReplies-joins (DidNote heard ∷ l) m a b = AreReplies-joins l m a b
AreReplies-joins (DidStop ∷ l) m a b = AreReplies-joins l m a b

-- a desk stays where it is
pub CarriesDeeds-stays : (s : LinkDeskView) → CarriesDeeds s [] s
CarriesDeeds-stays s = by s.standing refl where
  by : (o : LinkStanding) → s.standing ≡ o → CarriesBy o s [] s
  by StandsReady e = (
    subst (λ o. CarriesTo o s [] s) (sym e) (record { went = Appends-nil s.sent; came = λ before rest stands. (before, rest, come_none before rest s.received, stands) }),
    tt,
    sym (append-nil s.notes),
  )
  by WasStopped e = (refl, refl)
  by (WasFaulted f) e = (refl, refl)

module _ (s t u : LinkDeskView) (l m : List Deed) where
  asked_joins : HasAsked s l t → HasAsked t m u → HasAsked s (l ++ m) u
  asked_joins a b = record {
    went = subst (Appends s.sent u.sent) (sym (flat_map-append bytes_asked l m)) (Appends-trans s.sent t.sent u.sent _ _ a.went b.went);
    came = λ before rest stands.
        let x = a.came before rest stands in
        let y = b.came x.0 x.1 x.3 in
        (y.0, y.1, subst (λ vs. HasCome before rest s.received u.received vs y.0 y.1) (sym (flat_map-append values_told l m)) (come_joins before rest s.received t.received u.received _ x.0 x.1 _ y.0 y.1 x.2 y.2), y.3);
  }

  -- a command that has no reply, after more deeds
  pub more_joins : (words : Words) (f : DeskFault) → HasAsked s l t → HasAskedMore t m words f u → HasAskedMore s (l ++ m) words f u
  more_joins words f a b = record {
    front = b.front;
    behind = b.behind;
    cut = b.cut;
    went = subst (λ x. Appends s.sent u.sent (x ++ b.front)) (sym (flat_map-append bytes_asked l m))
        (subst (Appends s.sent u.sent) (sym (append_assoc (flat_map bytes_asked l) (flat_map bytes_asked m) b.front)) (Appends-trans s.sent t.sent u.sent _ _ a.went b.went));
    kind = b.kind;
    came = λ before rest stands.
        let x = a.came before rest stands in
        let y = b.came x.0 x.1 x.3 in (
          y.0,
          y.1,
          y.2,
          subst (λ vs. HasCome before rest s.received u.received (vs ++ y.0) y.1 y.2) (sym (flat_map-append values_told l m))
              (subst (λ vs. HasCome before rest s.received u.received vs y.1 y.2) (sym (append_assoc (flat_map values_told l) (flat_map values_told m) y.0)) (come_joins before rest s.received t.received u.received _ x.0 x.1 _ y.1 y.2 x.2 y.3)),
          y.4,
          y.5,
        );
  }

  to_joins : (o : LinkStanding) → HasAsked s l t → CarriesTo o t m u → CarriesTo o s (l ++ m) u
  to_joins StandsReady a b = asked_joins a b
  to_joins WasStopped a b = asked_joins a b
  to_joins (WasFaulted f) a b = (b.0, more_joins b.0 f a b.1)

  notes_joins : t.notes ≡ s.notes ++ flat_map notes_told l → u.notes ≡ t.notes ++ flat_map notes_told m → u.notes ≡ s.notes ++ flat_map notes_told (l ++ m)
  notes_joins a b =
      b ∙ ap (λ x. x ++ flat_map notes_told m) a ∙ append_assoc s.notes (flat_map notes_told l) (flat_map notes_told m) ∙ ap (λ x. s.notes ++ x) (sym (flat_map-append notes_told l m))

-- what leads on from where other deeds led
pub CarriesDeeds-joins : (s t u : LinkDeskView) (l m : List Deed) → CarriesDeeds s l t → CarriesDeeds t m u → CarriesDeeds s (l ++ m) u
CarriesDeeds-joins s t u l m a b = by s.standing t.standing refl refl a b where
  halts : (o : LinkStanding) → CarriesBy o s l t → (m ≡ []) × (u ≡ t) → CarriesBy o s (l ++ m) u
  halts o a b = subst (λ x. CarriesBy o s (l ++ x) u) (sym b.0) (subst (λ x. CarriesBy o s x u) (sym (append-nil l)) (subst (CarriesBy o s l) (sym b.1) a))

  goes_on : (o p : LinkStanding) → s.standing ≡ o → t.standing ≡ p → o ≡ p → (l ≡ []) × (t ≡ s) → CarriesBy p t m u → CarriesBy o s (l ++ m) u
  goes_on o p e d same a b =
      subst (λ x. CarriesBy o s (x ++ m) u) (sym a.0) (subst (λ x. CarriesBy o x m u) a.1 (subst (λ x. CarriesBy x t m u) (sym same) b))

  by : (o p : LinkStanding) → s.standing ≡ o → t.standing ≡ p → CarriesBy o s l t → CarriesBy p t m u → CarriesBy o s (l ++ m) u
  by StandsReady StandsReady e d a b = (
    to_joins s t u l m u.standing (subst (λ o. CarriesTo o s l t) d a.0) b.0,
    AreReplies-joins l m a.1 b.1,
    notes_joins s t u l m a.2 b.2,
  )
  by StandsReady WasStopped e d a b = halts StandsReady a b
  by StandsReady (WasFaulted g) e d a b = halts StandsReady a b
  by WasStopped p e d a b = goes_on WasStopped p e d (sym e ∙ ap (λ (x : LinkDeskView). x.standing) (sym a.1) ∙ d) a b
  by (WasFaulted f) p e d a b = goes_on (WasFaulted f) p e d (sym e ∙ ap (λ (x : LinkDeskView). x.standing) (sym a.1) ∙ d) a b
