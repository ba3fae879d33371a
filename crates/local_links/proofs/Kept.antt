-- Replies and pieces that were kept.
use Rattle.std.proofs.Common.{List, Ok, Result, Some, [], ap, append-nil, append_assoc, arith, inl, inr, length, length-append, refl, subst, sym, take, ℕ, ◌++◌, ◌∙◌, ◌≡◌, ◌≤◌, ◌⊎◌}
use Rattle.std.proofs.lemmas.List.{take-append-le, take_all}
use Rattle.std.specs.Io.KnownBytes.{WriteAppends}
use Rattle.std.proofs.Math.Logic.{∥∥₁_elim}
use Rattle.std.proofs.Props.{props}
use Rattle.net_links.specs.declared.link.NetFault.{NetFault}
use Rattle.desks.specs.Deeds.{Deed}
use Rattle.plain_desk.specs.declared.desk.PlainDesk.{PlainDesk}
use Rattle.sessions.specs.Hearings.{WritesAll, WritesFront}
use Rattle.sessions.specs.declared.talking.Talking.{Talking}
use Rattle.local_links.specs.LocalTalks.{KeepsReplies, IsSentBy, Serves, sent_at}
use Rattle.local_links.specs.declared.link_stage.LinkStage.{LinkStage}
use Rattle.local_links.specs.declared.link_stage.LinkStage.TheVariants.{Asks, Over, Spent}

-- all answers are there
all_kept : (ds : List Deed) (replies replies2 out out2 : List ℕ) → replies2 ≡ replies ++ out → out2 ≡ [] → WritesAll ds (replies ++ out) → WritesAll ds (replies2 ++ out2)
all_kept ds replies replies2 out out2 r o w = ap (λ l. replies2 ++ l) o ∙ append-nil replies2 ∙ r ∙ w

-- a front of them is
front_kept : (ds : List Deed) (replies replies2 out out2 : List ℕ) → (replies2 ≡ replies) ⊎ (replies2 ≡ replies ++ out) → out2 ≡ [] → WritesFront ds (replies ++ out) → WritesFront ds (replies2 ++ out2)
front_kept ds replies replies2 out out2 (inl r) o (more, e) =
    (out ++ more, e ∙ append_assoc replies out more ∙ ap (λ l. l ++ (out ++ more)) (sym (ap (λ l. replies2 ++ l) o ∙ append-nil replies2 ∙ r)))
front_kept ds replies replies2 out out2 (inr r) o (more, e) = (more, e ∙ ap (λ l. l ++ more) (sym (ap (λ l. replies2 ++ l) o ∙ append-nil replies2 ∙ r)))

all_front : (ds : List Deed) (written : List ℕ) → WritesAll ds written → WritesFront ds written
all_front ds written w = ([], sym (append-nil written ∙ w))

module _ (first now : PlainDesk) (sent sent2 piece replies replies2 : List ℕ) (t t2 : Talking) (empty : t2.out.items ≡ []) where
  abbrev ServesNow : LinkStage → List ℕ → Type 0
  ServesNow stage bytes = Serves first now bytes replies2 (record t { out = t2.out }) stage

  kept_all : (ds : List Deed) → replies2 ≡ replies ++ t.out.items → WritesAll ds (replies ++ t.out.items) → WritesAll ds (replies2 ++ t2.out.items)
  kept_all ds r w = all_kept ds replies replies2 t.out.items t2.out.items r empty w

  kept_front : (ds : List Deed) → (replies2 ≡ replies) ⊎ (replies2 ≡ replies ++ t.out.items) → WritesFront ds (replies ++ t.out.items) → WritesFront ds (replies2 ++ t2.out.items)
  kept_front ds r w = front_kept ds replies replies2 t.out.items t2.out.items r empty w

  -- what was asked, after its replies were kept
  pub kept_served : (taken result : LinkStage) → Serves first now (sent_at taken sent piece) replies t taken → KeepsReplies taken t.out.items replies replies2 sent sent2 piece result → ServesNow result sent2
  kept_served Asks Asks s (same, r, e) = subst (ServesNow Asks) (sym e) (
    record {
      talks = record { heard = s.0.talks.heard; stands = s.0.talks.stands; answered = kept_all s.0.talks.heard.deeds r s.0.talks.answered };
      front = s.0.front;
    },
    s.1,
  )
  kept_served Over Over (h, answered, over) (same, r, e) = subst (ServesNow Over) (sym e) (h, kept_all h.deeds r answered, over)
  kept_served Asks Spent s (r, e) = subst (ServesNow Spent) (sym e) (piece, s.0.talks.heard, kept_front s.0.talks.heard.deeds r (all_front s.0.talks.heard.deeds (replies ++ t.out.items) s.0.talks.answered))
  kept_served Over Spent (h, answered, over) (r, e) = subst (ServesNow Spent) (sym e) (piece, h, kept_front h.deeds r (all_front h.deeds (replies ++ t.out.items) answered))
  kept_served Spent Spent (more, h, answered) (r, e) = subst (ServesNow Spent) (sym e) (more, h, kept_front h.deeds r answered)
  kept_served Asks Over s (same, r, e) = absurd (grind arith)
  kept_served Over Asks s (same, r, e) = absurd (grind arith)
  kept_served Spent Asks s (same, r, e) = absurd (grind arith)
  kept_served Spent Over s (same, r, e) = absurd (grind arith)

-- some desk began it
pub since_some : (a b : PlainDesk → Type 0) → ∥ ((first : PlainDesk) × a first) ∥₁ → ((first : PlainDesk) → a first → b first) → ∥ ((first : PlainDesk) × b first) ∥₁
since_some a b h on = ∥∥₁_elim h (hlevel props) (λ s. ∣ (s.0, on s.0 s.1) ∣₁)

-- what was received stays at the front of the replies
pub kept_received : (stage result : LinkStage) (out replies replies2 sent sent2 piece : List ℕ) (at : ℕ) → at ≤ length replies → KeepsReplies stage out replies replies2 sent sent2 piece result → (at ≤ length replies2) × (take at replies2 ≡ take at replies)
kept_received stage result out replies replies2 sent sent2 piece at within k = by result k where
  more : replies2 ≡ replies ++ out → (at ≤ length replies2) × (take at replies2 ≡ take at replies)
  more r = (omega (arith, within, ap length r, length-append replies out), ap (take at) r ∙ take-append-le at replies out within)

  same : replies2 ≡ replies → (at ≤ length replies2) × (take at replies2 ≡ take at replies)
  same r = (omega (arith, within, ap length r), ap (take at) r)

  by : (result : LinkStage) → KeepsReplies stage out replies replies2 sent sent2 piece result → (at ≤ length replies2) × (take at replies2 ≡ take at replies)
  by Asks (is, r, e) = more r
  by Over (is, r, e) = more r
  by Spent (inl r, e) = same r
  by Spent (inr r, e) = more r

-- all of the piece was sent, or nothing
pub kept_sent : (stage result : LinkStage) (out replies replies2 sent sent2 piece : List ℕ) (answer : Result ℕ NetFault) → KeepsReplies stage out replies replies2 sent sent2 piece result → IsSentBy result (length piece) answer → WriteAppends (Some sent) (Some sent2) answer piece
kept_sent stage result out replies replies2 sent sent2 piece answer k is = by result k is where
  Goes : Result ℕ NetFault → Type 0
  Goes r = WriteAppends (Some sent) (Some sent2) r piece

  all : answer ≡ Ok (length piece) → sent2 ≡ sent ++ piece → Goes answer
  all a e = subst Goes (sym a) (e ∙ ap (λ l. sent ++ l) (sym (take_all (length piece) piece (omega arith))))

  by : (result : LinkStage) → KeepsReplies stage out replies replies2 sent sent2 piece result → IsSentBy result (length piece) answer → Goes answer
  by Asks (same, r, e) a = all a e
  by Over (same, r, e) a = all a e
  by Spent (r, e) a = subst Goes (sym a) e
