-- A block goes on by one command, and ends.
use Rattle.std.proofs.Common.{◌≡◌, inl, inr, ℕ, ◌≤◌, Bool, true, List, [], ◌∷◌, ◌++◌, Option, None, Some, Result, Ok, Err, refl, sym, subst, ap, ◌∙◌, append-nil, append_assoc, arith}
use Rattle.std.specs.Prelude.{⊤, OnOk}
use Rattle.links.specs.Causes.{Rose}
use Rattle.wire_values.specs.declared.value.Value.{Value}
use Rattle.store_model.specs.Words.{Words}
use Rattle.store_model.specs.declared.reply.Reply.{Reply}
use Rattle.command_blocks.specs.Calls.{Call, call}
use Rattle.command_blocks.specs.Cores.{is_saying}
use Rattle.command_blocks.specs.EnvelopeTexts.{plain_setting}
use Rattle.command_blocks.specs.Scripts.{Off, Over, Plan, Say, Script, after_call, next_words, script_of}
use Rattle.block_laws.specs.Traces.{IsTrace}
use Rattle.block_laws.proofs.Traces.{next_trace}
use Rattle.block_core.specs.Cores.{HasHad, core_left}
use Rattle.block_core.specs.declared.block.BlockCore.{BlockCore}
use Rattle.desks.specs.Deeds.{Deed, DidAsk, DidNote, DidStop}
use Rattle.desks.specs.Faults.{HasCounts, IsFaultOf}
use Rattle.desks.specs.declared.desk.DeskFault.{DeskFault}
use Rattle.desks.specs.declared.desk.DeskFault.TheVariants as fault
use Rattle.publish_run.specs.Saids.{DeskShows, EndsWith, HasCutAfter, HasFailed, HasHeardReply, HasSaidBlock, HasSaidOne, IsAmid, IsLater, IsSaidBlock, IsSaidOne, StandsOpen, calls_said}
use Rattle.publish_run.specs.declared.saying.SayFault.{SayFault}
use Rattle.publish_run.specs.declared.saying.SayFault.TheVariants.{Desk, Memory, Refused}

pub calls-append : (l m : List Deed) → calls_said (l ++ m) ≡ calls_said l ++ calls_said m
calls-append [] m = refl
calls-append (DidAsk at words reply ∷ l) m = ap (λ k. call at words reply.answer ∷ k) (calls-append l m)
calls-append (DidNote heard ∷ l) m = calls-append l m
calls-append (DidStop ∷ l) m = calls-append l m

-- counts that rose since a later moment rose since an earlier one
rose_since : (a b c : ℕ) → a ≤ b → Rose b c → Rose a c
rose_since a b c before rose = omega (arith, before, rose)

-- the cause of a fault, seen from an earlier moment
pub cause_since : (remote shared : Bool) (a b c x y z : ℕ) (f : DeskFault) → a ≤ b → x ≤ y → IsFaultOf remote shared b c y z f → IsFaultOf remote shared a c x z f
cause_since remote shared a b c x y z fault.Link p q (r, inl s) = (r, inl (rose_since a b c p s))
cause_since remote shared a b c x y z fault.Link p q (r, inr s) = (r, inr (rose_since x y z q s))
cause_since remote shared a b c x y z (fault.Wire kind place) p q h = h
cause_since remote shared a b c x y z fault.Flood p q h = h
cause_since remote shared a b c x y z (fault.Full entries bytes) p q h = h
cause_since remote shared a b c x y z fault.Closed p q h = h
cause_since remote shared a b c x y z fault.Ended p q h = h
cause_since remote shared a b c x y z fault.Memory p q h = h

-- later counts of a desk
pub later_self : (d : DeskShows) → IsLater d d
later_self d = record { faults = omega arith; ends = omega arith }

pub later_on : (a b c : DeskShows) → IsLater a b → IsLater b c → IsLater a c
later_on a b c h k = record { faults = omega (arith, h.faults, k.faults); ends = omega (arith, h.ends, k.ends) }

pub failed_since : (remote shared : Bool) (a b c : DeskShows) (f : DeskFault) → IsLater a b → HasFailed remote shared b c f → HasFailed remote shared a c f
failed_since remote shared a b c f later h = record { shown = h.shown; cause = cause_since remote shared a.faults b.faults c.faults a.ends b.ends c.ends f later.faults later.ends h.cause; timely = h.timely }

-- ---- a block's commands

-- the next words of what is said, whatever their moment
pub saying_next : (p : Script) → is_saying p ≡ true → next_words p 0 ≡ None → ⊥
saying_next Over a b = cc
saying_next Off a b = cc
saying_next (Say w go) a b = cc

pub saying_on : (p : Script) → is_saying p ≡ true → p ≡ Off → ⊥
saying_on Over a b = cc
saying_on Off a b = cc
saying_on (Say w go) a b = cc

pub on_ok : {T : Type 0} (P : Type 0) (r : Result T SayFault) → P → OnOk r P
on_ok P (Ok x) p = p
on_ok P (Err e) p = tt

pub later_counts : (fault fault2 : Option DeskFault) (stopped stopped2 : Bool) (a b x y : ℕ) → HasCounts a b x y → IsLater (record { fault = fault; stopped = stopped; faults = a; ends = x }) (record { fault = fault2; stopped = stopped2; faults = b; ends = y })
later_counts fault fault2 stopped stopped2 a b x y h = record { faults = h.later_faults; ends = h.later_ends }

module _ {D S E : Type 0} (goes : D → List Deed → D → Type 0) (joins : (s t u : D) (l m : List Deed) → goes s l t → goes t m u → goes s (l ++ m) u) (refuses : D → Words → DeskFault → D → Type 0) (remote shared : Bool)
    (left : S → Script) (had : Plan → List Call → S → Type 0) (tell : Plan → List Call → E → Type 0) (s p : ℕ) (plan : Plan) where
  pub amid_first : (desk : D) (core : BlockCore S E) → goes desk [] desk → HasHad left had tell s p plan [] core → IsAmid goes left had tell s p plan desk desk core
  amid_first desk core stays h = record { deeds = []; went = stays; had_so = h }

  module _ (desk desk2 desk3 : D) (core core2 : BlockCore S E) (shows shows2 shows3 : DeskShows) (a : IsAmid goes left had tell s p plan desk desk2 core) where
    -- one command more
    pub amid_on : HasSaidOne goes refuses remote shared left had tell s p plan (calls_said a.deeds) desk2 desk3 shows2 shows3 core2 (Ok tt) → IsAmid goes left had tell s p plan desk desk3 core2
    amid_on h = record {
      deeds = a.deeds ++ h.deeds;
      went = joins desk desk2 desk3 a.deeds h.deeds a.went h.went;
      had_so = subst (λ l. HasHad left had tell s p plan l core2) (sym (calls-append a.deeds h.deeds)) h.kept;
    }

    ends_later : (front calls : List Call) (answer : Value) → EndsWith calls answer → EndsWith (front ++ calls) answer
    ends_later front calls answer (before, at, words, is) = (front ++ before, at, words, ap (λ l. front ++ l) is ∙ sym (append_assoc front before (call at words answer ∷ [])))

    -- up to where nothing more was said
    gone : (deeds : List Deed) → deeds ≡ [] → goes desk (a.deeds ++ deeds) desk2
    gone deeds none = subst (λ l. goes desk l desk2) (sym (ap (λ l. a.deeds ++ l) none ∙ append-nil a.deeds)) a.went

    come_so : (f : SayFault) (deeds : List Deed) (rest : Script) → IsLater shows shows2 → IsSaidOne (λ words g. refuses desk2 words g desk3) remote shared shows2 shows3 deeds rest (Err f)
        → IsSaidBlock (HasCutAfter goes refuses desk (a.deeds ++ deeds) desk3) remote shared (tell plan) shows shows3 (a.deeds ++ deeds) rest (Err f)
    come_so (Desk f) deeds rest later (failed, none, (words, next, cut)) = (failed_since remote shared shows shows2 shows3 f later failed, (words, next, (desk2, gone deeds none, cut)))
    come_so (Refused answer) deeds rest later h = (h.0, h.1, subst (λ l. EndsWith l answer) (sym (calls-append a.deeds deeds)) (ends_later (calls_said a.deeds) (calls_said deeds) answer h.2))
    come_so Memory deeds rest later h = h

    -- saying ended amid the block
    pub amid_end : (f : SayFault) → IsLater shows shows2 → HasSaidOne goes refuses remote shared left had tell s p plan (calls_said a.deeds) desk2 desk3 shows2 shows3 core2 (Err f)
        → HasSaidBlock goes refuses remote shared tell s p plan desk desk3 shows shows3 (Err f)
    amid_end f later h = record {
      deeds = a.deeds ++ h.deeds;
      rest = h.rest;
      went = joins desk desk2 desk3 a.deeds h.deeds a.went h.went;
      trace = subst (λ l. IsTrace (script_of plain_setting s p plan) l h.rest) (sym (calls-append a.deeds h.deeds)) h.trace;
      come = come_so f h.deeds h.rest later h.come;
    }

    -- there was no memory to go on, or it was whole
    pub amid_memory : StandsOpen shows2 → HasSaidBlock goes refuses remote shared tell s p plan desk desk2 shows shows2 (Err Memory)
    amid_memory opened = record { deeds = a.deeds; rest = core_left left core; went = a.went; trace = a.had_so.trace; come = opened }

    pub amid_whole : (end : E) → StandsOpen shows2 → core_left left core ≡ Over → tell plan (calls_said a.deeds) end → HasSaidBlock goes refuses remote shared tell s p plan desk desk2 shows shows2 (Ok end)
    amid_whole end opened over told = record { deeds = a.deeds; rest = core_left left core; went = a.went; trace = a.had_so.trace; come = (opened, over, told) }

  -- one command was said, and this came of its reply
  pub said_one : (desk desk2 : D) (core core2 : BlockCore S E) (shows shows2 : DeskShows) (calls : List Call) (words : Words) (reply : Reply) (result : Result ⊤ SayFault)
      → goes desk (DidAsk 0 words reply ∷ []) desk2 → StandsOpen shows2 → HasHad left had tell s p plan calls core → next_words (core_left left core) 0 ≡ Some words → HasHeardReply left had tell s p plan calls words reply core2 result
      → HasSaidOne goes refuses remote shared left had tell s p plan calls desk desk2 shows shows2 core2 result
  said_one desk desk2 core core2 shows shows2 calls words reply (Ok u) went opened h next heard = record {
    deeds = DidAsk 0 words reply ∷ [];
    rest = core_left left core2;
    went = went;
    trace = heard.0.trace;
    come = (opened, heard.1);
    kept = heard.0;
  }
  said_one desk desk2 core core2 shows shows2 calls words reply (Err (Refused answer)) went opened h next heard = record {
    deeds = DidAsk 0 words reply ∷ [];
    rest = core_left left core2;
    went = went;
    trace = heard.1.trace;
    come = (opened, heard.2, ([], 0, words, ap (λ v. call 0 words v ∷ []) (sym heard.0)));
    kept = tt;
  }
  said_one desk desk2 core core2 shows shows2 calls words reply (Err Memory) went opened h next heard = record {
    deeds = DidAsk 0 words reply ∷ [];
    rest = after_call (core_left left core) (call 0 words reply.answer);
    went = went;
    trace = next_trace (script_of plain_setting s p plan) calls (core_left left core) (after_call (core_left left core) (call 0 words reply.answer)) (call 0 words reply.answer) (omega arith) h.trace next refl;
    come = opened;
    kept = tt;
  }
  said_one desk desk2 core core2 shows shows2 calls words reply (Err (Desk f)) went opened h next heard = absurd heard

  -- the desk took no command
  pub said_none : (desk desk2 : D) (core : BlockCore S E) (shows shows2 : DeskShows) (calls : List Call) (words : Words) (f : DeskFault) → goes desk [] desk2 → refuses desk words f desk2 → next_words (core_left left core) 0 ≡ Some words
      → HasFailed remote shared shows shows2 f → HasHad left had tell s p plan calls core
      → HasSaidOne goes refuses remote shared left had tell s p plan calls desk desk2 shows shows2 core (Err (Desk f))
  said_none desk desk2 core shows shows2 calls words f went cut next failed h = record {
    deeds = [];
    rest = core_left left core;
    went = went;
    trace = subst (λ l. IsTrace (script_of plain_setting s p plan) l (core_left left core)) (sym (append-nil calls)) h.trace;
    come = (failed, refl, (words, next, cut));
    kept = tt;
  }

  -- there was no memory for the next command
  pub said_nothing : (desk : D) (core : BlockCore S E) (shows : DeskShows) (calls : List Call) → goes desk [] desk → StandsOpen shows → HasHad left had tell s p plan calls core
      → HasSaidOne goes refuses remote shared left had tell s p plan calls desk desk shows shows core (Err Memory)
  said_nothing desk core shows calls stays opened h = record {
    deeds = [];
    rest = core_left left core;
    went = stays;
    trace = subst (λ l. IsTrace (script_of plain_setting s p plan) l (core_left left core)) (sym (append-nil calls)) h.trace;
    come = opened;
    kept = tt;
  }
