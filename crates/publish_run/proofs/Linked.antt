-- A script that was said at a desk over a link, as its link carried it.
use Rattle.std.proofs.Common.{◌≡◌, ℕ, ◌++◌, ◌∷◌, Bool, List, [], None, Option, Some, ap, ◌∙◌}
use Rattle.net_links.specs.LinkViews.{LinkView}
use Rattle.net_links.specs.Traffics.{ClosesOne, KeepsClosed}
use Rattle.links.specs.Views.{SinkView}
use Rattle.command_blocks.specs.Scripts.{Plan}
use Rattle.desks.specs.Deeds.{Deed}
use Rattle.desks.specs.Faults.{IsOpen}
use Rattle.desks.specs.declared.desk.DeskFault.{DeskFault}
use Rattle.store_model.specs.Words.{Words}
use Rattle.link_desk.specs.LinkDeeds.{StandsReady, standing_of}
use Rattle.publish_script.specs.Scripts.{Blocks}
use Rattle.publish_run.specs.Blocks.{drawn_after}
use Rattle.publish_run.specs.Publishings.{HasSaidScript}
use Rattle.publish_run.specs.Saids.{DeskShows, HasCutAfter, calls_said}
use Rattle.publish_run.proofs.Goings.{cause_by}
use Rattle.publish_run.specs.declared.ending.PublishingEnd.{PublishingEnd}

-- what was said at a desk was said at what is known of it
pub said_by_view : {D V : Type 0} (view : D → V) (goes : V → List Deed → V → Type 0) (refuses : V → Words → DeskFault → V → Type 0) (remote shared : Bool) (s n : ℕ) (plans : List Plan) (desk desk2 : D) (shows shows2 : DeskShows) (old new : SinkView) (e : PublishingEnd)
    → HasSaidScript (λ a l b. goes (view a) l (view b)) (λ a words f b. refuses (view a) words f (view b)) remote shared s n plans desk desk2 shows shows2 old new e → HasSaidScript goes refuses remote shared s n plans (view desk) (view desk2) shows shows2 old new e
said_by_view view goes refuses remote shared s n plans desk desk2 shows shows2 old new e h = record {
  done = h.done;
  left = h.left;
  all = h.all;
  deeds = h.deeds;
  amid = h.amid;
  went = h.went;
  text = h.text;
  told = h.told;
  between = h.between;
  written = h.written;
  calm = h.calm;
  cause = cause_by (HasCutAfter (λ a l b. goes (view a) l (view b)) (λ a words f b. refuses (view a) words f (view b)) desk (h.deeds ++ h.amid) desk2) (HasCutAfter goes refuses (view desk) (h.deeds ++ h.amid) (view desk2))
      (λ words f c. (view c.0, c.1, c.2)) remote shared s (drawn_after n h.done) h.left (calls_said h.amid) shows shows2 h.between new e h.cause;
}

-- a link that was closed by a net that kept what it told
pub closes_since : (a b d : Option (List LinkView)) (link : LinkView) → KeepsClosed a b → ClosesOne b d link → ClosesOne a d link
closes_since None b d link keeps closes = tt
closes_since (Some l) None d link keeps closes = absurd keeps
closes_since (Some l) (Some m) None link keeps closes = absurd closes
closes_since (Some l) (Some m) (Some n) link keeps closes = closes ∙ ap (λ x. x ++ link ∷ []) keeps

-- a desk that answered no fault and wasn't stopped stands ready
pub starts_open : (fault : Option DeskFault) (stopped : Bool) → IsOpen fault stopped → standing_of fault stopped ≡ StandsReady
starts_open fault stopped h = ap (λ f. standing_of f stopped) h.no_fault ∙ ap (standing_of None) h.no_stop

pub blocks_same : (ps qs : List Plan) → Blocks ps ≡ Blocks qs → ps ≡ qs
blocks_same ps qs e = cc
