-- What a walk over a history gathers is what is counted after it.
use Rattle.std.proofs.Common.{ℕ, ◌^◌, ◌<◌, sym, arith}
use Rattle.delivery_tags.specs.Tags.{tag_text}
use Rattle.command_blocks.specs.EnvelopeTexts.{plain_setting}
use Rattle.place_model.specs.Histories.{History, after, start_from}
use Rattle.place_model.specs.declared.heard.Heard.{Heard}
use Rattle.place_walk.specs.Gathered.{IsWalkOf}
use Rattle.place_walk.specs.Walks.{gathered, walk_start}
use Rattle.place_walk.proofs.Acceptances.{all_own, all_texts}
use Rattle.place_walk.proofs.Numbers.{text_tells}
use Rattle.place_walk.proofs.Starts.{start_follows}
use Rattle.place_walk.proofs.Walks.{Follows, steps}

-- of each message
follows : (h : History Heard) (t : ℕ) → t < 2 ^ 128 → Follows plain_setting t (tag_text t) (after h) (gathered plain_setting h)
follows h t fits = steps plain_setting t (tag_text t) (text_tells t fits) h.entries (start_from h.start h.clients) (walk_start h.clients) (start_follows plain_setting t (tag_text t) h.start h.clients)

pub walk_is : (h : History Heard) → IsWalkOf h (gathered plain_setting h)
walk_is h =
    let zero_fits : 0 < 2 ^ 128 = omega arith in
    record {
      seats = (follows h 0 zero_fits).seats;
      numbers = all_own h.entries (walk_start h.clients) tt;
      accepted = all_texts h.entries (walk_start h.clients);
      pushes = λ t fits. sym (follows h t fits).pushes;
      ended = λ t fits. sym (follows h t fits).ended;
      copied = λ t fits. sym (follows h t fits).copied;
    }
