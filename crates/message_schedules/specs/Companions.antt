-- What holds of a schedule's history beside the places of its messages: of stops, of returns, of passes, and of the envelopes of a message.
use Rattle.std.specs.Prelude.{◌≡◌, ℕ, ◌<◌, ◌^◌, List, [], ◌∷◌, ◌++◌, Some}
use Rattle.std.specs.FinMap.{empty, get}
use Rattle.wire_values.specs.declared.value.Value.{Value}
use Rattle.store_model.specs.Words.{Words, command_of}
use Rattle.store_model.specs.declared.command.Command.{Command}
use Rattle.store_model.specs.declared.command.Command.TheVariants.{Exec}
use Rattle.store_model.specs.declared.reply.Reply.{Reply}
use Rattle.queue_keys.specs.Names.{Bytes}
use Rattle.command_blocks.specs.Answers.{items_of}
use Rattle.command_blocks.specs.Calls.{Call}
use Rattle.command_blocks.specs.EnvelopeTexts.{plain_setting}
use Rattle.command_blocks.specs.PassBlocks.{Done, IsPassBlock}
use Rattle.command_blocks.specs.ReturnBlocks.{ReturnEnd}
use Rattle.place_model.specs.Histories.{Client, History, IsHistoryPrefix, after, and_then, calls_of}
use Rattle.place_model.specs.Identity.{HasAnywhere, IsPublished}
use Rattle.place_model.specs.Passes.{AccountsForAll, AreEarly}
use Rattle.place_model.specs.PlaceOf.{StopMoves}
use Rattle.place_model.specs.Seen.{seen}
use Rattle.place_model.specs.Starts.{IsSound}
use Rattle.place_model.specs.declared.heard.Heard.{Heard}
use Rattle.place_model.specs.declared.history.Entry.TheVariants.{Call as Called, Stop}
use Rattle.place_theorem.specs.Bindings.{ReturnsByBindings}

-- a history such as schedules determine: it is sound, it began with no key, and its calls came before the moment 2 ^ 63
pub record IsScheduled (h : History Heard) : Type 0 where
  pub sound : IsSound plain_setting h
  pub from_nothing : h.start ≡ empty
  pub early : (c : ℕ) → AreEarly (calls_of c h.entries)

-- each stop alters no key, and moves one message at most: from the client's hand to what is lost with it
abbrev pub StopsMoveOne : History Heard → Type 0
StopsMoveOne h = (p : History Heard) (c : ℕ) → IsHistoryPrefix (and_then p (Stop c ∷ [])) h → StopMoves plain_setting p c

-- each EXEC that answered an array, of a transaction with more than two commands, is that of a return, and returned its message whole, to the queues that its own try looked up by the entry's own exchange
abbrev pub ReturnsAreWhole : History Heard → Type 0
ReturnsAreWhole h = (p : History Heard) (c at : ℕ) (words : Words) (reply : Reply) (cl : Client) (xs : List Value) (a b q : Command) (qs : List Command)
    → IsHistoryPrefix (and_then p (Called c at words reply ∷ [])) h
    → get (after p).clients c ≡ Some cl → command_of words ≡ Exec → items_of reply.answer ≡ Some xs → (seen plain_setting cl.calls).since ≡ a ∷ b ∷ q ∷ qs
    → ReturnsByBindings plain_setting cl.calls (after p).store.keys (after (and_then p (Called c at words reply ∷ []))).store.keys at

-- each pass among a client's calls that wasn't ended early accounts for all that it read: by its own range call, its own returns in their order, and their three counts
abbrev pub PassesAccount : History Heard → Type 0
PassesAccount h = (c v : ℕ) (token : Bytes) (ends : List ReturnEnd) (earlier l rest : List Call)
    → calls_of c h.entries ≡ earlier ++ (l ++ rest) → IsPassBlock plain_setting token v (Done ends) l → v < 2 ^ 63
    → AccountsForAll plain_setting h c v token ends earlier l

-- each envelope in lists, table and hands is one that was published before under its tag, but for the marks of redelivery
abbrev pub MessagesWerePublished : History Heard → Type 0
MessagesWerePublished h = (p : History Heard) (t b : Bytes) → IsHistoryPrefix p h → HasAnywhere plain_setting (after p) t b → IsPublished plain_setting (after p) t b

-- what was published under a tag in the whole history is one envelope, but for the marks
abbrev pub MessagesPublishedOnce : History Heard → Type 0
MessagesPublishedOnce h = (t b b' : Bytes) → IsPublished plain_setting (after h) t b → IsPublished plain_setting (after h) t b' → b ≡ b'

-- so all envelopes of a tag in lists, table and hands, at whatever moments, have one tree, but for the marks
abbrev pub MessagesHaveOneTree : History Heard → Type 0
MessagesHaveOneTree h = (p p' : History Heard) (t b b' : Bytes) → IsHistoryPrefix p h → IsHistoryPrefix p' h
    → HasAnywhere plain_setting (after p) t b → HasAnywhere plain_setting (after p') t b' → b ≡ b'
