-- What each status of a run says by itself.
use Rattle.std.specs.Io.KnownBytes.{Appends}
use Rattle.std.specs.Prelude.{Contains, List, None, Option, Some, [], false, length, ℕ, ◌+◌, ◌++◌, ◌∷◌, ◌≡◌, ◌≤◌, ◌⊎◌}
use Rattle.links.specs.Causes.{AppendsFront, Rose}
use Rattle.links.specs.Views.{SinkView}
use Rattle.store_model.specs.Store.{StoreView, empty_state}
use Rattle.sessions.specs.declared.conversing.SessionEnd.{SessionEnd}
use Rattle.store_server.specs.Servings.{HasServedAll}
use Rattle.serve_run.specs.Endings.{end_after}
use Rattle.serve_run.specs.Lines.{session_lines}
use Rattle.serve_run.specs.NetViews.{NetView}
use Rattle.serve_run.specs.declared.ending.ServingEnd.TheVariants as serving
use Rattle.top_call.specs.declared.ending.Ended.{Ended}
use Rattle.waiting_call.specs.Endings.{IsWaitTold, wait_text}
use Rattle.wait_words.specs.Words.{bad_wait_place, connections_in, turns_in}
use Rattle.waiting_call.specs.declared.ending.WaitEnd.TheVariants.{BadWord, Full, LinkFault, Memory}
use Rattle.waiting_call.specs.declared.ending.WaitEnd.{WaitEnd}

-- the words are lawful, and these sessions were had as they ask, one after the other, at a store that began empty
pub record HasServedAsked (gives : ℕ → Type 0) (words : List (List ℕ)) (before after : NetView) (ends : List SessionEnd) : Type 0 where
  pub lawful : bad_wait_place words ≡ None
  pub left : StoreView
  pub served : HasServedAll gives (turns_in words) 1 (record { state = empty_state; spent = false }) left before.closed after.closed ends
  pub few : length ends ≤ connections_in words

-- the lines of these sessions were written, and then this text
abbrev pub WritesSessions : SinkView → SinkView → List SessionEnd → List ℕ → Type 0
WritesSessions old new ends text = Appends old.taken new.taken (session_lines 1 ends ++ text)

-- status 0: as many sessions ended as the words ask for, none since a history was full, the net didn't fail, and just the sessions' lines were written
abbrev pub IsServed : (ℕ → Type 0) → List (List ℕ) → NetView → NetView → SinkView → SinkView → Type 0
IsServed gives words before after old new = (ends : List SessionEnd) × HasServedAsked gives words before after ends
    × (length ends ≡ connections_in words) × (end_after serving.Served ends ≡ serving.Served) × (after.faults ≡ before.faults)
    × Appends old.taken new.taken (session_lines 1 ends)

-- status 2: the word at this place is the first bad one, the net wasn't used, and its text was written
abbrev pub IsBadWaitWord : List (List ℕ) → NetView → NetView → SinkView → SinkView → ℕ → Type 0
IsBadWaitWord words before after old new place =
    (bad_wait_place words ≡ Some place) × (after ≡ before) × Appends old.taken new.taken (wait_text (BadWord place))

-- what was to be written after the lines of these sessions: the line of the one that is untold; or the text of a failure of the net, whose count rose; or that of a full history, where all sessions ended and the first that found its history full found it with these numbers; or that of want of memory. But for a failure of the net it didn't fail
abbrev pub IsNextText : ℕ → NetView → NetView → List SessionEnd → List SessionEnd → List ℕ → Type 0
IsNextText wanted before after ends untold text =
    ((text ≡ session_lines (length ends + 1) untold) × (length untold ≡ 1) × (after.faults ≡ before.faults))
    ⊎ (((text ≡ wait_text LinkFault) × (untold ≡ []) × (before.faults ≤ after.faults) × Rose before.faults after.faults)
    ⊎ (((entries : ℕ) × (bytes : ℕ) × (text ≡ wait_text (Full entries bytes)) × (untold ≡ []) × (length ends ≡ wanted)
    × (end_after serving.Served ends ≡ serving.Full entries bytes) × (after.faults ≡ before.faults))
    ⊎ ((text ≡ wait_text Memory) × (after.faults ≡ before.faults))))

-- status 5: the sink's count rose; the words were bad, and a front was written of what is told of that; or sessions ended, the lines of all but perhaps the last one were written whole, and after them a front of what was to be written next, but not all of it
abbrev pub IsWaitWriteFault : (ℕ → Type 0) → List (List ℕ) → NetView → NetView → SinkView → SinkView → Type 0
IsWaitWriteFault gives words before after old new = (old.faults ≤ new.faults) × Rose old.faults new.faults
    × (((place : ℕ) × (bad_wait_place words ≡ Some place) × (after ≡ before) × ((told : WaitEnd) × IsWaitTold (BadWord place) told × AppendsFront old.taken new.taken (wait_text told)))
    ⊎ ((ends : List SessionEnd) × (untold : List SessionEnd) × (length untold ≤ 1) × HasServedAsked gives words before after (ends ++ untold)
    × ((shown : Option (List ℕ)) × (text : List ℕ) × Appends old.taken shown (session_lines 1 ends) × IsNextText (connections_in words) before after ends untold text × AppendsFront shown new.taken text)))

-- status 6: the net's count rose; the lines of all sessions that ended were written, and then its text
abbrev pub IsLinkFault : (ℕ → Type 0) → List (List ℕ) → NetView → NetView → SinkView → SinkView → Type 0
IsLinkFault gives words before after old new = (before.faults ≤ after.faults) × Rose before.faults after.faults
    × ((ends : List SessionEnd) × HasServedAsked gives words before after ends × WritesSessions old new ends (wait_text LinkFault))

-- status 9: as many sessions ended as the words ask for, the net didn't fail, and the first that found its history full found it with these numbers; the sessions' lines were written, and then its text
abbrev pub IsFullHistory : (ℕ → Type 0) → List (List ℕ) → NetView → NetView → SinkView → SinkView → Type 0
IsFullHistory gives words before after old new = (ends : List SessionEnd) × (entries : ℕ) × (bytes : ℕ) × HasServedAsked gives words before after ends
    × (length ends ≡ connections_in words) × (end_after serving.Served ends ≡ serving.Full entries bytes) × (after.faults ≡ before.faults)
    × WritesSessions old new ends (wait_text (Full entries bytes))

-- status 11: the net didn't fail; the words were bad, and just the text was written; or sessions ended, and the lines of all but perhaps the last one were written, and then the text
abbrev pub IsWaitMemory : (ℕ → Type 0) → List (List ℕ) → NetView → NetView → SinkView → SinkView → Type 0
IsWaitMemory gives words before after old new = (after.faults ≡ before.faults)
    × (((place : ℕ) × (bad_wait_place words ≡ Some place) × (after ≡ before) × Appends old.taken new.taken (wait_text Memory))
    ⊎ ((ends : List SessionEnd) × (untold : List SessionEnd) × (length untold ≤ 1) × HasServedAsked gives words before after (ends ++ untold)
    × WritesSessions old new ends (wait_text Memory)))

-- what each status says, and which there can be: with bad words, and with lawful ones where neither the net nor the sink fails
pub record IsWaitingEnd (gives : ℕ → Type 0) (words : List (List ℕ)) (before after : NetView) (old new : SinkView) (result : Ended) : Type 0 where
  pub served : result.status ≡ 0 → IsServed gives words before after old new
  pub bad_word : result.status ≡ 2 → IsBadWaitWord words before after old new result.place
  pub write_fault : result.status ≡ 5 → IsWaitWriteFault gives words before after old new
  pub link_fault : result.status ≡ 6 → IsLinkFault gives words before after old new
  pub history_full : result.status ≡ 9 → IsFullHistory gives words before after old new
  pub out_of_memory : result.status ≡ 11 → IsWaitMemory gives words before after old new
  pub statuses : Contains (0 ∷ 2 ∷ 5 ∷ 6 ∷ 9 ∷ 11 ∷ []) result.status
  pub unlawful : (place : ℕ) → bad_wait_place words ≡ Some place → Contains (2 ∷ 5 ∷ 11 ∷ []) result.status
  pub complete : bad_wait_place words ≡ None → ¬ (Rose before.faults after.faults) → ¬ (Rose old.faults new.faults) → Contains (0 ∷ 9 ∷ 11 ∷ []) result.status
