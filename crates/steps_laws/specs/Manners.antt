-- What a client says, errand after errand, as blocks.
use Rattle.std.specs.Prelude.{◌≡◌, ℕ, true, List, [], ◌∷◌, ◌++◌}
use Rattle.store_model.specs.Words.{Words}
use Rattle.command_blocks.specs.Blocks.{IsMannered, IsNeutral}
use Rattle.command_blocks.specs.Calls.{Call}
use Rattle.command_blocks.specs.EnvelopeTexts.{plain_setting}
use Rattle.command_blocks.specs.Scripts.{Script, Over, Off}
use Rattle.block_laws.specs.Traces.{IsTrace, IsFrontOf}
use Rattle.steps.specs.Clients.{new_counts}
use Rattle.steps.specs.declared.counts.ClientCounts.{ClientCounts}
use Rattle.steps.specs.Errands.{Errand, IsErrandBlock, IsLawfulErrand, client_after, errand_script}
use Rattle.steps.specs.Neutrals.{is_neutral}

-- the calls begin the block of a lawful errand, whole where nothing is left; where the last answer isn't listed no block goes on with them
abbrev pub ErrandsBegin : Type 0
ErrandsBegin = (c : ClientCounts) (errand : Errand) (calls : List Call) (left : Script) → IsLawfulErrand c errand → IsTrace (errand_script c errand) calls left
    → IsFrontOf (IsErrandBlock c errand) calls left × (left ≡ Off → (more : List Call) → IsErrandBlock c errand (calls ++ more) → ⊥)

-- an errand with its calls
pub record ErrandSaid : Type 0 where
  pub errand : Errand
  pub calls : List Call

-- lawful errands, one after the other and each said to its end, lead from the one client to the other
abbrev pub AreSaid : ClientCounts → List ErrandSaid → ClientCounts → Type 0
AreSaid c [] d = c ≡ d
AreSaid c (e ∷ es) d = IsLawfulErrand c e.errand × IsTrace (errand_script c e.errand) e.calls Over × AreSaid (client_after c e.errand) es d

-- their calls
abbrev pub said_calls : List ErrandSaid → List Call
said_calls [] = []
said_calls (e ∷ es) = e.calls ++ said_calls es

-- the calls of a client of seed s, of whole errands and then of one that is said so far, are mannered
abbrev pub ClientsAreMannered : Type 0
ClientsAreMannered = (s : ℕ) (before : List ErrandSaid) (c : ClientCounts) (errand : Errand) (calls : List Call) (left : Script) → AreSaid (new_counts s) before c → IsLawfulErrand c errand
    → IsTrace (errand_script c errand) calls left → IsMannered plain_setting s (said_calls before ++ calls)

-- so are those of whole errands alone
abbrev pub IdleClientsAreMannered : Type 0
IdleClientsAreMannered = (s : ℕ) (before : List ErrandSaid) (c : ClientCounts) → AreSaid (new_counts s) before c → IsMannered plain_setting s (said_calls before)

-- the test finds the commands that concern no message, and no others
abbrev pub NeutralsAre : Type 0
NeutralsAre = (words : Words) → (is_neutral words ≡ true → IsNeutral plain_setting words) × (IsNeutral plain_setting words → is_neutral words ≡ true)
