-- How a run ends: its text and its status.
use Rattle.std.specs.Prelude.{List, None, Option, Some, [], codes, decimal, ℕ, ◌++◌, ◌≡◌, ◌⊎◌}
use Rattle.links.specs.Views.{SinkView}
use Rattle.serve_run.specs.declared.ending.ServingEnd.{ServingEnd}
use Rattle.serve_run.specs.declared.ending.ServingEnd.TheVariants.{Net, Served, WriteFault}
use Rattle.serve_run.specs.declared.ending.ServingEnd.TheVariants as serving
use Rattle.top_call.specs.Endings.{WritesText}
use Rattle.top_call.specs.declared.ending.Ended.{Ended}
use Rattle.waiting_call.specs.declared.ending.WaitEnd.{WaitEnd}
use Rattle.waiting_call.specs.declared.ending.WaitEnd.TheVariants.{BadWord, Done, Full, LinkFault, Memory}

-- the text of an ending
abbrev pub wait_text : WaitEnd → List ℕ
wait_text Done = []
wait_text (BadWord place) = codes "bad word " ++ (decimal place ++ codes "\n")
wait_text LinkFault = codes "link fault\n"
wait_text (Full entries bytes) = codes "history full " ++ (decimal entries ++ (codes " " ++ (decimal bytes ++ codes "\n")))
wait_text Memory = codes "out of memory\n"

-- the status of an ending, and its place
abbrev pub wait_ended : WaitEnd → Ended
wait_ended Done = record { status = 0; place = 0; left = 0 }
wait_ended (BadWord place) = record { status = 2; place = place; left = 0 }
wait_ended LinkFault = record { status = 6; place = 0; left = 0 }
wait_ended (Full entries bytes) = record { status = 9; place = 0; left = 0 }
wait_ended Memory = record { status = 11; place = 0; left = 0 }

-- the text of this ending was written, or the sink failed within it
abbrev pub WritesEnd : SinkView → SinkView → WaitEnd → Ended → Type 0
WritesEnd old new end result = WritesText old new (wait_text end) (wait_ended end) result

-- which ending is told of one: itself, or want of memory, but that the net failed is told as it is
abbrev pub IsWaitTold : WaitEnd → WaitEnd → Type 0
IsWaitTold end told = (told ≡ end) ⊎ ((told ≡ Memory) × (end ≡ LinkFault → ⊥))

-- the text of the ending that is told was written, or the sink failed within it
abbrev pub TellsEnd : WaitEnd → SinkView → SinkView → Ended → Type 0
TellsEnd end old new result = (told : WaitEnd) × IsWaitTold end told × WritesEnd old new told result

-- what is told of how serving ended: nothing where the sink failed
abbrev pub waited_by : ServingEnd → Option WaitEnd
waited_by Served = Some Done
waited_by (serving.Full entries bytes) = Some (Full entries bytes)
waited_by Net = Some LinkFault
waited_by WriteFault = None
waited_by serving.Memory = Some Memory

-- this was told, where anything is to be told
abbrev pub TellsIf : Option WaitEnd → SinkView → SinkView → Ended → Type 0
TellsIf None old new result = (result ≡ record { status = 5; place = 0; left = 0 }) × (new ≡ old)
TellsIf (Some end) old new result = TellsEnd end old new result
