-- Where a client is in its blocks, and what a command that it may say there asks for.
use Rattle.std.specs.Prelude.{◌≡◌, ℕ, suc, List, [], ◌∷◌}
use Rattle.queue_keys.specs.Names.{Bytes}
use Rattle.command_blocks.specs.declared.side.Side.{Side}
use Rattle.command_blocks.specs.declared.side.Side.TheVariants.{Right}

-- what tries are of, with the tag that is returned
pub data Job : Type 0 where
  Open : Bytes → Job  -- a return that hasn't shown its side yet
  Alone : Side → Bytes → Job  -- a return at this side
  Of_pass : Bytes → List Bytes → Job  -- a pass's, which has these tags still to return

-- the tag that is returned
abbrev pub job_tag : Job → Bytes
job_tag (Open t) = t
job_tag (Alone side t) = t
job_tag (Of_pass t ts) = t

-- the side may be that of its pushes
abbrev pub MayPush : Job → Side → Type 0
MayPush (Open t) side = Unit {0}
MayPush (Alone own t) side = own ≡ side
MayPush (Of_pass t ts) side = Right ≡ side

-- the same, once it has pushed at this side
abbrev pub sided : Job → Side → Job
sided (Open t) side = Alone side t
sided (Alone own t) side = Alone own t
sided (Of_pass t ts) side = Of_pass t ts

-- where a client is; the first two numbers are the tags drawn and the passes made before its block
pub data Spot : Type 0 where
  Free : ℕ → ℕ → Spot  -- at a block's start
  -- of a publication
  Listed : ℕ → ℕ → Bytes → List Bytes → Spot  -- the bindings of this exchange were read, and are these: it may end here
  Pushing : ℕ → ℕ → Bytes → Bytes → List Bytes → Spot  -- the envelope, the next key, and the keys after it
  -- of a pop, with the envelope and its tag
  Popped : ℕ → ℕ → Bytes → Bytes → Spot
  Pop_begun : ℕ → ℕ → Bytes → Bytes → Spot
  Pop_indexed : ℕ → ℕ → Bytes → Bytes → Spot
  -- of an end
  End_begun : ℕ → ℕ → Spot
  End_removed : ℕ → ℕ → Bytes → Spot  -- the tag
  -- of a pop or an end: EXEC is left
  Filled : ℕ → ℕ → Spot
  -- of a try: what it is of, and how many tries came before it
  Looking : ℕ → ℕ → Spot  -- the table is watched for a return that hasn't shown its tag yet
  Waiting : ℕ → ℕ → Job → ℕ → Spot  -- before a try
  Watched : ℕ → ℕ → Job → ℕ → Spot
  Leaving : ℕ → ℕ → Job → Spot  -- UNWATCH is left
  Asking : ℕ → ℕ → Job → ℕ → Bytes → Bytes → Bytes → Spot  -- the entry, its envelope, and the exchange whose bindings are to be read
  Ready : ℕ → ℕ → Job → ℕ → Bytes → Bytes → List Bytes → Spot  -- the envelope, the first key to push to, and the other keys
  Begun : ℕ → ℕ → Job → ℕ → Bytes → Bytes → List Bytes → Spot
  Removed : ℕ → ℕ → Job → ℕ → Bytes → Bytes → List Bytes → Spot
  Putting : ℕ → ℕ → Job → ℕ → Bytes → List Bytes → Spot  -- the envelope, and the keys to come
  -- of a pass
  Locked : ℕ → ℕ → Spot
  Turning : ℕ → ℕ → List Bytes → Spot  -- the tags to come
  Release_watched : ℕ → ℕ → Spot
  Release_own : ℕ → ℕ → Spot  -- the mutex holds this pass's token
  Release_begun : ℕ → ℕ → Spot
  Release_deleted : ℕ → ℕ → Spot
  Release_foreign : ℕ → ℕ → Spot  -- it holds another text, or none

-- after a push of a publication, with the keys that are left
abbrev pub pushing : ℕ → ℕ → Bytes → List Bytes → Spot
pushing n p v [] = Free (suc n) p
pushing n p v (k ∷ ks) = Pushing n p v k ks

-- after the last try of a return
abbrev pub finished : ℕ → ℕ → Job → Spot
finished n p (Open t) = Free n p
finished n p (Alone side t) = Free n p
finished n p (Of_pass t ts) = Turning n p ts

-- after eight tries that failed
abbrev pub gave_up : ℕ → ℕ → Job → Spot
gave_up n p (Open t) = Free n p
gave_up n p (Alone side t) = Free n p
gave_up n p (Of_pass t ts) = Turning n p []

-- once the keys are known to which the envelope returns
abbrev pub routed : ℕ → ℕ → Job → ℕ → Bytes → List Bytes → Spot
routed n p j k v [] = Leaving n p j
routed n p j k v (q ∷ qs) = Ready n p j k v q qs

-- what words ask for: which answers are listed, and what they tell
pub data Ask : Type 0 where
  Count : Spot → Ask  -- an integer, and then this spot
  Consent : Spot → Ask  -- OK
  Queueing : Spot → Ask  -- QUEUED
  Counts : Spot → Ask  -- an array of two integers
  Anything : Spot → Ask  -- anything but an error
  Bindings : ℕ → ℕ → Bytes → Ask  -- of the exchange to which a publication goes
  Message : ℕ → ℕ → Ask  -- of queues
  Entry : ℕ → ℕ → Job → ℕ → Ask  -- of the table
  Routes : ℕ → ℕ → Job → ℕ → Bytes → Bytes → Ask  -- of an entry, which carries this envelope
  Move : ℕ → ℕ → Job → ℕ → Ask  -- of a message, from the table
  Lock : ℕ → ℕ → Ask  -- of the mutex
  Due : ℕ → ℕ → Ask  -- members of the index
  Holder : ℕ → ℕ → Ask  -- of the mutex
  Release : ℕ → ℕ → Ask  -- of the mutex
