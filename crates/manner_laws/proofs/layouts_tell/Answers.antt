-- What `layouts_tell` ensures.
use Rattle.manner_laws.proofs.LayoutReads.{readable_layout}
use Rattle.manner_laws.proofs.layouts_tell.Goals as goal

pub returns : goal.returns
returns c = readable_layout
