-- The tags of a pass, and how many of its returns ended how. Serves the proofs of code.
use Rattle.std.specs.Prelude.{◌≡◌, ℕ, ◌+◌, List, [], ◌∷◌, ◌++◌, map}
use Rattle.delivery_tags.specs.Tags.{tag_text}
use Rattle.delivery_tags.specs.declared.tag.Tag.{Tag}
use Rattle.queue_keys.specs.Names.{Bytes}
use Rattle.command_blocks.specs.EnvelopeTexts.{plain_setting}
use Rattle.command_blocks.specs.PassBlocks.{tags_among}
use Rattle.returns.specs.declared.returned.Returned.{Returned}
use Rattle.returns.specs.declared.returned.Returned.TheVariants.{Moved, Gone, Stayed, Contended}
use Rattle.passes.specs.declared.counts.Counts.{Counts}

-- the texts of tags
abbrev pub tag_texts : List Tag → List Bytes
tag_texts tags = map (λ (tag : Tag). tag_text tag.0) tags

-- a member of the index was added to the tags, where it is a tag's text, whatever members follow
abbrev pub AreAdded : List Tag → Bytes → List Tag → Type 0
AreAdded tags member more = (rest : List Bytes) → tag_texts more ++ tags_among plain_setting rest ≡ tag_texts tags ++ tags_among plain_setting (member ∷ rest)

-- how many returns are counted
abbrev pub returned_count : Counts → ℕ
returned_count c = c.moved + c.gone + c.stayed

-- none
abbrev pub no_counts : Counts
no_counts = record { moved = 0; gone = 0; stayed = 0 }

-- one more return by its end; one that was contended isn't counted
abbrev pub counted : Returned → Counts → Counts
counted Moved c = record { moved = c.moved + 1; gone = c.gone; stayed = c.stayed }
counted Gone c = record { moved = c.moved; gone = c.gone + 1; stayed = c.stayed }
counted Stayed c = record { moved = c.moved; gone = c.gone; stayed = c.stayed + 1 }
counted (Contended tag) c = c

-- the ends of these returns
abbrev pub tally : List Returned → Counts
tally [] = no_counts
tally (end ∷ ends) = counted end (tally ends)
