-- Tags with their places, as the code gives them. Serves the proofs of code.
use Rattle.std.specs.Prelude.{List, map}
use Rattle.delivery_tags.specs.Tags.{tag_text}
use Rattle.delivery_tags.specs.declared.tag.Tag.{Tag}
use Rattle.queue_keys.specs.Names.{Bytes}
use Rattle.place_model.specs.declared.place.Place.{Place}

-- a tag by its text, with its place
abbrev pub placed : Tag × Place → Bytes × Place
placed p = (tag_text p.0.0, p.1)

-- tags by their texts, with their places
abbrev pub all_placed : List (Tag × Place) → List (Bytes × Place)
all_placed ps = map placed ps
