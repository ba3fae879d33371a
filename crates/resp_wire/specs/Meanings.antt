-- What a state means: how the reading goes on from it. This serves the decoder alone.
use Rattle.std.specs.Prelude.{ℕ, ℤ, zero, suc, ◌+◌, ◌-◌, List, [], ◌∷◌, ◌++◌}
use Rattle.wire_values.specs.declared.value.Value.{Value}
use Rattle.wire_values.specs.declared.value.Value.TheVariants.{Bulk, Array}
use Rattle.wire_grammar.specs.declared.kind.NumberKind.{NumberKind}
use Rattle.wire_grammar.specs.declared.kind.NumberKind.TheVariants.{Whole, Length, Count}
use Rattle.wire_grammar.specs.declared.kind.TextKind.{TextKind}
use Rattle.wire_grammar.specs.Limits.{depth_limit}
use Rattle.wire_grammar.specs.Reads.{Reading, Got, Wrong, Next, feed_at, return_at, wire_text_at, signed, digits_at, zero_at, minus_at, number_at, content_at, values_at, integer_for, bulk_for, array_for, wire_value_at}
use Rattle.resp_wire.specs.declared.state.Open.{Open}
use Rattle.resp_wire.specs.declared.state.Phase.{Phase}
use Rattle.resp_wire.specs.declared.state.Phase.TheVariants.{Content, At}
use Rattle.resp_wire.specs.declared.state.WireSpot.{WireSpot}
use Rattle.resp_wire.specs.declared.state.WireSpot.TheVariants.{Begin, Text, TextFeed, First, Minus, Zero, Digits, Feed, Return, Line}
use Rattle.resp_wire.specs.Steps.{WireState, Stepped, On, Done, Wrong_byte, text_value}

-- how many arrays of these many may still be opened inside the open ones
abbrev pub left_of : ℕ → List Open → ℕ
left_of zero os = zero
left_of (suc d) [] = suc d
left_of (suc d) (o ∷ os) = left_of d os

-- how many arrays may be opened here, and inside one more
abbrev pub room : List Open → ℕ
room os = left_of depth_limit os

abbrev pub room_within : List Open → ℕ
room_within os = left_of (depth_limit - 1) os

-- what a whole value is for
abbrev pub up : List Open → Next Value
up [] = Got
up (o ∷ os) = λ v. values_at (wire_value_at (room_within os)) o.more (o.items ++ v ∷ []) (λ vs. up os (Array vs))

-- what a number is for
abbrev pub headed_at : NumberKind → List Open → Next ℤ
headed_at Whole os = integer_for (up os)
headed_at Length os = bulk_for (up os)
headed_at Count os = array_for (wire_value_at (room_within os)) (up os)

-- what a text is for
abbrev pub texted_at : TextKind → List Open → Next (List ℕ)
texted_at t os = λ b. up os (text_value t b)

-- how the reading goes on at a byte
abbrev pub at_spot_on : WireSpot → ℕ → List ℕ → List Open → ℕ → List ℕ → Reading
at_spot_on Begin n b os = wire_value_at (room os) (up os)
at_spot_on (Text t) n b os = wire_text_at b (texted_at t os)
at_spot_on (TextFeed t) n b os = feed_at b (texted_at t os)
at_spot_on (First w) n b os = number_at w (headed_at w os)
at_spot_on (Minus w) n b os = minus_at w (headed_at w os)
at_spot_on (Zero w) n b os = zero_at (headed_at w os)
at_spot_on (Digits w negative) n b os = digits_at w negative n (headed_at w os)
at_spot_on (Feed w negative) n b os = feed_at (signed negative n) (headed_at w os)
at_spot_on Return n b os = return_at b (λ content. up os (Bulk content))
at_spot_on Line n b os = feed_at b (λ content. up os (Bulk content))

abbrev pub in_phase_on : Phase → ℕ → List ℕ → List Open → ℕ → List ℕ → Reading
in_phase_on Content n b os = content_at (suc n) b (λ content. up os (Bulk content))
in_phase_on (At f) n b os = at_spot_on f n b os

-- how the reading goes on
abbrev pub wire_goes_on : WireState → ℕ → List ℕ → Reading
wire_goes_on s = in_phase_on s.phase s.number s.bytes s.opens

-- what a step makes of the reading of the bytes from its byte on
abbrev pub stepped_on : Stepped → ℕ → List ℕ → Reading
stepped_on (On s) p cs = wire_goes_on s (p + 1) cs
stepped_on (Done v) p cs = Got v (p + 1) cs
stepped_on (Wrong_byte k) p cs = Wrong k p
