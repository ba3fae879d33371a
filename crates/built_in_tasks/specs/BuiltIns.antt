-- What the built-in tasks answer, as functions of their arguments.
use Rattle.std.specs.Prelude.{ℕ, ◌^◌, ℤ, pos, neg_ℤ, ◌+ℤ◌, ◌≡◌, ◌&&◌, Bool, true, false, List, codes, int_le, int_lt, nat_lt, if◌then◌else◌, Option, Some, None, option_and_then}
use Rattle.std.specs.Fmt.{signed_decimal}
use Rattle.serde_json.specs.Data.{Data, Items, no_items, item, Members, no_members, member}
use Rattle.serde_json.specs.Find.{as_array, as_integer, as_number, as_object, as_u64}
use Rattle.serde_json.specs.Written.{compact_text, has_float}
use Rattle.place_model.specs.declared.heard.Outcome.{Outcome}
use Rattle.place_model.specs.declared.heard.Outcome.TheVariants.{Success, Failure, Retry}

-- the answer to arguments that a task doesn't take
abbrev pub bad_arguments : Outcome
bad_arguments = Failure (codes "bad arguments")

-- ---- arguments

abbrev pub are_none : Option Members → Bool
are_none None = false
are_none (Some no_members) = true
are_none (Some (member k d ms)) = false

-- whether a tree is an object without members
abbrev pub has_no_member : Data → Bool
has_no_member d = are_none (as_object d)

-- the positional arguments, where there are no keyword arguments
abbrev pub positional : Data → Data → Option Items
positional args kwargs = if has_no_member kwargs then as_array args else None

-- the whole number of 64 bits that a tree is
abbrev pub whole_in : Data → Option ℤ
whole_in d = option_and_then as_integer (as_number d)

-- ---- tasks.add

-- a number of 64 bits, with a sign or without
abbrev pub if_64_bits : ℤ → Option ℤ
if_64_bits n = if int_le (neg_ℤ (pos (2 ^ 63))) n && int_lt n (pos (2 ^ 64)) then Some n else None

-- the sum of two numbers, where both are there
abbrev pub sum_of_two : Option ℤ → Option ℤ → Option ℤ
sum_of_two None b = None
sum_of_two (Some a) None = None
sum_of_two (Some a) (Some b) = if_64_bits (a +ℤ b)

-- the sum of two arguments
abbrev pub items_sum : Option Items → Option ℤ
items_sum None = None
items_sum (Some no_items) = None
items_sum (Some (item a no_items)) = None
items_sum (Some (item a (item b no_items))) = sum_of_two (whole_in a) (whole_in b)
items_sum (Some (item a (item b (item c ds)))) = None

-- a number as decimal text
abbrev pub number_answer : Option ℤ → Outcome
number_answer None = bad_arguments
number_answer (Some n) = Success (signed_decimal n)

-- the sum of two whole numbers
abbrev pub add_answer : Data → Data → Outcome
add_answer args kwargs = number_answer (items_sum (positional args kwargs))

-- ---- tasks.echo

-- a tree as compact JSON, where it has no float
abbrev pub echo_of : Data → Outcome
echo_of d = if has_float d then bad_arguments else Success (compact_text d)

abbrev pub items_echo : Option Items → Outcome
items_echo None = bad_arguments
items_echo (Some no_items) = bad_arguments
items_echo (Some (item a no_items)) = echo_of a
items_echo (Some (item a (item b ds))) = bad_arguments

-- the one argument
abbrev pub echo_answer : Data → Data → Outcome
echo_answer args kwargs = items_echo (positional args kwargs)

-- ---- tasks.fail

abbrev pub fail_answer : Outcome
fail_answer = Failure (codes "failed")

-- ---- tasks.again

-- a number of seconds, below 2 ^ 32
abbrev pub if_seconds : Option ℕ → Option ℕ
if_seconds None = None
if_seconds (Some n) = if nat_lt n (2 ^ 32) then Some n else None

-- the seconds that an argument says
abbrev pub delay_in : Data → Option ℕ
delay_in d = if_seconds (option_and_then as_u64 (as_number d))

-- the seconds that the arguments say, 180 where there are none
abbrev pub items_delay : Option Items → Option ℕ
items_delay None = None
items_delay (Some no_items) = Some 180
items_delay (Some (item a no_items)) = delay_in a
items_delay (Some (item a (item b ds))) = None

-- a retry after so many seconds
abbrev pub retry_answer : Option ℕ → Outcome
retry_answer None = bad_arguments
retry_answer (Some n) = Retry n

-- a retry
abbrev pub again_answer : Data → Data → Outcome
again_answer args kwargs = retry_answer (items_delay (positional args kwargs))

-- ---- the rule

-- the rule of the four tasks; the outcomes of other names are free
pub record IsBuiltIn (name : List ℕ) (args kwargs : Data) (outcome : Outcome) : Type 0 where
  pub adds : name ≡ codes "tasks.add" → outcome ≡ add_answer args kwargs
  pub echoes : name ≡ codes "tasks.echo" → outcome ≡ echo_answer args kwargs
  pub fails : name ≡ codes "tasks.fail" → outcome ≡ fail_answer
  pub retries : name ≡ codes "tasks.again" → outcome ≡ again_answer args kwargs
