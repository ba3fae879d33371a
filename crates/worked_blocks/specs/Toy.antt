-- Texts so small that they can be computed: a tag is its seed and its counter, and an envelope a mark, its tag, its priority, whether its exchange has a name, and its routing key, which it spells in one way. An entry is its envelope.
use Rattle.std.specs.Prelude.{ℕ, zero, suc, Bool, true, false, [], ◌∷◌, codes, Option, None, Some}
use Rattle.queue_keys.specs.Names.{Bytes}
use Rattle.queue_keys.specs.Layouts.{plain}
use Rattle.command_blocks.specs.Setting.{Setting, Texts, Way, setting_of}

-- two numbers
abbrev pub is_pair : Bytes → Bool
is_pair [] = false
is_pair (s ∷ []) = false
is_pair (s ∷ n ∷ []) = true
is_pair (s ∷ n ∷ m ∷ rest) = false

-- the tag of five numbers and a routing key
abbrev pub toy_tag : Bytes → Option Bytes
toy_tag (mark ∷ s ∷ n ∷ p ∷ x ∷ k) = Some (s ∷ n ∷ [])
toy_tag other = None

-- the empty exchange, or ex
abbrev pub toy_exchange : ℕ → Bytes
toy_exchange zero = []
toy_exchange (suc x) = codes "ex"

-- where they go
abbrev pub toy_way : Bytes → Option Way
toy_way (mark ∷ s ∷ n ∷ p ∷ x ∷ k) = Some (record { exchange = toy_exchange x; routing_key = k; priority = p })
toy_way other = None

-- the same, marked
abbrev pub toy_carried : Bytes → Option Bytes
toy_carried (mark ∷ s ∷ n ∷ p ∷ x ∷ k) = Some (1 ∷ s ∷ n ∷ p ∷ x ∷ k)
toy_carried other = None

-- all but the mark
abbrev pub toy_body : Bytes → Bytes
toy_body [] = []
toy_body (mark ∷ rest) = rest

-- these texts
abbrev pub toy : Texts
toy = record {
  tag = λ s n. s ∷ n ∷ [];
  is_tag = is_pair;
  tag_of = toy_tag;
  written_tag = toy_tag;
  way_of = toy_way;
  entry_of = λ v. v;
  way_in = toy_way;
  carried = toy_carried;
  body_of = toy_body;
  body_in = toy_body;
}

-- the keys without a prefix, with these texts
abbrev pub toy_setting : Setting
toy_setting = setting_of plain toy
