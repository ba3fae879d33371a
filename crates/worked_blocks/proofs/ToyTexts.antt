-- The small texts keep the facts that the laws of places need of texts.
use Rattle.std.proofs.Common.{◌≡◌, [], ◌∷◌, length, true, Some, refl, sym, ap}
use Rattle.std.specs.Prelude.{nat_le}
use Rattle.queue_keys.specs.Layouts.{plain}
use Rattle.queue_keys.specs.Names.{Bytes, same}
use Rattle.command_blocks.specs.Setting.{IsLawful, IsTexts}
use Rattle.key_laws.proofs.Settings.{lawful_setting}
use Rattle.worked_blocks.specs.Toy.{is_pair, toy, toy_body, toy_carried, toy_setting, toy_tag}

tag_is_short : (t : Bytes) → is_pair t ≡ true → nat_le (length t) 1024 ≡ true
tag_is_short [] e = cc
tag_is_short (s ∷ []) e = cc
tag_is_short (s ∷ n ∷ []) e = refl
tag_is_short (s ∷ n ∷ m ∷ rest) e = cc

tag_of_envelope : (v t : Bytes) → toy_tag v ≡ Some t → is_pair t ≡ true
tag_of_envelope [] t e = cc
tag_of_envelope (a ∷ []) t e = cc
tag_of_envelope (a ∷ b ∷ []) t e = cc
tag_of_envelope (a ∷ b ∷ c ∷ []) t e = cc
tag_of_envelope (a ∷ b ∷ c ∷ d ∷ []) t e = cc
tag_of_envelope (mark ∷ s ∷ n ∷ p ∷ x ∷ k) t e = let is : s ∷ n ∷ [] ≡ t = cc in ap is_pair (sym is)

carried_keeps : (u v : Bytes) → toy_carried u ≡ Some v → toy_body v ≡ toy_body u
carried_keeps [] v e = cc
carried_keeps (a ∷ []) v e = cc
carried_keeps (a ∷ b ∷ []) v e = cc
carried_keeps (a ∷ b ∷ c ∷ []) v e = cc
carried_keeps (a ∷ b ∷ c ∷ d ∷ []) v e = cc
carried_keeps (mark ∷ s ∷ n ∷ p ∷ x ∷ k) v e = let is : 1 ∷ s ∷ n ∷ p ∷ x ∷ k ≡ v = cc in ap toy_body (sym is)

toy_texts : IsTexts toy
toy_texts = record {
  tag_parts = λ s n s' n' h e. ((cc), (cc));
  tag_is = λ s n h k. refl;
  tag_short = tag_is_short;
  tag_text = tag_of_envelope;
  written_is = λ v t e. e;
  entry_body = λ v. refl;
  carried_body = carried_keeps;
}

pub toy_is_lawful : IsLawful toy_setting
unfolding same
toy_is_lawful = lawful_setting plain toy refl toy_texts
