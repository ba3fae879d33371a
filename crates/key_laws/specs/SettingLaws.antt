-- The setting of a lawful layout is lawful.
use Rattle.std.specs.Prelude.{◌≡◌, true}
use Rattle.queue_keys.specs.Layouts.{Layout, is_layout}
use Rattle.command_blocks.specs.Setting.{Texts, IsTexts, IsLawful, setting_of}

-- with texts that keep their facts, each lawful layout gives a lawful setting
abbrev pub LayoutsServe : Type 0
LayoutsServe = (l : Layout) (τ : Texts) → is_layout l ≡ true → IsTexts τ → IsLawful (setting_of l τ)
