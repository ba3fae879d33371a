-- How a report reads the texts of tags.
use Rattle.std.specs.Prelude.{ℕ, ◌/◌, ◌%◌, ◌^◌, Option, None, Some}
use Rattle.delivery_tags.specs.Tags.{tag_of_text}
use Rattle.line_text.specs.declared.short.Shape.{Shape}
use Rattle.queue_keys.specs.Names.{Bytes}
use Rattle.command_blocks.specs.Setting.{Setting}
use Rattle.schedule_model.specs.Reports.{ReportLegend}

-- the number of a tag, and 0 where there is none
abbrev pub number_or : Option ℕ → ℕ
number_or None = 0
number_or (Some n) = n

-- the legend of these names and shapes; a tag's seed and counter are the halves of its number
abbrev pub legend_of : Setting → (Bytes → Shape) → ReportLegend
legend_of σ shape = record {
  setting = σ;
  shape = shape;
  seed = λ t. number_or (tag_of_text t) / 2 ^ 64;
  counter = λ t. number_or (tag_of_text t) % 2 ^ 64;
}
