pub mod RunParts
