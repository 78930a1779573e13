-- Inner contracts only. The memory of a rack: one area for each card.
-- Assumes nothing: this is a definition.
use Rattle.std.specs.Prelude.{ℕ, ◌*◌, ◌≤◌, ◌≡◌}
use Rattle.directory.specs.declared.Header.{Header}
use Rattle.area.specs.Layout.{area_size}

-- so many words are the memory of a rack with this header, and it has no more cards and pages than a rack can have
abbrev pub MemoryOf : Header → ℕ → Type 0
MemoryOf h words = (h.cards ≤ 8) × (h.pages ≤ 64) × (words ≡ h.cards * area_size h.pages)
