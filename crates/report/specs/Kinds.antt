-- The kinds of cells, by name. Assumes nothing.
use Rattle.std.specs.Prelude.{◌≡◌, ℕ, List, Some, None, codes, Option, ◌≢◌}
use Rattle.report.specs.declared.cli.Kind.{Kind}
use Rattle.report.specs.declared.cli.Kind.TheVariants.{Raw, Reading}

-- the kind that a word names, if any
abbrev pub Named : List ℕ → Option Kind → Type 0
Named word (Some Raw) = word ≡ codes "raw"
Named word (Some Reading) = word ≡ codes "reading"
Named word None = (word ≢ codes "raw") × (word ≢ codes "reading")
