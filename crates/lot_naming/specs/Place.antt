-- Where the answer starts: an empty one of a refusal where the label does.
use Rattle.std.specs.Prelude.{List, ℕ}
use Rattle.lot_format.specs.Format.{Group}
use Rattle.lot_format.specs.Naming.{Naming, named, unnamed}
use Rattle.lot_group_names.specs.Place.{place_of}

abbrev pub place_given : ℕ × ℕ → ℕ × ℕ → List Group → ℕ → Naming → ℕ × ℕ
place_given label names gs e (named name) = place_of label names gs e
place_given label names gs e (unnamed r) = label
