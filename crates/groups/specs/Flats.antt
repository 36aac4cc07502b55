-- What a flat group means, by the struct that holds it. Assumes nothing.
use Rattle.std.specs.Prelude.{◌≡◌, ℕ, Bool, true, List}
use Rattle.cells.specs.Numbers.{Bytes}
use Rattle.groups.specs.declared.flat.Flat.{Flat}
use Rattle.groups.specs.Meaning.{Cell, Celled, GroupLaws, GroupMeaning}
use Rattle.groups.specs.Rows.{flat_meaning, rows_celled, rows_lawful}

abbrev pub flat_of : {R : Type 0} → (R → Cell) → Flat R → GroupMeaning
flat_of bytes f = flat_meaning bytes f.table f.rows.now

pub flat_lawful : {R : Type 0} (bytes : R → Cell) (f : Flat R) → GroupLaws (flat_of bytes f)
flat_lawful bytes f = rows_lawful bytes f.table f.rows.now f.ready f.fits

pub flat_celled : {R : Type 0} (bytes : R → Cell) (reads : List ℕ → Bool) → ((r : R) → reads (bytes r) ≡ true) → ((r : R) → Bytes (bytes r)) → (f : Flat R) → Celled reads (flat_of bytes f)
flat_celled bytes reads p q f = rows_celled bytes reads p q f.table f.rows.now
