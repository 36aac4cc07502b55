-- What a sparse group means, by the struct that holds it. Assumes nothing.
use Rattle.std.specs.Prelude.{◌≡◌, ℕ, Bool, true, List}
use Rattle.cells.specs.Numbers.{Bytes}
use Rattle.groups.specs.declared.sparse.Sparse.{Sparse}
use Rattle.groups.specs.Meaning.{Cell, Celled, GroupLaws, GroupMeaning}
use Rattle.groups.specs.Records.{records_celled, records_lawful, sparse_meaning}

abbrev pub sparse_of : {R : Type 0} → (R → Cell) → Sparse R → GroupMeaning
sparse_of bytes s = sparse_meaning bytes s.table s.records.now s.used

pub sparse_lawful : {R : Type 0} (bytes : R → Cell) (s : Sparse R) → GroupLaws (sparse_of bytes s)
sparse_lawful bytes s = records_lawful bytes s.table s.records.now s.used s.ready

pub sparse_celled : {R : Type 0} (bytes : R → Cell) (reads : List ℕ → Bool) → ((r : R) → reads (bytes r) ≡ true) → ((r : R) → Bytes (bytes r)) → (s : Sparse R) → Celled reads (sparse_of bytes s)
sparse_celled bytes reads p q s = records_celled bytes reads p q s.table s.records.now s.used s.fits
