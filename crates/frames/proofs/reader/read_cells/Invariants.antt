use Rattle.std.proofs.Common.{◌≡◌}
use Rattle.std.specs.Iterator.Adapters.{zip_first, zip_second}
use Rattle.std.specs.Slice.Iter.{chunks_exact_rest, chunks_exact_size}
use Rattle.frames.specs.Addressed.{addresses_left}
use Rattle.frames.proofs.Cutting.{Reading}
use Rattle.frames.proofs.reader.read_cells.Given as goal

abbrev pub invariant-loop-address : goal.invariant-loop-address
invariant-loop-address g l = record {
  cut : Reading g.R.CellRow.bytes g.R.CellRow.reads g.R.CellRow.width l.fn.page.number l.fn.page.map l.bytes l.cells (addresses_left (zip_first l.address-iterator)) (chunks_exact_rest (zip_second l.address-iterator));
  wide : chunks_exact_size (zip_second l.address-iterator) ≡ g.R.CellRow.width;
}
