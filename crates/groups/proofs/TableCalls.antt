-- Calls on a table of volumes, as the group that keeps it means them. Assumes nothing.
use Rattle.std.proofs.Common.{◌≡◌, ℕ, ◌*◌, ◌<◌, Bool, true, false, cond, not, ◌&&◌, ltb, List, [], map, get_or, take, set, Some, Ok, sym, refl, ap, ◌∙◌, arith}
use lib.Seq.{map-set, map-set_same, take-set-lt}
use Rattle.std.proofs.lemmas.Bool.Decides.{nat_tests}
use Rattle.std.proofs.lemmas.Grind.{common_steps}
use Rattle.std.proofs.lemmas.Bool.{ltb-true}
use Rattle.std.specs.List.{slice_get}
use Rattle.groups.specs.declared.volumes.VolumeRecord.{VolumeRecord}
use Rattle.groups.specs.declared.volumes.VolumeTable.{VolumeTable}
use Rattle.groups.specs.Marking.{accepts, remount_marking, write_marking}
use Rattle.groups.specs.Meaning.{Cell, address_in, after_remount, after_write, read_answer}
use Rattle.groups.specs.Shapes.{place_answer}
use Rattle.groups.specs.Tables.{admit_answer, admits, after_admit, after_alter, altered_if, counted, down, has, kept, marking, marks_of, record_of, unused}
use Rattle.groups.proofs.Basics.{address_below, within}

module _ (t : VolumeTable) (v : ℕ) where
  -- the table lets through just what the marks foretell
  mark_at : v < t.shape.volumes → get_or (marks_of t) v false ≡ (record_of t v).read_only
  mark_at h = grind (arith, common_steps)

  if_inside : (i : Bool) (x y : Bool) → (i ≡ true → x ≡ y) → i && x ≡ i && y
  if_inside i x y e = grind (arith, nat_tests)

  accepts_admits : (b : ℕ) → accepts t.shape.volumes t.shape.blocks (marks_of t) v b ≡ admits t v b
  accepts_admits b = if_inside (has t v b) (not (get_or (marks_of t) v false)) (not (record_of t v).read_only) (λ h. ap not (mark_at (within t.shape.volumes t.shape.blocks v b h).0))

  -- a count leaves all marks
  marks_counted : (test : Bool) → marks_of (altered_if test counted t v) ≡ marks_of t
  marks_counted true = ap (take t.shape.volumes) (map-set_same (λ (r : VolumeRecord). r.read_only) t.records v (counted (record_of t v)) unused refl)
  marks_counted false = refl

  -- a remount takes one down
  marks_down : (test : Bool) → (test ≡ true → v < t.shape.volumes) → marks_of (altered_if test down t v) ≡ cond test (set (marks_of t) v false) (marks_of t)
  marks_down true h = ap (take t.shape.volumes) (map-set (λ (r : VolumeRecord). r.read_only) t.records v (down (record_of t v))) ∙ take-set-lt t.shape.volumes (map (λ (r : VolumeRecord). r.read_only) t.records) v false (h refl)
  marks_down false h = refl

  pub remount_kept : (cs : List Cell) → kept (after_alter down t v) cs ≡ after_remount (kept t cs) v
  remount_kept cs =
      ap (marking t.shape.volumes t.shape.blocks cs) (marks_down (ltb v t.shape.volumes) (ltb-true v t.shape.volumes))
      ∙ sym (remount_marking t.shape.volumes t.shape.blocks cs (marks_of t) v 0 [])

  pub write_kept : (b : ℕ) (cs : List Cell) (x : Cell) → kept (after_admit t v b) (cond (admits t v b) (set cs (address_in t.shape.blocks v b) x) cs) ≡ after_write (kept t cs) v b x
  write_kept b cs x =
      ap (marking t.shape.volumes t.shape.blocks (cond (admits t v b) (set cs (address_in t.shape.blocks v b) x) cs)) (marks_counted (admits t v b))
      ∙ ap (λ (a : Bool). marking t.shape.volumes t.shape.blocks (cond a (set cs (address_in t.shape.blocks v b) x) cs) (marks_of t)) (sym (accepts_admits b))
      ∙ sym (write_marking t.shape.volumes t.shape.blocks cs (marks_of t) v b x)

  -- what is known of a write from the table's answer
  pub taken : (b r : ℕ) → admit_answer t v b ≡ Ok r → (admits t v b ≡ true) × (r ≡ address_in t.shape.blocks v b)
  taken b r e = grind (arith, nat_tests)

  pub read_found : (b r : ℕ) (cs : List Cell) (x : Cell) → place_answer t.shape v b ≡ Ok r → (r < t.shape.volumes * t.shape.blocks → slice_get cs r ≡ Some x) → Ok x ≡ read_answer (kept t cs) v b
  read_found b r cs x e h = let low = address_below t.shape.volumes t.shape.blocks v b in grind (arith, nat_tests)
