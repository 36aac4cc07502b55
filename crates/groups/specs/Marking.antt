-- The laws of a group, of one that refuses a write only while the volume's mark is up. Assumes nothing.
use Rattle.std.specs.Prelude.{◌≡◌, ℕ, ◌*◌, Bool, true, false, cond, not, ◌&&◌, List, [], ◌∷◌, map, length, set, nat_lt, slice_index_or, slice_set, refl}
use Rattle.std.proofs.Common.{sym, ap, subst, ◌∙◌, arith, length-take-le}
use Rattle.std.proofs.lemmas.List.{length-map, set-get_or}
use Rattle.std.specs.List.{AllByRecursion}
use Rattle.groups.specs.declared.volumes.VolumeRecord.{VolumeRecord}
use Rattle.groups.specs.declared.volumes.VolumeTable.{VolumeTable}
use Rattle.groups.specs.Meaning.{Cell, GroupCall, GroupLaws, GroupMeaning, IsCell, address_in, after_remount, after_write, inside_of, marked, mounted, ran, remount, stored, write}
use Rattle.groups.specs.Tables.{Ready, marking, marks_of, kept}

-- whether such a group takes a write to a place
abbrev pub accepts : ℕ → ℕ → List Bool → ℕ → ℕ → Bool
accepts volumes blocks ms v b = inside_of volumes blocks v b && not (slice_index_or ms v false)

module _ (volumes blocks : ℕ) (cs : List Cell) (ms : List Bool) (v b : ℕ) (x : Cell) where
  -- a mark that is put up where it is up
  held : (t : Bool) → slice_index_or ms v false ≡ t → cond (not t) (stored (marking volumes blocks cs ms) v b x) (marked (marking volumes blocks cs ms) v b x) ≡ marking volumes blocks (cond (not t) (slice_set cs (address_in blocks v b) x) cs) ms
  held true e = ap (λ (ts : List Bool). record { volumes = volumes; blocks = blocks; cells = cs; marks = ts; takes = (marking volumes blocks cs ms).takes }) (ap (set ms v) (sym e) ∙ set-get_or ms v false)
  held false e = refl

  tried : (i : Bool) → cond i (cond (not (slice_index_or ms v false)) (stored (marking volumes blocks cs ms) v b x) (marked (marking volumes blocks cs ms) v b x)) (marking volumes blocks cs ms) ≡ marking volumes blocks (cond (i && not (slice_index_or ms v false)) (slice_set cs (address_in blocks v b) x) cs) ms
  tried true = held (slice_index_or ms v false) refl
  tried false = refl

  -- a write alters no mark, and a cell only if it is taken
  pub write_marking : after_write (marking volumes blocks cs ms) v b x ≡ marking volumes blocks (cond (accepts volumes blocks ms v b) (slice_set cs (address_in blocks v b) x) cs) ms
  write_marking = tried (inside_of volumes blocks v b)

  remounted : (i : Bool) → cond i (mounted (marking volumes blocks cs ms) v) (marking volumes blocks cs ms) ≡ marking volumes blocks cs (cond i (slice_set ms v false) ms)
  remounted true = refl
  remounted false = refl

  -- a remount takes one mark down
  pub remount_marking : after_remount (marking volumes blocks cs ms) v ≡ marking volumes blocks cs (cond (nat_lt v volumes) (slice_set ms v false) ms)
  remount_marking = remounted (nat_lt v volumes)

-- while a mark is up the group foretells refusal
stands_marking : (h : List GroupCall) (volumes blocks : ℕ) (cs : List Cell) (ms : List Bool) (v : ℕ) → slice_index_or (ran h (marking volumes blocks cs ms)).marks v false ≡ true → (ran h (marking volumes blocks cs ms)).takes [] v ≡ false
stands_marking [] volumes blocks cs ms v e = ap not e
stands_marking (write w b x ∷ h) volumes blocks cs ms v e =
    subst (λ (m : GroupMeaning). slice_index_or (ran h m).marks v false ≡ true → (ran h m).takes [] v ≡ false) (sym (write_marking volumes blocks cs ms w b x)) (stands_marking h volumes blocks _ ms v) e
stands_marking (remount w ∷ h) volumes blocks cs ms v e =
    subst (λ (m : GroupMeaning). slice_index_or (ran h m).marks v false ≡ true → (ran h m).takes [] v ≡ false) (sym (remount_marking volumes blocks cs ms w 0 [])) (stands_marking h volumes blocks cs _ v) e

pub length-marks : (t : VolumeTable) → Ready t → length (marks_of t) ≡ t.shape.volumes
length-marks t r =
    let all = map (λ (x : VolumeRecord). x.read_only) t.records in
    let l = length-map t.records (λ (x : VolumeRecord). x.read_only) in
    let e = r.1 in
    let f = r.0.1 in
    length-take-le t.shape.volumes all (omega arith)

-- a group that keeps a table and has a cell for each address is lawful
pub kept_lawful : (t : VolumeTable) (cs : List Cell) → Ready t → length cs ≡ t.shape.volumes * t.shape.blocks → GroupLaws (kept t cs)
kept_lawful t cs r l = record {
  shaped = r.0;
  sized = l;
  many = length-marks t r;
  stands = λ h v. stands_marking h t.shape.volumes t.shape.blocks cs (marks_of t) v;
}

-- what is made of cells of the kind alone
pub map_celled : {A : Type 0} (reads : List ℕ → Bool) (f : A → Cell) → ((x : A) → IsCell reads (f x)) → (xs : List A) → AllByRecursion (IsCell reads) (map f xs)
map_celled reads f p [] = tt
map_celled reads f p (x ∷ xs) = (p x, map_celled reads f p xs)
