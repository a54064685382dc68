-- The writer's tests ask of runs exactly what their lot has to keep to.
use Rattle.std.specs.Prelude.{◌≡◌, refl, Bool, true, false, List, [], ◌∷◌, ℕ, ◌/◌, ◌^◌, ◌<◌, ◌≤◌, leb, length, take, drop}
use Rattle.std.proofs.Common.{sym, ◌∙◌, ap, subst, arith, leb-true, le-leb, length-append, length-take, take-append-drop}
use Rattle.std.proofs.lemmas.List.{length-map}
use Rattle.std.specs.Int.Signed.{mag}
use Rattle.foundation.specs.Lists.{All, all_left, all_right, all_map, all_concat, sum}
use Rattle.lot_format.specs.Format.{FileLimits, Group, Lot, name_byte, name_bytes, written}
use Rattle.lot_format.specs.Runs.{Runs, names_of, lengths_of, runs_of, groups_of, lot_from}
use Rattle.lot_format.specs.Groups.{rising, all_up_to}
use Rattle.lot_format.specs.RunLaws.{Fitting, names_back, lengths_back, offsets_back, lot_back}
use Rattle.lot_format.specs.Lawful.{LawfulName, Lawful}
use Rattle.lot_roundtrip_theory.specs.Tests.{both_true, true_both, Writable}

-- ---- names
name_all : (s : List ℕ) → name_bytes s ≡ true → All (λ b. name_byte b ≡ true) s
name_all [] e = tt
name_all (b ∷ s) e = go (name_byte b) refl e (name_all s)
  where
    go : (t : Bool) → name_byte b ≡ t → ◌≡◌ {A = Bool} (elim t [ true ↦ name_bytes s | false ↦ false ]) true → (name_bytes s ≡ true → All (λ b. name_byte b ≡ true) s) → All (λ b. name_byte b ≡ true) (b ∷ s)
    go true p e then = (p, then e)
    go false p e then = (cc, then cc)

all_name : (s : List ℕ) → All (λ b. name_byte b ≡ true) s → name_bytes s ≡ true
all_name [] h = refl
all_name (b ∷ s) h = rw (h.0, name_bytes) (all_name s h.1)

module _ (F : FileLimits) where
  group_names : (names lengths offsets : List ℕ) → all_up_to F.name lengths ≡ true → All (λ b. name_byte b ≡ true) names → All (λ (g : Group). LawfulName F g.name) (groups_of names lengths offsets)
  group_names names [] offsets short h = tt
  group_names names (l ∷ lengths) [] short h = tt
  group_names names (l ∷ lengths) (b ∷ offsets) short h =
      let ups = true_both (leb l F.name) (all_up_to F.name lengths) short in
      let parts = subst (All (λ b. name_byte b ≡ true)) (sym (take-append-drop l names)) h in
      let first = all_left (λ b. name_byte b ≡ true) (take l names) (drop l names) parts in
      let rest = all_right (λ b. name_byte b ≡ true) (take l names) (drop l names) parts in
      (record { short = simp length-take (omega (arith, leb-true l F.name ups.0)); named = all_name (take l names) first }, group_names (drop l names) lengths offsets ups.1 rest)

  lengths_short : (gs : List Group) → All (λ (g : Group). LawfulName F g.name) gs → all_up_to F.name (lengths_of gs) ≡ true
  lengths_short [] h = refl
  lengths_short (g ∷ gs) h = both_true (leb (length g.name) F.name) (all_up_to F.name (lengths_of gs)) (le-leb _ _ h.0.short) (lengths_short gs h.1)

  all_named : (gs : List Group) → All (λ (g : Group). LawfulName F g.name) gs → name_bytes (names_of gs) ≡ true
  all_named gs h = all_name (names_of gs) (all_concat (λ b. name_byte b ≡ true) (λ (g : Group). g.name) gs (all_map (λ (g : Group). LawfulName F g.name) (λ (g : Group). All (λ b. name_byte b ≡ true) g.name) (λ g l. name_all g.name l.named) gs h))

total_lengths : (gs : List Group) → sum (lengths_of gs) ≡ length (names_of gs)
total_lengths [] = refl
total_lengths (g ∷ gs) = simp length-append (omega (arith, total_lengths gs))

-- ---- the numbers of runs have 32 bits
pub record Numbers32 (x : Runs) : Type 0 where
  pub nodes : All (λ z. mag z < 2 ^ 31) x.nodes
  pub elements : All (λ x. x < 2 ^ 32) x.elements

-- ---- runs that can be written
module _ (F : FileLimits) (x : Runs) (room : ℕ) (h : Writable F x room) where
  pub writable_lawful : Numbers32 x → Lawful F (lot_from x)
  writable_lawful small = record {
    label = record { short = h.label_short; named = h.label_named };
    nodes = record { threes = h.threes; signed32 = small.nodes };
    elements = record { eights = h.eights; few = h.few; unsigned32 = small.elements };
    groups = record {
      names = group_names F x.names x.lengths x.offsets h.names_short (name_all x.names h.names_named);
      rises = subst (λ (bs : List ℕ). rising 0 (length x.elements / 8) bs ≡ true) (sym (offsets_back x.names x.lengths x.offsets h.paired)) h.rises;
    };
  }

  pub writable_back : runs_of (lot_from x) ≡ x
  writable_back = let f : Fitting x.names x.lengths x.offsets = (h.paired, h.sums) in rw (names_back x.names x.lengths x.offsets f, lengths_back x.names x.lengths x.offsets f, offsets_back x.names x.lengths x.offsets h.paired)

-- ---- the runs of a lot that keeps to the limits
module _ (F : FileLimits) (lot : Lot) (room : ℕ) where
  pub lawful_writable : Lawful F lot → length (written lot) ≤ F.bytes → length (written lot) ≤ room → Writable F (runs_of lot) room
  lawful_writable h short fits =
      let back = ap written (lot_back lot) in record {
        threes = h.nodes.threes;
        eights = h.elements.eights;
        paired = length-map lot.groups _ ∙ sym (length-map lot.groups _);
        sums = total_lengths lot.groups;
        rises = h.groups.rises;
        label_short = h.label.short;
        names_short = lengths_short F lot.groups h.groups.names;
        label_named = h.label.named;
        names_named = all_named F lot.groups h.groups.names;
        few = h.elements.few;
        short = rw back short;
        fits = rw back fits;
      }
