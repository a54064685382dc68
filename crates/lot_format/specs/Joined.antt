-- Lots joined, and the runs of a joined lot.
use Rattle.std.specs.Prelude.{◌≡◌, refl, List, [], ◌∷◌, ◌++◌, map, length}
use Rattle.std.proofs.Common.{ap, append_assoc}
use Rattle.foundation.specs.Lists.{append_nil, concat_map_append}
use Rattle.lot_format.specs.Format.{Lot, Group}
use Rattle.lot_format.specs.Runs.{names_of, lengths_of, offsets_of}
use Rattle.lot_format.specs.Reading.{no_lot, joined}

pub joined_none : (a : Lot) → joined a no_lot ≡ a
joined_none a = rw (append_nil a.label, append_nil a.nodes, append_nil a.elements, append_nil a.groups)

pub joined_assoc : (a b c : Lot) → joined (joined a b) c ≡ joined a (joined b c)
joined_assoc a b c = simp append_assoc

-- ---- runs
pub names_append : (gs hs : List Group) → names_of (gs ++ hs) ≡ names_of gs ++ names_of hs
names_append gs hs = concat_map_append (λ (g : Group). g.name) gs hs

map_append : {A B : Type 0} (f : A → B) (xs ys : List A) → map f (xs ++ ys) ≡ map f xs ++ map f ys
map_append f [] ys = refl
map_append f (x ∷ xs) ys = ap (λ l. f x ∷ l) (map_append f xs ys)

pub lengths_append : (gs hs : List Group) → lengths_of (gs ++ hs) ≡ lengths_of gs ++ lengths_of hs
lengths_append gs hs = map_append (λ (g : Group). length g.name) gs hs

pub offsets_append : (gs hs : List Group) → offsets_of (gs ++ hs) ≡ offsets_of gs ++ offsets_of hs
offsets_append gs hs = map_append (λ (g : Group). g.offset) gs hs
