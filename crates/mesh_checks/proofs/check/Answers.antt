-- `check` meets its contract: each return has the tests that led to it. Assumes nothing.
use mathlib.Core.Path.{◌≡◌, sym, ◌∙◌, ap, ap₂}
use mathlib.Core.Bool.{Bool, true, false}
use mathlib.Core.Option.{Option}
use Prim.Native.Nat.{ℕ, ◌*◌, ◌/◌, ◌<◌, ◌≤◌}
use borrow.Author.Tests.{lt-ltb, le-ltb, eq-eqb, ne_eqb}
use lib.Dec.{ltb, eqb}
use Rattle.definitions.specs.Limits.{base, record_words}
use Rattle.definitions.specs.Mesh.{MeshRefusal, well_sized, refusal}
use Rattle.mesh_checks.specs.Refusals.{refusal_by, refusal_by_law}
use Rattle.mesh_checks.proofs.check.Goals as goal

-- the four tests
module _ (coordinates indices space depth : ℕ) where
  abbrev due : Option MeshRefusal
  due = refusal base coordinates indices space depth

  abbrev nodes : Bool
  nodes = well_sized coordinates 3 base.nodes

  abbrev elements : Bool
  elements = well_sized indices 8 base.elements

  abbrev room : Bool
  room = eqb space (record_words * (indices / 8))

  by_tests : due ≡ refusal_by (ltb base.depth depth) nodes elements room
  by_tests = refusal_by_law base coordinates indices space depth

  deep : base.depth < depth → due ≡ refusal_by true nodes elements room
  deep h = by_tests ∙ ap (λ (b : Bool). refusal_by b nodes elements room) (lt-ltb base.depth _ h)

  -- by the answer to the second test, where the first is passed; by the third, where two are; by the last
  module _ (passed : depth ≤ base.depth) where
    node_test : (b : Bool) → nodes ≡ b → due ≡ refusal_by false b elements room
    node_test b e = by_tests ∙ ap₂ (λ (x y : Bool). refusal_by x y elements room) (le-ltb base.depth _ passed) e

    element_test : (b : Bool) → nodes ≡ true → elements ≡ b → due ≡ refusal_by false true b room
    element_test b n e = node_test true n ∙ ap (λ (x : Bool). refusal_by false true x room) e

    space_test : (b : Bool) → nodes ≡ true → elements ≡ true → room ≡ b → due ≡ refusal_by false true true b
    space_test b n m e = element_test true n m ∙ ap (refusal_by false true true) e

pub returns-then-depth-gt-MAX_DEPTH : goal.returns-then-depth-gt-MAX_DEPTH
returns-then-depth-gt-MAX_DEPTH c = sym (deep _ _ _ _ c.if-depth-gt-MAX_DEPTH.true)

pub returns-then-not-well_sized : goal.returns-then-not-well_sized
returns-then-not-well_sized c = sym (node_test _ _ _ _ c.if-depth-gt-MAX_DEPTH.false false (sym c.well_sized.ensures ∙ c.if-not-well_sized.true))

pub returns-then-not-well_sized-2 : goal.returns-then-not-well_sized-2
returns-then-not-well_sized-2 c =
    sym (element_test _ _ _ _ c.if-depth-gt-MAX_DEPTH.false false (sym c.well_sized.ensures ∙ c.if-not-well_sized.false) (sym c.well_sized-2.ensures ∙ c.if-not-well_sized-2.true))

pub returns-then-space-indices : goal.returns-then-space-indices
returns-then-space-indices c =
    sym (space_test _ _ _ _ c.if-depth-gt-MAX_DEPTH.false false (sym c.well_sized.ensures ∙ c.if-not-well_sized.false) (sym c.well_sized-2.ensures ∙ c.if-not-well_sized-2.false) (ne_eqb _ _ c.if-space-indices.true))

pub returns : goal.returns
returns c =
    sym (space_test _ _ _ _ c.if-depth-gt-MAX_DEPTH.false true (sym c.well_sized.ensures ∙ c.if-not-well_sized.false) (sym c.well_sized-2.ensures ∙ c.if-not-well_sized-2.false) (eq-eqb _ _ c.if-space-indices.false))
