use Rattle.std.proofs.Common.{◌<◌, map, get_or, arith, rules, subst, ℕ, ◌≡◌, []}
use Rattle.expansion_theory.specs.Rows.{Holds}
use Rattle.expansion_theory.specs.RowLaws.{row_small}
use Rattle.cell_numbers.specs.Values.{cut_most}
use Rattle.cell_halves.specs.Rows.{rows_of, listed, line_within, row_more}
use Rattle.cell_halves.proofs.half.Goals as goal

small : {d j : ℕ} {rows : _} → rows ≡ rows_of d → d < 3 → j < 9 → (get_or (get_or rows j []) 0 0 < 27) × (get_or (get_or rows j []) 1 0 < 27) × (get_or (get_or rows j []) 2 0 < 27)
small e l m = row_small (listed e l m)

pub listed-in-loop-x : goal.listed-in-loop-x
listed-in-loop-x g c = omega (arith, (small c.rows-x-items.ensures c.requires.known.0 c.loop-x-test.true).1, c.type_inv.c)

pub bounds-c-y : goal.bounds-c-y
bounds-c-y g c = (small c.rows-x-items.ensures c.requires.known.0 c.loop-x-test.true).1

pub offset_bounds-c-z : goal.offset_bounds-c-z
offset_bounds-c-z g c = let h = small c.rows-x-items.ensures c.requires.known.0 c.loop-x-test.true in search rules

pub listed-in-loop-x-2 : goal.listed-in-loop-x-2
listed-in-loop-x-2 g c = omega (arith, (small c.rows-x-items.ensures c.requires.known.0 c.loop-x-test.true).2, c.type_inv.c)

pub bounds-c-z : goal.bounds-c-z
bounds-c-z g c = (small c.rows-x-items.ensures c.requires.known.0 c.loop-x-test.true).2

pub cut-row-requires : goal.cut-row-requires
cut-row-requires g c = let w = line_within g.N.Number.value c.args.c.now c.loop-x.out c.loop-x.invariant c.type_inv.c (small c.rows-x-items.ensures c.requires.known.0 c.loop-x-test.true) c.index-c-x.result c.index-c-y.result c.index-c-z.result in search rules

pub put_row-requires : goal.put_row-requires
put_row-requires g c = let h = small c.rows-x-items.ensures c.requires.known.0 c.loop-x-test.true in search rules

pub loop-x-preserved : goal.loop-x-preserved
loop-x-preserved g c = let r = listed c.rows-x-items.ensures c.requires.known.0 c.loop-x-test.true in
    row_more g.N.Number.value c.args.c.now c.loop-x.out c.loop-x.invariant c.type_inv.c (row_small r) _ _ _ _ r c.cut-row.ensures c.put_row.ensures

pub returns : goal.returns
returns g c = let e : c.loop-x.x-index ≡ 9 = omega arith in subst (λ (n : ℕ). Holds (cut_most g.N.Number.most) g.row.D g.row.H n (map g.N.Number.value c.args.c.now) (map g.N.Number.value c.loop-x.out)) e c.loop-x.invariant
