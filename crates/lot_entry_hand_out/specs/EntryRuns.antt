-- What one entry adds to the lent runs, mark by mark. Assumes nothing.
use Rattle.std.specs.Prelude.{◌≡◌, refl, List, [], ◌∷◌, ◌++◌, map, ℕ, zero, suc, ◌+◌, ◌*◌, ◌≤◌, ◌<◌, length, take, drop, ℤ}
use Rattle.std.proofs.Common.{sym, ◌∙◌, ap, ap₂, subst, arith, eqb-true, length-drop, take-take, length-take-le}
use Rattle.std.proofs.lemmas.List.{drop-take}
use Rattle.foundation.specs.Lists.{append_nil}
use Rattle.foundation.specs.Laid.{put, put_nil}
use Rattle.lot_format.specs.Numbers.{number, signed, unsigneds, signeds}
use Rattle.lot_format.specs.Format.{LB as mark_lb, ND as mark_nd, HX as mark_hx, GR as mark_gr, EN as mark_en}
use Rattle.lot_format.specs.Runs.{Runs}
use Rattle.lot_format.specs.Reading.{Room}
use Rattle.lot_marks.specs.declared.Mark.{Mark}
use Rattle.lot_marks.specs.Meaning.{mark_held}
use Rattle.lot_scan.specs.declared.Counts.{Counts}
use Rattle.lot_entry_hand_out.specs.Meaning.{new_runs, Fitting, Laid}

-- ---- the numbers of a body, from its bytes alone
unsigneds_take : (n : ℕ) (bs : List ℕ) → unsigneds n (take (4 * n) bs) ≡ unsigneds n bs
unsigneds_take zero bs = refl
unsigneds_take (suc n) bs =
    let e : 4 * suc n ≡ 4 + 4 * n = omega arith in
    rw e (ap₂ (λ x l. number x ∷ l) (take-take 4 (4 + 4 * n) bs (omega arith)) (ap (unsigneds n) (drop-take 4 (4 * n) bs) ∙ unsigneds_take n (drop 4 bs)))

-- ---- the words for what an entry holds are there
pub fit_by : {m k : Mark} {file : List ℕ} {at len : ℕ} {n : Counts} {room : Room} → m ≡ k → Fitting (mark_held m) file at len n room → Fitting (mark_held k) file at len n room
fit_by {m} {k} {file} {at} {len} {n} {room} e = subst (λ (m : Mark). Fitting (mark_held m) file at len n room) e

module _ {file : List ℕ} {at len : ℕ} {n : Counts} {room : Room} where
  node_length : Fitting mark_nd file at len n room → len ≡ 12
  node_length f = eqb-true len 12 f.right

  element_length : Fitting mark_hx file at len n room → len ≡ 32
  element_length f = eqb-true len 32 f.right

  pub node_room : Fitting mark_nd file at len n room → (at + 12 ≤ length file) × (3 * n.nodes + 3 ≤ room.nodes)
  node_room f = (omega (arith, f.within, node_length f), f.nodes_fit)

  pub element_room : Fitting mark_hx file at len n room → (at + 32 ≤ length file) × (8 * n.elements + 8 ≤ room.elements)
  element_room f = (omega (arith, f.within, element_length f), f.elements_fit)

  name_long : Fitting mark_gr file at len n room → length (take len (drop at file) ++ []) ≡ len
  name_long f = ap length (append_nil (take len (drop at file))) ∙ length-take-le len (drop at file) (simp length-drop (omega (arith, f.within)))

  pub name_room : Fitting mark_gr file at len n room → (at + len ≤ length file) × (n.names + len ≤ room.names)
  name_room f = (f.within, omega (arith, f.names_fit, name_long f))

  pub length_room : Fitting mark_gr file at len n room → (n.groups < room.lengths) × (len < 4294967296)
  length_room f = (omega (arith, f.lengths_fit), omega (arith, f.small.len_small))

-- ---- the lent runs with one entry more
kept : {A : Type 0} (n : ℕ) (space : List A) → space ≡ put n [] space
kept n space = sym (put_nil n space)

module _ (file : List ℕ) (at len : ℕ) (n : Counts) (lent : Runs) where
  pub laid_label : Laid (new_runs mark_lb file at len n) n lent lent
  laid_label = record { nodes_after = kept (3 * n.nodes) lent.nodes; elements_after = kept (8 * n.elements) lent.elements; names_after = kept n.names lent.names; lengths_after = kept n.groups lent.lengths; offsets_after = kept n.groups lent.offsets }

  pub laid_end : Laid (new_runs mark_en file at len n) n lent lent
  laid_end = record { nodes_after = kept (3 * n.nodes) lent.nodes; elements_after = kept (8 * n.elements) lent.elements; names_after = kept n.names lent.names; lengths_after = kept n.groups lent.lengths; offsets_after = kept n.groups lent.offsets }

  pub laid_node : {room : Room} {nodes : List ℤ} → Fitting mark_nd file at len n room → nodes ≡ put (3 * n.nodes) (signeds 3 (drop at file)) lent.nodes
      → Laid (new_runs mark_nd file at len n) n lent (record lent { nodes = nodes })
  laid_node fit e =
      let body = ap (map signed) (sym (unsigneds_take 3 (drop at file)) ∙ ap (λ (k : ℕ). unsigneds 3 (take k (drop at file))) (sym (node_length fit))) in record {
        nodes_after = e ∙ ap (λ (l : List ℤ). put (3 * n.nodes) l lent.nodes) body;
        elements_after = kept (8 * n.elements) lent.elements;
        names_after = kept n.names lent.names;
        lengths_after = kept n.groups lent.lengths;
        offsets_after = kept n.groups lent.offsets;
      }

  pub laid_element : {room : Room} {elements : List ℕ} → Fitting mark_hx file at len n room → elements ≡ put (8 * n.elements) (unsigneds 8 (drop at file)) lent.elements
      → Laid (new_runs mark_hx file at len n) n lent (record lent { elements = elements })
  laid_element fit e =
      let body = sym (unsigneds_take 8 (drop at file)) ∙ ap (λ (k : ℕ). unsigneds 8 (take k (drop at file))) (sym (element_length fit)) in record {
        nodes_after = kept (3 * n.nodes) lent.nodes;
        elements_after = e ∙ ap (λ (l : List ℕ). put (8 * n.elements) l lent.elements) body;
        names_after = kept n.names lent.names;
        lengths_after = kept n.groups lent.lengths;
        offsets_after = kept n.groups lent.offsets;
      }

  pub laid_group : {room : Room} {names lengths offsets : List ℕ} → Fitting mark_gr file at len n room → names ≡ put n.names (take len (drop at file)) lent.names
      → lengths ≡ put n.groups (len ∷ []) lent.lengths → offsets ≡ put n.groups (n.elements ∷ []) lent.offsets
      → Laid (new_runs mark_gr file at len n) n lent (record lent { names = names; lengths = lengths; offsets = offsets })
  laid_group fit p q r =
      let name = take len (drop at file) in
      let long : len ≡ length name = sym (ap length (sym (append_nil name)) ∙ name_long fit) in record {
        nodes_after = kept (3 * n.nodes) lent.nodes;
        elements_after = kept (8 * n.elements) lent.elements;
        names_after = p ∙ ap (λ (l : List ℕ). put n.names l lent.names) (sym (append_nil name));
        lengths_after = q ∙ ap (λ (k : ℕ). put n.groups (k ∷ []) lent.lengths) long;
        offsets_after = r;
      }
