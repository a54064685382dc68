-- The stamp and the records of the report: what 02's sentence says of the records is the stamp of their counts; a refused mesh has no stamp; a closer look changes no stamp but an open one.
use Rattle.std.specs.Prelude.{◌≡◌, refl, Bool, true, false, ◌&&◌, ◌||◌, List, [], ◌∷◌, ℕ, zero, suc, ◌+◌, ◌*◌, ◌/◌, ◌≤◌, ltb, eqb, drop, ℤ, pos, nat_abs}
use Rattle.std.proofs.Common.{sym, ◌∙◌, ap₂, subst, true≢false, arith, eqb-true, ne_eqb, lt-ltb}
use Rattle.std.proofs.Math.Path.{ap}
use Rattle.std.proofs.Math.Bool.{and-false, or-true, and-eq-true_iff}
use Rattle.std.proofs.Math.Option.{Option, none, some}
use Rattle.std.proofs.Math.ListN.{length, take}
use Rattle.foundation.specs.Lists.{All, tabulate, tabulate_cong}
use Rattle.definitions.specs.Limits.{Limits, record_words}
use Rattle.definitions.specs.Record.{kind_word, is_number, is_valid, is_invalid, is_refused}
use Rattle.definitions.specs.Mesh.{MeshRefusal, records, report, Counts, how_many, counts_of, inspection, report_after, Stamp, «open», stamp_by, only_valid, some_faulty, stamp_of, stamp_given}
use Rattle.verdict_theory.specs.Kinds.{is_refusal, HasKind, Kind, kind0, kind1, kind2, kind5, kind6, kind7, number_is, kind_of, counted, counts_front, counts_total_law}
use Rattle.verdict_theory.specs.Elements.{element_same, records_kinds, report_length}
use Rattle.inspection_counts.specs.Answers.{stamp_is}
use Rattle.mesh_report.specs.Entries.{record_at}
use Rattle.inspector.specs.Reports.{report_part}
use Rattle.inspection_answers.specs.Answers.{refusal_here, refused_answer, accepted_answer, accepted_space}

-- a record is invalid or refused
abbrev pub is_faulty : List ℤ → Bool
is_faulty r = is_invalid r || is_refused r

abbrev pub every : (List ℤ → Bool) → List (List ℤ) → Bool
every p [] = true
every p (r ∷ rs) = p r && every p rs

abbrev pub any : (List ℤ → Bool) → List (List ℤ) → Bool
any p [] = false
any p (r ∷ rs) = p r || any p rs

-- ""sound" needs at least one element and every record valid; "faulty" if any record is invalid or refused"
abbrev pub stamp_of_records : List (List ℤ) → Stamp
stamp_of_records rs = stamp_by (ltb 0 (length rs) && every is_valid rs) (any is_faulty rs)

-- ---- the counts tell of all records what their words 0 tell
-- none but valid ones are counted
abbrev all_zero : ℕ → ℕ → ℕ → Bool
all_zero i u r = eqb i 0 && eqb u 0 && eqb r 0

abbrev no_other : Counts → Bool
no_other n = all_zero n.invalid n.undecided n.refused

not_none : (n : ℕ) → eqb (n + 1) 0 ≡ false
not_none n = ne_eqb (n + 1) 0 (λ e. omega arith)

first_one : (i u r : ℕ) → all_zero (i + 1) u r ≡ false
first_one i u r = ap (λ (b : Bool). b && eqb u 0 && eqb r 0) (not_none i)

second_one : (i u r : ℕ) → all_zero i (u + 1) r ≡ false
second_one i u r = ap (λ (b : Bool). eqb i 0 && b && eqb r 0) (not_none u) ∙ ap (λ (b : Bool). b && eqb r 0) (and-false (eqb i 0))

third_one : (i u r : ℕ) → all_zero i u (r + 1) ≡ false
third_one i u r = ap (λ (b : Bool). eqb i 0 && eqb u 0 && b) (not_none r) ∙ and-false (eqb i 0 && eqb u 0)

add_zero : (n : ℕ) → n ≡ n + 0
add_zero n = omega arith

valid_counted : (z : ℤ) (n : Counts) → Kind z → (is_number 0 z && no_other n) ≡ no_other (counted z n)
valid_counted z n (kind0 e) = subst (λ (y : ℤ). (is_number 0 y && no_other n) ≡ no_other (counted y n)) (sym e) (λ i. all_zero (add_zero n.invalid i) (add_zero n.undecided i) (add_zero n.refused i))
valid_counted z n (kind1 e) = subst (λ (y : ℤ). (is_number 0 y && no_other n) ≡ no_other (counted y n)) (sym e) (sym (first_one n.invalid (n.undecided + 0) (n.refused + 0)))
valid_counted z n (kind2 e) = subst (λ (y : ℤ). (is_number 0 y && no_other n) ≡ no_other (counted y n)) (sym e) (sym (second_one (n.invalid + 0) n.undecided (n.refused + 0)))
valid_counted z n (kind5 e) = subst (λ (y : ℤ). (is_number 0 y && no_other n) ≡ no_other (counted y n)) (sym e) (sym (third_one (n.invalid + 0) (n.undecided + 0) n.refused))
valid_counted z n (kind6 e) = subst (λ (y : ℤ). (is_number 0 y && no_other n) ≡ no_other (counted y n)) (sym e) (sym (third_one (n.invalid + 0) (n.undecided + 0) n.refused))
valid_counted z n (kind7 e) = subst (λ (y : ℤ). (is_number 0 y && no_other n) ≡ no_other (counted y n)) (sym e) (sym (third_one (n.invalid + 0) (n.undecided + 0) n.refused))

every_counted : (rs : List (List ℤ)) → All HasKind rs → every is_valid rs ≡ no_other (counts_of rs)
every_counted [] h = refl
every_counted (r ∷ rs) h = ap (λ (b : Bool). is_valid r && b) (every_counted rs h.1) ∙ valid_counted (kind_word r) (counts_of rs) (kind_of (kind_word r) h.0) ∙ sym (ap no_other (counts_front r rs))

-- some are counted where any is there
any_many : (p : List ℤ → Bool) (rs : List (List ℤ)) → any p rs ≡ ltb 0 (how_many p rs)
any_many p [] = refl
any_many p (r ∷ rs) = go (p r) (any_many p rs)
  where
    go : (b : Bool) → any p rs ≡ ltb 0 (how_many p rs) → (b || any p rs) ≡ ltb 0 (elim b as (λ _. ℕ) [ true ↦ suc (how_many p rs) | false ↦ how_many p rs ])
    go true h = sym (lt-ltb 0 (suc (how_many p rs)) (omega arith))
    go false h = h

both : (a b x y : Bool) → ((a || b) || (x || y)) ≡ ((a || x) || (b || y))
both true b x y = refl
both false true x y = sym (or-true x)
both false false x y = refl

any_either : (rs : List (List ℤ)) → any is_faulty rs ≡ (any is_invalid rs || any is_refused rs)
any_either [] = refl
any_either (r ∷ rs) = ap (λ (b : Bool). is_faulty r || b) (any_either rs) ∙ both (is_invalid r) (is_refused r) (any is_invalid rs) (any is_refused rs)

any_counted : (rs : List (List ℤ)) → any is_faulty rs ≡ some_faulty (counts_of rs)
any_counted rs = any_either rs ∙ ap₂ ◌||◌ (any_many is_invalid rs) (any_many is_refused rs)

-- where there is no other record, the valid ones are all
grouped : (a b c d : Bool) → (a && b && c && d) ≡ (a && (b && c && d))
grouped true b c d = refl
grouped false b c d = refl

only_valid_law : (rs : List (List ℤ)) → All HasKind rs → only_valid (counts_of rs) ≡ (ltb 0 (length rs) && every is_valid rs)
only_valid_law rs kinds =
    let n = counts_of rs in
    grouped (ltb 0 n.valid) (eqb n.invalid 0) (eqb n.undecided 0) (eqb n.refused 0)
    ∙ go (no_other n) refl ∙ ap (λ (b : Bool). ltb 0 (length rs) && b) (sym (every_counted rs kinds))
  where
    go : (b : Bool) → no_other (counts_of rs) ≡ b → (ltb 0 (counts_of rs).valid && no_other (counts_of rs)) ≡ (ltb 0 (length rs) && no_other (counts_of rs))
    go false e = ap (λ (b : Bool). ltb 0 (counts_of rs).valid && b) e ∙ and-false (ltb 0 (counts_of rs).valid) ∙ sym (ap (λ (b : Bool). ltb 0 (length rs) && b) e ∙ and-false (ltb 0 (length rs)))
    go true e =
        let n = counts_of rs in
        let two = (and-eq-true_iff (eqb n.invalid 0 && eqb n.undecided 0) (eqb n.refused 0)).0 e in
        let one = (and-eq-true_iff (eqb n.invalid 0) (eqb n.undecided 0)).0 two.0 in
        let i = eqb-true n.invalid 0 one.0 in
        let u = eqb-true n.undecided 0 one.1 in
        let r = eqb-true n.refused 0 two.1 in
        let all : n.valid ≡ length rs = omega (arith, counts_total_law rs kinds) in
        ap (λ (k : ℕ). ltb 0 k && no_other n) all

pub stamp_of_records_law : (rs : List (List ℤ)) → All HasKind rs → stamp_of (counts_of rs) ≡ stamp_of_records rs
stamp_of_records_law rs kinds = stamp_is (counts_of rs) (ltb 0 (length rs) && every is_valid rs) (any is_faulty rs) (only_valid_law rs kinds) (sym (any_counted rs))

-- ---- the stamp of a mesh
-- the records that stand in a report, one after the other
abbrev pub records_in : List ℤ → List (List ℤ)
records_in words = tabulate (λ e. take record_words (drop (record_words * e) words)) 0 (length words / record_words)

module _ (L : Limits) (coordinates : List ℤ) (indices : List ℕ) (D : ℕ) where
  -- no record is lost between the two
  pub records_in_report : records_in (report L coordinates indices D) ≡ records L coordinates indices D
  unfolding records
  records_in_report =
      let n = length indices / 8 in
      let as_many : length (report L coordinates indices D) / record_words ≡ n = omega (arith, report_length L coordinates indices D) in
      ap (tabulate (λ e. take record_words (drop (record_words * e) (report L coordinates indices D))) 0) as_many
      ∙ tabulate_cong (λ e. take record_words (drop (record_words * e) (report L coordinates indices D))) (record_at L coordinates indices D) 0 n (λ e h. report_part L coordinates indices D e (omega arith))

-- what the report space gives, read record by record: nothing where the mesh is refused
abbrev pub stamp_read : Option MeshRefusal → List ℤ → Option Stamp
stamp_read (some r) words = none
stamp_read none words = some (stamp_of_records (records_in words))

module _ (L : Limits) (coordinates : List ℤ) (indices : List ℕ) where
  accepted_stamp : (space : List ℤ) (D : ℕ) → refusal_here L coordinates indices space D ≡ none → stamp_given (inspection L coordinates indices (length space) D) ≡ some (stamp_of_records (records L coordinates indices D))
  accepted_stamp space D e = ap stamp_given (accepted_answer L coordinates indices space D e) ∙ ap some (stamp_of_records_law (records L coordinates indices D) (records_kinds L coordinates indices D))

  -- The stamp of an inspection's answer is the one that the records in the report space give; a refused mesh has none.
  pub stamp_as_read : (space : List ℤ) (D : ℕ) → stamp_given (inspection L coordinates indices (length space) D) ≡ stamp_read (refusal_here L coordinates indices space D) (report_after L coordinates indices space D)
  stamp_as_read space D = go (refusal_here L coordinates indices space D) refl
    where
      go : (o : Option MeshRefusal) → refusal_here L coordinates indices space D ≡ o → stamp_given (inspection L coordinates indices (length space) D) ≡ stamp_read (refusal_here L coordinates indices space D) (report_after L coordinates indices space D)
      go (some r) e = ap stamp_given (refused_answer L coordinates indices space D r e) ∙ sym (ap (λ (o : Option MeshRefusal). stamp_read o (report_after L coordinates indices space D)) e)
      go none e = accepted_stamp space D e
          ∙ ap (λ (rs : List (List ℤ)). some (stamp_of_records rs)) (sym (records_in_report L coordinates indices D))
          ∙ sym (ap₂ stamp_read e (accepted_space L coordinates indices space D e))

-- ---- a closer look
valid_decided : (r : List ℤ) → is_valid r ≡ true → kind_word r ≡ pos 2 → ⊥
valid_decided r e p = let q : pos 0 ≡ pos 2 = sym (number_is 0 (kind_word r) e) ∙ p in omega (arith, ap nat_abs q)

faulty_decided : (r : List ℤ) → is_faulty r ≡ true → kind_word r ≡ pos 2 → ⊥
faulty_decided r e p = true≢false (sym e ∙ ap (λ (z : ℤ). is_number 1 z || is_refusal z) p)

faulty_not_valid : (r : List ℤ) → is_faulty r ≡ true → is_valid r ≡ false
faulty_not_valid r e = go (is_valid r) refl
  where
    go : (b : Bool) → is_valid r ≡ b → is_valid r ≡ false
    go false v = v
    go true v = absurd (true≢false (sym e ∙ ap (λ (z : ℤ). is_number 1 z || is_refusal z) (number_is 0 (kind_word r) v)))

any_not_every : (rs : List (List ℤ)) → any is_faulty rs ≡ true → every is_valid rs ≡ false
any_not_every [] e = absurd (true≢false (sym e))
any_not_every (r ∷ rs) e = go (is_faulty r) refl (any_not_every rs)
  where
    go : (b : Bool) → is_faulty r ≡ b → (any is_faulty rs ≡ true → every is_valid rs ≡ false) → (is_valid r && every is_valid rs) ≡ false
    go true f next = ap (λ (b : Bool). b && every is_valid rs) (faulty_not_valid r f)
    go false f next = ap (λ (b : Bool). is_valid r && b) (next (sym (ap (λ (b : Bool). b || any is_faulty rs) f) ∙ e)) ∙ and-false (is_valid r)

-- two runs of records; where the first has one that is not undecided, the second has the same
module _ (f g : ℕ → List ℤ) (same : (k : ℕ) → (kind_word (f k) ≡ pos 2 → ⊥) → g k ≡ f k) where
  every_kept : (i n : ℕ) → every is_valid (tabulate f i n) ≡ true → tabulate g i n ≡ tabulate f i n
  every_kept i zero e = refl
  every_kept i (suc n) e = let two = (and-eq-true_iff (is_valid (f i)) (every is_valid (tabulate f (suc i) n))).0 e in ap₂ ◌∷◌ (same i (valid_decided (f i) two.0)) (every_kept (suc i) n two.1)

  any_kept : (i n : ℕ) → any is_faulty (tabulate f i n) ≡ true → any is_faulty (tabulate g i n) ≡ true
  any_kept i zero e = e
  any_kept i (suc n) e = go (is_faulty (f i)) refl (any_kept (suc i) n)
    where
      go : (b : Bool) → is_faulty (f i) ≡ b → (any is_faulty (tabulate f (suc i) n) ≡ true → any is_faulty (tabulate g (suc i) n) ≡ true) → (is_faulty (g i) || any is_faulty (tabulate g (suc i) n)) ≡ true
      go true t next = ap (λ (b : Bool). b || any is_faulty (tabulate g (suc i) n)) (ap is_faulty (same i (faulty_decided (f i) t)) ∙ t)
      go false t next = ap (λ (b : Bool). is_faulty (g i) || b) (next (sym (ap (λ (b : Bool). b || any is_faulty (tabulate f (suc i) n)) t) ∙ e)) ∙ or-true (is_faulty (g i))

  records_kept : (n : ℕ) → (stamp_of_records (tabulate f 0 n) ≡ «open» → ⊥) → stamp_of_records (tabulate g 0 n) ≡ stamp_of_records (tabulate f 0 n)
  records_kept n settled = go (ltb 0 (length rs) && every is_valid rs) refl (any is_faulty rs) refl
    where
      rs : List (List ℤ)
      rs = tabulate f 0 n

      go : (valid : Bool) → (ltb 0 (length rs) && every is_valid rs) ≡ valid → (found : Bool) → any is_faulty rs ≡ found → stamp_of_records (tabulate g 0 n) ≡ stamp_of_records rs
      go true e found h = ap stamp_of_records (every_kept 0 n ((and-eq-true_iff (ltb 0 (length rs)) (every is_valid rs)).0 e).1)
      go false e true h =
          let there = any_kept 0 n h in
          ap₂ stamp_by (ap (λ (b : Bool). ltb 0 (length (tabulate g 0 n)) && b) (any_not_every (tabulate g 0 n) there) ∙ and-false (ltb 0 (length (tabulate g 0 n)))) there
          ∙ sym (ap₂ stamp_by e h)
      go false e false h = absurd (settled (ap₂ stamp_by e h))

-- A closer look at a mesh: a stamp that is sound or faulty is given again at every greater depth at which the mesh is accepted.
pub stamp_kept : (L : Limits) (coordinates : List ℤ) (indices : List ℕ) (space space' : List ℤ) (D D' : ℕ) → D ≤ D' → refusal_here L coordinates indices space D ≡ none → refusal_here L coordinates indices space' D' ≡ none
    → (stamp_given (inspection L coordinates indices (length space) D) ≡ some «open» → ⊥) → stamp_given (inspection L coordinates indices (length space') D') ≡ stamp_given (inspection L coordinates indices (length space) D)
unfolding records
stamp_kept L coordinates indices space space' D D' further here there settled =
    let stamp = accepted_stamp L coordinates indices space D here in
    accepted_stamp L coordinates indices space' D' there
    ∙ ap some (records_kept (record_at L coordinates indices D) (record_at L coordinates indices D') (λ e h. element_same L coordinates (take 8 (drop (8 * e) indices)) D D' further h) (length indices / 8) (λ e. settled (stamp ∙ ap some e)))
    ∙ sym stamp
