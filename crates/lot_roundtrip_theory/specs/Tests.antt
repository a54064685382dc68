-- The writer's tests, one after the other: the first that fails answers, and where all pass the file is written.
use Rattle.std.proofs.Math.Path.{◌≡◌, refl}
use Rattle.std.proofs.Common.{◌∙◌, arith, leb-true, le-leb, eqb-true, eq-eqb}
use Rattle.std.specs.Prelude.{Bool, true, false, ◌&&◌, List, [], ◌∷◌, ℕ, zero, suc, ◌/◌, ◌%◌, ◌<◌, ◌≤◌, leb, eqb, get_or, length, drop}
use Rattle.std.proofs.Math.Option.{Option, none, some}
use Rattle.foundation.specs.Lists.{All, sum}
use Rattle.lot_format.specs.Format.{FileLimits, name_bytes, written}
use Rattle.lot_format.specs.Runs.{Runs, lot_from}
use Rattle.lot_format.specs.Groups.{Test, first_failed, rising, fit_together, all_up_to}
use Rattle.lot_format.specs.Writing.{Unwritable, no_room, tests, Writing, file, unwritten, writing}

-- ---- tests of two parts
pub both_true : (a b : Bool) → a ≡ true → b ≡ true → (a && b) ≡ true
both_true a b p q = rw (p, q)

pub true_both : (a b : Bool) → (a && b) ≡ true → (a ≡ true) × (b ≡ true)
true_both true b e = (refl, e)
true_both false b e = (e, cc)

-- ---- a list of tests
abbrev pub Passed : Test Unwritable → Type 0
Passed t = t.passed ≡ true

all_passed : (ts : List (Test Unwritable)) → All Passed ts → first_failed ts ≡ none
all_passed [] h = refl
all_passed (t ∷ ts) h = rw (h.0, first_failed) (all_passed ts h.1)

-- the tests from the n-th on, where those before it passed
module _ (d : Test Unwritable) where
  one_passed : (n : ℕ) (ts : List (Test Unwritable)) → n < length ts → (get_or ts n d).passed ≡ true → first_failed (drop n ts) ≡ first_failed (drop (suc n) ts)
  one_passed n [] h e = absurd (omega arith)
  one_passed zero (t ∷ ts) h e = rw (e, first_failed)
  one_passed (suc n) (t ∷ ts) h e = one_passed n ts (omega arith) e

  one_failed : (n : ℕ) (ts : List (Test Unwritable)) → n < length ts → (get_or ts n d).passed ≡ false → first_failed (drop n ts) ≡ some (get_or ts n d).otherwise
  one_failed n [] h e = absurd (omega arith)
  one_failed zero (t ∷ ts) h e = rw (e, first_failed)
  one_failed (suc n) (t ∷ ts) h e = one_failed n ts (omega arith) e

none_failed : (ts : List (Test Unwritable)) → first_failed ts ≡ none → All Passed ts
none_failed [] e = tt
none_failed (t ∷ ts) e = go t.passed refl e (none_failed ts)
  where
    go : (b : Bool) → t.passed ≡ b → ◌≡◌ {A = Option Unwritable} (elim b [ true ↦ first_failed ts | false ↦ some t.otherwise ]) none → (first_failed ts ≡ none → All Passed ts) → All Passed (t ∷ ts)
    go true p e then = (p, then e)
    go false p e then = let z : ◌≡◌ {A = ℕ} 0 1 = cc in absurd (omega arith)

-- ---- the writer's tests, by name
pub record Writable (F : FileLimits) (x : Runs) (room : ℕ) : Type 0 where
  pub threes : length x.nodes % 3 ≡ 0
  pub eights : length x.elements % 8 ≡ 0
  pub paired : length x.lengths ≡ length x.offsets
  pub sums : sum x.lengths ≡ length x.names
  pub rises : rising 0 (length x.elements / 8) x.offsets ≡ true
  pub label_short : length x.label ≤ F.name
  pub names_short : all_up_to F.name x.lengths ≡ true
  pub label_named : name_bytes x.label ≡ true
  pub names_named : name_bytes x.names ≡ true
  pub few : length x.elements / 8 ≤ F.elements
  pub short : length (written (lot_from x)) ≤ F.bytes
  pub fits : length (written (lot_from x)) ≤ room

-- groups that fit together
pub together_parts : (lengths offsets : List ℕ) (names elements : ℕ) → fit_together lengths offsets names elements ≡ true → (length lengths ≡ length offsets) × (sum lengths ≡ names) × (rising 0 elements offsets ≡ true)
together_parts lengths offsets names elements e =
    let pairs = true_both (eqb (length lengths) (length offsets)) _ e in
    let sums = true_both (eqb (sum lengths) names) _ pairs.1 in
    (eqb-true _ _ pairs.0, eqb-true _ _ sums.0, sums.1)

module _ (F : FileLimits) (x : Runs) (room : ℕ) where
  passed_writable : All Passed (tests F x room) → Writable F x room
  passed_writable h =
      let third = h.1.1 in
      let fourth = third.1 in
      let fifth = fourth.1 in
      let sixth = fifth.1 in
      let seventh = sixth.1 in
      let fit = together_parts x.lengths x.offsets (length x.names) (length x.elements / 8) third.0 in
      let shorts = true_both (leb (length x.label) F.name) (all_up_to F.name x.lengths) fourth.0 in
      let names = true_both (name_bytes x.label) (name_bytes x.names) fifth.0 in
      record {
        threes = eqb-true _ _ h.0;
        eights = eqb-true _ _ h.1.0;
        paired = fit.0;
        sums = fit.1;
        rises = fit.2;
        label_short = leb-true _ _ shorts.0;
        names_short = shorts.1;
        label_named = names.0;
        names_named = names.1;
        few = leb-true _ _ sixth.0;
        short = leb-true _ _ seventh.0;
        fits = leb-true _ _ seventh.1.0;
      }

  writable_passed : Writable F x room → All Passed (tests F x room)
  writable_passed h =
      let together = both_true _ _ (eq-eqb _ _ h.paired) (both_true _ _ (eq-eqb _ _ h.sums) h.rises) in
      let short = both_true _ _ (le-leb _ _ h.label_short) h.names_short in
      (eq-eqb _ _ h.threes, (eq-eqb _ _ h.eights, (together, (short, (both_true _ _ h.label_named h.names_named, (le-leb _ _ h.few, (le-leb _ _ h.short, (le-leb _ _ h.fits, tt))))))))

  -- ---- the writer's answer
  pub writable_written : Writable F x room → writing F x room ≡ file (written (lot_from x))
  unfolding writing
  writable_written h = rw (all_passed (tests F x room) (writable_passed h), writing)

  pub written_writable : {bytes : List ℕ} → writing F x room ≡ file bytes → Writable F x room × (bytes ≡ written (lot_from x))
  unfolding writing
  written_writable {bytes} e = go (first_failed (tests F x room)) refl e
    where
      go : (o : Option Unwritable) → first_failed (tests F x room) ≡ o → ◌≡◌ {A = Writing} (elim o [ none ↦ file (written (lot_from x)) | some r ↦ unwritten r ]) (file bytes)
          → Writable F x room × (bytes ≡ written (lot_from x))
      go none p e = (passed_writable (none_failed (tests F x room) p), cc)
      go (some r) p e = let z : ◌≡◌ {A = ℕ} 0 1 = cc in absurd (omega arith)

  -- ---- test by test: those before the n-th passed
  pub record PassedUpTo (n : ℕ) : Type 0 where
    pub so_far : first_failed (tests F x room) ≡ first_failed (drop n (tests F x room))

  abbrev pub test : ℕ → Test Unwritable
  test n = get_or (tests F x room) n (record { passed = true; otherwise = no_room })

  pub none_tested : PassedUpTo 0
  none_tested = record { so_far = refl }

  pub one_more : (n : ℕ) → n < 8 → PassedUpTo n → (test n).passed ≡ true → PassedUpTo (suc n)
  one_more n h p e = record { so_far = p.so_far ∙ one_passed _ n (tests F x room) h e }

  pub first_unwritten : (n : ℕ) → n < 8 → PassedUpTo n → (test n).passed ≡ false → writing F x room ≡ unwritten (test n).otherwise
  unfolding writing
  first_unwritten n h p e = rw (p.so_far ∙ one_failed _ n (tests F x room) h e, writing)

  pub all_written : PassedUpTo 8 → writing F x room ≡ file (written (lot_from x))
  unfolding writing
  all_written p = rw (p.so_far, writing)
