-- Eight points within the limits: there is room for every walk, and what the walks come to.
use Rattle.std.specs.Prelude.{◌≡◌, refl, Bool, true, List, ℕ, suc, ◌+◌, ◌*◌, ◌/◌, ◌%◌, ◌^◌, ◌<◌, ◌≤◌, ℤ, pos}
use Rattle.std.proofs.Common.{sym, ◌∙◌, ap, ap₂, subst, zero-lt-suc, arith, lit≤}
use Rattle.std.proofs.Math.Nat.{pow-le-pow_right}
use Rattle.definitions.specs.Limits.{base}
use Rattle.definitions.specs.Coefficients.{coefficients}
use Rattle.definitions.specs.Record.{verdict_words, record_of}
use Rattle.verdict_theory.specs.Opened.{most}
use Rattle.verdict_theory.specs.Search.{visit}
use Rattle.search_theory.specs.Meaning.{Small, Room}
use Rattle.search_theory.specs.Points.{points_small as small_within}
use Rattle.search_theory.specs.Visit.{is_blocked}
use Rattle.search_theory.specs.Levels.{Made, whole_of, fresh, whole_room, most_less, settled, made_first, made_next}
use Rattle.search_theory.specs.Bounds.{bounds_at, bounds_are}
use Rattle.audit_theory.specs.Walk.{Notes, sought, surveyed, opened, walk, walk_sought, walk_surveyed}
use Rattle.element_vectors.specs.Range.{InRange}
use Rattle.audit_cut.specs.Word.{largest}
use Rattle.audit_notes.specs.Meaning.{blocked_in, record_in}

pub points_small : (xs g : List ℤ) (depth : ℕ) → InRange base.range xs → depth ≤ base.depth → g ≡ coefficients xs → Small largest g depth
points_small xs g depth h = small_within largest base.range base.depth (lit≤ tt) xs g depth h.small

-- ---- three cuts for each level
thirds : (m : ℕ) → 3 * m / 3 ≡ m
thirds m = omega arith

-- the whole element has room, and a word of 32 bits for the cells that are opened
pub walk_room : (g : List ℤ) (m : ℕ) → Small largest g m → m ≤ base.depth → (n : Notes) → opened n + 8 ^ m < 2 ^ 32 → Room largest g 0 0 0 (3 * m / 3) × (3 * m % 3 ≡ 0) × (opened n + 8 ^ (3 * m / 3) < 2 ^ 32)
walk_room g m small l n few = let e = sym (thirds m) in (subst (λ (k : ℕ). Room largest g 0 0 0 k) e (whole_room largest g m small l), omega arith, subst (λ (k : ℕ). opened n + 8 ^ k < 2 ^ 32) e few)

pub opened_few : (m c : ℕ) → m < base.depth → c ≤ most m → c + 8 ^ (m + 1) < 2 ^ 32
opened_few m c l h = let p : m + 1 ≡ suc m = omega arith in let q : most (suc m) ≤ most base.depth = most_less (suc m) (omega (arith, l)) in omega (arith, h, q, ap (λ (k : ℕ). 8 ^ k) p)

pub survey_few : (m : ℕ) → m ≤ base.depth → 0 + 8 ^ m < 2 ^ 32
survey_few m l = let p : 8 ^ m ≤ 8 ^ base.depth = pow-le-pow_right (zero-lt-suc 7) l in omega (arith, p)

-- ---- a search
pub search_walk : (g : List ℤ) (m c : ℕ) {n : Notes} → n ≡ walk (3 * m / 3) (whole_of g) (sought (fresh c)) → n ≡ sought (visit m (whole_of g) (fresh c))
search_walk g m c e = e ∙ ap (λ (k : ℕ). walk k (whole_of g) (sought (fresh c))) (thirds m) ∙ walk_sought m (whole_of g) (fresh c)

-- before the walk of level m: c cells were opened so far, and the levels before were all blocked
pub data Ready (g : List ℤ) (m c : ℕ) : Type 0 where
  first : m ≡ 0 → c ≡ 0 → Ready g m c
  after : (k : ℕ) (n : Notes) (made : Made sought g k n) → is_blocked made.pass.found ≡ true → m ≡ k + 1 → c ≡ made.pass.count → Ready g m c

-- a word of 32 bits has room for the cells that the walk opens
pub ready_few : (g : List ℤ) (m c : ℕ) → Ready g m c → m ≤ base.depth → c + 8 ^ m < 2 ^ 32
ready_few g m c (first p q) l = subst (λ (t : ℕ × ℕ). t.1 + 8 ^ t.0 < 2 ^ 32) (λ i. (sym p i, sym q i)) (omega arith)
ready_few g m c (after k n made b p q) l = subst (λ (t : ℕ × ℕ). t.1 + 8 ^ t.0 < 2 ^ 32) (λ i. (sym p i, sym q i)) (opened_few k made.pass.count (omega (arith, p, l)) made.few)

-- the walk of level m
pub walked : (g : List ℤ) (m c : ℕ) → Ready g m c → {n : Notes} → n ≡ walk (3 * m / 3) (whole_of g) (sought (fresh c)) → Made sought g m n
walked g m c r {n} e = go r (search_walk g m c e)
  where
    go : Ready g m c → n ≡ sought (visit m (whole_of g) (fresh c)) → Made sought g m n
    go (first p q) e = subst (λ (k : ℕ). Made sought g k n) (sym p) (made_first sought g n (e ∙ (λ i. sought (visit (p i) (whole_of g) (fresh (q i))))))
    go (after k o made b p q) e = subst (λ (k : ℕ). Made sought g k n) (sym p) (made_next sought g k o n made b (e ∙ (λ i. sought (visit (p i) (whole_of g) (fresh (q i))))))

-- where it was blocked, the next level is to be walked
pub next : (g : List ℤ) (m c : ℕ) (n : Notes) (made : Made sought g m n) → is_blocked made.pass.found ≡ true → {d : ℕ} → d ≡ opened n → Ready g (m + 1) d
next g m c n made b e = after m n made b refl (e ∙ ap opened made.is)

-- else, or at the depth, its words are the record
pub settles : (g xs : List ℤ) (m D : ℕ) (n : Notes) (made : Made sought g m n) → g ≡ coefficients xs → m ≤ D → (is_blocked made.pass.found ≡ true → m ≡ D) → record_in m n ≡ record_of xs D
unfolding record_of
settles g xs m D n made e l last = let final = settled xs m D made.pass l (made.at xs e) last in ap (record_in m) made.is ∙ ap₂ verdict_words final.0 final.1

-- the test of the code
pub is_blocked_in : (g : List ℤ) (m : ℕ) (n : Notes) (made : Made sought g m n) {b : Bool} → b ≡ blocked_in n → is_blocked made.pass.found ≡ b
is_blocked_in g m n made e = sym (e ∙ ap blocked_in made.is)

-- ---- a survey, from the greatest number
pub survey_walk : (xs g : List ℤ) (D : ℕ) → g ≡ coefficients xs → Small largest g D → {n : Notes} → n ≡ walk (3 * D / 3) (whole_of g) (surveyed (record { low = pos largest; high = pos largest })) → n ≡ surveyed (bounds_at xs D)
survey_walk xs g D e small h = h ∙ (λ i. walk (thirds D i) (whole_of g) (surveyed (record { low = pos largest; high = pos largest }))) ∙ walk_surveyed D (whole_of g) (record { low = pos largest; high = pos largest }) ∙ ap surveyed (bounds_are largest xs g D e small)
