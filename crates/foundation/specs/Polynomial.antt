-- Identities of commutative rings over ℤ, decided by computing: an expression is multiplied out to a sorted list of monomials.
use Rattle.std.specs.Prelude.{◌≡◌, refl, Bool, true, false, List, [], ◌∷◌, T, eqb, leb, ℤ, pos, negsuc, neg_ℤ, ◌+ℤ◌, ◌-ℤ◌, ◌*ℤ◌}
use Rattle.std.proofs.Common.{sym, ◌∙◌, ap, ap₂, subst, eqb→eq}
use Prim.Native.Nat.{ℕ, compare, Ordering}
use Rattle.std.proofs.Math.Dec.{compare_is_eq}
use Rattle.std.proofs.Math.IntN.{+ℤ_idl, +ℤ_idr, +ℤ_assoc, neg_ℤ-+ℤ, neg_ℤ-neg_ℤ, zero-*ℤ, *ℤ-zero, *ℤ_comm}
use Rattle.foundation.specs.Ring.{left_comm, interchange, distrib_left, distrib_right, neg_unique, neg_mul_left, mul_assoc, one_mul, mul_left_comm}

-- operations in which a formula is written once: used at ℤ for the statement and at expressions for the computed test
pub record Arithmetic (A : Type 0) : Type 0 where
  pub plus : A → A → A
  pub minus : A → A → A
  pub times : A → A → A
  pub whole : ℤ → A

pub data Expr : Type 0 where
  var : ℕ → Expr
  con : ℤ → Expr
  add : Expr → Expr → Expr
  mul : Expr → Expr → Expr
  neg : Expr → Expr

abbrev pub integers : Arithmetic ℤ
integers = record { plus = ◌+ℤ◌; minus = ◌-ℤ◌; times = ◌*ℤ◌; whole = λ c. c }

abbrev pub expressions : Arithmetic Expr
expressions = record { plus = add; minus = λ a b. add a (neg b); times = mul; whole = con }

abbrev pub eval : (ℕ → ℤ) → Expr → ℤ
eval ρ (var i) = ρ i
eval ρ (con c) = c
eval ρ (add a b) = eval ρ a +ℤ eval ρ b
eval ρ (mul a b) = eval ρ a *ℤ eval ρ b
eval ρ (neg a) = neg_ℤ (eval ρ a)

-- ---- monomials: sorted lists of variables
abbrev pub eval_monomial : (ℕ → ℤ) → List ℕ → ℤ
eval_monomial ρ [] = pos 1
eval_monomial ρ (i ∷ m) = ρ i *ℤ eval_monomial ρ m

-- x at its place; `rest` merges the variables after x with those from that place on
abbrev pub place_var : ℕ → (List ℕ → List ℕ) → List ℕ → List ℕ
place_var x rest [] = x ∷ rest []
place_var x rest (y ∷ ys) = elim (leb x y) [ true ↦ x ∷ rest (y ∷ ys) | false ↦ y ∷ place_var x rest ys ]

abbrev pub mul_monomial : List ℕ → List ℕ → List ℕ
mul_monomial [] n = n
mul_monomial (x ∷ m) n = place_var x (mul_monomial m) n

-- the order of monomials: the empty one is last
abbrev pub order : List ℕ → List ℕ → Ordering
order [] [] = Ordering.eq
order [] (y ∷ n) = Ordering.gt
order (x ∷ m) [] = Ordering.lt
order (x ∷ m) (y ∷ n) = elim (compare x y) [ Ordering.lt ↦ Ordering.lt | Ordering.eq ↦ order m n | Ordering.gt ↦ Ordering.gt ]

-- ---- sums of terms, by the order of their monomials, without terms of coefficient 0
pub data Poly : Type 0 where
  nil : Poly
  term : ℤ → List ℕ → Poly → Poly

abbrev pub eval_poly : (ℕ → ℤ) → Poly → ℤ
eval_poly ρ nil = pos 0
eval_poly ρ (term c m p) = c *ℤ eval_monomial ρ m +ℤ eval_poly ρ p

abbrev pub is_zero : ℤ → Bool
is_zero (pos n) = eqb n 0
is_zero (negsuc n) = false

-- a term in front, unless its coefficient is 0
abbrev pub front : ℤ → List ℕ → Poly → Poly
front c m p = elim (is_zero c) [ true ↦ p | false ↦ term c m p ]

-- a term at its place; `rest` adds the terms after it to those from that place on
abbrev pub place_term : ℤ → List ℕ → (Poly → Poly) → Poly → Poly
place_term c m rest nil = term c m (rest nil)
place_term c m rest (term d n q) = elim (order m n) [
  | Ordering.lt ↦ term c m (rest (term d n q))
  | Ordering.eq ↦ front (c +ℤ d) m (rest q)
  | Ordering.gt ↦ term d n (place_term c m rest q)
]

abbrev pub add_poly : Poly → Poly → Poly
add_poly nil q = q
add_poly (term c m p) q = place_term c m (add_poly p) q

abbrev pub scale_poly : ℤ → List ℕ → Poly → Poly
scale_poly c m nil = nil
scale_poly c m (term d n q) = term (c *ℤ d) (mul_monomial m n) (scale_poly c m q)

abbrev pub mul_poly : Poly → Poly → Poly
mul_poly nil q = nil
mul_poly (term c m p) q = add_poly (scale_poly c m q) (mul_poly p q)

abbrev pub neg_poly : Poly → Poly
neg_poly nil = nil
neg_poly (term c m p) = term (neg_ℤ c) m (neg_poly p)

abbrev pub normal : Expr → Poly
normal (var i) = term (pos 1) (i ∷ []) nil
normal (con c) = front c [] nil
normal (add a b) = add_poly (normal a) (normal b)
normal (mul a b) = mul_poly (normal a) (normal b)
normal (neg a) = neg_poly (normal a)

abbrev pub is_nil : Poly → Bool
is_nil nil = true
is_nil (term c m p) = false

-- ---- the tests
abbrev pub vanishes : Expr → Bool
vanishes e = is_nil (normal e)

abbrev pub same : Expr → Expr → Bool
same a b = vanishes (add a (neg b))

-- ---- they are right
pub is_zero_is : (c : ℤ) → T (is_zero c) → c ≡ pos 0
is_zero_is (pos n) t = ap pos (eqb→eq n 0 t)
is_zero_is (negsuc n) t = absurd t

is_eq : (o : Ordering) → o ≡ Ordering.eq → T (compare_is_eq o)
is_eq o e = subst (λ (x : Ordering). T (compare_is_eq x)) (sym e) tt

order_eq : (m n : List ℕ) → order m n ≡ Ordering.eq → m ≡ n
order_eq [] [] e = refl
order_eq [] (y ∷ n) e = absurd (is_eq Ordering.gt e)
order_eq (x ∷ m) [] e = absurd (is_eq Ordering.lt e)
order_eq (x ∷ m) (y ∷ n) e = go (compare x y) refl (order_eq m n) e
  where
    go : (o : Ordering) → compare x y ≡ o → (order m n ≡ Ordering.eq → m ≡ n)
        → elim o as (λ _. Ordering) [ Ordering.lt ↦ Ordering.lt | Ordering.eq ↦ order m n | Ordering.gt ↦ Ordering.gt ] ≡ Ordering.eq → (x ∷ m) ≡ (y ∷ n)
    go Ordering.lt p h e = absurd (is_eq Ordering.lt e)
    go Ordering.eq p h e = ap₂ ◌∷◌ (eqb→eq x y (is_eq (compare x y) p)) (h e)
    go Ordering.gt p h e = absurd (is_eq Ordering.gt e)

module _ (ρ : ℕ → ℤ) where
  place_var_is : (x : ℕ) (M : ℤ) (rest : List ℕ → List ℕ) → ((n : List ℕ) → eval_monomial ρ (rest n) ≡ M *ℤ eval_monomial ρ n)
      → (n : List ℕ) → eval_monomial ρ (place_var x rest n) ≡ ρ x *ℤ M *ℤ eval_monomial ρ n
  place_var_is x M rest h [] = ap (λ (t : ℤ). ρ x *ℤ t) (h []) ∙ sym (mul_assoc (ρ x) M (pos 1))
  place_var_is x M rest h (y ∷ ys) = go (leb x y) (place_var_is x M rest h ys)
    where
      go : (b : Bool) → eval_monomial ρ (place_var x rest ys) ≡ ρ x *ℤ M *ℤ eval_monomial ρ ys
          → eval_monomial ρ (elim b [ true ↦ x ∷ rest (y ∷ ys) | false ↦ y ∷ place_var x rest ys ]) ≡ ρ x *ℤ M *ℤ (ρ y *ℤ eval_monomial ρ ys)
      go true r = ap (λ (t : ℤ). ρ x *ℤ t) (h (y ∷ ys)) ∙ sym (mul_assoc (ρ x) M (ρ y *ℤ eval_monomial ρ ys))
      go false r = ap (λ (t : ℤ). ρ y *ℤ t) r ∙ mul_left_comm (ρ y) (ρ x *ℤ M) (eval_monomial ρ ys)

  mul_monomial_is : (m n : List ℕ) → eval_monomial ρ (mul_monomial m n) ≡ eval_monomial ρ m *ℤ eval_monomial ρ n
  mul_monomial_is [] n = sym (one_mul (eval_monomial ρ n))
  mul_monomial_is (x ∷ m) n = place_var_is x (eval_monomial ρ m) (mul_monomial m) (mul_monomial_is m) n

  front_is : (c : ℤ) (m : List ℕ) (p : Poly) → eval_poly ρ (front c m p) ≡ c *ℤ eval_monomial ρ m +ℤ eval_poly ρ p
  front_is c m p = go (is_zero c) refl
    where
      go : (b : Bool) → is_zero c ≡ b → eval_poly ρ (elim b [ true ↦ p | false ↦ term c m p ]) ≡ c *ℤ eval_monomial ρ m +ℤ eval_poly ρ p
      go true e = sym (ap (λ (t : ℤ). t *ℤ eval_monomial ρ m +ℤ eval_poly ρ p) (is_zero_is c (subst T (sym e) tt))
          ∙ ap (λ (t : ℤ). t +ℤ eval_poly ρ p) (zero-*ℤ (eval_monomial ρ m)) ∙ +ℤ_idl (eval_poly ρ p))
      go false e = refl

  place_term_is : (c : ℤ) (m : List ℕ) (P : ℤ) (rest : Poly → Poly) → ((q : Poly) → eval_poly ρ (rest q) ≡ P +ℤ eval_poly ρ q)
      → (q : Poly) → eval_poly ρ (place_term c m rest q) ≡ c *ℤ eval_monomial ρ m +ℤ P +ℤ eval_poly ρ q
  place_term_is c m P rest h nil = ap (λ (t : ℤ). c *ℤ eval_monomial ρ m +ℤ t) (h nil) ∙ sym (+ℤ_assoc (c *ℤ eval_monomial ρ m) P (pos 0))
  place_term_is c m P rest h (term d n q) = go (order m n) refl (place_term_is c m P rest h q)
    where
      M : ℤ
      M = eval_monomial ρ m

      N : ℤ
      N = eval_monomial ρ n

      Q : ℤ
      Q = eval_poly ρ q

      go : (o : Ordering) → order m n ≡ o → eval_poly ρ (place_term c m rest q) ≡ c *ℤ M +ℤ P +ℤ Q
          → eval_poly ρ (elim o [ Ordering.lt ↦ term c m (rest (term d n q)) | Ordering.eq ↦ front (c +ℤ d) m (rest q) | Ordering.gt ↦ term d n (place_term c m rest q) ])
          ≡ c *ℤ M +ℤ P +ℤ (d *ℤ N +ℤ Q)
      go Ordering.lt e r = ap (λ (t : ℤ). c *ℤ M +ℤ t) (h (term d n q)) ∙ sym (+ℤ_assoc (c *ℤ M) P (d *ℤ N +ℤ Q))
      go Ordering.eq e r = front_is (c +ℤ d) m (rest q) ∙ ap₂ ◌+ℤ◌ (distrib_right c d M) (h q) ∙ interchange (c *ℤ M) (d *ℤ M) P Q
          ∙ ap (λ (t : List ℕ). c *ℤ M +ℤ P +ℤ (d *ℤ eval_monomial ρ t +ℤ Q)) (order_eq m n e)
      go Ordering.gt e r = ap (λ (t : ℤ). d *ℤ N +ℤ t) r ∙ left_comm (d *ℤ N) (c *ℤ M +ℤ P) Q

  add_poly_is : (p q : Poly) → eval_poly ρ (add_poly p q) ≡ eval_poly ρ p +ℤ eval_poly ρ q
  add_poly_is nil q = sym (+ℤ_idl (eval_poly ρ q))
  add_poly_is (term c m p) q = place_term_is c m (eval_poly ρ p) (add_poly p) (add_poly_is p) q

  scale_poly_is : (c : ℤ) (m : List ℕ) (q : Poly) → eval_poly ρ (scale_poly c m q) ≡ c *ℤ eval_monomial ρ m *ℤ eval_poly ρ q
  scale_poly_is c m nil = sym (*ℤ-zero (c *ℤ eval_monomial ρ m))
  scale_poly_is c m (term d n q) = ap₂ ◌+ℤ◌ first (scale_poly_is c m q) ∙ sym (distrib_left (c *ℤ M) (d *ℤ N) (eval_poly ρ q))
    where
      M : ℤ
      M = eval_monomial ρ m

      N : ℤ
      N = eval_monomial ρ n

      first : c *ℤ d *ℤ eval_monomial ρ (mul_monomial m n) ≡ c *ℤ M *ℤ (d *ℤ N)
      first = ap (λ (t : ℤ). c *ℤ d *ℤ t) (mul_monomial_is m n) ∙ mul_assoc c d (M *ℤ N) ∙ ap (λ (t : ℤ). c *ℤ t) (mul_left_comm d M N) ∙ sym (mul_assoc c M (d *ℤ N))

  mul_poly_is : (p q : Poly) → eval_poly ρ (mul_poly p q) ≡ eval_poly ρ p *ℤ eval_poly ρ q
  mul_poly_is nil q = sym (zero-*ℤ (eval_poly ρ q))
  mul_poly_is (term c m p) q = add_poly_is (scale_poly c m q) (mul_poly p q) ∙ ap₂ ◌+ℤ◌ (scale_poly_is c m q) (mul_poly_is p q)
      ∙ sym (distrib_right (c *ℤ eval_monomial ρ m) (eval_poly ρ p) (eval_poly ρ q))

  neg_poly_is : (p : Poly) → eval_poly ρ (neg_poly p) ≡ neg_ℤ (eval_poly ρ p)
  neg_poly_is nil = refl
  neg_poly_is (term c m p) = ap₂ ◌+ℤ◌ (neg_mul_left c (eval_monomial ρ m)) (neg_poly_is p) ∙ sym (neg_ℤ-+ℤ (c *ℤ eval_monomial ρ m) (eval_poly ρ p))

  mul_one : (a : ℤ) → a *ℤ pos 1 ≡ a
  mul_one a = *ℤ_comm a (pos 1) ∙ one_mul a

  pub normal_is : (e : Expr) → eval_poly ρ (normal e) ≡ eval ρ e
  normal_is (var i) = +ℤ_idr (pos 1 *ℤ (ρ i *ℤ pos 1)) ∙ one_mul (ρ i *ℤ pos 1) ∙ mul_one (ρ i)
  normal_is (con c) = front_is c [] nil ∙ +ℤ_idr (c *ℤ pos 1) ∙ mul_one c
  normal_is (add a b) = add_poly_is (normal a) (normal b) ∙ ap₂ ◌+ℤ◌ (normal_is a) (normal_is b)
  normal_is (mul a b) = mul_poly_is (normal a) (normal b) ∙ ap₂ ◌*ℤ◌ (normal_is a) (normal_is b)
  normal_is (neg a) = neg_poly_is (normal a) ∙ ap neg_ℤ (normal_is a)

  nil_is : (p : Poly) → T (is_nil p) → eval_poly ρ p ≡ pos 0
  nil_is nil t = refl
  nil_is (term c m p) t = absurd t

  pub vanishes_is : (e : Expr) → T (vanishes e) → eval ρ e ≡ pos 0
  vanishes_is e t = sym (normal_is e) ∙ nil_is (normal e) t

  -- two expressions that multiply out to the same have the same value
  pub solve : (a b : Expr) → T (same a b) → eval ρ a ≡ eval ρ b
  solve a b t = neg_unique (eval ρ a) (neg_ℤ (eval ρ b)) (vanishes_is (add a (neg b)) t) ∙ neg_ℤ-neg_ℤ (eval ρ b)
