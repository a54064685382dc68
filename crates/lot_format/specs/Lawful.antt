-- What a lot that is handed out keeps to: document 01's limits and document 02's numbers of 32 bits. Each entry that is taken keeps to them.
use Rattle.std.specs.Prelude.{◌≡◌, refl, Bool, true, false, ◌&&◌, List, [], ◌∷◌, ◌++◌, ℕ, ◌/◌, ◌%◌, ◌^◌, ◌<◌, ◌≤◌, T, ltb, leb, length, ℤ}
use Rattle.std.proofs.Common.{sym, subst, arith, leb→le, length-append, ltb-true, leb-true, le-leb}
use Rattle.std.proofs.Math.Option.{Option, none, some}
use Rattle.std.specs.Float.Ieee.Fits.{and_l, and_r}
use Rattle.std.specs.Int.Signed.{mag}
use Rattle.foundation.specs.Lists.{All, all_append, append_nil}
use Rattle.lot_format.specs.Numbers.{Byte, unsigneds, signeds}
use Rattle.lot_format.specs.Format.{FileLimits, Group, Lot, Mark, LB, ND, HX, GR, EN, right_length, name_bytes}
use Rattle.lot_format.specs.Runs.{offsets_of}
use Rattle.lot_format.specs.Reading.{Unreadable, name_fault, body_fault, taken, no_lot}
use Rattle.lot_format.specs.Groups.{rising}
use Rattle.lot_format.specs.Joined.{joined_none, offsets_append}
use Rattle.lot_format.specs.NumberLaws.{unsigneds_small, signeds_small}

pub record LawfulName (F : FileLimits) (name : List ℕ) : Type 0 where
  pub short : length name ≤ F.name
  pub named : name_bytes name ≡ true

pub record LawfulNodes (nodes : List ℤ) : Type 0 where
  pub threes : length nodes % 3 ≡ 0
  pub signed32 : All (λ z. mag z < 2 ^ 31) nodes

pub record LawfulElements (F : FileLimits) (elements : List ℕ) : Type 0 where
  pub eights : length elements % 8 ≡ 0
  pub few : length elements / 8 ≤ F.elements
  pub unsigned32 : All (λ x. x < 2 ^ 32) elements

-- n elements in all
pub record LawfulGroups (F : FileLimits) (n : ℕ) (groups : List Group) : Type 0 where
  pub names : All (λ (g : Group). LawfulName F g.name) groups
  pub rises : rising 0 n (offsets_of groups) ≡ true

pub record Lawful (F : FileLimits) (lot : Lot) : Type 0 where
  pub label : LawfulName F lot.label
  pub nodes : LawfulNodes lot.nodes
  pub elements : LawfulElements F lot.elements
  pub groups : LawfulGroups F (length lot.elements / 8) lot.groups

pub lawful_no_lot : (F : FileLimits) → Lawful F no_lot
lawful_no_lot F = record {
  label = record { short = omega arith; named = refl };
  nodes = record { threes = refl; signed32 = tt };
  elements = record { eights = refl; few = omega arith; unsigned32 = tt };
  groups = record { names = tt; rises = refl };
}

-- ---- counts that rise
T_true : (b : Bool) → T b → b ≡ true
T_true true t = refl
T_true false t = absurd t

module _ (low high b : ℕ) (bs : List ℕ) (h : rising low high (b ∷ bs) ≡ true) where
  rising_tests : T (leb low b && (leb b high && rising b high bs))
  rising_tests = subst T (sym h) tt

  pub rising_low : low ≤ b
  rising_low = leb→le low b (and_l (leb low b) (leb b high && rising b high bs) rising_tests)

  pub rising_high : b ≤ high
  rising_high = leb→le b high (and_l (leb b high) (rising b high bs) (and_r (leb low b) (leb b high && rising b high bs) rising_tests))

  pub rising_rest : rising b high bs ≡ true
  rising_rest = T_true (rising b high bs) (and_r (leb b high) (rising b high bs) (and_r (leb low b) (leb b high && rising b high bs) rising_tests))

pub rising_cons : (low high b : ℕ) (bs : List ℕ) → low ≤ b → b ≤ high → rising b high bs ≡ true → rising low high (b ∷ bs) ≡ true
rising_cons low high b bs l h r = rw (le-leb low b l, le-leb b high h, r)

pub rising_more : {n m : ℕ} (low : ℕ) (bs : List ℕ) → n ≤ m → rising low n bs ≡ true → rising low m bs ≡ true
rising_more low [] l h = refl
rising_more {n} {m} low (b ∷ bs) l h = let high : b ≤ n = rising_high low n b bs h in rising_cons low m b bs (rising_low low n b bs h) (omega arith) (rising_more b bs l (rising_rest low n b bs h))

pub rising_last : {n : ℕ} (low : ℕ) (bs : List ℕ) → low ≤ n → rising low n bs ≡ true → rising low n (bs ++ (n ∷ [])) ≡ true
rising_last {n} low [] l h = rising_cons low n n [] l (omega arith) refl
rising_last {n} low (b ∷ bs) l h = let high = rising_high low n b bs h in rising_cons low n b (bs ++ (n ∷ [])) (rising_low low n b bs h) high (rising_last b bs high (rising_rest low n b bs h))

-- ---- one entry more
faultless : (t : Bool) (r : Unreadable) → ◌≡◌ {A = Option Unreadable} (elim t [ true ↦ none | false ↦ some r ]) none → t ≡ true
faultless true r e = refl
faultless false r e = cc

module _ (F : FileLimits) (body : List ℕ) where
  lawful_name : leb (length body) F.name ≡ true → name_fault body ≡ none → LawfulName F body
  lawful_name right clear = record { short = leb-true _ _ right; named = faultless (name_bytes body) _ clear }

  lawful_nodes : (zs : List ℤ) → All Byte body → LawfulNodes zs → LawfulNodes (zs ++ signeds 3 body)
  lawful_nodes zs h l = record {
    threes = simp length-append (omega arith);
    signed32 = all_append (λ z. mag z < 2 ^ 31) zs (signeds 3 body) l.signed32 (signeds_small 3 body h);
  }

  lawful_elements : (xs : List ℕ) → All Byte body → body_fault F HX (length xs / 8) body ≡ none → LawfulElements F xs → LawfulElements F (xs ++ unsigneds 8 body)
  lawful_elements xs h clear l = let room : length xs / 8 < F.elements = ltb-true _ _ (faultless (ltb (length xs / 8) F.elements) _ clear) in record {
    eights = simp length-append (omega arith);
    few = simp length-append (omega arith);
    unsigned32 = all_append (λ x. x < 2 ^ 32) xs (unsigneds 8 body) l.unsigned32 (unsigneds_small 8 body h);
  }

  lawful_groups : (n : ℕ) (gs : List Group) → LawfulName F body → LawfulGroups F n gs → LawfulGroups F n (gs ++ (record { name = body; offset = n } ∷ []))
  lawful_groups n gs name l = record {
    names = all_append (λ (g : Group). LawfulName F g.name) gs _ l.names (name, tt);
    rises = subst (λ (bs : List ℕ). rising 0 n bs ≡ true) (sym (offsets_append gs (record { name = body; offset = n } ∷ []))) (rising_last 0 (offsets_of gs) (omega arith) l.rises);
  }

  -- groups stay lawful as elements come behind
  more_groups : (xs : List ℕ) (gs : List Group) → LawfulGroups F (length xs / 8) gs → LawfulGroups F (length (xs ++ unsigneds 8 body) / 8) gs
  more_groups xs gs l = let more : length xs / 8 ≤ length (xs ++ unsigneds 8 body) / 8 = simp length-append (omega arith) in record { names = l.names; rises = rising_more 0 (offsets_of gs) more l.rises }

  -- the label comes first
  pub lawful_taken : (m : Mark) (lot : Lot) → All Byte body → right_length F m (length body) ≡ true → body_fault F m (length lot.elements / 8) body ≡ none → (m ≡ LB → lot.label ≡ []) → Lawful F lot → Lawful F (taken m body lot)
  lawful_taken LB lot h right clear first l =
      rw (first refl, append_nil lot.nodes, append_nil lot.elements, append_nil lot.groups) (record { label = lawful_name right clear; nodes = l.nodes; elements = l.elements; groups = l.groups })
  lawful_taken ND lot h right clear first l =
      rw (append_nil lot.label, append_nil lot.elements, append_nil lot.groups) (record { label = l.label; nodes = lawful_nodes lot.nodes h l.nodes; elements = l.elements; groups = l.groups })
  lawful_taken HX lot h right clear first l =
      rw (append_nil lot.label, append_nil lot.nodes, append_nil lot.groups) (record { label = l.label; nodes = l.nodes; elements = lawful_elements lot.elements h clear l.elements; groups = more_groups lot.elements lot.groups l.groups })
  lawful_taken GR lot h right clear first l =
      rw (append_nil lot.label, append_nil lot.nodes, append_nil lot.elements) (record { label = l.label; nodes = l.nodes; elements = l.elements; groups = lawful_groups (length lot.elements / 8) lot.groups (lawful_name right clear) l.groups })
  lawful_taken EN lot h right clear first l = subst (Lawful F) (sym (joined_none lot)) l
