-- `digits` meets its contract: one digit, or those of a tenth and one more. Assumes nothing.
use Rattle.std.proofs.Common.{sym, ap, ◌≡◌, ◌∙◌, arith, List, [], ◌∷◌, ℕ, ◌+◌, ◌/◌, ◌%◌, ◌≤◌, length, length-append}
use Rattle.foundation.specs.Laid.{put, put_one, put_put, length_put}
use Rattle.slip_format.specs.Decimal.{decimal}
use Rattle.slip_format.proofs.DecimalLaws.{decimal_one, decimal_more}
use Rattle.slip_numbers.proofs.+digits.Goals as goal

-- the digits of a tenth are one fewer
tens : (x : ℕ) → 10 ≤ x → length (decimal x) ≡ length (decimal (x / 10)) + 1
tens x h = ap length (decimal_more x h) ∙ length-append (decimal (x / 10)) ((48 + x % 10) ∷ [])

pub bounds-space-at : goal.bounds-space-at
bounds-space-at t c = let e = ap length (decimal_one c.args.x c.if-x-lt10.true) in omega (arith, e, c.requires)

pub returns-then-x-lt10 : goal.returns-then-x-lt10
returns-then-x-lt10 t c =
    let one = decimal_one c.args.x c.if-x-lt10.true in let e = ap length one in
    (omega (arith, e), put_one c.args.at (48 + c.args.x) c.args.space.now (omega (arith, e, c.requires)) ∙ ap (λ (l : List ℕ). put c.args.at l c.args.space.now) (sym one))

pub digits-next-requires : goal.digits-next-requires
digits-next-requires t c = let e = tens c.args.x (omega (arith, c.if-x-lt10.false)) in (omega (arith, c.decreases, c.if-x-lt10.false), omega (arith, e, c.requires))

-- the space behind the digits of a tenth is as long as it was
same : (at x : ℕ) (space now : List ℕ) → 10 ≤ x → at + length (decimal x) ≤ length space → now ≡ put at (decimal (x / 10)) space → length now ≡ length space
same at x space now h room e = ap length e ∙ length_put at (decimal (x / 10)) space (omega (arith, tens x h, room))

pub bounds-space-next : goal.bounds-space-next
bounds-space-next t c =
    let more : 10 ≤ c.args.x = omega (arith, c.if-x-lt10.false) in
    omega (arith, c.digits-next.ensures.0, tens c.args.x more, c.requires, same c.args.at c.args.x c.args.space.now c.digits-next.new.space more c.requires c.digits-next.ensures.1)

pub returns : goal.returns
returns t c =
    let s = c.args in let n = c.digits-next in
    let more : 10 ≤ s.x = omega (arith, c.if-x-lt10.false) in
    let whole = tens s.x more in
    let long = same s.at s.x s.space.now n.new.space more c.requires n.ensures.1 in
    let last : List ℕ = (48 + s.x % 10) ∷ [] in (
      omega (arith, n.ensures.0, whole),
      put_one n.result (48 + s.x % 10) n.new.space (omega (arith, n.ensures.0, whole, c.requires, long))
          ∙ (λ i. put (n.ensures.0 i) last (n.ensures.1 i))
          ∙ put_put s.at (decimal (s.x / 10)) last s.space.now (omega (arith, c.requires))
          ∙ ap (λ (l : List ℕ). put s.at l s.space.now) (sym (decimal_more s.x more)),
    )
