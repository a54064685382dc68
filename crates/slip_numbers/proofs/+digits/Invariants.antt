-- What falls at each call of `digits`: the number itself.
use Rattle.slip_numbers.proofs.+digits.Given as goal

abbrev pub decreases-digits : goal.decreases-digits
decreases-digits l = l.x
