-- `BrundhalNumber::from` of a number meets its contract: the words of its value are its own. Assumes nothing.
use native.Mathlib.Omega.{arith}
use Rattle.brundhal_number_answers.proofs.Parts.{own_words}
use Rattle.brundhal_number_answers.proofs.BrundhalNumberFromWide.from.Goals as goal

pub returns : goal.returns
returns c = own_words c.args.x.low c.args.x.high (record { low_word_fits = omega arith; high_word_fits = omega arith })
