-- The promises of specs/Promises.antt. Assumes nothing.
use Rattle.rack.proofs.Lists.{in_get_or}
use Rattle.text.specs.Decimals.{decimal}
use Rattle.text.specs.Promises.{DecimalValue, DecimalFirst, DecimalDigits}
use Rattle.text.proofs.Digits.{digits_value, digits_first, digits_codes}

pub decimal_value : DecimalValue
unfolding DecimalValue decimal
decimal_value v h = digits_value 10 v h

pub decimal_first : DecimalFirst
unfolding DecimalFirst decimal
decimal_first v s h = digits_first 10 v s h

pub decimal_digits : DecimalDigits
unfolding DecimalDigits decimal
decimal_digits v i h = digits_codes 10 v _ (in_get_or (decimal v) i 0 h)
