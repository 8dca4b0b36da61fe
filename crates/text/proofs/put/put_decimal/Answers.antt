-- Ten digits. Assumes nothing.
use Rattle.text.specs.Decimals.{decimal}
use Rattle.text.proofs.put.put_decimal.Goals as goal

pub put_digits-requires : goal.put_digits-requires
unfolding decimal
put_digits-requires c = c.requires

pub returns : goal.returns
unfolding decimal
returns c = c.put_digits.ensures
