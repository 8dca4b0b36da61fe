-- No digit is left; or the higher ones, if there are any, and then the last. Assumes nothing.
use native.Mathlib.Omega.{arith}
use Rattle.rack.proofs.Putting.{grows_none, grows_then, grows_as}
use Rattle.text.proofs.Digits.{digits_none, length_last, length_more, digits_only, digits_and_last}
use Rattle.text.proofs.put.+put_digits.Goals as goal
use Rattle.text.proofs.put.+put_digits.Goals.{then-v-ge10, else-v-ge10}

pub returns-then-left-eq0 : goal.returns-then-left-eq0
returns-then-left-eq0 t c = rw (digits_none c.args.left c.args.v c.if-left-eq0.true) (grows_none c.args.text.now)

pub put_digits-requires : goal.put_digits-requires
put_digits-requires t c = (omega arith, omega (arith, length_more c.args.left c.args.v c.if-left-eq0.false c.if-v-ge10.true))

pub put_byte-requires : goal.put_byte-requires
put_byte-requires t c =
    let a = c.args in
    let z = c.if-left-eq0.false in
    elim c.if-v-ge10.branch [
      | then-v-ge10 w ↦ rw w.text-is
          (omega (arith, w.put_digits.ensures.puts.place, w.put_digits.ensures.room, length_more a.left a.v z w.if-v-ge10.true))
      | else-v-ge10 w ↦ rw w.text-is (omega (arith, length_last a.left a.v z w.if-v-ge10.false))
    ]

pub returns : goal.returns
returns t c =
    let a = c.args in
    let z = c.if-left-eq0.false in
    elim c.if-v-ge10.branch [
      | then-v-ge10 w ↦ grows_as (digits_and_last a.left a.v _ z w.if-v-ge10.true c.digit.ensures) (grows_then (rw w.text-is w.put_digits.ensures) c.put_byte.ensures)
      | else-v-ge10 w ↦ grows_as (digits_only a.left a.v _ z w.if-v-ge10.false c.digit.ensures) (rw w.text-is at c.put_byte.ensures)
    ]
